-- How the items of results are spelled (RFC 5662). What is put together is named in the order of its bytes.
use Rattle.std.specs.{Prelude.{ℕ, ◌==◌, List, [], ◌∷◌, Bool, true, not, is_some, Some, None, if◌then◌else◌}, Int.{w32, from_be_bytes}, List.list_all}
use Rattle.nfs_xdr.specs.Spelling as spelling
use Rattle.nfs_xdr.specs.{Reading.{◌>>=◌, number_at}, StatusCodec.status_of, Limits.opaque_limit}
use Rattle.nfs_xdr.specs.{Codec.{Codec, number, hyper, flag, opaque, unbounded, ◌then◌, as_type, only, pieces}, Combinators.{fixed, few}}
use Rattle.nfs_compound.specs.{Stateid.stateid, StateOwner.state_owner, ChannelAttrs.channel_attrs, ArgCodecs.{lock_type, stable_how}}
use Rattle.nfs_results.specs.{declared.res.AccessOk.AccessOk, declared.res.ChangeInfo.ChangeInfo, declared.res.RenameOk.RenameOk, declared.res.WriteOk.WriteOk}
use Rattle.nfs_results.specs.{declared.res.CreateSessionOk.CreateSessionOk, declared.res.SequenceOk.SequenceOk, declared.res.CreateOk.CreateOk}
use Rattle.nfs_results.specs.{declared.res.Fattr.Fattr, declared.res.Denied.Denied, declared.res.OpenOk.OpenOk, declared.res.ReadOk.ReadOk}
use Rattle.nfs_results.specs.{declared.res.Entry.Entry, declared.res.ExchangeIdOk.ExchangeIdOk}

-- a number that is always the same
abbrev pub always : ℕ → Codec (Unit {0})
always k = record { spell = λ _. spelling.number k; Fits = λ _. Unit {0}; read = λ bytes. number_at bytes >>= λ n. if n.0 == k then Some (tt, n.1) else None }

-- a word that is not zero
abbrev pub last_word : Codec ℕ
last_word = only (λ word. not (word == 0)) number

-- bitmap4 of attributes below 96, in which no word at the end is zero
abbrev pub is_trimmed : List ℕ → Bool
is_trimmed [] = true
is_trimmed (word ∷ []) = not (word == 0)
is_trimmed (word ∷ next ∷ words) = is_trimmed (next ∷ words)

unfoldable pub attr_set : Codec (List ℕ)
attr_set = only is_trimmed (few 3 number)

-- fattr4
unfoldable pub fattr : Codec Fattr
fattr = as_type (λ (attrmask, attr_vals). record { attrmask = attrmask; attr_vals = attr_vals }) (λ f. (f.attrmask, f.attr_vals)) (attr_set then unbounded)

-- change_info4
unfoldable pub change_info : Codec ChangeInfo
change_info = as_type (λ (atomic, (before, after)). record { atomic = atomic; before = before; after = after })
    (λ c. (c.atomic, (c.before, c.after))) (flag then hyper then hyper)

unfoldable pub access : Codec AccessOk
access = as_type (λ (supported, access). record { supported = supported; access = access }) (λ a. (a.supported, a.access)) (number then number)

unfoldable pub create : Codec CreateOk
create = as_type (λ (cinfo, attrset). record { cinfo = cinfo; attrset = attrset }) (λ c. (c.cinfo, c.attrset)) (change_info then attr_set)

unfoldable pub denied : Codec Denied
denied = as_type (λ (offset, (size, (locktype, owner))). record { offset = offset; length = size; locktype = locktype; owner = owner })
    (λ d. (d.offset, (d.length, (d.locktype, d.owner))))
    (hyper then hyper then lock_type then state_owner)

-- The delegation is none.
unfoldable pub open_ok : Codec OpenOk
open_ok = as_type (λ (stateid, (cinfo, (rflags, (attrset, delegation)))). record { stateid = stateid; cinfo = cinfo; rflags = rflags; attrset = attrset })
    (λ o. (o.stateid, (o.cinfo, (o.rflags, (o.attrset, tt)))))
    (stateid then change_info then number then attr_set then always 0)

unfoldable pub read_ok : Codec ReadOk
read_ok = as_type (λ (eof, bytes). record { eof = eof; bytes = bytes }) (λ r. (r.eof, r.bytes)) (flag then unbounded)

unfoldable pub entry : Codec Entry
entry = as_type (λ (cookie, (name, attrs)). record { cookie = cookie; name = name; attrs = attrs })
    (λ e. (e.cookie, (e.name, e.attrs))) (hyper then unbounded then fattr)

unfoldable pub rename : Codec RenameOk
rename = as_type (λ (source_cinfo, target_cinfo). record { source_cinfo = source_cinfo; target_cinfo = target_cinfo })
    (λ r. (r.source_cinfo, r.target_cinfo)) (change_info then change_info)

unfoldable pub write_ok : Codec WriteOk
write_ok = as_type (λ (count, (committed, writeverf)). record { count = count; committed = committed; writeverf = writeverf })
    (λ w. (w.count, (w.committed, w.writeverf))) (number then stable_how then fixed 8)

-- The state protection is none, and no implementation is named.
unfoldable pub exchange_id : Codec ExchangeIdOk
exchange_id = as_type
    (λ (clientid, (sequenceid, (flags, (protection, (minor_id, (major_id, (server_scope, implementations))))))). record {
      clientid = clientid;
      sequenceid = sequenceid;
      flags = flags;
      minor_id = minor_id;
      major_id = major_id;
      server_scope = server_scope;
    })
    (λ r. (r.clientid, (r.sequenceid, (r.flags, (tt, (r.minor_id, (r.major_id, (r.server_scope, tt))))))))
    (hyper then number then number then always 0 then hyper then opaque opaque_limit then opaque opaque_limit then always 0)

unfoldable pub create_session : Codec CreateSessionOk
create_session = as_type
    (λ (sessionid, (sequence, (flags, (fore_chan_attrs, back_chan_attrs)))). record {
      sessionid = sessionid;
      sequence = sequence;
      flags = flags;
      fore_chan_attrs = fore_chan_attrs;
      back_chan_attrs = back_chan_attrs;
    })
    (λ s. (s.sessionid, (s.sequence, (s.flags, (s.fore_chan_attrs, s.back_chan_attrs)))))
    (fixed 16 then number then number then channel_attrs then channel_attrs)

unfoldable pub flavors : Codec (List ℕ)
flavors = pieces 4 (from_be_bytes w32) number

-- what stands behind the session id in SEQUENCE's result
abbrev pub slot : Codec (ℕ × (ℕ × (ℕ × (ℕ × ℕ))))
slot = number then number then number then number then number

abbrev pub slot_of : SequenceOk → ℕ × (ℕ × (ℕ × (ℕ × ℕ)))
slot_of s = (s.sequenceid, (s.slotid, (s.highest_slotid, (s.target_highest_slotid, s.status_flags))))

unfoldable pub sequence : Codec SequenceOk
sequence = as_type
    (λ (sessionid, (sequenceid, (slotid, (highest_slotid, (target_highest_slotid, status_flags))))). record {
      sessionid = sessionid;
      sequenceid = sequenceid;
      slotid = slotid;
      highest_slotid = highest_slotid;
      target_highest_slotid = target_highest_slotid;
      status_flags = status_flags;
    })
    (λ s. (s.sessionid, slot_of s))
    (fixed 16 then slot)

-- the numbers of statuses
abbrev pub are_statuses : List ℕ → Bool
are_statuses codes = list_all (λ n. is_some (status_of n)) codes

unfoldable pub status_codes : Codec (List ℕ)
status_codes = only are_statuses (pieces 4 (from_be_bytes w32) number)
