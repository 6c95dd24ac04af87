-- Each operation is spelled as its text, and fits exactly where the text lets it.
use Rattle.std.proofs.{Common.{◌≡◌, ℕ, ◌<◌, ◌^◌, List, refl, sym, ◌∙◌, arith, ◌⊎◌, inl, inr, eqb}, lemmas.Bool.{cases_Bool, eqb-true}}
use Rattle.std.specs.Prelude.{IsTrue, ◌==◌, ◌||◌}
use Rattle.nfs_xdr.specs.Codec as codec
use Rattle.nfs_xdr.specs.Combinators as combinators
use Rattle.nfs_xdr.specs.{Text.{array, optional, uint32}, Lawful.IsCodec, Time.time}
use Rattle.nfs_xdr.proofs.TextLaws.{Spells, arrays, optionals, numbers, credentials, read_as, is_read}
use Rattle.nfs_compound.specs.{Stateid.{stateid, stateids}, StateOwner.state_owner, ChannelAttrs.channel_attrs}
use Rattle.nfs_compound.specs.ArgCodecs.{bitmap, attributes, gss_handles, all_sec_parms, impl_id, protected, exchange_id_args, create_session_args}
use Rattle.nfs_compound.specs.ArgCodecs.{sequence_args, lock_type, open_to_lock_owner, exist_lock_owner, locker, lock_args, lock_t_args, lock_u_args}
use Rattle.nfs_compound.specs.ArgCodecs.{commit_args, read_args, stable_how, write_args, set_attr_args, spec_data, create_type, create_args, read_dir_args}
use Rattle.nfs_compound.specs.{ArgCodecs.{rename_args, secinfo_style}, Callback.{SecParms, AuthNone, Sys, RpcsecGss}, declared.open_args.CreateHow.CreateHow}
use Rattle.nfs_compound.specs.{declared.open_args.CreateHow.TheVariants.{Unchecked, Guarded, Exclusive, Exclusive41}, declared.open_args.OpenHow.OpenHow}
use Rattle.nfs_compound.specs.declared.open_args.OpenHow.TheVariants.{NoCreate, Create}
use Rattle.nfs_compound.specs.OpenCodecs.{create_how, open_how, open_claim, delegation_type, open_args, open_downgrade_args, close_args}
use Rattle.nfs_compound.specs.declared.open_args.OpenClaim.{OpenClaim}
use Rattle.nfs_compound.specs.declared.open_args.OpenClaim.TheVariants.{Null, Previous, DelegateCur, DelegatePrev, Fh, DelegCurFh, DelegPrevFh}
use Rattle.nfs_compound.specs.{declared.lock_args.Locker.Locker, declared.lock_args.Locker.TheVariants.{OpenOwner, LockOwner}}
use Rattle.nfs_compound.specs.{declared.name_args.CreateType.CreateType, declared.name_args.CreateType.TheVariants.{Block, Character, Symlink, Other}}
use Rattle.nfs_compound.specs.{declared.op.Op.Op, Request.{spell_op, FitsOp}, OpCodec.op_codec}
use Rattle.nfs_compound.specs.Wire.{bitmap4, fattr4, state_owner4, stateid4, createtype4, locker4, createhow4, openflag4}
use Rattle.nfs_compound.specs.Wire.{open_claim4, nfs_impl_id4, channel_attrs4, gss_cb_handles4, callback_sec_parms4, sec_parms, protected4, nfs_argop4}
use Rattle.nfs_compound.specs.ArgCodecs as callback
use Rattle.nfs_compound.proofs.{ArgLaws.is_protected, OpLaws.is_op}

-- Structs and unions.

masks : Spells bitmap bitmap4
unfolding bitmap
masks = let is = arrays codec.number uint32 numbers in record { same = λ x. refl; to = is.to; from = is.from }

attrs : Spells attributes fattr4
unfolding attributes bitmap
attrs = record {
  same = λ a. refl;
  to = λ a (e, (mask, values)). (masks.to a.attrmask mask, values);
  from = λ a (mask, values). (refl, (masks.from a.attrmask mask, values));
}

pub owners : Spells state_owner state_owner4
unfolding state_owner
owners = record { same = λ o. refl; to = λ o (e, fits). fits; from = λ o fits. (refl, fits) }

pub ids : Spells stateid stateid4
unfolding stateid
ids = record { same = λ s. refl; to = λ s (e, fits). fits; from = λ s fits. (refl, fits) }

id_lists : Spells stateids (array 4294967295 stateid4)
unfolding stateids
id_lists = let is = arrays stateid stateid4 ids in record { same = is.same; to = is.to; from = is.from }

types : Spells create_type createtype4
unfolding create_type spec_data
types = record { same = same; to = to; from = from }
  where
    same : (t : CreateType) → create_type.spell t ≡ (createtype4 t).bytes
    same (Block d) = refl
    same (Character d) = refl
    same (Symlink linkdata) = refl
    same (Other t) = refl

    to : (t : CreateType) → create_type.Fits t → (createtype4 t).Fits
    to (Block d) (e, fits) = (tt, fits)
    to (Character d) (e, fits) = (tt, fits)
    to (Symlink linkdata) fits = (tt, fits)
    to (Other t) fits = fits

    from : (t : CreateType) → (createtype4 t).Fits → create_type.Fits t
    from (Block d) (u, fits) = (refl, fits)
    from (Character d) (u, fits) = (refl, fits)
    from (Symlink linkdata) (u, fits) = fits
    from (Other t) fits = fits

lockers : Spells locker locker4
unfolding locker open_to_lock_owner exist_lock_owner state_owner stateid
lockers = record { same = same; to = to; from = from }
  where
    same : (x : Locker) → locker.spell x ≡ (locker4 x).bytes
    same (OpenOwner o) = refl
    same (LockOwner o) = refl

    to : (x : Locker) → locker.Fits x → (locker4 x).Fits
    to (OpenOwner o) (e, (seqid, (held, (lock, owner)))) = (tt, (seqid, (ids.to o.open_stateid held, (lock, owners.to o.lock_owner owner))))
    to (LockOwner o) (e, (held, seqid)) = (tt, (ids.to o.lock_stateid held, seqid))

    from : (x : Locker) → (locker4 x).Fits → locker.Fits x
    from (OpenOwner o) (u, (seqid, (held, (lock, owner)))) = (refl, (seqid, (ids.from o.open_stateid held, (lock, owners.from o.lock_owner owner))))
    from (LockOwner o) (u, (held, seqid)) = (refl, (ids.from o.lock_stateid held, seqid))

hows : Spells create_how createhow4
unfolding create_how attributes bitmap
hows = record { same = same; to = to; from = from }
  where
    same : (x : CreateHow) → create_how.spell x ≡ (createhow4 x).bytes
    same (Unchecked a) = refl
    same (Guarded a) = refl
    same (Exclusive v) = refl
    same (Exclusive41 v a) = refl

    to : (x : CreateHow) → create_how.Fits x → (createhow4 x).Fits
    to (Unchecked a) fits = (tt, attrs.to a fits)
    to (Guarded a) fits = (tt, attrs.to a fits)
    to (Exclusive v) fits = (tt, fits)
    to (Exclusive41 v a) (verifier, fits) = (tt, (verifier, attrs.to a fits))

    from : (x : CreateHow) → (createhow4 x).Fits → create_how.Fits x
    from (Unchecked a) (u, fits) = attrs.from a fits
    from (Guarded a) (u, fits) = attrs.from a fits
    from (Exclusive v) (u, fits) = fits
    from (Exclusive41 v a) (u, (verifier, fits)) = (verifier, attrs.from a fits)

flags : Spells open_how openflag4
unfolding open_how
flags = record { same = same; to = to; from = from }
  where
    same : (x : OpenHow) → open_how.spell x ≡ (openflag4 x).bytes
    same NoCreate = refl
    same (Create how) = rw (hows.same how) refl

    to : (x : OpenHow) → open_how.Fits x → (openflag4 x).Fits
    to NoCreate fits = tt
    to (Create how) fits = (tt, hows.to how fits)

    from : (x : OpenHow) → (openflag4 x).Fits → open_how.Fits x
    from NoCreate fits = tt
    from (Create how) (u, fits) = hows.from how fits

claims : Spells open_claim open_claim4
unfolding open_claim delegation_type stateid
claims = record { same = same; to = to; from = from }
  where
    same : (x : OpenClaim) → open_claim.spell x ≡ (open_claim4 x).bytes
    same (Null file) = refl
    same (Previous t) = refl
    same (DelegateCur s file) = refl
    same (DelegatePrev file) = refl
    same Fh = refl
    same (DelegCurFh s) = refl
    same DelegPrevFh = refl

    to : (x : OpenClaim) → open_claim.Fits x → (open_claim4 x).Fits
    to (Null file) fits = (tt, fits)
    to (Previous t) fits = (tt, tt)
    to (DelegateCur s file) (held, fits) = (tt, (ids.to s held, fits))
    to (DelegatePrev file) fits = (tt, fits)
    to Fh fits = tt
    to (DelegCurFh s) fits = (tt, ids.to s fits)
    to DelegPrevFh fits = tt

    from : (x : OpenClaim) → (open_claim4 x).Fits → open_claim.Fits x
    from (Null file) (u, fits) = fits
    from (Previous t) fits = tt
    from (DelegateCur s file) (u, (held, fits)) = (ids.from s held, fits)
    from (DelegatePrev file) (u, fits) = fits
    from Fh fits = tt
    from (DelegCurFh s) (u, fits) = ids.from s fits
    from DelegPrevFh fits = tt

-- Clients and sessions.

impls : Spells impl_id nfs_impl_id4
unfolding impl_id time
impls = record {
  same = λ i. refl;
  to = λ i (e, (domain, (name, (t, date)))). (domain, (name, date));
  from = λ i (domain, (name, date)). (refl, (domain, (name, (refl, date))));
}

made : Spells (combinators.optional impl_id) (optional nfs_impl_id4)
made = optionals impl_id nfs_impl_id4 impls

irds : Spells (combinators.optional codec.number) (optional uint32)
irds = optionals codec.number uint32 numbers

pub channels : Spells channel_attrs channel_attrs4
unfolding channel_attrs
channels = record {
  same = λ a. rw (irds.same a.rdma_ird) refl;
  to = λ a (e, (f, (g, (h, (i, (j, (k, ird))))))). (f, (g, (h, (i, (j, (k, irds.to a.rdma_ird ird))))));
  from = λ a (f, (g, (h, (i, (j, (k, ird)))))). (refl, (f, (g, (h, (i, (j, (k, irds.from a.rdma_ird ird)))))));
}

handles : Spells gss_handles gss_cb_handles4
unfolding gss_handles
handles = record { same = λ g. refl; to = λ g (e, fits). fits; from = λ g fits. (refl, fits) }

parms : Spells callback.sec_parms callback_sec_parms4
unfolding callback.sec_parms
parms = record { same = same; to = to; from = from }
  where
    same : (x : SecParms) → callback.sec_parms.spell x ≡ (callback_sec_parms4 x).bytes
    same AuthNone = refl
    same (Sys a) = rw (credentials.same a) refl
    same (RpcsecGss g) = rw (handles.same g) refl

    to : (x : SecParms) → callback.sec_parms.Fits x → (callback_sec_parms4 x).Fits
    to AuthNone fits = tt
    to (Sys a) fits = (tt, credentials.to a fits)
    to (RpcsecGss g) fits = (tt, handles.to g fits)

    from : (x : SecParms) → (callback_sec_parms4 x).Fits → callback.sec_parms.Fits x
    from AuthNone fits = tt
    from (Sys a) (u, fits) = credentials.from a fits
    from (RpcsecGss g) (u, fits) = handles.from g fits

parm_lists : Spells (codec.array callback.sec_parms) (array 4294967295 callback_sec_parms4)
parm_lists = arrays callback.sec_parms callback_sec_parms4 parms

all_parms : Spells all_sec_parms sec_parms
all_parms = record {
  same = λ bytes. refl;
  to = λ bytes (xs, e, fits). (xs, e ∙ parm_lists.same xs, parm_lists.to xs fits);
  from = λ bytes (xs, e, fits). (xs, e ∙ sym (parm_lists.same xs), parm_lists.from xs fits);
}

-- The operations.

-- an operation is spelled as its text has it
record IsSpelled (x : Op) : Type 0 where
  same : spell_op x ≡ (nfs_argop4 x).bytes
  to : FitsOp x → (nfs_argop4 x).Fits
  from : (nfs_argop4 x).Fits → FitsOp x

op_spells : (x : Op) → IsSpelled x
unfolding stateid stateids state_owner bitmap attributes exchange_id_args create_session_args sequence_args open_args open_downgrade_args close_args lock_type lock_args lock_t_args lock_u_args commit_args read_args stable_how write_args set_attr_args create_args read_dir_args rename_args secinfo_style
op_spells (Op.Access a) = record { same = refl; to = λ fits. (tt, fits); from = λ (u, fits). fits }
op_spells (Op.Close a) = record {
  same = refl;
  to = λ (e, (seqid, held)). (tt, (seqid, ids.to a.open_stateid held));
  from = λ (u, (seqid, held)). (refl, (seqid, ids.from a.open_stateid held));
}
op_spells (Op.Commit a) = record { same = refl; to = λ (e, fits). (tt, fits); from = λ (u, fits). (refl, fits) }
op_spells (Op.Create a) = record {
  same = rw (types.same a.objtype) refl;
  to = λ (e, (t, (name, values))). (tt, (types.to a.objtype t, (name, attrs.to a.createattrs values)));
  from = λ (u, (t, (name, values))). (refl, (types.from a.objtype t, (name, attrs.from a.createattrs values)));
}
op_spells (Op.GetAttr a) = record { same = refl; to = λ fits. (tt, masks.to a fits); from = λ (u, fits). masks.from a fits }
op_spells Op.GetFh = record { same = refl; to = λ fits. (tt, tt); from = λ fits. refl }
op_spells (Op.Link a) = record { same = refl; to = λ fits. (tt, fits); from = λ (u, fits). fits }
op_spells (Op.Lock a) = record {
  same = rw (lockers.same a.locker) refl;
  to = λ (e, (k, (r, (o, (l, who))))). (tt, (k, (r, (o, (l, lockers.to a.locker who)))));
  from = λ (u, (k, (r, (o, (l, who))))). (refl, (k, (r, (o, (l, lockers.from a.locker who)))));
}
op_spells (Op.LockT a) = record {
  same = refl;
  to = λ (e, (k, (o, (l, owner)))). (tt, (k, (o, (l, owners.to a.owner owner))));
  from = λ (u, (k, (o, (l, owner)))). (refl, (k, (o, (l, owners.from a.owner owner))));
}
op_spells (Op.LockU a) = record {
  same = refl;
  to = λ (e, (k, (seqid, (held, range)))). (tt, (k, (seqid, (ids.to a.lock_stateid held, range))));
  from = λ (u, (k, (seqid, (held, range)))). (refl, (k, (seqid, (ids.from a.lock_stateid held, range))));
}
op_spells (Op.Lookup a) = record { same = refl; to = λ fits. (tt, fits); from = λ (u, fits). fits }
op_spells Op.LookupP = record { same = refl; to = λ fits. (tt, tt); from = λ fits. refl }
op_spells (Op.NVerify a) = record { same = refl; to = λ fits. (tt, attrs.to a fits); from = λ (u, fits). attrs.from a fits }
op_spells (Op.Open a) = record {
  same = rw (flags.same a.openhow, claims.same a.claim) refl;
  to = λ (e, (seqid, (access, (deny, (owner, (how, claim)))))). (tt, (seqid, (access, (deny, (owners.to a.owner owner, (flags.to a.openhow how, claims.to a.claim claim))))));
  from = λ (u, (seqid, (access, (deny, (owner, (how, claim)))))). (refl, (seqid, (access, (deny, (owners.from a.owner owner, (flags.from a.openhow how, claims.from a.claim claim))))));
}
op_spells (Op.OpenDowngrade a) = record {
  same = refl;
  to = λ (e, (held, fits)). (tt, (ids.to a.open_stateid held, fits));
  from = λ (u, (held, fits)). (refl, (ids.from a.open_stateid held, fits));
}
op_spells (Op.PutFh a) = record { same = refl; to = λ fits. (tt, fits); from = λ (u, fits). fits }
op_spells Op.PutPubFh = record { same = refl; to = λ fits. (tt, tt); from = λ fits. refl }
op_spells Op.PutRootFh = record { same = refl; to = λ fits. (tt, tt); from = λ fits. refl }
op_spells (Op.Read a) = record {
  same = refl;
  to = λ (e, (held, fits)). (tt, (ids.to a.stateid held, fits));
  from = λ (u, (held, fits)). (refl, (ids.from a.stateid held, fits));
}
op_spells (Op.ReadDir a) = record {
  same = refl;
  to = λ (e, (cookie, (verf, (dirs, (size, mask))))). (tt, (cookie, (verf, (dirs, (size, masks.to a.attr_request mask)))));
  from = λ (u, (cookie, (verf, (dirs, (size, mask))))). (refl, (cookie, (verf, (dirs, (size, masks.from a.attr_request mask)))));
}
op_spells Op.ReadLink = record { same = refl; to = λ fits. (tt, tt); from = λ fits. refl }
op_spells (Op.Remove a) = record { same = refl; to = λ fits. (tt, fits); from = λ (u, fits). fits }
op_spells (Op.Rename a) = record { same = refl; to = λ (e, fits). (tt, fits); from = λ (u, fits). (refl, fits) }
op_spells Op.RestoreFh = record { same = refl; to = λ fits. (tt, tt); from = λ fits. refl }
op_spells Op.SaveFh = record { same = refl; to = λ fits. (tt, tt); from = λ fits. refl }
op_spells (Op.SetAttr a) = record {
  same = refl;
  to = λ (e, (held, values)). (tt, (ids.to a.stateid held, attrs.to a.obj_attributes values));
  from = λ (u, (held, values)). (refl, (ids.from a.stateid held, attrs.from a.obj_attributes values));
}
op_spells (Op.Verify a) = record { same = refl; to = λ fits. (tt, attrs.to a fits); from = λ (u, fits). attrs.from a fits }
op_spells (Op.Write a) = record {
  same = refl;
  to = λ (e, (held, fits)). (tt, (ids.to a.stateid held, fits));
  from = λ (u, (held, fits)). (refl, (ids.from a.stateid held, fits));
}
op_spells (Op.ExchangeId a) = record {
  same = rw (made.same a.impl_id) refl;
  to = λ (e, (verf, (owner, (f, impl)))). (tt, (verf, (owner, (f, (tt, made.to a.impl_id impl)))));
  from = λ (u, (verf, (owner, (f, (none, impl))))). (refl, (verf, (owner, (f, made.from a.impl_id impl))));
}
op_spells (Op.CreateSession a) = record {
  same = rw (channels.same a.fore_chan_attrs, channels.same a.back_chan_attrs) refl;
  to = λ (e, (client, (seq, (f, (fore, (back, (program, ps))))))). (tt, (client, (seq, (f, (channels.to a.fore_chan_attrs fore, (channels.to a.back_chan_attrs back, (program, all_parms.to a.sec_parms ps)))))));
  from = λ (u, (client, (seq, (f, (fore, (back, (program, ps))))))). (refl, (client, (seq, (f, (channels.from a.fore_chan_attrs fore, (channels.from a.back_chan_attrs back, (program, all_parms.from a.sec_parms ps)))))));
}
op_spells (Op.DestroySession a) = record { same = refl; to = λ fits. (tt, fits); from = λ (u, fits). fits }
op_spells (Op.FreeStateid a) = record { same = refl; to = λ fits. (tt, ids.to a fits); from = λ (u, fits). ids.from a fits }
op_spells (Op.SecinfoNoName a) = record { same = refl; to = λ fits. (tt, tt); from = λ fits. tt }
op_spells (Op.Sequence a) = record { same = refl; to = λ (e, fits). (tt, fits); from = λ (u, fits). (refl, fits) }
op_spells (Op.TestStateid a) = record { same = refl; to = λ fits. (tt, id_lists.to a fits); from = λ (u, fits). id_lists.from a fits }
op_spells (Op.DestroyClientId a) = record { same = refl; to = λ fits. (tt, fits); from = λ (u, fits). fits }
op_spells (Op.ReclaimComplete a) = record { same = refl; to = λ fits. (tt, tt); from = λ fits. tt }

pub ops : Spells op_codec nfs_argop4
ops = record { same = λ x. (op_spells x).same; to = λ x. (op_spells x).to; from = λ x. (op_spells x).from }

pub protections : Spells protected protected4
unfolding protected
protections = record { same = λ x. refl; to = to; from = from }
  where
    how_to : (n : ℕ) → IsTrue (n == 1 || n == 2) → (n ≡ 1) ⊎ (n ≡ 2)
    how_to n is = elim (cases_Bool (eqb n 1)) [
      | inl e ↦ inl (eqb-true n 1 e)
      | inr e ↦ inr (eqb-true n 2 (rw e at is))
    ]

    to : (x : List ℕ × (List ℕ × (ℕ × ℕ))) → protected.Fits x → (protected4 x).Fits
    to (verifier, (ownerid, (flags, how))) (v, (o, (f, (is, fits)))) = (v, (o, (f, how_to how is)))

    how_from : (n : ℕ) → (n ≡ 1) ⊎ (n ≡ 2) → IsTrue (n == 1 || n == 2) × (n < 2 ^ 32)
    how_from n (inl e) = rw e (refl, omega arith)
    how_from n (inr e) = rw e (refl, omega arith)

    from : (x : List ℕ × (List ℕ × (ℕ × ℕ))) → (protected4 x).Fits → protected.Fits x
    from (verifier, (ownerid, (flags, how))) (v, (o, (f, is))) = (v, (o, (f, how_from how is)))

pub is_protected_text : IsCodec (read_as protected4 protected.read)
is_protected_text = is_read protected protected4 protections is_protected

pub is_op_text : IsCodec (read_as nfs_argop4 op_codec.read)
is_op_text = is_read op_codec nfs_argop4 ops is_op
