-- Each result is its text: its operation's number, its status, the bytes behind them, and what has to fit.
use Rattle.std.proofs.Common.{◌≡◌, ℕ, eqb, inl, inr, ◌<◌, ◌^◌, List, [], ◌∷◌, ◌++◌, Option, Some, None, Bool, true, false, not, refl, sym, ap, ◌∙◌, arith, append_assoc}
use Rattle.std.proofs.lemmas.Bool.{false≢true, and_parts, cases_Bool, eqb-true}
use Rattle.std.specs.{Prelude.{IsTrue, ◌≢◌, is_some}, List.AllByRecursion}
use Rattle.nfs_xdr.specs.{Spelling.{hyper, flag}, Codec.Codec, Chain.{chain, spell_chain}, Status.status_number, StatusCodec.{statuses, status_of}}
use Rattle.nfs_xdr.specs.{declared.status.Status.Status, declared.status.Status.TheVariants.{Nfs4Ok, Denied, OpIllegal}}
use Rattle.nfs_xdr.specs.Text.{Text, ◌then◌, void, uint32, bool, enum, fixed, opaque, array, most}
use Rattle.nfs_xdr.specs.Spelling as spelling
use Rattle.nfs_xdr.specs.Codec as codec
use Rattle.nfs_xdr.specs.Combinators as combinators
use Rattle.nfs_xdr.proofs.{StatusLaws.is_status_listing, WordLaws.listed_number, TextLaws.{Spells, all_fit, arrays, numbers}}
use Rattle.nfs_compound.specs.{declared.op_num.OpNum.OpNum, OpNum.op_number, Stateid.stateid, StateOwner.state_owner, ArgCodecs.{lock_type, stable_how}}
use Rattle.nfs_compound.specs.{Enums.stable_how_number, Wire.channel_attrs4}
use Rattle.nfs_compound.specs.declared.op_num.OpNum.TheVariants as Num
use Rattle.nfs_compound.proofs.WireLaws.{owners, ids, channels}
use Rattle.nfs_results.specs.Items as item
use Rattle.nfs_results.specs.{Listing.read_dir, Items.{is_trimmed, are_statuses}, declared.res.Entry.Entry, declared.res.Fattr.Fattr, declared.res.Res.Res}
use Rattle.nfs_results.specs.{Parts.{is_legal, parts}, Straight.entry_text, Results.spell_result, ResultCodec.result, CompoundResult.compound_result}
use Rattle.nfs_results.specs.Wire.{nfsstat4, bitmap4, fattr4, change_info4, lock4denied, open4resok, entry4, entries4, exchange_id4resok, Resop, ends, nfs_resop4, result4, compound4res}
use Rattle.nfs_results.proofs.{ResultLaws.same_status, CompoundLaws.same_spelling}

-- The items.

no_last : (front : List ℕ) → is_trimmed (front ++ (0 ∷ [])) ≡ false
no_last [] = refl
no_last (word ∷ []) = refl
no_last (word ∷ next ∷ front) = no_last (next ∷ front)

trims : (words : List ℕ) → IsTrue (is_trimmed words) → (front : List ℕ) → words ≢ front ++ (0 ∷ [])
trims words is front e = false≢true (sym (no_last front) ∙ ap is_trimmed (sym e) ∙ is)

trimmed : (words : List ℕ) → ((front : List ℕ) → words ≢ front ++ (0 ∷ [])) → IsTrue (is_trimmed words)
trimmed [] none = refl
trimmed (word ∷ []) none = elim (cases_Bool (eqb word 0)) [
  | inl is ↦ absurd (none [] (ap (λ (w : ℕ). w ∷ []) (eqb-true word 0 is)))
  | inr other ↦ rw other refl
]
trimmed (word ∷ next ∷ words) none = trimmed (next ∷ words) (λ front e. none (word ∷ front) (ap (λ (w : List ℕ). word ∷ w) e))

sets : Spells item.attr_set bitmap4
unfolding item.attr_set
sets = record { same = λ words. refl; to = λ words (is, few). (few, trims words is); from = λ words (few, none). (trimmed words none, few) }

attrs : Spells item.fattr fattr4
unfolding item.fattr item.attr_set
attrs = record {
  same = λ f. refl;
  to = λ f (e, (mask, values)). (sets.to f.attrmask mask, values);
  from = λ f (mask, values). (refl, (sets.from f.attrmask mask, values));
}

changes : Spells item.change_info change_info4
unfolding item.change_info
changes = record { same = λ c. refl; to = λ c (e, fits). fits; from = λ c fits. (refl, fits) }

accesses : Spells item.access (λ a. uint32 a.supported then uint32 a.access)
unfolding item.access
accesses = record { same = λ a. refl; to = λ a (e, fits). fits; from = λ a fits. (refl, fits) }

creates : Spells item.create (λ c. change_info4 c.cinfo then bitmap4 c.attrset)
unfolding item.create item.change_info item.attr_set
creates = record {
  same = λ c. refl;
  to = λ c (e, (change, set)). (changes.to c.cinfo change, sets.to c.attrset set);
  from = λ c (change, set). (refl, (changes.from c.cinfo change, sets.from c.attrset set));
}

denials : Spells item.denied lock4denied
unfolding item.denied state_owner lock_type
denials = record {
  same = λ d. refl;
  to = λ d (e, (offset, (extent, (kind, owner)))). (offset, (extent, (kind, owners.to d.owner owner)));
  from = λ d (offset, (extent, (kind, owner))). (refl, (offset, (extent, (kind, owners.from d.owner owner))));
}

opens : Spells item.open_ok open4resok
unfolding item.open_ok item.change_info item.attr_set stateid
opens = record {
  same = λ o. refl;
  to = λ o (e, (held, (change, (flags, (set, none))))). (ids.to o.stateid held, (changes.to o.cinfo change, (flags, (sets.to o.attrset set, tt))));
  from = λ o (held, (change, (flags, (set, none)))). (refl, (ids.from o.stateid held, (changes.from o.cinfo change, (flags, (sets.from o.attrset set, tt)))));
}

reads : Spells item.read_ok (λ r. bool r.eof then opaque most r.bytes)
unfolding item.read_ok
reads = record { same = λ r. refl; to = λ r (e, fits). fits; from = λ r fits. (refl, fits) }

entries : Spells item.entry entry4
unfolding item.entry item.fattr item.attr_set
entries = record {
  same = λ e. refl;
  to = λ e (u, (cookie, (name, values))). (cookie, (name, attrs.to e.attrs values));
  from = λ e (cookie, (name, values)). (refl, (cookie, (name, attrs.from e.attrs values)));
}

chains : Spells (chain item.entry) entries4
chains = record { same = same; to = to; from = from }
  where
    same : (es : List Entry) → spell_chain item.entry.spell es ≡ (entries4 es).bytes
    same [] = refl
    same (e ∷ es) = rw (entries.same e, same es) refl

    to : (es : List Entry) → AllByRecursion item.entry.Fits es → (entries4 es).Fits
    to [] fits = tt
    to (e ∷ es) (one, others) = (tt, (entries.to e one, to es others))

    from : (es : List Entry) → (entries4 es).Fits → AllByRecursion item.entry.Fits es
    from [] fits = tt
    from (e ∷ es) (u, (one, others)) = (entries.from e one, from es others)

listings : Spells read_dir (λ r. fixed 8 r.cookieverf then entries4 r.entries then bool r.eof)
unfolding read_dir
listings = record {
  same = λ r. rw (chains.same r.entries) refl;
  to = λ r (e, (verf, (listed, eof))). (verf, (chains.to r.entries listed, eof));
  from = λ r (verf, (listed, eof)). (refl, (verf, (chains.from r.entries listed, eof)));
}

moves : Spells item.rename (λ r. change_info4 r.source_cinfo then change_info4 r.target_cinfo)
unfolding item.rename item.change_info
moves = record {
  same = λ r. refl;
  to = λ r (e, (source, target)). (changes.to r.source_cinfo source, changes.to r.target_cinfo target);
  from = λ r (source, target). (refl, (changes.from r.source_cinfo source, changes.from r.target_cinfo target));
}

writes : Spells item.write_ok (λ w. uint32 w.count then enum (stable_how_number w.committed) then fixed 8 w.writeverf)
unfolding item.write_ok stable_how
writes = record { same = λ w. refl; to = λ w (e, fits). fits; from = λ w fits. (refl, fits) }

grants : Spells item.exchange_id exchange_id4resok
unfolding item.exchange_id
grants = record { same = λ r. refl; to = λ r (e, fits). fits; from = λ r fits. (refl, fits) }

sessions : Spells item.create_session
    (λ s. fixed 16 s.sessionid then uint32 s.sequence then uint32 s.flags then channel_attrs4 s.fore_chan_attrs then channel_attrs4 s.back_chan_attrs)
unfolding item.create_session
sessions = record {
  same = λ s. rw (channels.same s.fore_chan_attrs, channels.same s.back_chan_attrs) refl;
  to = λ s (e, (id, (seq, (flags, (fore, back))))). (id, (seq, (flags, (channels.to s.fore_chan_attrs fore, channels.to s.back_chan_attrs back))));
  from = λ s (id, (seq, (flags, (fore, back)))).
      (refl, (id, (seq, (flags, (channels.from s.fore_chan_attrs fore, channels.from s.back_chan_attrs back)))));
}

flavors : Spells item.flavors (array most uint32)
unfolding item.flavors
flavors = let is = arrays codec.number uint32 numbers in record { same = is.same; to = is.to; from = is.from }

sequences : Spells item.sequence (λ s. fixed 16 s.sessionid then uint32 s.sequenceid then uint32 s.slotid then uint32 s.highest_slotid
    then uint32 s.target_highest_slotid then uint32 s.status_flags)
unfolding item.sequence
sequences = record { same = λ s. refl; to = λ s (e, fits). fits; from = λ s fits. (refl, fits) }

named : (n : ℕ) (found : Option Status) → status_of n ≡ found → IsTrue (is_some found) → (nfsstat4 n).Fits
named n None e is = absurd (false≢true is)
named n (Some s) e is = (tt, (s, listed_number status_number statuses n s e))

are_named : (ns : List ℕ) → IsTrue (are_statuses ns) → AllByRecursion (λ n. (nfsstat4 n).Fits) ns
are_named [] are = tt
are_named (n ∷ ns) are = let p = and_parts (is_some (status_of n)) (are_statuses ns) are in (named n (status_of n) refl p.0, are_named ns p.1)

are_all : (ns : List ℕ) → AllByRecursion (λ n. (nfsstat4 n).Fits) ns → IsTrue (are_statuses ns)
are_all [] all = refl
are_all (n ∷ ns) ((u, (s, is)), all) = rw (is, is_status_listing.found s) (are_all ns all)

is_small : (n : ℕ) → (nfsstat4 n).Fits → n < 2 ^ 32
is_small n (u, (s, is)) = omega (arith, is, is_status_listing.small s)

codes : Spells item.status_codes (array most nfsstat4)
unfolding item.status_codes
codes = record {
  same = λ ns. refl;
  to = λ ns (are, (count, all)). (omega (arith, count), are_named ns are);
  from = λ ns (count, all). (are_all ns all, (omega (arith, count), all_fit (λ n. (nfsstat4 n).Fits) codec.number.Fits is_small ns all));
}

-- The results.

-- what a line of the table has is what the text has
pub record Says (operation : ℕ) (status : Status) (behind : List ℕ) (Fits : Type 0) (text : Resop) : Type 0 where
  pub operation_is : operation ≡ text.operation
  pub status_is : status ≡ text.status
  pub behind_is : behind ≡ text.behind.bytes
  pub to : Fits → text.behind.Fits
  pub from : text.behind.Fits → Fits

told : {A : Type 0} (op : OpNum) (s : Status) (c : Codec A) (text : A → Text) → Spells c text → (x : A)
    → Says (op_number op) s (c.spell x) (c.Fits x) (ends (op_number op) s (text x))
told op s c text is x = record { operation_is = refl; status_is = refl; behind_is = is.same x; to = is.to x; from = is.from x }

done : {A : Type 0} (op : OpNum) (c : Codec A) (text : A → Text) → Spells c text → (x : A)
    → Says (op_number op) Nfs4Ok (c.spell x) (c.Fits x) (ends (op_number op) Nfs4Ok (text x))
done op c text is x = told op Nfs4Ok c text is x

alone : (op : OpNum) → Says (op_number op) Nfs4Ok [] (Unit {0}) (ends (op_number op) Nfs4Ok void)
alone op = record { operation_is = refl; status_is = refl; behind_is = refl; to = λ u. u; from = λ u. u }

legal_is : (s : Status) → IsTrue (is_legal s) → s ≢ OpIllegal
legal_is s legal e = false≢true (sym (ap is_legal e) ∙ legal)

is_legal_by : (s : Status) (b : Bool) → is_legal s ≡ b → s ≢ OpIllegal → IsTrue (is_legal s)
is_legal_by s true e other = e
is_legal_by s false e other = absurd (other (same_status s OpIllegal (eqb-true (status_number s) 10044 (not_false (eqb (status_number s) 10044) e))))
  where
    not_false : (b : Bool) → not b ≡ false → b ≡ true
    not_false true h = refl
    not_false false h = absurd (false≢true (sym h))

verifiers : (n : ℕ) → Spells (combinators.fixed n) (fixed n)
verifiers n = record { same = λ x. refl; to = λ x fits. fits; from = λ x fits. fits }

texts : (limit : ℕ) → Spells (codec.opaque limit) (opaque limit)
texts limit = record { same = λ x. refl; to = λ x fits. fits; from = λ x fits. fits }

pub says : (r : Res) → Says (parts r).operation (parts r).status (parts r).behind (parts r).Fits (nfs_resop4 r)
says (Res.Access a) = done Num.Access item.access _ accesses a
says (Res.Close s) = done Num.Close stateid _ ids s
says (Res.Commit verifier) = done Num.Commit (combinators.fixed 8) _ (verifiers 8) verifier
says (Res.Create c) = done Num.Create item.create _ creates c
says (Res.GetAttr f) = done Num.GetAttr item.fattr _ attrs f
says (Res.GetFh object) = done Num.GetFh (codec.opaque 128) _ (texts 128) object
says (Res.Link c) = done Num.Link item.change_info _ changes c
says (Res.Lock s) = done Num.Lock stateid _ ids s
says (Res.LockDenied d) = told Num.Lock Denied item.denied _ denials d
says Res.LockT = alone Num.LockT
says (Res.LockTDenied d) = told Num.LockT Denied item.denied _ denials d
says (Res.LockU s) = done Num.LockU stateid _ ids s
says Res.Lookup = alone Num.Lookup
says Res.LookupP = alone Num.LookupP
says Res.NVerify = alone Num.NVerify
says (Res.Open o) = done Num.Open item.open_ok _ opens o
says (Res.OpenDowngrade s) = done Num.OpenDowngrade stateid _ ids s
says Res.PutFh = alone Num.PutFh
says Res.PutPubFh = alone Num.PutPubFh
says Res.PutRootFh = alone Num.PutRootFh
says (Res.Read r) = done Num.Read item.read_ok _ reads r
says (Res.ReadDir r) = done Num.ReadDir read_dir _ listings r
says (Res.ReadLink link) = done Num.ReadLink codec.unbounded _ (texts most) link
says (Res.Remove c) = done Num.Remove item.change_info _ changes c
says (Res.Rename r) = done Num.Rename item.rename _ moves r
says Res.RestoreFh = alone Num.RestoreFh
says Res.SaveFh = alone Num.SaveFh
says (Res.SetAttr s attrsset) = record {
  operation_is = refl;
  status_is = refl;
  behind_is = sets.same attrsset;
  to = λ (fits, legal). (sets.to attrsset fits, legal_is s legal);
  from = λ (fits, legal). (sets.from attrsset fits, is_legal_by s (is_legal s) refl legal);
}
says Res.Verify = alone Num.Verify
says (Res.Write w) = done Num.Write item.write_ok _ writes w
says (Res.ExchangeId r) = done Num.ExchangeId item.exchange_id _ grants r
says (Res.CreateSession s) = done Num.CreateSession item.create_session _ sessions s
says Res.DestroySession = alone Num.DestroySession
says Res.FreeStateid = alone Num.FreeStateid
says (Res.SecinfoNoName fs) = done Num.SecinfoNoName item.flavors _ flavors fs
says (Res.Sequence s) = done Num.Sequence item.sequence _ sequences s
says (Res.TestStateid ns) = done Num.TestStateid item.status_codes _ codes ns
says Res.DestroyClientId = alone Num.DestroyClientId
says Res.ReclaimComplete = alone Num.ReclaimComplete
says (Res.Refused operation s) = record { operation_is = refl; status_is = refl; behind_is = refl; to = λ can. (tt, can); from = λ (u, can). can }

-- an entry's parts, as they are put
pub entry_is : (e : Entry) → entry_text e ≡ (bool true then entry4 e).bytes
unfolding item.fattr item.attr_set
entry_is e =
    let attributes : List ℕ = (fattr4 e.attrs).bytes in
    append_assoc (flag true) (hyper e.cookie ++ spelling.opaque e.name) attributes
    ∙ ap (λ (w : List ℕ). flag true ++ w) (append_assoc (hyper e.cookie) (spelling.opaque e.name) attributes)

-- a result, and a compound's result
pub results : Spells result result4
results = record { same = same; to = λ r fits. (tt, (tt, (says r).to fits)); from = λ r (u, (v, fits)). (says r).from fits }
  where
    same : (r : Res) → spell_result r ≡ (result4 r).bytes
    same r =
        let s = says r in
        append_assoc (spelling.number (parts r).operation) (spelling.number (status_number (parts r).status)) (parts r).behind
        ∙ ap (λ (n : ℕ). spelling.number n ++ (spelling.number (status_number (parts r).status) ++ (parts r).behind)) s.operation_is
        ∙ ap (λ (x : Status). spelling.number (nfs_resop4 r).operation ++ (spelling.number (status_number x) ++ (parts r).behind)) s.status_is
        ∙ ap (λ (w : List ℕ). spelling.number (nfs_resop4 r).operation ++ (spelling.number (status_number (nfs_resop4 r).status) ++ w)) s.behind_is

result_lists : Spells (codec.array result) (array most result4)
result_lists = arrays result result4 results

pub compounds : Spells compound_result compound4res
compounds = record {
  same = λ c. sym (same_spelling c) ∙ ap (λ (w : List ℕ). spelling.number (status_number c.status) ++ (spelling.opaque c.tag ++ w)) (result_lists.same c.results);
  to = λ c (e, (u, (tag, all))). (tt, (tag, result_lists.to c.results all));
  from = λ c (u, (tag, all)). (refl, (tt, (tag, result_lists.from c.results all)));
}

pub attributes_told : (f : Fattr) → item.fattr.spell f ≡ (fattr4 f).bytes
attributes_told = attrs.same
