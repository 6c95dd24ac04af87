-- Wrong steps that the promise of opens refuses, computed.
use Rattle.std.proofs.{Common.{◌≡◌, Bool, true, false, [], ◌∷◌, refl, sym, ◌∙◌, ap, subst, inl, inr}, lemmas.Bool.{true≢false}}
use Rattle.nfs_xdr.specs.Tables.{In}
use Rattle.nfs_compound.specs.declared.{op.{Op.Op, Item.TheVariants.Operation}, open_args.{Open.Open, Close.Close, OpenDowngrade.OpenDowngrade}}
use Rattle.nfs_opens.specs.{declared.share.Share.Share, declared.records.OpenState.OpenState, Share.neither, Table.Table}
use Rattle.nfs_files.specs.OpenTold.{Bits, IsOpenWith}
use Rattle.nfs_promises.specs.{Runs.Points.ops_of, Locks.{LockKeptWorked.last_of, WrongLocks.closes_another, WrongOpens.{reads_too, reading, puts_in_place}}}
use Rattle.nfs_promises.specs.Locks.WrongOpens.{keeps_bits, OpensAreRefused}
use Rattle.nfs_promises.specs.Locks.OpenKeptWorked as worked
use Rattle.nfs_promises.proofs.{Locks.WrongLocks.closes_other, Runs.Computing.computing}

-- the one open that stands there denies what it ought not to, or denies not what it ought to
other_deny : (t : Table) (b : Bits) (o : OpenState) (v w : Bool) → t.opens ≡ o ∷ [] → o.deny.writes ≡ v → b.deny.writes ≡ w → (v ≡ w → ⊥)
    → IsOpenWith worked.its_open b t → ⊥
other_deny t b o v w is have want apart stands =
    let one : stands.state ≡ o = elim (subst (In stands.state) is stands.there) [ inl same ↦ same | inr none ↦ absurd none ] in
    apart (sym have ∙ (ap (λ (o : OpenState). o.deny.writes) (sym one) ∙ (ap (λ (s : Share). s.writes) stands.deny ∙ want)))

none_stands : (t : Table) (b : Bits) → t.opens ≡ [] → IsOpenWith worked.its_open b t → ⊥
none_stands t b none stands = absurd (subst (In stands.state) none stands.there)

no_close : (op : Op) (a : Open) (c : Close) → op ≡ Op.Open a → Operation op ≡ Operation (Op.Close c) → ⊥
no_close op a c is e = cc

not_narrowing : (a : OpenDowngrade) (c : Close) → Operation (Op.OpenDowngrade a) ≡ Operation (Op.Close c) → ⊥
not_narrowing a c e = cc

-- A's open, as it is when B asks
abbrev its : (access deny : Share) → OpenState
its access deny = record { number = 1; client = worked.its_open.client; owner = 0x6f ∷ []; file = 2; seqid = 1; access = access; deny = deny }

pub opens_are_refused : OpensAreRefused
unfolding computing
opens_are_refused = record {
  replaced = λ d is. other_deny (puts_in_place (last_of d (ops_of worked.asked worked.asks))).behind.store.opens _ (its reading neither) false true refl refl refl
      (λ e. true≢false (sym e)) (is.1 (λ closes. no_close (Op.Open reads_too) reads_too closes.asked refl closes.is)).0;
  wide = λ d is. other_deny (keeps_bits (last_of d (ops_of worked.asked worked.asks))).behind.store.opens _
      (its (record { reads = true; writes = true }) (record { reads = false; writes = true })) true false refl refl refl
      (λ e. true≢false e) (is.1 (λ closes. not_narrowing _ closes.asked closes.is)).0;
  closed = λ d is. none_stands (closes_another (last_of d (ops_of worked.asked worked.asks))).behind.store.opens _ refl
      (is.1 (λ closes. closes_other (closes_another (last_of d (ops_of worked.asked worked.asks))).context closes.asked closes.id closes.is closes.means closes.opened)).0;
  granted = λ d is. is.refused 3 (record { asked = record reads_too { share_access = 2 }; is = refl; names = refl; leads = refl }) refl;
}
