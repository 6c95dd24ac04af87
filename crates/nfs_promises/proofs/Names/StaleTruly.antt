-- Whatever is answered NFS4ERR_STALE, an object that it looks at is gone: that is the reason of this status.
use Rattle.std.proofs.{Common.{◌≡◌, true, false, Some, refl, sym, ◌∙◌, ap, subst, inl, inr}, lemmas.{Bool.false≢true, Option.same_Some}}
use Rattle.std.specs.Prelude.{ℕ, List}
use Rattle.nfs_xdr.specs.declared.status.Status.TheVariants as S
use Rattle.nfs_compound.specs.declared.op.{Item.TheVariants.Operation, Op.Op}
use Rattle.nfs_attrs.specs.{declared.handle.Handle.Handle, Handle.handle_of}
use Rattle.nfs_names.specs.{declared.context.Saved.Saved, State.is_used}
use Rattle.nfs_exec.specs.Runs.Ops.{RanOp}
use Rattle.nfs_exec.proofs.Runs.OneRun.{IsRun}
use Rattle.nfs_promises.specs.Names.{FileStays.{is_on_current, is_on_saved}, StaleTruly.{IsStaleFor, OfCurrent, OfSaved, OfGiven, StaleIsTrue}}
use Rattle.nfs_promises.specs.Answers.{Asked.{AtCurrent, AtSaved}, Reasons.Reason}
use Rattle.nfs_promises.proofs.{Answers.ReasonOf.reason_of, Locks.OneStateEach.{HasOneEach, each_in}, Runs.LaterRecords.ran_in}

by_reason : (d : RanOp) → Reason d.before.store d.context d.item S.Stale → IsStaleFor d
by_reason d (inl (n, AtCurrent on at, gone)) = OfCurrent n on at gone
by_reason d (inl (n, AtSaved saved on at same, gone)) = OfSaved saved on at (ap (is_used d.before.store) same ∙ gone)
by_reason d (inr put) = OfGiven put.given put.handle put.is put.says put.stale

pub stale_for : (d : RanOp) → IsRun d → HasOneEach d.before.store.opens → (op : Op) → d.item ≡ Operation op → d.status ≡ S.Stale → IsStaleFor d
stale_for d r each op is stale = by_reason d (subst (λ i. Reason d.before.store d.context i S.Stale) (sym is) (reason_of d r each op is S.Stale stale refl refl))

pub stale_is_true : StaleIsTrue
stale_is_true start records c d there = stale_for d (ran_in start records c d there) (each_in start records c d there)

-- An object that is used is not gone.
module _ (d : RanOp) (n : ℕ) (used : is_used d.before.store n ≡ true) where
  still : (k : ℕ) → n ≡ k → is_used d.before.store k ≡ false → ⊥
  still k same gone = false≢true (sym gone ∙ (ap (is_used d.before.store) (sym same) ∙ used))

  pub put_found : (h : List ℕ) → handle_of h ≡ Some (record { instance = d.before.store.opens.instance; number = n }) → d.item ≡ Operation (Op.PutFh h) → IsStaleFor d → ⊥
  put_found h reads is (OfCurrent k on at gone) = false≢true (ap is_on_current (sym is) ∙ on)
  put_found h reads is (OfSaved saved on at gone) = false≢true (ap is_on_saved (sym is) ∙ on)
  put_found h reads is (OfGiven given g item says gone) =
      let one : h ≡ given = (let same : Operation (Op.PutFh h) ≡ Operation (Op.PutFh given) = sym is ∙ item in cc) in
      let its : record { instance = d.before.store.opens.instance; number = n } ≡ g = same_Some _ g (sym reads ∙ (ap handle_of one ∙ says)) in
      elim gone [ inl other ↦ other (sym (ap (λ (g : Handle). g.instance) its)) | inr lost ↦ still g.number (ap (λ (g : Handle). g.number) its) lost ]

  pub at_current : is_on_current d.item ≡ true → is_on_saved d.item ≡ false → d.context.current ≡ Some n → IsStaleFor d → ⊥
  at_current on off at (OfCurrent k here there gone) = still k (same_Some n k (sym at ∙ there)) gone
  at_current on off at (OfSaved saved too there gone) = false≢true (sym off ∙ too)
  at_current on off at (OfGiven h g item says gone) = false≢true (ap is_on_current (sym item) ∙ on)

  pub at_saved : is_on_saved d.item ≡ true → (saved : Saved) → d.context.saved ≡ Some saved → saved.object ≡ n
      → (is_on_current d.item ≡ true → (k : ℕ) → d.context.current ≡ Some k → is_used d.before.store k ≡ true) → IsStaleFor d → ⊥
  at_saved on saved at same others (OfCurrent k too here gone) = false≢true (sym gone ∙ others too k here)
  at_saved on saved at same others (OfSaved own too here gone) =
      still own.object (sym same ∙ ap (λ (s : Saved). s.object) (same_Some saved own (sym at ∙ here))) gone
  at_saved on saved at same others (OfGiven h g item says gone) = false≢true (ap is_on_saved (sym item) ∙ on)
