-- Each lock state is under the open that a LOCK named which was told it.
use Rattle.std.proofs.{Common.{◌≡◌, ℕ, [], ◌∷◌, ◌++◌, Option, Some, None, refl, subst, inl, inr}, lemmas.Bool.eqb-true}
use Rattle.std.specs.Prelude.{◌⊎◌, ◌==◌, option_map}
use Rattle.nfs_xdr.specs.Tables.{In}
use Rattle.nfs_xdr.proofs.Lists.{find_in}
use Rattle.nfs_opens.specs.{Table.lock_at, declared.records.LockState.LockState}
use Rattle.nfs_exec.specs.Runs.Ops.{RanOp}
use Rattle.nfs_exec.proofs.Runs.OneWalk.{in_back}
use Rattle.nfs_serve.specs.Step.{new_state}
use Rattle.nfs_promises.specs.{Bytes.ChangeTells.RunsIn, Locks.LockMade.{MakesUnder, EachLockWasMade}, Runs.Points.reached}
use Rattle.nfs_promises.proofs.Locks.{LockKept.each_is_told, StatesBegun.{MakesState, Was, begun, begun_by}, Traced.in_front}
use Rattle.nfs_promises.proofs.Runs.LaterRecords.{ran_in, first_there}

lock_there : (o : Option LockState) (n : ℕ) → option_map (λ (l : LockState). l.opened) o ≡ Some n → (l : LockState) × (o ≡ Some l) × (l.opened ≡ n)
lock_there None n e = absurd cc
lock_there (Some l) n e = (l, refl, cc)

pub each_was_made : EachLockWasMade
each_was_made start earlier c front lock back n w same locks some =
    let there = first_there (reached start earlier) c front lock back same in
    let told = each_is_told start earlier c lock n w there locks some in
    let l = lock_there (lock_at lock.behind.store.opens n) told.0 told.1.opened in
    let its = find_in (λ (l : LockState). l.number == n) lock.behind.store.opens.locks l.0 l.1 in
    let maker = by l.0 (begun lock (ran_in start earlier c lock there) l.0 its.0) in (
      told.0,
      told.1,
      maker.0,
      maker.1,
      subst (λ n. MakesUnder n told.0 maker.0) (eqb-true l.0.number n its.1) (subst (λ o. MakesUnder l.0.number o maker.0) l.2 maker.2),
    )
  where
    by : (l : LockState) → MakesState l lock ⊎ Was lock.before.store.opens l
        → (maker : RanOp) × (RunsIn (new_state start) earlier maker ⊎ In maker (front ++ lock ∷ [])) × MakesUnder l.number l.opened maker
    by l (inl begins) = (lock, inr (in_back lock front (lock ∷ []) (inl refl)), begins.under)
    by l (inr was) =
        let b = begun_by start earlier c front lock back same was.0 was.1 in (
          b.0,
          elim b.1 [ inl before ↦ inl before | inr within ↦ inr (in_front b.0 front (lock ∷ []) within) ],
          subst (λ n. MakesUnder n l.opened b.0) was.2.number (subst (λ o. MakesUnder was.0.number o b.0) was.2.opened b.2.under),
        )
