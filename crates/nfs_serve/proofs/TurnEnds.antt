-- How a turn ends, by what it stepped and left.
use Rattle.std.proofs.Common.{◌≡◌, ℕ, suc, ◌-◌, ◌<◌, ◌≤◌, List, [], ◌∷◌, ◌++◌, length, Bool, true, false, ◌||◌, ◌⊎◌, inl, inr, refl, sym, ap, subst, ◌∙◌, arith}
use Rattle.nfs_serve.specs.Desk.{Desk, Act, Came, Stepped, most_steps, most_taken, step_count, taken_by, taken_count, is_late, late_by, StepsBefore, IsStuck, Unready, Reads, ReadsOnce, EndsTurn}
use Rattle.nfs_serve.specs.{declared.lane.Budget.Budget, declared.lane.Rest.Rest, declared.lane.Rest.TheVariants.{Clear, Stuck, Gone}}
use Rattle.nfs_serve.specs.Lane.{StepsWithin, Spends, IsSpent, HasHadEnough, Rests, EndsOrMayClose, whole}
use Rattle.nfs_serve.proofs.{Advancing.{reads_came, stuck_behind}, Spending.steps_append}

no : true ≡ false → ⊥
no e = cc

or_parts : (a b : Bool) → (a || b) ≡ false → (a ≡ false) × (b ≡ false)
or_parts true b h = absurd (no h)
or_parts false b h = (refl, h)

-- a port is passed over in a turn of its own
pub passes_over : {d : Desk} → EndsTurn (Unready ∷ []) d
passes_over {d} = (omega arith, omega arith, (λ front moment part late first back is. absurd (none front moment part late first back is)), inr (inr (inr (inr refl))))
  where
    none : (front : List Act) (moment : ℕ) (part : List ℕ) (late first : Bool) (back : List Act) → Unready ∷ [] ≡ front ++ Stepped moment part late first ∷ back → ⊥
    none front moment part late first back e =
        let h : 0 ≡ step_count (front ++ Stepped moment part late first ∷ back) = ap step_count e in
        let k : step_count (Stepped moment part late first ∷ back) ≡ suc (step_count back) = refl in
        omega (arith, h, k, steps_append front (Stepped moment part late first ∷ back))

steps_before : (n : ℕ) (b : Bool) (front : List Act) (moment : ℕ) (part : List ℕ) (late first : Bool) (back : List Act)
    → StepsWithin n b (front ++ Stepped moment part late first ∷ back) → (taken_count front < n) × (b ≡ false) × (is_late front ≡ false)
steps_before n b [] moment part late first back h =
    let own = h.0 refl in
    (own.0, own.1, refl)
steps_before n b (a ∷ front) moment part late first back h =
    let rest = steps_before (n - taken_by a) (b || late_by a) front moment part late first back h.1 in
    let less : taken_count front < n - taken_by a = rest.0 in
    let (early, own) = or_parts b (late_by a) rest.1 in
    (omega (arith, less), early, ap (λ l. l || is_late front) own ∙ rest.2)

-- of a turn that does so much, and may do so much more
module _ {acts : List Act} (left : Budget) (once : ReadsOnce acts) (spent : Spends acts whole left) where
  few : step_count acts ≤ most_steps
  few = omega (arith, spent.steps)

  before : StepsBefore most_taken acts
  before front moment part late first back is =
      let h = steps_before most_taken false front moment part late first back (subst (λ l. StepsWithin most_taken false l) is spent.within) in
      (h.0, h.2)

  pub ends_gone : {d : Desk} → d.live ≡ false → EndsTurn acts d
  ends_gone off = (once, few, before, inl off)

  pub ends_stuck : {d : Desk} → IsStuck acts d → EndsTurn acts d
  ends_stuck stuck = (once, few, before, inr (inl stuck))

  all : IsSpent left → (step_count acts ≡ most_steps) ⊎ (most_taken ≤ taken_count acts) ⊎ (is_late acts ≡ true)
  all (inl none) = inl (omega (arith, spent.steps, none))
  all (inr (inl none)) = inr (inl (omega (arith, spent.bytes, none)))
  all (inr (inr late)) = inr (inr (sym spent.late ∙ late))

  pub ends_full : {d : Desk} → d.live ≡ true → HasHadEnough left d.unread → 0 < length d.unread → d.owed ≡ [] → EndsTurn acts d
  ends_full live (inl none) some owed = absurd (omega (arith, ap length none, some))
  ends_full live (inr (more, done)) some owed =
      (once, few, before, inr (inr (inr (inl (record { live = live; owed = owed; unread = some }, all done)))))

  pub ends_answered : {d : Desk} → d.live ≡ true → HasHadEnough left d.unread → d.owed ≡ [] → Reads acts → EndsTurn acts d
  ends_answered live (inl none) owed reads = (once, few, before, inr (inr (inl (none, owed, reads))))
  ends_answered live (inr h) owed reads = ends_full live (inr h) h.0 owed

-- how it ends behind a read that brought bytes, by what came to rest then
pub ends_behind : (xs ys : List Act) (u : List ℕ) (d : Desk) (left : Budget) (rest : Rest) → ReadsOnce ((xs ++ Came u ∷ []) ++ ys)
    → Spends ((xs ++ Came u ∷ []) ++ ys) whole left → Rests rest ys d left → EndsOrMayClose rest ((xs ++ Came u ∷ []) ++ ys) d
ends_behind xs ys u d left Clear once spent (live, stream, enough, owed) = ends_answered left once spent live enough owed (reads_came xs ys u)
ends_behind xs ys u d left Stuck once spent stuck = ends_stuck left once spent (stuck_behind (xs ++ Came u ∷ []) ys d stuck)
ends_behind xs ys u d left Gone once spent may = (once, (left, spent), may)
