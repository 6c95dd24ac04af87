-- What acts use up of what may be done in a turn.
use Rattle.std.proofs.Common.{◌≡◌, ℕ, ◌+◌, ◌-◌, List, [], ◌∷◌, ◌++◌, length, filter, arith, Bool, true, false, ◌||◌, ap, refl, sym, subst, ◌∙◌, length-append}
use Rattle.std.proofs.lemmas.List.Elements.{filter-append}
use Rattle.nfs_serve.specs.Desk.{Act, Came, ReadBlocked, Ended, Took, WriteBlocked, Failed, Closed, Stepped, is_step, step_count, taken_by, taken_count, late_by, is_late}
use Rattle.nfs_serve.specs.{declared.lane.Budget.Budget, Lane.{StepsWithin, IsLeft, Spends}}

no : {A : Type 0} → false ≡ true → A
no e = absurd (never e)
  where
    never : false ≡ true → ⊥
    never e = cc

pub steps_append : (xs ys : List Act) → step_count (xs ++ ys) ≡ step_count xs + step_count ys
steps_append xs ys = ap length (filter-append is_step xs ys) ∙ length-append (filter is_step xs) (filter is_step ys)

taken_append : (xs ys : List Act) → taken_count (xs ++ ys) ≡ taken_count xs + taken_count ys
taken_append [] ys = omega arith
taken_append (x ∷ xs) ys = omega (arith, taken_append xs ys)

or_assoc : (a b c : Bool) → ((a || b) || c) ≡ (a || (b || c))
or_assoc true b c = refl
or_assoc false b c = refl

or_false : (a : Bool) → (a || false) ≡ a
or_false true = refl
or_false false = refl

pub late_append : (xs ys : List Act) → is_late (xs ++ ys) ≡ (is_late xs || is_late ys)
late_append [] ys = refl
late_append (x ∷ xs) ys = ap (λ b. late_by x || b) (late_append xs ys) ∙ sym (or_assoc (late_by x) (is_late xs) (is_late ys))

within_append : (xs ys : List Act) (n : ℕ) (b : Bool) → StepsWithin n b xs → StepsWithin (n - taken_count xs) (b || is_late xs) ys → StepsWithin n b (xs ++ ys)
within_append [] ys n b p q =
    let same : n - 0 ≡ n = omega arith in
    subst (λ k. StepsWithin k b ys) same (subst (λ c. StepsWithin (n - 0) c ys) (or_false b) q)
within_append (x ∷ xs) ys n b p q =
    let less : n - (taken_by x + taken_count xs) ≡ (n - taken_by x) - taken_count xs = omega arith in (
      p.0,
      within_append xs ys (n - taken_by x) (b || late_by x) p.1
          (subst (λ c. StepsWithin ((n - taken_by x) - taken_count xs) c ys) (sym (or_assoc b (late_by x) (is_late xs)))
          (subst (λ k. StepsWithin k (b || (late_by x || is_late xs)) ys) less q)),
    )

-- acts one after the other
pub spends_on : (xs ys : List Act) (a b c : Budget) → Spends xs a b → Spends ys b c → Spends (xs ++ ys) a c
spends_on xs ys a b c p q = record {
  steps = omega (arith, steps_append xs ys, p.steps, q.steps);
  bytes = omega (arith, taken_append xs ys, p.bytes, q.bytes);
  late = q.late ∙ ap (λ l. l || is_late ys) p.late ∙ or_assoc a.late (is_late xs) (is_late ys) ∙ ap (λ l. a.late || l) (sym (late_append xs ys));
  within = within_append xs ys a.bytes a.late p.within (subst (λ l. StepsWithin (a.bytes - taken_count xs) l ys) p.late
      (subst (λ k. StepsWithin k b.late ys) p.bytes q.within));
}

-- no act, and acts that neither step nor write
pub spends_nothing : (a : Budget) → Spends [] a a
spends_nothing a = record { steps = omega arith; bytes = omega arith; late = sym (or_false a.late); within = tt }

pub spends_came : (bytes : List ℕ) (a : Budget) → Spends (Came bytes ∷ []) a a
spends_came bytes a = record { steps = omega arith; bytes = omega arith; late = sym (or_false a.late); within = (λ e. no e, tt) }

pub spends_blocked : (a : Budget) → Spends (ReadBlocked ∷ []) a a
spends_blocked a = record { steps = omega arith; bytes = omega arith; late = sym (or_false a.late); within = (λ e. no e, tt) }

pub spends_stuck : (a : Budget) → Spends (WriteBlocked ∷ []) a a
spends_stuck a = record { steps = omega arith; bytes = omega arith; late = sym (or_false a.late); within = (λ e. no e, tt) }

pub spends_closed : (a : Budget) → Spends (Closed ∷ []) a a
spends_closed a = record { steps = omega arith; bytes = omega arith; late = sym (or_false a.late); within = (λ e. no e, tt) }

pub spends_ended : (a : Budget) → Spends (Ended ∷ []) a a
spends_ended a = record { steps = omega arith; bytes = omega arith; late = sym (or_false a.late); within = (λ e. no e, tt) }

pub spends_failed : (a : Budget) → Spends (Failed ∷ []) a a
spends_failed a = record { steps = omega arith; bytes = omega arith; late = sym (or_false a.late); within = (λ e. no e, tt) }

-- bytes that the peer took
pub spends_took : (bytes : List ℕ) (a b : Budget) → b.steps ≡ a.steps → b.bytes ≡ a.bytes - length bytes → b.late ≡ a.late → Spends (Took bytes ∷ []) a b
spends_took bytes a b steps taken late = record {
  steps = omega (arith, steps);
  bytes = omega (arith, taken);
  late = late ∙ sym (or_false a.late);
  within = (λ e. no e, tt);
}

-- a part that was stepped
pub spends_step : (moment : ℕ) (part : List ℕ) (first : Bool) (a b : Budget) → b.steps + 1 ≡ a.steps → b.bytes ≡ a.bytes → IsLeft a
    → Spends (Stepped moment part b.late first ∷ []) a b
spends_step moment part first a b steps same left = record {
  steps = omega (arith, steps);
  bytes = omega (arith, same);
  late = sym (or_false b.late) ∙ ap (λ l. l || (b.late || false)) (sym left.2);
  within = (λ e. (left.1, left.2), tt);
}
