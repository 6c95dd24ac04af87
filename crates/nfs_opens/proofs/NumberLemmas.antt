-- States in rising order of their numbers: what a search for a number finds, takes and changes, and one that comes behind all.
use Rattle.std.proofs.Common.{◌≡◌, inl, inr, ℕ, suc, ◌<◌, ◌≤◌, Bool, false, not, List, [], ◌∷◌, ◌++◌, map, refl, sym, ◌∙◌, ap, arith}
use Rattle.std.proofs.lemmas.Bool.{cases_Bool, cases_lt, ne_eqb, eqb-true, lt-ltb, le-ltb, ltb-true}
use Rattle.std.specs.Prelude.{◌==◌, nat_lt, find, filter, if◌then◌else◌}
use Rattle.nfs_xdr.specs.Tables.{IsRising, In}
use Rattle.nfs_xdr.proofs.{Lists.{find_none, filter_all}, Tables.in_bounds}
use Rattle.nfs_opens.specs.Blocks.{IsParted, found, removed, changed}
use Rattle.nfs_opens.proofs.BlockLemmas.{found_behind_one, found_first, found_not, removed_behind_one, removed_first, removed_not, changed_behind_one, changed_first, changed_not}

module _ {X : Type 0} (number : X → ℕ) where
  pub numbers_parted : (n low high : ℕ) (xs : List X) → IsRising number low xs high → IsParted (λ x. nat_lt (number x) n) xs
  numbers_parted n low high [] rises = tt
  numbers_parted n low high (x ∷ xs) rises = (
    (λ y there e.
        let less : number y < n = ltb-true (number y) n e in
        let up = (in_bounds number (suc (number x)) high xs y rises.1 there).0 in lt-ltb (number x) n (omega arith)),
    numbers_parted n (suc (number x)) high xs rises.1,
  )

  others : (n low high : ℕ) (xs : List X) → IsRising number low xs high → n < low → (x : X) → In x xs → (number x == n) ≡ false
  others n low high xs rises lower x there =
      let up = (in_bounds number low high xs x rises there).0 in ne_eqb (number x) n (λ e. absurd (omega arith))

  still : (f : X → X) (xs : List X) → ((x : X) → In x xs → f x ≡ x) → map f xs ≡ xs
  still f [] same = refl
  still f (x ∷ xs) same = rw (same x (inl refl)) (ap (λ (ys : List X). x ∷ ys) (still f xs (λ y there. same y (inr there))))

  pub number_found : (n low high : ℕ) (xs : List X) → IsRising number low xs high
      → found (λ x. nat_lt (number x) n) (λ x. number x == n) xs ≡ find (λ x. number x == n) xs
  number_found n low high [] rises = refl
  number_found n low high (x ∷ xs) rises =
      let p : X → Bool = λ y. nat_lt (number y) n in
      let is : X → Bool = λ y. number y == n in
      elim (cases_lt (number x) n) [
        | inl less ↦ (let other : (number x == n) ≡ false = ne_eqb (number x) n (λ e. absurd (omega arith)) in
            found_behind_one p is x xs (lt-ltb (number x) n less) ∙ rw other (number_found n (suc (number x)) high xs rises.1))
        | inr not_less ↦ elim (cases_Bool (number x == n)) [
          | inl here ↦ found_first p is x xs (le-ltb (number x) n not_less) here ∙ rw here refl
          | inr other ↦ found_not p is x xs (le-ltb (number x) n not_less) other
              ∙ rw other (sym (find_none is xs (others n (suc (number x)) high xs rises.1 (omega arith))))
        ]
      ]

  left_out : (n : ℕ) (xs : List X) → ((x : X) → In x xs → (number x == n) ≡ false) → filter (λ x. not (number x == n)) xs ≡ xs
  left_out n xs other = filter_all (λ x. not (number x == n)) xs (λ x there. ap not (other x there))

  pub number_removed : (n low high : ℕ) (xs : List X) → IsRising number low xs high
      → removed (λ x. nat_lt (number x) n) (λ x. number x == n) xs ≡ filter (λ x. not (number x == n)) xs
  number_removed n low high [] rises = refl
  number_removed n low high (x ∷ xs) rises =
      let p : X → Bool = λ y. nat_lt (number y) n in
      let is : X → Bool = λ y. number y == n in
      elim (cases_lt (number x) n) [
        | inl less ↦ (let other : (number x == n) ≡ false = ne_eqb (number x) n (λ e. absurd (omega arith)) in
            removed_behind_one p is x xs (lt-ltb (number x) n less) ∙ rw other (ap (λ (ys : List X). x ∷ ys) (number_removed n (suc (number x)) high xs rises.1)))
        | inr not_less ↦ elim (cases_Bool (number x == n)) [
          | inl here ↦ (let same = eqb-true (number x) n here in removed_first p is x xs (le-ltb (number x) n not_less) here
              ∙ rw here (sym (left_out n xs (others n (suc (number x)) high xs rises.1 (omega arith)))))
          | inr other ↦ removed_not p is x xs (le-ltb (number x) n not_less) other
              ∙ rw other (ap (λ (ys : List X). x ∷ ys) (sym (left_out n xs (others n (suc (number x)) high xs rises.1 (omega arith)))))
        ]
      ]

  pub number_changed : (n low high : ℕ) (f : X → X) (xs : List X) → IsRising number low xs high
      → changed (λ x. nat_lt (number x) n) (λ x. number x == n) f xs ≡ map (λ x. if number x == n then f x else x) xs
  number_changed n low high f [] rises = refl
  number_changed n low high f (x ∷ xs) rises =
      let p : X → Bool = λ y. nat_lt (number y) n in
      let is : X → Bool = λ y. number y == n in
      let g : X → X = λ y. if number y == n then f y else y in
      let stays : n < suc (number x) → xs ≡ map g xs = λ low. sym (still g xs (λ y there. rw (others n (suc (number x)) high xs rises.1 low y there) refl)) in
      elim (cases_lt (number x) n) [
        | inl less ↦ (let other : (number x == n) ≡ false = ne_eqb (number x) n (λ e. absurd (omega arith)) in
            changed_behind_one p is f x xs (lt-ltb (number x) n less) ∙ rw other (ap (λ (ys : List X). x ∷ ys) (number_changed n (suc (number x)) high f xs rises.1)))
        | inr not_less ↦ elim (cases_Bool (number x == n)) [
          | inl here ↦ changed_first p is f x xs (le-ltb (number x) n not_less) here ∙ rw here (ap (λ (ys : List X). f x ∷ ys) (stays (omega arith)))
          | inr other ↦ changed_not p is f x xs (le-ltb (number x) n not_less) other ∙ rw other (ap (λ (ys : List X). x ∷ ys) (stays (omega arith)))
        ]
      ]

  pub number_kept : (n : ℕ) (f : X → X) → ((x : X) → number (f x) ≡ number x) → (x : X) → number (if number x == n then f x else x) ≡ number x
  number_kept n f same x = elim (cases_Bool (number x == n)) [ inl here ↦ rw here (same x) | inr other ↦ rw other refl ]

  -- one that comes with a number above all
  pub number_more : (low high : ℕ) (xs : List X) (new : X) → IsRising number low xs high → ((x : X) → In x xs → number x < number new) → low ≤ number new
      → IsRising number low (xs ++ new ∷ []) (suc (number new))
  number_more low high [] new rises above le = (le, omega arith)
  number_more low high (x ∷ xs) new rises above le =
      (rises.0, number_more (suc (number x)) high xs new rises.1 (λ y there. above y (inr there)) (above x (inl refl)))
