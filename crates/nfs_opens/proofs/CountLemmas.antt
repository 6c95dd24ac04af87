-- How many opens pass a test, behind one that comes, goes or changes.
use Rattle.std.proofs.Common.{◌≡◌, inl, inr, ℕ, suc, ◌+◌, ◌<◌, ◌≤◌, Bool, true, false, List, [], ◌∷◌, ◌++◌, length, Some, refl, sym, ◌∙◌, ap, arith}
use Rattle.std.proofs.lemmas.Bool.{cases_Bool, eqb-true, lt-ltb}
use Rattle.std.specs.{Prelude.{◌==◌, nat_lt, if◌then◌else◌}, List.list_any}
use Rattle.nfs_xdr.specs.Tables.{IsRising, In, record_at, without_record, with_record}
use Rattle.nfs_xdr.proofs.{Lists.{count_push, length_filter, filter_in}, Tables.{at_below, without_none, with_none}}
use Rattle.nfs_opens.specs.{StateId.last_number, Counts.{how_many, more, less}}

abbrev pub bit : Bool → ℕ
bit b = if b then 1 else 0

one_less : (b : Bool) (now before : ℕ) → now + bit b ≡ before → now ≡ less before b
one_less true now before e = omega arith
one_less false now before e = omega arith

one_more : (b : Bool) (now before : ℕ) → now ≡ before + bit b → now ≤ last_number → now ≡ more before b
one_more true now before e few = omega arith
one_more false now before e few = omega arith

module _ {X : Type 0} where
  pub many_any : (p : X → Bool) (xs : List X) → nat_lt 0 (how_many p xs) ≡ list_any p xs
  many_any p [] = refl
  many_any p (x ∷ xs) = elim (cases_Bool (p x)) [ inl passes ↦ rw passes (lt-ltb 0 (suc (how_many p xs)) (omega arith)) | inr fails ↦ rw fails (many_any p xs) ]

  many_first : (p : X → Bool) (x : X) (xs : List X) → how_many p (x ∷ xs) ≡ bit (p x) + how_many p xs
  many_first p x xs = elim (cases_Bool (p x)) [ inl passes ↦ rw passes (omega arith) | inr fails ↦ rw fails (omega arith) ]

  -- the one of a number goes
  pub many_without : (number : X → ℕ) (p : X → Bool) (n low high : ℕ) (xs : List X) (x : X) → IsRising number low xs high → record_at number xs n ≡ Some x
      → how_many p (without_record number xs n) + bit (p x) ≡ how_many p xs
  many_without number p n low high [] x r found = absurd cc
  many_without number p n low high (y ∷ ys) x r found =
      elim (cases_Bool (number y == n)) [
        | inl here ↦
            (let some : Some y ≡ Some x = rw here at found in
            let is : y ≡ x = cc in
            let at : number y ≡ n = eqb-true (number y) n here in
            let rest : without_record number ys n ≡ ys = without_none number n ys (at_below number (suc (number y)) high n ys r.1 (omega arith)) in
            let first = many_first p y ys in
            let same : bit (p y) ≡ bit (p x) = ap (λ (z : X). bit (p z)) is in
            rw (here, rest) (omega arith))
        | inr other ↦
            (let below = many_without number p n (suc (number y)) high ys x r.1 (rw other at found) in
            let first = many_first p y ys in
            let left = many_first p y (without_record number ys n) in
            rw other (omega arith))
      ]

  -- the one of a number changes
  pub many_with : (number : X → ℕ) (p : X → Bool) (f : X → X) (n low high : ℕ) (xs : List X) (x : X) → IsRising number low xs high
      → record_at number xs n ≡ Some x → how_many p (with_record number xs n f) + bit (p x) ≡ how_many p xs + bit (p (f x))
  many_with number p f n low high [] x r found = absurd cc
  many_with number p f n low high (y ∷ ys) x r found =
      elim (cases_Bool (number y == n)) [
        | inl here ↦
            (let some : Some y ≡ Some x = rw here at found in
            let is : y ≡ x = cc in
            let at : number y ≡ n = eqb-true (number y) n here in
            let rest : with_record number ys n f ≡ ys = with_none number f n ys (at_below number (suc (number y)) high n ys r.1 (omega arith)) in
            let first = many_first p y ys in
            let changed = many_first p (f y) ys in
            let same : bit (p y) ≡ bit (p x) = ap (λ (z : X). bit (p z)) is in
            let after : bit (p (f y)) ≡ bit (p (f x)) = ap (λ (z : X). bit (p (f z))) is in
            rw (here, rest) (omega arith))
        | inr other ↦
            (let below = many_with number p f n (suc (number y)) high ys x r.1 (rw other at found) in
            let first = many_first p y ys in
            let left = many_first p y (with_record number ys n f) in
            rw other (omega arith))
      ]

  length_with : (number : X → ℕ) (f : X → X) (n : ℕ) (xs : List X) → length (with_record number xs n f) ≡ length xs
  length_with number f n [] = refl
  length_with number f n (x ∷ xs) = ap suc (length_with number f n xs)

  -- no more than numbers there are
  pub rising_few : (number : X → ℕ) (low high : ℕ) (xs : List X) → IsRising number low xs high → length xs + low ≤ high
  rising_few number low high [] r = omega arith
  rising_few number low high (x ∷ xs) r = let rest = rising_few number (suc (number x)) high xs r.1 in let up = r.0 in omega arith

  -- Counters beside it.

  pub less_without : (number : X → ℕ) (p : X → Bool) (n low high : ℕ) (xs : List X) (x : X) → IsRising number low xs high → record_at number xs n ≡ Some x
      → how_many p (without_record number xs n) ≡ less (how_many p xs) (p x)
  less_without number p n low high xs x r found = one_less (p x) _ _ (many_without number p n low high xs x r found)

  pub more_pushed : (p : X → Bool) (xs : List X) (x : X) → length xs < last_number → how_many p (xs ++ x ∷ []) ≡ more (how_many p xs) (p x)
  more_pushed p xs x few =
      let pushed = count_push p xs x in
      let most = length_filter p xs in
      let one : bit (p x) ≤ 1 = elim (cases_Bool (p x)) [ inl passes ↦ rw passes (omega arith) | inr fails ↦ rw fails (omega arith) ] in
      one_more (p x) _ _ pushed (omega arith)

  pub other_with : (number : X → ℕ) (p : X → Bool) (f : X → X) (n low high : ℕ) (xs : List X) (x : X) → IsRising number low xs high
      → record_at number xs n ≡ Some x → length xs ≤ last_number
      → how_many p (with_record number xs n f) ≡ more (less (how_many p xs) (p x)) (p (f x))
  other_with number p f n low high xs x r found few =
      let changed = many_with number p f n low high xs x r found in
      let without = less_without number p n low high xs x r found in
      let gone = many_without number p n low high xs x r found in
      let most = length_filter p (with_record number xs n f) in
      let same = length_with number f n xs in
      let step : how_many p (with_record number xs n f) ≡ how_many p (without_record number xs n) + bit (p (f x)) = omega arith in
      one_more (p (f x)) _ _ (step ∙ ap (λ (k : ℕ). k + bit (p (f x))) without) (omega arith)

  pub many_there : (p : X → Bool) (xs : List X) (x : X) → In x xs → p x ≡ true → 0 < how_many p xs
  many_there p [] x there passes = absurd there
  many_there p (y ∷ ys) x (inl is) passes =
      let here : bit (p y) ≡ 1 = ap (λ (z : X). bit (p z)) (sym is) ∙ rw passes refl in let first = many_first p y ys in omega arith
  many_there p (y ∷ ys) x (inr more) passes = let rest = many_there p ys x more passes in let first = many_first p y ys in omega arith

  pub many_same : (p q : X → Bool) (xs : List X) → ((x : X) → In x xs → p x ≡ q x) → how_many p xs ≡ how_many q xs
  many_same p q xs same = ap length (filter_in p q xs same)
