-- In how many pages of all objects something was written, through a change of one.
use Rattle.std.proofs.Common.{◌≡◌, ℕ, ◌+◌, ◌*◌, ◌^◌, ◌<◌, ◌≤◌, suc, not, List, [], ◌∷◌, ◌++◌, map, length, Some, refl, sym, ◌∙◌, ap, arith, subst, inl, inr}
use Rattle.std.proofs.lemmas.Bool.{cases_eq, ne_eqb, eq-eqb}
use Rattle.std.specs.Prelude.{◌==◌, if◌then◌else◌}
use Rattle.nfs_xdr.specs.Tables.{IsRising, In, record_at, with_record, without_record}
use Rattle.nfs_xdr.proofs.{Lists.{in_push, in_map, in_filter, find_in}, Tables.at_of_in}
use Rattle.nfs_tree.specs.{declared.stored.Stored.Stored, Stored.pages_used, TreeInvariants.AreSummed}

abbrev number : Stored → ℕ
number s = s.number

pub used_push : (xs : List Stored) (x : Stored) → pages_used (xs ++ x ∷ []) ≡ pages_used xs + length x.pages
used_push [] x = omega arith
used_push (y ∷ xs) x = (let rest = used_push xs x in omega arith)

pub used_most : (xs : List Stored) → ((s : Stored) → In s xs → length s.pages < 2 ^ 52) → pages_used xs ≤ length xs * 2 ^ 52
used_most [] few = omega arith
used_most (x ∷ xs) few = (let rest = used_most xs (λ s there. few s (inr there)) in let here = few x (inl refl) in omega arith)

-- where none has the number nothing changes
none_changes : (xs : List Stored) (n low high : ℕ) (f : Stored → Stored) → n < low → IsRising number low xs high → pages_used (with_record number xs n f) ≡ pages_used xs
none_changes [] n low high f lt rise = refl
none_changes (x ∷ xs) n low high f lt rise =
    rw (ne_eqb x.number n (λ same. absurd (omega arith))) (ap (λ (k : ℕ). length x.pages + k) (none_changes xs n (suc x.number) high f (omega arith) rise.1))

none_goes : (xs : List Stored) (n low high : ℕ) → n < low → IsRising number low xs high → pages_used (without_record number xs n) ≡ pages_used xs
none_goes [] n low high lt rise = refl
none_goes (x ∷ xs) n low high lt rise =
    rw (ne_eqb x.number n (λ same. absurd (omega arith))) (ap (λ (k : ℕ). length x.pages + k) (none_goes xs n (suc x.number) high (omega arith) rise.1))

-- one object changes
pub used_with : (xs : List Stored) (n low high : ℕ) (f : Stored → Stored) (old : Stored) → IsRising number low xs high → record_at number xs n ≡ Some old
    → pages_used (with_record number xs n f) + length old.pages ≡ pages_used xs + length (f old).pages
used_with [] n low high f old rise found = absurd cc
used_with (x ∷ xs) n low high f old rise found = elim (cases_eq x.number n) [
  | inl here ↦ (
      let at : Some x ≡ Some old = rw (eq-eqb x.number n here) at found in
      let is : x ≡ old = cc in
      let rest = none_changes xs n (suc x.number) high f (omega arith) rise.1 in
      let mine = ap (λ (s : Stored). length s.pages) is in
      let made = ap (λ (s : Stored). length (f s).pages) is in
      rw (eq-eqb x.number n here) (omega arith))
  | inr other ↦ (let rest = used_with xs n (suc x.number) high f old rise.1 (rw (ne_eqb x.number n other) at found) in rw (ne_eqb x.number n other) (omega arith))
]

-- one goes
pub used_without : (xs : List Stored) (n low high : ℕ) (old : Stored) → IsRising number low xs high → record_at number xs n ≡ Some old
    → pages_used (without_record number xs n) + length old.pages ≡ pages_used xs
used_without [] n low high old rise found = absurd cc
used_without (x ∷ xs) n low high old rise found = elim (cases_eq x.number n) [
  | inl here ↦ (
      let at : Some x ≡ Some old = rw (eq-eqb x.number n here) at found in
      let is : x ≡ old = cc in
      let rest = none_goes xs n (suc x.number) high (omega arith) rise.1 in
      let mine = ap (λ (s : Stored). length s.pages) is in
      rw (eq-eqb x.number n here) (omega arith))
  | inr other ↦ (let rest = used_without xs n (suc x.number) high old rise.1 (rw (ne_eqb x.number n other) at found) in rw (ne_eqb x.number n other) (omega arith))
]

-- what holds of the sum, through each change
pub summed_same : (xs : List Stored) (pages : ℕ) (f : Stored → Stored) → ((s : Stored) → (f s).pages ≡ s.pages) → AreSummed xs pages → AreSummed (map f xs) pages
summed_same xs pages f same is = record {
  few = λ s there. (let old = in_map f xs s there in let long = ap length (ap (λ (x : Stored). x.pages) old.2 ∙ same old.0) in let few = is.few old.0 old.1 in omega arith);
  sum = is.sum ∙ sym (used_map xs);
}
  where
    used_map : (ys : List Stored) → pages_used (map f ys) ≡ pages_used ys
    used_map [] = refl
    used_map (y ∷ ys) = (let rest = used_map ys in let here = ap length (same y) in omega arith)

pub summed_push : (xs : List Stored) (pages : ℕ) (x : Stored) → length x.pages < 2 ^ 52 → AreSummed xs pages → AreSummed (xs ++ x ∷ []) (pages + length x.pages)
summed_push xs pages x few is = record {
  few = λ s there. elim (in_push xs x s there) [ inl new ↦ (let same = ap (λ (y : Stored). length y.pages) new in omega arith) | inr old ↦ is.few s old ];
  sum = (let used = used_push xs x in let was = is.sum in omega arith);
}

-- the sum can be counted
pub summed_most : (xs : List Stored) (pages : ℕ) → length xs < 2 ^ 63 → AreSummed xs pages → pages < 2 ^ 116
summed_most xs pages short is = (let most = used_most xs is.few in let was = is.sum in omega arith)

pub summed_with : (xs : List Stored) (n : ℕ) (f : Stored → Stored) (old : Stored) (pages after more fewer : ℕ) → (high : ℕ) × IsRising number 0 xs high → record_at number xs n ≡ Some old
    → length (f old).pages < 2 ^ 52 → length (f old).pages + fewer ≡ length old.pages + more → after + fewer ≡ pages + more → AreSummed xs pages → AreSummed (with_record number xs n f) after
summed_with xs n f old pages after more fewer rise found small by sum is = record {
  few = λ s there. (let y = in_map (λ (x : Stored). if x.number == n then f x else x) xs s there in few y.0 y.1 s y.2);
  sum = (let used = used_with xs n 0 rise.0 f old rise.1 found in let was = is.sum in omega arith);
}
  where
    few : (y : Stored) → In y xs → (s : Stored) → s ≡ (if y.number == n then f y else y) → length s.pages < 2 ^ 52
    few y there s made = elim (cases_eq y.number n) [
      | inl here ↦ (
          let at : record_at number xs n ≡ Some y = subst (λ k. record_at number xs k ≡ Some y) here (at_of_in number 0 rise.0 xs y rise.1 there) in
          let is : Some y ≡ Some old = sym at ∙ found in
          let one : y ≡ old = cc in
          let same : s ≡ f y = rw (eq-eqb y.number n here) at made in
          subst (λ (x : Stored). length x.pages < 2 ^ 52) (sym (same ∙ ap f one)) small)
      | inr other ↦ (let same : s ≡ y = rw (ne_eqb y.number n other) at made in subst (λ (x : Stored). length x.pages < 2 ^ 52) (sym same) (is.few y there))
    ]

-- more pages, or fewer
pub record Has (xs : List Stored) (n : ℕ) (old : Stored) (pages : ℕ) : Type 0 where
  pub few : length old.pages < 2 ^ 52
  pub within : length old.pages ≤ pages

pub has_pages : (xs : List Stored) (n : ℕ) (old : Stored) (pages : ℕ) → record_at number xs n ≡ Some old → AreSummed xs pages → Has xs n old pages
has_pages xs n old pages found is = (let there = (find_in (λ (s : Stored). s.number == n) xs old found).0 in record {
  few = is.few old there;
  within = (let most = in_used xs there in let was = is.sum in omega arith);
})
  where
    in_used : (ys : List Stored) → In old ys → length old.pages ≤ pages_used ys
    in_used [] there = absurd there
    in_used (y ∷ ys) (inl here) = (let same = ap (λ (s : Stored). length s.pages) here in omega arith)
    in_used (y ∷ ys) (inr later) = (let rest = in_used ys later in omega arith)

pub summed_without : (xs : List Stored) (n : ℕ) (old : Stored) (pages after : ℕ) → (high : ℕ) × IsRising number 0 xs high → record_at number xs n ≡ Some old
    → after + length old.pages ≡ pages → AreSummed xs pages → AreSummed (without_record number xs n) after
summed_without xs n old pages after rise found sum is = record {
  few = λ s there. is.few s (in_filter (λ (x : Stored). not (x.number == n)) xs s there).0;
  sum = (let used = used_without xs n 0 rise.0 old rise.1 found in let was = is.sum in omega arith);
}
