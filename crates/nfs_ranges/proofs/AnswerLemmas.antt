-- What is asked of a list of owners.
use Rattle.std.proofs.Common.{◌≡◌, ℕ, ◌<◌, ◌≤◌, ◌^◌, Bool, true, false, List, [], ◌∷◌, drop, Some, None, Result, Ok, Err, refl, sym, ◌∙◌, ap, arith, inl, inr}
use Rattle.std.proofs.lemmas.Bool.{cases_Bool, ltb-true, ltb-false}
use Rattle.std.specs.Prelude.{IsTrue, IsSome, is_some, ◌↔◌, OnOk, OnErr, not}
use Rattle.nfs_ranges.specs.{declared.interval.Interval.Interval, Intervals.{AreFrom, IsCanonical}, Edits.{lead, head, ends_before}}
use Rattle.nfs_ranges.specs.{Holders.{LockedBytes, bytes_of, at, holds_any, kind_at}, Facts.HoldsAny, Owners.{AreCanonical, is_empty}}
use Rattle.nfs_ranges.specs.Groups.{AreKept, AreSame, IsPut}
use Rattle.nfs_ranges.proofs.{CanonicalLemmas.{within_is, within_above, none_below, at_first}, PlaceLemmas.{Fails, fails, from_drop}}
use Rattle.nfs_ranges.proofs.{OwnerLemmas.bytes-canonical, GroupLemmas.{kept_put, kept_same}, ToldLemmas.holds_any_is}

-- how a byte is held, by the first interval that does not end before it
skipped : (b : ℕ) (xs : List Interval) → kind_at xs b ≡ kind_at (drop (lead (ends_before b) xs) xs) b
skipped b [] = refl
skipped b (x ∷ xs) = elim (cases_Bool (ends_before b x)) [
  | inl e ↦ (let lt = ltb-true x.last b e in rw (e, within_above x.first x.last b lt) (skipped b xs))
  | inr e ↦ rw e refl
]

pub kind_found : (b : ℕ) (xs : List Interval) (x : Interval) → Some x ≡ head (drop (lead (ends_before b) xs) xs) → x.first ≤ b → Some x.kind ≡ kind_at xs b
kind_found b xs x e le = go (drop (lead (ends_before b) xs) xs) (fails (ends_before b) xs) e ∙ sym (skipped b xs)
  where
    go : (ys : List Interval) → Fails (ends_before b) ys → Some x ≡ head ys → Some x.kind ≡ kind_at ys b
    go [] no_more e = absurd cc
    go (y ∷ ys) fail e = let same : x ≡ y = cc in let ge = ltb-false y.last b fail in let lo : y.first ≤ b = rw same at le in
        rw (same, within_is y.first y.last b lo ge) refl

pub kind_gap : (b : ℕ) (xs : List Interval) (x : Interval) → IsCanonical xs → Some x ≡ head (drop (lead (ends_before b) xs) xs) → b < x.first → None ≡
    kind_at xs b
kind_gap b xs x are e lt = go (drop (lead (ends_before b) xs) xs) (from_drop (lead (ends_before b) xs) 0 xs are.from).0
    (from_drop (lead (ends_before b) xs) 0 xs are.from).1 e ∙ sym (skipped b xs)
  where
    go : (ys : List Interval) (low : ℕ) → AreFrom low ys → Some x ≡ head ys → None ≡ kind_at ys b
    go [] low from e = refl
    go (y ∷ ys) low from e = let same : x ≡ y = cc in let lo : b < y.first = rw same at lt in let le = from.1 in
        sym (none_below y.first (y ∷ ys) b (omega arith, from.1, from.2, from.3, from.4) lo)

pub kind_end : (b : ℕ) (xs : List Interval) → None ≡ head (drop (lead (ends_before b) xs) xs) → None ≡ kind_at xs b
kind_end b xs e = go (drop (lead (ends_before b) xs) xs) e ∙ sym (skipped b xs)
  where
    go : (ys : List Interval) → None ≡ head ys → None ≡ kind_at ys b
    go [] e = refl
    go (y ∷ ys) e = absurd cc

-- whether anything is held
any_bytes : (xs : List Interval) → IsCanonical xs → is_empty xs ≡ false → (b : ℕ) × (b < 2 ^ 64) × IsSome (kind_at xs b)
any_bytes [] is e = absurd cc
any_bytes (x ∷ xs) is e = let le = is.from.1 in let small = is.from.2 in (x.first, omega arith, ap is_some (at_first x xs le))

no_bytes : (xs : List Interval) (b : ℕ) → is_empty xs ≡ true → kind_at xs b ≡ None
no_bytes [] b e = refl
no_bytes (x ∷ xs) b e = absurd cc

any_of : (os : LockedBytes) (s : ℕ) → AreCanonical os → (v : Bool) → is_empty (bytes_of os s) ≡ v → IsTrue (not v) ↔ HoldsAny (at os) s
any_of os s are true e = (
  λ bad. absurd (let none : false ≡ true = bad in cc),
  λ held. absurd
      (let none = no_bytes (bytes_of os s) held.0 e in let bad : false ≡ true = sym (ap is_some none) ∙ held.2 in cc),
)
any_of os s are false e = (λ is_so. any_bytes (bytes_of os s) (bytes-canonical 0 os s are.from) e, λ held. refl)

pub any_is : (os : LockedBytes) (s : ℕ) → AreCanonical os → not (is_empty (bytes_of os s)) ≡ holds_any (at os) s
any_is os s are = sym (holds_any_is (at os) s (not (is_empty (bytes_of os s))) (any_of os s are (is_empty (bytes_of os s)) refl))

-- a call that may fail leaves owners in order
pub still_kept : {E : Type 0} (r : Result (Unit {0}) E) (s : ℕ) (xs : List Interval) (old new : List LockedBytes) → OnOk r (IsPut s xs old new) →
    OnErr r (AreSame old new) → IsCanonical xs → AreKept old → AreKept new
still_kept (Ok u) s xs old new ok err is are = kept_put s xs old new ok is are
still_kept (Err e) s xs old new ok err is are = kept_same old new err are
