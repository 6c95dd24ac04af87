-- What a change of the map of owners leaves at each owner.
use Rattle.std.proofs.Common.{◌≡◌, ℕ, Bool, true, false, List, Option, None, sym, ◌∙◌, ap, inl, inr}
use Rattle.std.proofs.{lemmas.Bool.{cases_Bool, false≢true}, lemmas.Cmp.nat_list_cmp_total}
use Rattle.std.proofs.{lemmas.Map.Text.is_eq-slice_cmp, lemmas.Slice.Eq.bytes_eq-Decides}
use Rattle.std.specs.{Prelude.{bytes_eq, unwrap_or}, Ordering.{nat_cmp, is_eq, eq_by_cmp}, Cmp.eq_by_cmp_equiv}
use Rattle.std.specs.{Cmp.Lexicographic.slice_cmp, BTreeMap.{BTreeMap, is_at, UpdatesBy}, Map.{lookup, KeepsOthers, IsKeyTest, AreApart}}
use Rattle.nfs_clients.specs.{declared.owners.Ids.Ids, Filed.{no_ids, ids_at, OwnersAnew}}

pub or_none : Option Ids → Ids
or_none o = unwrap_or o no_ids

module _ {K : Type 0} (bytes : K → List ℕ) where
  others : (test : K → Bool) (old new : List (K × Ids)) → KeepsOthers (eq_by_cmp (λ x y. slice_cmp nat_cmp (bytes x) (bytes y))) test old new
      → (other : K → Bool) → IsKeyTest (eq_by_cmp (λ x y. slice_cmp nat_cmp (bytes x) (bytes y))) other → AreApart test other → lookup other new ≡ lookup other old
  unfolding KeepsOthers
  others test old new h = h

  apart : (bs cs : List ℕ) → bytes_eq bs cs ≡ false → (k : K) → is_eq (slice_cmp nat_cmp bs (bytes k)) ≡ true → is_eq (slice_cmp nat_cmp cs (bytes k)) ≡ false
  apart bs cs differ k there = is_eq-slice_cmp cs (bytes k) ∙ (elim (cases_Bool (bytes_eq cs (bytes k))) [
    | inl same ↦ (let b : bs ≡ bytes k = (bytes_eq-Decides bs (bytes k)).0 (sym (is_eq-slice_cmp bs (bytes k)) ∙ there) in
        let c : cs ≡ bytes k = (bytes_eq-Decides cs (bytes k)).0 same in
        absurd (false≢true (sym differ ∙ (bytes_eq-Decides bs cs).1 (b ∙ sym c))))
    | inr other ↦ other
  ])

  -- at this owner stands w, and at each other what stood there
  pub anew : (m n : BTreeMap K Ids) (bs : List ℕ) (w : Option Ids) (ids : Ids)
      → UpdatesBy (λ x y. slice_cmp nat_cmp (bytes x) (bytes y)) (λ k. slice_cmp nat_cmp bs (bytes k)) m n w → unwrap_or w no_ids ≡ ids
      → OwnersAnew (ids_at bytes m.entries) (ids_at bytes n.entries) bs ids
  anew m n bs w ids h is = λ cs. elim (cases_Bool (bytes_eq bs cs)) [
    | inl same ↦ rw same (ap (ids_at bytes n.entries) (sym ((bytes_eq-Decides bs cs).0 same)) ∙ ap (λ (o : Option Ids). unwrap_or o no_ids) h.1 ∙ is)
    | inr other ↦ rw other (ap (λ (o : Option Ids). unwrap_or o no_ids) (others (is_at (λ k. slice_cmp nat_cmp bs (bytes k))) m.entries n.entries h.3
        (is_at (λ k. slice_cmp nat_cmp cs (bytes k)))
        (λ x y. (eq_by_cmp_equiv nat_list_cmp_total).congr cs (bytes x) (bytes y)) (apart bs cs other)))
  ]

-- an owner that is not there has no ids
pub not_there : (o : Option Ids) (ids : Ids) → o ≡ None → ids ≡ unwrap_or o no_ids → ids ≡ no_ids
not_there o ids none is = is ∙ ap (λ (o : Option Ids). unwrap_or o no_ids) none
