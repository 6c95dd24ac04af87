-- What a change of one object makes of the list of objects.
use Rattle.std.proofs.Common.{◌≡◌, ℕ, ◌<◌, suc, List, [], ◌∷◌, Some, refl, sym, ◌∙◌, ap, arith, subst, inl, inr}
use Rattle.std.proofs.lemmas.Bool.{cases_eq, ne_eqb, eq-eqb}
use Rattle.std.specs.Prelude.{zero}
use Rattle.nfs_xdr.specs.Tables.{In, with_record}
use Rattle.nfs_tree.specs.{declared.stored.Body.Body, declared.stored.Stored.Stored, Files.{last_count, stored_in}, Calls.CanChange, Stored.numbered}

-- what is written for the one object of a number is what a function makes of it
pub written_as : (f : Stored → Stored) (xs : List Stored) (n : ℕ) (old new : Body) → ((x : Stored) → In x xs → x.number ≡ n → x ≡ numbered n old) → numbered n new ≡ f (numbered n old)
    → with_record (λ s. s.number) xs n (λ _. numbered n new) ≡ with_record (λ s. s.number) xs n f
written_as f [] n old new one now = refl
written_as f (x ∷ xs) n old new one now =
    let rest = written_as f xs n old new (λ y there. one y (inr there)) now in
    elim (cases_eq x.number n) [
      | inl same ↦ rw (eq-eqb x.number n same, rest) (ap (λ y. y ∷ with_record (λ s. s.number) xs n f) (now ∙ ap f (sym (one x (inl refl) same))))
      | inr other ↦ rw (ne_eqb x.number n other, rest) refl
    ]

-- what is written as it was
pub written_same : (xs : List Stored) (n : ℕ) (old : Body) → ((x : Stored) → In x xs → x.number ≡ n → x ≡ numbered n old) → with_record (λ s. s.number) xs n (λ _. numbered n old) ≡ xs
written_same [] n old one = refl
written_same (x ∷ xs) n old one =
    let rest = written_same xs n old (λ y there. one y (inr there)) in
    elim (cases_eq x.number n) [
      | inl same ↦ rw (eq-eqb x.number n same, rest) (ap (λ y. y ∷ xs) (sym (one x (inl refl) same)))
      | inr other ↦ rw (ne_eqb x.number n other, rest) refl
    ]

-- the object of a number can change
pub can_of : (xs : List Stored) (n : ℕ) (o : Stored) → stored_in xs n ≡ Some o → CanChange xs n → o.object.change < last_count
can_of [] n o e can = absurd cc
can_of (x ∷ xs) n o e can = elim (cases_eq x.number n) [
  | inl here ↦ (let at : Some x ≡ Some o = rw (eq-eqb x.number n here) at e in let is : x ≡ o = cc in subst (λ (s : Stored). s.object.change < last_count) is (can zero x (omega arith) here))
  | inr other ↦ can_of xs n o (rw (ne_eqb x.number n other) at e) (λ k d lt. can (suc k) d (omega arith))
]
