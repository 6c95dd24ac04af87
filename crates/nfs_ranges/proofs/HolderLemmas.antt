-- What keeps writers from standing beside other holders.
use Rattle.std.proofs.Common.{◌≡◌, ◌≢◌, ℕ, Bool, true, false, cond, eqb, ◌&&◌, Option, Some, None, refl, sym, ◌∙◌, ap, inl, inr}
use Rattle.std.proofs.lemmas.Bool.{cases_Bool, cases_eq, and_parts, eq-eqb, ne_eqb, leb-true}
use Rattle.nfs_ranges.specs.{declared.Kind.Kind, declared.Kind.TheVariants.{Read, Write}, Holders.{Holders, is_within}, Told.{meets, clashes}, Facts.Tells}
use Rattle.nfs_ranges.specs.Laws.{SetKeeps}

-- Write meets whatever is held
meets_none : (o : Option Kind) → meets Write o ≡ false → o ≡ None
meets_none None e = refl
meets_none (Some k) e = absurd cc

-- and a writer meets each wish
meets_writer : (kind : Kind) → meets kind (Some Write) ≡ true
meets_writer Read = refl
meets_writer Write = refl

-- of another lock state: its kind does not meet the wish
pub unmet : (f : Holders) (s : ℕ) (kind : Kind) (first last b t : ℕ) → Tells f s kind first last None → is_within first last b ≡ true → t ≢ s
    → meets kind (f t b) ≡ false
unmet f s kind first last b t tells inside other =
    let range = and_parts _ _ inside in
    let clear : clashes f s kind b t ≡ false = tells b t (leb-true _ _ range.0) (leb-true _ _ range.1) in
    rw (ne_eqb t s other) at clear

-- in the range: a writer there is the one that was set, or none
inside_range : (f : Holders) (o : ℕ) (kind : Kind) (first last : ℕ) → Tells f o kind first last None → (s t b : ℕ) → s ≢ t → is_within first last b ≡ true
    → cond (eqb o s && true) (Some kind) (f s b) ≡ Some Write → cond (eqb o t && true) (Some kind) (f t b) ≡ None
inside_range f o kind first last tells s t b other inside e =
    elim (cases_eq o s) [
      | inl same ↦
          (let write : Some kind ≡ Some Write = rw (eq-eqb o s same) at e in
          let is : kind ≡ Write = cc in
          let apart : t ≢ o = λ q. other (sym (q ∙ same)) in
          rw (ne_eqb o t (λ q. apart (sym q))) (meets_none (f t b) (ap (λ k. meets k (f t b)) (sym is) ∙ unmet f o kind first last b t tells inside apart)))
      | inr differs ↦
          (let holds : f s b ≡ Some Write = rw (ne_eqb o s differs) at e in
          let no : meets kind (f s b) ≡ false = unmet f o kind first last b s tells inside (λ q. differs (sym q)) in
          let yes : meets kind (f s b) ≡ true = ap (meets kind) holds ∙ meets_writer kind in
          absurd (let bad : true ≡ false = sym yes ∙ no in cc))
    ]

outside_range : (o s t b : ℕ) (kind : Kind) (f : Holders) → (f s b ≡ Some Write → f t b ≡ None)
    → cond (eqb o s && false) (Some kind) (f s b) ≡ Some Write → cond (eqb o t && false) (Some kind) (f t b) ≡ None
outside_range o s t b kind f is e = rw (never (eqb o t)) (is (rw (never (eqb o s)) at e))
  where
    never : (v : Bool) → (v && false) ≡ false
    never true = refl
    never false = refl

pub set_keeps : SetKeeps
set_keeps f o kind first last tells is s t b other =
    elim (cases_Bool (is_within first last b)) [
      | inl inside ↦ rw inside (inside_range f o kind first last tells s t b other inside)
      | inr outside ↦ rw outside (outside_range o s t b kind f (is s t b other))
    ]
