-- The climb that looks whether an object lies at or below another: its steps, by rows, and that it meets no object without entries.
use Rattle.std.proofs.Common.{◌≡◌, ℕ, zero, suc, Bool, true, false, List, Option, Some, None, refl, sym, ◌∙◌, ap, subst, inl, inr}
use Rattle.std.proofs.lemmas.Bool.{cases_Bool, eqb-true, eq-eqb, false≢true}
use Rattle.std.specs.{Prelude.{◌==◌, ◌||◌, find}, Option.option_map_or}
use Rattle.nfs_tree.specs.{declared.row.Row.Row, Files.{parent_in, has_entries}, Names.is_at_or_below, Maps.HasOneRow, TreeInvariants.AreRows}
use Rattle.nfs_xdr.specs.Tables.{In}
use Rattle.nfs_xdr.proofs.Lists.{find_in, none_in, none_any}

pub climb_step : (rows : List Row) (top n m at p : ℕ) (whole : Bool) → n ≡ suc m → (at == top) ≡ false
    → parent_in rows at ≡ Some p → is_at_or_below rows top n at ≡ whole → is_at_or_below rows top m p ≡ whole
climb_step rows top n m at p whole more apart parent e =
    let here : is_at_or_below rows top (suc m) at ≡ whole = subst (λ n. is_at_or_below rows top n at ≡ whole) more e in
    sym (ap (λ b. b || option_map_or (λ p. is_at_or_below rows top m p) (parent_in rows at) false) apart
    ∙ ap (λ o. option_map_or (λ p. is_at_or_below rows top m p) o false) parent) ∙ here

pub none_below : (rows : List Row) (top : ℕ) → has_entries rows top ≡ false → (fuel d : ℕ) → is_at_or_below rows top fuel d ≡ (d == top)
none_below rows top none zero d = refl
none_below rows top none (suc fuel) d =
    elim (cases_Bool (d == top)) [
      | inl here ↦ rw here refl
      | inr other ↦ rw other (by_parent (find (λ r. r.object == d) rows) refl (λ p. none_below rows top none fuel p))
    ]
  where
    by_parent : (o : Option Row) → find (λ r. r.object == d) rows ≡ o → ((p : ℕ) → is_at_or_below rows top fuel p ≡ (p == top))
        → option_map_or (λ p. is_at_or_below rows top fuel p) (parent_in rows d) false ≡ false
    by_parent None h above = rw h refl
    by_parent (Some r) h above =
        rw h (above r.directory ∙ none_any (λ (r : Row). r.directory == top) rows r none (find_in (λ (r : Row). r.object == d) rows r h).0)

pub climb_here : (rows : List Row) (top n at : ℕ) → at ≡ top → is_at_or_below rows top n at ≡ true
climb_here rows top zero at same = eq-eqb at top same
climb_here rows top (suc n) at same = rw (eq-eqb at top same) refl

pub climb_ends : (rows : List Row) (top n at : ℕ) → (at == top) ≡ false → parent_in rows at ≡ None → is_at_or_below rows top n at ≡ false
climb_ends rows top zero at apart none = apart
climb_ends rows top (suc n) at apart none = rw (apart, none) refl

-- a row stands in a directory, so there is one
pub parent_by : (rows : List Row) (n p : ℕ) → parent_in rows n ≡ Some p → (r : Row) × In r rows × (r.object ≡ n) × (r.directory ≡ p)
parent_by rows n p e = by_row (find (λ r. r.object == n) rows) refl e
  where
    by_row : (o : Option Row) → find (λ r. r.object == n) rows ≡ o → parent_in rows n ≡ Some p → (r : Row) × In r rows × (r.object ≡ n) × (r.directory ≡ p)
    by_row None h e = absurd (let bad : None ≡ Some p = rw h at e in cc)
    by_row (Some r) h e =
        let at = find_in (λ (r : Row). r.object == n) rows r h in
        let directory : Some r.directory ≡ Some p = rw h at e in
        (r, at.0, eqb-true _ _ at.1, cc)

-- where one row names the object it is that one's directory
pub one_parent : (rows : List Row) (n : ℕ) (r : Row) → In r rows → r.object ≡ n → HasOneRow rows n → parent_in rows n ≡ Some r.directory
one_parent rows n r is same one = by_row (find (λ r. r.object == n) rows) refl
  where
    by_row : (o : Option Row) → find (λ r. r.object == n) rows ≡ o → parent_in rows n ≡ Some r.directory
    by_row None h = absurd (false≢true (sym (none_in (λ (r : Row). r.object == n) rows r h is) ∙ eq-eqb r.object n same))
    by_row (Some q) h =
        let at = find_in (λ (r : Row). r.object == n) rows q h in
        let is_it : q ≡ r = one q r at.0 is (eqb-true _ _ at.1) same in
        rw h (ap (λ (r : Row). Some r.directory) is_it)

pub has_one : (rows : List Row) (dirs there : ℕ → Bool) → AreRows rows dirs there → (n : ℕ) → dirs n ≡ true → HasOneRow rows n
has_one rows dirs there are n dir q r in_q in_r same_q same_r = are.one q r in_q in_r (same_q ∙ sym same_r) (ap dirs same_r ∙ dir)
