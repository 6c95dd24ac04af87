-- Each directory with a row is reached by one walk.
use Rattle.std.proofs.Common.{◌≡◌, ◌⊎◌, ℕ, zero, suc, Bool, true, List, [], ◌∷◌, ◌++◌, Option, Some, None, refl, sym, ◌∙◌, ap, inl, inr}
use Rattle.std.specs.Prelude.{option_and_then}
use Rattle.nfs_tree.specs.{declared.row.Row.Row, Files.{Files, root, is_entry, entry, is_directory_at, is_there}, Walks.{walk, HasOneWalk, IsWellFormed}}
use Rattle.nfs_tree.specs.TreeInvariants.{Grounded, AreRows, IsTree}
use Rattle.nfs_xdr.specs.Tables.{In}
use Rattle.nfs_xdr.proofs.Lists.{find_in}
use Rattle.nfs_tree.proofs.RowsKept.{entry_parts}

pub then_walk : (rows : List Row) (d : ℕ) (names : List (List ℕ)) (r : Row) → walk rows d names ≡ Some r.directory
    → entry rows r.directory r.name ≡ Some r → walk rows d (names ++ r.name ∷ []) ≡ Some r.object
then_walk rows d [] r e found = let same : d ≡ r.directory = cc in rw (same, found) refl
then_walk rows d (name ∷ names) r e found = then_by (entry rows d name) refl (λ q w. then_walk rows q names r w found)
  where
    then_by : (o : Option Row) → entry rows d name ≡ o → ((q : ℕ) → walk rows q names ≡ Some r.directory → walk rows q (names ++ r.name ∷ []) ≡ Some r.object)
        → option_and_then (λ q. walk rows q.object (names ++ r.name ∷ [])) (entry rows d name) ≡ Some r.object
    then_by None h ih = absurd (let bad : None ≡ Some r.directory = rw h at e in cc)
    then_by (Some q) h ih = rw h (ih q.object (rw h at e))

-- a walk is empty, or ends in a row
abbrev pub Ends : List Row → ℕ → List (List ℕ) → ℕ → Type 0
Ends rows d names to = ((names ≡ []) × (d ≡ to))
    ⊎ ((first : List (List ℕ)) × (r : Row) × (names ≡ first ++ r.name ∷ []) × (walk rows d first ≡ Some r.directory) × In r rows × (r.object ≡ to))

pub ends : (rows : List Row) (d : ℕ) (names : List (List ℕ)) (to : ℕ) → walk rows d names ≡ Some to → Ends rows d names to
ends rows d [] to e = inl (refl, cc)
ends rows d (name ∷ names) to e = ends_by (entry rows d name) refl (λ q w. ends rows q names to w)
  where
    ends_by : (o : Option Row) → entry rows d name ≡ o → ((q : ℕ) → walk rows q names ≡ Some to → Ends rows q names to) → Ends rows d (name ∷ names) to
    ends_by None h ih = absurd (let bad : None ≡ Some to = rw h at e in cc)
    ends_by (Some q) h ih =
        let at_q = find_in (is_entry d name) rows q h in
        let parts = entry_parts d name q at_q.1 in
        elim (ih q.object (rw h at e)) [
          | inl last ↦ inr ([], q, rw (last.0, parts.1) refl, rw parts.0 refl, at_q.0, last.1)
          | inr more ↦ inr (name ∷ more.0, more.1, ap (λ ns. name ∷ ns) more.2, rw h more.3, more.4, more.5)
        ]

-- two walks to one directory are one
walks_same : (rows : List Row) (dirs there : ℕ → Bool) → AreRows rows dirs there → (n d : ℕ) → Grounded rows n d
    → dirs d ≡ true → (a b : List (List ℕ)) → walk rows root a ≡ Some d → walk rows root b ≡ Some d → a ≡ b
walks_same rows dirs there are zero d g dir a b wa wb = by_ends (ends rows root a d wa) (ends rows root b d wb)
  where
    by_ends : Ends rows root a d → Ends rows root b d → a ≡ b
    by_ends (inl ea) (inl eb) = ea.0 ∙ sym eb.0
    by_ends (inl ea) (inr eb) = absurd (are.free eb.1 eb.4 (eb.5 ∙ sym ea.1))
    by_ends (inr ea) eb = absurd (are.free ea.1 ea.4 (ea.5 ∙ g))
walks_same rows dirs there are (suc n) d g dir a b wa wb = by_ends (ends rows root a d wa) (ends rows root b d wb)
    (λ a b wa wb. walks_same rows dirs there are n g.0.directory g.3 (are.stands g.0 g.1) a b wa wb)
  where
    by_ends : Ends rows root a d → Ends rows root b d
        → ((a b : List (List ℕ)) → walk rows root a ≡ Some g.0.directory → walk rows root b ≡ Some g.0.directory → a ≡ b) → a ≡ b
    by_ends (inl ea) eb ih = absurd (are.free g.0 g.1 (g.2 ∙ sym ea.1))
    by_ends (inr ea) (inl eb) ih = absurd (are.free g.0 g.1 (g.2 ∙ sym eb.1))
    by_ends (inr ea) (inr eb) ih =
        let qa : ea.1 ≡ g.0 = are.one ea.1 g.0 ea.4 g.1 (ea.5 ∙ sym g.2) (ap dirs g.2 ∙ dir) in
        let qb : eb.1 ≡ g.0 = are.one eb.1 g.0 eb.4 g.1 (eb.5 ∙ sym g.2) (ap dirs g.2 ∙ dir) in
        let first : ea.0 ≡ eb.0 = ih ea.0 eb.0 (ea.3 ∙ ap (λ (r : Row). Some r.directory) qa) (eb.3 ∙ ap (λ (r : Row). Some r.directory) qb) in
        let name : ea.1.name ≡ eb.1.name = ap (λ (r : Row). r.name) (qa ∙ sym qb) in
        ea.2 ∙ ap (λ ns. ns ++ ea.1.name ∷ []) first ∙ ap (λ nm. eb.0 ++ nm ∷ []) name ∙ sym eb.2

-- the names from the root to what is reached
names_to : (rows : List Row) (dirs there : ℕ → Bool) → AreRows rows dirs there → (n d : ℕ)
    → Grounded rows n d → (names : List (List ℕ)) × (walk rows root names ≡ Some d)
names_to rows dirs there are zero d g = ([], ap Some (sym g))
names_to rows dirs there are (suc n) d g =
    let up = names_to rows dirs there are n g.0.directory g.3 in
    (up.0 ++ g.0.name ∷ [], then_walk rows root up.0 g.0 up.1 (are.found g.0 g.1) ∙ ap Some g.2)

one_walk : (rows : List Row) (dirs there : ℕ → Bool) → AreRows rows dirs there → (r : Row) → In r rows → dirs r.object ≡ true → HasOneWalk rows r.object
one_walk rows dirs there are r is dir =
    let up = are.grounded r is in
    let g : Grounded rows (suc up.0) r.object = (r, is, refl, up.1) in
    let names = names_to rows dirs there are (suc up.0) r.object g in
    (names.0, names.1, λ others w. walks_same rows dirs there are (suc up.0) r.object g dir others names.0 w names.1)

pub well_formed : (t : Files) → IsTree t → IsWellFormed t
well_formed t is = record {
  root = is.root;
  stands = is.rows.stands;
  names = is.rows.names;
  one_row = is.rows.one;
  one_walk = one_walk t.rows (λ n. is_directory_at t n) (λ n. is_there t n) is.rows;
}
