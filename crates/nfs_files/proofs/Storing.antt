-- OPEN keeps what every store keeps.
use Rattle.std.proofs.Common.{◌≡◌, ◌⊎◌, ℕ, Bool, true, false, cond, List, [], ◌∷◌, ◌++◌, map, Option, Some, None, refl, sym, ◌∙◌, ap, inl, inr}
use Rattle.std.proofs.lemmas.Bool.{eqb-true, false≢true}
use Rattle.std.specs.{Prelude.{◌==◌, ◌||◌, if◌then◌else◌}, List.list_any}
use Rattle.nfs_tree.specs.{Files.{Files, root, has_row}, Calls.is_regular_at}
use Rattle.nfs_opens.specs.{declared.records.OpenState.OpenState, Table.{Table, Asked}, Opening.{own_open, joins, new_open, opens_by, opens}}
use Rattle.nfs_names.specs.{State.{State, with_tree}, StoreInvariants.IsStore}

abbrev pub open_in : List OpenState → ℕ → Bool
open_in xs n = list_any (λ o. o.file == n) xs

-- an open that is joined stays one of its file
joined_same : (a : Asked) (k n : ℕ) (xs : List OpenState) → open_in (map (λ o. if o.number == k then joins a o else o) xs) n ≡ open_in xs n
joined_same a k n [] = refl
joined_same a k n (o ∷ os) =
    let file : (if o.number == k then joins a o else o).file ≡ o.file =
    elim (o.number == k) as (λ b. (cond b (joins a o) o).file ≡ o.file) [ true ↦ refl | false ↦ refl ] in
    ap (λ f. (f == n) || open_in (map (λ o. if o.number == k then joins a o else o) os) n) file ∙ ap (λ b. (o.file == n) || b) (joined_same a k n os)

pushed : (xs : List OpenState) (o : OpenState) (n : ℕ) → open_in (xs ++ o ∷ []) n ≡ open_in xs n || (o.file == n)
pushed [] o n = or_end (o.file == n)
  where
    or_end : (b : Bool) → b || false ≡ b
    or_end true = refl
    or_end false = refl
pushed (p ∷ ps) o n = ap (λ b. (p.file == n) || b) (pushed ps o n) ∙ or_again (p.file == n) (open_in ps n) (o.file == n)
  where
    or_again : (a b d : Bool) → a || (b || d) ≡ (a || b) || d
    or_again true b d = refl
    or_again false b d = refl

pub or_left : (a b : Bool) → a ≡ true → a || b ≡ true
or_left true b e = refl
or_left false b e = absurd (false≢true e)

or_split : (a b : Bool) → a || b ≡ true → (a ≡ true) ⊎ (b ≡ true)
or_split true b e = inl refl
or_split false b e = inr e

-- what was open stays open, and beside that only the file itself is
stays_open : (t : Table) (a : Asked) (o : Option OpenState) (n : ℕ) → open_in t.opens n ≡ true → open_in (opens_by t a o).after.opens n ≡ true
stays_open t a None n e = pushed t.opens (new_open t a) n ∙ or_left (open_in t.opens n) (a.file == n) e
stays_open t a (Some o) n e = joined_same a o.number n t.opens ∙ e

was_open : (t : Table) (a : Asked) (o : Option OpenState) (n : ℕ) → open_in (opens_by t a o).after.opens n ≡ true → (open_in t.opens n ≡ true) ⊎ (a.file ≡ n)
was_open t a None n e = elim (or_split (open_in t.opens n) (a.file == n) (sym (pushed t.opens (new_open t a) n) ∙ e))
    [ inl old ↦ inl old | inr new ↦ inr (eqb-true _ _ new) ]
was_open t a (Some o) n e = inl (sym (joined_same a o.number n t.opens) ∙ e)

pub used_open : (a r o p : Bool) → (o ≡ true → p ≡ true) → a || (r || o) ≡ true → a || (r || p) ≡ true
used_open true r o p f e = refl
used_open false true o p f e = refl
used_open false false o p f e = f e

pub store_opened : (s : State) (t : Files) (a : Asked) → is_regular_at t a.file ≡ true
    → IsStore (with_tree s t) → IsStore (record s { tree = t; opens = (opens s.opens a).after })
store_opened s t a file is = record {
  used = λ m there. used_open (m == root) (has_row t.rows m) (open_in s.opens.opens m)
      (open_in (opens s.opens a).after.opens m) (stays_open s.opens a (own_open s.opens a) m) (is.used m there);
  files = λ m some. elim (was_open s.opens a (own_open s.opens a) m some) [ inl old ↦ is.files m old | inr new ↦ ap (is_regular_at t) (sym new) ∙ file ];
}
