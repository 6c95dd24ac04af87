-- What the locked bytes of files say of who holds which byte, after a change of one file.
use Rattle.std.proofs.Common.{◌≡◌, ◌≢◌, ◌⊎◌, inl, inr, ℕ, zero, suc, Bool, true, false, cond, not, List, [], ◌∷◌, Option, Some, None, refl, sym, ◌∙◌, ap, subst, arith}
use Rattle.std.proofs.{Math.Path.fun_ext, lemmas.Map.Steps.set_value_same, lemmas.Bool.{cases_eq, ne_eqb, eq-eqb, false≢true}, lemmas.Bool.Decides.nat_tests}
use Rattle.std.specs.{Prelude.{◌==◌, is_some, IsSome, ◌&&◌, ◌||◌, ◌^◌}, List.list_any, Ordering.nat_cmp}
use Rattle.std.specs.{BTreeMap.{BTreeMap, is_at, get, Updates, WritesThrough}, Map.{lookup, set_value}}
use Rattle.nfs_ranges.specs.{declared.Kind.Kind, Holders.{Holders, LockedBytes, at, nobody, cleared, dropped, holds_any, least}, Facts.Tells}
use Rattle.nfs_opens.specs.Holding.{FileHolders, held_by, on_file, is_listed, ListsNoMore}

abbrev pub holders_of : Option LockedBytes → Holders
holders_of None = nobody
holders_of (Some bytes) = at bytes

pub file_here : (held : FileHolders) (f : ℕ) (g : Holders → Holders) (k : ℕ) → k ≡ f → on_file held f g k ≡ g (held f)
file_here held f g k same = ap (λ (b : Bool). cond b (g (held k)) (held k)) (eq-eqb k f same) ∙ ap (λ j. g (held j)) same

pub file_other : (held : FileHolders) (f : ℕ) (g : Holders → Holders) (k : ℕ) → k ≢ f → on_file held f g k ≡ held k
file_other held f g k other = ap (λ (b : Bool). cond b (g (held k)) (held k)) (ne_eqb k f other)

at_file : (f k : ℕ) → is_at (nat_cmp f) k ≡ (k == f)
at_file f k = grind (arith, nat_tests)

-- the holders of a file are those of what is found under it
pub held_found : (f : ℕ) (es : List (ℕ × LockedBytes)) → held_by es f ≡ holders_of (lookup (is_at (nat_cmp f)) es)
held_found f [] = refl
held_found f (e ∷ es) = rw (at_file f e.0) (go (e.0 == f) (held_found f es))
  where
    go : (b : Bool) → held_by es f ≡ holders_of (lookup (is_at (nat_cmp f)) es)
        → cond b (at e.1) (held_by es f) ≡ holders_of (cond b (Some e.1) (lookup (is_at (nat_cmp f)) es))
    go true rest = refl
    go false rest = rest

-- a file under which nothing is found is not listed
pub not_listed : (f : ℕ) (m n : BTreeMap ℕ LockedBytes) → Updates nat_cmp m n f None → list_any (λ e. e.0 == f) n.entries ≡ false
not_listed f m n updates = none_found n.entries (updates.0 f ∙ ap (λ (b : Bool). cond b None (lookup (is_at (nat_cmp f)) m.entries)) (at_file f f ∙ eq-eqb f f refl))
  where
    none_found : (es : List (ℕ × LockedBytes)) → lookup (is_at (nat_cmp f)) es ≡ None → list_any (λ e. e.0 == f) es ≡ false
    none_found [] none = refl
    none_found (e ∷ es) none = go (e.0 == f) (none_found es) (ap (λ (b : Bool). cond b (Some e.1) (lookup (is_at (nat_cmp f)) es)) (sym (at_file f e.0)) ∙ none)
      where
        go : (b : Bool) → (lookup (is_at (nat_cmp f)) es ≡ None → list_any (λ e. e.0 == f) es ≡ false)
            → cond b (Some e.1) (lookup (is_at (nat_cmp f)) es) ≡ None → (b || list_any (λ e. e.0 == f) es) ≡ false
        go true rest found = absurd cc
        go false rest found = rest found

-- a file is listed where something is found under it
listed_found : (f : ℕ) (es : List (ℕ × LockedBytes)) → is_listed f es ≡ is_some (lookup (is_at (nat_cmp f)) es)
listed_found f [] = refl
listed_found f (e ∷ es) = rw (at_file f e.0) (go (e.0 == f) (listed_found f es))
  where
    go : (b : Bool) → is_listed f es ≡ is_some (lookup (is_at (nat_cmp f)) es)
        → (b || is_listed f es) ≡ is_some (cond b (Some e.1) (lookup (is_at (nat_cmp f)) es))
    go true rest = refl
    go false rest = rest

-- a change of what is found under one file lists and drops no other
pub listed_other : (f : ℕ) (m n : BTreeMap ℕ LockedBytes) (w : Option LockedBytes) → Updates nat_cmp m n f w → (k : ℕ) → k ≢ f → is_listed k n.entries ≡ is_listed k m.entries
listed_other f m n w updates k other = listed_found k n.entries
    ∙ (ap is_some (updates.0 k ∙ ap (λ (b : Bool). cond b w (lookup (is_at (nat_cmp k)) m.entries)) (at_file f k ∙ ne_eqb k f other))
    ∙ sym (listed_found k m.entries))

-- .. so none is listed but that one
pub lists_one : (f : ℕ) (m n : BTreeMap ℕ LockedBytes) (w : Option LockedBytes) → Updates nat_cmp m n f w → (k : ℕ) → is_listed k n.entries ≡ true
    → (k ≡ f) ⊎ (is_listed k m.entries ≡ true)
lists_one f m n w updates k some = elim (cases_eq k f) [ inl here ↦ inl here | inr other ↦ inr (sym (listed_other f m n w updates k other) ∙ some) ]

-- a file that goes
pub lists_less : (f : ℕ) (m n : BTreeMap ℕ LockedBytes) → Updates nat_cmp m n f None → ListsNoMore m.entries n.entries
lists_less f m n updates k some = elim (cases_eq k f) [
  | inl here ↦ absurd (false≢true (sym (not_listed f m n updates) ∙ (ap (λ (j : ℕ). is_listed j n.entries) (sym here) ∙ some)))
  | inr other ↦ sym (listed_other f m n None updates k other) ∙ some
]

-- a write over the bytes of a file that is listed
pub lists_same : (f : ℕ) (m n : BTreeMap ℕ LockedBytes) (old new : LockedBytes) → get nat_cmp m f ≡ Some old → WritesThrough nat_cmp (nat_cmp f) m new n
    → ListsNoMore m.entries n.entries
lists_same f m n old new found writes k some = elim (cases_eq k f) [
  | inl here ↦ ap (λ (j : ℕ). is_listed j m.entries) here ∙ (listed_found f m.entries ∙ ap is_some found)
  | inr other ↦ sym (listed_other f m n (Some new) (writes.3 (subst (λ (o : Option LockedBytes). IsSome o) (sym found) refl)) k other) ∙ some
]

-- a change of what is found under a file changes its holders alone
pub held_updated : (f : ℕ) (g : Holders → Holders) (m n : BTreeMap ℕ LockedBytes) (w : Option LockedBytes) → Updates nat_cmp m n f w
    → holders_of w ≡ g (held_by m.entries f) → held_by n.entries ≡ on_file (held_by m.entries) f g
held_updated f g m n w updates made = fun_ext (λ k. elim (cases_eq k f) [
  | inl here ↦ held_found k n.entries
      ∙ (ap holders_of (updates.0 k ∙ ap (λ (b : Bool). cond b w (lookup (is_at (nat_cmp k)) m.entries)) (at_file f k ∙ eq-eqb k f here))
      ∙ (made ∙ sym (file_here (held_by m.entries) f g k here)))
  | inr other ↦ held_found k n.entries
      ∙ (ap holders_of (updates.0 k ∙ ap (λ (b : Bool). cond b w (lookup (is_at (nat_cmp k)) m.entries)) (at_file f k ∙ ne_eqb k f other))
      ∙ (sym (held_found k m.entries) ∙ sym (file_other (held_by m.entries) f g k other)))
])

-- so does a write over the bytes of a file
pub held_written : (f : ℕ) (g : Holders → Holders) (m n : BTreeMap ℕ LockedBytes) (old new : LockedBytes) → get nat_cmp m f ≡ Some old
    → WritesThrough nat_cmp (nat_cmp f) m new n → at new ≡ g (at old) → held_by n.entries ≡ on_file (held_by m.entries) f g
held_written f g m n old new found writes made =
    held_updated f g m n (Some new) (writes.3 (subst (λ (o : Option LockedBytes). IsSome o) (sym found) refl))
    (made ∙ ap g (sym (held_found f m.entries ∙ ap holders_of found)))

-- writing what stands there changes nothing
pub written_same : (f : ℕ) (m n : BTreeMap ℕ LockedBytes) (old new : LockedBytes) → get nat_cmp m f ≡ Some old → WritesThrough nat_cmp (nat_cmp f) m new n
    → new ≡ old → n.entries ≡ m.entries
written_same f m n old new found writes same =
    writes.0 ∙ (ap (set_value (is_at (nat_cmp f)) m.entries) same ∙ set_value_same (is_at (nat_cmp f)) m.entries old found)

-- a change that is none on the file is none
pub on_file_same : (held : FileHolders) (f : ℕ) (g : Holders → Holders) → g (held f) ≡ held f → held ≡ on_file held f g
on_file_same held f g same = fun_ext (λ k. elim (cases_eq k f) [
  | inl this ↦ ap held this ∙ sym (file_here held f g k this ∙ same)
  | inr other ↦ sym (file_other held f g k other)
])

none_either : (b : Bool) (o : Option Kind) → o ≡ None → cond b None o ≡ None
none_either true o e = refl
none_either false o e = e

pub nobody_cleared : (s first last : ℕ) → cleared nobody s first last ≡ nobody
nobody_cleared s first last = fun_ext (λ t. fun_ext (λ b. none_either _ None refl))

pub nobody_dropped : (s : ℕ) → dropped nobody s ≡ nobody
nobody_dropped s = fun_ext (λ t. fun_ext (λ b. none_either _ None refl))

nobody_has : (s n from : ℕ) → least (λ b. is_some (nobody s b)) from n ≡ None
nobody_has s zero from = refl
nobody_has s (suc n) from = nobody_has s n (suc from)

pub nobody_holds : (s : ℕ) → holds_any nobody s ≡ false
unfolding holds_any
nobody_holds s = ap is_some (nobody_has s (2 ^ 64) 0)

pub nobody_clashes : (s : ℕ) (kind : Kind) (first last : ℕ) → Tells nobody s kind first last None
nobody_clashes s kind first last b t from to = never (t == s)
  where
    never : (same : Bool) → (not same && false) ≡ false
    never true = refl
    never false = refl
