-- Objects through a change of one, a new one, and one that goes.
use Rattle.std.proofs.Common.{◌≡◌, ◌≢◌, ℕ, ◌<◌, ◌≤◌, ltb, Bool, true, false, cond, not, List, [], ◌∷◌, ◌++◌, map, length, get_or}
use Rattle.std.proofs.{Common.{Option, Some, None, refl, sym, ◌∙◌, ap, subst, arith}, lemmas.Bool.{eqb-true, eq-eqb, ne_eqb, ltb-true}}
use Rattle.std.proofs.{lemmas.List.Elements.All-from_recursion, lemmas.List.{get_or-map, length-map}}
use Rattle.std.specs.{Prelude.{◌==◌, filter, option_map, is_some}, Option.option_map_or}
use Rattle.nfs_xdr.specs.{declared.time.Time.Time, Tables.{IsRising}}
use Rattle.nfs_xdr.proofs.{Lists.{find_map, find_in, find_past, find_push_some, find_push_none}, Tables.{all_one, at_above, in_bounds, none_below}}
use Rattle.nfs_tree.specs.{declared.sets.Sets.Sets, declared.stored.Stored.Stored, Object.{is_directory, changed}}
use Rattle.nfs_tree.specs.declared.limits.Limits.{Limits}
use Rattle.nfs_tree.specs.{Files.{last_count, most_of, stored_in, change_at, with_changed}, Calls.CanChange}

-- the object of a number is a directory
abbrev pub is_directory_in : List Stored → ℕ → Bool
is_directory_in objects n = option_map_or (λ s. is_directory s.object.kind) (stored_in objects n) false

-- an object has no more bytes than its type may have
abbrev pub IsSized : Limits → Stored → Type 0
IsSized limits s = length s.bytes ≤ most_of limits s.object.kind

-- a change of objects that keeps numbers and types
pub record Keeps (objects : List Stored) (f : Stored → Stored) : Type 0 where
  pub number : (s : Stored) → (f s).number ≡ s.number
  pub kind : (s : Stored) → (f s).object.kind ≡ s.object.kind

pub keeps_changed : (n : ℕ) (now : Time) (sets : Sets) (objects : List Stored) → Keeps objects (change_at n now sets)
keeps_changed n now sets objects = record {
  number = λ s. elim (s.number == n) as (λ v. (cond v (record s { object = changed now sets s.object }) s).number ≡ s.number) [ true ↦ refl | false ↦ refl ];
  kind = λ s. elim (s.number == n) as (λ v. (cond v (record s { object = changed now sets s.object }) s).object.kind ≡ s.object.kind)
      [ true ↦ refl | false ↦ refl ];
}

-- .. and bounds of bytes
pub sized_changed : (limits : Limits) (n : ℕ) (now : Time) (sets : Sets) (s : Stored) → IsSized limits s → IsSized limits (change_at n now sets s)
sized_changed limits n now sets s sized = elim (s.number == n) as (λ v. IsSized limits (cond v (record s { object = changed now sets s.object }) s))
    [ true ↦ sized | false ↦ sized ]

pub stored_map : (objects : List Stored) (f : Stored → Stored) (n : ℕ)
    → ((s : Stored) → (f s).number ≡ s.number) → stored_in (map f objects) n ≡ option_map f (stored_in objects n)
stored_map objects f n same = find_map (λ s. s.number == n) f objects (λ s. ap (λ k. k == n) (same s))

there_by : (f : Stored → Stored) (o : Option Stored) → is_some (option_map f o) ≡ is_some o
there_by f None = refl
there_by f (Some s) = refl

pub there_map : (objects : List Stored) (f : Stored → Stored) (n : ℕ) → Keeps objects f → is_some (stored_in (map f objects) n) ≡ is_some (stored_in objects n)
there_map objects f n keeps = ap is_some (stored_map objects f n keeps.number) ∙ there_by f (stored_in objects n)

directory_by : (f : Stored → Stored) → ((s : Stored) → (f s).object.kind ≡ s.object.kind) → (o : Option Stored)
    → option_map_or (λ s. is_directory s.object.kind) (option_map f o) false ≡ option_map_or (λ s. is_directory s.object.kind) o false
directory_by f kind None = refl
directory_by f kind (Some s) = ap is_directory (kind s)

pub directory_map : (objects : List Stored) (f : Stored → Stored) (n : ℕ) → Keeps objects f → is_directory_in (map f objects) n ≡ is_directory_in objects n
directory_map objects f n keeps = ap (λ o. option_map_or (λ (s : Stored). is_directory s.object.kind) o false) (stored_map objects f n keeps.number)
    ∙ directory_by f keeps.kind (stored_in objects n)

there_some : (xs : List Stored) (n : ℕ) → is_some (stored_in xs n) ≡ true → (s : Stored) × (stored_in xs n ≡ Some s)
there_some xs n e = by_option (stored_in xs n) refl
  where
    by_option : (o : Option Stored) → stored_in xs n ≡ o → (s : Stored) × (stored_in xs n ≡ Some s)
    by_option None h = absurd (let bad : false ≡ true = rw h at e in cc)
    by_option (Some s) h = (s, h)

-- the number of what is there is between these
pub stored_within : (low high : ℕ) (xs : List Stored) (n : ℕ) → IsRising (λ s. s.number) low xs high → is_some (stored_in xs n) ≡ true → (low ≤ n) × (n < high)
stored_within low high xs n r e =
    let s = there_some xs n e in
    let is = find_in (λ (s : Stored). s.number == n) xs s.0 s.1 in
    subst (λ k. (low ≤ k) × (k < high)) (eqb-true s.0.number n is.1) (in_bounds (λ (s : Stored). s.number) low high xs s.0 r is.0)

-- what is there is there before a new one too
pub stored_push : (xs : List Stored) (x : Stored) (n : ℕ) → is_some (stored_in xs n) ≡ true → stored_in (xs ++ x ∷ []) n ≡ stored_in xs n
stored_push xs x n e = let s = there_some xs n e in find_push_some (λ s. s.number == n) xs x s.0 s.1 ∙ sym s.1

pub new_there : (xs : List Stored) (x : Stored) (low high : ℕ) → IsRising (λ s. s.number) low xs high → x.number ≡ high → stored_in (xs ++ x ∷ []) high ≡ Some x
new_there xs x low high r is =
    find_push_none (λ s. s.number == high) xs x (at_above (λ (s : Stored). s.number) low high high xs r (omega arith)) (eq-eqb x.number high is)

-- others stay when one goes
pub stored_dropped : (xs : List Stored) (m n : ℕ) → n ≢ m → stored_in (filter (λ s. not (s.number == m)) xs) n ≡ stored_in xs n
stored_dropped xs m n other = find_past (λ s. s.number == n) (λ s. not (s.number == m)) xs
    (λ s e. let is : s.number ≡ n = eqb-true _ _ e in rw (ne_eqb s.number m (λ same. other (sym is ∙ same))) refl)

-- the one object of a number can change
pub can_change_all : (xs : List Stored) (low high n : ℕ) → IsRising (λ s. s.number) low xs high
    → option_map_or (λ s. ltb s.object.change last_count) (stored_in xs n) false ≡ true → CanChange xs n
can_change_all xs low high n r e = by_option (stored_in xs n) refl
  where
    by_option : (o : Option Stored) → stored_in xs n ≡ o → CanChange xs n
    by_option None h = absurd (let bad : false ≡ true = rw h at e in cc)
    by_option (Some s) h =
        let small : s.object.change < last_count = ltb-true _ _ (rw h at e) in
        λ k d lt same. rw (all_one (λ (s : Stored). s.number) n low high xs r s h k d lt same) small

-- there is none of a number that none has
pub can_change_none : (xs : List Stored) (low high n : ℕ) → IsRising (λ s. s.number) low xs high → n < low → CanChange xs n
can_change_none xs low high n r lt = All-from_recursion (λ s. s.number ≡ n → s.object.change < last_count) xs
    (none_below (λ (s : Stored). s.object.change < last_count) (λ (s : Stored). s.number) n low high xs lt r)

-- a change of another object
pub can_change_after : (xs : List Stored) (m n : ℕ) (now : Time) (sets : Sets) → n ≢ m → CanChange xs n → CanChange (with_changed m now sets xs) n
can_change_after xs m n now sets other can k d lt same =
    let within : k < length xs = subst (λ l. k < l) (length-map xs (change_at m now sets)) lt in
    let y = get_or xs k d in
    let is : get_or (with_changed m now sets xs) k d ≡ change_at m now sets y = get_or-map (change_at m now sets) xs k d d within in
    let number : y.number ≡ n = sym ((keeps_changed m now sets xs).number y) ∙ ap (λ (s : Stored). s.number) (sym is) ∙ same in
    let equal : change_at m now sets y ≡ y = rw (ne_eqb y.number m (λ q. other (sym number ∙ q))) refl in
    rw (is ∙ equal) (can k d within number)
