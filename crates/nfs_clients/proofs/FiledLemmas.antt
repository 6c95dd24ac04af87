-- What changes of the ordered map make of the list of records.
use Rattle.std.proofs.Common.{◌≡◌, ℕ, ◌+◌, ◌<◌, ◌≤◌, suc, Bool, true, false, cond, not, List, [], ◌∷◌, ◌++◌, Option, Some, None, refl, sym, ◌∙◌, ap, subst, arith, inl, inr}
use Rattle.std.proofs.{lemmas.Bool.{cases_eq, ne_eqb, eq-eqb}, lemmas.Bool.Decides.nat_tests}
use Rattle.std.specs.{Prelude.{◌==◌, find, nat_lt}, Ordering.nat_cmp, declared.cmp.Ordering.TheVariants.Greater}
use Rattle.std.specs.declared.ops.Bound.TheVariants.{Excluded, Unbounded}
use Rattle.std.specs.{BTreeMap.{is_at, insert_entry, Range.{range_contains, entries_between}}, Map.{lookup, remove_entry, set_value, values_of}}
use Rattle.nfs_xdr.specs.Tables.{IsRising, record_at, without_record, with_record}
use Rattle.nfs_xdr.proofs.{Lists.filter_all, Tables.{IsRising-below, IsRising-push, IsRising-filter, IsRising-map, in_bounds, at_below, with_none}}
use Rattle.nfs_clients.specs.{Roster.ClientRecord, Filed.{entries_of, IsFiled}}
use Rattle.nfs_clients.proofs.Members.{the_id, change_at}

at_id : (n : ℕ) (c : ClientRecord) → is_at (nat_cmp n) c.id ≡ (c.id == n)
at_id n c = grind (arith, nat_tests)

above : (x c : ClientRecord) → c.id < x.id → nat_cmp x.id c.id ≡ Greater
above x c lt = grind (arith, nat_tests)

values_entries : (cs : List ClientRecord) → values_of (entries_of cs) ≡ cs
values_entries [] = refl
values_entries (c ∷ cs) = ap (λ xs. c ∷ xs) (values_entries cs)

-- entries are of these records
pub record Files (es : List (ℕ × ClientRecord)) (cs : List ClientRecord) : Type 0 where
  pub is : IsFiled es
  pub view : values_of es ≡ cs

files_as : (es : List (ℕ × ClientRecord)) (cs : List ClientRecord) (high : ℕ) → es ≡ entries_of cs → IsRising the_id 0 cs high → Files es cs
files_as es cs high e rise =
    let view : values_of es ≡ cs = ap values_of e ∙ values_entries cs in
    record {
      is = record { high = high; filed = e ∙ ap entries_of (sym view); rising = subst (λ cs. IsRising the_id 0 cs high) (sym view) rise };
      view = view;
    }

found : (n : ℕ) (cs : List ClientRecord) → lookup (is_at (nat_cmp n)) (entries_of cs) ≡ record_at the_id cs n
found n [] = refl
found n (c ∷ cs) = rw (at_id n c) (ap (λ o. cond (c.id == n) (Some c) o) (found n cs))

pub find_filed : (es : List (ℕ × ClientRecord)) (n : ℕ) → IsFiled es → lookup (is_at (nat_cmp n)) es ≡ record_at the_id (values_of es) n
find_filed es n is = ap (lookup (is_at (nat_cmp n))) is.filed ∙ found n (values_of es)

removed : (n low high : ℕ) (cs : List ClientRecord) → IsRising the_id low cs high
    → remove_entry (is_at (nat_cmp n)) (entries_of cs) ≡ entries_of (without_record the_id cs n)
removed n low high [] rise = refl
removed n low high (c ∷ cs) rise = elim (cases_eq c.id n) [
  | inl same ↦ (let left = filter_all (λ (x : ClientRecord). not (x.id == n)) cs (λ x there. (let more = (in_bounds the_id (suc c.id) high cs x rise.1 there).0 in
      ap not (ne_eqb x.id n (λ e. absurd (omega arith))))) in
      rw (at_id n c, eq-eqb c.id n same) (ap entries_of (sym left)))
  | inr other ↦ rw (at_id n c, ne_eqb c.id n other) (ap (λ es. (c.id, c) ∷ es) (removed n (suc c.id) high cs rise.1))
]

pub remove_filed : (es fs : List (ℕ × ClientRecord)) (n : ℕ) → IsFiled es → fs ≡ remove_entry (is_at (nat_cmp n)) es → Files fs (without_record the_id (values_of es) n)
remove_filed es fs n is e = files_as fs (without_record the_id (values_of es) n) is.high
    (e ∙ ap (remove_entry (is_at (nat_cmp n))) is.filed ∙ removed n 0 is.high (values_of es) is.rising)
    (IsRising-filter the_id (λ x. not (x.id == n)) 0 is.high (values_of es) is.rising)

pushed : (x : ClientRecord) (low : ℕ) (cs : List ClientRecord) → IsRising the_id low cs x.id → insert_entry nat_cmp (entries_of cs) x.id x ≡ entries_of (cs ++ x ∷ [])
pushed x low [] rise = refl
pushed x low (c ∷ cs) rise =
    let bound : suc c.id ≤ x.id = IsRising-below the_id (suc c.id) x.id cs rise.1 in
    rw (above x c (omega arith)) (ap (λ es. (c.id, c) ∷ es) (pushed x (suc c.id) cs rise.1))

pub push_filed : (es fs : List (ℕ × ClientRecord)) (x : ClientRecord) → IsFiled es → IsRising the_id 0 (values_of es) x.id
    → fs ≡ insert_entry nat_cmp es x.id x → Files fs (values_of es ++ x ∷ [])
push_filed es fs x is rise e = files_as fs (values_of es ++ x ∷ []) (x.id + 1)
    (e ∙ ap (λ es. insert_entry nat_cmp es x.id x) is.filed ∙ pushed x 0 (values_of es) rise)
    (IsRising-push the_id 0 x.id (x.id + 1) (values_of es) x refl refl rise)

written : (f : ClientRecord → ClientRecord) (n low high : ℕ) (cs : List ClientRecord) (old new : ClientRecord) → IsRising the_id low cs high
    → record_at the_id cs n ≡ Some old → new ≡ f old → (f old).id ≡ old.id
    → set_value (is_at (nat_cmp n)) (entries_of cs) new ≡ entries_of (with_record the_id cs n f)
written f n low high [] old new rise at made same = absurd cc
written f n low high (c ∷ cs) old new rise at made same = elim (cases_eq c.id n) [
  | inl here ↦ (let one : Some c ≡ Some old = rw (eq-eqb c.id n here) at at in
      let is : c ≡ old = cc in
      let value : new ≡ f c = made ∙ ap f (sym is) in
      let number : c.id ≡ (f c).id = ap the_id is ∙ sym same ∙ ap (λ (x : ClientRecord). (f x).id) (sym is) in
      let rest = with_none the_id f n cs (at_below the_id (suc c.id) high n cs rise.1 (omega arith)) in
      rw (at_id n c, eq-eqb c.id n here) (ap (λ (w : ClientRecord). (c.id, w) ∷ entries_of cs) value ∙ ap (λ (k : ℕ). (k, f c) ∷ entries_of cs) number
      ∙ ap (λ xs. ((f c).id, f c) ∷ entries_of xs) (sym rest)))
  | inr other ↦ (let later : record_at the_id cs n ≡ Some old = rw (ne_eqb c.id n other) at at in
      rw (at_id n c, ne_eqb c.id n other) (ap (λ es. (c.id, c) ∷ es) (written f n (suc c.id) high cs old new rise.1 later made same)))
]

same_ids : (f : ClientRecord → ClientRecord) (n : ℕ) → ((c : ClientRecord) → (f c).id ≡ c.id) → (c : ClientRecord) → (change_at n f c).id ≡ c.id
same_ids f n mild c = elim (c.id == n) as (λ b. (cond b (f c) c).id ≡ c.id) [ true ↦ mild c | false ↦ refl ]

pub write_filed : (f : ClientRecord → ClientRecord) → ((c : ClientRecord) → (f c).id ≡ c.id) → (es fs : List (ℕ × ClientRecord)) (n : ℕ) (old new : ClientRecord)
    → IsFiled es → lookup (is_at (nat_cmp n)) es ≡ Some old → new ≡ f old → fs ≡ set_value (is_at (nat_cmp n)) es new
    → Files fs (with_record the_id (values_of es) n f)
write_filed f mild es fs n old new is at made e = files_as fs (with_record the_id (values_of es) n f) is.high
    (e ∙ ap (λ es. set_value (is_at (nat_cmp n)) es new) is.filed
    ∙ written f n 0 is.high (values_of es) old new is.rising (sym (find_filed es n is) ∙ at) made (mild old))
    (IsRising-map the_id (change_at n f) (same_ids f n mild) 0 is.high (values_of es) is.rising)

-- no record has the id
pub unwritten : (f : ClientRecord → ClientRecord) (es : List (ℕ × ClientRecord)) (n : ℕ) → IsFiled es → lookup (is_at (nat_cmp n)) es ≡ None
    → values_of es ≡ with_record the_id (values_of es) n f
unwritten f es n is at = sym (with_none the_id f n (values_of es) (sym (find_filed es n is) ∙ at))

-- The first of the entries behind an id.

is_behind : (n m : ℕ) → range_contains nat_cmp (Excluded n) Unbounded m ≡ nat_lt n m
is_behind n m = grind (arith, nat_tests)

-- of no entries, and of some
abbrev pub first_of : List (ℕ × ClientRecord) → Option ClientRecord
first_of [] = None
first_of (e ∷ es) = Some e.1

pub first_behind : (n : ℕ) (cs : List ClientRecord) → first_of (entries_between nat_cmp (Excluded n) Unbounded (entries_of cs)) ≡ find (λ c. nat_lt n c.id) cs
first_behind n [] = refl
first_behind n (c ∷ cs) = rw (is_behind n c.id) (go (nat_lt n c.id) (first_behind n cs))
  where
    go : (b : Bool) → first_of (entries_between nat_cmp (Excluded n) Unbounded (entries_of cs)) ≡ find (λ c. nat_lt n c.id) cs
        → first_of (cond b ((c.id, c) ∷ entries_between nat_cmp (Excluded n) Unbounded (entries_of cs)) (entries_between nat_cmp (Excluded n) Unbounded (entries_of cs)))
        ≡ cond b (Some c) (find (λ c. nat_lt n c.id) cs)
    go true rest = refl
    go false rest = rest
