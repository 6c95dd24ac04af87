-- Rows of a tree that give a directory the same entries and an object the same number of names.
use Rattle.std.proofs.Common.{◌≡◌, ◌≢◌, ℕ, suc, ◌+◌, true, false, cond, not, List, [], ◌∷◌, ◌++◌, length, Some, refl, sym, ◌∙◌, ap, subst, arith, inl, inr}
use Rattle.std.proofs.lemmas.Bool.{cases_Bool, eq-eqb, ne_eqb, eqb-true, false≢true}
use Rattle.std.specs.Prelude.{◌==◌, if◌then◌else◌}
use Rattle.nfs_xdr.specs.Tables.{In, IsRising}
use Rattle.nfs_xdr.proofs.{Lists.{filter_past, filter_all, count_push, in_filter, stays_in, find_in}, Tables.{in_bounds, IsRising-filter}}
use Rattle.nfs_tree.specs.{declared.row.Row.Row, Files.{Files, is_entry, entry, has_name, is_there, is_directory_at, links_in, without_entry}}
use Rattle.nfs_tree.specs.{Names.{Move, moved_object, replaced_object, moves, with_row}, TreeInvariants.IsTree}
use Rattle.nfs_tree.proofs.{Trees.{entry_names, row_of}, RowsKept.only_entry}
use Rattle.nfs_promises.specs.Bytes.ChangeTells.{entries_in}

pub record SameRows (n : ℕ) (before behind : List Row) : Type 0 where
  pub entries : entries_in behind n ≡ entries_in before n
  pub names : links_in behind n ≡ links_in before n

pub rows_are : (n : ℕ) (rows : List Row) → SameRows n rows rows
rows_are n rows = record { entries = refl; names = refl }

pub rows_on : (n : ℕ) (a b c : List Row) → SameRows n b c → SameRows n a b → SameRows n a c
rows_on n a b c late early = record { entries = late.entries ∙ early.entries; names = late.names ∙ early.names }

-- a row that comes
entries_push : (rows : List Row) (r : Row) (n : ℕ) → r.directory ≢ n → entries_in (rows ++ r ∷ []) n ≡ entries_in rows n
entries_push [] r n other = rw (ne_eqb r.directory n other) refl
entries_push (x ∷ xs) r n other = ap (λ (ys : List Row). cond (x.directory == n) (x ∷ ys) ys) (entries_push xs r n other)

pub rows_push : (rows : List Row) (r : Row) (n : ℕ) → r.directory ≢ n → r.object ≢ n → SameRows n rows (rows ++ r ∷ [])
rows_push rows r n other apart =
    let count : links_in (rows ++ r ∷ []) n ≡ links_in rows n + 0 = rw (ne_eqb r.object n apart) at (count_push (λ (x : Row). x.object == n) rows r) in
    record { entries = entries_push rows r n other; names = omega arith }

-- the rows of a name that go, in another directory
entries_without : (d : ℕ) (name : List ℕ) (rows : List Row) (n : ℕ) → d ≢ n → entries_in (without_entry d name rows) n ≡ entries_in rows n
entries_without d name rows n other =
    filter_past (λ (r : Row). r.directory == n) (λ r. not (is_entry d name r)) rows (λ x there here.
    (let is : x.directory ≡ n = eqb-true x.directory n here in
    rw (ne_eqb x.directory d (λ same. other (sym same ∙ is))) refl))

-- all of them name this object
abbrev pub AllName : List Row → ℕ → List ℕ → ℕ → Type 0
AllName rows d name object = (r : Row) → In r rows → is_entry d name r ≡ true → r.object ≡ object

names_without : (d : ℕ) (name : List ℕ) (rows : List Row) (object n : ℕ) → AllName rows d name object → object ≢ n
    → links_in (without_entry d name rows) n ≡ links_in rows n
names_without d name rows object n all other =
    ap length (filter_past (λ (r : Row). r.object == n) (λ r. not (is_entry d name r)) rows (λ x there here. elim (cases_Bool (is_entry d name x)) [
      | inl is ↦ absurd (other (sym (all x there is) ∙ eqb-true x.object n here))
      | inr past ↦ ap not past
    ]))

pub rows_without : (d : ℕ) (name : List ℕ) (rows : List Row) (object n : ℕ) → AllName rows d name object → d ≢ n → object ≢ n
    → SameRows n rows (without_entry d name rows)
rows_without d name rows object n all other apart = record {
  entries = entries_without d name rows n other;
  names = names_without d name rows object n all apart;
}

-- A name has one row, so an object that loses a name loses one row.

name_first : (r : Row) (rows : List Row) (n : ℕ) → links_in (r ∷ rows) n ≡ (if r.object == n then 1 else 0) + links_in rows n
name_first r rows n = elim (cases_Bool (r.object == n)) [ inl here ↦ rw here (omega arith) | inr other ↦ rw other (omega arith) ]

name_mine : (r : Row) (rows : List Row) (n : ℕ) → r.object ≡ n → links_in (r ∷ rows) n ≡ links_in rows n + 1
name_mine r rows n is = rw (eq-eqb r.object n is) (omega arith)

one_less : (low high : ℕ) (rows : List Row) (x : Row) (d : ℕ) (name : List ℕ) → IsRising (λ (r : Row). r.cookie) low rows high → In x rows → is_entry d name x ≡ true
    → ((r : Row) → In r rows → is_entry d name r ≡ true → r ≡ x) → links_in (without_entry d name rows) x.object + 1 ≡ links_in rows x.object
one_less low high [] x d name rise there is only = absurd there
one_less low high (y ∷ ys) x d name rise (inl same) is only =
    let here : is_entry d name y ≡ true = subst (λ (r : Row). is_entry d name r ≡ true) same is in
    let rest : without_entry d name ys ≡ ys = filter_all (λ (r : Row). not (is_entry d name r)) ys (λ r there. elim (cases_Bool (is_entry d name r)) [
      | inl also ↦ (let above = (in_bounds (λ (r : Row). r.cookie) (suc y.cookie) high ys r rise.1 there).0 in
          let one : r.cookie ≡ y.cookie = ap (λ (r : Row). r.cookie) (only r (inr there) also ∙ same) in
          absurd (omega arith))
      | inr past ↦ ap not past
    ]) in
    let object : y.object ≡ x.object = ap (λ (r : Row). r.object) (sym same) in
    let mine = name_mine y ys x.object object in
    rw (here, rest) (sym mine)
one_less low high (y ∷ ys) x d name rise (inr more) is only =
    let above = (in_bounds (λ (r : Row). r.cookie) (suc y.cookie) high ys x rise.1 more).0 in
    let other : is_entry d name y ≡ false = elim (cases_Bool (is_entry d name y)) [
      | inl also ↦ (let one : y.cookie ≡ x.cookie = ap (λ (r : Row). r.cookie) (only y (inl refl) also) in absurd (omega arith))
      | inr past ↦ past
    ] in
    let below = one_less (suc y.cookie) high ys x d name rise.1 more is (λ r there. only r (inr there)) in
    let first = name_first y ys x.object in
    let left = name_first y (without_entry d name ys) x.object in
    rw other (omega arith)

-- RENAME: what is moved has a row more and one less; what is replaced loses one.

in_rows : (t : Files) (d : ℕ) (name : List ℕ) (r : Row) → In r (without_entry d name t.rows) → In r t.rows
in_rows t d name r there = (in_filter (λ (r : Row). not (is_entry d name r)) t.rows r there).0

names_moved : (n : ℕ) (t : Files) (m : Move) (x : Row) → IsTree t → moves t m ≡ true → entry t.rows m.source m.old ≡ Some x → replaced_object t m ≢ n
    → links_in (without_entry m.source m.old (without_entry m.target m.name t.rows)) n + (if moved_object t m == n then 1 else 0) ≡ links_in t.rows n
names_moved n t m x is moves found apart =
    let rest = without_entry m.target m.name t.rows in
    let there = find_in (is_entry m.source m.old) t.rows x found in
    let less : links_in rest n ≡ links_in t.rows n = names_without m.target m.name t.rows (replaced_object t m) n (entry_names t m.target m.name is) apart in
    let object : x.object ≡ moved_object t m = entry_names t m.source m.old is x there.0 there.1 in
    elim (cases_Bool (moved_object t m == n)) [
      | inl here ↦ (
          let mine : x.object ≡ n = object ∙ eqb-true (moved_object t m) n here in
          let stays : is_entry m.target m.name x ≡ false = elim (cases_Bool (is_entry m.target m.name x)) [
            | inl also ↦ absurd (apart (sym (entry_names t m.target m.name is x there.0 also) ∙ mine))
            | inr past ↦ past
          ] in
          let in_rest : In x rest = stays_in (λ (r : Row). not (is_entry m.target m.name r)) t.rows x there.0 (ap not stays) in
          let gone = one_less 3 (t.last_cookie + 1) rest x m.source m.old
          (IsRising-filter (λ (r : Row). r.cookie) (λ r. not (is_entry m.target m.name r)) 3 (t.last_cookie + 1) t.rows is.cookies) in_rest there.1
          (λ r within one. same_row r (only_entry t.rows (λ n. is_directory_at t n) (λ n. is_there t n) is.rows m.source m.old r (in_rows t m.target m.name r within) one)) in
          let mine_gone : links_in (without_entry m.source m.old rest) n + 1 ≡ links_in rest n =
          subst (λ (k : ℕ). links_in (without_entry m.source m.old rest) k + 1 ≡ links_in rest k) mine gone in
          rw here (omega arith))
      | inr other ↦ (
          let apart_too : moved_object t m ≢ n = λ same. false≢true (sym other ∙ eq-eqb (moved_object t m) n same) in
          let also : links_in (without_entry m.source m.old rest) n ≡ links_in rest n = names_without m.source m.old rest (moved_object t m) n
          (λ r within one. entry_names t m.source m.old is r (in_rows t m.target m.name r within) one) apart_too in
          rw other (omega arith))
    ]
  where
    same_row : (r : Row) → entry t.rows m.source m.old ≡ Some r → r ≡ x
    same_row r other = let same : Some r ≡ Some x = sym other ∙ found in cc

pub rows_moved : (n : ℕ) (t : Files) (m : Move) (cookie : ℕ) → IsTree t → moves t m ≡ true → has_name t m.source m.old ≡ true
    → m.source ≢ n → m.target ≢ n → replaced_object t m ≢ n
    → SameRows n t.rows (with_row (without_entry m.source m.old (without_entry m.target m.name t.rows)) m.target m.name (moved_object t m) cookie)
rows_moved n t m cookie is moves named source target apart =
    let row : Row = record { directory = m.target; name = m.name; object = moved_object t m; cookie = cookie } in
    let rest = without_entry m.target m.name t.rows in
    let left = without_entry m.source m.old rest in
    let x = row_of t.rows m.source m.old named in
    let gone = names_moved n t m x.0 is moves x.1 apart in
    let count : links_in (left ++ row ∷ []) n ≡ links_in left n + (if moved_object t m == n then 1 else 0) = count_push (λ (x : Row). x.object == n) left row in
    record {
      entries = entries_push left row n target ∙ (entries_without m.source m.old rest n source ∙ entries_without m.target m.name t.rows n target);
      names = count ∙ gone;
    }
