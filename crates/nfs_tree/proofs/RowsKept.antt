-- What is kept of rows when one is put, dropped or moved.
use Rattle.std.proofs.Common.{◌≡◌, ◌≢◌, ◌⊎◌, ℕ, zero, suc, ◌+◌, ◌<◌, ◌≤◌, Bool, true, false, not, List, [], ◌∷◌, ◌++◌, Some, None, refl}
use Rattle.std.proofs.{Common.{sym, ◌∙◌, ap, subst, arith, inl, inr}, lemmas.Bool.{cases_Bool, cases_eq, and_parts, eqb-true, eq-eqb, ne_eqb, false≢true}}
use Rattle.std.proofs.lemmas.Slice.Eq.{bytes_eq-Decides}
use Rattle.std.specs.Prelude.{◌==◌, ◌||◌}
use Rattle.nfs_tree.specs.{declared.row.Row.Row, Files.{root, most_links, is_name, is_entry, entry, links_in, has_row, has_entries, without_entry}}
use Rattle.nfs_tree.specs.TreeInvariants.{Grounded, AreRows}
use Rattle.nfs_xdr.specs.Tables.{In}
use Rattle.nfs_xdr.proofs.Lists.{in_filter, stays_in, in_push, push_in, find_kept, find_push_some, find_push_none, count_filter, count_push, in_any, any_in}

-- the same rows under tests that give the same
pub rows_same : (rows : List Row) (dirs there dirs' there' : ℕ → Bool) → AreRows rows dirs there
    → ((r : Row) → In r rows → dirs' r.directory ≡ dirs r.directory) → ((r : Row) → In r rows → dirs' r.object ≡ dirs r.object)
    → ((r : Row) → In r rows → there' r.object ≡ there r.object) → AreRows rows dirs' there'
rows_same rows dirs there dirs' there' are standing object seen = record {
  found = are.found;
  stands = λ r is. standing r is ∙ are.stands r is;
  names = λ r is. seen r is ∙ are.names r is;
  free = are.free;
  one = λ q r a b same dir. are.one q r a b same (sym (object r b) ∙ dir);
  grounded = are.grounded;
  short = are.short;
  few = are.few;
}

pub entry_parts : (d : ℕ) (name : List ℕ) (r : Row) → is_entry d name r ≡ true → (r.directory ≡ d) × (r.name ≡ name)
entry_parts d name r e = let parts = and_parts _ _ e in (eqb-true _ _ parts.0, (bytes_eq-Decides r.name name).0 parts.1)

pub entry_self : (r : Row) → is_entry r.directory r.name r ≡ true
entry_self r = rw (eq-eqb r.directory r.directory refl) ((bytes_eq-Decides r.name r.name).1 refl)

-- a row with the name is the one that is found
pub only_entry : (rows : List Row) (dirs there : ℕ → Bool) → AreRows rows dirs there
    → (d : ℕ) (name : List ℕ) (r : Row) → In r rows → is_entry d name r ≡ true → entry rows d name ≡ Some r
only_entry rows dirs there are d name r is e =
    let parts = entry_parts d name r e in
    ap (λ x. entry rows x name) (sym parts.0) ∙ ap (λ x. entry rows r.directory x) (sym parts.1) ∙ are.found r is

pub grounded_in : (rows more : List Row) → ((r : Row) → In r rows → In r more) → (n d : ℕ) → Grounded rows n d → Grounded more n d
grounded_in rows more sub zero d g = g
grounded_in rows more sub (suc n) d g = (g.0, sub g.0 g.1, g.2, grounded_in rows more sub n g.0.directory g.3)

-- the directory of a condition is grounded
pub reached : (rows : List Row) (dirs there : ℕ → Bool) → AreRows rows dirs there → (d : ℕ) → (d == root) || has_row rows d ≡ true → (n : ℕ) × Grounded rows n d
reached rows dirs there are d e =
    elim (cases_eq d root) [
      | inl is ↦ (0, is)
      | inr other ↦ (let any : has_row rows d ≡ true = rw (ne_eqb d root other) at e in
          let r = in_any (λ (r : Row). r.object == d) rows any in
          let up = are.grounded r.0 r.1 in
          (suc up.0, (r.0, r.1, eqb-true _ _ r.2, up.1)))
    ]

-- A row is put whose name is free. One that names a directory is its first.
pub record CanPut (rows : List Row) (dirs there : ℕ → Bool) (to : Row) : Type 0 where
  pub vacant : entry rows to.directory to.name ≡ None
  pub stands : dirs to.directory ≡ true
  pub names : there to.object ≡ true
  pub free : to.object ≢ root
  pub first : dirs to.object ≡ true → (r : Row) → In r rows → r.object ≢ to.object
  pub grounded : (n : ℕ) × Grounded rows n to.directory
  pub short : is_name to.name ≡ true
  pub few : links_in rows to.object < most_links

pub found_put : (rows : List Row) (to r : Row) → entry rows to.directory to.name ≡ None
    → ((r : Row) → In r rows → entry rows r.directory r.name ≡ Some r) → (r ≡ to) ⊎ In r rows → entry (rows ++ to ∷ []) r.directory r.name ≡ Some r
found_put rows to r vacant found (inl is) =
    subst (λ (q : Row). entry (rows ++ to ∷ []) q.directory q.name ≡ Some q) (sym is)
    (find_push_none (is_entry to.directory to.name) rows to vacant (entry_self to))
found_put rows to r vacant found (inr there) = find_push_some (is_entry r.directory r.name) rows to r (found r there)

pub one_put : (rows : List Row) (dirs : ℕ → Bool) (to q r : Row) → (dirs to.object ≡ true → (r : Row) → In r rows → r.object ≢ to.object)
    → ((q r : Row) → In q rows → In r rows → q.object ≡ r.object → dirs r.object ≡ true → q ≡ r)
    → (q ≡ to) ⊎ In q rows → (r ≡ to) ⊎ In r rows → q.object ≡ r.object → dirs r.object ≡ true → q ≡ r
one_put rows dirs to q r first one (inl a) (inl b) same dir = a ∙ sym b
one_put rows dirs to q r first one (inl a) (inr b) same dir =
    let e : to.object ≡ r.object = ap (λ (x : Row). x.object) (sym a) ∙ same in absurd (first (ap dirs e ∙ dir) r b (sym e))
one_put rows dirs to q r first one (inr a) (inl b) same dir =
    let e : to.object ≡ r.object = ap (λ (x : Row). x.object) (sym b) in absurd (first (ap dirs e ∙ dir) q a (same ∙ sym e))
one_put rows dirs to q r first one (inr a) (inr b) same dir = one q r a b same dir

pub few_put : (rows : List Row) (to : Row) (n : ℕ) → links_in rows to.object < most_links
    → links_in rows n ≤ most_links → links_in (rows ++ to ∷ []) n ≤ most_links
few_put rows to n less few =
    let count = count_push (λ (r : Row). r.object == n) rows to in
    elim (cases_eq to.object n) [
      | inl is ↦ (let one : links_in (rows ++ to ∷ []) n ≡ links_in rows n + 1 = rw (eq-eqb to.object n is) at count in
          let small : links_in rows n < most_links = subst (λ k. links_in rows k < most_links) is less in omega arith)
      | inr other ↦ (let none : links_in (rows ++ to ∷ []) n ≡ links_in rows n + 0 = rw (ne_eqb to.object n other) at count in omega arith)
    ]

pub either : {P : Row → Type 0} (to r : Row) (rows : List Row) → P to → ((r : Row) → In r rows → P r) → (r ≡ to) ⊎ In r rows → P r
either {P} to r rows here rest (inl is) = subst P (sym is) here
either {P} to r rows here rest (inr there) = rest r there

pub rows_put : (rows : List Row) (dirs there : ℕ → Bool) (to : Row) → AreRows rows dirs there → CanPut rows dirs there to → AreRows (rows ++ to ∷ []) dirs there
rows_put rows dirs there to are can = record {
  found = λ r is. found_put rows to r can.vacant are.found (in_push rows to r is);
  stands = λ r is. either {P = λ r. dirs r.directory ≡ true} to r rows can.stands are.stands (in_push rows to r is);
  names = λ r is. either {P = λ r. there r.object ≡ true} to r rows can.names are.names (in_push rows to r is);
  free = λ r is. either {P = λ r. r.object ≢ root} to r rows can.free are.free (in_push rows to r is);
  one = λ q r a b same dir. one_put rows dirs to q r can.first are.one (in_push rows to q a) (in_push rows to r b) same dir;
  grounded = λ r is. either {P = λ r. (n : ℕ) × Grounded (rows ++ to ∷ []) n r.directory} to r rows
      (can.grounded.0, grounded_in rows (rows ++ to ∷ []) (push_in rows to) can.grounded.0 to.directory can.grounded.1)
      (λ r there. let up = are.grounded r there in (up.0, grounded_in rows (rows ++ to ∷ []) (push_in rows to) up.0 r.directory up.1))
      (in_push rows to r is);
  short = λ r is. either {P = λ r. is_name r.name ≡ true} to r rows can.short are.short (in_push rows to r is);
  few = λ n. few_put rows to n can.few (are.few n);
}

-- What leads to an object other than m without rows that name m. The entry that goes names m.
pub grounded_without : (rows : List Row) (d : ℕ) (name : List ℕ) (m : ℕ)
    → ((r : Row) → In r rows → is_entry d name r ≡ true → r.object ≡ m) → ((r : Row) → In r rows → r.directory ≢ m)
    → (n x : ℕ) → x ≢ m → Grounded rows n x → Grounded (without_entry d name rows) n x
grounded_without rows d name m names empty zero x other g = g
grounded_without rows d name m names empty (suc n) x other g =
    let kept : is_entry d name g.0 ≡ false =
    elim (cases_Bool (is_entry d name g.0)) [ inl is ↦ absurd (other (sym g.2 ∙ names g.0 g.1 is)) | inr other_row ↦ other_row ] in (
      g.0,
      stays_in (λ r. not (is_entry d name r)) rows g.0 g.1 (rw kept refl),
      g.2,
      grounded_without rows d name m names empty n g.0.directory (empty g.0 g.1) g.3,
    )

pub rows_dropped : (rows : List Row) (dirs there : ℕ → Bool) (d : ℕ) (name : List ℕ) (m : ℕ) → AreRows rows dirs there
    → ((r : Row) → In r rows → is_entry d name r ≡ true → r.object ≡ m) → ((r : Row) → In r rows → r.directory ≢ m)
    → AreRows (without_entry d name rows) dirs there
rows_dropped rows dirs there d name m are names empty =
    let test = λ (r : Row). not (is_entry d name r) in
    let old = in_filter test rows in
    record {
      found = λ r is. let was = old r is in find_kept (is_entry r.directory r.name) test rows r (are.found r was.0) was.1;
      stands = λ r is. are.stands r (old r is).0;
      names = λ r is. are.names r (old r is).0;
      free = λ r is. are.free r (old r is).0;
      one = λ q r a b same dir. are.one q r (old q a).0 (old r b).0 same dir;
      grounded = λ r is. let was = (old r is).0 in let up = are.grounded r was in
          (up.0, grounded_without rows d name m names empty up.0 r.directory (empty r was) up.1);
      short = λ r is. are.short r (old r is).0;
      few = λ n. let le = count_filter (λ (r : Row). r.object == n) test rows in let most = are.few n in omega arith;
    }

-- every row has a directory other than one without entries
pub no_entries : (rows : List Row) (m : ℕ) → has_entries rows m ≡ false → (r : Row) → In r rows → r.directory ≢ m
no_entries rows m e r is same = false≢true (sym e ∙ any_in (λ (r : Row). r.directory == m) rows r is (eq-eqb r.directory m same))

pub no_row : (rows : List Row) (m : ℕ) → has_row rows m ≡ false → (r : Row) → In r rows → r.object ≢ m
no_row rows m e r is same = false≢true (sym e ∙ any_in (λ (r : Row). r.object == m) rows r is (eq-eqb r.object m same))
