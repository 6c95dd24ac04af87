-- An entry that moves: no directory comes to lie below itself, and every directory stays reached.
use Rattle.std.proofs.Common.{◌≡◌, ◌≢◌, ℕ, zero, suc, ◌<◌, ◌≤◌, Bool, true, false, not, List, [], ◌∷◌, ◌++◌, length, Option, Some}
use Rattle.std.proofs.{Common.{None, refl, sym, ◌∙◌, ap, subst, arith, inl, inr}, lemmas.Bool.{cases_Bool, eqb-true, eq-eqb, false≢true}}
use Rattle.std.specs.{Prelude.{◌==◌, ◌||◌, find, filter}, Option.option_map_or}
use Rattle.nfs_xdr.specs.Tables.{In}
use Rattle.nfs_xdr.proofs.Lists.{in_filter, stays_in, in_push, push_in, last_in, find_in, none_in, find_kept, find_none_kept, count_filter, length_fewer}
use Rattle.nfs_xdr.proofs.Lists.{count_dropped}
use Rattle.nfs_tree.specs.{declared.row.Row.Row, Files.{root, most_links, is_name, is_entry, entry, parent_in, links_in, without_entry}, Names.is_at_or_below}
use Rattle.nfs_tree.specs.TreeInvariants.{Grounded, AreRows}
use Rattle.nfs_tree.proofs.RowsKept.{entry_parts, entry_self, grounded_in, found_put, one_put, few_put, either}

-- what makes the way up from a directory one way
pub record AreUnique (rows : List Row) (dirs : ℕ → Bool) : Type 0 where
  pub found : (r : Row) → In r rows → entry rows r.directory r.name ≡ Some r
  pub stands : (r : Row) → In r rows → dirs r.directory ≡ true
  pub free : (r : Row) → In r rows → r.object ≢ root
  pub one : (q r : Row) → In q rows → In r rows → q.object ≡ r.object → dirs r.object ≡ true → q ≡ r

pub unique_of : (rows : List Row) (dirs there : ℕ → Bool) → AreRows rows dirs there → AreUnique rows dirs
unique_of rows dirs there are = record { found = are.found; stands = are.stands; free = are.free; one = are.one }

unique_dropped : (rows : List Row) (dirs : ℕ → Bool) (d : ℕ) (name : List ℕ) → AreUnique rows dirs → AreUnique (without_entry d name rows) dirs
unique_dropped rows dirs d name are =
    let test = λ (r : Row). not (is_entry d name r) in
    let old = in_filter test rows in
    record {
      found = λ r is. let was = old r is in find_kept (is_entry r.directory r.name) test rows r (are.found r was.0) was.1;
      stands = λ r is. are.stands r (old r is).0;
      free = λ r is. are.free r (old r is).0;
      one = λ q r a b same dir. are.one q r (old q a).0 (old r b).0 same dir;
    }

-- a row with the name of another is that one
pub same_entry : (rows : List Row) (dirs : ℕ → Bool) → AreUnique rows dirs → (q r : Row) → In q rows → In r rows → is_entry r.directory r.name q ≡ true → q ≡ r
same_entry rows dirs are q r a b e =
    let parts = entry_parts r.directory r.name q e in
    let found : entry rows r.directory r.name ≡ Some q =
    ap (λ x. entry rows x r.name) (sym parts.0) ∙ ap (λ x. entry rows q.directory x) (sym parts.1) ∙ are.found q a in
    let equal : Some q ≡ Some r = sym found ∙ are.found r b in cc

pub depth_one : (rows : List Row) (dirs : ℕ → Bool) → AreUnique rows dirs → (n k d : ℕ) → dirs d ≡ true → Grounded rows n d → Grounded rows k d → n ≡ k
depth_one rows dirs are zero zero d dir g h = refl
depth_one rows dirs are zero (suc k) d dir g h = absurd (are.free h.0 h.1 (h.2 ∙ g))
depth_one rows dirs are (suc n) zero d dir g h = absurd (are.free g.0 g.1 (g.2 ∙ h))
depth_one rows dirs are (suc n) (suc k) d dir g h =
    let same : h.0 ≡ g.0 = are.one h.0 g.0 h.1 g.1 (h.2 ∙ sym g.2) (ap dirs g.2 ∙ dir) in
    let up : Grounded rows k g.0.directory = subst (λ (r : Row). Grounded rows k r.directory) same h.3 in
    ap suc (depth_one rows dirs are n k g.0.directory (are.stands g.0 g.1) g.3 up)

-- the way up from less deep than d does not go over the row of d
avoids : (rows : List Row) (dirs : ℕ → Bool) → AreUnique rows dirs → (r : Row) → In r rows → (k : ℕ) → dirs r.object ≡ true → Grounded rows (suc k) r.object
    → (n x : ℕ) → n ≤ k → dirs x ≡ true → Grounded rows n x → Grounded (without_entry r.directory r.name rows) n x
avoids rows dirs are r there k dir deep zero x le dirx g = g
avoids rows dirs are r there k dir deep (suc n) x le dirx g =
    let kept : is_entry r.directory r.name g.0 ≡ false = elim (cases_Bool (is_entry r.directory r.name g.0)) [
      | inl is ↦ (let same : g.0 ≡ r = same_entry rows dirs are g.0 r g.1 there is in
          let here : r.object ≡ x = ap (λ (r : Row). r.object) (sym same) ∙ g.2 in
          let equal : suc n ≡ suc k = depth_one rows dirs are (suc n) (suc k) x dirx g (subst (Grounded rows (suc k)) here deep) in absurd (omega arith))
      | inr other_row ↦ other_row
    ] in (
      g.0,
      stays_in (λ q. not (is_entry r.directory r.name q)) rows g.0 g.1 (rw kept refl),
      g.2,
      avoids rows dirs are r there k dir deep n g.0.directory (omega arith) (are.stands g.0 g.1) g.3,
    )

-- the way up is no longer than there are rows
pub depth_bound : (n : ℕ) (rows : List Row) (dirs : ℕ → Bool) → AreUnique rows dirs → (d : ℕ) → dirs d ≡ true → Grounded rows n d → n ≤ length rows
depth_bound zero rows dirs are d dir g = omega arith
depth_bound (suc n) rows dirs are d dir g =
    let r = g.0 in
    let rest = without_entry r.directory r.name rows in
    let dir_r : dirs r.object ≡ true = ap dirs g.2 ∙ dir in
    let deep : Grounded rows (suc n) r.object = (r, g.1, refl, g.3) in
    let up = avoids rows dirs are r g.1 n dir_r deep n r.directory (omega arith) (are.stands r g.1) g.3 in
    let bound = depth_bound n rest dirs (unique_dropped rows dirs r.directory r.name are) r.directory (are.stands r g.1) up in
    let less : length rest < length rows = length_fewer (λ q. not (is_entry r.directory r.name q)) rows r g.1 (rw (entry_self r) refl) in
    omega arith

or_false : (a b : Bool) → a || b ≡ false → (a ≡ false) × (b ≡ false)
or_false true b e = absurd cc
or_false false b e = (refl, e)

not_equal : (a b : ℕ) → (a == b) ≡ false → a ≢ b
not_equal a b e same = false≢true (sym e ∙ eq-eqb a b same)

-- the parent of a directory is that of its row
pub parent_is : (rows : List Row) (dirs : ℕ → Bool) → AreUnique rows dirs → (r : Row)
    → In r rows → dirs r.object ≡ true → parent_in rows r.object ≡ Some r.directory
parent_is rows dirs are r there dir = by_option (find (λ q. q.object == r.object) rows) refl
  where
    by_option : (o : Option Row) → find (λ q. q.object == r.object) rows ≡ o → parent_in rows r.object ≡ Some r.directory
    by_option None h = absurd (false≢true (sym (none_in (λ (q : Row). q.object == r.object) rows r h there) ∙ eq-eqb r.object r.object refl))
    by_option (Some q) h =
        let at = find_in (λ (q : Row). q.object == r.object) rows q h in
        let same : q ≡ r = are.one q r at.0 there (eqb-true _ _ at.1) dir in
        rw h (ap (λ (x : Row). Some x.directory) same)

-- where the climb does not meet the moved object, the way up does not go over its row
pub clear : (rows : List Row) (dirs : ℕ → Bool) → AreUnique rows dirs → (q : Row)
    → In q rows → (fuel n d : ℕ) → n ≤ fuel → dirs d ≡ true → is_at_or_below rows q.object fuel d ≡ false
    → Grounded rows n d → Grounded (without_entry q.directory q.name rows) n d
clear rows dirs are q there fuel zero d le dir e g = g
clear rows dirs are q there zero (suc n) d le dir e g = absurd (omega arith)
clear rows dirs are q there (suc fuel) (suc n) d le dir e g =
    let r = g.0 in
    let parts = or_false (d == q.object) (option_map_or (λ p. is_at_or_below rows q.object fuel p) (parent_in rows d) false) e in
    let kept : is_entry q.directory q.name r ≡ false = elim (cases_Bool (is_entry q.directory q.name r)) [
      | inl is ↦
          (let same : r ≡ q = same_entry rows dirs are r q g.1 there is in absurd (not_equal d q.object parts.0 (sym g.2 ∙ ap (λ (x : Row). x.object) same)))
      | inr other_row ↦ other_row
    ] in
    let parent : parent_in rows d ≡ Some r.directory = ap (parent_in rows) (sym g.2) ∙ parent_is rows dirs are r g.1 (ap dirs g.2 ∙ dir) in
    let above : is_at_or_below rows q.object fuel r.directory ≡ false =
    ap (λ o. option_map_or (λ p. is_at_or_below rows q.object fuel p) o false) (sym parent) ∙ parts.1 in (
      r,
      stays_in (λ x. not (is_entry q.directory q.name x)) rows r g.1 (rw kept refl),
      g.2,
      clear rows dirs are q there fuel n r.directory (omega arith) (are.stands r g.1) above g.3,
    )

-- A row moves to a directory that is reached without it: whatever was reached is reached.
still_reached : (rows : List Row) (q to : Row) (k : ℕ) → In q rows → to.object ≡ q.object
    → ((r : Row) → In r rows → is_entry q.directory q.name r ≡ true → r ≡ q) → Grounded (without_entry q.directory q.name rows) k to.directory
    → (n d : ℕ) → Grounded rows n d → (m : ℕ) × Grounded (without_entry q.directory q.name rows ++ to ∷ []) m d
still_reached rows q to k there same only g zero d at_root = (0, at_root)
still_reached rows q to k there same only g (suc n) d path =
    let rest = without_entry q.directory q.name rows in
    elim (cases_Bool (is_entry q.directory q.name path.0)) [
      | inl is ↦ (
        suc k,
        (
          to,
          last_in rest to,
          same ∙ ap (λ (r : Row). r.object) (sym (only path.0 path.1 is)) ∙ path.2,
          grounded_in rest (rest ++ to ∷ []) (push_in rest to) k to.directory g,
        ),
      )
      | inr kept ↦ (let up = still_reached rows q to k there same only g n path.0.directory path.3 in
          (suc up.0, (path.0, push_in rest to path.0 (stays_in (λ x. not (is_entry q.directory q.name x)) rows path.0 path.1 (rw kept refl)), path.2, up.1)))
    ]

pub rows_moved : (rows : List Row) (dirs there : ℕ → Bool) (q to : Row) → AreRows rows dirs there → In q rows
    → to.object ≡ q.object → entry rows to.directory to.name ≡ None → dirs to.directory ≡ true → is_name to.name ≡ true
    → (k : ℕ) × Grounded (without_entry q.directory q.name rows) k to.directory → AreRows (without_entry q.directory q.name rows ++ to ∷ []) dirs there
rows_moved rows dirs there q to are is_q same vacant stands short up =
    let test = λ (r : Row). not (is_entry q.directory q.name r) in
    let rest = filter test rows in
    let old = in_filter test rows in
    let unique = unique_of rows dirs there are in
    let only = λ (r : Row) (is : In r rows) (e : is_entry q.directory q.name r ≡ true). same_entry rows dirs unique r q is is_q e in
    let less : links_in rest to.object < most_links = (
    let drop = count_dropped (λ (r : Row). r.object == to.object) test rows q is_q (eq-eqb q.object to.object (sym same)) (rw (entry_self q) refl) in
    let most = are.few to.object in omega arith) in
    record {
      found = λ r is. found_put rest to r (find_none_kept (is_entry to.directory to.name) test rows vacant)
          (λ r is. let was = old r is in find_kept (is_entry r.directory r.name) test rows r (are.found r was.0) was.1) (in_push rest to r is);
      stands = λ r is. either {P = λ r. dirs r.directory ≡ true} to r rest stands (λ r is. are.stands r (old r is).0) (in_push rest to r is);
      names = λ r is. either {P = λ r. there r.object ≡ true} to r rest
          (ap there same ∙ are.names q is_q) (λ r is. are.names r (old r is).0) (in_push rest to r is);
      free = λ r is. either {P = λ r. r.object ≢ root} to r rest (λ e. are.free q is_q (sym same ∙ e)) (λ r is. are.free r (old r is).0) (in_push rest to r is);
      one = λ a b ia ib e dir. one_put rest dirs to a b
          (λ dir r is e. (let was = old r is in let equal : r ≡ q = are.one r q was.0 is_q (e ∙ same) (ap dirs (sym same) ∙ dir) in
          let gone : test r ≡ false = ap test equal ∙ rw (entry_self q) refl in absurd (false≢true (sym gone ∙ was.1))))
          (λ a b ia ib e dir. are.one a b (old a ia).0 (old b ib).0 e dir) (in_push rest to a ia) (in_push rest to b ib) e dir;
      grounded = λ r is. either {P = λ r. (n : ℕ) × Grounded (rest ++ to ∷ []) n r.directory} to r rest
          (up.0, grounded_in rest (rest ++ to ∷ []) (push_in rest to) up.0 to.directory up.1)
          (λ r is. let was = are.grounded r (old r is).0 in still_reached rows q to up.0 is_q same only up.1 was.0 r.directory was.1)
          (in_push rest to r is);
      short = λ r is. either {P = λ r. is_name r.name ≡ true} to r rest short (λ r is. are.short r (old r is).0) (in_push rest to r is);
      few = λ n. few_put rest to n less (let le = count_filter (λ (r : Row). r.object == n) test rows in let most = are.few n in omega arith);
    }
