-- A tree with one row more, or one object more, keeps what every tree keeps.
use Rattle.std.proofs.Common.{◌≡◌, ◌≢◌, ℕ, ◌+◌, ◌<◌, Bool, true, false, List, [], ◌∷◌, ◌++◌, length, Option}
use Rattle.std.proofs.Common.{Some, None, refl, sym, ◌∙◌, ap, subst, arith, inl, inr, length-append}
use Rattle.std.proofs.lemmas.Bool.{and_parts, ne_eqb, ltb-true, ltb-false, leb-false, not-false, false≢true}
use Rattle.std.proofs.lemmas.List.{length-map}
use Rattle.std.specs.{Prelude.{nat_le, ◌==◌, is_some}, List.list_any, Option.option_map_or}
use Rattle.nfs_xdr.proofs.{Checks.all_passed, Lists.in_push, Tables.IsRising-push}
use Rattle.nfs_xdr.specs.{Tables.In, declared.time.Time.Time}
use Rattle.nfs_tree.specs.{declared.row.Row.Row, declared.sets.Sets.Sets, declared.stored.Stored.Stored, Object.{is_directory, no_sets, modified}}
use Rattle.nfs_tree.specs.Files.{Files, next_count, root, last_count, most_links, is_name, stored_in, is_there}
use Rattle.nfs_tree.specs.Files.{is_directory_at, can_change, entry, has_row, links_in, change_at, with_entries_changed, with_links_changed}
use Rattle.nfs_tree.specs.Calls.{IsReached, create_fault, link_fault}
use Rattle.nfs_tree.specs.Create.{New, new_object, is_bad_text, is_too_big, create_checks, with_new}
use Rattle.nfs_tree.specs.{Names.{link_checks, with_link}, TreeInvariants.IsTree}
use Rattle.nfs_tree.proofs.RowsKept.{rows_same, rows_put, CanPut, reached}
use Rattle.nfs_tree.proofs.{Objects.{IsSized, is_directory_in, keeps_changed, there_map, directory_map, stored_within, stored_push, new_there}, Trees.{tree_changed, tree_counts}}

pub vacant_of : (o : Option Row) → is_some o ≡ false → o ≡ None
vacant_of None e = refl
vacant_of (Some r) e = absurd cc

-- what is a directory is there
pub directory_there : (t : Files) (n : ℕ) → is_directory_at t n ≡ true → is_there t n ≡ true
directory_there t n e = by_option (stored_in t.objects n) refl
  where
    by_option : (o : Option Stored) → stored_in t.objects n ≡ o → is_some (stored_in t.objects n) ≡ true
    by_option None h = absurd (let bad : false ≡ true = rw h at e in cc)
    by_option (Some s) h = rw h refl

pub tree_put_row : (t : Files) (to : Row) → IsTree t → to.cookie ≡ t.last_cookie + 1
    → t.last_cookie < last_count → CanPut t.rows (λ n. is_directory_at t n) (λ n. is_there t n) to
    → IsTree (record t { rows = t.rows ++ to ∷ []; last_cookie = t.last_cookie + 1 })
tree_put_row t to is cookie less can = record {
  objects = is.objects;
  cookies = IsRising-push (λ (r : Row). r.cookie) 3 (t.last_cookie + 1) (t.last_cookie + 1 + 1) t.rows to cookie refl is.cookies;
  counters = (is.counters.0, omega arith);
  few = is.few;
  limits = is.limits;
  sized = is.sized;
  root = is.root;
  rows = rows_put t.rows (λ n. is_directory_at t n) (λ n. is_there t n) to is.rows can;
}

pub tree_put_object : (t : Files) (x : Stored) → IsTree t → x.number ≡ t.last_object + 1
    → t.last_object < last_count → length t.objects < t.limits.objects → IsSized t.limits x
    → IsTree (record t { objects = t.objects ++ x ∷ []; last_object = t.last_object + 1 })
tree_put_object t x is number less room sized =
    let more = t.objects ++ x ∷ [] in
    let same = λ (n : ℕ) (there : is_there t n ≡ true). stored_push t.objects x n there in
    let directory = λ (n : ℕ) (there : is_there t n ≡ true). ap (λ o. option_map_or (λ (s : Stored). is_directory s.object.kind) o false) (same n there) in
    let stands = λ (r : Row) (there : In r t.rows). directory_there t r.directory (is.rows.stands r there) in
    record {
      objects = IsRising-push (λ (s : Stored). s.number) root (t.last_object + 1) (t.last_object + 1 + 1) t.objects x number refl is.objects;
      cookies = is.cookies;
      counters = (omega arith, is.counters.1);
      few = (let l : length more ≡ length t.objects + 1 = length-append t.objects (x ∷ []) in omega arith);
      limits = is.limits;
      sized = λ s there. elim (in_push t.objects x s there) [ inl new ↦ subst (IsSized t.limits) (sym new) sized | inr old ↦ is.sized s old ];
      root = directory root (directory_there t root is.root) ∙ is.root;
      rows = rows_same t.rows (λ n. is_directory_at t n) (λ n. is_there t n) (λ n. is_directory_in more n) (λ n. is_some (stored_in more n)) is.rows
          (λ r there. directory r.directory (stands r there)) (λ r there. directory r.object (is.rows.names r there))
          (λ r there. ap is_some (same r.object (is.rows.names r there)));
    }

-- LINK
pub record LinkGranted (t : Files) (n d : ℕ) (name : List ℕ) : Type 0 where
  pub there : is_there t n ≡ true
  pub directory : is_directory_at t d ≡ true
  pub other : is_directory_at t n ≡ false
  pub short : is_name name ≡ true
  pub vacant : entry t.rows d name ≡ None
  pub named : has_row t.rows n ≡ true
  pub few : links_in t.rows n < most_links
  pub change : can_change t d ≡ true
  pub change_object : can_change t n ≡ true
  pub cookie : t.last_cookie < last_count

more_than : (a b : ℕ) → nat_le a b ≡ false → b < a
more_than a b e = leb-false a b e

pub link_granted : (t : Files) (n d : ℕ) (name : List ℕ) → link_fault t n d name ≡ None → LinkGranted t n d name
link_granted t n d name e =
    let checks = all_passed (link_checks t n d name) e in
    let change = and_parts _ _ (not-false _ checks.1.1.1.1.1.1.1.0) in
    let rest = and_parts _ _ change.1 in
    record {
      there = (and_parts _ _ (not-false _ checks.0)).1;
      directory = not-false _ checks.1.0;
      other = checks.1.1.0;
      short = not-false _ checks.1.1.1.0;
      vacant = vacant_of _ checks.1.1.1.1.0;
      named = not-false _ checks.1.1.1.1.1.0;
      few = more_than most_links (links_in t.rows n) checks.1.1.1.1.1.1.0;
      change = change.0;
      change_object = rest.0;
      cookie = ltb-true _ _ rest.1;
    }

pub tree_linked : (t : Files) (n d : ℕ) (name : List ℕ) (now : Time) → IsTree t
    → link_fault t n d name ≡ None → IsReached t d → IsTree (with_link t n d name now)
tree_linked t n d name now is granted condition =
    let can = link_granted t n d name granted in
    let one = record t { objects = with_entries_changed d now t.objects } in
    let both = record one { objects = with_links_changed n now one.objects } in
    let is_one : IsTree one = tree_changed t d now (modified now no_sets) is in
    let is_both : IsTree both = tree_changed one n now no_sets is_one in
    let kinds = λ (m : ℕ). directory_map one.objects (change_at n now no_sets) m (keeps_changed n now no_sets one.objects)
    ∙ directory_map t.objects (change_at d now (modified now no_sets)) m (keeps_changed d now (modified now no_sets) t.objects) in
    let theres = λ (m : ℕ). there_map one.objects (change_at n now no_sets) m (keeps_changed n now no_sets one.objects)
    ∙ there_map t.objects (change_at d now (modified now no_sets)) m (keeps_changed d now (modified now no_sets) t.objects) in
    let to : Row = record { directory = d; name = name; object = n; cookie = t.last_cookie + 1 } in
    tree_counts _ (next_count t.changes) (tree_put_row both to is_both refl can.cookie (record {
      vacant = can.vacant;
      stands = kinds d ∙ can.directory;
      names = theres n ∙ can.there;
      free = λ e. false≢true (sym can.other ∙ ap (is_directory_at t) e ∙ is.root);
      first = λ dir. absurd (false≢true (sym can.other ∙ sym (kinds n) ∙ dir));
      grounded = reached t.rows (λ n. is_directory_at t n) (λ n. is_there t n) is.rows d (condition can.directory);
      short = can.short;
      few = can.few;
    }))

pub any_none : (p : Row → Bool) (rows : List Row) → ((r : Row) → In r rows → p r ≡ false) → list_any p rows ≡ false
any_none p [] gone = refl
any_none p (r ∷ rows) gone = rw (gone r (inl refl)) (any_none p rows (λ r there. gone r (inr there)))

-- no row names the object that comes next
pub new_unnamed : (t : Files) → IsTree t → has_row t.rows (t.last_object + 1) ≡ false
new_unnamed t is = any_none (λ r. r.object == t.last_object + 1) t.rows (λ r there.
    let within = stored_within root (t.last_object + 1) t.objects r.object is.objects (is.rows.names r there) in ne_eqb r.object (t.last_object + 1) (λ same. omega arith))

-- CREATE
pub record CreateGranted (t : Files) (d : ℕ) (name : List ℕ) (new : New) : Type 0 where
  pub directory : is_directory_at t d ≡ true
  pub short : is_name name ≡ true
  pub good : is_bad_text new ≡ false
  pub vacant : entry t.rows d name ≡ None
  pub small : is_too_big t.limits new ≡ false
  pub room : length t.objects < t.limits.objects
  pub change : can_change t d ≡ true
  pub object : t.last_object < last_count
  pub cookie : t.last_cookie < last_count

pub create_granted : (t : Files) (d : ℕ) (name : List ℕ) (new : New) → create_fault t d name new ≡ None → CreateGranted t d name new
create_granted t d name new e =
    let checks = all_passed (create_checks t d name new) e in
    let change = and_parts _ _ (not-false _ checks.1.1.1.1.1.1.1.0) in
    let rest = and_parts _ _ change.1 in
    record {
      directory = not-false _ checks.1.0;
      short = not-false _ checks.1.1.0;
      good = checks.1.1.1.0;
      vacant = vacant_of _ checks.1.1.1.1.0;
      small = checks.1.1.1.1.1.0;
      room = more_than t.limits.objects (length t.objects) checks.1.1.1.1.1.1.0;
      change = change.0;
      object = ltb-true _ _ rest.0;
      cookie = ltb-true _ _ rest.1;
    }

no_links : (rows : List Row) (n : ℕ) → ((r : Row) → In r rows → r.object ≢ n) → links_in rows n ≡ 0
no_links [] n none = refl
no_links (r ∷ rows) n none = rw (ne_eqb r.object n (none r (inl refl))) (no_links rows n (λ r there. none r (inr there)))

pub tree_created : (t : Files) (d : ℕ) (name : List ℕ) (new : New) (sets : Sets) (now : Time)
    → IsTree t → create_fault t d name new ≡ None → IsReached t d → IsTree (with_new t d name new sets now)
tree_created t d name new sets now is granted condition =
    let can = create_granted t d name new granted in
    let one = record t { objects = with_entries_changed d now t.objects } in
    let is_one : IsTree one = tree_changed t d now (modified now no_sets) is in
    let x : Stored = record { number = t.last_object + 1; object = new_object now new sets; bytes = new.bytes; pages = new.pages } in
    let two = record one { objects = one.objects ++ x ∷ []; last_object = t.last_object + 1 } in
    let room : length one.objects < t.limits.objects =
    subst (λ l. l < t.limits.objects) (sym (length-map t.objects (change_at d now (modified now no_sets)))) can.room in
    let is_two : IsTree two = tree_put_object one x is_one refl can.object room (ltb-false _ _ can.small) in
    let kind = directory_map t.objects (change_at d now (modified now no_sets)) d (keeps_changed d now (modified now no_sets) t.objects) ∙ can.directory in
    let pushed = stored_push one.objects x d (directory_there one d kind) in
    let last = stored_within root (t.last_object + 1) t.objects root is.objects (directory_there t root is.root) in
    let to : Row = record { directory = d; name = name; object = t.last_object + 1; cookie = t.last_cookie + 1 } in
    let fresh = λ (r : Row) (there : In r t.rows) (same : r.object ≡ t.last_object + 1).
    (let within = stored_within root (t.last_object + 1) t.objects r.object is.objects (is.rows.names r there) in absurd (omega arith)) in
    tree_counts _ (next_count t.changes) (tree_put_row two to is_two refl can.cookie (record {
      vacant = can.vacant;
      stands = ap (λ o. option_map_or (λ (s : Stored). is_directory s.object.kind) o false) pushed ∙ kind;
      names = ap is_some (new_there one.objects x root (t.last_object + 1) is_one.objects refl);
      free = λ e. absurd (omega arith);
      first = λ dir. fresh;
      grounded = reached t.rows (λ n. is_directory_at t n) (λ n. is_there t n) is.rows d (condition can.directory);
      short = can.short;
      few = (let none = no_links t.rows (t.last_object + 1) fresh in omega arith);
    }))
