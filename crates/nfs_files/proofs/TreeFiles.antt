-- What a state keeps; the end of clients leaves a tree that is one.
use Rattle.std.proofs.Common.{◌≡◌, ℕ, ◌+◌, Bool, true, false, List, [], ◌∷◌, Option, refl, sym, ◌∙◌, ap, subst, inl, inr, arith}
use Rattle.std.proofs.lemmas.Bool.{cases_Bool, eq-eqb, eqb-true, and_parts, leb-true}
use Rattle.std.specs.{Prelude.{◌==◌, ◌||◌, filter, is_some}, Option.option_map_or}
use Rattle.nfs_xdr.specs.{Tables.In, declared.time.Time.Time}
use Rattle.nfs_xdr.proofs.{Lists.{any_in, in_filter, length_filter}, Tables.IsRising-filter}
use Rattle.nfs_tree.specs.{declared.stored.Stored.Stored, declared.row.Row.Row, Object.is_directory}
use Rattle.nfs_tree.specs.{declared.limits.Limits.Limits, declared.profile.Profile.Profile, Limits.bounded}
use Rattle.nfs_tree.proofs.{Objects.IsSized, Trees.bounded_is}
use Rattle.nfs_tree.specs.{Files.{root, has_row, stored_in, is_there, is_directory_at}, Create.new_tree, TreeInvariants.IsTree}
use Rattle.nfs_tree.proofs.RowsKept.{rows_same}
use Rattle.nfs_opens.specs.TableInvariants.{IsTable}
use Rattle.nfs_names.specs.{State.{State, is_open, is_used}, StoreInvariants.{IsStore, IsRooted}, Ending.{with_opens, table_staying, staying}}
use Rattle.nfs_names.proofs.StoreInvariants.{rooted}
use Rattle.nfs_files.proofs.Steady.{Few}
use Rattle.nfs_names.proofs.Terms.{only_used}

-- what a state keeps
pub record IsWhole (s : State) : Type 0 where
  pub tree : IsTree s.tree
  pub store : IsStore s
  pub table : IsTable s.opens
  pub few : Few s.opens

-- The end of clients: an object that is used stays, and each row leads from such a one to such a one.

found_same : (p : ℕ → Bool) (xs : List Stored) (n : ℕ) → p n ≡ true → stored_in (filter (λ x. p x.number) xs) n ≡ stored_in xs n
found_same p [] n e = refl
found_same p (x ∷ xs) n e =
    elim (cases_Bool (x.number == n)) [
      | inl is ↦ (let stays : p x.number ≡ true = ap p (eqb-true _ _ is) ∙ e in rw (stays, is) refl)
      | inr other ↦ elim (cases_Bool (p x.number)) [
        | inl stays ↦ rw (stays, other) (found_same p xs n e)
        | inr goes ↦ rw (goes, other) (found_same p xs n e)
      ]
    ]

used_row : (a r o : Bool) → r ≡ true → a || (r || o) ≡ true
used_row true r o e = refl
used_row false true o e = refl
used_row false false o e = absurd cc

used_reached : (a r o : Bool) → a || r ≡ true → a || (r || o) ≡ true
used_reached true r o e = refl
used_reached false true o e = refl
used_reached false false o e = absurd cc

used_root : (a r o : Bool) → a ≡ true → a || (r || o) ≡ true
used_root true r o e = refl
used_root false r o e = absurd cc

tree_used : (s : State) → IsTree s.tree → IsRooted s.tree → IsTree (only_used s).tree
tree_used s is all =
    let t = s.tree in
    let p : ℕ → Bool = λ n. is_used s n in
    let rest = filter (λ (o : Stored). p o.number) t.objects in
    let same : (n : ℕ) → p n ≡ true → stored_in rest n ≡ stored_in t.objects n = λ n used. found_same p t.objects n used in
    let as_directory = λ (o : Option Stored). option_map_or (λ (s : Stored). is_directory s.object.kind) o false in
    let stands : (r : Row) → In r t.rows → p r.directory ≡ true = λ r there.
    used_reached (r.directory == root) (has_row t.rows r.directory) (is_open s r.directory) (all r.directory (is.rows.stands r there)) in
    let names : (r : Row) → In r t.rows → p r.object ≡ true = λ r there.
    used_row (r.object == root) (has_row t.rows r.object) (is_open s r.object) (any_in (λ (q : Row). q.object == r.object) t.rows r there (eq-eqb r.object r.object refl)) in
    record {
      objects = IsRising-filter (λ (s : Stored). s.number) (λ o. p o.number) root (t.last_object + 1) t.objects is.objects;
      cookies = is.cookies;
      counters = is.counters;
      limits = is.limits;
      few = (let le = length_filter (λ (o : Stored). p o.number) t.objects in let most = is.few in omega arith);
      sized = λ x there. is.sized x (in_filter (λ (o : Stored). p o.number) t.objects x there).0;
      root = ap as_directory (same root (used_root (root == root) (has_row t.rows root) (is_open s root) (eq-eqb root root refl))) ∙ is.root;
      rows = rows_same t.rows (λ n. is_directory_at t n) (λ n. is_there t n) (λ n. as_directory (stored_in rest n)) (λ n. is_some (stored_in rest n)) is.rows
          (λ r there. ap as_directory (same r.directory (stands r there)))
          (λ r there. ap as_directory (same r.object (names r there)))
          (λ r there. ap is_some (same r.object (names r there)));
    }

pub tree_new : (mode : ℕ) (now : Time) (limits : Limits) (profile : Profile) → IsTree (new_tree mode now limits profile)
tree_new mode now limits profile = record {
  limits = bounded_is limits;
  objects = omega arith;
  cookies = omega arith;
  counters = (omega arith, omega arith);
  few = (let p = and_parts _ _ (bounded_is limits) in leb-true _ _ p.0);
  sized = λ s there. elim there [ inl is ↦ subst (IsSized (bounded limits)) (sym is) (omega arith) | inr more ↦ absurd more ];
  root = refl;
  rows = record {
    found = λ r there. absurd there;
    stands = λ r there. absurd there;
    names = λ r there. absurd there;
    free = λ r there. absurd there;
    one = λ q r there. absurd there;
    grounded = λ r there. absurd there;
    short = λ r there. absurd there;
    few = λ n. omega arith;
  };
}

pub tree_ended : (stays : ℕ → Bool) (s : State) → IsWhole s → IsTree (staying stays s).tree
tree_ended stays s is = tree_used (with_opens s (table_staying stays s.opens)) is.tree (rooted s is.store)
