-- The maps of rows behind each of their changes.
use Rattle.std.proofs.Common.{◌≡◌, ℕ, ◌<◌, ◌≤◌, ◌+◌, ◌^◌, List, [], ◌∷◌, ◌++◌, length, true, false, cond, Option, Some, None, refl, sym, ◌∙◌, ap, arith, subst}
use Rattle.std.proofs.lemmas.Bool.{and_parts, leb-true}
use Rattle.std.specs.{Prelude.{◌==◌, ◌&&◌, ◌-◌, Bool, is_some, if◌then◌else◌}, BTreeMap.{is_at, insert_entry}, Map.lookup}
use Rattle.nfs_xdr.specs.Tables.{IsRising, In, without_record}
use Rattle.nfs_xdr.proofs.{Lists.{find_in, push_in}, Tables.IsRising-push}
use Rattle.nfs_tree.specs.{declared.row.Row.Row, Files.{most_name, is_name, is_entry, entry, has_row, without_entry}, Counts.CountsAnew, ByName.NamesAnew}
use Rattle.nfs_tree.specs.Maps.{pair_cmp, has_pair, AreCounted, ArePairs, AreMapped}
use Rattle.nfs_tree.proofs.{RowsKept.entry_parts, PairLemmas.{pair_put, pair_gone, pairs_put, pairs_gone}, Counted.{counted_put, counted_gone}}
use Rattle.nfs_tree.proofs.MapLemmas.{cookie, named_put, named_over, named_gone, none_gone, gone_before, gone_same}

-- behind a row that came, with its cookie the last
rise_put : (rows fs : List Row) (r : Row) → IsRising cookie 3 rows r.cookie → fs ≡ rows ++ r ∷ [] → IsRising cookie 3 fs (r.cookie + 1)
rise_put rows fs r rise view = rw view (IsRising-push cookie 3 r.cookie (r.cookie + 1) rows r refl refl rise)

pairs_new : (of : Row → ℕ) (rows fs : List Row) (ls ms : List ((ℕ × ℕ) × Unit {0})) (r : Row) → fs ≡ rows ++ r ∷ [] → ArePairs of rows (has_pair ls)
    → ms ≡ insert_entry pair_cmp ls (of r, r.cookie) tt → ArePairs of fs (has_pair ms)
pairs_new of rows fs ls ms r view are put = rw view (pairs_put of rows (has_pair ls) (has_pair ms) r are (pair_put ls ms (of r, r.cookie) put))

pairs_less : (of : Row → ℕ) (high n : ℕ) (rows fs : List Row) (ls ms : List ((ℕ × ℕ) × Unit {0})) (r : Row) → fs ≡ without_record cookie rows r.cookie
    → IsRising cookie 3 rows high → In r rows → of r ≡ n → ArePairs of rows (has_pair ls)
    → ((q : ℕ × ℕ) → lookup (is_at (pair_cmp q)) ms ≡ cond (is_at (pair_cmp (n, r.cookie)) q) None (lookup (is_at (pair_cmp q)) ls)) → ArePairs of fs (has_pair ms)
pairs_less of high n rows fs ls ms r view rise there is are gone =
    rw view (pairs_gone of 3 high rows (has_pair ls) (has_pair ms) r rise there are
    (λ q. pair_gone ls ms (n, r.cookie) gone q ∙ ap (λ n. cond ((n == q.0) && (r.cookie == q.1)) false (has_pair ls q)) (sym is)))

pub record Done (fs : List Row) (at : ℕ → List ℕ → Option ℕ) (ls os : List ((ℕ × ℕ) × Unit {0})) (more : ℕ → ℕ) (rows : List Row) : Type 0 where
  pub is : AreMapped fs at ls os more
  pub view : fs ≡ rows

module _ (rows fs : List Row) (at bt : ℕ → List ℕ → Option ℕ) (ls ms os us : List ((ℕ × ℕ) × Unit {0})) (more mid : ℕ → ℕ) (r : Row) (had : Bool) (are : AreMapped rows at ls os more)
    (rise : IsRising cookie 3 rows r.cookie) (short : length r.name ≤ most_name) (few : (r.directory < 2 ^ 64) × (r.cookie < 2 ^ 64))
    (put : fs ≡ rows ++ r ∷ []) (anew : NamesAnew at bt r.directory r.name (Some r.cookie))
    (listed : ms ≡ insert_entry pair_cmp ls (r.directory, r.cookie) tt) (owned : us ≡ insert_entry pair_cmp os (r.object, r.cookie) tt)
    (has : had ≡ has_row rows r.object) (one_more : CountsAnew more mid r.object (if had then more r.object + 1 else more r.object)) where
  pairs : ArePairs (λ (r : Row). r.directory) fs (has_pair ms)
  pairs = pairs_new (λ (r : Row). r.directory) rows fs ls ms r put are.listed listed

  owners : ArePairs (λ (r : Row). r.object) fs (has_pair us)
  owners = pairs_new (λ (r : Row). r.object) rows fs os us r put are.owned owned

  counts : AreCounted fs mid
  counts = rw put (counted_put rows more mid r had are.counted has one_more)

  -- a row of a new name came
  pub done_new : entry rows r.directory r.name ≡ None → Done fs bt ms us mid (without_entry r.directory r.name rows ++ r ∷ [])
  done_new none = record {
    is = record {
      named = rw put (named_put rows at are.named bt r rise none short few anew);
      listed = pairs;
      owned = owners;
      counted = counts;
    };
    view = put ∙ ap (λ rows. rows ++ r ∷ []) (sym (none_gone rows r.directory r.name none));
  }

  -- a row came, and the one that had its name went
  pub done_over : (gs : List Row) (ks vs : List ((ℕ × ℕ) × Unit {0})) (last : ℕ → ℕ) (x : Row) → entry rows r.directory r.name ≡ Some x
      → gs ≡ without_record cookie fs x.cookie
      → ((q : ℕ × ℕ) → lookup (is_at (pair_cmp q)) ks ≡ cond (is_at (pair_cmp (r.directory, x.cookie)) q) None (lookup (is_at (pair_cmp q)) ms))
      → ((q : ℕ × ℕ) → lookup (is_at (pair_cmp q)) vs ≡ cond (is_at (pair_cmp (x.object, x.cookie)) q) None (lookup (is_at (pair_cmp q)) us))
      → CountsAnew mid last x.object (mid x.object - 1)
      → Done gs bt ks vs last (without_entry r.directory r.name rows ++ r ∷ [])
  done_over gs ks vs last x found gone unlisted unowned one_less =
      let rising = rise_put rows fs r rise put in
      let is = find_in (is_entry r.directory r.name) rows x found in
      let there : In x fs = rw put (push_in rows r x is.0) in
      let view : gs ≡ without_entry r.directory r.name rows ++ r ∷ [] =
      gone ∙ ap (λ rows. without_record cookie rows x.cookie) put ∙ gone_before rows at r x are.named rise found in
      record {
        is = record {
          named = rw view (named_over rows at bt r are.named rise short few anew);
          listed = pairs_less (λ (r : Row). r.directory) (r.cookie + 1) r.directory fs gs ms ks x gone rising there (entry_parts r.directory r.name x is.1).0 pairs unlisted;
          owned = pairs_less (λ (r : Row). r.object) (r.cookie + 1) x.object fs gs us vs x gone rising there refl owners unowned;
          counted = rw gone (counted_gone (r.cookie + 1) fs mid last x rising there counts one_less);
        };
        view = view;
      }

-- a row went
pub done_gone : (rows gs : List Row) (at bt : ℕ → List ℕ → Option ℕ) (ls ks os vs : List ((ℕ × ℕ) × Unit {0})) (more last : ℕ → ℕ) (d : ℕ) (name : List ℕ) (x : Row)
    → AreMapped rows at ls os more
    → entry rows d name ≡ Some x → gs ≡ without_record cookie rows x.cookie
    → NamesAnew at bt d name None
    → ((q : ℕ × ℕ) → lookup (is_at (pair_cmp q)) ks ≡ cond (is_at (pair_cmp (d, x.cookie)) q) None (lookup (is_at (pair_cmp q)) ls))
    → ((q : ℕ × ℕ) → lookup (is_at (pair_cmp q)) vs ≡ cond (is_at (pair_cmp (x.object, x.cookie)) q) None (lookup (is_at (pair_cmp q)) os))
    → CountsAnew more last x.object (more x.object - 1)
    → Done gs bt ks vs last (without_entry d name rows)
done_gone rows gs at bt ls ks os vs more last d name x are found gone anew unlisted unowned one_less =
    let is = find_in (is_entry d name) rows x found in
    let view : gs ≡ without_entry d name rows = gone ∙ gone_same rows at are.named d name x found in
    record {
      is = record {
        named = rw view (named_gone rows at are.named bt d name anew);
        listed = pairs_less (λ (r : Row). r.directory) are.named.high d rows gs ls ks x gone are.named.rising is.0 (entry_parts d name x is.1).0 are.listed unlisted;
        owned = pairs_less (λ (r : Row). r.object) are.named.high x.object rows gs os vs x gone are.named.rising is.0 refl are.owned unowned;
        counted = rw gone (counted_gone are.named.high rows more last x are.named.rising is.0 are.counted one_less);
      };
      view = view;
    }

-- the same names and directories, and the same pairs of objects
pub same_maps : (rows fs : List Row) (at bt : ℕ → List ℕ → Option ℕ) (ls ks os vs : List ((ℕ × ℕ) × Unit {0})) (more new : ℕ → ℕ) → AreMapped rows at ls os more
    → fs ≡ rows → bt ≡ at → ks ≡ ls → ((q : ℕ × ℕ) → lookup (is_at (pair_cmp q)) vs ≡ lookup (is_at (pair_cmp q)) os)
    → ((n : ℕ) → new n ≡ more n) → AreMapped fs bt ks vs new
same_maps rows fs at bt ls ks os vs more new are e f g h j =
    subst (λ rows. AreMapped rows bt ks vs new) (sym e) (subst (λ at. AreMapped rows at ks vs new) (sym f) (subst (λ ls. AreMapped rows at ls vs new) (sym g) (record {
      named = are.named;
      listed = are.listed;
      owned = λ q. ap is_some (h q) ∙ are.owned q;
      counted = λ n. j n ∙ are.counted n;
    })))

-- no rows
pub mapped_none : (rows : List Row) (at : ℕ → List ℕ → Option ℕ) (ls os : List ((ℕ × ℕ) × Unit {0})) (more : ℕ → ℕ) → rows ≡ [] → ((d : ℕ) (name : List ℕ) → at d name ≡ None)
    → ls ≡ [] → os ≡ [] → ((n : ℕ) → more n ≡ 0) → AreMapped rows at ls os more
mapped_none rows at ls os more e none g h zero = subst (λ rows. AreMapped rows at ls os more) (sym e) (subst (λ ls. AreMapped [] at ls os more) (sym g) (subst (λ os. AreMapped [] at [] os more) (sym h) (record {
  named = record {
    high = 3;
    rising = omega arith;
    short = λ r there. absurd there;
    few = λ r there. absurd there;
    found = λ r there. absurd there;
    names = λ d name lt is. none d name;
  };
  listed = λ q. refl;
  owned = λ q. refl;
  counted = zero;
})))

-- a name that a row can have is short
pub short_of : (name : List ℕ) → is_name name ≡ true → length name ≤ most_name
short_of name e = leb-true _ _ (and_parts _ _ e).1
