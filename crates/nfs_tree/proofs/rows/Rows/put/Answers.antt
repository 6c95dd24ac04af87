use Rattle.std.proofs.Common.{◌≡◌, ◌∷◌, [], ◌++◌, ℕ, List, ◌-◌, ◌<◌, ◌^◌, cond, Some, None, sym, ◌∙◌, ap, arith, subst}
use Rattle.std.specs.{BTreeMap.{is_at, get}, Map.lookup}
use Rattle.nfs_xdr.specs.Tables.{IsRising, without_record}
use Rattle.nfs_tree.specs.{declared.row.Row.Row, Files.{entry, has_row, without_entry}, ByName.cookies, Counts.{further, CountsAnew}, Maps.pair_cmp}
use Rattle.nfs_tree.proofs.{PairLemmas.{pair_new, is_none}, Counted.{links_few, counted_back}, MapLemmas.{cookie, some_found, none_found}}
use Rattle.nfs_tree.proofs.Mapped.{Done, done_new, done_over, same_maps}
use Rattle.nfs_tree.proofs.rows.Rows.put.Goals as goal

pub add-requires : goal.add-requires
add-requires c =
    let few = links_few c.self.inside.tables.rows _ c.args.to.now.object c.self.invariant.named in
    let more = c.self.invariant.counted c.args.to.now.object in
    omega arith

pub add-added-requires-clause-new_pair : goal.add-added-requires-clause-new_pair
add-added-requires-clause-new_pair c =
    let rise = subst (λ (rows : List Row). IsRising cookie 3 rows c.args.to.now.cookie) (sym c.self.view_is) c.requires.last in
    is_none _ (pair_new (λ (r : Row). r.directory) 3 c.args.to.now.cookie _ _ c.args.to.now.directory c.args.to.now.cookie rise (omega arith) c.self.invariant.listed)

pub add-added-requires-clause-new_owner : goal.add-added-requires-clause-new_owner
add-added-requires-clause-new_owner c =
    let rise = subst (λ (rows : List Row). IsRising cookie 3 rows c.args.to.now.cookie) (sym c.self.view_is) c.requires.last in
    is_none _ (pair_new (λ (r : Row). r.object) 3 c.args.to.now.cookie _ _ c.args.to.now.object c.args.to.now.cookie rise (omega arith) c.self.invariant.owned)

-- what did not come is not counted
pub invariant_of-self-in-Err : goal.invariant_of-self-in-Err
invariant_of-self-in-Err c =
    let named = c.requires.named ∙ ap (λ (rows : List Row). has_row rows c.args.to.now.object) (sym c.self.view_is) in
    same_maps _ _ _ _ _ _ _ _ (further c.self.inside.counts) (further c.take.new.self) c.self.invariant c.in-Err.ensures.err_rows c.in-Err.ensures.err_names
    c.in-Err.ensures.err_listed (λ q. ap (lookup (is_at (pair_cmp q))) c.in-Err.ensures.err_owned)
    (counted_back c.self.inside.tables.rows (further c.self.inside.counts) (further c.add.new.self) (further c.take.new.self) c.args.to.now.object c.args.to.now.named
    c.self.invariant.counted named c.in_ok-add.ensures.ok c.take.ensures)

over : (c : goal.After-take-in-Some-2) → Done c.take-in-Some.new.rows (cookies c.add-added.new.self.names) c.take-in-Some.new.listed.entries c.take_pair.new.pairs.entries
    (further c.take-in-Some-2.new.self)
    (without_entry c.args.to.now.directory c.args.to.now.name.now c.self.inside.tables.rows
    ++ (let r : Row = record { directory = c.args.to.now.directory; name = c.args.to.now.name.now; object = c.args.to.now.object; cookie = c.args.to.now.cookie } in r) ∷ [])
over c =
    let rows = c.self.inside.tables.rows in
    let row : Row = record { directory = c.args.to.now.directory; name = c.args.to.now.name.now; object = c.args.to.now.object; cookie = c.args.to.now.cookie } in
    let rise : IsRising cookie 3 rows c.args.to.now.cookie = subst (λ (rows : List Row). IsRising cookie 3 rows c.args.to.now.cookie) (sym c.self.view_is) c.requires.last in
    let directory : c.args.to.now.directory < 2 ^ 64 = omega arith in
    let last : c.args.to.now.cookie < 2 ^ 64 = omega arith in
    let name : c.in_ok-kept.kept ≡ c.args.to.now.name.now = c.in_ok-kept.ensures in
    let put : c.add-added.new.self.rows ≡ rows ++ row ∷ [] = c.in_default.ensures.rows
    ∙ ap (λ (n : List ℕ). rows ++ (let r : Row = record { directory = c.args.to.now.directory; name = n; object = c.args.to.now.object; cookie = c.args.to.now.cookie } in r) ∷ []) name in
    let named = c.requires.named ∙ ap (λ (rows : List Row). has_row rows c.args.to.now.object) (sym c.self.view_is) in
    let x = some_found (entry c.args.self.now c.args.to.now.directory c.args.to.now.name.now) c.in-Some.loser (sym c.in-Some.is ∙ c.requires.replaced) in
    let found : entry rows c.args.to.now.directory c.args.to.now.name.now ≡ Some x.0 = ap (λ rows. entry rows c.args.to.now.directory c.args.to.now.name.now) c.self.view_is ∙ x.1 in
    done_over rows c.add-added.new.self.rows (cookies c.self.inside.tables.names) (cookies c.add-added.new.self.names) c.self.inside.tables.listed.entries
    c.add-added.new.self.listed.entries c.self.inside.tables.owned.entries c.add-added.new.self.owned.entries (further c.self.inside.counts) (further c.add.new.self)
    row c.args.to.now.named c.self.invariant rise c.requires.short (directory, last) put c.in_default.ensures.names c.in_default.ensures.listed
    c.in_default.ensures.owned named c.in_ok-add.ensures.ok
    c.take-in-Some.new.rows c.take-in-Some.new.listed.entries c.take_pair.new.pairs.entries (further c.take-in-Some-2.new.self) x.0 found
    (c.take-in-Some.ensures.rows ∙ ap (λ k. without_record cookie c.add-added.new.self.rows k) (sym x.3))
    (λ q. c.take-in-Some.ensures.listed q ∙ ap (λ k. cond (is_at (pair_cmp (c.args.to.now.directory, k)) q) None (get pair_cmp c.add-added.new.self.listed q)) (sym x.3))
    (λ q. c.take_pair.ensures q ∙ ap (λ n. cond (is_at (pair_cmp (n, c.in-Some.loser.cookie)) q) None (get pair_cmp c.add-added.new.self.owned q)) (sym x.2)
    ∙ ap (λ k. cond (is_at (pair_cmp (x.0.object, k)) q) None (get pair_cmp c.add-added.new.self.owned q)) (sym x.3))
    (subst (λ n. CountsAnew (further c.add.new.self) (further c.take-in-Some-2.new.self) n (further c.add.new.self n - 1)) (sym x.2) c.take-in-Some-2.ensures)

pub invariant_of-self-in-Some : goal.invariant_of-self-in-Some
invariant_of-self-in-Some c = (over c).is

pub returns-in-Some-clause-ok : goal.returns-in-Some-clause-ok
returns-in-Some-clause-ok c = rw (← c.self.view_is) (over c).view

fresh : (c : goal.In_default-replaced) → Done c.add-added.new.self.rows (cookies c.add-added.new.self.names) c.add-added.new.self.listed.entries c.add-added.new.self.owned.entries
    (further c.add.new.self)
    (without_entry c.args.to.now.directory c.args.to.now.name.now c.self.inside.tables.rows
    ++ (let r : Row = record { directory = c.args.to.now.directory; name = c.args.to.now.name.now; object = c.args.to.now.object; cookie = c.args.to.now.cookie } in r) ∷ [])
fresh c =
    let rows = c.self.inside.tables.rows in
    let row : Row = record { directory = c.args.to.now.directory; name = c.args.to.now.name.now; object = c.args.to.now.object; cookie = c.args.to.now.cookie } in
    let rise : IsRising cookie 3 rows c.args.to.now.cookie = subst (λ (rows : List Row). IsRising cookie 3 rows c.args.to.now.cookie) (sym c.self.view_is) c.requires.last in
    let directory : c.args.to.now.directory < 2 ^ 64 = omega arith in
    let last : c.args.to.now.cookie < 2 ^ 64 = omega arith in
    let name : c.in_ok-kept.kept ≡ c.args.to.now.name.now = c.in_ok-kept.ensures in
    let put : c.add-added.new.self.rows ≡ rows ++ row ∷ [] = c.in_default.ensures.rows
    ∙ ap (λ (n : List ℕ). rows ++ (let r : Row = record { directory = c.args.to.now.directory; name = n; object = c.args.to.now.object; cookie = c.args.to.now.cookie } in r) ∷ []) name in
    let named = c.requires.named ∙ ap (λ (rows : List Row). has_row rows c.args.to.now.object) (sym c.self.view_is) in
    let none : entry rows c.args.to.now.directory c.args.to.now.name.now ≡ None = ap (λ rows. entry rows c.args.to.now.directory c.args.to.now.name.now) c.self.view_is
    ∙ none_found (entry c.args.self.now c.args.to.now.directory c.args.to.now.name.now) (sym c.in_default-replaced.is ∙ c.requires.replaced) in
    done_new rows c.add-added.new.self.rows (cookies c.self.inside.tables.names) (cookies c.add-added.new.self.names) c.self.inside.tables.listed.entries
    c.add-added.new.self.listed.entries c.self.inside.tables.owned.entries c.add-added.new.self.owned.entries (further c.self.inside.counts) (further c.add.new.self)
    row c.args.to.now.named c.self.invariant rise c.requires.short (directory, last) put c.in_default.ensures.names c.in_default.ensures.listed
    c.in_default.ensures.owned named c.in_ok-add.ensures.ok none

pub invariant_of-self-in_default-replaced : goal.invariant_of-self-in_default-replaced
invariant_of-self-in_default-replaced c = (fresh c).is

pub returns-in_default-replaced-clause-ok : goal.returns-in_default-replaced-clause-ok
returns-in_default-replaced-clause-ok c = rw (← c.self.view_is) (fresh c).view
