use Rattle.std.proofs.Common.{◌≡◌, ◌-◌, cond, Some, None, sym, ◌∙◌, ap, subst}
use Rattle.std.specs.BTreeMap.{is_at, get}
use Rattle.nfs_xdr.specs.Tables.{without_record}
use Rattle.nfs_tree.specs.{Files.{entry, without_entry}, ByName.cookies, Counts.{further, CountsAnew}, Maps.pair_cmp}
use Rattle.nfs_tree.proofs.{MapLemmas.{cookie, some_found, short_name}, Mapped.{Done, done_gone}}
use Rattle.nfs_tree.proofs.rows.Rows.drop_entry.Goals as goal

pub remove-requires : goal.remove-requires
remove-requires c =
    let x = some_found (entry c.args.self.now c.args.directory c.args.name.now) c.args.gone c.requires in
    let found : entry c.self.inside.tables.rows c.args.directory c.args.name.now ≡ Some x.0 =
    ap (λ rows. entry rows c.args.directory c.args.name.now) c.self.view_is ∙ x.1 in
    short_name _ _ c.self.invariant.named c.args.directory c.args.name.now x.0 found

done : (c : goal.After-take-2) → Done c.take.new.rows (cookies c.remove.new.self) c.take.new.listed.entries c.take_pair.new.pairs.entries (further c.take-2.new.self)
    (without_entry c.args.directory c.args.name.now c.self.inside.tables.rows)
done c =
    let x = some_found (entry c.args.self.now c.args.directory c.args.name.now) c.args.gone c.requires in
    let found : entry c.self.inside.tables.rows c.args.directory c.args.name.now ≡ Some x.0 =
    ap (λ rows. entry rows c.args.directory c.args.name.now) c.self.view_is ∙ x.1 in
    done_gone c.self.inside.tables.rows c.take.new.rows (cookies c.self.inside.tables.names) (cookies c.remove.new.self) c.self.inside.tables.listed.entries c.take.new.listed.entries c.self.inside.tables.owned.entries c.take_pair.new.pairs.entries
    (further c.self.inside.counts) (further c.take-2.new.self) c.args.directory c.args.name.now x.0 c.self.invariant found
    (c.take.ensures.rows ∙ ap (λ k. without_record cookie c.self.inside.tables.rows k) (sym x.3)) c.remove.ensures
    (λ q. c.take.ensures.listed q ∙ ap (λ k. cond (is_at (pair_cmp (c.args.directory, k)) q) None (get pair_cmp c.self.inside.tables.listed q)) (sym x.3))
    (λ q. c.take_pair.ensures q ∙ ap (λ n. cond (is_at (pair_cmp (n, c.args.gone.cookie)) q) None (get pair_cmp c.self.inside.tables.owned q)) (sym x.2)
    ∙ ap (λ k. cond (is_at (pair_cmp (x.0.object, k)) q) None (get pair_cmp c.self.inside.tables.owned q)) (sym x.3))
    (subst (λ n. CountsAnew (further c.self.inside.counts) (further c.take-2.new.self) n (further c.self.inside.counts n - 1)) (sym x.2) c.take-2.ensures)

pub invariant_of-self : goal.invariant_of-self
invariant_of-self c = (done c).is

pub returns : goal.returns
returns c = rw (← c.self.view_is) (done c).view
