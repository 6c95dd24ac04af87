use Rattle.std.proofs.Common.{sym, ◌∙◌, ap}
use Rattle.nfs_tree.specs.{declared.row.Row.Row, Files.without_entry, Finding.found_at}
use Rattle.nfs_tree.proofs.MapLemmas.{gone_push, found_named, found_stays}
use Rattle.nfs_tree.proofs.rename.replace_row.Goals as goal

pub put-requires-clause-named : goal.put-requires-clause-named
put-requires-clause-named c = sym (found_named c.args.rows.now c.args.m.now.source c.args.m.now.old.now c.args.ends.now.moved c.requires.moved)

pub drop_entry-requires : goal.drop_entry-requires
drop_entry-requires c =
    let m = c.args.m.now in
    let to : Row = record { directory = m.target; name = m.name.now; object = c.args.ends.now.moved.object; cookie = c.args.cookie } in
    found_stays c.args.rows.now m.source m.old.now to c.args.ends.now.moved c.requires.apart c.requires.moved
    ∙ ap (λ rows. found_at rows m.source m.old.now) (sym c.in_ok-put.ensures.ok)

pub returns-clause-ok : goal.returns-clause-ok
returns-clause-ok c =
    let m = c.args.m.now in
    c.drop_entry.ensures ∙ ap (without_entry m.source m.old.now) c.in_ok-put.ensures.ok
    ∙ gone_push m.source m.old.now (without_entry m.target m.name.now c.args.rows.now)
    (record { directory = m.target; name = m.name.now; object = c.args.ends.now.moved.object; cookie = c.args.cookie }) c.requires.apart
