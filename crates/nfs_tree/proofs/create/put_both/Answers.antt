use Rattle.std.proofs.Common.{sym, ◌∙◌, ap}
use Rattle.std.specs.Prelude.{option_map}
use Rattle.nfs_xdr.proofs.Lists.{find_push_none}
use Rattle.nfs_tree.specs.{declared.row.Row.Row, Files.{is_entry, entry, without_entry}, Finding.found_of}
use Rattle.nfs_tree.proofs.{RowsKept.entry_self, MapLemmas.put_back}
use Rattle.nfs_tree.proofs.create.put_both.Goals as goal

pub drop_entry-requires : goal.drop_entry-requires
drop_entry-requires c =
    let row : Row = record { directory = c.args.to.now.directory; name = c.args.to.now.name.now; object = c.args.to.now.object; cookie = c.args.to.now.cookie } in
    sym (ap (option_map found_of) (ap (λ rows. entry rows c.args.to.now.directory c.args.to.now.name.now) c.in_ok-put_new.ensures.ok
    ∙ find_push_none (is_entry c.args.to.now.directory c.args.to.now.name.now) c.args.rows.now row c.requires.vacant (entry_self row)))

pub returns-in-Err-clause-err_rows : goal.returns-in-Err-clause-err_rows
returns-in-Err-clause-err_rows c =
    let row : Row = record { directory = c.args.to.now.directory; name = c.args.to.now.name.now; object = c.args.to.now.object; cookie = c.args.to.now.cookie } in
    c.drop_entry.ensures ∙ ap (without_entry c.args.to.now.directory c.args.to.now.name.now) c.in_ok-put_new.ensures.ok
    ∙ put_back c.args.to.now.directory c.args.to.now.name.now c.args.rows.now row (entry_self row) c.requires.vacant
