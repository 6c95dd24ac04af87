use Rattle.std.proofs.Common.{◌∙◌, ap}
use Rattle.nfs_xdr.specs.Tables.{without_record}
use Rattle.nfs_tree.proofs.MapLemmas.{cookie, taken_back}
use Rattle.nfs_tree.proofs.rows.put_named.Goals as goal

pub returns-in-Err-clause-err_rows : goal.returns-in-Err-clause-err_rows
returns-in-Err-clause-err_rows c = c.drop_row.ensures ∙ ap (λ rows. without_record cookie rows c.args.row.cookie) c.in_ok-push.ensures.ok
    ∙ taken_back c.args.rows.now c.args.row c.requires.rising
