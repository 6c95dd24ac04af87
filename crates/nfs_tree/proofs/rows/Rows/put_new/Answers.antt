use Rattle.std.proofs.{Common.{sym, ◌∙◌, ap}, lemmas.Result.on_ok_weaker}
use Rattle.std.specs.Prelude.{option_map}
use Rattle.nfs_tree.specs.{Finding.found_of, Names.with_row}
use Rattle.nfs_tree.proofs.MapLemmas.{none_gone}
use Rattle.nfs_tree.proofs.rows.Rows.put_new.Goals as goal

pub put-requires-clause-replaced : goal.put-requires-clause-replaced
put-requires-clause-replaced c = sym (ap (option_map found_of) c.requires.vacant)

pub returns-clause-ok : goal.returns-clause-ok
returns-clause-ok c = on_ok_weaker c.put.result
    (λ e. e ∙ ap (λ rows. with_row rows c.args.to.now.directory c.args.to.now.name.now c.args.to.now.object c.args.to.now.cookie) (none_gone c.args.self.now c.args.to.now.directory c.args.to.now.name.now c.requires.vacant))
    c.put.ensures.ok
