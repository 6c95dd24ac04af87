use Rattle.std.proofs.Common.{◌∙◌, ap}
use Rattle.std.specs.Prelude.{option_map}
use Rattle.nfs_tree.specs.{declared.row.Found.Found, Files.entry}
use Rattle.nfs_tree.proofs.MapLemmas.{found_object}
use Rattle.nfs_tree.proofs.tree.Tree.find.Goals as goal

pub returns-clause-object : goal.returns-clause-object
returns-clause-object c =
    rw (← c.self.view_is) (ap (option_map (λ (f : Found). f.object)) c.find.ensures
    ∙ found_object (entry c.self.inside.rows c.args.directory c.args.name.now))
