use Rattle.std.proofs.Common.{◌∙◌, ap}
use Rattle.std.specs.Prelude.{is_some}
use Rattle.nfs_tree.specs.Files.{entry}
use Rattle.nfs_tree.proofs.MapLemmas.{found_there}
use Rattle.nfs_tree.proofs.tree.Tree.has_name.Goals as goal

pub returns : goal.returns
returns c = rw (← c.self.view_is) (c.is_some.ensures ∙ ap is_some c.find.ensures ∙ found_there (entry c.self.inside.rows c.args.directory c.args.name.now))
