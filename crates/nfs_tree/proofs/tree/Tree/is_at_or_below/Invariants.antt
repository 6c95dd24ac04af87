use Rattle.std.proofs.Common.{◌≡◌, ◌-◌, true}
use Rattle.nfs_tree.specs.{Files.is_directory_at, Names.is_at_or_below}
use Rattle.nfs_tree.proofs.tree.Tree.is_at_or_below.Given as goal

-- the way up goes on from a directory
abbrev pub invariant-loop-step : goal.invariant-loop-step
invariant-loop-step l = record {
  directory : is_directory_at l.self l.row.directory ≡ true;
  climb : is_at_or_below l.self.rows l.top (l.levels - l._step) l.row.directory ≡ is_at_or_below l.self.rows l.top l.levels l.object;
}
