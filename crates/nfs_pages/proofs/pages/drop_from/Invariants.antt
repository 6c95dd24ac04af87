use Rattle.std.proofs.Common.{◌≡◌, ℕ, ◌<◌}
use Rattle.std.specs.BTreeMap.{btree_map_len}
use Rattle.nfs_pages.specs.Pages.{extent_of}
use Rattle.nfs_pages.proofs.pages.drop_from.Given as goal

abbrev pub invariant-loop : goal.invariant-loop
invariant-loop l = (i : ℕ) → i < l.first → extent_of l.pages i ≡ extent_of l.initial.pages i

abbrev pub decreases-loop : goal.decreases-loop
decreases-loop l = btree_map_len l.pages.map
