use Rattle.std.proofs.Common.{◌≡◌, ◌≤◌, ◌-◌, ℕ, length}
use Rattle.std.specs.Prelude.{max}
use Rattle.nfs_pages.specs.Page.{leaf_in}
use Rattle.nfs_pages.proofs.extent.reach.Given as goal

abbrev pub invariant-loop-alloc : goal.invariant-loop-alloc
invariant-loop-alloc l = record {
  same : (j : ℕ) → leaf_in l.pages.items j ≡ leaf_in l.initial.pages.items j;
  few : length l.pages.items ≤ max 64 l.count;
}

abbrev pub decreases-loop-alloc : goal.decreases-loop-alloc
decreases-loop-alloc l = l.count - length l.pages.items
