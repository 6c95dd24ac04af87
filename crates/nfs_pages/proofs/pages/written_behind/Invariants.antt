use Rattle.std.proofs.Common.{◌≡◌, ◌+◌}
use Rattle.nfs_pages.proofs.WrittenLemmas.{sum_of}
use Rattle.nfs_pages.proofs.pages.written_behind.Given as goal

abbrev pub invariant-loop-extent : goal.invariant-loop-extent
invariant-loop-extent l = l.count + sum_of l.extent-iterator ≡ sum_of l.initial.extent-iterator
