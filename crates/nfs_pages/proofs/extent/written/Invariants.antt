use Rattle.std.proofs.Common.{◌≡◌}
use Rattle.nfs_pages.specs.Page.{is_in, count_below}
use Rattle.nfs_pages.proofs.extent.written.Given as goal

abbrev pub invariant-loop-page : goal.invariant-loop-page
invariant-loop-page l = l.count ≡ count_below (is_in l.pages) l.page-index
