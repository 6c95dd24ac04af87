use Rattle.std.proofs.Common.{◌≡◌, ◌≤◌, ◌<◌, ◌-◌, ℕ, length}
use Rattle.nfs_pages.specs.{Page.page_size, Pages.{byte_in, page_of, is_written}}
use Rattle.nfs_pages.proofs.pages.make_all.Given as goal

abbrev pub invariant-loop-i : goal.invariant-loop-i
invariant-loop-i l = record {
  same : (p : ℕ) → byte_in (page_of l.pages) p ≡ byte_in (page_of l.initial.pages) p;
  written : (k : ℕ) → is_written l.pages k ≡ is_written l.initial.pages k;
  whole : (k : ℕ) → l.first ≤ k → k < l.i → length (page_of l.pages k) ≡ page_size;
}

abbrev pub decreases-loop-i : goal.decreases-loop-i
decreases-loop-i l = l.end - l.i
