use Rattle.std.proofs.Common.{◌≡◌, ◌≤◌, ◌<◌, ℕ, length, get_or}
use Rattle.nfs_pages.specs.Page.{page_size, page_in, is_in}
use Rattle.nfs_pages.proofs.extent.make_all.Given as goal

abbrev pub invariant-loop-j : goal.invariant-loop-j
invariant-loop-j l = record {
  same : (k : ℕ) (b : ℕ) → get_or (page_in l.pages k) b 0 ≡ get_or (page_in l.initial.pages k) b 0;
  before : (k : ℕ) → k < l.first → page_in l.pages k ≡ page_in l.initial.pages k;
  whole : (k : ℕ) → l.first ≤ k → k < l.j → length (page_in l.pages k) ≡ page_size;
  written : (k : ℕ) → is_in l.pages k ≡ is_in l.initial.pages k;
}
