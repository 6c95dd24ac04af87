use Rattle.std.proofs.Common.{◌≡◌, ◌≤◌, ◌+◌, ℕ, nat_le, nat_lt}
use Rattle.std.specs.Prelude.{◌&&◌, ◌||◌}
use Rattle.nfs_pages.specs.{Page.{page_in, is_in}, Pages.AreMore}
use Rattle.nfs_pages.proofs.extent.mark_all.Given as goal

abbrev pub invariant-loop-j : goal.invariant-loop-j
invariant-loop-j l = record {
  pages : (k : ℕ) → page_in l.pages k ≡ page_in l.initial.pages k;
  written : (k : ℕ) → is_in l.pages k ≡ nat_le l.first k && nat_lt k l.j || is_in l.initial.pages k;
  more : AreMore (is_in l.initial.pages) (is_in l.pages) l.j l.more;
  few : l.first + l.more ≤ l.j;
}
