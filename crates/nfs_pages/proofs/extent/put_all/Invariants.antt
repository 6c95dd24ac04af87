use Rattle.std.proofs.Common.{◌≡◌, ◌≤◌, ◌-◌, ℕ, length, take}
use Rattle.nfs_pages.specs.{Bytes.written_byte, Page.{page_in, is_in}, Pages.byte_in}
use Rattle.nfs_pages.proofs.extent.put_all.Given as goal

abbrev pub invariant-loop-done : goal.invariant-loop-done
invariant-loop-done l = record {
  done : l.done ≤ length l.text;
  whole : (k : ℕ) → length (page_in l.pages k) ≡ length (page_in l.initial.pages k);
  bytes : (p : ℕ) → byte_in (page_in l.pages) p ≡ written_byte (byte_in (page_in l.initial.pages)) l.offset (take l.done l.text) p;
  written : (k : ℕ) → is_in l.pages k ≡ is_in l.initial.pages k;
}

abbrev pub decreases-loop-done : goal.decreases-loop-done
decreases-loop-done l = length l.text - l.done
