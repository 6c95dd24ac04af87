use Rattle.std.proofs.Common.{◌≡◌, ◌≤◌, ◌+◌, ◌-◌, ◌/◌, ℕ, length, take}
use Rattle.nfs_pages.specs.{Bytes.{written_byte, covers}, Pages.{byte_in, page_of, is_written, AreMore}}
use Rattle.std.specs.Prelude.{◌||◌}
use Rattle.nfs_pages.proofs.pages.put_all.Given as goal

abbrev pub invariant-loop-done : goal.invariant-loop-done
invariant-loop-done l = record {
  done : l.done ≤ length l.text;
  whole : (k : ℕ) → length (page_of l.pages k) ≡ length (page_of l.initial.pages k);
  written : (i : ℕ) → is_written l.pages i ≡ covers l.offset l.done i || is_written l.initial.pages i;
  more : AreMore (is_written l.initial.pages) (is_written l.pages) ((l.offset + l.done) / 4096 + 64) l.more;
  bytes : (p : ℕ) → byte_in (page_of l.pages) p ≡ written_byte (byte_in (page_of l.initial.pages)) l.offset (take l.done l.text) p;
}

abbrev pub decreases-loop-done : goal.decreases-loop-done
decreases-loop-done l = length l.text - l.done
