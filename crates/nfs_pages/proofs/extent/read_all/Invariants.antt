use Rattle.std.proofs.Common.{◌≡◌, ◌≤◌, ◌+◌, ◌-◌, ◌++◌, length, map}
use Rattle.std.specs.List.{range_with_len}
use Rattle.nfs_pages.specs.{Page.page_in, Pages.byte_in}
use Rattle.nfs_pages.proofs.extent.read_all.Given as goal

abbrev pub invariant-loop-done : goal.invariant-loop-done
invariant-loop-done l = record {
  done : l.done ≤ l.count;
  len : length l.out.bytes ≡ length l.initial.out.bytes + l.done;
  room : l.out.room ≡ l.initial.out.room;
  bytes : l.out.bytes ≡ l.initial.out.bytes ++ map (byte_in (page_in l.pages)) (range_with_len l.offset l.done);
}

abbrev pub decreases-loop-done : goal.decreases-loop-done
decreases-loop-done l = l.count - l.done
