use Rattle.std.proofs.Common.{◌≡◌, ◌%◌, ◌++◌, length}
use Rattle.nfs_xdr.specs.SheetState.{Puts}
use Rattle.nfs_attrs.specs.{Asked.values_of, Mask.numbers_of}
use Rattle.nfs_attrs.proofs.value.put_each.Given as goal

abbrev pub invariant-loop-number : goal.invariant-loop-number
invariant-loop-number l = record {
  put : Puts l.fn.out (record l.out { bytes = l.out.bytes ++ values_of (numbers_of l.left) l.about l.object }) (values_of (numbers_of l.fn.asked) l.about l.object);
  words : length l.out.bytes % 4 ≡ length l.fn.out.bytes % 4;
}

abbrev pub decreases-loop-number : goal.decreases-loop-number
decreases-loop-number l = length (numbers_of l.left)
