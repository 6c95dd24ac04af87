use Rattle.std.proofs.Common.{◌≡◌, ◌+◌, ◌%◌, length}
use Rattle.nfs_attrs.specs.{Asked.values_of, Attributes.values, Mask.numbers_of}
use Rattle.nfs_attrs.proofs.value.values_len.Given as goal

abbrev pub invariant-loop-number : goal.invariant-loop-number
invariant-loop-number l = record {
  exact : l.length + length (values_of (numbers_of l.left) l.about l.object) ≡ length (values l.asked l.about l.object);
  words : l.length % 4 ≡ 0;
}

abbrev pub decreases-loop-number : goal.decreases-loop-number
decreases-loop-number l = length (numbers_of l.left)
