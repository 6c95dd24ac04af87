use Rattle.std.proofs.Common.{◌++◌, length, take}
use Rattle.std.specs.List.{flat_map}
use Rattle.nfs_xdr.specs.{Spelling.number, SheetState.Puts}
use Rattle.nfs_attrs.proofs.mask.Mask.put.Given as goal

abbrev pub invariant-loop-word : goal.invariant-loop-word
invariant-loop-word l = Puts l.fn.out l.out (number (length l.words) ++ flat_map number (take l.word-index l.words))
