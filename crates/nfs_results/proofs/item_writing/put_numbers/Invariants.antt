use Rattle.std.proofs.Common.{◌++◌, length, take}
use Rattle.nfs_xdr.specs.SheetState.{Puts}
use Rattle.nfs_xdr.specs.Spelling as spelling
use Rattle.nfs_results.proofs.Numbers.{spelled}
use Rattle.nfs_results.proofs.item_writing.put_numbers.Given as goal

abbrev pub invariant-loop-number : goal.invariant-loop-number
invariant-loop-number l = Puts l.fn.out l.out (spelling.number (length l.spelled) ++ spelled (take l.number-index l.spelled))
