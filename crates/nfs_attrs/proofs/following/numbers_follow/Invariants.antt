use Rattle.std.proofs.Common.{◌≡◌, ◌++◌, take}
use Rattle.std.specs.List.{flat_map}
use Rattle.nfs_xdr.specs.Spelling.{number}
use Rattle.nfs_attrs.proofs.following.numbers_follow.Given as goal

abbrev pub invariant-loop-value : goal.invariant-loop-value
invariant-loop-value l = l.fn.cursor ≡ flat_map number (take l.value-index l.values) ++ l.cursor
