use Rattle.std.proofs.{Common.{sym, arith}, lemmas.List.{length-take-le, take_all}}
use Rattle.nfs_files.proofs.locking.owner_of.Goals as goal

pub slice_bounds-result-end : goal.slice_bounds-result-end
slice_bounds-result-end c = sym (length-take-le 1024 c.args.bytes.now (let more = c.if-bytes-most.true in omega arith))

pub returns-else-bytes-most : goal.returns-else-bytes-most
returns-else-bytes-most c = sym (take_all 1024 c.args.bytes.now c.if-bytes-most.false)
