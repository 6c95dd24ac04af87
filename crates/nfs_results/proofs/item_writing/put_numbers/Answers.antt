use Rattle.nfs_results.proofs.Numbers.{room_for_one, all_put}
use Rattle.std.proofs.Common.{[]}
use Rattle.nfs_results.proofs.item_writing.put_numbers.Goals as goal

pub put_u32-requires-in-loop-number : goal.put_u32-requires-in-loop-number
put_u32-requires-in-loop-number c =
    record { room = room_for_one _ _ c.args.spelled.now c.loop-number.number-index _ _ [] c.loop-number-test.true c.requires.room c.loop-number.invariant }

pub returns : goal.returns
returns c = all_put _ _ c.args.spelled.now c.loop-number.number-index c.loop-number-test.false c.loop-number.invariant
