use Rattle.std.proofs.Common.{sym, ◌∙◌, []}
use Rattle.nfs_results.proofs.Numbers.{no_status, next_status, last_status}
use Rattle.nfs_results.proofs.item_reading.are_statuses.Goals as goal

pub returns-then-not-is_status : goal.returns-then-not-is_status
returns-then-not-is_status c = no_status c.args.spelled.now c.loop-number.number-index [] _ c.loop-number-test.true
    (sym c.is_status.ensures ∙ c.if-not-is_status.true) c.loop-number.invariant

pub loop-number-preserved : goal.loop-number-preserved
loop-number-preserved c = next_status c.args.spelled.now c.loop-number.number-index [] _ c.loop-number-test.true
    (sym c.is_status.ensures ∙ c.if-not-is_status.false) c.loop-number.invariant

pub returns : goal.returns
returns c = last_status c.args.spelled.now c.loop-number.number-index _ c.loop-number-test.false c.loop-number.invariant
