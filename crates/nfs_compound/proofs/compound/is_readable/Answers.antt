use Rattle.std.proofs.Common.{◌∙◌, ap, eqb}
use Rattle.nfs_compound.proofs.Walk.{at_none, at_fault, at_operation, at_end, passed_over}
use Rattle.nfs_compound.specs.ReadRequest.{item_at}
use Rattle.nfs_compound.proofs.compound.is_readable.Goals as goal

pub returns-in_default : goal.returns-in_default
returns-in_default c = at_none c.args.count c.loop.counter c.loop.cursor _ c.loop-test.true c.in_default.ensures c.loop.invariant

pub returns-then-is_fault : goal.returns-then-is_fault
returns-then-is_fault c =
    let x = passed_over (item_at c.loop.cursor) _ _ c.in-Some.ensures in
    at_fault c.args.count c.loop.counter c.loop.cursor x.0 _ _ c.loop-test.true x.1 (x.2 ∙ c.if-is_fault.true) c.loop.invariant

pub loop-preserved : goal.loop-preserved
loop-preserved c =
    let x = passed_over (item_at c.loop.cursor) _ _ c.in-Some.ensures in
    at_operation c.args.count c.loop.counter c.loop.cursor x.0 _ _ c.loop-test.true x.1 (x.2 ∙ c.if-is_fault.false) c.loop.invariant

pub returns : goal.returns
returns c = ap (λ n. eqb n 0) c.left.ensures ∙ at_end c.args.count c.loop.counter c.loop.cursor _ c.loop-test.false c.loop.invariant
