use Rattle.std.proofs.Common.{rules}
use Rattle.nfs_xdr.proofs.WordLaws.{many_refused, many_passed, many_over}
use Rattle.nfs_compound.specs.ArgCodecs.{sec_parms}
use Rattle.nfs_compound.proofs.callback.pass_all.Goals as goal

pub returns-in_err-pass : goal.returns-in_err-pass
returns-in_err-pass c =
    let none = many_refused sec_parms.read _ c.loop.counter c.loop.c _ c.loop-test.true c.in_err-pass.ensures c.loop.invariant in search (rules, none)

pub loop-preserved : goal.loop-preserved
loop-preserved c = many_passed sec_parms.read _ c.loop.counter c.loop.c _ _ _ c.loop-test.true c.in_ok-pass.ensures c.loop.invariant

pub returns : goal.returns
returns c = many_over sec_parms.read _ c.loop.counter c.loop.c _ c.loop-test.false c.loop.invariant
