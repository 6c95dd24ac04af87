use Rattle.std.proofs.Common.{rules, ◌∙◌, ap, Bool, Some}
use Rattle.nfs_xdr.proofs.ChainLaws.{chain_unflagged, chain_ended, chain_unread, chain_passed, chain_over}
use Rattle.nfs_results.specs.Items.{entry}
use Rattle.nfs_results.proofs.entries.pass.Goals as goal

pub returns-in_err-flag : goal.returns-in_err-flag
returns-in_err-flag c =
    let none = chain_unflagged entry.read c.left-most.result c.loop.counter c.loop.c _ c.loop-test.true c.in_err-flag.ensures.exact.0 c.loop.invariant in
    search (rules, none)

pub returns-then-not-branch : goal.returns-then-not-branch
returns-then-not-branch c =
    let flag = c.in_ok-flag.ensures.exact ∙ ap (λ (more : Bool). Some (more, c.flag.new.self)) c.if-not-branch.true in
    chain_ended entry.read c.left-most.result c.loop.counter c.loop.c c.flag.new.self _ c.loop-test.true flag c.loop.invariant

pub returns-in_err-entry : goal.returns-in_err-entry
returns-in_err-entry c =
    let flag = c.in_ok-flag.ensures.exact ∙ ap (λ (more : Bool). Some (more, c.flag.new.self)) c.if-not-branch.false in
    let none = chain_unread entry.read c.left-most.result c.loop.counter c.loop.c
    c.flag.new.self _ c.loop-test.true flag c.in_err-entry.ensures c.loop.invariant in
    search (rules, none)

pub loop-preserved : goal.loop-preserved
loop-preserved c =
    let flag = c.in_ok-flag.ensures.exact ∙ ap (λ (more : Bool). Some (more, c.flag.new.self)) c.if-not-branch.false in
    chain_passed entry.read c.left-most.result c.loop.counter c.loop.c c.flag.new.self _ _ _ c.loop-test.true flag c.in_ok-entry.ensures c.loop.invariant

pub returns : goal.returns
returns c = chain_over entry.read c.left-most.result c.loop.counter c.loop.c _ c.loop-test.false c.loop.invariant
