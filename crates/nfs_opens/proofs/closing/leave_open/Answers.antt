use Rattle.std.proofs.Common.{◌≡◌, Some, None, refl, sym, ◌∙◌, ap}
use Rattle.std.specs.{Prelude.{◌==◌, find}, Option.option_copied}
use Rattle.nfs_opens.specs.{Holding.held_by, declared.records.LockState.LockState}
use Rattle.nfs_opens.proofs.LeaveLemmas.{left_gone, left_locks, left_bytes, fewer_gone}
use Rattle.nfs_opens.proofs.closing.leave_open.Goals as goal

pub loop-lock-init : goal.loop-lock-init
loop-lock-init c = (record { stay = refl; bytes = refl }, λ f some. some)

pub loop-lock-smaller : goal.loop-lock-smaller
loop-lock-smaller c =
    let found : find (λ (l : LockState). l.opened == c.args.opened) c.loop-lock.locks.items ≡ Some c.in-Some.lock.now =
    sym c.first_under.ensures.found ∙ ap option_copied c.in-Some.is in
    fewer_gone (λ k. k.opened == c.args.opened) c.loop-lock.locks.items c.leave_one.new.locks.items c.in-Some.lock.now found c.leave_one.ensures.locks

pub loop-lock-preserved : goal.loop-lock-preserved
loop-lock-preserved c =
    let found : find (λ (l : LockState). l.opened == c.args.opened) c.loop-lock.locks.items ≡ Some c.in-Some.lock.now =
    sym c.first_under.ensures.found ∙ ap option_copied c.in-Some.is in
    let left = left_gone (λ k. k.opened == c.args.opened) c.args.locks.now.items (held_by c.args.files.now) c.loop-lock.locks.items (held_by c.loop-lock.files)
    c.loop-lock.invariant.0 c.in-Some.lock.now c.leave_one.new.locks.items (held_by c.leave_one.new.files) c.first_under.ensures.rises found
    c.leave_one.ensures.locks c.leave_one.ensures.held in
    (left, λ f some. c.loop-lock.invariant.1 f (c.leave_one.ensures.listed f some))

pub returns-clause-held : goal.returns-clause-held
returns-clause-held c =
    let none : find (λ (l : LockState). l.opened == c.args.opened) c.loop-lock.locks.items ≡ None =
    sym c.first_under.ensures.found ∙ ap option_copied c.in_default.is in
    left_bytes (λ k. k.opened == c.args.opened) c.args.locks.now.items (held_by c.args.files.now) c.loop-lock.locks.items (held_by c.loop-lock.files)
    c.loop-lock.invariant.0 none

pub returns-clause-locks : goal.returns-clause-locks
returns-clause-locks c =
    let none : find (λ (l : LockState). l.opened == c.args.opened) c.loop-lock.locks.items ≡ None =
    sym c.first_under.ensures.found ∙ ap option_copied c.in_default.is in
    left_locks (λ k. k.opened == c.args.opened) c.args.locks.now.items (held_by c.args.files.now) c.loop-lock.locks.items (held_by c.loop-lock.files)
    c.loop-lock.invariant.0 none

pub returns-clause-listed : goal.returns-clause-listed
returns-clause-listed c = c.loop-lock.invariant.1
