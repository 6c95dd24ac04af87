use Rattle.std.proofs.Common.{◌≡◌, sym, ap, ◌∙◌, rules}
use denote.Enum.Bare.{same_true, same_false}
use Rattle.nfs_xdr.specs.{Checks.judged, contracts.status.Status.the_type}
use Rattle.nfs_opens.specs.Calls.{open_fault}
use Rattle.nfs_names.specs.State.{state_of}
use Rattle.nfs_files.specs.{Open.asking, OpenParts.number_of}
use Rattle.nfs_files.proofs.Opened.{room_decides, denied_decides, spent_decides}
use Rattle.nfs_files.proofs.entering.judge_last.Goals as goal
use Rattle.nfs_files.proofs.entering.judge_last.Goals.{After-judge_open}

-- what the opens judge is what an open asks of them
shared : (c : After-judge_open) → c.judge_open.result
    ≡ judged (open_fault (state_of c.args.store.now).opens (asking c.args.context.now c.args.asked.now (number_of c.args.found.now)))
shared c =
    let s = state_of c.args.store.now in
    let x = c.args.context.now in
    let o = c.args.asked.now in
    c.judge_open.ensures ∙ ap (λ a. judged (open_fault s.opens a)) (c.ask_for-ask.ensures ∙ ap (asking x o) c.number_of.ensures)

pub returns-in-Ok : goal.returns-in-Ok
returns-in-Ok c =
    c.judge_room-room.ensures ∙ room_decides (state_of c.args.store.now) c.args.context.now c.args.asked.now c.args.found.now
    c.judge_open.result (shared (goal.at.returns-in-Ok c).After-judge_open) c.in-Ok.is

pub returns-then-eq : goal.returns-then-eq
returns-then-eq c =
    denied_decides (state_of c.args.store.now) c.args.context.now c.args.asked.now c.args.found.now
    c.in-Err.status (sym c.in-Err.is ∙ shared (goal.at.returns-then-eq c).After-judge_open)
    (same_true the_type (search rules) _ _ (sym c.if-eq.ensures))

pub returns-in-Ok-room : goal.returns-in-Ok-room
returns-in-Ok-room c =
    let is = shared (goal.at.returns-in-Ok-room c).After-judge_open in
    (spent_decides (state_of c.args.store.now) c.args.context.now c.args.asked.now c.args.found.now c.in-Err.status (sym c.in-Err.is ∙ is)
    (same_false the_type _ _ (sym c.if-eq.ensures)) c.judge_room-room.result c.judge_room-room.ensures).0
    (sym c.in-Ok-room.is)

pub returns-in-Err-room : goal.returns-in-Err-room
returns-in-Err-room c =
    let is = shared (goal.at.returns-in-Err-room c).After-judge_open in
    (spent_decides (state_of c.args.store.now) c.args.context.now c.args.asked.now c.args.found.now c.in-Err.status (sym c.in-Err.is ∙ is)
    (same_false the_type _ _ (sym c.if-eq.ensures)) c.judge_room-room.result c.judge_room-room.ensures).1
    c.in-Err-room.other (sym c.in-Err-room.is)
