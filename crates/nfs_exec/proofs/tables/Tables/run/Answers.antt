use Rattle.std.proofs.Common.{arith, refl, ℕ, ◌+◌, ◌-◌, ◌≤◌, ◌∷◌, ap, subst, ◌∙◌, List, length}
use Rattle.nfs_compound.specs.{declared.op.Item.Item, Request.Request}
use Rattle.nfs_names.specs.{declared.context.Context.Context, Outcome.is_lack}
use Rattle.nfs_xdr.specs.SheetState.{SheetState}
use Rattle.nfs_exec.specs.{declared.tables.Tables.Tables, Step.Machine.machine_of, Step.Run.in_room, Step.View.Steps}
use Rattle.nfs_exec.proofs.Step.Running.{Stand, Going, Stepped, so_far, begins, goes_on, ends, ends_with, ends_within, not_ok, counted, whole}
use Rattle.nfs_exec.proofs.tables.Tables.run.Goals as goal
use Rattle.nfs_exec.proofs.tables.Tables.run.Goals.{After-in_room-status}

abbrev stand : Tables → Context → SheetState → Stand
stand tables context sheet = record { machine = machine_of tables; context = context; sheet = sheet }

-- where the run began, where it stands, and where one more operation leaves it
abbrev first : After-in_room-status → Stand
first c = stand c.args.self.now c.args.context.now c.args.out.now

abbrev here : After-in_room-status → Stand
here c = stand c.loop-item.self c.loop-item.context c.loop-item.out

abbrev next : After-in_room-status → Stand
next c = stand c.in_room-status.new.self c.in_room-status.new.context c.in_room-status.new.out

going : (c : After-in_room-status)
    → Going c.args.reply.limit c.args.reply.sofar (length c.args.out.now.bytes) c.args.now (first c) (here c) c.args.args.now.left (c.in-Some.item ∷ c.next.new.self.left) c.loop-item.count
going c = subst (λ (left : List Item). Going c.args.reply.limit c.args.reply.sofar (length c.args.out.now.bytes) c.args.now (first c) (here c) c.args.args.now.left left c.loop-item.count)
    c.in-Some.ensures.item c.loop-item.invariant.going

-- what holds of the bytes as the code counts them holds of them
at_code : (c : After-in_room-status) (P : (sofar : ℕ) → Type 0)
    → P (c.args.reply.sofar + (c.len.result - c.len-begin.result)) → P (so_far c.args.reply.sofar (length c.args.out.now.bytes) (here c).sheet)
at_code c P = counted P c.args.reply.sofar (length c.args.out.now.bytes) (here c).sheet c.len-begin.result c.len.result
    c.len-begin.ensures.value c.len.ensures.value

did : (c : After-in_room-status)
    → Stepped c.args.reply.limit c.args.reply.sofar (length c.args.out.now.bytes) c.args.now (here c) (next c) c.in-Some.item c.in_room-status.result
did c = at_code c
    (λ sofar. Steps (in_room c.args.reply.limit sofar c.args.now (is_lack c.in_room-status.result) (here c).machine (here c).context c.in-Some.item)
    c.in_room-status.result (next c).machine (next c).context (here c).sheet (next c).sheet)
    c.in_room-status.ensures.steps

pub loop-item-preserved : goal.loop-item-preserved
loop-item-preserved c =
    let at = (goal.at.loop-item-preserved c).After-in_room-status in
    let more = at_code at (λ sofar. length (next at).sheet.bytes + sofar + 12 ≤ length (here at).sheet.bytes + c.args.reply.limit)
    (c.in_room-status.ensures.more c.in-Nfs4Ok.is) in
    record {
      going = goes_on c.args.reply.limit c.args.reply.sofar (length c.args.out.now.bytes) c.args.now (first at) (here at) (next at) c.args.args.now.left
          c.next.new.self.left c.in-Some.item c.loop-item.count c.in_room-status.result (going at) (did at) c.in-Nfs4Ok.is more;
      same = c.in-Some.ensures.head ∙ ap (λ (r : Request). record r { left = c.next.new.self.left }) c.loop-item.invariant.same;
      store = c.in_room-status.ensures.store;
    }

pub returns-in_default-status : goal.returns-in_default-status
returns-in_default-status c =
    let at = (goal.at.returns-in_default-status c).After-in_room-status in
    let fits = at_code at (λ sofar. length (next at).sheet.bytes + sofar ≤ length (here at).sheet.bytes + c.args.reply.limit) c.in_room-status.ensures.fits in
    record {
      ran = whole c.args.reply.limit c.args.reply.sofar c.args.now (first at) c.args.args.now.left _ _ _
          (ends_with c.args.reply.limit c.args.reply.sofar (length c.args.out.now.bytes) c.args.now (first at) (here at) (next at) c.args.args.now.left c.next.new.self.left
          c.in-Some.item c.loop-item.count c.in_room-status.result (going at) (did at) (not_ok c.in_room-status.result c.in_default-status.not-Nfs4Ok));
      fits = ends_within c.args.reply.limit c.args.reply.sofar (length c.args.out.now.bytes) c.args.now (first at) (here at) (next at).sheet c.args.args.now.left
          c.next.new.self.left c.in-Some.item c.loop-item.count (going at) fits;
      same = c.in-Some.ensures.head ∙ ap (λ (r : Request). record r { left = c.next.new.self.left }) c.loop-item.invariant.same;
      store = c.in_room-status.ensures.store;
    }

pub loop-item-init : goal.loop-item-init
loop-item-init c = record {
  going = begins c.args.reply.limit c.args.reply.sofar (length c.args.out.now.bytes) c.args.now (stand c.args.self.now c.args.context.now c.args.out.now)
      c.args.args.now.left c.requires.bears c.requires.few (omega arith) (let reserve = c.requires.reserve in omega (arith, reserve));
  same = refl;
  store = c.requires.store;
}

pub returns-clause-ran : goal.returns-clause-ran
returns-clause-ran c =
    let begun = stand c.args.self.now c.args.context.now c.args.out.now in
    let ended = stand c.loop-item.self c.loop-item.context c.loop-item.out in
    whole c.args.reply.limit c.args.reply.sofar c.args.now begun c.args.args.now.left _ _ _
    (ends c.args.reply.limit c.args.reply.sofar (length c.args.out.now.bytes) c.args.now begun ended c.args.args.now.left c.loop-item.count
    (subst (λ (left : List Item). Going c.args.reply.limit c.args.reply.sofar (length c.args.out.now.bytes) c.args.now begun ended c.args.args.now.left left c.loop-item.count)
    c.in_default.ensures.item.0 c.loop-item.invariant.going))
