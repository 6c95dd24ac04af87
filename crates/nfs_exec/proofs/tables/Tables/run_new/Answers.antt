use Rattle.std.proofs.Common.{ℕ, ◌≡◌, ◌-◌, ◌≤◌, List, length, take, drop, ap, sym, subst, ◌∙◌}
use Rattle.nfs_xdr.specs.Caller.{caller}
use Rattle.nfs_lease.specs.Renewals.{leases_of}
use Rattle.nfs_exec.specs.{Step.Machine.{Machine, machine_of}, Step.Run.behind_here, Step.Sequence.compared}
use Rattle.nfs_exec.specs.{Step.Compound.{answers, begun, renewed, runs_behind}, Step.View.Answers}
use Rattle.nfs_names.specs.Context.{begins}
use Rattle.nfs_sessions.specs.Id.{id_of}
use Rattle.nfs_exec.proofs.{Step.Behind.run_sessions, Step.RepliesKept.{starts_within, text_of, renewed_machine, kept_machine, may_keep}}
use Rattle.nfs_exec.proofs.tables.Tables.run_new.Goals as goal

pub slice_bounds-reply-count : goal.slice_bounds-reply-count
slice_bounds-reply-count c =
    subst (λ (xs : List ℕ). c.len-start.result ≤ length xs) (sym c.bytes.ensures)
    (starts_within c.args.out.now c.put_run.new.out _ c.len-start.result c.put_run.ensures.answer.1.put c.len-start.ensures.value)

pub slice_bounds-reply-start : goal.slice_bounds-reply-start
slice_bounds-reply-start c =
    subst (λ (xs : List ℕ). c.len-start.result ≤ length xs) (sym c.bytes.ensures)
    (starts_within c.args.out.now c.put_run.new.out _ c.len-start.result c.put_run.ensures.answer.1.put c.len-start.ensures.value)

pub keep-requires : goal.keep-requires
keep-requires c =
    let m = machine_of c.args.self.now in
    let r = c.args.args.now in
    let s = c.args.asked.now in
    let who = caller c.args.receipt.now.who.now in
    let channel = c.args.channel.now in
    let behind = record m { leases = leases_of c.renew.new.self } in
    let choice = c.put_run.ensures.answer.0 in
    let did = c.put_run.ensures.answer.1 in
    let sessions : c.put_run.new.self.sessions ≡ m.sessions =
    ap (λ (k : Machine). k.sessions) did.machine
    ∙ run_sessions channel.maxresponsesize (begun r s channel) c.args.receipt.now.moment (behind_here choice) behind (begins (id_of s.sessionid).client who) r.left in
    let reply = ap (λ (xs : List ℕ). take (length xs - c.len-start.result) (drop c.len-start.result xs)) c.bytes.ensures
    ∙ text_of c.args.out.now c.put_run.new.out _ c.len-start.result did.put c.len-start.ensures.value in
    let args : c.compared.result ≡ compared r = c.compared.ensures ∙ ap compared c.put_run.ensures.same in
    may_keep c.put_run.new.self.sessions m.sessions r who c.args.receipt.now.size s channel
    c.from_bytes-id.result c.compared.result _ _ c.args.out.now c.put_run.new.out
    sessions c.from_bytes-id.ensures.read c.requires.size c.requires.runs args reply did.put c.put_run.ensures.fits

pub returns-clause-answer : goal.returns-clause-answer
returns-clause-answer c =
    let m = machine_of c.args.self.now in
    let r = c.args.args.now in
    let s = c.args.asked.now in
    let who = caller c.args.receipt.now.who.now in
    let choice = c.put_run.ensures.answer.0 in
    let behind : record m { leases = leases_of c.renew.new.self } ≡ renewed m c.args.receipt.now.moment s =
    renewed_machine m s c.args.receipt.now.moment c.from_bytes-id.result (leases_of c.renew.new.self) c.from_bytes-id.ensures.read c.renew.ensures in
    let did = subst (λ (k : Machine). Answers (answers r (runs_behind k r who c.args.receipt.now.moment choice s c.args.channel.now r.left)) c.args.out.now c.put_run.new.out
    (machine_of c.put_run.new.self)) behind c.put_run.ensures.answer.1 in
    let ran = runs_behind (renewed m c.args.receipt.now.moment s) r who c.args.receipt.now.moment choice s c.args.channel.now r.left in
    let reply = ap (λ (xs : List ℕ). take (length xs - c.len-start.result) (drop c.len-start.result xs)) c.bytes.ensures
    ∙ text_of c.args.out.now c.put_run.new.out (answers r ran).text c.len-start.result did.put c.len-start.ensures.value in
    let args : c.compared.result ≡ compared r = c.compared.ensures ∙ ap compared c.put_run.ensures.same in (
      choice,
      record {
        put = did.put;
        machine = kept_machine (machine_of c.put_run.new.self) ran.machine r who s
            (answers r ran).text c.from_bytes-id.result c.keep.new.self c.compared.result _
            c.from_bytes-id.ensures.read c.keep.ensures args reply did.machine;
      },
    )
