use Rattle.std.proofs.Common.{◌≡◌, ◌+◌, ◌-◌, ◌≤◌, length, length-append, ap, sym, subst, arith, ℕ, List, Option, ◌∙◌}
use Rattle.nfs_results.specs.declared.res.Res.TheVariants as Res
use Rattle.nfs_results.specs.{declared.res.SequenceOk.SequenceOk, Results.{spell_result, spell_compound_head}, OpenHead.HeadsAt}
use Rattle.nfs_xdr.specs.{SheetState.Puts, declared.status.Status.TheVariants.Nfs4Ok, Caller.caller}
use Rattle.nfs_names.specs.{declared.context.Context.Context, Context.begins}
use Rattle.nfs_sessions.specs.{declared.id.SessionId.SessionId, Id.id_of}
use Rattle.nfs_exec.specs.Step.Sequence as Sequence
use Rattle.nfs_exec.specs.{Step.Run.{run, behind_here}, Step.Compound.{begun}, Step.View.RunsTo, Step.Machine.machine_of}
use Rattle.nfs_exec.proofs.Step.Running.{later, later_behind}
use Rattle.nfs_exec.proofs.Step.RepliesKept.{accepted_long, head_fits, second_fits, run_fits, has_head, within_64, begun_is, put_closed, last_fits}
use Rattle.nfs_exec.proofs.tables.Tables.put_run.Goals as goal
use Rattle.nfs_exec.proofs.tables.Tables.put_run.Goals.{After-write}
use Rattle.nfs_exec.proofs.Step.Terms.{run_in}

pub put-head-requires-clause-room : goal.put-head-requires-clause-room
put-head-requires-clause-room c = head_fits c.args.out.now c.tag.result.now c.tag.ensures.bound c.requires.room

pub write-requires-clause-room : goal.write-requires-clause-room
write-requires-clause-room c = λ arrays.
    (let long = subst (λ (s : SequenceOk). length (spell_result (Res.Sequence s)) ≤ 44)
    (sym c.sequence_ok.ensures) (accepted_long c.args.asked.now c.args.channel.now c.requires.sessionid) in
    second_fits c.args.out.now c.put-head.new.out c.tag.result.now
    (spell_result (Res.Sequence c.sequence_ok.result)) c.tag.ensures.bound c.requires.room c.put-head.ensures.puts long)

-- the reply so far, and a refusal, are within what the channel lets pass
fitting : (c : After-write) → length c.write.new.out.bytes + 36 ≤ c.len-start.result + c.args.channel.now.maxresponsesize
fitting c =
    let long = subst (λ (s : SequenceOk). length (spell_result (Res.Sequence s)) ≤ 44)
    (sym c.sequence_ok.ensures) (accepted_long c.args.asked.now c.args.channel.now c.requires.sessionid) in
    run_fits c.args.out.now c.put-head.new.out c.write.new.out c.tag.result.now (spell_result (Res.Sequence c.sequence_ok.result))
    c.len-start.result c.args.channel.now.maxresponsesize c.tag.ensures.bound c.put-head.ensures.puts c.write.ensures long
    c.len-start.ensures.value c.requires.granted.response.0

pub overflow_add-reply : goal.overflow_add-reply
overflow_add-reply c =
    let fits = fitting (goal.at.overflow_add-reply c).After-write in
    let large = c.requires.granted.response.1 in
    let head = c.from.ensures in
    let long = c.len.ensures.value in
    omega (arith, fits, large, head, long)

pub run-ran-requires-clause-reserve : goal.run-ran-requires-clause-reserve
run-ran-requires-clause-reserve c =
    let fits = fitting (goal.at.run-ran-requires-clause-reserve c).After-write in
    let head = c.from.ensures in
    let long = c.len.ensures.value in
    let limit = c.from-2.ensures in
    omega (arith, fits, head, long, limit)

pub overflow_add-ran : goal.overflow_add-ran
overflow_add-ran c =
    let ran = c.run-ran.ensures.ran in
    let few = within_64 c.run-ran.result.count _ _ c.args.receipt.now.moment ran.0
    (machine_of c.args.self.now) c.new-context.result c.args.args.now.left ran.1.count c.requires.few in
    omega (arith, few)

pub close-requires : goal.close-requires
close-requires c = record {
  stands = has_head c.args.out.now c.put-head.new.out c.write.new.out c.run-ran.new.out c.put-head.result.status_at c.put-head.result.count_at
      c.tag.result.now _ _ c.put-head.ensures.places c.put-head.ensures.puts c.write.ensures c.run-ran.ensures.ran.1.put;
}

pub returns : goal.returns
returns c =
    let m = machine_of c.args.self.now in
    let left = machine_of c.run-ran.new.self in
    let r = c.args.args.now in
    let s = c.args.asked.now in
    let who = caller c.args.receipt.now.who.now in
    let now = c.args.receipt.now.moment in
    let told = c.run-ran.result in
    let before = c.args.out.now in
    let heads = c.put-head.new.out in
    let first = c.write.new.out in
    let rest = c.run-ran.new.out in
    let limit = c.args.channel.now.maxresponsesize in
    let text = spell_result (Res.Sequence (Sequence.sequence_ok s c.args.channel.now)) in
    let named : c.tag.result.now ≡ r.tag = c.tag.ensures.value in
    let same : spell_result (Res.Sequence c.sequence_ok.result) ≡ text = ap (λ (s : SequenceOk). spell_result (Res.Sequence s)) c.sequence_ok.ensures in
    let one : Puts before heads (spell_compound_head Nfs4Ok r.tag 0) =
    subst (λ (t : List ℕ). Puts before heads (spell_compound_head Nfs4Ok t 0)) named c.put-head.ensures.puts in
    let two : Puts heads first text = subst (λ (t : List ℕ). Puts heads first t) same c.write.ensures in
    let places = subst (λ (t : List ℕ). HeadsAt c.put-head.result.status_at c.put-head.result.count_at before.bytes t) named c.put-head.ensures.places in
    let sofar : c.from.result + (c.len.result - c.len-start.result) ≡ begun r s c.args.channel.now =
    ap (λ n. n + (c.len.result - c.len-start.result)) c.from.ensures ∙ ap (λ n. 24 + (n - c.len-start.result)) c.len.ensures.value
    ∙ begun_is before heads first r.tag text c.len-start.result one two c.len-start.ensures.value in
    let within : length rest.bytes + 24 ≤ c.len-start.result + limit =
    (let front = ap length one.bytes ∙ length-append before.bytes (spell_compound_head Nfs4Ok r.tag 0) in
    let back = ap length two.bytes ∙ length-append heads.bytes text in
    let fits = c.run-ran.ensures.fits in
    let head = c.from.ensures in
    let long = c.len.ensures.value in
    let most = c.from-2.ensures in
    let at = c.len-start.ensures.value in
    omega (arith, front, back, fits, head, long, most, at)) in
    let context : c.new-context.result ≡ begins (id_of s.sessionid).client who =
    c.new-context.ensures ∙ ap (λ (i : SessionId). begins i.client who) c.from_bytes.ensures.read in
    let choice = later c.run-ran.ensures.ran.0 in
    let ran = run_in m r who now (behind_here choice) s c.args.channel.now r.left in
    let runs : RunsTo ran told left first rest =
    subst (λ (k : Option ℕ). RunsTo (run_in m r who now k s c.args.channel.now r.left) told left first rest) (sym (later_behind c.run-ran.ensures.ran.0))
    (subst (λ (x : Context). RunsTo (run limit (begun r s c.args.channel.now) now c.run-ran.ensures.ran.0 m x r.left) told left first rest) context
    (subst (λ n. RunsTo (run limit n now c.run-ran.ensures.ran.0 m c.new-context.result r.left) told left first rest) sofar
    (subst (λ l. RunsTo (run l (c.from.result + (c.len.result - c.len-start.result)) now c.run-ran.ensures.ran.0 m c.new-context.result r.left) told left first rest)
    c.from-2.ensures c.run-ran.ensures.ran.1))) in
    record {
      answer = (
        choice,
        record {
          put = put_closed before heads first rest c.close.new.out c.put-head.result.status_at
              c.put-head.result.count_at r.tag text ran told left places one two runs c.close.ensures;
          machine = runs.machine;
        },
      );
      fits = last_fits before heads first rest c.close.new.out c.put-head.result.status_at c.put-head.result.count_at
          limit c.len-start.result r.tag text ran told left places one two runs c.close.ensures within
          c.len-start.ensures.value;
      same = c.run-ran.ensures.same;
      store = c.run-ran.ensures.store;
    }
