use Rattle.std.proofs.Common.{◌≡◌, ℕ, Option, Ok, Err, ap, sym, subst, ◌∙◌}
use Rattle.nfs_xdr.specs.declared.status.Status.{Status}
use Rattle.nfs_sessions.specs.{declared.channel.Wish.Wish, Sessions.create, SessionTables.CreatesOrWants}
use Rattle.nfs_names.specs.Outcome.{is_lack}
use Rattle.nfs_exec.specs.Step.{Machine.{or_with_delay, with_refusal, machine_of}, Parts.wish_of}
use Rattle.nfs_exec.specs.Step.View.{Does}
use Rattle.nfs_exec.specs.Step.Parts.{creates}
use Rattle.nfs_exec.proofs.Step.Creating.{made, refused_session}
use Rattle.nfs_exec.proofs.tables.Tables.make_session.Goals as goal

pub returns-in-Ok : goal.returns-in-Ok
returns-in-Ok c =
    let m = machine_of c.args.self.now in
    let asked = c.args.asked.now in
    let leaving : Option ℕ → Wish = λ o. record { fore = asked.fore_chan_attrs; back = asked.back_chan_attrs; leaving = o } in
    let wish : c.wish.result ≡ wish_of m asked = c.wish.ensures ∙ ap leaving c.leaving-leaving.ensures in
    let did = subst (λ (w : Wish). CreatesOrWants m.sessions (create m.sessions asked.clientid w) (Ok c.in-Ok.id) c.create.new.self) wish c.in-Ok.ensures in
    made m c.args.now asked c.in-Ok.id (create m.sessions asked.clientid (wish_of m asked)) c.create.new.self
    (machine_of c.confirm.new.self) c.put_made-body.result c.args.out.now c.put_made-body.new.out
    did.0 did.1 c.confirm.ensures c.put_made-body.ensures.body c.put_made-body.ensures.put

pub returns-in-Err : goal.returns-in-Err
returns-in-Err c =
    let m = machine_of c.args.self.now in
    let asked = c.args.asked.now in
    let leaving : Option ℕ → Wish = λ o. record { fore = asked.fore_chan_attrs; back = asked.back_chan_attrs; leaving = o } in
    let wish : c.wish.result ≡ wish_of m asked = c.wish.ensures ∙ ap leaving c.leaving-leaving.ensures in
    let did = subst (λ (w : Wish). CreatesOrWants m.sessions (create m.sessions asked.clientid w) (Err c.in-Err.fault) c.create.new.self)
    wish c.in-Err.ensures in
    let status : c.put_refusal.result ≡ c.status-status.result = (c.put_refusal.ensures m).status in
    let left = machine_of (record c.args.self.now { clients = c.keep_created.new.self; sessions = c.create.new.self }) in
    subst (λ (s : Status). Does (or_with_delay (is_lack s) m 43
    (creates m c.args.now asked (create m.sessions asked.clientid (wish_of m asked)))) s left c.args.out.now c.put_refusal.new.out) (sym status)
    (refused_session m c.args.now asked (wish_of m asked) c.keep_created.new.self c.create.new.self c.in-Err.fault
    c.status-status.result c.args.out.now c.put_refusal.new.out did c.keep_created.ensures c.status-status.ensures
    (λ n. subst (λ (s : Status). Does (with_refusal n 43 c.status-status.result) s n c.args.out.now c.put_refusal.new.out) status
    (c.put_refusal.ensures n)))
