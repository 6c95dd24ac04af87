use Rattle.std.proofs.Common.{◌≡◌, Err, refl, rules, sym, true, ◌∙◌, ap, subst}
use Rattle.nfs_xdr.specs.{Caller.caller, Checks.judged}
use Rattle.nfs_clients.specs.{ExchangeId.{Ask, case_of, exchange, client_fault_status}, Calls.{exchange_fault, ExchangesOrWants}}
use Rattle.nfs_clients.specs.declared.exchange_id.ClientFault.TheVariants.{Memory}
use Rattle.nfs_lease.specs.Renewals.{Book, leases_of, without_lease}
use Rattle.nfs_results.specs.declared.res.Res.{Res}
use Rattle.nfs_names.specs.Outcome.{is_lack}
use Rattle.nfs_exec.specs.{Step.Machine.{with_result, or_with_delay, machine_of}, Step.ExchangeId.exchange_id, Step.View.settled}
use Rattle.nfs_exec.specs.Step.Parts.{ask_of}
use Rattle.nfs_exec.proofs.Step.InSteps.{exchange_id_is}
use Rattle.nfs_exec.proofs.Step.Exchanging.{asked_as, answered_ok, refused_first, refused_last, wanted}
use Rattle.nfs_exec.proofs.tables.Tables.exchange.Goals as goal

pub returns-in-Err-clause-outcome : goal.returns-in-Err-clause-outcome
returns-in-Err-clause-outcome c =
    let m = machine_of c.args.self.now in
    let who = caller c.args.who.now in
    let e = c.args.asked.now in
    let ask = asked_as m who e _ _ c.bytes-owner.ensures c.owner_has_open-has_open.ensures in
    refused_first m who c.args.now e c.in-Err.fault (case_of m.clients (ask_of m who e))
    (c.in-Err.ensures ∙ ap (λ (a : Ask). judged (exchange_fault m.clients a)) ask)
    ∙ ap (or_with_delay (is_lack (client_fault_status c.in-Err.fault)) m 42) (sym (exchange_id_is m who c.args.now e))

pub returns-in_default-add-clause-outcome : goal.returns-in_default-add-clause-outcome
returns-in_default-add-clause-outcome c =
    let m = machine_of c.args.self.now in
    let who = caller c.args.who.now in
    let e = c.args.asked.now in
    let ask = asked_as m who e _ _ c.bytes-owner.ensures c.owner_has_open-has_open.ensures in
    let want = wanted m who c.args.now e (case_of m.clients (ask_of m who e))
    (ap (λ (a : Ask). judged (exchange_fault m.clients a)) (sym ask) ∙ sym c.judge_exchange.ensures ∙ c.in_default.is) in
    let same : leases_of c.add.new.self ≡ leases_of c.args.self.now.leases = search rules in
    subst (λ (b : Book). with_result (record m { leases = b }) (Res.Refused 42 (client_fault_status Memory)) ≡ or_with_delay true m 42 (exchange_id m who c.args.now e))
    (sym same) (want ∙ ap (or_with_delay true m 42) (sym (exchange_id_is m who c.args.now e)))

pub returns-in-Ok-exchange-clause-outcome : goal.returns-in-Ok-exchange-clause-outcome
returns-in-Ok-exchange-clause-outcome c =
    let m = machine_of c.args.self.now in
    let who = caller c.args.who.now in
    let e = c.args.asked.now in
    let ask = asked_as m who e _ _ c.bytes-owner.ensures c.owner_has_open-has_open.ensures in
    let book = c.settle.ensures ∙ ap (λ (b : Book). settled b c.next_id-next.result c.in-Ok-exchange.exchanged) c.in-Ok.ensures.ok in
    answered_ok m who c.args.now e c.next_id-next.result c.in-Ok-exchange.exchanged c.exchange.new.self
    (leases_of c.settle.new.leases) (case_of m.clients (ask_of m who e))
    c.requires.machine c.next_id-next.ensures.fresh c.next_id-next.ensures.value refl
    (c.in-Ok-exchange.ensures.0 ∙ ap (λ (a : Ask). (exchange m.clients a).answer) ask)
    (c.in-Ok-exchange.ensures.1 ∙ ap (λ (a : Ask). (exchange m.clients a).after) ask) book
    ∙ sym (exchange_id_is m who c.args.now e)

pub returns-in-Err-exchange-clause-outcome : goal.returns-in-Err-exchange-clause-outcome
returns-in-Err-exchange-clause-outcome c =
    let m = machine_of c.args.self.now in
    let who = caller c.args.who.now in
    let e = c.args.asked.now in
    let ask = asked_as m who e _ _ c.bytes-owner.ensures c.owner_has_open-has_open.ensures in
    refused_last m who c.args.now e c.next_id-next.result c.in-Err-exchange.fault c.exchange.new.self (leases_of c.remove.new.self)
    c.requires.machine c.next_id-next.ensures.fresh
    (ap (λ (a : Ask). judged (exchange_fault m.clients a)) (sym ask) ∙ sym c.judge_exchange.ensures ∙ c.in_default.is)
    (subst (λ (a : Ask). ExchangesOrWants m.clients a (Err c.in-Err-exchange.fault) c.exchange.new.self) ask c.in-Err-exchange.ensures)
    (c.remove.ensures.lease ∙ ap (λ (b : Book). without_lease b c.next_id-next.result) c.in-Ok.ensures.ok)
    ∙ ap (or_with_delay (is_lack (client_fault_status c.in-Err-exchange.fault)) m 42) (sym (exchange_id_is m who c.args.now e))
