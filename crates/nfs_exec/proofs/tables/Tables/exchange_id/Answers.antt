use Rattle.std.proofs.Common.{◌≡◌, List, ℕ, subst}
use Rattle.nfs_xdr.specs.{Caller.caller, SheetState.Puts}
use Rattle.nfs_results.specs.Results.{status_of_result, spell_result}
use Rattle.nfs_exec.specs.Step.{Machine.{or_with_delay, machine_of}, ExchangeId.exchange_id, Parts.answered}
use Rattle.nfs_exec.proofs.Step.AloneResults.{result_does}
use Rattle.nfs_exec.proofs.tables.Tables.exchange_id.Goals as goal

pub returns : goal.returns
returns c =
    let m = machine_of c.args.self.now in
    let x = c.exchange-exchanged.result in
    let s = c.put_exchanged.result in
    let old = c.args.out.now in
    let new = c.put_exchanged.new.out in
    let same = c.exchange-exchanged.ensures.owner in
    result_does (λ refused. or_with_delay refused m 42 (exchange_id m (caller c.args.who.now) c.args.now c.args.asked.now))
    (machine_of c.exchange-exchanged.new.self) (answered m.owner x) s old new c.exchange-exchanged.ensures.outcome
    (subst (λ (name : List ℕ). s ≡ status_of_result (answered name x)) same c.put_exchanged.ensures.status)
    (subst (λ (name : List ℕ). Puts old new (spell_result (answered name x))) same c.put_exchanged.ensures.put)
