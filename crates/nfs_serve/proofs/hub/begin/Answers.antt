use Rattle.std.proofs.Common.{◌<◌, ◌∙◌, length, inl, inr, refl, rules}
use Rattle.nfs_serve.proofs.Rounds.{at_same, at_other}
use Rattle.nfs_serve.proofs.hub.begin.Goals as goal

pub returns-in-Opened-clause-begins : goal.returns-in-Opened-clause-begins
returns-in-Opened-clause-begins g c =
    let within : c.in-Opened.port < length c.args.lanes.now = search rules in
    inr (
      c.in-Opened.port,
      within,
      at_same c.args.lanes.now c.in-Opened.port c.begin.new.self within ∙ c.begin.ensures,
      at_other c.args.lanes.now c.in-Opened.port c.begin.new.self,
      c.in-Opened.ensures.logs,
    )

pub returns-in-Nobody-clause-begins : goal.returns-in-Nobody-clause-begins
returns-in-Nobody-clause-begins g c = inl (λ p. refl, c.in-Nobody.ensures.logs)
