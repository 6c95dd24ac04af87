use Rattle.std.proofs.Common.{◌≡◌, ◌<◌, true, false, sym, subst, ◌∙◌, length, rules}
use Rattle.nfs_serve.specs.{Desk.HasMore, Lane.desk_of}
use Rattle.nfs_serve.proofs.{Rounds.at_lane, Sweeps.none_more}
use Rattle.nfs_serve.proofs.hub.next_more.Goals as goal

no : true ≡ false → ⊥
no e = cc

pub loop-port-preserved : goal.loop-port-preserved
loop-port-preserved c =
    let within : c.loop-port.port < length c.args.lanes.now = search rules in
    none_more c.args.lanes.now c.args.from c.loop-port.port c.index-lanes-port.result c.loop-port.invariant within
    (λ more. no (sym (c.has_more.ensures.none (subst (λ x. HasMore (desk_of x)) (sym c.index-lanes-port.is) more)) ∙ c.if-has_more.false))

pub returns-then-has_more-clause-some : goal.returns-then-has_more-clause-some
returns-then-has_more-clause-some c = λ is.
    let within : c.loop-port.port < length c.args.lanes.now = search rules in
    let more : HasMore (desk_of c.index-lanes-port.result) = c.has_more.ensures.more c.if-has_more.true in
    subst HasMore (sym (at_lane c.args.lanes.now c.loop-port.port c.index-lanes-port.result within)) (subst (λ x. HasMore (desk_of x)) c.index-lanes-port.is more)
