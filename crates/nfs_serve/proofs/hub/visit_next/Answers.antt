use Rattle.std.proofs.{Common.{◌<◌, length, arith, rules, subst}, lemmas.List.get_or-set_same}
use Rattle.nfs_serve.specs.{Desk.HasMore, Lane.desk_of}
use Rattle.nfs_serve.proofs.Sweeps.{passed_to, visited, visited_quiet}
use Rattle.nfs_serve.proofs.hub.visit_next.Goals as goal

pub returns-clause-sweeps : goal.returns-clause-sweeps
returns-clause-sweeps g c = λ s old l0 c0 before.
    let within : c.pass_over-port.result < length c.args.lanes.now = search rules in
    visited _ _ _ old c.args.lanes.now c.pass_over-port.result c.index-lanes-port.result c.visit.new.self _ _ _ _ _ _
    (passed_to _ _ old c.args.lanes.now c.args.from c.pass_over-port.result _ _ _ _ _ _ before c.requires.ports c.pass_over-port.ensures)
    (omega (arith, within, c.requires.ports)) within c.visit.ensures

pub returns-then-port-lanes-clause-sweeps : goal.returns-then-port-lanes-clause-sweeps
returns-then-port-lanes-clause-sweeps g c = λ s old l0 c0 before.
    passed_to _ _ old c.args.lanes.now c.args.from c.pass_over-port.result _ _ _ _ _ _ before c.requires.ports c.pass_over-port.ensures

pub returns-clause-quiet : goal.returns-clause-quiet
returns-clause-quiet g c = λ is.
    let within : c.pass_over-port.result < length c.args.lanes.now = search rules in
    let (was, none) = c.stays_quiet.ensures is in
    let left = subst (λ lane. HasMore (desk_of lane) → ⊥) (get_or-set_same c.args.lanes.now c.pass_over-port.result c.visit.new.self _ within) none in
    visited_quiet c.args.lanes.now c.pass_over-port.result c.visit.new.self (c.requires.quiet was) within left
