use Rattle.std.proofs.Common.{◌≡◌, ◌≤◌, length, arith, rules, subst, sym, false}
use Rattle.std.specs.List.{list_any}
use Rattle.nfs_pace.specs.Places.{is_at}
use Rattle.nfs_pace.proofs.Sitting.{past_all}
use Rattle.nfs_pace.proofs.places.Places.is_seated.Goals as goal

pub returns-then-port-len : goal.returns-then-port-len
returns-then-port-len c =
    let same : c.self.inside.seats.items ≡ c.args.self.now.seats = search rules in
    let past : length c.self.inside.guests.items ≤ c.args.port = search rules in
    subst (λ seats. false ≡ list_any (is_at c.args.port) seats) same
    (sym (past_all c.self.inside.found.items c.self.inside.seats.items c.args.port c.self.invariant.1 (omega (arith, past, c.self.invariant.0))))
