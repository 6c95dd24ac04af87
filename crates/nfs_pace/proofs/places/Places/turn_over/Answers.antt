use Rattle.std.proofs.{Common.{◌≡◌, ◌≤◌, ◌<◌, None, get_or, set, length, arith, rules, subst, sym, ap, ◌∙◌}, lemmas.{Grind.get_or_default_zero, List.{get_or_default, length-set}}}
use Rattle.nfs_pace.specs.Places.{AreEach, AreStanders, left, has_ended, guest_at, seat_at}
use Rattle.nfs_pace.proofs.Sitting.{changes_found, changes_none, still_found, left_alone}
use Rattle.nfs_pace.proofs.Standing.{left_at, standers_turned}
use Rattle.nfs_pace.proofs.places.Places.turn_over.Goals.{After-put}
use Rattle.nfs_pace.proofs.places.Places.turn_over.Goals as goal

each : (c : After-put) → AreEach (left c.args.port c.has_ended-ended.result c.self.inside.lease c.args.shown) c.self.inside.seats.items c.change.new.seats.items
each c =
    let found = c.self.inside.found.items in
    let seats = c.self.inside.seats.items in
    let within : c.args.port < length c.self.inside.guests.items = search rules in
    let place : c.index-j.result.now ≡ get_or found c.args.port 0 =
    c.index-j.ensures ∙ get_or_default_zero found c.args.port c.index-j.result.now (omega (arith, within, c.self.invariant.0)) in
    let made : c.change.new.seats.items ≡ set seats c.index-j.result.now (left c.args.port c.has_ended-ended.result c.self.inside.lease c.args.shown (seat_at seats c.index-j.result.now)) = search rules in
    subst (AreEach (left c.args.port c.has_ended-ended.result c.self.inside.lease c.args.shown) seats) (sym made)
    (changes_found (left c.args.port c.has_ended-ended.result c.self.inside.lease c.args.shown) found seats c.args.port c.index-j.result.now
    (left_alone c.args.port c.has_ended-ended.result c.self.inside.lease c.args.shown) c.self.invariant.1 place)

pub returns-then-port-len-clause-seats : goal.returns-then-port-len-clause-seats
returns-then-port-len-clause-seats c =
    let ended = has_ended (guest_at c.args.self.now.guests c.args.port) in
    let same : c.self.inside.seats.items ≡ c.args.self.now.seats = search rules in
    let past : length c.self.inside.guests.items ≤ c.args.port = search rules in
    subst (λ seats. AreEach (left c.args.port ended c.args.self.now.lease c.args.shown) seats seats) same
    (changes_none (left c.args.port ended c.args.self.now.lease c.args.shown) c.self.inside.found.items c.self.inside.seats.items c.args.port
    (left_alone c.args.port ended c.args.self.now.lease c.args.shown) c.self.invariant.1 (omega (arith, past, c.self.invariant.0)))

pub returns-clause-seats : goal.returns-clause-seats
returns-clause-seats c =
    let seats = c.self.inside.seats.items in
    let new = c.change.new.seats.items in
    let same : seats ≡ c.args.self.now.seats = search rules in
    let lease : c.self.inside.lease ≡ c.args.self.now.lease = search rules in
    let guests : c.self.inside.guests.items ≡ c.args.self.now.guests = search rules in
    let within : c.args.port < length c.self.inside.guests.items = search rules in
    let ended : c.has_ended-ended.result ≡ has_ended (guest_at c.args.self.now.guests c.args.port) = c.has_ended-ended.ensures ∙ ap has_ended
    (c.index.ensures ∙ get_or_default c.self.inside.guests.items c.args.port c.index.result.now None within ∙ ap (λ all. guest_at all c.args.port) guests) in
    subst (λ old. AreEach (left c.args.port (has_ended (guest_at c.args.self.now.guests c.args.port)) c.args.self.now.lease c.args.shown) old new) same
    (subst (λ long. AreEach (left c.args.port (has_ended (guest_at c.args.self.now.guests c.args.port)) long c.args.shown) seats new) lease
    (subst (λ e. AreEach (left c.args.port e c.self.inside.lease c.args.shown) seats new) ended (each c)))

pub invariant_of-self : goal.invariant_of-self
invariant_of-self c =
    let found = c.self.inside.found.items in
    let guests = c.self.inside.guests.items in
    let seats = c.self.inside.seats.items in
    let new = c.change.new.seats.items in
    let within : c.args.port < length guests = search rules in (
      c.self.invariant.0 ∙ sym (length-set guests c.args.port c.args.guest),
      still_found (left c.args.port c.has_ended-ended.result c.self.inside.lease c.args.shown) found seats new
          (left_at c.args.port c.has_ended-ended.result c.self.inside.lease c.args.shown) (each c) c.self.invariant.1,
      c.change.ensures.owners,
      subst (λ all. AreStanders all (set guests c.args.port c.args.guest) new) (sym (c.put.ensures ∙ ap (set c.self.inside.standers c.args.port) c.stander.ensures))
          (standers_turned c.self.inside.standers guests seats new c.args.port c.args.guest c.has_ended-ended.result c.self.inside.lease c.args.shown within
          c.self.invariant.3 (each c)),
    )
