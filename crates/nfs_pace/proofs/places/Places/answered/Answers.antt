use Rattle.std.proofs.{Common.{◌≡◌, ◌≤◌, ◌<◌, None, get_or, set, length, arith, rules, subst, sym, ap, ◌∙◌}, lemmas.List.{get_or_default, length-set}, lemmas.Grind.get_or_default_zero}
use Rattle.nfs_pace.specs.Places.{AreEach, AreStanders, answers, guest_at, seat_at, sits}
use Rattle.nfs_pace.proofs.Sitting.{changes_found, changes_none, still_found, sits_alone, sits_at}
use Rattle.nfs_pace.proofs.Standing.{standers_answered}
use Rattle.nfs_pace.proofs.places.Places.answered.Goals.{After-sits_in}
use Rattle.nfs_pace.proofs.places.Places.answered.Goals as goal

each : (c : After-sits_in) → AreEach (sits c.args.port c.args.client c.args.shown) c.self.inside.seats.items c.sits_in.new.seats.items
each c =
    let found = c.self.inside.found.items in
    let seats = c.self.inside.seats.items in
    let within : c.args.port < length c.self.inside.guests.items = search rules in
    let place : c.index-j.result.now ≡ get_or found c.args.port 0 =
    c.index-j.ensures ∙ get_or_default_zero found c.args.port c.index-j.result.now (omega (arith, within, c.self.invariant.0)) in
    let made : c.sits_in.new.seats.items ≡ set seats c.index-j.result.now (sits c.args.port c.args.client c.args.shown (seat_at seats c.index-j.result.now)) = search rules in
    subst (AreEach (sits c.args.port c.args.client c.args.shown) seats) (sym made)
    (changes_found (sits c.args.port c.args.client c.args.shown) found seats c.args.port c.index-j.result.now (sits_alone c.args.port c.args.client c.args.shown)
    c.self.invariant.1 place)

pub returns-then-port-len-clause-seats : goal.returns-then-port-len-clause-seats
returns-then-port-len-clause-seats c =
    let same : c.self.inside.seats.items ≡ c.args.self.now.seats = search rules in
    let past : length c.self.inside.guests.items ≤ c.args.port = search rules in
    subst (λ seats. AreEach (sits c.args.port c.args.client c.args.shown) seats seats) same
    (changes_none (sits c.args.port c.args.client c.args.shown) c.self.inside.found.items c.self.inside.seats.items c.args.port
    (sits_alone c.args.port c.args.client c.args.shown) c.self.invariant.1 (omega (arith, past, c.self.invariant.0)))

pub returns-clause-seats : goal.returns-clause-seats
returns-clause-seats c =
    let same : c.self.inside.seats.items ≡ c.args.self.now.seats = search rules in
    subst (λ old. AreEach (sits c.args.port c.args.client c.args.shown) old c.sits_in.new.seats.items) same (each c)

pub invariant_of-self : goal.invariant_of-self
invariant_of-self c =
    let guests = c.self.inside.guests.items in
    let seats = c.self.inside.seats.items in
    let new = c.sits_in.new.seats.items in
    let within : c.args.port < length guests = search rules in
    let answer : c.answers.new.guest ≡ answers c.args.client c.args.shown (guest_at guests c.args.port) =
    c.answers.ensures ∙ ap (answers c.args.client c.args.shown)
    (c.index_mut.ensures.value ∙ get_or_default guests c.args.port c.index_mut.result.now None within) in (
      rw length-set c.self.invariant.0,
      still_found (sits c.args.port c.args.client c.args.shown) c.self.inside.found.items seats new
          (sits_at c.args.port c.args.client c.args.shown) (each c) c.self.invariant.1,
      c.sits_in.ensures.owners,
      subst (λ guest. AreStanders c.self.inside.standers (set guests c.args.port guest) new) (sym answer)
          (standers_answered c.self.inside.standers guests seats new c.args.port c.args.client c.args.shown c.self.invariant.3 (each c)),
    )
