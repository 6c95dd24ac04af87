use Rattle.std.proofs.Common.{◌≡◌, ◌<◌, ◌∙◌, ℕ, None, is_some, length, set, arith, rules, sym, ap, subst, true, false, nat_eq}
use Rattle.std.proofs.lemmas.List.{get_or_default, length-set}
use Rattle.std.specs.List.{list_any}
use Rattle.nfs_pace.specs.Places.{AreStanders, IsFound, guest_at, seat_at, is_at, given_to, joined, port_of, nobody}
use Rattle.nfs_pace.proofs.Standing.{found_given, standers_given, given_is_at, guest_within}
use Rattle.nfs_pace.proofs.places.Places.give.Goals as goal

pub invariant_of-self : goal.invariant_of-self
invariant_of-self c =
    let found = c.self.inside.found.items in
    let guests = c.self.inside.guests.items in
    let seats = c.self.inside.seats.items in
    let given = c.given_to-given.result in
    let some : is_some (guest_at guests c.args.port) ≡ true = search rules in
    let none : list_any (is_at c.args.port) seats ≡ false = search rules in
    let less : c.args.j < length seats = search rules in
    let within = guest_within guests c.args.port some in
    let old : c.index-before.result.now ≡ seat_at seats c.args.j =
    c.index-before.ensures ∙ get_or_default seats c.args.j c.index-before.result.now None less in
    let guest : c.index.result.now ≡ guest_at guests c.args.port = c.index.ensures ∙ get_or_default guests c.args.port c.index.result.now None within in
    let there : (i : ℕ) → is_at i given ≡ nat_eq c.args.port i =
    λ i. ap (is_at i) (c.given_to-given.ensures ∙ ap (λ g. given_to c.args.port g c.index-before.result.now) guest)
    ∙ given_is_at c.args.port i (guest_at guests c.args.port) c.index-before.result.now some in
    let new = found_given found c.self.inside.standers guests seats c.args.port c.args.j given (omega (arith, within, c.self.invariant.0)) less c.self.invariant.1
    none there in
    let joins : c.join.new.standers ≡ joined c.self.inside.standers guests (port_of (seat_at seats c.args.j)) =
    c.join.ensures ∙ ap (λ all. joined c.self.inside.standers all c.port_of.result) c.deref.ensures.value
    ∙ ap (joined c.self.inside.standers guests) (c.port_of.ensures ∙ ap port_of old) in
    let made : c.change.new.seats.items ≡ set seats c.args.j given = c.change.ensures.seats in (
      length-set found c.args.port c.args.j ∙ c.self.invariant.0,
      subst (IsFound (set found c.args.port c.args.j)) (sym made) new,
      c.change.ensures.owners,
      subst (AreStanders c.put.new.self guests) (sym made)
          (subst (λ all. AreStanders all guests (set seats c.args.j given)) (sym (c.put.ensures ∙ ap (λ all. set all c.args.port nobody) joins))
          (standers_given found c.self.inside.standers guests seats c.args.port c.args.j given within c.self.invariant.0 less c.self.invariant.1
          c.self.invariant.3 there new)),
    )
