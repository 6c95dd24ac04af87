use Rattle.std.proofs.Common.{◌≡◌, ◌∙◌, rules, arith, sym, ap, nat_eq, count_by}
use Rattle.nfs_pace.specs.Places.{AreStanders}
use Rattle.nfs_pace.proofs.Standing.{count_standers}
use Rattle.nfs_pace.proofs.places.Places.in_hall.Goals as goal

pub returns-clause-count : goal.returns-clause-count
returns-clause-count c =
    let p = c.args.self.now in
    let are : AreStanders c.self.inside.standers p.guests p.seats = search rules in
    let is : c.from.result ≡ c.args.address = c.from.ensures in
    c.count.ensures.count ∙ ap (λ a. count_by (nat_eq a) c.self.inside.standers) is
    ∙ sym (count_standers p c.self.inside.standers c.args.address are (λ far. omega (arith, far, c.ranges.address.fits)))
