use Rattle.std.proofs.Common.{◌≡◌, rules, None, replicate, length, sym, subst}
use Rattle.nfs_pace.specs.Places.{IsFound, AreOwners, AreStanders, nobody}
use Rattle.nfs_pace.proofs.Standing.{none_found, none_own, none_stand}
use Rattle.nfs_pace.proofs.places.Places.new.Goals as goal

pub invariant_of-result : goal.invariant_of-result
invariant_of-result c =
    let guests : c.in_ok-guests.guests.items ≡ replicate c.args.ports None = search rules in
    let seats : c.in_ok-free.free.items ≡ replicate c.args.seats None = search rules in
    let owners : c.in_ok-owners.owners ≡ replicate c.args.seats nobody = search rules in
    let standers : c.in_ok-standers.standers ≡ replicate c.args.ports nobody = search rules in
    let long : length c.in_ok-found.found.items ≡ length c.in_ok-guests.guests.items = search rules in (
      long,
      subst (IsFound c.in_ok-found.found.items) (sym seats) (none_found c.in_ok-found.found.items c.args.seats),
      subst (λ all. AreOwners all c.in_ok-free.free.items) (sym owners) (subst (AreOwners (replicate c.args.seats nobody)) (sym seats) (none_own c.args.seats)),
      subst (λ all. AreStanders all c.in_ok-guests.guests.items c.in_ok-free.free.items) (sym standers)
          (subst (λ all. AreStanders (replicate c.args.ports nobody) all c.in_ok-free.free.items) (sym guests)
          (subst (AreStanders (replicate c.args.ports nobody) (replicate c.args.ports None)) (sym seats) (none_stand c.args.ports c.args.seats))),
    )
