use Rattle.std.proofs.Common.{subst, inl, inr, refl}
use Rattle.nfs_pace.specs.Places.{GivesPort}
use Rattle.nfs_sockets.proofs.sockets.Sockets.accept.Goals as goal

pub returns-in_default-within-clause-nobody : goal.returns-in_default-within-clause-nobody
returns-in_default-within-clause-nobody g c = λ none.
    let self = c.args.self.now in
    let address = c.address.result in
    let port = c.place_for-port.result in
    let shown = subst (λ at. GivesPort self.places address self.now at c.looks-looks.result port) c.shown-shown.ensures c.place_for-port.ensures.given in
    let given = subst (λ sweep. GivesPort self.places address self.now self.pace.last sweep port) c.looks-looks.ensures shown in
    inr (inr (inr (inl (address, port, given, c.in_default-within.ensures.none refl))))
