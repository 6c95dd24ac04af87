use Rattle.std.proofs.Common.{ℕ, sym, subst, ap, ◌∙◌, refl}
use Rattle.std.specs.Option.{option_copied}
use Rattle.nfs_opens.specs.{declared.counts.Reservation.Reservation, Counts.{count_at, reserved, with_one, without_one, CountsAnew}}
use Rattle.nfs_opens.proofs.CountedLemmas.{counted_changed, counted_there, unchanged_with}
use Rattle.nfs_opens.proofs.open_states.count_changed.Goals as goal

pub change-requires : goal.change-requires
change-requires g c = counted_there c.args.states.now.items c.args.counts.now c.args.number c.in-Some.open.now c.requires.counted
    (sym c.get.ensures ∙ ap option_copied c.in-Some.is)

pub returns-in-Some-clause-counted : goal.returns-in-Some-clause-counted
returns-in-Some-clause-counted g c =
    let o = c.in-Some.open.now in
    let t = c.args.counts.now in
    let change = g.C.Change.changed c.args.change.now in
    counted_changed change c.args.number c.args.states.now.items t c.change.new.self o c.kept.ensures
    (sym c.get.ensures ∙ ap option_copied c.in-Some.is) (ap (λ (w : ℕ × ℕ × _). w.0) (g.met.C.OpenChange.stays c.args.change.now o)) c.requires.few c.requires.counted
    (subst (λ (r : Reservation). CountsAnew t c.change.new.self o.file (with_one (reserved (change o)) (without_one r (count_at t o.file)))) c.reserved.ensures
    (subst (λ (r : Reservation). CountsAnew t c.change.new.self o.file (with_one r (without_one c.reserved.result (count_at t o.file)))) c.reserves.ensures
    c.change.ensures.counts))

pub returns-in_default-clause-counted : goal.returns-in_default-clause-counted
returns-in_default-clause-counted g c =
    unchanged_with (g.C.Change.changed c.args.change.now) c.args.number c.args.states.now.items c.args.counts.now c.args.counts.now
    (sym c.get.ensures ∙ ap option_copied c.in_default.is) c.requires.counted (λ f. refl)
