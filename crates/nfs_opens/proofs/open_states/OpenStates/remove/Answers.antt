use Rattle.std.proofs.Common.{◌≡◌, ℕ, Some, None, refl, sym, subst, ap, ◌∙◌}
use Rattle.std.specs.{Prelude.{◌==◌, not, find}, Option.option_copied}
use Rattle.nfs_xdr.specs.Tables.{In}
use Rattle.nfs_opens.specs.{declared.records.OpenState.OpenState, declared.counts.Reservation.Reservation, Counts.{CountsAnew, count_at, without_one}}
use Rattle.nfs_opens.specs.{Index.{HasTaken, pair_of}, Keys.open_key}
use Rattle.nfs_opens.proofs.{IndexLemmas.{pair_in, index_taken, index_left}, CountedLemmas.{counted_without, unchanged_without}, SingleLemmas.each_left}
use Rattle.nfs_opens.proofs.open_states.OpenStates.remove.Goals as goal
use Rattle.nfs_opens.proofs.open_states.OpenStates.remove.Goals.{in-Some, in_default}

pub take-requires : goal.take-requires
take-requires c = pair_in (λ (o : OpenState). o.file) (λ o. o.number) c.args.number c.self.inside.states.items c.in-Some.open.now c.self.inside.by_file.items
    c.self.invariant.0 (sym c.get.ensures ∙ ap option_copied c.in-Some.is)

pub take-requires-in-Some : goal.take-requires-in-Some
take-requires-in-Some c = pair_in (λ (o : OpenState). o.client) (λ o. o.number) c.args.number c.self.inside.states.items c.in-Some.open.now
    c.self.inside.by_client.items c.self.invariant.1 (sym c.get.ensures ∙ ap option_copied c.in-Some.is)

pub take-requires-in-Some-2 : goal.take-requires-in-Some-2
take-requires-in-Some-2 c = subst (λ (k : ℕ). In (pair_of k c.args.number) c.self.inside.by_owner.items) (sym c.key.ensures.key)
    (pair_in open_key (λ o. o.number) c.args.number c.self.inside.states.items c.in-Some.open.now c.self.inside.by_owner.items c.self.invariant.2
    (sym c.get.ensures ∙ ap option_copied c.in-Some.is))

pub invariant_of-self : goal.invariant_of-self
invariant_of-self c =
    let n = c.args.number in
    let opens = c.self.inside.states.items in
    elim c.match-get.branch [
      | in-Some w ↦ rw (c.remove.ensures.items, w.self-inside-is) (
          let o = w.in-Some.open.now in
          let found : find (λ (x : OpenState). x.number == n) opens ≡ Some o = sym c.get.ensures ∙ ap option_copied w.in-Some.is in (
            index_taken (λ (x : OpenState). x.file) (λ x. x.number) 1 c.kept.ensures.0 n opens o c.self.inside.by_file.items w.take.new.self.items
                c.kept.ensures.1 c.self.invariant.0 found w.take.ensures.taken,
            index_taken (λ (x : OpenState). x.client) (λ x. x.number) 1 c.kept.ensures.0 n opens o c.self.inside.by_client.items
                w.take-in-Some.new.self.items c.kept.ensures.1 c.self.invariant.1 found w.take-in-Some.ensures.taken,
            index_taken open_key (λ x. x.number) 1 c.kept.ensures.0 n opens o c.self.inside.by_owner.items w.take-in-Some-2.new.self.items
                c.kept.ensures.1 c.self.invariant.2 found
                (subst (λ (k : ℕ). HasTaken c.self.inside.by_owner.items (pair_of k n) w.take-in-Some-2.new.self.items) w.key.ensures.key
                w.take-in-Some-2.ensures.taken),
            each_left (λ x. not (x.number == n)) opens _ refl c.self.invariant.3,
            counted_without n opens c.self.inside.counts w.take-in-Some-3.new.self o c.kept.ensures found c.self.invariant.4
                (subst (λ (r : Reservation). CountsAnew c.self.inside.counts w.take-in-Some-3.new.self o.file (without_one r (count_at c.self.inside.counts o.file)))
                w.reserved.ensures w.take-in-Some-3.ensures.counts),
          ))
      | in_default w ↦ rw (c.remove.ensures.items, w.self-inside-is) (
          let gone : find (λ (x : OpenState). x.number == n) opens ≡ None = sym c.get.ensures ∙ ap option_copied w.in_default.is in (
            index_left (λ (x : OpenState). x.file) (λ x. x.number) n opens c.self.inside.by_file.items c.self.invariant.0 gone,
            index_left (λ (x : OpenState). x.client) (λ x. x.number) n opens c.self.inside.by_client.items c.self.invariant.1 gone,
            index_left open_key (λ x. x.number) n opens c.self.inside.by_owner.items c.self.invariant.2 gone,
            each_left (λ x. not (x.number == n)) opens _ refl c.self.invariant.3,
            unchanged_without n opens c.self.inside.counts c.self.inside.counts gone c.self.invariant.4 (λ f. refl),
          ))
    ]
