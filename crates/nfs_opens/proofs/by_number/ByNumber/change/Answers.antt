use Rattle.std.proofs.Common.{map, ◌∙◌, sym, ap, subst}
use Rattle.std.specs.Prelude.{◌==◌, if◌then◌else◌}
use Rattle.nfs_xdr.proofs.Tables.{IsRising-map}
use Rattle.nfs_opens.specs.{Blocks.Listed, TableInvariants.Rises}
use Rattle.nfs_opens.proofs.NumberLemmas.{numbers_parted, number_changed, number_kept}
use Rattle.nfs_opens.proofs.by_number.ByNumber.change.Goals as goal

pub change-requires : goal.change-requires
change-requires g c = numbers_parted g.T.State.number c.args.number 1 c.self.invariant.0 c.self.inside.states.items c.self.invariant.1

pub invariant_of-self : goal.invariant_of-self
invariant_of-self g c =
    let number = g.T.State.number in
    let f = g.C.Change.changed c.args.change.now in
    let items = c.self.inside.states.items in
    subst (Rises number 1) (sym (c.change.ensures.items ∙ number_changed number c.args.number 1 c.self.invariant.0 f items c.self.invariant.1)) (
      c.self.invariant.0,
      IsRising-map number (λ (s : g.row.T.Denot). if number s == c.args.number then f s else s)
          (number_kept number c.args.number f (g.met.C.StateChange.keeps c.args.change.now)) 1 c.self.invariant.0 items c.self.invariant.1,
    )

pub returns-clause-items : goal.returns-clause-items
returns-clause-items g c =
    let number = g.T.State.number in
    let f = g.C.Change.changed c.args.change.now in
    c.change.ensures.items ∙ (number_changed number c.args.number 1 c.self.invariant.0 f c.self.inside.states.items c.self.invariant.1
    ∙ ap (λ (x : Listed g.row.T.Denot). map (λ (s : g.row.T.Denot). if number s == c.args.number then f s else s) x.items) c.self.view_is)
