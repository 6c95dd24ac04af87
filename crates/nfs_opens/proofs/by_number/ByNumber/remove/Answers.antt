use Rattle.std.proofs.Common.{not, ◌∙◌, sym, ap, subst}
use Rattle.std.specs.Prelude.{◌==◌, filter}
use Rattle.nfs_xdr.proofs.Tables.{IsRising-filter}
use Rattle.nfs_opens.specs.{Blocks.Listed, TableInvariants.Rises}
use Rattle.nfs_opens.proofs.NumberLemmas.{numbers_parted, number_removed}
use Rattle.nfs_opens.proofs.by_number.ByNumber.remove.Goals as goal

pub remove-requires : goal.remove-requires
remove-requires g c = numbers_parted g.T.State.number c.args.number 1 c.self.invariant.0 c.self.inside.states.items c.self.invariant.1

pub invariant_of-self : goal.invariant_of-self
invariant_of-self g c =
    let number = g.T.State.number in
    let items = c.self.inside.states.items in
    subst (Rises number 1) (sym (c.remove.ensures.items ∙ number_removed number c.args.number 1 c.self.invariant.0 items c.self.invariant.1))
    (c.self.invariant.0, IsRising-filter number (λ (s : g.row.T.Denot). not (number s == c.args.number)) 1 c.self.invariant.0 items c.self.invariant.1)

pub returns-clause-items : goal.returns-clause-items
returns-clause-items g c =
    let number = g.T.State.number in
    c.remove.ensures.items ∙ (number_removed number c.args.number 1 c.self.invariant.0 c.self.inside.states.items c.self.invariant.1
    ∙ ap (λ (x : Listed g.row.T.Denot). filter (λ (s : g.row.T.Denot). not (number s == c.args.number)) x.items) c.self.view_is)
