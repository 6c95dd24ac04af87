use Rattle.std.proofs.Common.{◌<◌, suc, sym, subst, arith}
use Rattle.nfs_xdr.specs.Tables.{In}
use Rattle.nfs_opens.specs.{Blocks.Listed, TableInvariants.Rises}
use Rattle.nfs_opens.proofs.NumberLemmas.{number_more}
use Rattle.nfs_opens.proofs.by_number.ByNumber.push.Goals as goal

pub invariant_of-self : goal.invariant_of-self
invariant_of-self g c =
    let number = g.T.State.number in
    let above = subst (λ (x : Listed g.row.T.Denot). (s : g.row.T.Denot) → In s x.items → number s < number c.args.new) (sym c.self.view_is) c.requires.behind in
    let first = c.requires.first in
    subst (Rises number 1) (sym c.push.ensures)
    (suc (number c.args.new), number_more number 1 c.self.invariant.0 c.self.inside.states.items c.args.new c.self.invariant.1 above (omega arith))
