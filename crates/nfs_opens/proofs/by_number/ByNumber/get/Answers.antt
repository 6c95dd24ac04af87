use Rattle.std.proofs.Common.{◌∙◌, ap}
use Rattle.std.specs.Prelude.{◌==◌, find}
use Rattle.nfs_opens.specs.Blocks.{Listed}
use Rattle.nfs_opens.proofs.NumberLemmas.{numbers_parted, number_found}
use Rattle.nfs_opens.proofs.by_number.ByNumber.get.Goals as goal

pub find-requires : goal.find-requires
find-requires g c = numbers_parted g.T.State.number c.args.number 1 c.self.invariant.0 c.self.inside.states.items c.self.invariant.1

pub returns : goal.returns
returns g c =
    let number = g.T.State.number in
    c.find.ensures ∙ (number_found number c.args.number 1 c.self.invariant.0 c.self.inside.states.items c.self.invariant.1
    ∙ ap (λ (x : Listed g.row.T.Denot). find (λ (s : g.row.T.Denot). number s == c.args.number) x.items) c.self.view_is)
