use Rattle.std.proofs.Common.{◌≡◌, ◌<◌, List, length, set, sym, ◌∙◌, ap, subst}
use Rattle.std.specs.Prelude.{slice_get}
use Rattle.nfs_ranges.specs.Edits.{lead}
use Rattle.nfs_opens.specs.Blocks.{found, changed}
use Rattle.nfs_opens.proofs.BlockLemmas.{changed_there, changed_none}
use Rattle.nfs_opens.proofs.blocks.Block.change.Goals as goal

pub returns-in-Some-clause-items : goal.returns-in-Some-clause-items
returns-in-Some-clause-items g c =
    let p = g.S.Search.before c.args.of.now in
    let is = g.S.Search.is c.args.of.now in
    let f = g.C.Change.changed c.args.change.now in
    ap (set c.self.inside.items.items c.in-Some.place) c.make.ensures
    ∙ (sym (changed_there p is f c.self.inside.items.items c.in-Some.place c.index_mut.result.now (c.in-Some.ensures.place ∙ ap (lead p) c.deref.ensures.value)
    (subst (λ (xs : List g.row.T.Denot). c.in-Some.place < length xs) c.deref.ensures.value c.in-Some.ensures.bound)
    (subst (λ (xs : List g.row.T.Denot). found p is xs ≡ slice_get xs c.in-Some.place) c.deref.ensures.value c.in-Some.ensures.found) c.index_mut.ensures.value)
    ∙ ap (changed p is f) c.self.view_is)

pub returns-in_default-clause-items : goal.returns-in_default-clause-items
returns-in_default-clause-items g c =
    let p = g.S.Search.before c.args.of.now in
    let is = g.S.Search.is c.args.of.now in
    let f = g.C.Change.changed c.args.change.now in
    let none = ap (found p is) (sym c.deref.ensures.value) ∙ c.in_default.ensures.none in
    sym c.self.view_is ∙ (sym (changed_none p is f c.self.inside.items.items none) ∙ ap (changed p is f) c.self.view_is)
