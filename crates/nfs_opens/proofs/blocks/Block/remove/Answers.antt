use Rattle.std.proofs.Common.{◌≡◌, ◌<◌, List, length, sym, ◌∙◌, ap, subst}
use Rattle.std.specs.Prelude.{slice_get}
use Rattle.nfs_ranges.specs.Edits.{lead}
use Rattle.nfs_opens.specs.Blocks.{found, removed}
use Rattle.nfs_opens.proofs.BlockLemmas.{removed_there, removed_none}
use Rattle.nfs_opens.proofs.blocks.Block.remove.Goals.{in-Some, in_default}
use Rattle.nfs_opens.proofs.blocks.Block.remove.Goals as goal

pub returns-clause-items : goal.returns-clause-items
returns-clause-items g c =
    let p = g.S.Search.before c.args.of.now in
    let is = g.S.Search.is c.args.of.now in
    elim c.match-place_with.branch [
      | in-Some w ↦ ap (λ b. b.items.items) w.self-inside-is ∙ (w.remove.ensures.items
          ∙ (sym (removed_there p is c.self.inside.items.items w.in-Some.place (w.in-Some.ensures.place ∙ ap (lead p) c.deref.ensures.value)
          (subst (λ (xs : List g.row.T.Denot). w.in-Some.place < length xs) c.deref.ensures.value w.in-Some.ensures.bound)
          (subst (λ (xs : List g.row.T.Denot). found p is xs ≡ slice_get xs w.in-Some.place) c.deref.ensures.value w.in-Some.ensures.found))
          ∙ ap (removed p is) c.self.view_is))
      | in_default w ↦ ap (λ b. b.items.items) w.self-inside-is
          ∙ (sym (removed_none p is c.self.inside.items.items (ap (found p is) (sym c.deref.ensures.value) ∙ w.in_default.ensures.none)) ∙ ap (removed p is) c.self.view_is)
    ]
