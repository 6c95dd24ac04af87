use Rattle.std.proofs.Common.{◌≡◌, ◌-◌, List, length, Some, ap, ◌∙◌}
use Rattle.std.specs.Prelude.{slice_get}
use Rattle.nfs_opens.proofs.BlockLemmas.{ends_at}
use Rattle.nfs_opens.proofs.blocks.Block.passes.Goals as goal

pub returns-in-Some : goal.returns-in-Some
returns-in-Some g c =
    let at : Some c.in-Some.item.now ≡ slice_get c.args.self.now (length c.args.self.now - 1) =
    c.in-Some.ensures.value ∙ ap (λ (xs : List g.row.T.Denot). slice_get xs (length xs - 1)) (c.deref.ensures.value ∙ c.self.view_is) in
    c.skips.ensures ∙ ends_at (g.S.Search.before c.args.of.now) c.args.self.now c.in-Some.item.now at
