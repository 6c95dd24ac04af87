use Rattle.std.proofs.{Common.{◌≡◌, sym, ◌∙◌, ap, arith}, lemmas.Grind.common_steps, lemmas.List.append-nil}
use Rattle.std.specs.List.{insert}
use Rattle.nfs_ranges.specs.Edits.{lead}
use Rattle.nfs_opens.specs.Blocks.{added}
use Rattle.nfs_opens.proofs.BlockLemmas.{added_is}
use Rattle.nfs_opens.proofs.blocks.Block.add.Goals as goal

pub returns-then-len-MOST-clause-items : goal.returns-then-len-MOST-clause-items
returns-then-len-MOST-clause-items g c =
    let p = g.S.Search.before c.args.of.now in
    let old = c.self.inside.items.items in
    let made : c.insert.new.self.items ≡ insert old c.place_of-place.result c.args.new = grind (arith, common_steps) in
    append-nil c.insert.new.self.items ∙ (made ∙ (ap (λ n. insert old n c.args.new) (c.place_of-place.ensures.place ∙ ap (lead p) c.deref.ensures.value)
    ∙ (sym (added_is p c.args.new old) ∙ ap (added p c.args.new) c.self.view_is)))

pub returns-clause-items : goal.returns-clause-items
returns-clause-items g c =
    let p = g.S.Search.before c.args.of.now in
    let old = c.self.inside.items.items in
    let made : c.insert.new.self.items ≡ insert old c.place_of-place.result c.args.new = grind (arith, common_steps) in
    c.split.ensures.items ∙ (made ∙ (ap (λ n. insert old n c.args.new) (c.place_of-place.ensures.place ∙ ap (lead p) c.deref.ensures.value)
    ∙ (sym (added_is p c.args.new old) ∙ ap (added p c.args.new) c.self.view_is)))
