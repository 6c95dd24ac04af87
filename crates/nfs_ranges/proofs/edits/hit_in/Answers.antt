use Rattle.std.proofs.{Common.{ap, ◌∙◌}, lemmas.List.take_rest}
use Rattle.std.specs.Prelude.{find}
use Rattle.nfs_ranges.specs.{Clashes.hits, Blocks.flat}
use Rattle.nfs_ranges.proofs.{BlockLemmas.blocks_drop, ClashLemmas.skip_blocks}
use Rattle.nfs_ranges.proofs.edits.hit_in.Goals as goal

pub first_in-requires : goal.first_in-requires
first_in-requires c = rw (take_rest c.args.blocks.now c.block_before-from.result) (blocks_drop c.block_before-from.result c.args.blocks.now c.requires)

pub returns : goal.returns
returns c =
    let h = hits c.args.kind c.args.first c.args.last in
    c.first_in.ensures
    ∙ ap (λ bs. find h (flat bs)) (take_rest c.args.blocks.now c.block_before-from.result)
    ∙ rw c.block_before-from.ensures.place (skip_blocks c.args.kind c.args.first c.args.last 0 c.args.blocks.now c.requires.canonical.from c.requires.some)
