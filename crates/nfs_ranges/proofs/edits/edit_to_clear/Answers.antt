use Rattle.nfs_ranges.proofs.PlaceLemmas.{clear_spliced, places_order, behind_end, counted}
use Rattle.nfs_ranges.proofs.edits.edit_to_clear.Goals as goal

pub left_behind-right-requires : goal.left_behind-right-requires
left_behind-right-requires c = behind_end c.args.last c.args.blocks.now c.place_by-to.result c.at_place-2.result c.place_by-to.ensures.place c.at_place-2.ensures

pub returns-clause-order : goal.returns-clause-order
returns-clause-order c =
    places_order c.args.first c.args.last c.place_before-from.result.block c.place_by-to.result.block c.args.blocks.now c.requires.range
    c.place_before-from.ensures.block c.place_by-to.ensures.block

pub returns-clause-spliced : goal.returns-clause-spliced
returns-clause-spliced c =
    rw (c.from.ensures, c.is_some.ensures, counted c.left_behind-right.result, c.left_behind-right.ensures, c.left_before-left.ensures)
    (clear_spliced c.args.first c.args.last c.args.blocks.now c.place_before-from.result c.place_by-to.result c.at_place.result c.at_place-2.result
    c.requires.range c.ranges.last.fits c.requires.blocks.canonical c.place_before-from.ensures.place c.place_by-to.ensures.place c.at_place.ensures
    c.at_place-2.ensures)
