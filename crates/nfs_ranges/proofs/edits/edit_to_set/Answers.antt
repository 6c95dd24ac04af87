use Rattle.std.proofs.Common.{subst, arith}
use Rattle.nfs_ranges.specs.{Edits.ends_before, Blocks.IsPlace}
use Rattle.nfs_ranges.proofs.PlaceLemmas.{set_spliced, places_order, behind_end}
use Rattle.nfs_ranges.proofs.edits.edit_to_set.Goals as goal

pub end_at-finish-requires : goal.end_at-finish-requires
end_at-finish-requires c = behind_end c.args.last c.args.blocks.now c.place_by-to.result c.at_place-2.result c.place_by-to.ensures.place c.at_place-2.ensures

pub returns-clause-order : goal.returns-clause-order
returns-clause-order c =
    places_order c.saturating_sub.result c.args.last c.place_before-from.result.block c.place_by-to.result.block c.args.blocks.now (omega arith)
    c.place_before-from.ensures.block c.place_by-to.ensures.block

pub returns-clause-spliced : goal.returns-clause-spliced
returns-clause-spliced c =
    rw (c.end_at-finish.ensures, c.begin_at-begin.ensures)
    (set_spliced c.args.kind c.args.first c.args.last c.args.blocks.now c.place_before-from.result c.place_by-to.result c.at_place.result c.at_place-2.result
    c.requires.range c.ranges.last.fits c.requires.blocks.canonical
    (subst (λ n. IsPlace (ends_before n) c.args.blocks.now c.place_before-from.result) c.saturating_sub.ensures c.place_before-from.ensures.place)
    c.place_by-to.ensures.place c.at_place.ensures c.at_place-2.ensures)
