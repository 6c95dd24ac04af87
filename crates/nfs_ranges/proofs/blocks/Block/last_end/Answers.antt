use Rattle.std.proofs.Common.{◌-◌, List, length, ap, ◌∙◌}
use Rattle.std.specs.Prelude.{slice_get}
use Rattle.nfs_ranges.specs.declared.interval.Interval.{Interval}
use Rattle.nfs_ranges.proofs.BlockLemmas.{last_is}
use Rattle.nfs_ranges.proofs.blocks.Block.last_end.Goals as goal

pub returns-in-Some : goal.returns-in-Some
returns-in-Some c = last_is c.args.self.now c.in-Some.x.now
    (c.in-Some.ensures.value ∙ ap (λ (xs : List Interval). slice_get xs (length xs - 1)) (c.deref.ensures.value ∙ c.self.view_is))
