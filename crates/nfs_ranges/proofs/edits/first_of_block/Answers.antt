use Rattle.std.proofs.Common.{◌∙◌, sym}
use Rattle.nfs_ranges.proofs.SpanLemmas.{no_writer}
use Rattle.nfs_ranges.proofs.edits.first_of_block.Goals as goal

pub returns-then-not-writes : goal.returns-then-not-writes
returns-then-not-writes c =
    sym (no_writer c.args.kind c.args.first c.args.last c.args.block.now (sym c.is_write.ensures ∙ c.if-not-is_write.true) (sym c.writes.ensures ∙ c.if-not-writes.true))
