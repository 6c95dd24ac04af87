use Rattle.std.proofs.Common.{arith, is_ok}
use Rattle.nfs_ranges.proofs.LayLemmas.{laid_before, laid_behind}
use Rattle.nfs_ranges.proofs.blocks.lay.Goals as goal

pub returns-clause-before : goal.returns-clause-before
returns-clause-before c = laid_before c.args.blocks.now.items c.insert.new.self.items c.args.gap.at c.args.block (is_ok c.insert.result)
    (c.insert.ensures.succeeds (omega arith)) c.insert.ensures.items (omega arith)

pub returns-clause-behind : goal.returns-clause-behind
returns-clause-behind c = laid_behind c.args.blocks.now.items c.insert.new.self.items c.args.gap.at c.args.gap.end c.args.block (is_ok c.insert.result)
    (c.insert.ensures.succeeds (omega arith)) c.insert.ensures.items (omega arith) (omega arith)
