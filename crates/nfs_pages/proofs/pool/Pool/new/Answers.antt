use Rattle.std.proofs.Common.{ap, ◌+◌, ◌∙◌}
use Rattle.nfs_pages.specs.{Pool.steps}
use Rattle.nfs_pages.proofs.pool.Pool.new.Goals as goal

pub returns : goal.returns
returns c = ap (steps c.new.result) c.new-2.ensures.items ∙ ap (λ n. n + 0) c.new.ensures.len
