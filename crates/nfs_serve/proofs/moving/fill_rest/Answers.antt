use Rattle.std.proofs.{Common.{rules, subst}, KnownBytes.Consumes-trans}
use Rattle.std.specs.Io.KnownBytes.{Consumes}
use Rattle.nfs_serve.proofs.Parts.{take-read}
use Rattle.nfs_serve.proofs.moving.fill_rest.Goals as goal

pub loop-at-preserved : goal.loop-at-preserved
loop-at-preserved g c = (
  search rules,
  search rules,
  subst (Consumes _ _) (take-read _ _ _ _ c.loop-at.invariant.1 c.read_some.ensures.bound)
      (Consumes-trans _ _ _ _ _ c.loop-at.invariant.2 c.read_some.ensures.bytes),
  search rules,
  search rules,
)
