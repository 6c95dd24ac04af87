use Rattle.std.proofs.{Common.subst, KnownBytes.Consumes-trans}
use Rattle.std.specs.Io.KnownBytes.{Consumes}
use Rattle.nfs_serve.proofs.Parts.{take-read}
use Rattle.nfs_serve.proofs.moving.fill.Goals as goal

pub returns-in_default-2-clause-bytes : goal.returns-in_default-2-clause-bytes
returns-in_default-2-clause-bytes g c =
    subst (Consumes _ _) (take-read _ _ _ _ c.read_some.ensures.bound c.fill_rest.ensures.bound)
    (Consumes-trans _ _ _ _ _ c.read_some.ensures.bytes c.fill_rest.ensures.bytes)
