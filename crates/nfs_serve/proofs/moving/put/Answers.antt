use Rattle.std.proofs.{Common.{rules, ◌++◌, take}, KnownBytes.Appends-trans}
use Rattle.nfs_serve.proofs.Parts.{moves_front}
use Rattle.nfs_serve.proofs.moving.put.Goals as goal

pub loop-rest-preserved : goal.loop-rest-preserved
loop-rest-preserved g c =
    let (done, split, appended, _) = c.loop-rest.invariant in
    let rest = c.loop-rest.rest.now in
    (done ++ take c.in-Ok.n rest, moves_front _ done rest c.in-Ok.n split, Appends-trans _ _ _ _ _ appended c.in-Ok.ensures.bytes, search rules)
