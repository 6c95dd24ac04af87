use Rattle.std.proofs.Common.{ℕ}
use Rattle.nfs_xdr.specs.Tables.{In}
use Rattle.nfs_tree.proofs.Shelves.{if_some_as}
use Rattle.nfs_tree.proofs.rising.hit.Goals as goal

pub returns-in-None-clause-hit : goal.returns-in-None-clause-hit
returns-in-None-clause-hit c =
    if_some_as c.hit_once-in-None.result (λ (key : ℕ). In (c.args.number, key) c.hit_once.new.next) (λ (key : ℕ). In (c.args.number, key) c.args.next.now)
    (λ key there. c.hit_once.ensures.rest (c.args.number, key) there) c.hit_once-in-None.ensures.hit

pub returns-in-None-clause-rest : goal.returns-in-None-clause-rest
returns-in-None-clause-rest c = λ e there. c.hit_once.ensures.rest e (c.hit_once-in-None.ensures.rest e there)
