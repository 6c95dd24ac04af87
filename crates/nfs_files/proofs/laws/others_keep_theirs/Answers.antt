use Rattle.nfs_files.specs.Own.{HasAsBefore}
use Rattle.nfs_files.proofs.{Outcomes.for_each, OthersOps.item_apart}
use Rattle.nfs_files.proofs.laws.others_keep_theirs.Goals as goal

pub returns : goal.returns
returns c = λ client refused s x now i table other. for_each (λ o. HasAsBefore client s.opens o.state.opens) refused s x now i
    (item_apart client refused s x now i table other)
