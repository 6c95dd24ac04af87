use Rattle.std.proofs.Common.{ap, ◌∙◌}
use Rattle.nfs_xdr.specs.Spelling.{number}
use Rattle.nfs_files.proofs.Codes.{same_word}
use Rattle.nfs_files.proofs.stateids.count_of.Goals as goal

pub returns : goal.returns
returns c = same_word c.len.result ∙ ap number c.len.ensures.value
