use Rattle.std.proofs.Common.{arith}
use Rattle.nfs_results.proofs.ReplyLaws.{is_found, is_none}
use Rattle.nfs_results.proofs.reply.read_reply.Goals as goal

pub returns-clause-found : goal.returns-clause-found
returns-clause-found c = is_found c.args.bytes.now c.read.result (record { each = λ i. omega (arith, c.type_inv.bytes i) }) c.read.ensures

pub returns-clause-none : goal.returns-clause-none
returns-clause-none c = is_none c.args.bytes.now c.read.result c.read.ensures
