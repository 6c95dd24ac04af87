use Rattle.std.proofs.Common.{rules}
use Rattle.nfs_serve.proofs.Entries.{head_parts}
use Rattle.nfs_serve.proofs.script.head_of.Goals as goal

pub returns : goal.returns
returns c = (
  head_parts c.args.bytes.now _ _ _ (search rules) c.be64-moment.ensures.bytes c.be32-conn.ensures.bytes c.be32-len.ensures.bytes,
  c.be64-moment.ensures.width,
  c.be32-conn.ensures.width,
  c.be32-len.ensures.width,
)
