use Rattle.std.proofs.{Common.{rules, sym}, lemmas.Nat.be_bytes_4}
use Rattle.nfs_xdr.specs.Spelling.{number}
use Rattle.nfs_serve.proofs.script.be32.Goals as goal

pub returns-clause-bytes : goal.returns-clause-bytes
unfolding number
returns-clause-bytes c = sym (be_bytes_4 c.args.bytes.now _ (search rules) (search rules) c.from_be_bytes.ensures)
