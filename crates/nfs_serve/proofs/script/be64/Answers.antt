use Rattle.std.proofs.{Common.{rules, sym}, lemmas.Nat.be_bytes_8}
use Rattle.nfs_xdr.specs.Spelling.{hyper}
use Rattle.nfs_serve.proofs.script.be64.Goals as goal

pub returns-clause-bytes : goal.returns-clause-bytes
unfolding hyper
returns-clause-bytes c = sym (be_bytes_8 c.args.bytes.now _ (search rules) (search rules) c.from_be_bytes.ensures)
