use Rattle.nfs_xdr.proofs.Bytes.{bytes_behind}
use Rattle.nfs_xdr.proofs.cursor.Cursor.take_u64.Goals as goal

pub invariant_of-self : goal.invariant_of-self
invariant_of-self c = bytes_behind 8 _ _ c.self.invariant c.in-Some.ensures.cases.1
