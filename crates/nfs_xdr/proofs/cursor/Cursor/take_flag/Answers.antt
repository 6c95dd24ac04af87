use Rattle.nfs_xdr.proofs.Bytes.{bytes_behind}
use Rattle.nfs_xdr.proofs.cursor.Cursor.take_flag.Goals as goal

pub invariant_of-self : goal.invariant_of-self
invariant_of-self c = bytes_behind 4 _ _ c.self.invariant c.in-Some.ensures.cases.1

pub invariant_of-self-in-1 : goal.invariant_of-self-in-1
invariant_of-self-in-1 c = bytes_behind 4 _ _ c.self.invariant c.in-Some.ensures.cases.1
