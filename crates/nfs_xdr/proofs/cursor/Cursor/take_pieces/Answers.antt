use Rattle.nfs_xdr.proofs.Bytes.{bytes_behind}
use Rattle.nfs_xdr.proofs.cursor.Cursor.take_pieces.Goals as goal

pub invariant_of-self : goal.invariant_of-self
invariant_of-self g c = bytes_behind _ _ _ c.self.invariant c.in_ok-items.ensures.behind.1
