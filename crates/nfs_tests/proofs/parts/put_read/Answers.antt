use Rattle.nfs_tests.proofs.Room.{stands_still}
use Rattle.nfs_tests.proofs.parts.put_read.Goals as goal

pub returns-clause-stands : goal.returns-clause-stands
returns-clause-stands c = λ status_at count_at h.
    stands_still _ _ _ _ _ c.put_bytes.ensures (stands_still _ _ _ _ _ c.write_read_head.ensures h)
