use Rattle.nfs_tests.proofs.Room.{stands_first}
use Rattle.nfs_tests.proofs.parts.results_are_put_in_parts.Goals as goal

pub close-requires : goal.close-requires
close-requires g c = record { stands = c.put_read.ensures.stands _ _ (stands_first _ _ _ _ _ c.put-head.ensures.places c.put-head.ensures.puts) }
