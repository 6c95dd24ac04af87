-- Others that come in time, worked by hand over the run of `LockKeptWorked` (RFC 8881 sections 8.2 and 8.3).
use Rattle.std.specs.Prelude.{◌≡◌, true, List, [], ◌∷◌, Some}
use Rattle.nfs_ranges.specs.declared.Kind.TheVariants.{Write}
use Rattle.nfs_opens.specs.Closing.{without_lock, without_open}
use Rattle.nfs_files.specs.Own.{HasAsBefore}
use Rattle.nfs_promises.specs.{Runs.{Requests.{exchange_id, create_session, in_session}, Points.state_after_all}, Network.Endpoint.Arrival}
use Rattle.nfs_promises.specs.Locks.{LockKept.renews_by, LockKeptWorked.{came, opens_and_locks, outset, locks, locked, told}, Others.{AreOthers, AreStrangers}}

-- The run of `LockKeptWorked`, worked: behind the LOCK of client A a client B comes, opens the same file, and asks for the byte at the last second of A's lease.
abbrev pub strangers : List Arrival
strangers = came 103 4 (exchange_id 1 (0x42 ∷ [])) ∷ came 104 5 (create_session 2 1) ∷ came 192 6 (in_session 2 1 (opens_and_locks 0)) ∷ []

pub record ComeInTime : Type 0 where
  pub renews : renews_by told.client outset locks ≡ true
  pub others : AreOthers told.client 90 102 locked strangers
  pub none : AreStrangers told.client 90 102 locked strangers
  -- it had the lock, and B has an open by now
  pub held : locked.machine.store.opens.held 2 2 0 ≡ Some Write
  pub opened : (state_after_all locked strangers).machine.store.opens.last ≡ 3
  -- the law refuses who drops A's lock state meanwhile, or A's open
  pub unlocked : HasAsBefore told.client locked.machine.store.opens (without_lock locked.machine.store.opens 2) → ⊥
  pub closed : HasAsBefore told.client locked.machine.store.opens (without_open locked.machine.store.opens 1) → ⊥
