-- Wrong steps that the promises of locks refuse, worked by hand over the run of `LockKeptWorked` (RFC 8881 sections 8.3, 9.1, 18.2 and 18.10). Each is a step that this server
-- does not take: what a server that took it did is no lock kept.
use Rattle.std.specs.Prelude.{◌≡◌, ℕ, ◌==◌, not, true, false, [], ◌∷◌, ◌++◌, Option, None, Some}
use Rattle.nfs_compound.specs.declared.op_num.OpNum.TheVariants as Num
use Rattle.nfs_compound.specs.declared.op.Item.TheVariants.{Operation}
use Rattle.nfs_compound.specs.declared.op.Op.TheVariants as Op
use Rattle.nfs_lease.specs.Renewals.{with_renewal, has_run_out}
use Rattle.nfs_results.specs.Results.{done_head}
use Rattle.nfs_ranges.specs.declared.Kind.TheVariants.{Write}
use Rattle.nfs_opens.specs.Closing.{without_open}
use Rattle.nfs_names.specs.Ending.{with_opens, staying}
use Rattle.nfs_exec.specs.Step.{Machine.Machine, Laws.{MachineEvent, Asks}, Delayed.IsDelayed}
use Rattle.nfs_exec.specs.{Runs.Ended.HasNothing, Runs.Ops.RanOp, Runs.LockHeld.{StandsBefore, StandsWhile}}
use Rattle.nfs_serve.specs.{Step.{ServerState, new_state}}
use Rattle.nfs_promises.specs.Runs.{Requests.{words, exchange_id, create_session}, Started.{hasty_start, usual}, Points.{state_after, reached, before}}
use Rattle.nfs_promises.specs.{Runs.Points.{asked_by, ops_of}, Locks.{LockKept.{replaces_by, StaysHeld}, NoneOutlives.{last_renewal, IsInTime}}}
use Rattle.nfs_promises.specs.Locks.LockKeptWorked.{came, earlier, locks, renewal, clashes, locked, asked, told, stateid_of_lock, last_of}
use Rattle.nfs_promises.specs.Network.Endpoint.{Arrival}

-- a server whose leases last one second, whatever the client was told
abbrev pub short_leases : ServerState
short_leases = state_after (reached hasty_start earlier) locks

-- a LOCK that sets the lease of its client back
abbrev pub set_back : ServerState
set_back = record locked { machine = record locked.machine { leases = with_renewal locked.machine.leases told.client 0 } }

-- a LOCK that answers NFS4_OK and a stateid, of lock state 4, and does nothing
abbrev pub told_anyway : RanOp → RanOp
told_anyway lock = record lock { result = done_head Num.Lock ++ stateid_of_lock 4 }

-- a CLOSE of open 3, which is B's, that closes A's, and answers as it ought to
abbrev pub closes_another : RanOp → RanOp
closes_another d = record d {
  item = Operation (Op.Close (record { seqid = 0; open_stateid = record { seqid = 1; other = words (7 ∷ 0 ∷ 3 ∷ []) } }));
  result = done_head Num.Close ++ words (0xffff_ffff ∷ 0 ∷ 0 ∷ 0 ∷ []);
  behind = record d.before { store = with_opens d.before.store (without_open d.before.store.opens 1) };
}

-- A's CREATE_SESSION comes again, with the number that was answered
abbrev pub repeats : Arrival
repeats = came 150 9 (create_session 1 1)

-- A starts anew, with another verifier; and confirms the id that it is given
abbrev pub begins_anew : Arrival
begins_anew = came 103 9 (exchange_id 2 (0x41 ∷ []))

abbrev pub confirms : Arrival
confirms = came 104 10 (create_session 2 1)

-- an EXCHANGE_ID that ends what A has open and locked
abbrev pub ended : ServerState
ended = record locked { machine = record locked.machine { store = staying (λ c. not (c == told.client)) locked.machine.store } }

-- The answer to what a record asks for is none where the operation at a place of it is delayed.
abbrev pub NoneDelayed : Machine → (place : ℕ) → Option MachineEvent → Type 0
NoneDelayed m place (Some (Asks r who size now choice)) = IsDelayed m r who size now place → ⊥
NoneDelayed m place o = ⊥

pub record AreRefused : Type 0 where
  -- NFS4ERR_DELAY in the place of NFS4ERR_DENIED
  pub delayed : NoneDelayed (before asked clashes) 3 (asked_by asked clashes)
  -- in the place of B's LOCK, which is denied
  pub denied : (d : RanOp) → StandsBefore told (told_anyway (last_of d (ops_of asked clashes))) → ⊥
  pub closed : (d : RanOp) → StandsWhile told (closes_another (last_of d (ops_of asked clashes)) ∷ []) → ⊥
  -- the lock is gone behind a renewal in time
  pub short : StaysHeld told 90 102 short_leases (renewal ∷ []) → ⊥
  pub back : StaysHeld told 90 102 set_back (renewal ∷ []) → ⊥
  -- the lock is gone behind an EXCHANGE_ID of A's owner: that puts nobody in A's place, but the CREATE_SESSION behind it does
  pub anew : replaces_by told.client locked begins_anew ≡ false
  pub taken_over : replaces_by told.client (state_after locked begins_anew) confirms ≡ true
  pub exchanged : StaysHeld told 90 102 ended [] → ⊥
  -- the lock still stands 91 seconds behind the last renewal, where nothing runs out
  pub last : last_renewal told.client None (new_state usual) (earlier ++ locks ∷ []) ≡ Some 102
  pub held : locked.machine.store.opens.held 2 2 0 ≡ Some Write
  -- and so does all that its client had, whose lease has run out by then
  pub run_out : has_run_out locked.machine.store.lease locked.machine.leases 193 told.client ≡ true
  pub kept_all : HasNothing told.client locked.machine → ⊥
  -- and where it lives on a CREATE_SESSION that is repeated, which renews nothing
  pub repeat : last_renewal told.client None (new_state usual) (earlier ++ locks ∷ repeats ∷ []) ≡ Some 102
  pub lives_on : IsInTime locked.machine.store.opens 2 90 193 (λ client. last_renewal client None (new_state usual) (earlier ++ locks ∷ repeats ∷ [])) → ⊥
  pub late : IsInTime locked.machine.store.opens 2 90 193 (λ client. last_renewal client None (new_state usual) (earlier ++ locks ∷ [])) → ⊥
