-- What stands first in a compound, answered wrongly, worked by hand over the run of `LockKeptWorked`: a SEQUENCE says that state was revoked, another that the session has 64
-- slots, and one is refused as if the session had no such slot; a CREATE_SESSION tells more slots than are kept; an EXCHANGE_ID tells a newcomer another client's id (RFC 8881 sections 2.10.6.1, 18.35,
-- 18.36 and 18.46).
use Rattle.std.specs.Prelude.{ℕ, ◌+◌, List, [], ◌∷◌, ◌++◌, drop, length, take}
use Rattle.nfs_xdr.specs.declared.status.Status.TheVariants.{BadSlot}
use Rattle.nfs_compound.specs.{OpNum.op_number, declared.op_num.OpNum.TheVariants.Sequence}
use Rattle.nfs_results.specs.Results.{refusal, spell_compound_head, spell_result}
use Rattle.nfs_serve.specs.Step.{ServerState}
use Rattle.nfs_promises.specs.{Runs.{Points.{reached, state_after}, Requests.{words, create_session, exchange_id, in_session}, Started.usual}, Network.Endpoint.Arrival}
use Rattle.nfs_promises.specs.{Calls.OwnIds.answered, Locks.LockKeptWorked.{came, outset}, Answers.FirstSays.SaysFirst}

-- `A` renews its lease, and begins its session; `B` comes
abbrev pub renews : Arrival
renews = came 102 3 (in_session 1 1 [])

abbrev pub begun : ServerState
begun = reached usual (came 100 1 (exchange_id 1 (0x41 ∷ [])) ∷ [])

abbrev pub begins : Arrival
begins = came 101 2 (create_session 1 1)

abbrev pub comes : Arrival
comes = came 102 3 (exchange_id 1 (0x42 ∷ []))

-- the answer with other bytes from a place on
abbrev pub with_bytes : (place : ℕ) → List ℕ → List ℕ → List ℕ
with_bytes place bytes text = take place text ++ (bytes ++ drop (place + length bytes) text)

-- the answer is another, and the server goes on as this one
abbrev pub Lies : ServerState → Arrival → List ℕ → Type 0
Lies s c text = SaysFirst s c text (state_after s c) → ⊥

-- The promise refuses these.
pub record FirstsRefused : Type 0 where
  -- SEQ4_STATUS_EXPIRED_ALL_STATE_REVOKED, in the flags, which stand last
  pub flagged : Lies outset renews (with_bytes 52 (words (8 ∷ [])) (answered outset renews))
  -- 64 slots, of which the session has four
  pub far : Lies outset renews (with_bytes 44 (words (63 ∷ [])) (answered outset renews))
  pub no_slot : Lies outset renews (spell_compound_head BadSlot [] 1 ++ spell_result (refusal (op_number Sequence) BadSlot))
  -- 64 slots
  pub slots : Lies begun begins (with_bytes 64 (words (64 ∷ [])) (answered begun begins))
  -- the id of `A`
  pub another : Lies outset comes (with_bytes 20 (words (7 ∷ 1 ∷ [])) (answered outset comes))
