-- A lost reply that is had again, worked by hand over the exchange of `LostReply` (RFC 8881 sections 2.10.6.1 and 18.46). The reply to
-- the second compound on slot 1 is lost. Then a client `B` comes, and A sends a SEQUENCE alone on slot 0. The compound comes again, from another caller or the
-- same, under another xid and with another highest slot: it is answered what was answered first.
use Rattle.std.specs.Prelude.{◌≡◌, ℕ, true, List, [], ◌∷◌, ◌++◌, Option, Some, None}
use Rattle.nfs_xdr.specs.Text.{IsBytes}
use Rattle.nfs_xdr.specs.Numbers.{next_number}
use Rattle.nfs_rpc.specs.CallHead.{call_of}
use Rattle.nfs_serve.specs.{Step.{new_state, step}}
use Rattle.nfs_promises.specs.{Runs.{Requests.{words, exchange_id, in_session}, Started.usual}, Network.Endpoint.{Answer, Arrival, stepped, ran}}
use Rattle.nfs_promises.specs.Network.{LostReply.{before, here, place, packet, answer}, AnsweredAgain.{AreElsewhere, Stands}, FreshRuns.Passes}
use Rattle.nfs_promises.specs.{Network.ThisServer.ticked, Calls.EachIsAnswered.xid_of, Locks.LockKeptWorked.came}

-- a packet of the exchange that comes at a moment
abbrev pub comes : (xid number now : ℕ) → Arrival
comes xid number now = record { bytes = (packet xid number).bytes; now = now; choice = None }

-- the first compound was answered
abbrev pub earlier : List Arrival
earlier = before ++ comes 3 1 102 ∷ []

abbrev pub lost : Arrival
lost = comes 4 2 103

abbrev pub between : List Arrival
between = came 104 6 (exchange_id 1 (0x42 ∷ [])) ∷ came 105 7 (in_session 1 1 []) ∷ []

-- memory is refused at its first place, which is of no account
abbrev pub again : Arrival
again = record (comes 5 2 106) { choice = Some 0 }

module _ (find : List ℕ → Option Answer) where
  abbrev pub outset : (here find).State
  outset = ran (here find) (here find).new earlier

  abbrev pub behind : (here find).State
  behind = (stepped (here find) outset lost).state

-- Before that the second compound is fresh on its slot, which the first one was on. The run meets the premises of what is promised of those.
pub record IsFreshThere (find : List ℕ → Option Answer) : Type 0 where
  pub bytes : IsBytes lost.bytes
  pub reads : (here find).heading lost.bytes ≡ Some (packet 4 2).heading
  pub stands : Stands (here find) (outset find) place (packet 4 2).heading.highest lost.now
  pub next : 2 ≡ next_number stands.slot.number
  pub passes : Passes (ticked (outset find) lost.now) place lost.bytes

-- The run meets the premises of the promise, and computes to what it says.
pub record IsHadAgain (find : List ℕ → Option Answer) : Type 0 where
  pub bytes : IsBytes lost.bytes
  pub reads : (here find).heading lost.bytes ≡ Some (packet 4 2).heading
  pub executes : (here find).executes (outset find) lost.bytes lost.now ≡ true
  pub first : (stepped (here find) (outset find) lost).answer ≡ Some (answer 4 2)
  pub elsewhere : AreElsewhere (here find) (behind find) place between
  pub bytes_again : IsBytes again.bytes
  pub reads_again : (here find).heading again.bytes ≡ Some (packet 5 2).heading
  pub stands : Stands (here find) (ran (here find) (behind find) between) place (packet 5 2).heading.highest again.now
  pub answer : (stepped (here find) (ran (here find) (behind find) between) again).answer ≡ Some (answer 5 2)

-- a call of program 100004, and the same words as a reply; no credential and no verifier
abbrev pub of_program : (kind : ℕ) → List ℕ
of_program kind = words (7 ∷ kind ∷ 2 ∷ 100004 ∷ 4 ∷ 1 ∷ 0 ∷ 0 ∷ 0 ∷ 0 ∷ [])

-- A call that is refused is answered under its xid: REPLY 1, MSG_ACCEPTED 0, no verifier, PROG_UNAVAIL 1. A reply is not answered.
pub record IsUnderItsXid : Type 0 where
  pub call : xid_of (call_of (of_program 0)) ≡ Some 7
  pub refused : (step (new_state usual) (of_program 0) 100 None).reply ≡ Some (words (7 ∷ 1 ∷ 0 ∷ 0 ∷ 0 ∷ 1 ∷ []))
  pub reply : xid_of (call_of (of_program 1)) ≡ None
  pub silent : (step (new_state usual) (of_program 1) 100 None).reply ≡ None
