-- Two sweeps over two ports, worked by hand, and hubs that do otherwise (RFC 5531 section 11).
use Rattle.std.specs.Prelude.{◌≡◌, ℕ, List, [], ◌∷◌, ◌++◌, replicate, true, false, None}
use Rattle.nfs_rpc.specs.RecordMarking.{Begun}
use Rattle.nfs_serve.specs.{Script.Entry, Step.{ServerState, new_state, step}, Run.{StreamEvent, Arrives, events}}
use Rattle.nfs_serve.specs.Desk.{Desk, opened, Act, Unready, Came, Took, WriteBlocked, Stepped, HasMore, Goes}
use Rattle.nfs_serve.specs.Hub.{Desks, at, none_live, Round, Opens, Turns, Turning, Sweeps}
use Rattle.nfs_promises.specs.{Runs.{Requests.words, Started.usual}, Calls.Exchanges.null_by}
use Rattle.nfs_promises.specs.Calls.{WaitsForFew.HasTurnSoon, NothingIsLost.Account, WholeRuns.{close, script, RunsScript, LosesNothing}}

-- A call of NULL, as one fragment of 40 bytes, and its reply, of 24. The one of xid 1 is stepped in two parts: its mark and 16 bytes, and the rest.
abbrev pub call : (xid : ℕ) → List ℕ
call xid = words (0x8000_0028 ∷ []) ++ null_by xid

abbrev pub reply : (xid : ℕ) → List ℕ
reply xid = words (0x8000_0018 ∷ xid ∷ 1 ∷ 0 ∷ 0 ∷ 0 ∷ 0 ∷ [])

abbrev pub begun : List ℕ
begun = words (1 ∷ 0 ∷ 2 ∷ 100003 ∷ [])

abbrev pub front : List ℕ
front = words (0x8000_0028 ∷ []) ++ begun

abbrev pub rest : List ℕ
rest = words (4 ∷ 0 ∷ 0 ∷ 0 ∷ 0 ∷ 0 ∷ [])

-- At moment 100 a call comes on port 0. Its front is stepped, and the clock says that the turn is late. Another comes on port 1, whose peer takes no reply.
abbrev pub stepped : (now : ℕ) → List ℕ → Act
stepped now part = Stepped now part false false

abbrev pub reads : List Act
reads = Came (call 1) ∷ Stepped 100 front true false ∷ []

abbrev pub others : List Act
others = Came (call 2) ∷ stepped 100 (call 2) ∷ WriteBlocked ∷ []

-- At moment 101 the rest is stepped, and the peer takes these bytes, which are eight of the reply. Port 1 is passed over.
abbrev pub goes_on : List ℕ → List Act
goes_on bytes = stepped 101 rest ∷ Took bytes ∷ WriteBlocked ∷ []

abbrev pub eight : List ℕ
eight = words (0x8000_0018 ∷ 1 ∷ [])

abbrev pub left : List ℕ
left = words (1 ∷ 0 ∷ 0 ∷ 0 ∷ 0 ∷ [])

abbrev pub first : List Round
first = Opens 0 ∷ Opens 1 ∷ Turns 0 reads ∷ Turns 1 others ∷ []

abbrev pub second : List Round
second = Turns 0 (goes_on eight) ∷ Turns 1 (Unready ∷ []) ∷ []

-- A new server of instance 7, and the state behind each record.
abbrev pub outset : ServerState
outset = new_state usual

abbrev pub one : ServerState
one = (step outset (null_by 2) 100 None).state

abbrev pub two : ServerState
two = (step one (null_by 1) 101 None).state

-- what is kept on the ports: the front of the call and the rest, which waits; and what is owed
abbrev pub on : (a b : Desk) → Desks
on a b = at (a ∷ b ∷ [])

abbrev pub waiting : Desk
waiting = record opened { stream = Begun (record { taken = begun; mark = []; lacking = 24; last = true }); unread = rest }

abbrev pub owing : List ℕ → Desk
owing bytes = record opened { owed = bytes }

abbrev pub between : Desks
between = on waiting (owing (reply 2))

abbrev pub at_last : Desks
at_last = on (owing left) (owing (reply 2))

-- The sweeps meet the premises of `waits_for_few`: the rest waits on port 0, and has its turn behind one part of port 1. It refuses the other hubs.
pub record TurnIsSoon : Type 0 where
  pub sweeps : Sweeps 2 outset none_live first one between
  pub next : Sweeps 2 one between second two at_last
  pub waits : HasMore (between 0)
  pub soon : HasTurnSoon 2 (Turns 1 others ∷ []) second 0
  -- it passes over the port on which something waits to be stepped
  pub passed : HasTurnSoon 2 (Turns 1 others ∷ []) (Turns 0 (Unready ∷ []) ∷ Turns 1 (Unready ∷ []) ∷ []) 0 → ⊥
  -- it steps 17 parts of the other port in one turn
  pub many : HasTurnSoon 2 (Turns 1 (replicate 17 (stepped 100 (call 2))) ∷ []) second 0 → ⊥

-- The turn in which the rest is stepped meets the premises of `nothing_is_lost`, by which the reply was put out. It refuses the other turns.
pub record ReplyIsWhole : Type 0 where
  pub goes : Goes 0 one waiting (goes_on eight) two (owing left)
  pub account : Account 0 one waiting (goes_on eight) two (owing left)
  pub told : (a : Account 0 one waiting (goes_on eight) two (owing left)) → a.outs ≡ reply 1
  -- the reply is owed again, or no more of it is, or its bytes are swapped
  pub doubled : Account 0 one waiting (goes_on eight) two (owing (left ++ reply 1)) → ⊥
  pub dropped : Account 0 one waiting (goes_on eight) two (owing []) → ⊥
  pub swapped : Account 0 one waiting (goes_on left) two (owing eight) → ⊥
  -- the rest came, and was neither stepped nor waits
  pub lost : Account 0 outset opened reads outset (record waiting { unread = [] }) → ⊥

abbrev pub rounds : List Round
rounds = first ++ second

-- those with the turns in another order
abbrev pub swapped_rounds : List Round
swapped_rounds = Opens 0 ∷ Opens 1 ∷ Turns 0 reads ∷ Turns 0 (goes_on eight) ∷ Turns 1 others ∷ []

abbrev pub entry : (moment port : ℕ) → List ℕ → Entry
entry moment port part = record { moment = moment; conn = port; piece = part }

abbrev pub records : List StreamEvent
records = Arrives 1 100 (null_by 2) ∷ Arrives 0 101 (null_by 1) ∷ []

-- The rounds meet the premises of `a_hub_runs_a_script` and of `nothing_is_lost_in_a_run`, by which they bring these records. It refuses the other hubs, and the script
-- of the other rounds.
pub record TurnsAreEntries : Type 0 where
  pub turning : Turning outset none_live rounds two at_last
  pub entries : script rounds ≡ close 0 ∷ close 1 ∷ entry 100 0 front ∷ entry 100 1 (call 2) ∷ entry 101 0 rest ∷ []
  pub runs : (run : RunsScript outset rounds two at_last) × LosesNothing outset rounds two at_last run 0
  pub brings : (run : RunsScript outset rounds two at_last) → events run.moves ≡ records
  pub swapped : (run : RunsScript outset swapped_rounds two at_last) → events run.moves ≡ records → ⊥
  -- it answers the call of the second sweep, and leaves the state as it was
  pub unstepped : RunsScript outset rounds one at_last → ⊥
  -- it keeps what began of a call that it has answered
  pub kept : RunsScript outset rounds two (on (record waiting { unread = []; owed = left }) (owing (reply 2))) → ⊥
