-- Ids of two clients, worked by hand, and two servers that lie about them (RFC 8881 sections 18.35 and 18.36).
use Rattle.std.specs.Prelude.{ℕ, ◌+◌, ◌*◌, ◌^◌, nat_lt, List, [], ◌∷◌, ◌++◌, length, take, drop, if◌then◌else◌}
use Rattle.nfs_serve.specs.Step.{ServerState}
use Rattle.nfs_promises.specs.Runs.{Requests.{words, exchange_id, create_session}, Started.usual, Points.{reached, asked_by}}
use Rattle.nfs_promises.specs.{Network.Endpoint.Arrival, Locks.LockKeptWorked.came}
use Rattle.nfs_promises.specs.Calls.OwnIds.{Answers, answered, TellsClient, TellsSession, ClientIdsAreOnes, SessionIdsAreOnes}

-- To a new server of instance 7 come EXCHANGE_IDs of the owners `A` to `E`, each with verifier 1, and CREATE_SESSIONs of the first two clients.
abbrev pub exchanges : (now : ℕ) → (name : ℕ) → Arrival
exchanges now name = came now now (exchange_id 1 (name ∷ []))

abbrev pub first : Arrival
first = exchanges 100 0x41

abbrev pub others : List Arrival
others = exchanges 101 0x42 ∷ exchanges 102 0x43 ∷ exchanges 103 0x44 ∷ []

abbrev pub last : Arrival
last = exchanges 104 0x45

abbrev pub creates : Arrival
creates = came 105 105 (create_session 1 1)

abbrev pub creates_other : Arrival
creates_other = came 106 106 (create_session 2 1)

abbrev pub outset : ServerState
outset = reached usual []

abbrev pub four : ServerState
four = reached usual (first ∷ others)

abbrev pub five : List Arrival
five = first ∷ (others ++ last ∷ [])

abbrev pub confirmed : ServerState
confirmed = reached usual (five ++ creates ∷ [])

abbrev pub one_verifier : List ℕ
one_verifier = words (0 ∷ 1 ∷ [])

abbrev pub client : ℕ → ℕ
client counter = 7 * 2 ^ 32 + counter

-- session 1, of the first client
abbrev pub session : List ℕ
session = words (7 ∷ 1 ∷ 0 ∷ 1 ∷ [])

-- an answer with other bytes from the 20th on, where the id stands
abbrev pub with_id : List ℕ → List ℕ → List ℕ
with_id id text = take 20 text ++ (id ++ drop (20 + length id) text)

-- It tells every newcomer past the fourth the id of the first client.
abbrev pub tells_the_first : Answers
tells_the_first s c = if nat_lt (length s.machine.clients.records) 4 then answered s c else with_id (words (7 ∷ 1 ∷ [])) (answered s c)

-- It tells each client the session of the first.
abbrev pub tells_one_session : Answers
tells_one_session s c = with_id session (answered s c)

-- This server's run meets the premises, with ids of their own. Of the two that lie the promise does not hold.
pub record AreOwn : Type 0 where
  pub one : TellsClient (0x41 ∷ []) one_verifier (client 1) (asked_by outset first) (answered outset first)
  pub another : TellsClient (0x45 ∷ []) one_verifier (client 5) (asked_by four last) (answered four last)
  pub made : TellsSession (client 1) session (asked_by (reached usual five) creates) (answered (reached usual five) creates)
  pub made_other : TellsSession (client 2) (words (7 ∷ 2 ∷ 0 ∷ 2 ∷ [])) (asked_by confirmed creates_other) (answered confirmed creates_other)
  pub lie : ClientIdsAreOnes tells_the_first usual → ⊥
  pub session_lie : SessionIdsAreOnes tells_one_session usual → ⊥
