-- One session a CREATE_SESSION, worked by hand (RFC 8881 section 18.36.4).
use Rattle.std.specs.Prelude.{◌≡◌, ℕ, ◌+◌, ◌*◌, ◌^◌, List, [], ◌∷◌}
use Rattle.nfs_xdr.specs.Numbers.{next_number}
use Rattle.nfs_exec.specs.Runs.OneSession.{MakesOne}
use Rattle.nfs_serve.specs.Step.{ServerState}
use Rattle.nfs_promises.specs.Runs.{Requests.{words, exchange_id, create_session}, Started.usual, Points.{state_after, state_after_all, reached, before}}
use Rattle.nfs_promises.specs.{Network.Endpoint.Arrival, Locks.LockKeptWorked.came, Calls.SessionsOnce.{asked, GivesIn}}

-- Worked by hand: to a new server of instance 7 comes EXCHANGE_ID of the owner `A`, and then CREATE_SESSION, twice, and with the next number; another client
-- comes between.
abbrev pub outset : ServerState
outset = reached usual (came 100 1 (exchange_id 1 (0x41 ∷ [])) ∷ [])

abbrev pub creates : Arrival
creates = came 101 2 (create_session 1 1)

abbrev pub between : List Arrival
between = came 102 3 (exchange_id 1 (0x42 ∷ [])) ∷ []

abbrev pub again : Arrival
again = came 103 4 (create_session 1 1)

-- the same, with number 2
abbrev pub goes_on : Arrival
goes_on = came 104 5 (create_session 1 2)

abbrev pub repeated : ServerState
repeated = state_after_all (state_after outset creates) between

-- session 1, of client 1 of instance 7
abbrev pub id : List ℕ
id = words (7 ∷ 1 ∷ 0 ∷ 1 ∷ [])

-- The run meets the premises. The promises refuse a second session at the repeat, and an answer that makes no session: what leaves the sessions as they were
-- made none, where none stood and where the one of the id stood.
pub record IsGivenOnce : Type 0 where
  pub first : GivesIn (7 * 2 ^ 32 + 1) 1 id outset creates
  pub few : asked (7 * 2 ^ 32 + 1) (state_after outset creates) between ≡ 0
  pub second : GivesIn (7 * 2 ^ 32 + 1) 1 id repeated again
  pub other : words (7 ∷ 1 ∷ 0 ∷ 2 ∷ []) ≡ id → ⊥
  pub third : GivesIn (7 * 2 ^ 32 + 1) (next_number 1) (words (7 ∷ 1 ∷ 0 ∷ 2 ∷ [])) (state_after repeated again) goes_on
  pub none : MakesOne (7 * 2 ^ 32 + 1) id (before outset creates).sessions (before outset creates).sessions → ⊥
  pub twice : MakesOne (7 * 2 ^ 32 + 1) id (state_after outset creates).machine.sessions (state_after outset creates).machine.sessions → ⊥
