-- What does not execute leaves no trace but time: a repeat, a refused SEQUENCE, a refused call, what cannot be read (RFC 8881 section 2.10.6.1).
use Rattle.std.specs.Prelude.{◌≡◌, max, List, [], ◌∷◌, Option, if◌then◌else◌}
use Rattle.nfs_promises.specs.Network.Endpoint.{Answer, Server, Arrival, stepped, ran}

-- the record at the moment at which the server takes it, which is the later of the record's and its own
abbrev pub taken : (s : Server) → s.State → Arrival → Arrival
taken s m a = record a { now = max (s.moment m) a.now }

-- the records of a list that execute, each at the moment at which it was taken
abbrev pub alone : (s : Server) → s.State → List Arrival → List Arrival
alone s m [] = []
alone s m (a ∷ more) =
    if s.executes m a.bytes a.now then taken s m a ∷ alone s (stepped s m a).state more
    else alone s (stepped s m a).state more

-- the answers to all records of a list
abbrev pub answers : (s : Server) → s.State → List Arrival → List (Option Answer)
answers s m [] = []
answers s m (a ∷ more) = (stepped s m a).answer ∷ answers s (stepped s m a).state more

-- of those, the answers to the records that execute
abbrev pub executing_answers : (s : Server) → s.State → List Arrival → List (Option Answer)
executing_answers s m [] = []
executing_answers s m (a ∷ more) =
    if s.executes m a.bytes a.now then (stepped s m a).answer ∷ executing_answers s (stepped s m a).state more
    else executing_answers s (stepped s m a).state more

-- The whole list leaves what the executing records alone leave, once these take the list's last moment and what has run out by then goes; and
-- they are answered as they are in the list.
pub record LeavesAlike (s : Server) (m : s.State) (arrivals : List Arrival) : Type 0 where
  pub state : ran s m arrivals ≡ s.tick (ran s m (alone s m arrivals)) (s.moment (ran s m arrivals))
  pub answered : executing_answers s m arrivals ≡ answers s m (alone s m arrivals)

-- this holds of every list of records, behind every run of a new server
abbrev pub ExecutingAlone : Server → Type 0
ExecutingAlone s = (before arrivals : List Arrival) → LeavesAlike s (ran s s.new before) arrivals

-- Behind any records to a new server nothing is left to run out: to take the moment that was taken last changes nothing.
abbrev pub StaysSettled : Server → Type 0
StaysSettled s = (records : List Arrival) → s.tick (ran s s.new records) (s.moment (ran s s.new records)) ≡ ran s s.new records
