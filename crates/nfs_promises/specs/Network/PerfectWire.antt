-- A network that loses, repeats, delays and reorders, against a perfect wire (RFC 8881 section 2.10.6): the server ends as one that received
-- each executed compound once, in order, and nothing that does not execute; and each caller accepts what that server answers.
use Rattle.std.specs.Prelude.{◌≡◌, List, [], ◌∷◌, ◌++◌, flat_map, Option, Some, None, if◌then◌else◌}
use Rattle.nfs_xdr.specs.Tables.{In}
use Rattle.nfs_promises.specs.Network.{Endpoint.{Place, Heading, Answer, Server, Arrival, stepped, ran}, ExactlyOnce.{Callers, RanCompound, Line, NetworkEvent}}
use Rattle.nfs_promises.specs.Network.{ExactlyOnce.{Arrives, Asks, Intrudes, same_place, result_of, begins, ended, IsExact}, ByNumber.Happens}
use Rattle.nfs_promises.specs.Network.ExecutingAlone.{alone}

-- the record that an event brings to the server, if it brings one
abbrev pub reaching : NetworkEvent → List Arrival
reaching (Arrives p now choice) = record { bytes = p.bytes; now = now; choice = choice } ∷ []
reaching (Asks caller a) = a ∷ []
reaching (Intrudes a) = a ∷ []
reaching event = []

abbrev pub all_reaching : List NetworkEvent → List Arrival
all_reaching events = flat_map reaching events

-- What the wire brings to a server in state m: of the records that reach the server by these events, callers' and strangers', those that execute, in
-- their order and at the moments at which they were taken.
abbrev pub wire : (s : Server) → s.State → List NetworkEvent → List Arrival
wire s m events = alone s m (all_reaching events)

-- a compound on this slot, and its result
abbrev pub done_by : Place → Option Heading → Option Answer → List RanCompound
done_by p None answer = []
done_by p (Some h) answer = if same_place h.place p then record { compound = h.compound; result = result_of answer } ∷ [] else []

-- of records that a server takes one after the other the compounds on a slot, each with the result that it is answered
abbrev pub done_on : (s : Server) → Place → s.State → List Arrival → List RanCompound
done_on s p m [] = []
done_on s p m (a ∷ more) = done_by p (s.heading a.bytes) (stepped s m a).answer ++ done_on s p (stepped s m a).state more

-- What became of the compounds of a slot, against what is done on it at the end of the wire: that is what the server executed, and what it answered. And so
-- the caller sent these, each once, and accepted of these results, each for its own compound.
pub record IsAsDone (l : Line) (done : List RanCompound) : Type 0 where
  pub executed : l.executed ≡ done
  pub exact : IsExact l

pub record IsAsOverAWire (s : Server) (m : s.State) (callers : Callers) (events : List NetworkEvent) : Type 0 where
  -- the server is left as the wire leaves it, at the last moment that it took
  pub state : (ended callers (begins s m) events).machine ≡ s.tick (ran s m (wire s m events)) (s.moment (ended callers (begins s m) events).machine)
  -- which executes each record that the wire brings
  pub executes : alone s m (wire s m events) ≡ wire s m events
  pub lines : (p : Place) → In p callers.places → IsAsDone ((ended callers (begins s m) events).lines p) (done_on s p m (wire s m events))

-- After any records to a new server, for any callers, and any events of such a network.
abbrev pub AsOverAWire : Server → Type 0
AsOverAWire s =
    (before : List Arrival) (callers : Callers) (events : List NetworkEvent)
    → Happens callers (ran s s.new before) (begins s (ran s s.new before)) events
    → IsAsOverAWire s (ran s s.new before) callers events
