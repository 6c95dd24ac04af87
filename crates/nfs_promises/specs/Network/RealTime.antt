-- Over a network that loses, repeats, delays and reorders what runs is one list of records, each whole and one after the other, and that list
-- keeps to real time (RFC 8881 section 2.10.6): what is first sent after a result was accepted, by whomever, runs after the compound of that result.
use Rattle.std.specs.Prelude.{◌≡◌, List, [], ◌∷◌, ◌++◌}
use Rattle.nfs_xdr.specs.Tables.{In}
use Rattle.nfs_promises.specs.Network.{Endpoint.{Place, Compound, Answer, Server, Arrival, ran}, ExactlyOnce.{Callers, Packet, RanCompound, NetworkEvent}}
use Rattle.nfs_promises.specs.Network.{ExactlyOnce.{Sends, Accepts, begins}, ByNumber.Happens, PerfectWire.{wire, done_on, IsAsOverAWire}}

-- In a list of records that run one after the other from state m on: a compound on slot p, whose result was told, and a later one on slot q.
pub record RunsBehind (s : Server) (m : s.State) (records : List Arrival) (p : Place) (told : RanCompound) (q : Place) (later : Compound) : Type 0 where
  pub front : List Arrival
  pub back : List Arrival
  pub order : records ≡ front ++ back
  -- the first runs in the front, and this is its result there
  pub first : In told (done_on s p m front)
  -- the later one runs in the back, in the state that the front leaves, or not at all
  pub behind : (d : RanCompound) → In d (done_on s q m records) → d.compound ≡ later → In d (done_on s q (ran s m front) back)
  pub only : (d : RanCompound) → In d (done_on s q m front) → d.compound ≡ later → ⊥

-- what these events send, but for what they send again while it waits
abbrev pub sendings : List NetworkEvent → List Packet
sendings [] = []
sendings (Sends p ∷ more) = p ∷ sendings more
sendings (e ∷ more) = sendings more

-- these events do not send the compound of a packet
abbrev pub WasNotSent : Packet → List NetworkEvent → Type 0
WasNotSent p events = (q : Packet) → In q (sendings events) → q.heading.place ≡ p.heading.place → q.heading.compound ≡ p.heading.compound → ⊥

-- A compound that is sent for the first time behind an accepted result runs behind the compound of that result.
abbrev pub KeepsOrder : (s : Server) → s.State → List NetworkEvent → Type 0
KeepsOrder s m events =
    (front middle back : List NetworkEvent) (p : Place) (c : Compound) (a : Answer) (sent : Packet)
    → events ≡ front ++ Accepts p c a ∷ (middle ++ Sends sent ∷ back) → WasNotSent sent front
    → RunsBehind s m (wire s m events) p (record { compound = c; result = a.result }) sent.heading.place sent.heading.compound

-- What runs is the list that the wire brings, each accepted result is its compound's there, and that list keeps to real time.
pub record IsAtomic (s : Server) (m : s.State) (callers : Callers) (events : List NetworkEvent) : Type 0 where
  pub one_list : IsAsOverAWire s m callers events
  pub in_time : KeepsOrder s m events

-- After any records to a new server, for any callers, and any events of such a network.
abbrev pub Atomic : Server → Type 0
Atomic s =
    (before : List Arrival) (callers : Callers) (events : List NetworkEvent)
    → Happens callers (ran s s.new before) (begins s (ran s s.new before)) events
    → IsAtomic s (ran s s.new before) callers events
