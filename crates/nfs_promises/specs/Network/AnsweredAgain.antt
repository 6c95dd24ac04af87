-- A lost reply can be had again: a compound that executed is answered with the same result whenever it comes again, while no other executed on its slot and its
-- session stands (RFC 8881 sections 2.10.6.1, 2.10.6.2 and 18.46).
use Rattle.std.specs.Prelude.{◌≡◌, ℕ, true, List, [], ◌∷◌, Option, Some, option_map, ⊤}
use Rattle.nfs_xdr.specs.Text.{IsBytes}
use Rattle.nfs_slots.specs.Slot.{SlotState}
use Rattle.nfs_promises.specs.Network.Endpoint.{Place, Heading, Answer, Server, Arrival, stepped, ran}

-- none of these records executes on the slot
abbrev pub AreElsewhere : (s : Server) → s.State → Place → List Arrival → Type 0
AreElsewhere s m p [] = ⊤
AreElsewhere s m p (a ∷ more) =
    ((h : Heading) → s.heading a.bytes ≡ Some h → s.executes m a.bytes a.now ≡ true → h.place ≡ p → ⊥)
    × AreElsewhere s (stepped s m a).state p more

-- At a moment the slot stands, and so does the one that is called the highest in use.
pub record Stands (s : Server) (m : s.State) (p : Place) (highest now : ℕ) : Type 0 where
  pub slot : SlotState
  pub here : s.slot_at (s.tick m now) p ≡ Some slot
  pub top : SlotState
  pub below : s.slot_at (s.tick m now) (record p { slot = highest }) ≡ Some top

-- It is answered what was answered first, under its xid, and nothing runs.
pub record IsAnsweredAgain (s : Server) (first : Option Answer) (g : Heading) (m : s.State) (b : Arrival) : Type 0 where
  pub answer : (stepped s m b).answer ≡ option_map (λ (a : Answer). record a { xid = g.xid }) first
  pub state : (stepped s m b).state ≡ s.tick m b.now

-- Behind any records to a new server a compound executes on a slot. It comes again, from whomever, under whatever xid, at any moment, and wherever memory is
-- refused; between, none executes on that slot; and the slot still stands at that moment, and so does the one that it says is the highest in use. Then it is
-- answered with the same result, and nothing runs.
abbrev pub AnsweredAgain : Server → Type 0
AnsweredAgain s =
    (before : List Arrival) (a : Arrival) (h : Heading) (between : List Arrival) (b : Arrival) (g : Heading)
    → IsBytes a.bytes → s.heading a.bytes ≡ Some h → s.executes (ran s s.new before) a.bytes a.now ≡ true
    → AreElsewhere s (stepped s (ran s s.new before) a).state h.place between
    → IsBytes b.bytes → s.heading b.bytes ≡ Some g → g.place ≡ h.place → g.compound ≡ h.compound
    → (let m = ran s (stepped s (ran s s.new before) a).state between in
    Stands s m h.place g.highest b.now → IsAnsweredAgain s (stepped s (ran s s.new before) a).answer g m b)
