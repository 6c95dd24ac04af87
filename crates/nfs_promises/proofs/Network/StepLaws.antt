-- What a server's step has to keep to: the only facts of it that the promises over a network rest on.
use Rattle.std.specs.Prelude.{◌≡◌, ◌⊎◌, ℕ, max, true, false, List, [], ◌∷◌, Option, Some, None}
use Rattle.nfs_xdr.specs.Text.{IsBytes}
use Rattle.nfs_slots.specs.{Slot.{SlotState, judge_slot}, declared.slot.Verdict.TheVariants.{Fresh, Again}}
use Rattle.nfs_promises.specs.Network.Endpoint.{Place, Heading, Answer, SlotNumber, Stepped, Server, Arrival, stepped, ran}

-- a fresh request: the slot takes it, and keeps the result that is answered
pub record Runs (s : Server) (m : s.State) (h : Heading) (step : Stepped s.State) : Type 0 where
  pub slot : SlotState
  pub stands : s.slot_at m h.place ≡ Some slot
  pub fresh : judge_slot slot h.compound.number h.compound.uid h.compound.args ≡ Fresh
  pub result : List ℕ
  pub answer : step.answer ≡ Some (record { xid = h.xid; result = result })
  pub numbered : s.Bears result (record { place = h.place; number = h.compound.number })
  pub keeps : s.slot_at step.state h.place ≡ Some (record { number = h.compound.number; used = true; uid = h.compound.uid; args = h.compound.args; reply = result })

-- a request that was kept: its result comes out as it was kept
pub record Repeats (s : Server) (m : s.State) (h : Heading) (result : List ℕ) : Type 0 where
  pub slot : SlotState
  pub stands : s.slot_at m h.place ≡ Some slot
  pub again : judge_slot slot h.compound.number h.compound.uid h.compound.args ≡ Again
  pub kept : result ≡ slot.reply

-- no compound that executes on the slot
abbrev pub IsElsewhere : (s : Server) → s.State → Place → List ℕ → ℕ → Type 0
IsElsewhere s m p bytes now = (h : Heading) → s.heading bytes ≡ Some h → s.executes m bytes now ≡ true → h.place ≡ p → ⊥

pub record KeepsSlots (s : Server) : Type 1 where
  -- what holds of each state that a run of a new server leaves
  pub Sound : s.State → Type 0
  -- the session's id was given out
  pub Given : s.State → Place → Type 0
  pub new_sound : Sound s.new
  pub step_sound : (m : s.State) (bytes : List ℕ) (now : ℕ) (choice : Option ℕ) → Sound m → Sound (s.step m bytes now choice).state
  pub stands : (m : s.State) (p : Place) (x : SlotState) → Sound m → s.slot_at m p ≡ Some x → Given m p
  pub stays_given : (m : s.State) (bytes : List ℕ) (now : ℕ) (choice : Option ℕ) (p : Place) → Given m p → Given (s.step m bytes now choice).state p
  -- an answer bears the xid of the call
  pub same_xid : (m : s.State) (bytes : List ℕ) (now : ℕ) (choice : Option ℕ) (h : Heading) (a : Answer) → IsBytes bytes
      → s.heading bytes ≡ Some h → (s.step m bytes now choice).answer ≡ Some a → a.xid ≡ h.xid
  -- and no answer to anything but a compound on a session begins with a good SEQUENCE
  pub no_sequence : (m : s.State) (bytes : List ℕ) (now : ℕ) (choice : Option ℕ) (a : Answer) → IsBytes bytes
      → s.heading bytes ≡ None → (s.step m bytes now choice).answer ≡ Some a → s.IsSequenced a.result → ⊥
  -- a result that bears a slot and a number begins with a good SEQUENCE
  pub well_numbered : (result : List ℕ) (n : SlotNumber) → s.Bears result n → s.IsSequenced result
  -- and bears no other
  pub one_number : (result : List ℕ) (n m : SlotNumber) → s.Bears result n → s.Bears result m → n ≡ m
  pub runs : (m : s.State) (bytes : List ℕ) (now : ℕ) (choice : Option ℕ) (h : Heading) → IsBytes bytes
      → Sound m → s.heading bytes ≡ Some h → s.executes m bytes now ≡ true → Runs s m h (s.step m bytes now choice)
  -- what answers a good SEQUENCE and does not execute is a kept result
  pub repeats : (m : s.State) (bytes : List ℕ) (now : ℕ) (choice : Option ℕ) (h : Heading) (a : Answer) → IsBytes bytes
      → Sound m → s.heading bytes ≡ Some h → s.executes m bytes now ≡ false → (s.step m bytes now choice).answer ≡ Some a → s.IsSequenced a.result
      → Repeats s m h a.result
  -- any other step leaves the slot, or ends its session; one that has ended does not come back
  pub leaves : (m : s.State) (bytes : List ℕ) (now : ℕ) (choice : Option ℕ) (p : Place)
      → Sound m → Given m p → IsElsewhere s m p bytes now
      → (s.slot_at (s.step m bytes now choice).state p ≡ s.slot_at m p) ⊎ (s.slot_at (s.step m bytes now choice).state p ≡ None)

pub record KeepsTime (s : Server) : Type 1 where
  -- expiry at two moments is expiry at the later
  pub twice : (m : s.State) (early late : ℕ) → s.tick (s.tick m early) late ≡ s.tick m (max early late)
  -- a step takes the later of the two moments, and begins with it
  pub step_moment : (m : s.State) (bytes : List ℕ) (now : ℕ) (choice : Option ℕ) → s.moment (s.step m bytes now choice).state ≡ max (s.moment m) now
  pub takes_later : (m : s.State) (bytes : List ℕ) (now : ℕ) (choice : Option ℕ) → s.step m bytes now choice ≡ s.step m bytes (max (s.moment m) now) choice
  pub ticks_first : (m : s.State) (bytes : List ℕ) (early late : ℕ) (choice : Option ℕ) → s.step (s.tick m early) bytes late choice ≡ s.step m bytes (max early late) choice
  -- what executes at a moment does so at the later of the two, whether or not it was taken before
  pub executes_later : (m : s.State) (bytes : List ℕ) (now : ℕ) → s.executes m bytes now ≡ s.executes m bytes (max (s.moment m) now)
  pub executes_ticked : (m : s.State) (bytes : List ℕ) (early late : ℕ) → s.executes (s.tick m early) bytes late ≡ s.executes m bytes (max early late)
  -- and where a record does not execute, it does nothing more
  pub only_ticks : (m : s.State) (bytes : List ℕ) (now : ℕ) (choice : Option ℕ) → s.executes m bytes now ≡ false → (s.step m bytes now choice).state ≡ s.tick m now
  -- what holds of each state that a run of a new server leaves: nothing is left to run out
  pub Sound : s.State → Type 0
  pub new_sound : Sound s.new
  pub step_sound : (m : s.State) (bytes : List ℕ) (now : ℕ) (choice : Option ℕ) → Sound m → Sound (s.step m bytes now choice).state
  pub settled : (m : s.State) → Sound m → s.tick m (s.moment m) ≡ m

-- what each step keeps, a run keeps
pub ran_keeps : (s : Server) (P : s.State → Type 0) → ((m : s.State) (bytes : List ℕ) (now : ℕ) (choice : Option ℕ) → P m → P (s.step m bytes now choice).state)
    → (m : s.State) (records : List Arrival) → P m → P (ran s m records)
ran_keeps s P each m [] is = is
ran_keeps s P each m (a ∷ more) is = ran_keeps s P each (stepped s m a).state more (each m a.bytes a.now a.choice is)
