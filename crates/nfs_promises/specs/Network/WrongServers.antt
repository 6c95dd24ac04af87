-- Three servers that are wrong, each small enough to read, of which laws over a network fail (RFC 8881 section 2.10.6). A record is an xid, a slot of
-- one session, a number and the highest slot in use; a result is a session's id, a slot and a number. Kept are the slots, and of what ran the numbers, in
-- order.
use Rattle.std.specs.Prelude.{◌≡◌, ℕ, List, [], ◌∷◌, ◌++◌, Bool, true, false, Option, Some, None, if◌then◌else◌}
use Rattle.nfs_slots.specs.{Slot.{SlotState, unused_slot, judge_slot}, declared.slot.Verdict.Verdict, declared.slot.Verdict.TheVariants.{Fresh, Again}}
use Rattle.nfs_promises.specs.Network.{Endpoint.{Place, Heading, Stepped, Server}, ExactlyOnce.same_place, ByNumber.ExactlyOnceByNumber}
use Rattle.nfs_promises.specs.Network.{PerfectWire.AsOverAWire, AnsweredAgain.AnsweredAgain}

pub record Small : Type 0 where
  pub slots : Place → SlotState
  pub ran : List ℕ

abbrev pub place : ℕ → Place
place slot = record { session = record { client = 3; counter = 4 }; slot = slot }

abbrev pub heading : List ℕ → Option Heading
heading (xid ∷ slot ∷ number ∷ highest ∷ []) =
    Some (record { xid = xid; place = place slot; compound = record { number = number; uid = 6; args = slot ∷ number ∷ [] }; highest = highest })
heading bytes = None

abbrev pub spell : Place → ℕ → List ℕ
spell p number = p.session.client ∷ p.session.counter ∷ p.slot ∷ number ∷ []

-- what a repeat is compared by, as it should be
abbrev pub arguments : Heading → List ℕ
arguments h = h.compound.args

-- what the slot says of a compound, by what a repeat is compared by
abbrev pub judged : (Heading → List ℕ) → Small → Heading → Verdict
judged compared s h = judge_slot (s.slots h.place) h.compound.number h.compound.uid (compared h)

-- the compound is run, and its slot keeps the result
abbrev pub slot_keeping : (Heading → List ℕ) → Heading → List ℕ → SlotState
slot_keeping compared h result = record { number = h.compound.number; used = true; uid = h.compound.uid; args = compared h; reply = result }

abbrev pub run : (Heading → List ℕ) → Small → Heading → List ℕ → Small
run compared s h result = record { slots = λ p. if same_place h.place p then slot_keeping compared h result else s.slots p; ran = s.ran ++ h.compound.number ∷ [] }

abbrev pub is_fresh : Verdict → Bool
is_fresh Fresh = true
is_fresh verdict = false

abbrev pub executes : (Heading → List ℕ) → Small → Option Heading → Bool
executes compared s None = false
executes compared s (Some h) = is_fresh (judged compared s h)

-- A server, by what a repeat is compared by, by the slot that the result of a call on a slot bears, and by what of the numbers a repeat leaves.
module _ (compared : Heading → List ℕ) (told : Place → Place) (repeated : List ℕ → ℕ → List ℕ) where
  abbrev pub by_verdict : Small → Heading → Verdict → Stepped Small
  by_verdict s h Fresh =
      let result : List ℕ = spell (told h.place) h.compound.number in
      record { answer = Some (record { xid = h.xid; result = result }); state = run compared s h result }
  by_verdict s h Again = record {
    answer = Some (record { xid = h.xid; result = (s.slots h.place).reply });
    state = record s { ran = repeated s.ran h.compound.number };
  }
  by_verdict s h verdict = record { answer = None; state = s }

  abbrev pub taken : Small → Option Heading → Stepped Small
  taken s None = record { answer = None; state = s }
  taken s (Some h) = by_verdict s h (judged compared s h)

  abbrev pub small : Server
  small = record {
    State = Small;
    new = record { slots = λ p. unused_slot; ran = [] };
    heading = heading;
    step = λ s bytes now choice. taken s (heading bytes);
    executes = λ s bytes now. executes compared s (heading bytes);
    IsSequenced = λ result. Unit {0};
    Bears = λ result n. result ≡ spell n.place n.number;
    slot_at = λ s p. Some (s.slots p);
    moment = λ s. 0;
    tick = λ s now. s;
  }

-- It runs a repeat again, and answers the result that its slot kept.
abbrev pub runs_repeats : Server
runs_repeats = small arguments (λ p. p) (λ ran number. ran ++ number ∷ [])

-- It says slot 1 in each result.
abbrev pub says_one : Server
says_one = small arguments (λ p. record p { slot = 1 }) (λ ran number. ran)

-- It compares the highest slot too, and so takes a repeat with another one for a false one.
abbrev pub compares_all : Server
compares_all = small (λ h. h.highest ∷ h.compound.args) (λ p. p) (λ ran number. ran)

pub record LawsRefuse : Type 0 where
  -- by what slots hold and results say the first one does nothing twice
  pub admitted : ExactlyOnceByNumber runs_repeats
  pub repeat_run : AsOverAWire runs_repeats → ⊥
  pub another_slot : ExactlyOnceByNumber says_one → ⊥
  pub refused_repeat : AnsweredAgain compares_all → ⊥
