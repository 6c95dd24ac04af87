-- The runs in which the laws fail of the wrong servers, computed.
use Rattle.std.proofs.Common.{◌≡◌, inl, inr, ℕ, ◌<◌, zero, suc, true, false, List, [], ◌∷◌, ◌++◌, length, get_or, Option, Some, None, refl, sym, ◌∙◌, ap, subst, arith}
use Rattle.std.proofs.lemmas.Bool.{cases_Bool, true≢false}
use Rattle.nfs_xdr.specs.Text.{IsBytes}
use Rattle.nfs_slots.specs.{declared.slot.Verdict.Verdict, declared.slot.Verdict.TheVariants.{Fresh, Again}}
use Rattle.nfs_promises.specs.Network.{Endpoint.{Place, Heading, Compound, Answer, SlotNumber, Stepped, Arrival}, ExactlyOnce.{Callers, Packet, Next}}
use Rattle.nfs_promises.specs.Network.{ExactlyOnce.{NetworkEvent, Sends, Arrives, Accepts, begins, same_place}, ByNumber.Happens, WrongServers.{Small, place}}
use Rattle.nfs_promises.specs.Network.WrongServers.{heading, spell, arguments, judged, is_fresh, by_verdict, taken, executes, runs_repeats, says_one}
use Rattle.nfs_promises.specs.Network.WrongServers.{LawsRefuse}
use Rattle.nfs_promises.proofs.Network.{StepLaws.{KeepsSlots, Runs, Repeats}, SlotLines.{same_place_is, same_place_self}, ByNumber.exactly_once_by_number}
use Rattle.nfs_promises.proofs.Network.SeenWrite.{only}

-- The first server keeps its slots as it should.

abbrev by : Small → Heading → Verdict → Stepped Small
by s h v = by_verdict arguments (λ p. p) (λ ran number. ran ++ number ∷ []) s h v

abbrev step : Small → Option Heading → Stepped Small
step s o = taken arguments (λ p. p) (λ ran number. ran ++ number ∷ []) s o

is_some : {X : Type 0} (x y : X) → Some x ≡ Some y → x ≡ y
is_some x y e = cc

same_xid : (s : Small) (h : Heading) (a : Answer) (v : Verdict) → (by s h v).answer ≡ Some a → a.xid ≡ h.xid
same_xid s h a Fresh e = ap (λ (a : Answer). a.xid) (sym (is_some _ a e))
same_xid s h a Again e = ap (λ (a : Answer). a.xid) (sym (is_some _ a e))
same_xid s h a v e = absurd cc

runs : (s : Small) (h : Heading) (v : Verdict) → judged arguments s h ≡ v → is_fresh v ≡ true → Runs runs_repeats s h (by s h v)
runs s h Fresh e is = record {
  slot = s.slots h.place;
  stands = refl;
  fresh = e;
  result = spell h.place h.compound.number;
  answer = refl;
  numbered = refl;
  keeps = rw (same_place_self h.place) refl;
}
runs s h v e is = absurd (true≢false (sym is))

repeats : (s : Small) (h : Heading) (a : Answer) (v : Verdict) → judged arguments s h ≡ v → is_fresh v ≡ false → (by s h v).answer ≡ Some a → Repeats runs_repeats s h a.result
repeats s h a Fresh e is told = absurd (true≢false is)
repeats s h a Again e is told = record { slot = s.slots h.place; stands = refl; again = e; kept = ap (λ (a : Answer). a.result) (sym (is_some _ a told)) }
repeats s h a v e is told = absurd cc

leaves : (s : Small) (h : Heading) (p : Place) (v : Verdict) → (is_fresh v ≡ true → h.place ≡ p → ⊥) → Some ((by s h v).state.slots p) ≡ Some (s.slots p)
leaves s h p Fresh elsewhere = elim (cases_Bool (same_place h.place p)) [
  | inl here ↦ absurd (elsewhere refl (same_place_is h.place p here))
  | inr other ↦ rw other refl
]
leaves s h p v elsewhere = refl

-- by what a record says
by_heading : (P : Option Heading → Type 0) (o : Option Heading) (h : Heading) → o ≡ Some h → P (Some h) → P o
by_heading P o h e is = subst P (sym e) is

stays : (s : Small) (p : Place) (o : Option Heading) → ((h : Heading) → o ≡ Some h → executes arguments s o ≡ true → h.place ≡ p → ⊥) → Some ((step s o).state.slots p) ≡ Some (s.slots p)
stays s p None elsewhere = refl
stays s p (Some h) elsewhere = leaves s h p (judged arguments s h) (λ is at. elsewhere h refl is at)

abbrev spelled : List ℕ → SlotNumber
spelled (client ∷ counter ∷ slot ∷ number ∷ []) = record { place = record { session = record { client = client; counter = counter }; slot = slot }; number = number }
spelled result = record { place = place 0; number = 0 }

one_spelled : (n m : SlotNumber) → spell n.place n.number ≡ spell m.place m.number → n ≡ m
one_spelled n m e = ap spelled e

keeps_slots : KeepsSlots runs_repeats
keeps_slots = record {
  Sound = λ s. Unit {0};
  Given = λ s p. Unit {0};
  new_sound = tt;
  step_sound = λ s bytes now choice sound. tt;
  stands = λ s p x sound e. tt;
  stays_given = λ s bytes now choice p given. tt;
  same_xid = λ s bytes now choice h a fits reads. by_heading (λ (o : Option Heading). (step s o).answer ≡ Some a → a.xid ≡ h.xid) (heading bytes) h reads (same_xid s h a (judged arguments s h));
  no_sequence = λ s bytes now choice a fits reads told good. nothing s (heading bytes) a reads told;
  well_numbered = λ result n e. tt;
  one_number = λ result n m e f. one_spelled n m (sym e ∙ f);
  runs = λ s bytes now choice h fits sound reads.
      by_heading (λ (o : Option Heading). executes arguments s o ≡ true → Runs runs_repeats s h (step s o)) (heading bytes) h reads (runs s h (judged arguments s h) refl);
  repeats = λ s bytes now choice h a fits sound reads idle told good.
      by_heading (λ (o : Option Heading). executes arguments s o ≡ false → (step s o).answer ≡ Some a → Repeats runs_repeats s h a.result) (heading bytes) h reads (repeats s h a (judged arguments s h) refl) idle told;
  leaves = λ s bytes now choice p sound given elsewhere. inl (stays s p (heading bytes) elsewhere);
}
  where
    nothing : (s : Small) (o : Option Heading) (a : Answer) → o ≡ None → (step s o).answer ≡ Some a → ⊥
    nothing s None a e told = cc
    nothing s (Some h) a e told = cc

-- The runs.

four_bytes : (a b c d : ℕ) → a < 256 → b < 256 → c < 256 → d < 256 → IsBytes (a ∷ b ∷ c ∷ d ∷ [])
four_bytes a b c d w x y z = record { each = each }
  where
    each : (i : ℕ) → get_or (a ∷ b ∷ c ∷ d ∷ []) i 0 < 256
    each zero = w
    each (suc zero) = x
    each (suc (suc zero)) = y
    each (suc (suc (suc zero))) = z
    each (suc (suc (suc (suc i)))) = omega arith

abbrev callers : Callers
callers = record { places = place 1 ∷ place 2 ∷ []; who = λ p. 7 }

abbrev compound : ℕ → Compound
compound slot = record { number = 1; uid = 6; args = slot ∷ 1 ∷ [] }

abbrev packet : (xid slot : ℕ) → Packet
packet xid slot = record { bytes = xid ∷ slot ∷ 1 ∷ 4 ∷ []; heading = record { xid = xid; place = place slot; compound = compound slot; highest = 4 } }

-- a compound is sent, and its packet comes twice
abbrev twice : List NetworkEvent
twice = Sends (packet 8 1) ∷ Arrives (packet 8 1) 0 None ∷ Arrives (packet 8 1) 0 None ∷ []

twice_happens : Happens callers runs_repeats.new (begins runs_repeats runs_repeats.new) twice
twice_happens = (
  record {
    bytes = four_bytes 8 1 1 4 (omega arith) (omega arith) (omega arith) (omega arith);
    reads = refl;
    place = inl refl;
    ready = λ none. inl (runs_repeats.new.slots (place 1), refl, refl, refl);
    next = Next refl;
    small = omega arith;
  },
  (inl refl, (inl refl, tt)),
)

-- a compound is sent on each slot; the one on slot 2 runs, and its result is accepted for the one on slot 1
abbrev crossed : List NetworkEvent
crossed = Sends (packet 8 1) ∷ Sends (packet 9 2) ∷ Arrives (packet 9 2) 0 None ∷ Accepts (place 1) (compound 1) (record { xid = 9; result = spell (place 1) 1 }) ∷ []

crossed_happens : Happens callers says_one.new (begins says_one says_one.new) crossed
crossed_happens = (
  record {
    bytes = four_bytes 8 1 1 4 (omega arith) (omega arith) (omega arith) (omega arith);
    reads = refl;
    place = inl refl;
    ready = λ none. inl (says_one.new.slots (place 1), refl, refl, refl);
    next = Next refl;
    small = omega arith;
  },
  (
    record {
      bytes = four_bytes 9 2 1 4 (omega arith) (omega arith) (omega arith) (omega arith);
      reads = refl;
      place = inr (inl refl);
      ready = λ none. inl (says_one.new.slots (place 2), refl, refl, refl);
      next = Next refl;
      small = omega arith;
    },
    (
      inl refl,
      (record { place = inl refl; caller = 7; sent = inl refl; waits = λ e. cc; last = ([], refl); numbered = refl; own = inl (λ d i same. only d i) }, tt),
    ),
  ),
)

-- a compound runs on slot 1, and comes again with another highest slot
abbrev again_with : ℕ → Arrival
again_with highest = record { bytes = 8 ∷ 1 ∷ 1 ∷ highest ∷ []; now = 0; choice = None }

abbrev heading_with : ℕ → Heading
heading_with highest = record { xid = 8; place = place 1; compound = compound 1; highest = highest }

no_answer : (a : Answer) → None ≡ Some a → ⊥
no_answer a e = cc

pub laws_refuse : LawsRefuse
laws_refuse = record {
  admitted = exactly_once_by_number runs_repeats keeps_slots;
  repeat_run = λ law.
      let state = (law [] callers twice twice_happens).state in
      let ran : 2 ≡ 1 = ap (λ (s : Small). length s.ran) state in
      omega arith;
  another_slot = λ law. (law [] callers crossed crossed_happens (place 1) (inl refl)).told;
  refused_repeat = λ law.
      no_answer _ (law [] (again_with 4) (heading_with 4) [] (again_with 5) (heading_with 5)
      (four_bytes 8 1 1 4 (omega arith) (omega arith) (omega arith) (omega arith)) refl refl tt
      (four_bytes 8 1 1 5 (omega arith) (omega arith) (omega arith) (omega arith)) refl refl refl (record { slot = _; here = refl; top = _; below = refl })).answer;
}
