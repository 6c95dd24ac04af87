-- The records that reach a server over a network, and those of them that execute.
use Rattle.std.proofs.{Common.{◌≡◌, ℕ, Bool, true, false, List, [], ◌∷◌, ◌++◌, Option, Some, None, refl, sym, ◌∙◌, ap, subst, inl, inr}, lemmas.Bool.cases_Bool}
use Rattle.std.specs.Prelude.{if◌then◌else◌}
use Rattle.nfs_xdr.specs.Tables.{In}
use Rattle.nfs_promises.specs.Network.{Endpoint.{Place, Heading, Answer, Server, Arrival, Stepped, stepped, ran}, ExactlyOnce.{Callers, Packet, RanCompound}}
use Rattle.nfs_promises.specs.Network.ExactlyOnce.{Line, Network, NetworkEvent, Sends, Resends, Arrives, Asks, Intrudes, Accepts, same_place, with_line}
use Rattle.nfs_promises.specs.Network.ExactlyOnce.{sending, resending, accepting, executing, result_of, arriving, after, IsForeign, ended, begins}
use Rattle.nfs_promises.specs.Network.{ByNumber.Happens, ExecutingAlone.{taken, alone, answers, executing_answers, LeavesAlike}, PerfectWire.all_reaching}
use Rattle.nfs_promises.specs.Network.PerfectWire.{wire, done_by, done_on, AsOverAWire}
use Rattle.nfs_promises.proofs.Network.{StepLaws.{KeepsSlots, KeepsTime}, CountedLists.append_none, SlotLines.{same_place_is, updated}, ByNumber.IsNetwork}
use Rattle.nfs_promises.proofs.Network.{ByNumber.{event_keeps, begins_is, exactly_once_by_number}, ExecutingAlone.{executing_alone, executing_again}}

append_one : {X : Type 0} (xs : List X) (x : X) (ys : List X) → (xs ++ x ∷ []) ++ ys ≡ xs ++ x ∷ ys
append_one [] x ys = refl
append_one (z ∷ zs) x ys = ap (λ (us : List _). z ∷ us) (append_one zs x ys)

-- the machine is that of the records that reach it
pub machine_is : (s : Server) (callers : Callers) (net : Network s) (events : List NetworkEvent)
    → (ended callers net events).machine ≡ ran s net.machine (all_reaching events)
machine_is s callers net [] = refl
machine_is s callers net (Sends q ∷ more) = machine_is s callers (after callers net (Sends q)) more
machine_is s callers net (Resends q ∷ more) = machine_is s callers (after callers net (Resends q)) more
machine_is s callers net (Arrives q now choice ∷ more) = machine_is s callers (after callers net (Arrives q now choice)) more
machine_is s callers net (Asks caller a ∷ more) = machine_is s callers (after callers net (Asks caller a)) more
machine_is s callers net (Intrudes a ∷ more) = machine_is s callers (after callers net (Intrudes a)) more
machine_is s callers net (Accepts p c a ∷ more) = machine_is s callers (after callers net (Accepts p c a)) more

-- records and the answers to them, in step
done_with : (s : Server) → Place → List Arrival → List (Option Answer) → List RanCompound
done_with s p [] told = []
done_with s p (a ∷ more) [] = []
done_with s p (a ∷ more) (x ∷ told) = done_by p (s.heading a.bytes) x ++ done_with s p more told

done_is : (s : Server) (p : Place) (m : s.State) (records : List Arrival) → done_on s p m records ≡ done_with s p records (answers s m records)
unfolding done_with
done_is s p m [] = refl
done_is s p m (a ∷ more) = ap (λ (ds : List RanCompound). done_by p (s.heading a.bytes) (stepped s m a).answer ++ ds) (done_is s p (stepped s m a).state more)

-- what is executed on a slot by further records
abbrev further : (s : Server) → Place → s.State → List Arrival → List RanCompound
further s p m records = done_with s p (alone s m records) (executing_answers s m records)

-- one record more, on no slot of the caller
skipped : (s : Server) (p : Place) (ds : List RanCompound) (m : s.State) (a : Arrival) (more : List Arrival) → done_by p (s.heading a.bytes) (stepped s m a).answer ≡ []
    → ds ++ further s p (stepped s m a).state more ≡ ds ++ further s p m (a ∷ more)
unfolding done_with
skipped s p ds m a more none = ap (λ (es : List RanCompound). ds ++ es) (go (s.executes m a.bytes a.now))
  where
    after : s.State
    after = (stepped s m a).state

    go : (b : Bool) → further s p after more
        ≡ done_with s p
        (if b then taken s m a ∷ alone s after more else alone s after more)
        (if b then (stepped s m a).answer ∷ executing_answers s after more else executing_answers s after more)
    go true = ap (λ (es : List RanCompound). es ++ further s p after more) (sym none)
    go false = refl

-- an event that executes nothing on a line leaves what was executed there
same_executed : (lines : Place → Line) (k : Place) (l : Line) (p : Place) → l.executed ≡ (lines k).executed → (with_line lines k l p).executed ≡ (lines p).executed
same_executed lines k l p same = updated (λ (x : Line). x.executed ≡ (lines p).executed) lines k l p
    (λ e. same ∙ ap (λ (q : Place). (lines q).executed) e) (λ other. refl)

foreign_slot : (s : Server) (callers : Callers) (bytes : List ℕ) (p : Place) (answer : Option Answer) → In p callers.places → IsForeign s callers bytes → done_by p (s.heading bytes) answer ≡ []
foreign_slot s callers bytes p answer i foreign = go (s.heading bytes) refl
  where
    go : (o : Option Heading) → s.heading bytes ≡ o → done_by p o answer ≡ []
    go None e = refl
    go (Some h) e = elim (cases_Bool (same_place h.place p)) [
      | inl here ↦ absurd (foreign h e (subst (λ (q : Place). In q callers.places) (sym (same_place_is h.place p here)) i))
      | inr other ↦ rw other refl
    ]

-- a packet that arrives
arrived : (s : Server) (callers : Callers) (net : Network s) (q : Packet) (now : ℕ) (choice : Option ℕ) (more : List Arrival) (p : Place) → s.heading q.bytes ≡ Some q.heading
    → (let a : Arrival = record { bytes = q.bytes; now = now; choice = choice } in
    ((after callers net (Arrives q now choice)).lines p).executed ++ further s p (stepped s net.machine a).state more ≡ (net.lines p).executed ++ further s p net.machine (a ∷ more))
unfolding done_with
arrived s callers net q now choice more p reads = go (s.executes net.machine q.bytes now)
  where
    step : Stepped s.State
    step = s.step net.machine q.bytes now choice

    rest : List RanCompound
    rest = further s p step.state more

    done : RanCompound
    done = record { compound = q.heading.compound; result = result_of step.answer }

    new : Line
    new = executing (net.lines q.heading.place) q.heading.compound step.answer

    here : (b : Bool) → same_place q.heading.place p ≡ b → (if b then new else net.lines p).executed ++ rest ≡ (net.lines p).executed ++ ((if b then done ∷ [] else []) ++ rest)
    here true e = append_one (net.lines q.heading.place).executed done rest ∙ ap (λ (k : Place). (net.lines k).executed ++ done ∷ rest) (same_place_is q.heading.place p e)
    here false e = refl

    go : (b : Bool) → (let a : Arrival = record { bytes = q.bytes; now = now; choice = choice } in
        ((arriving callers net q.heading b step).lines p).executed ++ rest
        ≡ (net.lines p).executed ++ done_with s p
        (if b then taken s net.machine a ∷ alone s step.state more else alone s step.state more)
        (if b then step.answer ∷ executing_answers s step.state more else executing_answers s step.state more))
    go true = here (same_place q.heading.place p) refl ∙ ap (λ (o : Option Heading). (net.lines p).executed ++ (done_by p o step.answer ++ rest)) (sym reads)
    go false = refl

executed_is : (s : Server) (laws : KeepsSlots s) (callers : Callers) (outset : s.State) (net : Network s) (events : List NetworkEvent) → IsNetwork s laws callers outset net → Happens callers outset net events
    → (p : Place) → In p callers.places → ((ended callers net events).lines p).executed ≡ (net.lines p).executed ++ further s p net.machine (all_reaching events)
unfolding done_with
executed_is s laws callers outset net [] is can p i = sym (append_none (net.lines p).executed)
executed_is s laws callers outset net (Sends q ∷ more) is can p i =
    executed_is s laws callers outset (after callers net (Sends q)) more (event_keeps s laws callers outset net (Sends q) is can.0) can.1 p i
    ∙ ap (λ (ds : List RanCompound). ds ++ further s p net.machine (all_reaching more)) (same_executed net.lines q.heading.place (sending (net.lines q.heading.place) q.heading) p refl)
executed_is s laws callers outset net (Resends q ∷ more) is can p i =
    executed_is s laws callers outset (after callers net (Resends q)) more (event_keeps s laws callers outset net (Resends q) is can.0) can.1 p i
    ∙ ap (λ (ds : List RanCompound). ds ++ further s p net.machine (all_reaching more)) (same_executed net.lines q.heading.place (resending (net.lines q.heading.place) q.heading) p refl)
executed_is s laws callers outset net (Arrives q now choice ∷ more) is can p i =
    executed_is s laws callers outset (after callers net (Arrives q now choice)) more (event_keeps s laws callers outset net (Arrives q now choice) is can.0) can.1 p i
    ∙ arrived s callers net q now choice (all_reaching more) p (is.packets q can.0).reads
executed_is s laws callers outset net (Asks caller a ∷ more) is can p i =
    executed_is s laws callers outset (after callers net (Asks caller a)) more (event_keeps s laws callers outset net (Asks caller a) is can.0) can.1 p i
    ∙ skipped s p (net.lines p).executed net.machine a (all_reaching more) (ap (λ (o : Option Heading). done_by p o (stepped s net.machine a).answer) can.0.1)
executed_is s laws callers outset net (Intrudes a ∷ more) is can p i =
    executed_is s laws callers outset (after callers net (Intrudes a)) more (event_keeps s laws callers outset net (Intrudes a) is can.0) can.1 p i
    ∙ skipped s p (net.lines p).executed net.machine a (all_reaching more) (foreign_slot s callers a.bytes p (stepped s net.machine a).answer i can.0)
executed_is s laws callers outset net (Accepts k c a ∷ more) is can p i =
    executed_is s laws callers outset (after callers net (Accepts k c a)) more (event_keeps s laws callers outset net (Accepts k c a) is can.0) can.1 p i
    ∙ ap (λ (ds : List RanCompound). ds ++ further s p net.machine (all_reaching more))
    (same_executed net.lines k (accepting (net.lines k) (record { compound = c; result = a.result })) p refl)

pub as_over_a_wire : (s : Server) → KeepsSlots s → KeepsTime s → AsOverAWire s
as_over_a_wire s slots time before callers events can = record {
  state = reached ∙ (lone.state ∙ ap (λ (x : s.State). s.tick (ran s m (wire s m events)) (s.moment x)) (sym reached));
  executes = executing_again s time m (all_reaching events);
  lines = λ p i. record { executed = executed p i; exact = exactly_once_by_number s slots before callers events can p i };
}
  where
    m : s.State
    m = ran s s.new before

    reached : (ended callers (begins s m) events).machine ≡ ran s m (all_reaching events)
    reached = machine_is s callers (begins s m) events

    lone : LeavesAlike s m (all_reaching events)
    lone = executing_alone s time before (all_reaching events)

    executed : (p : Place) → In p callers.places → ((ended callers (begins s m) events).lines p).executed ≡ done_on s p m (wire s m events)
    executed p i =
        executed_is s slots callers m (begins s m) events (begins_is s slots callers before) can p i
        ∙ (ap (done_with s p (wire s m events)) lone.answered ∙ sym (done_is s p m (wire s m events)))
