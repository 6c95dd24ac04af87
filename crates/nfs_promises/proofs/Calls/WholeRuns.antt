-- A run of many connections is the run of its script, and nothing is lost on a connection that is served at its end.
use Rattle.std.proofs.Common.{◌≡◌, ◌≢◌, ◌⊎◌, ℕ, ◌<◌, List, [], ◌∷◌, ◌++◌, flat_map, true, false, All, refl, sym, ap, subst, ◌∙◌, append_assoc}
use Rattle.std.proofs.{Common.{append-nil, arith, nat_eq, eqb, if◌then◌else◌, inl, inr}, lemmas.Bool.{eq-eqb, ne_eqb}, lemmas.Bool.Decides.eqb_tells}
use Rattle.std.proofs.{lemmas.List.Elements.{All-nil, All-cons, All-append}, lemmas.List.Concat.flat_map-append}
use Rattle.nfs_rpc.specs.{RecordMarking.start, Stream.{Open, IsReading}}
use Rattle.nfs_rpc.proofs.Readings.{part_unfinished}
use Rattle.nfs_serve.specs.{declared.form.Form.TheVariants.Plain, Script.Entry, Step.ServerState}
use Rattle.nfs_serve.specs.Run.{Streams, with_stream, all_closed, TakesAll, StreamEvent, Move, events, after, after_event, output_of}
use Rattle.nfs_serve.specs.{Desk.{most_ports, opened, Act, Goes}, Hub.{Desks, none_live, Round, Opens, Turns, OthersStay, Turning}}
use Rattle.nfs_promises.specs.Calls.{Streams.call_on, NothingIsLost.{came, taken, part_of}, WholeRuns.{close, IsEntry, entries_of, script, RunsScript, HubRunsScript}}
use Rattle.nfs_promises.specs.Calls.WholeRuns.{acts_on, port_of, output_on, LosesNothing, NothingIsLostInARun, TurningInto, NothingIsLostInATurn}
use Rattle.nfs_serve.proofs.{Terms.NoneCloses, Moves.{after-append, events-append}, Pieces.{start_holds, no_bytes}}
use Rattle.nfs_promises.proofs.Calls.{ConnectionsAreStreams.stretch, PortScripts.{others_open, stream_script}, TurnActs.{not_served, output_own, output_other}}
use Rattle.nfs_promises.proofs.Calls.TurnActs.{stream_same, stream_other, Holds, flows_on, Flow, Ran, ran}

-- entries one after the other
TakesAll-append : (old : Streams) (es fs : List Entry) (first later : List StreamEvent) (between new : Streams)
    → TakesAll old es first between → TakesAll between fs later new → TakesAll old (es ++ fs) (first ++ later) new
TakesAll-append old [] fs first later between new h k = rw h.0 (subst (λ x. TakesAll x fs later new) h.1 k)
TakesAll-append old (e ∷ es) fs first later between new h k =
    let (here, more, middle, is, takes, rest) = h in
    (here, more ++ later, middle, ap (λ l. l ++ later) is ∙ append_assoc here more later, takes, TakesAll-append middle es fs more later between new rest k)

output_on-append : (port : ℕ) (s : ServerState) (xs ys : List Move) → output_on port s (xs ++ ys) ≡ output_on port s xs ++ output_on port (after s xs) ys
output_on-append port s [] ys = refl
output_on-append port s (m ∷ xs) ys =
    let here = if nat_eq (port_of m.event) port then output_of Plain s m.event m.choice else [] in
    let u = after_event s m.event m.choice in
    ap (λ l. here ++ l) (output_on-append port u xs ys) ∙ sym (append_assoc here (output_on port u xs) (output_on port (after u xs) ys))

-- a connection that was served all along
record Carried (s : ServerState) (old : Desks) (rounds : List Round) (moves : List Move) (new : Desks) (port : ℕ) : Type 0 where
  none : All (λ r. r ≢ Opens port) rounds
  open_on : NoneCloses port (script rounds)
  flow : Flow (old port) (acts_on port rounds) (output_on port s moves) (new port)

-- and one that has begun since
record Begun (s : ServerState) (from : Streams) (rounds : List Round) (moves : List Move) (to : Streams) (new : Desks) (port : ℕ) : Type 0 where
  before : List Round
  since : List Round
  split : rounds ≡ before ++ Opens port ∷ since
  last : All (λ r. r ≢ Opens port) since
  earlier : List Move
  later : List Move
  between : Streams
  order : moves ≡ earlier ++ later
  reads_before : TakesAll from (script (before ++ Opens port ∷ [])) (events earlier) between
  reads_since : TakesAll between (script since) (events later) to
  stream : IsReading (flat_map part_of (acts_on port since)) (flat_map (call_on port) (events later)) (to port)
  in_order : flat_map came (acts_on port since) ≡ flat_map part_of (acts_on port since) ++ (new port).unread
  out_order : output_on port (after s earlier) later ≡ flat_map taken (acts_on port since) ++ (new port).owed

record Whole (s : ServerState) (old : Desks) (from : Streams) (rounds : List Round) (t : ServerState) (new : Desks) : Type 0 where
  moves : List Move
  to : Streams
  fits : All IsEntry (script rounds)
  reads : TakesAll from (script rounds) (events moves) to
  state : t ≡ after s moves
  holds : (port : ℕ) → Holds (to port) (new port)
  served : (port : ℕ) → (new port).live ≡ true → Carried s old rounds moves new port ⊎ Begun s from rounds moves to new port

-- one port alone has changed
changed : {D E : Type 0} (P : D → E → Type 0) (was now : ℕ → D) (before behind : ℕ → E) (port : ℕ) → ((c : ℕ) → c ≢ port → now c ≡ was c)
    → ((c : ℕ) → c ≢ port → behind c ≡ before c) → P (now port) (behind port) → ((c : ℕ) → P (was c) (before c)) → (c : ℕ) → P (now c) (behind c)
changed P was now before behind port same too here all c = cases (eqb_tells c port)
  where
    cases : ((eqb c port ≡ true) × (c ≡ port)) ⊎ ((eqb c port ≡ false) × (c ≢ port)) → P (now c) (behind c)
    cases (inl h) = rw h.1 here
    cases (inr h) = rw (same c h.1) (rw (too c h.1) (all c))

turn_opens : {p q : ℕ} {acts : List Act} → Turns p acts ≡ Opens q → ⊥
turn_opens e = cc

-- a first round in which a connection begins
module _ (s t : ServerState) (old between new : Desks) (from : Streams) (rounds : List Round) (p : ℕ) (is : between p ≡ opened)
    (others : (c : ℕ) → c ≢ p → between c ≡ old c) (w : Whole s between (with_stream from p (Open [])) rounds t new) where
  began_here : Carried s between rounds w.moves new p → Begun s from (Opens p ∷ rounds) w.moves w.to new p
  began_here c = record {
    before = [];
    since = rounds;
    split = refl;
    last = c.none;
    earlier = [];
    later = w.moves;
    between = with_stream from p (Open []);
    order = refl;
    reads_before = ([], [], with_stream from p (Open []), refl, (refl, refl), (refl, refl));
    reads_since = w.reads;
    stream = rw (← stream_script p rounds) (stretch p (script rounds) (with_stream from p (Open [])) (events w.moves) w.to [] c.open_on
        (stream_same from p (Open [])) (part_unfinished [] start start_holds) w.reads).0;
    in_order = rw is at c.flow.in_order;
    out_order = rw is at c.flow.out_order;
  }

  carried_over : (port : ℕ) → port ≢ p → Carried s between rounds w.moves new port → Carried s old (Opens p ∷ rounds) w.moves new port
  carried_over port other c = record {
    none = All-cons (λ r. r ≢ Opens port) (Opens p) rounds (λ same. other (sym (opens_one same))) c.none;
    open_on = All-cons (λ q. q.conn ≡ port → q.piece ≢ []) (close p) (script rounds) (λ own. absurd (other (sym own))) c.open_on;
    flow = rw (others port other) at c.flow;
  }
    where
      opened_port : Round → ℕ
      opened_port (Opens port) = port
      opened_port (Turns port acts) = port

      opens_one : {a b : ℕ} → Opens a ≡ Opens b → a ≡ b
      opens_one e = ap opened_port e

  begun_behind : (port : ℕ) → Begun s (with_stream from p (Open [])) rounds w.moves w.to new port → Begun s from (Opens p ∷ rounds) w.moves w.to new port
  begun_behind port b = record {
    before = Opens p ∷ b.before;
    since = b.since;
    split = ap (λ l. Opens p ∷ l) b.split;
    last = b.last;
    earlier = b.earlier;
    later = b.later;
    between = b.between;
    order = b.order;
    reads_before = ([], events b.earlier, with_stream from p (Open []), refl, (refl, refl), b.reads_before);
    reads_since = b.reads_since;
    stream = b.stream;
    in_order = b.in_order;
    out_order = b.out_order;
  }

  behind_opens : p < most_ports → Whole s old from (Opens p ∷ rounds) t new
  behind_opens le = record {
    moves = w.moves;
    to = w.to;
    fits = All-cons IsEntry (close p) (script rounds) (omega arith, le, omega arith) w.fits;
    reads = ([], events w.moves, with_stream from p (Open []), refl, (refl, refl), w.reads);
    state = w.state;
    holds = w.holds;
    served = λ port on. cases port (w.served port on) (eqb_tells port p);
  }
    where
      cases : (port : ℕ) → Carried s between rounds w.moves new port ⊎ Begun s (with_stream from p (Open [])) rounds w.moves w.to new port
          → ((eqb port p ≡ true) × (port ≡ p)) ⊎ ((eqb port p ≡ false) × (port ≢ p))
          → Carried s old (Opens p ∷ rounds) w.moves new port ⊎ Begun s from (Opens p ∷ rounds) w.moves w.to new port
      cases port (inl c) (inl h) =
          inr (subst (λ q. Begun s from (Opens p ∷ rounds) w.moves w.to new q) (sym h.1) (began_here (subst (λ q. Carried s between rounds w.moves new q) h.1 c)))
      cases port (inl c) (inr h) = inl (carried_over port h.1 c)
      cases port (inr b) h = inr (begun_behind port b)

-- a first round that is a turn
module _ (s u t : ServerState) (old between new : Desks) (from : Streams) (rounds : List Round) (p : ℕ) (acts : List Act)
    (others : (c : ℕ) → c ≢ p → between c ≡ old c) (r : Ran p acts s (old p) from u (between p)) (w : Whole u between r.to rounds t new) where
  carried_on : Carried u between rounds w.moves new p → Carried s old (Turns p acts ∷ rounds) (r.moves ++ w.moves) new p
  carried_on c =
      let f = r.flow c.flow.was in
      let on = acts_on p rounds in record {
        none = All-cons (λ q. q ≢ Opens p) (Turns p acts) rounds turn_opens c.none;
        open_on = All-append (λ q. q.conn ≡ p → q.piece ≢ []) (flat_map (entries_of p) acts) (script rounds) (r.open_on c.flow.was) c.open_on;
        flow = rw (eq-eqb p p refl) (rw (output_on-append p s r.moves w.moves) (rw (output_own p s r.moves r.own) (rw (← r.state) record {
          was = f.was;
          in_order = rw (flat_map-append came acts on, flat_map-append part_of acts on)
              (flows_on (old p).unread (between p).unread (new p).unread _ _ _ _ f.in_order c.flow.in_order);
          out_order = rw (flat_map-append taken acts on)
              (flows_on (old p).owed (between p).owed (new p).owed _ _ _ _ f.out_order c.flow.out_order);
        })));
      }

  passed_over : (port : ℕ) → port ≢ p → Carried u between rounds w.moves new port → Carried s old (Turns p acts ∷ rounds) (r.moves ++ w.moves) new port
  passed_over port other c = record {
    none = All-cons (λ q. q ≢ Opens port) (Turns p acts) rounds turn_opens c.none;
    open_on = All-append (λ q. q.conn ≡ port → q.piece ≢ []) (flat_map (entries_of p) acts) (script rounds) (others_open p port acts other) c.open_on;
    flow = rw (ne_eqb p port (λ e. other (sym e))) (rw (output_on-append port s r.moves w.moves) (rw (output_other p port s r.moves r.own other) (rw (← r.state)
        (rw (others port other) at c.flow))));
  }

  begun_later : (port : ℕ) → Begun u r.to rounds w.moves w.to new port → Begun s from (Turns p acts ∷ rounds) (r.moves ++ w.moves) w.to new port
  begun_later port b = record {
    before = Turns p acts ∷ b.before;
    since = b.since;
    split = ap (λ l. Turns p acts ∷ l) b.split;
    last = b.last;
    earlier = r.moves ++ b.earlier;
    later = b.later;
    between = b.between;
    order = ap (λ l. r.moves ++ l) b.order ∙ sym (append_assoc r.moves b.earlier b.later);
    reads_before = rw (events-append r.moves b.earlier)
        (TakesAll-append from (flat_map (entries_of p) acts) (script (b.before ++ Opens port ∷ [])) (events r.moves) (events b.earlier) r.to b.between r.reads b.reads_before);
    reads_since = b.reads_since;
    stream = b.stream;
    in_order = b.in_order;
    out_order = rw (after-append s r.moves b.earlier) (rw (← r.state) b.out_order);
  }

  behind_turn : Whole s old from (Turns p acts ∷ rounds) t new
  behind_turn = record {
    moves = r.moves ++ w.moves;
    to = w.to;
    fits = All-append IsEntry (flat_map (entries_of p) acts) (script rounds) r.fits w.fits;
    reads = rw (events-append r.moves w.moves)
        (TakesAll-append from (flat_map (entries_of p) acts) (script rounds) (events r.moves) (events w.moves) r.to w.to r.reads w.reads);
    state = w.state ∙ ap (λ x. after x w.moves) r.state ∙ sym (after-append s r.moves w.moves);
    holds = w.holds;
    served = λ port on. cases port (w.served port on) (eqb_tells port p);
  }
    where
      cases : (port : ℕ) → Carried u between rounds w.moves new port ⊎ Begun u r.to rounds w.moves w.to new port
          → ((eqb port p ≡ true) × (port ≡ p)) ⊎ ((eqb port p ≡ false) × (port ≢ p))
          → Carried s old (Turns p acts ∷ rounds) (r.moves ++ w.moves) new port ⊎ Begun s from (Turns p acts ∷ rounds) (r.moves ++ w.moves) w.to new port
      cases port (inl c) (inl h) = inl (subst (λ q. Carried s old (Turns p acts ∷ rounds) (r.moves ++ w.moves) new q) (sym h.1)
          (carried_on (subst (λ q. Carried u between rounds w.moves new q) h.1 c)))
      cases port (inl c) (inr h) = inl (passed_over port h.1 c)
      cases port (inr b) h = inr (begun_later port b)

-- the rounds, whether or not their turns have ended
Going : ServerState → Desks → List Round → ServerState → Desks → Type 0
Going s old [] t new = (t ≡ s) × ((c : ℕ) → new c ≡ old c)
Going s old (Opens port ∷ rounds) t new = (between : Desks) × (port < most_ports) × (between port ≡ opened) × OthersStay old between port
    × Going s between rounds t new
Going s old (Turns port acts ∷ rounds) t new = (u : ServerState) × (between : Desks) × (port < most_ports) × Goes port s (old port) acts u (between port)
    × OthersStay old between port × Going u between rounds t new

turning_goes : (s t : ServerState) (old new : Desks) (rounds : List Round) → Turning s old rounds t new → Going s old rounds t new
unfolding Going
turning_goes s t old new [] h = h
turning_goes s t old new (Opens port ∷ rounds) h =
    let (between, le, is, others, later) = h in
    (between, le, is, others, turning_goes s t between new rounds later)
turning_goes s t old new (Turns port acts ∷ rounds) h =
    let (u, between, le, goes, ends, others, later) = h in
    (u, between, le, goes, others, turning_goes u t between new rounds later)

into_goes : (s t : ServerState) (old new : Desks) (rounds : List Round) (p : ℕ) (acts : List Act)
    → TurningInto s old rounds p acts t new → Going s old (rounds ++ Turns p acts ∷ []) t new
unfolding Going
into_goes s t old new [] p acts h =
    let (u, between, turning, le, goes, others) = h in
    (t, new, le, rw (← turning.0, ← turning.1 p) goes, λ c other. others c other ∙ turning.1 c, (refl, λ c. refl))
into_goes s t old new (Opens port ∷ rounds) p acts h =
    let (u, between, turning, within, goes, others) = h in
    let (first, le, is, rest, later) = turning in
    (first, le, is, rest, into_goes s t first new rounds p acts (u, between, later, within, goes, others))
into_goes s t old new (Turns port done ∷ rounds) p acts h =
    let (u, between, turning, within, goes, others) = h in
    let (v, first, le, went, ends, rest, later) = turning in
    (v, first, le, went, rest, into_goes v t first new rounds p acts (u, between, later, within, goes, others))

whole : (s t : ServerState) (old new : Desks) (from : Streams) (rounds : List Round) → ((port : ℕ) → Holds (from port) (old port))
    → Going s old rounds t new → Whole s old from rounds t new
unfolding Going
whole s t old new from [] holds h = record {
  moves = [];
  to = from;
  fits = All-nil IsEntry;
  reads = (refl, refl);
  state = h.0;
  holds = λ port. rw (h.1 port) (holds port);
  served = λ port on. inl (record {
    none = All-nil (λ r. r ≢ Opens port);
    open_on = All-nil (λ q. q.conn ≡ port → q.piece ≢ []);
    flow = record {
      was = sym (ap (λ d. d.live) (h.1 port)) ∙ on;
      in_order = append-nil (old port).unread ∙ sym (ap (λ d. d.unread) (h.1 port));
      out_order = append-nil (old port).owed ∙ sym (ap (λ d. d.owed) (h.1 port));
    };
  });
}
whole s t old new from (Opens p ∷ rounds) holds h =
    let (between, le, is, others, later) = h in
    let to = with_stream from p (Open []) in
    let here : Holds (to p) (between p) =
    rw (is, stream_same from p (Open [])) record { stands = λ on. (no_bytes, start_holds) } in
    let all = changed Holds from to old between p (stream_other from p (Open [])) others here holds in
    behind_opens s t old between new from rounds p is others (whole s t between new to rounds all later) le
whole s t old new from (Turns p acts ∷ rounds) holds h =
    let (u, between, le, goes, others, later) = h in
    let r = ran p s u (old p) (between p) acts from le (holds p) goes in
    let all = changed Holds from r.to old between p r.others others r.holds holds in
    behind_turn s u t old between new from rounds p acts others r (whole u t between new r.to rounds all later)

from_start : (old new : ServerState) (rounds : List Round) (desks : Desks) → Going old none_live rounds new desks → Whole old none_live all_closed rounds new desks
from_start old new rounds desks h = whole old new none_live desks all_closed rounds (λ port. record { stands = not_served }) h

module _ {old new : ServerState} {rounds : List Round} {desks : Desks} (w : Whole old none_live all_closed rounds new desks) where
  abbrev run_of : RunsScript old rounds new desks
  run_of = record { moves = w.moves; streams = w.to; fits = w.fits; reads = w.reads; state = w.state; stands = λ port. (w.holds port).stands }

  on_port : (port : ℕ) → (desks port).live ≡ true → LosesNothing old rounds new desks run_of port
  on_port port on = cases (w.served port on)
    where
      cases : Carried old none_live rounds w.moves desks port ⊎ Begun old all_closed rounds w.moves w.to desks port
          → LosesNothing old rounds new desks run_of port
      cases (inl c) = not_served c.flow.was
      cases (inr b) = record {
        before = b.before;
        since = b.since;
        split = b.split;
        last = b.last;
        earlier = b.earlier;
        later = b.later;
        between = b.between;
        order = b.order;
        reads_before = b.reads_before;
        reads_since = b.reads_since;
        stream = b.stream;
        in_order = b.in_order;
        out_order = b.out_order;
      }

pub runs_script : HubRunsScript
runs_script old new rounds desks h = run_of (from_start old new rounds desks (turning_goes old new none_live desks rounds h))

pub in_a_run : NothingIsLostInARun
in_a_run old new rounds desks h =
    let w = from_start old new rounds desks (turning_goes old new none_live desks rounds h) in
    (run_of w, on_port w)

pub in_a_turn : NothingIsLostInATurn
in_a_turn old new rounds port acts desks h =
    let w = from_start old new (rounds ++ Turns port acts ∷ []) desks (into_goes old new none_live desks rounds port acts h) in
    (run_of w, on_port w)
