-- A sweep, port after port; who begins before it; and how few others have their turn between two turns of a port.
use Rattle.std.proofs.Common.{◌≡◌, ◌≢◌, ℕ, suc, ◌+◌, ◌<◌, ◌≤◌, ◌⊎◌, List, [], ◌∷◌, ◌++◌, length, set, get_or, flat_map, Option, true, false, refl, sym, ap}
use Rattle.std.proofs.Common.{subst, ◌∙◌, ◌-◌, zero, None, Some, replicate, append-nil, append_assoc, leb, arith, inl, inr, eqb}
use Rattle.std.proofs.{lemmas.Bool.Decides.{eqb_tells, leb_tells}, lemmas.List.Concat.flat_map-append}
use Rattle.nfs_serve.specs.Step.{ServerState}
use Rattle.nfs_serve.specs.{Desk.{most_ports, Desk, closed, opened, Act, Opened, Unready, HasMore, IsPassed, Goes}, Told.{Told, Sweep, Turn, Logs}, Deeds.{Deed, looked}, Shows.passed}
use Rattle.nfs_serve.specs.{Lane.{desk_of, desks_of, Visits}, declared.lane.Lane.Lane}
use Rattle.nfs_serve.specs.Hub.{Desks, at, Round, Opens, Turns, OthersStay, Turning, InOrder, IsServed, HasTurn, Sweeps, shown_in, turns_in, asked_in}
use Rattle.nfs_serve.specs.Sweep.{SweepsBelow, PassesOver, Begins, Swept}
use Rattle.nfs_serve.proofs.{Advancing.{Logs-nil, Logs-trans, stands, passed_over}, TurnEnds.passes_over, Rounds.{at_same, at_other, at_lane, turning_on}}

no : true ≡ false → ⊥
no e = cc

-- a further turn, behind those of lower ports
in_order_last : (from port : ℕ) (acts : List Act) (rounds : List Round) → InOrder from port rounds → InOrder from (suc port) (rounds ++ Turns port acts ∷ [])
in_order_last from port acts [] h = (h, omega arith)
in_order_last from port acts (Opens p ∷ rounds) h = (h.0, in_order_last from port acts rounds h.1)
in_order_last from port acts (Turns p done ∷ rounds) h = (h.0, in_order_last (suc p) port acts rounds h.1)

served_more : (port : ℕ) (rounds more : List Round) → IsServed port rounds → IsServed port (rounds ++ more)
served_more port [] more none = absurd none
served_more port (r ∷ rounds) more (inl own) = inl own
served_more port (r ∷ rounds) more (inr later) = inr (served_more port rounds more later)

served_last : (port : ℕ) (acts : List Act) (rounds : List Round) → (IsPassed acts → ⊥) → IsServed port (rounds ++ Turns port acts ∷ [])
served_last port acts [] not_passed = inl (refl, not_passed)
served_last port acts (r ∷ rounds) not_passed = inr (served_last port acts rounds not_passed)

turn_more : (port : ℕ) (rounds more : List Round) → HasTurn port rounds → HasTurn port (rounds ++ more)
turn_more port [] more none = absurd none
turn_more port (Opens p ∷ rounds) more later = turn_more port rounds more later
turn_more port (Turns p acts ∷ rounds) more (inl own) = inl own
turn_more port (Turns p acts ∷ rounds) more (inr later) = inr (turn_more port rounds more later)

turn_last : (port : ℕ) (acts : List Act) (rounds : List Round) → HasTurn port (rounds ++ Turns port acts ∷ [])
turn_last port acts [] = inl refl
turn_last port acts (Opens p ∷ rounds) = turn_last port acts rounds
turn_last port acts (Turns p done ∷ rounds) = inr (turn_last port acts rounds)

turns_last : (port : ℕ) (acts : List Act) (rounds : List Round) → turns_in (rounds ++ Turns port acts ∷ []) ≡ suc (turns_in rounds)
turns_last port acts [] = refl
turns_last port acts (Opens p ∷ rounds) = turns_last port acts rounds
turns_last port acts (Turns p done ∷ rounds) = ap suc (turns_last port acts rounds)

-- where something waits a port is not passed over
not_passed : (port : ℕ) (acts : List Act) (s t : ServerState) (d e : Desk) → Goes port s d acts t e → HasMore d → IsPassed acts → ⊥
not_passed port acts s t d e goes more passed =
    let (u, c, does, rest) = subst (λ l. Goes port s d l t e) passed goes in
    does.1 more

pub sweep_start : (s : ServerState) (old : Desks) (l : Option (List Deed)) (c : Option (List Told)) → SweepsBelow 0 s old s old l l c c
sweep_start s old l c = record {
  sweep = [];
  turning = (refl, λ p. refl);
  in_order = omega arith;
  count = refl;
  each = λ port less. absurd (omega (arith, less));
  none_passed = λ port less more. absurd (omega (arith, less));
  others = λ port le. refl;
  logs = Logs-nil l;
  clock = Logs-nil c;
}

-- the next port has its turn
turned : (s t u : ServerState) (old mid new : Desks) (port : ℕ) (l0 l1 l2 : Option (List Deed)) (c0 c1 c2 : Option (List Told))
    → SweepsBelow port s old t mid l0 l1 c0 c1 → port < most_ports → OthersStay mid new port
    → Visits port (stands t (mid port) l1 c1) (stands u (new port) l2 c2) → SweepsBelow (suc port) s old u new l0 l2 c0 c2
turned s t u old mid new port l0 l1 l2 c0 c1 c2 before less_most stay (begun, begins, (acts, advances, ends)) = record {
  sweep = before.sweep ++ Turns port acts ∷ [];
  turning = turning_on s t u old mid new before.sweep (Turns port acts ∷ []) before.turning (u, new, less_most, advances.goes, ends, stay, (refl, λ c. refl));
  in_order = in_order_last 0 port acts before.sweep before.in_order;
  count = turns_last port acts before.sweep ∙ ap suc before.count;
  each = λ q less. has q less (eqb_tells q port);
  none_passed = λ q less more. cases q less more (eqb_tells q port);
  others = λ q above. stay q (λ e. absurd (omega (arith, e, above))) ∙ before.others q (omega (arith, above));
  logs = subst (Logs l0 l2) (sym (flat_map-append shown_in before.sweep (Turns port acts ∷ []) ∙ ap (λ l. flat_map shown_in before.sweep ++ l) (append-nil (shown_in (Turns port acts)))))
      (Logs-trans l0 l1 l2 _ _ before.logs advances.logs);
  clock = subst (Logs c0 c2) (sym (flat_map-append asked_in before.sweep (Turns port acts ∷ []) ∙ ap (λ l. flat_map asked_in before.sweep ++ l) (append-nil (asked_in (Turns port acts)))))
      (Logs-trans c0 c1 c2 _ _ before.clock (Logs-trans c1 begun c2 _ _ begins advances.clock));
}
  where
    has : (q : ℕ) → q < suc port → ((eqb q port ≡ true) × (q ≡ port)) ⊎ ((eqb q port ≡ false) × (q ≢ port)) → HasTurn q (before.sweep ++ Turns port acts ∷ [])
    has q less (inl h) = rw h.1 (turn_last port acts before.sweep)
    has q less (inr h) = turn_more q before.sweep (Turns port acts ∷ []) (before.each q (omega (arith, less, h.1)))

    cases : (q : ℕ) → q < suc port → HasMore (old q) → ((eqb q port ≡ true) × (q ≡ port)) ⊎ ((eqb q port ≡ false) × (q ≢ port))
        → IsServed q (before.sweep ++ Turns port acts ∷ [])
    cases q less more (inl h) =
        let is : old q ≡ mid port = ap old h.1 ∙ sym (before.others port (omega arith)) in
        rw h.1 (served_last port acts before.sweep (not_passed port acts t u _ _ advances.goes (subst HasMore is more)))
    cases q less more (inr h) = served_more q before.sweep (Turns port acts ∷ []) (before.none_passed q (omega (arith, less, h.1)) more)

pub visited : (s t u : ServerState) (old : Desks) (lanes : List Lane) (port : ℕ) (d lane : Lane) (l0 l1 l2 : Option (List Deed)) (c0 c1 c2 : Option (List Told))
    → SweepsBelow port s old t (at (desks_of lanes)) l0 l1 c0 c1 → port < most_ports → port < length lanes
    → Visits port (stands t (desk_of (get_or lanes port d)) l1 c1) (stands u (desk_of lane) l2 c2)
    → SweepsBelow (port + 1) s old u (at (desks_of (set lanes port lane))) l0 l2 c0 c2
visited s t u old lanes port d lane l0 l1 l2 c0 c1 c2 before less_most within v =
    let is : suc port ≡ port + 1 = omega arith in
    let mid = at (desks_of lanes) in
    let new = at (desks_of (set lanes port lane)) in
    let from = subst (λ x. Visits port (stands t x l1 c1) (stands u (desk_of lane) l2 c2)) (sym (at_lane lanes port d within)) v in
    let to = subst (λ x. Visits port (stands t (mid port) l1 c1) (stands u x l2 c2)) (sym (at_same lanes port lane within)) from in
    subst (λ n. SweepsBelow n s old u new l0 l2 c0 c2) is (turned s t u old mid new port l0 l1 l2 c0 c1 c2 before less_most (at_other lanes port lane) to)

-- what is known grows by one, and then by more
with_one : {A : Type 0} → Option (List A) → A → Option (List A)
with_one None x = None
with_one (Some xs) x = Some (xs ++ x ∷ [])

one_first : {A : Type 0} (a b : Option (List A)) (x : A) (xs : List A) → Logs a b (x ∷ xs) → Logs a (with_one a x) (x ∷ []) × Logs (with_one a x) b xs
unfolding with_one
one_first None b x xs h = (tt, tt)
one_first (Some ys) None x xs h = absurd h
one_first (Some ys) (Some zs) x xs h = (refl, h ∙ sym (append_assoc ys (x ∷ []) xs))

-- the next ports are passed over
pub passed_on : (n : ℕ) (s t : ServerState) (old mid : Desks) (from : ℕ) (l0 l1 l2 : Option (List Deed)) (c0 c1 c2 : Option (List Told))
    → SweepsBelow from s old t mid l0 l1 c0 c1 → from + n ≤ most_ports → ((port : ℕ) → from ≤ port → port < from + n → HasMore (mid port) → ⊥)
    → Logs l1 l2 (passed from n) → Logs c1 c2 (replicate n Turn) → SweepsBelow (from + n) s old t mid l0 l2 c0 c2
passed_on zero s t old mid from l0 l1 l2 c0 c1 c2 before most none logs clock =
    let is : from ≡ from + 0 = omega arith in
    subst (λ n. SweepsBelow n s old t mid l0 l2 c0 c2) is (record {
      sweep = before.sweep;
      turning = before.turning;
      in_order = before.in_order;
      count = before.count;
      each = before.each;
      none_passed = before.none_passed;
      others = before.others;
      logs = subst (Logs l0 l2) (append-nil (flat_map shown_in before.sweep)) (Logs-trans l0 l1 l2 _ [] before.logs logs);
      clock = subst (Logs c0 c2) (append-nil (flat_map asked_in before.sweep)) (Logs-trans c0 c1 c2 _ [] before.clock clock);
    })
passed_on (suc n) s t old mid from l0 l1 l2 c0 c1 c2 before most none logs clock =
    let deed : Deed = record { port = from; act = Unready } in
    let (told, later) = one_first l1 l2 deed (passed (suc from) n) logs in
    let (begun, rest) = one_first c1 c2 Turn (replicate n Turn) clock in
    let advances = passed_over from t (mid from) l1 (with_one l1 deed) (with_one c1 Turn) (none from (omega arith) (omega arith)) told in
    let one = turned s t t old mid mid from l0 l1 (with_one l1 deed) c0 c1 (with_one c1 Turn) before (omega (arith, most)) (λ c other. refl)
    (with_one c1 Turn, begun, (Unready ∷ [], advances, passes_over)) in
    let is : suc from + n ≡ from + suc n = omega arith in
    subst (λ k. SweepsBelow k s old t mid l0 l2 c0 c2) is
    (passed_on n s t old mid (suc from) l0 (with_one l1 deed) l2 c0 (with_one c1 Turn) c2 one (omega (arith, most))
    (λ port above less. none port (omega (arith, above)) (omega (arith, less))) later rest)

pub passed_to : (s t : ServerState) (old : Desks) (lanes : List Lane) (from to : ℕ) (l0 l1 l2 : Option (List Deed)) (c0 c1 c2 : Option (List Told))
    → SweepsBelow from s old t (at (desks_of lanes)) l0 l1 c0 c1 → length lanes ≤ most_ports → PassesOver from to lanes l1 l2 c1 c2
    → SweepsBelow to s old t (at (desks_of lanes)) l0 l2 c0 c2
passed_to s t old lanes from to l0 l1 l2 c0 c1 c2 before most over =
    let mid = at (desks_of lanes) in
    let is : from + (to - from) ≡ to = omega (arith, over.on) in
    subst (λ k. SweepsBelow k s old t mid l0 l2 c0 c2) is
    (passed_on (to - from) s t old mid from l0 l1 l2 c0 c1 c2 before (omega (arith, most, over.within, over.on))
    (λ port above less. over.none port above (omega (arith, less, over.on))) over.logs over.clock)

-- on no port from one on something waits to be stepped so far, and on the next neither
pub none_more : (lanes : List Lane) (from port : ℕ) (d : Lane) → ((p : ℕ) → from ≤ p → p < port → HasMore (at (desks_of lanes) p) → ⊥) → port < length lanes
    → (HasMore (desk_of (get_or lanes port d)) → ⊥) → (p : ℕ) → from ≤ p → p < port + 1 → HasMore (at (desks_of lanes) p) → ⊥
none_more lanes from port d before within none p above less more = cases (eqb_tells p port)
  where
    cases : ((eqb p port ≡ true) × (p ≡ port)) ⊎ ((eqb p port ≡ false) × (p ≢ port)) → ⊥
    cases (inl h) = none (subst HasMore (ap (at (desks_of lanes)) h.1 ∙ at_lane lanes port d within) more)
    cases (inr h) = before p above (omega (arith, less, h.1)) more

-- Whoever begins, and then a whole sweep.

from_alike : (s t : ServerState) (old mid new : Desks) (rounds : List Round) → ((c : ℕ) → mid c ≡ old c) → Turning s mid rounds t new → Turning s old rounds t new
from_alike s t old mid new rounds same h = turning_on s s t old mid new [] rounds (refl, same) h

-- something waits to be stepped on ports that were made alone
waits_within : (made : ℕ) (old : Desks) (port : ℕ) → ((c : ℕ) → made ≤ c → old c ≡ closed) → HasMore (old port) → port < made
waits_within made old port beyond more = cases (leb_tells made port)
  where
    cases : ((leb made port ≡ true) × (made ≤ port)) ⊎ ((leb made port ≡ false) × (port < made)) → port < made
    cases (inl h) = absurd (no (sym (subst HasMore (beyond port h.1) more).live))
    cases (inr h) = h.1

-- where nothing waits to be stepped, nothing does behind a visit that leaves nothing
pub visited_quiet : (lanes : List Lane) (port : ℕ) (lane : Lane) → ((p : ℕ) → HasMore (at (desks_of lanes) p) → ⊥) → port < length lanes → (HasMore (desk_of lane) → ⊥)
    → (p : ℕ) → HasMore (at (desks_of (set lanes port lane)) p) → ⊥
visited_quiet lanes port lane none within last p more = cases (eqb_tells p port)
  where
    cases : ((eqb p port ≡ true) × (p ≡ port)) ⊎ ((eqb p port ≡ false) × (p ≢ port)) → ⊥
    cases (inl h) = last (subst HasMore (ap (at (desks_of (set lanes port lane))) h.1 ∙ at_same lanes port lane within) more)
    cases (inr h) = none p (subst HasMore (at_other lanes port lane p h.1) more)

pub swept : (made : ℕ) (s u : ServerState) (old mid new : Desks) (l0 l1 l2 : Option (List Deed)) (c0 c1 c2 : Option (List Told))
    → made ≤ most_ports → ((c : ℕ) → made ≤ c → old c ≡ closed)
    → Begins made true old mid l0 l1 → Logs c0 c1 (Sweep ∷ []) → SweepsBelow made s mid u new l1 l2 c1 c2 → Swept made s old u new l0 l2 c0 c2
swept made s u old mid new l0 l1 l2 c0 c1 c2 under beyond (inl nobody) begins w = record {
  sweep = w.sweep;
  sweeps = record {
    made = made;
    few = omega arith;
    turning = from_alike s u old mid new w.sweep nobody.0 w.turning;
    in_order = w.in_order;
    each = w.each;
    none_passed = λ port more. w.none_passed port (waits_within made old port beyond more) (subst HasMore (sym (nobody.0 port)) more);
    none_else = λ port above. w.others port above ∙ nobody.0 port ∙ beyond port above;
  };
  logs = Logs-trans l0 l1 l2 (looked (turns_in w.sweep) ∷ []) (flat_map shown_in w.sweep) (subst (λ n. Logs l0 l1 (looked n ∷ [])) (sym w.count) nobody.1) w.logs;
  clock = Logs-trans c0 c1 c2 (Sweep ∷ []) (flat_map asked_in w.sweep) begins w.clock;
}
swept made s u old mid new l0 l1 l2 c0 c1 c2 under beyond (inr begun) begins w =
    let (port, less, is, others, logs) = begun in
    record {
      sweep = Opens port ∷ w.sweep;
      sweeps = record {
        made = made;
        few = omega arith;
        turning = (mid, omega (arith, less, under), is, others, w.turning);
        in_order = (refl, w.in_order);
        each = w.each;
        none_passed = λ q more. cases port is others q more (eqb_tells q port);
        none_else = λ q above. w.others q above ∙ others q (λ e. absurd (omega (arith, e, above, less))) ∙ beyond q above;
      };
      logs = Logs-trans l0 l1 l2 (looked (turns_in w.sweep) ∷ record { port = port; act = Opened } ∷ []) (flat_map shown_in w.sweep)
          (subst (λ n. Logs l0 l1 (looked n ∷ record { port = port; act = Opened } ∷ [])) (sym w.count) logs) w.logs;
      clock = Logs-trans c0 c1 c2 (Sweep ∷ []) (flat_map asked_in w.sweep) begins w.clock;
    }
  where
    cases : (port : ℕ) → mid port ≡ opened → OthersStay old mid port → (q : ℕ) → HasMore (old q)
        → ((eqb q port ≡ true) × (q ≡ port)) ⊎ ((eqb q port ≡ false) × (q ≢ port)) → IsServed q (Opens port ∷ w.sweep)
    cases port is others q more (inl h) = inl (sym h.1)
    cases port is others q more (inr h) = inr (w.none_passed q (waits_within made old q beyond more) (subst HasMore (sym (others q h.1)) more))

-- a sweep of so many ports is one of more
pub of_more : (made most : ℕ) (s u : ServerState) (old new : Desks) (sweep : List Round) → made ≤ most → Sweeps made s old sweep u new → Sweeps most s old sweep u new
of_more made most s u old new sweep less h = record {
  made = h.made;
  few = omega (arith, h.few, less);
  turning = h.turning;
  in_order = h.in_order;
  each = h.each;
  none_passed = h.none_passed;
  none_else = h.none_else;
}
