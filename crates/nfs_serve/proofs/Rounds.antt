-- One more sweep, and what stands on the ports when one of them changes.
use Rattle.std.proofs.Common.{◌≡◌, ◌≢◌, ℕ, ◌<◌, List, [], ◌∷◌, ◌++◌, length, map, set, get_or, flat_map, Option, refl, sym, ap, subst, ◌∙◌, take, append-nil, length-append, arith, ◌+◌, ◌⊎◌, true, false, eqb, inl, inr}
use Rattle.std.proofs.{lemmas.Bool.Decides.eqb_tells, lemmas.List.{map-set, get_or-set_same, get_or-set_other, get_or-map, length-map}}
use Rattle.std.proofs.{Math.Seq.take-append_seam, lemmas.List.Concat.flat_map-append}
use Rattle.nfs_serve.specs.{Step.ServerState, Desk.{Desk, closed, HasMore}, Told.{Told, Logs}, Deeds.Deed, Lane.{desk_of, desks_of}, declared.lane.Lane.Lane}
use Rattle.nfs_serve.specs.Hub.{Desks, at, none_live, Round, Opens, Turns, OthersStay, Turning, shown_of, asked_of, Sweeps, Sweeping, ServesRounds}
use Rattle.nfs_serve.proofs.Advancing.{Logs-nil, Logs-trans}

pub at_same : (lanes : List Lane) (port : ℕ) (lane : Lane) → port < length lanes → at (desks_of (set lanes port lane)) port ≡ desk_of lane
at_same lanes port lane within = ap (λ l. get_or l port closed) (map-set desk_of lanes port lane)
    ∙ get_or-set_same (map desk_of lanes) port (desk_of lane) closed (rw length-map within)

pub at_other : (lanes : List Lane) (port : ℕ) (lane : Lane) → OthersStay (at (desks_of lanes)) (at (desks_of (set lanes port lane))) port
at_other lanes port lane c other = ap (λ l. get_or l c closed) (map-set desk_of lanes port lane)
    ∙ get_or-set_other (map desk_of lanes) port c (desk_of lane) closed other

pub at_lane : (lanes : List Lane) (port : ℕ) (d : Lane) → port < length lanes → at (desks_of lanes) port ≡ desk_of (get_or lanes port d)
at_lane lanes port d within = get_or-map desk_of lanes port d closed within

-- rounds from ports that stand alike
turning_from : (s t : ServerState) (old mid new : Desks) (rounds : List Round) → ((c : ℕ) → mid c ≡ old c) → Turning s mid rounds t new → Turning s old rounds t new
turning_from s t old mid new [] same h = (h.0, λ c. h.1 c ∙ same c)
turning_from s t old mid new (Opens port ∷ rounds) same h =
    let (between, le, is, others, later) = h in
    (between, le, is, λ c other. others c other ∙ same c, later)
turning_from s t old mid new (Turns port acts ∷ rounds) same h =
    let (v, between, le, goes, ends, others, later) = h in
    (v, between, le, rw (sym (same port)) goes, ends, λ c other. others c other ∙ same c, later)

-- rounds, and then rounds
pub turning_on : (s u t : ServerState) (old mid new : Desks) (first later : List Round) → Turning s old first u mid → Turning u mid later t new
    → Turning s old (first ++ later) t new
turning_on s u t old mid new [] later p q = turning_from s t old mid new later p.1 (subst (λ x. Turning x mid later t new) p.0 q)
turning_on s u t old mid new (Opens port ∷ first) later p q =
    let (between, le, is, others, more) = p in
    (between, le, is, others, turning_on s u t between mid new first later more q)
turning_on s u t old mid new (Turns port acts ∷ first) later p q =
    let (v, between, le, goes, ends, others, more) = p in
    (v, between, le, goes, ends, others, turning_on v u t between mid new first later more q)

-- sweeps, and then one
sweeping_on : (most : ℕ) (s u t : ServerState) (old mid new : Desks) (sweeps : List (List Round)) (sweep : List Round) → Sweeping most s old sweeps u mid
    → Sweeps most u mid sweep t new → Sweeping most s old (sweeps ++ sweep ∷ []) t new
sweeping_on most s u t old mid new [] sweep p q = (
  t,
  new,
  record {
    made = q.made;
    few = q.few;
    turning = turning_from s t old mid new sweep p.1 (subst (λ x. Turning x mid sweep t new) p.0 q.turning);
    in_order = q.in_order;
    each = q.each;
    none_passed = λ port more. q.none_passed port (subst HasMore (sym (p.1 port)) more);
    none_else = q.none_else;
  },
  (refl, λ c. refl),
)
sweeping_on most s u t old mid new (first ∷ sweeps) sweep p q =
    let (v, between, one, more) = p in
    (v, between, one, sweeping_on most v u t between mid new sweeps sweep more q)

-- what is left stands alike
turning_to : (s t : ServerState) (old new like : Desks) (rounds : List Round) → ((c : ℕ) → like c ≡ new c) → Turning s old rounds t new → Turning s old rounds t like
turning_to s t old new like [] same h = (h.0, λ c. same c ∙ h.1 c)
turning_to s t old new like (Opens port ∷ rounds) same h =
    let (between, le, is, others, later) = h in
    (between, le, is, others, turning_to s t between new like rounds same later)
turning_to s t old new like (Turns port acts ∷ rounds) same h =
    let (v, between, le, goes, ends, others, later) = h in
    (v, between, le, goes, ends, others, turning_to v t between new like rounds same later)

sweeping_to : (most : ℕ) (s t : ServerState) (old new like : Desks) (sweeps : List (List Round)) → ((c : ℕ) → like c ≡ new c) → Sweeping most s old sweeps t new
    → Sweeping most s old sweeps t like
sweeping_to most s t old new like [] same h = (h.0, λ c. same c ∙ h.1 c)
sweeping_to most s t old new like (sweep ∷ sweeps) same h =
    let (u, between, one, later) = h in
    (u, between, one, sweeping_to most u t between new like sweeps same later)

pub start : (most : ℕ) (s : ServerState) (lanes : List Lane) (l : Option (List Deed)) (c : Option (List Told)) → ((port : ℕ) → at (desks_of lanes) port ≡ closed)
    → ServesRounds most s s (desks_of lanes) 0 l l c c
start most s lanes l c all = record {
  sweeps = [];
  rounds = [];
  are = refl;
  counted = refl;
  turning = (refl, all);
  sweeping = (refl, all);
  logs = Logs-nil l;
  clock = Logs-nil c;
}

-- ports that stand alike, as where one more is made
pub grown : (most : ℕ) (s t : ServerState) (old new : List Desk) (n : ℕ) (l0 l1 : Option (List Deed)) (c0 c1 : Option (List Told))
    → ServesRounds most s t old n l0 l1 c0 c1 → ((port : ℕ) → at new port ≡ at old port) → ServesRounds most s t new n l0 l1 c0 c1
grown most s t old new n l0 l1 c0 c1 before same = record {
  sweeps = before.sweeps;
  rounds = before.rounds;
  are = before.are;
  counted = before.counted;
  turning = turning_to s t none_live (at old) (at new) before.rounds same before.turning;
  sweeping = sweeping_to most s t none_live (at old) (at new) before.sweeps same before.sweeping;
  logs = before.logs;
  clock = before.clock;
}

-- one sweep more
pub more : (most : ℕ) (s t u : ServerState) (old new : List Desk) (n : ℕ) (l0 l1 l2 : Option (List Deed)) (c0 c1 c2 : Option (List Told)) (sweep : List Round)
    → ServesRounds most s t old n l0 l1 c0 c1 → Sweeps most t (at old) sweep u (at new) → Logs l1 l2 (shown_of sweep) → Logs c1 c2 (asked_of sweep)
    → ServesRounds most s u new (n + 1) l0 l2 c0 c2
more most s t u old new n l0 l1 l2 c0 c1 c2 sweep before round logs clock = record {
  sweeps = before.sweeps ++ sweep ∷ [];
  rounds = before.rounds ++ sweep;
  are = ap (λ l. l ++ sweep) before.are ∙ sym (ap (λ l. flat_map (λ (w : List Round). w) before.sweeps ++ l) (append-nil sweep))
      ∙ sym (flat_map-append (λ (w : List Round). w) before.sweeps (sweep ∷ []));
  counted = length-append before.sweeps (sweep ∷ []) ∙ ap (λ k. k + 1) before.counted;
  turning = turning_on s t u none_live (at old) (at new) before.rounds sweep before.turning round.turning;
  sweeping = sweeping_on most s t u none_live (at old) (at new) before.sweeps sweep before.sweeping round;
  logs = subst (Logs l0 l2) (sym (flat_map-append shown_of before.sweeps (sweep ∷ []) ∙ ap (λ l. flat_map shown_of before.sweeps ++ l) (append-nil (shown_of sweep))))
      (Logs-trans l0 l1 l2 _ _ before.logs logs);
  clock = subst (Logs c0 c2) (sym (flat_map-append asked_of before.sweeps (sweep ∷ []) ∙ ap (λ l. flat_map asked_of before.sweeps ++ l) (append-nil (asked_of sweep))))
      (Logs-trans c0 c1 c2 _ _ before.clock clock);
}

-- what a slice of a whole vector gives back
pub given_back : {A : Type 0} (n : ℕ) (xs ys : List A) → length xs ≡ n → take n (xs ++ ys) ≡ xs
given_back n xs ys one = ap (λ k. take k (xs ++ ys)) (sym one) ∙ take-append_seam xs ys

-- one more port is closed
pub reset_more : (lanes : List Lane) (port : ℕ) (lane : Lane) → ((p : ℕ) → p < port → at (desks_of lanes) p ≡ closed) → port < length lanes
    → desk_of lane ≡ closed → (p : ℕ) → p < port + 1 → at (desks_of (set lanes port lane)) p ≡ closed
reset_more lanes port lane before within is p less = cases (eqb_tells p port)
  where
    cases : ((eqb p port ≡ true) × (p ≡ port)) ⊎ ((eqb p port ≡ false) × (p ≢ port)) → at (desks_of (set lanes port lane)) p ≡ closed
    cases (inl h) = rw h.1 (at_same lanes port lane within ∙ is)
    cases (inr h) = at_other lanes port lane p h.1 ∙ before p (omega (arith, less, h.1))
