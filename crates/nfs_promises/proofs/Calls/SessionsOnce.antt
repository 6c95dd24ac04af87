-- A CREATE_SESSION makes one session and its repeat none, in whole runs.
use Rattle.std.proofs.Common.{◌≡◌, ◌⊎◌, ℕ, ◌+◌, ◌^◌, ◌<◌, false, cond, List, [], ◌∷◌, ◌++◌, length, Option, Some, None, refl, sym, ◌∙◌, ap, subst, append_assoc, append-nil, arith, inl, inr}
use Rattle.std.specs.Option.{option_map_or}
use Rattle.nfs_xdr.specs.Numbers.{next_number}
use Rattle.nfs_names.specs.{declared.start.Start.Start}
use Rattle.nfs_exec.specs.{Step.Machine.{Machine, IsMachine}, Step.Laws.{MachineEvent, Expires, Asks, stepped}, Runs.OneSession.{asks_session, MakesOne}}
use Rattle.nfs_exec.proofs.{Step.Invariant.of_start, Runs.SlotNumbers.IsCounted, Runs.SlotNumbersAlong.counted_step}
use Rattle.nfs_exec.proofs.Runs.SessionNumbers.{After, ToldBy, more, tells_more, tells_carried}
use Rattle.nfs_exec.proofs.Runs.OneSession.{IsMadeBy, first_bytes, event_after, event_carried, event_tells, given_after, given_again, given_next, gives_made, gives_one}
use Rattle.nfs_serve.specs.{Step.{ServerState, new_state}}
use Rattle.nfs_promises.specs.{Network.Endpoint.Arrival, Runs.Points.{state_after, state_after_all, reached, taken, before, asked_by}, Calls.SessionsOnce.asked}
use Rattle.nfs_promises.specs.Calls.SessionsOnce.{GivesIn, WasMade, EachMakesOne, EachWasMade, RepeatsMakeNone, NextMakesOne}
use Rattle.nfs_promises.proofs.{Runs.{LaterRecords.reached_more, Terms.asks_by, Points.{left, for_asked, next_is}}, Locks.NoneOutlives.{machine_before, machine_all}}

-- The client's number, from one record to the next.

before_after : (n number most : ℕ) (body : List ℕ) (s : ServerState) (c : Arrival) → After n number body most s.machine.clients → After n number body most (before s c).clients
before_after n number most body s c a =
    more n number most (most + 0) body (before s c).clients (omega arith) (event_after n number most body s.machine (Expires (taken s c)) a)

next_after : (n number most : ℕ) (body : List ℕ) (s : ServerState) (c : Arrival) → After n number body most s.machine.clients
    → After n number body (most + cond (asks_by n s c) 1 0) (state_after s c).machine.clients
next_after n number most body s c a =
    let m = before s c in
    let here = before_after n number most body s c a in
    subst (λ (t : ServerState). After n number body (most + cond (asks_by n s c) 1 0) t.machine.clients) (sym (next_is s c))
    (for_asked (λ o. After n number body (most + cond (option_map_or (asks_session n) o false) 1 0) (left m o).clients) s c
    (more n number (most + 0) most body m.clients (omega arith) here)
    (λ r who. event_after n number most body m (Asks r who (length c.bytes) (taken s c) c.choice) here))

all_after : (n number most : ℕ) (body : List ℕ) (s : ServerState) (records : List Arrival) → After n number body most s.machine.clients
    → After n number body (most + asked n s records) (state_after_all s records).machine.clients
all_after n number most body s [] a = more n number (most + 0) most body s.machine.clients (omega arith) a
all_after n number most body s (c ∷ rest) a =
    let one = cond (asks_by n s c) 1 0 in
    more n number (most + (one + asked n (state_after s c) rest)) ((most + one) + asked n (state_after s c) rest) body (state_after_all (state_after s c) rest).machine.clients (omega arith)
    (all_after n number (most + one) body (state_after s c) rest (next_after n number most body s c a))

-- No session's counter is above the last that was given.

counted_next : (s : ServerState) (c : Arrival) → IsCounted s.machine.sessions → IsCounted (state_after s c).machine.sessions
counted_next s c is =
    let m = before s c in
    let here : IsCounted m.sessions = counted_step s.machine (Expires (taken s c)) is in
    subst (λ (t : ServerState). IsCounted t.machine.sessions) (sym (next_is s c))
    (for_asked (λ o. IsCounted (left m o).sessions) s c here (λ r who. counted_step m (Asks r who (length c.bytes) (taken s c) c.choice) here))

counted_all : (s : ServerState) (records : List Arrival) → IsCounted s.machine.sessions → IsCounted (state_after_all s records).machine.sessions
counted_all s [] is = is
counted_all s (c ∷ rest) is = counted_all (state_after s c) rest (counted_next s c is)

-- the machine behind a record that asks for something
pub next_machine : (s : ServerState) (c : Arrival) (e : MachineEvent) → asked_by s c ≡ Some e → (state_after s c).machine ≡ stepped (before s c) e
next_machine s c e asks = ap (λ (t : ServerState). t.machine) (next_is s c) ∙ ap (left (before s c)) asks

pub each_makes_one : EachMakesOne
each_makes_one start records c client number id g =
    let s = reached start records in
    let counted : IsCounted s.machine.sessions = counted_all (new_state start) records (λ x there. absurd there) in
    let here : IsCounted (before s c).sessions = counted_step s.machine (Expires (taken s c)) counted in
    let same = next_machine s c g.event g.asks in
    subst (λ (m : Machine). (m ≡ before s c) ⊎ MakesOne client id (before s c).sessions m.sessions) (sym same) (gives_one client number id (before s c) g.event here g.gives)

-- From an answer on, before a later record: the client's number is at most as far behind as records between asked for.
told_after : (start : Start) (earlier : List Arrival) (c : Arrival) (between : List Arrival) (d : Arrival) (client number : ℕ) (id : List ℕ) → start.instance < 2 ^ 32
    → (let s = reached start earlier in
    let t = state_after_all (state_after s c) between in
    (first : GivesIn client number id s c) → After client number (id ++ first.gives.behind) (asked client (state_after s c) between) (before t d).clients)
told_after start earlier c between d client number id small first =
    let s = reached start earlier in
    let t = state_after_all (state_after s c) between in
    let machine : IsMachine (before s c) = machine_before s c (machine_all (new_state start) earlier (of_start start small)) in
    let body = id ++ first.gives.behind in
    let told : After client number body 0 (state_after s c).machine.clients =
    subst (λ (m : Machine). After client number body 0 m.clients) (sym (next_machine s c first.event first.asks))
    (given_after client number id (before s c) first.event machine.clients first.gives) in
    more client number (asked client (state_after s c) between) (0 + asked client (state_after s c) between) body (before t d).clients (omega arith)
    (before_after client number (0 + asked client (state_after s c) between) body t d (all_after client number 0 body (state_after s c) between told))

pub repeats_make_none : RepeatsMakeNone
repeats_make_none start earlier c between d client number id other small first few second =
    let s = reached start earlier in
    let t = state_after_all (state_after s c) between in
    let did = given_again client number (asked client (state_after s c) between) id first.gives.behind other (before t d) second.event first.gives.long
    (told_after start earlier c between d client number id small first) few second.gives in
    (did.0, next_machine t d second.event second.asks ∙ did.1)

pub next_makes_one : NextMakesOne
next_makes_one start earlier c between d client number id other small first none second =
    let s = reached start earlier in
    let t = state_after_all (state_after s c) between in
    let counted : IsCounted t.machine.sessions = counted_all (state_after s c) between (counted_next s c (counted_all (new_state start) earlier (λ x there. absurd there))) in
    let body = id ++ first.gives.behind in
    subst (λ (m : Machine). MakesOne client other (before t d).sessions m.sessions) (sym (next_machine t d second.event second.asks))
    (given_next client number body other (before t d) second.event (counted_step t.machine (Expires (taken t d)) counted)
    (subst (λ k. After client number body k (before t d).clients) none (told_after start earlier c between d client number id small first)) second.gives)

-- Who made the session that is answered: the client's number and what is kept under it tell, from one record to the next.

record Told (client number : ℕ) (body : List ℕ) (outset : ServerState) (records : List Arrival) : Type 0 where
  id : List ℕ
  was : WasMade client number id outset records
  text : id ++ was.gives.gives.behind ≡ body

-- it is told behind more records too
told_later : (client number : ℕ) (body : List ℕ) (outset : ServerState) (records : List Arrival) (c : Arrival) → Told client number body outset records
    → Told client number body outset (records ++ c ∷ [])
told_later client number body outset records c t = record {
  id = t.id;
  was = record {
    earlier = t.was.earlier;
    maker = t.was.maker;
    later = t.was.later ++ c ∷ [];
    order = ap (λ l. l ++ c ∷ []) t.was.order ∙ append_assoc t.was.earlier (t.was.maker ∷ t.was.later) (c ∷ []);
    gives = t.was.gives;
    makes = t.was.makes;
  };
  text = t.text;
}

-- the last of the records made it
made_last : (client number : ℕ) (id : List ℕ) (outset : ServerState) (records : List Arrival) (c : Arrival) → GivesIn client number id (state_after_all outset records) c
    → MakesOne client id (before (state_after_all outset records) c).sessions (state_after (state_after_all outset records) c).machine.sessions
    → WasMade client number id outset (records ++ c ∷ [])
made_last client number id outset records c gives makes = record {
  earlier = records;
  maker = c;
  later = [];
  order = refl;
  gives = gives;
  makes = makes;
}

told_last : (client number : ℕ) (body : List ℕ) (outset : ServerState) (records : List Arrival) (c : Arrival) (e : MachineEvent) → asked_by (state_after_all outset records) c ≡ Some e
    → IsMadeBy client number body (before (state_after_all outset records) c) e → Told client number body outset (records ++ c ∷ [])
unfolding made_last
told_last client number body outset records c e asks made =
    let s = state_after_all outset records in
    record {
      id = made.id;
      was = made_last client number made.id outset records c (record { event = e; asks = asks; gives = made.gives })
          (subst (λ (m : Machine). MakesOne client made.id (before s c).sessions m.sessions) (sym (next_machine s c e asks)) made.makes);
      text = made.text;
    }

tells_before : (client number : ℕ) (body : List ℕ) (X : Type 0) (s : ServerState) (c : Arrival) → ToldBy client (next_number number) body X s.machine.clients
    → ToldBy client (next_number number) body X (before s c).clients
tells_before client number body X s c tells =
    event_carried client (ToldBy client (next_number number) body X) (tells_carried client (next_number number) body X) s.machine (Expires (taken s c)) refl tells

tells_next : (client number : ℕ) (body : List ℕ) (outset : ServerState) (records : List Arrival) (c : Arrival) → number < 2 ^ 32
    → (let s = state_after_all outset records in IsMachine s.machine → IsCounted s.machine.sessions
    → ToldBy client (next_number number) body (Told client number body outset records) s.machine.clients
    → ToldBy client (next_number number) body (Told client number body outset (records ++ c ∷ [])) (state_after s c).machine.clients)
tells_next client number body outset records c low is counted tells =
    subst (λ (t : ServerState). ToldBy client (next_number number) body (Told client number body outset (records ++ c ∷ [])) t.machine.clients)
    (sym (next_is (state_after_all outset records) c)) (by_event (asked_by (state_after_all outset records) c) refl)
  where
    by_event : (o : Option MachineEvent) → asked_by (state_after_all outset records) c ≡ o
        → ToldBy client (next_number number) body (Told client number body outset (records ++ c ∷ [])) (left (before (state_after_all outset records) c) o).clients
    by_event None asks =
        let X = Told client number body outset records in
        let Y = Told client number body outset (records ++ c ∷ []) in
        tells_more client (next_number number) body X Y (before (state_after_all outset records) c).clients (told_later client number body outset records c)
        (tells_before client number body X (state_after_all outset records) c tells)
    by_event (Some e) asks =
        let s = state_after_all outset records in
        let X = Told client number body outset records in
        let Y = Told client number body outset (records ++ c ∷ []) in
        event_tells client number body X Y (before s c) e (machine_before s c is).clients (counted_step s.machine (Expires (taken s c)) counted) low
        (told_later client number body outset records c) (told_last client number body outset records c e asks) (tells_before client number body X s c tells)

-- what the client's record tells behind these records
abbrev TellsAt : (client number : ℕ) → List ℕ → ServerState → List Arrival → Type 0
TellsAt client number body outset records = ToldBy client (next_number number) body (Told client number body outset records) (state_after_all outset records).machine.clients

tells_all : (client number : ℕ) (body : List ℕ) (outset : ServerState) (done rest : List Arrival) → number < 2 ^ 32 → IsMachine outset.machine → IsCounted outset.machine.sessions
    → TellsAt client number body outset done → TellsAt client number body outset (done ++ rest)
tells_all client number body outset done [] low is counted tells = subst (TellsAt client number body outset) (sym (append-nil done)) tells
tells_all client number body outset done (c ∷ rest) low is counted tells =
    subst (TellsAt client number body outset) (append_assoc done (c ∷ []) rest)
    (tells_all client number body outset (done ++ c ∷ []) rest low is counted
    (subst (λ (t : ServerState). ToldBy client (next_number number) body (Told client number body outset (done ++ c ∷ [])) t.machine.clients) (sym (reached_more outset done c))
    (tells_next client number body outset done c low (machine_all outset done is) (counted_all outset done counted) tells)))

pub each_was_made : EachWasMade
each_was_made start records c client number id small low g =
    let outset = new_state start in
    let s = state_after_all outset records in
    let is = of_start start small in
    let counted : IsCounted outset.machine.sessions = λ x there. absurd there in
    let body = id ++ g.gives.behind in
    let X = Told client number body outset records in
    let tells : ToldBy client (next_number number) body X s.machine.clients = tells_all client number body outset [] records low is counted
    (record { small = λ x there. absurd there; told = λ x there. absurd there }) in
    elim (gives_made client number id X (before s c) g.event (counted_step s.machine (Expires (taken s c)) (counted_all outset records counted)) g.gives
    (tells_before client number body X s c tells)) [
      | inl made ↦ made_last client number id outset records c g
          (subst (λ (m : Machine). MakesOne client id (before s c).sessions m.sessions) (sym (next_machine s c g.event g.asks)) made)
      | inr told ↦ (let later = told_later client number body outset records c told in
          subst (λ id. WasMade client number id outset (records ++ c ∷ []))
          (first_bytes later.id id later.was.gives.gives.behind g.gives.behind later.was.gives.gives.long g.gives.long later.text) later.was)
    ]
