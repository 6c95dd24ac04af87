-- A client id is told to one owner with one verifier, and a session id to one client, in whole runs.
use Rattle.std.proofs.Common.{◌≡◌, ◌⊎◌, ℕ, suc, ◌+◌, ◌/◌, ◌^◌, ◌<◌, ◌≤◌, Bool, true, false, cond, eqb, not, List, [], ◌∷◌, ◌++◌, length, map, drop, Option, Some, None, refl, sym, ◌∙◌, ap, subst, arith, inl, inr}
use Rattle.std.proofs.{lemmas.Bool.{ne_eqb, and_parts}, lemmas.List.{length-append, drop_at}, lemmas.Slice.Eq.bytes_eq-Decides}
use Rattle.std.specs.{Prelude.{◌==◌, ◌&&◌, ◌%◌, filter, bytes_eq, unwrap_or}, Option.option_map_or}
use Rattle.nfs_xdr.specs.{Caller.Caller, Spelling.hyper, Tables.In, Numbers.next_number, Checks.first_fault, declared.status.Status.Status, Reading.hyper_at}
use Rattle.nfs_xdr.specs.declared.status.Status.TheVariants.{Nfs4Ok, Delay, MinorVersMismatch}
use Rattle.nfs_xdr.proofs.{Lists.{in_filter, in_push, in_map, find_in}, Putting.length_hyper, CodecLaws.is_hyper, Tables.{in_bounds, in_once}}
use Rattle.nfs_compound.specs.declared.op_num.OpNum.TheVariants as Num
use Rattle.nfs_compound.specs.{OpNum.op_number, declared.{op.Item.{Item, TheVariants.Operation}, session_args.ExchangeId.ExchangeId}, Request.Request}
use Rattle.nfs_compound.specs.declared.op.Op.TheVariants as Op
use Rattle.nfs_results.specs.Results.{spell_result, done_head, spell_compound_head}
use Rattle.nfs_results.specs.declared.res.Res.TheVariants as Res
use Rattle.nfs_results.specs.Items as item
use Rattle.nfs_results.proofs.Lengths.{length_head, length_spelled}
use Rattle.nfs_clients.specs.Roster.{ClientRecord, Roster, IsRoster, first_id, next_id, is_confirmed_of, is_unconfirmed_of, confirmed_of}
use Rattle.nfs_clients.specs.ExchangeId.{Ask, Case, Refuses, Stays, Adds, has_room, if_room, case_by, case_of, does, with_new, carries_confirmed, updates, same_verifier, same_user}
use Rattle.nfs_clients.specs.ExchangeId.{client_fault_status}
use Rattle.nfs_clients.specs.declared.exchange_id.ClientFault.TheVariants.{Inval, NoEnt, NotSame, Perm, ClidInUse}
use Rattle.nfs_clients.specs.{CreateSession.{uses_up, keeps}, declared.created.CreateResult.CreateResult}
use Rattle.nfs_clients.proofs.{Terms.new_client, Members.the_id}
use Rattle.nfs_names.specs.{declared.start.Start.Start, Outcome.is_ok}
use Rattle.nfs_exec.specs.Step.{Machine.{Machine, MachineOutcome, IsMachine, with_refusal}, Place.place_fault, Run.is_here, ExchangeId.{exchange_id, granted}}
use Rattle.nfs_exec.specs.Step.{Compound.{Answered, bare, carried_out, first_item, by_first, compound}, Parts.{ask_of, did_exchange}}
use Rattle.nfs_exec.specs.{Step.Laws.{MachineEvent, Expires, Asks, stepped}, Runs.OneSession.{asks_of, asks_session, MakesOne}}
use Rattle.nfs_exec.proofs.Step.{InSteps.exchange_id_is, Terms.by_fault, Invariant.of_start, Exchanging.adds_below}
use Rattle.nfs_exec.proofs.Runs.{SessionNumbers.{IsCarried, quiet_at}, OneSession.{event_carried, behind_head}}
use Rattle.nfs_serve.specs.Step.{ServerState, new_state}
use Rattle.nfs_promises.specs.{Network.Endpoint.Arrival, Runs.Points.{state_after, state_after_all, reached, taken, before, asked_by}, Calls.SessionsOnce.GivesIn}
use Rattle.nfs_promises.specs.Calls.OwnIds.{text_of, answered, AnswersFirst, TellsClient, TellsSession, ClientIdsAreOnes, SessionIdsAreOnes, IdsAreOnes}
use Rattle.nfs_promises.proofs.{Runs.Points.{left, for_asked, next_is}, Locks.NoneOutlives.{machine_before, machine_next, machine_all}, Calls.SessionsOnce.{next_machine, each_was_made}, Locks.OneWriterByHandle.after_both}

-- The id was given, and a record that has it is the owner's, with this verifier.

record Owns (owner verifier : List ℕ) (n : ℕ) (t : Roster) : Type 0 where
  given : n ≤ t.last
  own : (c : ClientRecord) → In c t.records → c.id ≡ n → (c.owner ≡ owner) × (c.verifier ≡ verifier)

-- whose a record is, and its id
abbrev Same : ClientRecord → ClientRecord → Type 0
Same c k = (k.id ≡ c.id) × (k.owner ≡ c.owner) × (k.verifier ≡ c.verifier)

kept_same : (at : ℕ) (result : CreateResult) (c : ClientRecord) → Same c (cond (c.id == at) (keeps result c) c)
kept_same at result c = elim (c.id == at) as (λ v. Same c (cond v (keeps result c) c)) [
  | true ↦ elim (uses_up result) as (λ v. Same c (cond v (record c { number = next_number c.number; kept = Some result }) c)) [ true ↦ (refl, refl, refl) | false ↦ (refl, refl, refl) ]
  | false ↦ (refl, refl, refl)
]

module _ (owner verifier : List ℕ) (n : ℕ) where
  owns_mapped : (t : Roster) (f : ClientRecord → ClientRecord) → ((c : ClientRecord) → Same c (f c)) → Owns owner verifier n t
      → Owns owner verifier n (record t { records = map f t.records })
  owns_mapped t f same a = record {
    given = a.given;
    own = λ c there is. (let was = in_map f t.records c there in
        let k = same was.0 in
        let of = a.own was.0 was.1 (sym k.0 ∙ (ap (λ (c : ClientRecord). c.id) (sym was.2) ∙ is)) in
        (ap (λ (c : ClientRecord). c.owner) was.2 ∙ (k.1 ∙ of.0), ap (λ (c : ClientRecord). c.verifier) was.2 ∙ (k.2 ∙ of.1)));
  }

  owns_new : (t : Roster) (ask : Ask) → Owns owner verifier n t → Owns owner verifier n (with_new t ask.owner ask.verifier ask.uid)
  owns_new t ask a = record {
    given = (let low = a.given in omega arith);
    own = λ c there is. elim (in_push (filter (λ c. not (is_unconfirmed_of ask.owner c)) t.records) (new_client t ask.owner ask.verifier ask.uid) c there) [
      | inl new ↦ (let id = ap (λ (c : ClientRecord). c.id) new in let low = a.given in absurd (omega arith))
      | inr old ↦ a.own c (in_filter (λ c. not (is_unconfirmed_of ask.owner c)) t.records c old).0 is
    ];
  }

  owns_carried : (k : ℕ) → IsCarried k (Owns owner verifier n)
  owns_carried k = record {
    fewer = λ t p a. record { given = a.given; own = λ c there is. a.own c (in_filter p t.records c there).0 is };
    quiet = λ t at f quiet a. owns_mapped t (λ c. cond (c.id == at) (f c) c) (λ c. (let q = quiet_at f at quiet in (q.id c, q.owner c, q.verifier c))) a;
    other = λ t at result other a. owns_mapped t (λ c. cond (c.id == at) (keeps result c) c) (kept_same at result) a;
    new = owns_new;
  }

-- Whatever comes: it asks for no session of this client.

abbrev beyond : List Item → ℕ
beyond (Operation (Op.CreateSession c) ∷ more) = suc c.clientid
beyond items = 0

none_beyond : (items : List Item) → asks_of (beyond items) items ≡ false
none_beyond [] = refl
none_beyond (Operation (Op.CreateSession c) ∷ more) = ne_eqb c.clientid (suc c.clientid) (λ same. omega (arith, same))
none_beyond (i ∷ more) = refl

abbrev aside : MachineEvent → ℕ
aside (Expires now) = 0
aside (Asks r who size now choice) = beyond r.left

none_aside : (e : MachineEvent) → asks_session (aside e) e ≡ false
none_aside (Expires now) = refl
none_aside (Asks r who size now choice) = none_beyond r.left

module _ (owner verifier : List ℕ) (n : ℕ) where
  event_owns : (m : Machine) (e : MachineEvent) → Owns owner verifier n m.clients → Owns owner verifier n (stepped m e).clients
  event_owns m e a = event_carried (aside e) (Owns owner verifier n) (owns_carried owner verifier n (aside e)) m e (none_aside e) a

  before_owns : (s : ServerState) (c : Arrival) → Owns owner verifier n s.machine.clients → Owns owner verifier n (before s c).clients
  before_owns s c a = event_owns s.machine (Expires (taken s c)) a

  next_owns : (s : ServerState) (c : Arrival) → Owns owner verifier n s.machine.clients → Owns owner verifier n (state_after s c).machine.clients
  next_owns s c a =
      let here = before_owns s c a in
      subst (λ (t : ServerState). Owns owner verifier n t.machine.clients) (sym (next_is s c))
      (for_asked (λ o. Owns owner verifier n (left (before s c) o).clients) s c here
      (λ r who. event_owns (before s c) (Asks r who (length c.bytes) (taken s c) c.choice) here))

  all_own : (s : ServerState) (records : List Arrival) → Owns owner verifier n s.machine.clients → Owns owner verifier n (state_after_all s records).machine.clients
  all_own s [] a = a
  all_own s (c ∷ rest) a = all_own (state_after s c) rest (next_owns s c a)

-- What an EXCHANGE_ID that was answered told: the id of a record that stands, or of the one that was added.

record IsStanding (client : ℕ) (e : ExchangeId) (t after : Roster) : Type 0 where
  standing : ClientRecord
  there : In standing t.records
  id : standing.id ≡ client
  owner : standing.owner ≡ e.ownerid
  verifier : standing.verifier ≡ e.verifier
  same : after ≡ t

record IsAdded (client : ℕ) (e : ExchangeId) (t after : Roster) : Type 0 where
  uid : ℕ
  id : next_id t ≡ client
  new : after ≡ with_new t e.ownerid e.verifier uid

abbrev IsTold : ℕ → ExchangeId → Roster → Roster → Type 0
IsTold client e t after = IsStanding client e t after ⊎ IsAdded client e t after

-- its result begins with the client id
abbrev Begins : ℕ → List ℕ → MachineOutcome → Type 0
Begins client behind o = o.result ≡ done_head Num.ExchangeId ++ (hyper client ++ behind)

refused_short : (status : Status) (client : ℕ) (behind : List ℕ)
    → spell_result (Res.Refused (op_number Num.ExchangeId) status) ≡ done_head Num.ExchangeId ++ (hyper client ++ behind) → ⊥
refused_short status client behind e =
    let whole = ap length e in
    let spelled = length_spelled (Res.Refused (op_number Num.ExchangeId) status) in
    let head = length_head (op_number Num.ExchangeId) Nfs4Ok in
    let both = length-append (done_head Num.ExchangeId) (hyper client ++ behind) in
    let rest = length-append (hyper client) behind in
    let long = length_hyper client in absurd (omega arith)

granted_id : (name : List ℕ) (id number : ℕ) (mark : Bool)
    → (behind : List ℕ) × (spell_result (Res.ExchangeId (granted name id number mark)) ≡ done_head Num.ExchangeId ++ (hyper id ++ behind))
unfolding item.exchange_id
granted_id name id number mark = (_, refl)

same_text : (a b : List ℕ) → done_head Num.ExchangeId ++ a ≡ done_head Num.ExchangeId ++ b → a ≡ b
same_text a b e =
    let head = length_head (op_number Num.ExchangeId) Nfs4Ok in
    sym (drop_at (done_head Num.ExchangeId) a 8 head) ∙ (ap (drop 8) e ∙ drop_at (done_head Num.ExchangeId) b 8 head)

-- numbers of eight bytes that texts begin with
abbrev first_number : Option (ℕ × List ℕ) → ℕ
first_number o = option_map_or (λ p. p.0) o 0

same_number : (n k : ℕ) (xs ys : List ℕ) → n < 2 ^ 64 → k < 2 ^ 64 → hyper n ++ xs ≡ hyper k ++ ys → n ≡ k
same_number n k xs ys low small e = ap first_number (sym (is_hyper.again n xs low) ∙ (ap hyper_at e ∙ is_hyper.again k ys small))

told_id : (name : List ℕ) (id number client : ℕ) (mark : Bool) (behind : List ℕ) → id < 2 ^ 64 → client < 2 ^ 64
    → spell_result (Res.ExchangeId (granted name id number mark)) ≡ done_head Num.ExchangeId ++ (hyper client ++ behind) → id ≡ client
told_id name id number client mark behind low small told =
    let own = granted_id name id number mark in
    same_number id client own.0 behind low small (same_text (hyper id ++ own.0) (hyper client ++ behind) (sym own.1 ∙ told))

-- a record that stands is the owner's, with this verifier

stands_if : (carries ups ver user opened : Bool) (d c : ClientRecord)
    → unwrap_or (first_fault ((carries, Refuses Inval) ∷ (ups && not ver, Refuses NotSame) ∷ (ups && not user, Refuses Perm) ∷ (ups, Stays d)
    ∷ (user && ver, Stays d) ∷ (user, Adds) ∷ (opened, Refuses ClidInUse) ∷ [])) Adds ≡ Stays c → (d ≡ c) × (ver ≡ true)
stands_if true ups ver user opened d c e = absurd cc
stands_if false true true true opened d c e = (let same : d ≡ c = cc in (same, refl))
stands_if false true true false opened d c e = absurd cc
stands_if false true false user opened d c e = absurd cc
stands_if false false true true opened d c e = (let same : d ≡ c = cc in (same, refl))
stands_if false false false true opened d c e = absurd cc
stands_if false false ver false true d c e = absurd cc
stands_if false false ver false false d c e = absurd cc

none_if : (carries ups : Bool) (c : ClientRecord) → unwrap_or (first_fault ((carries, Refuses Inval) ∷ (ups, Refuses NoEnt) ∷ [])) Adds ≡ Stays c → ⊥
none_if true ups c e = absurd cc
none_if false true c e = absurd cc
none_if false false c e = absurd cc

roomy : (room : Bool) (case : Case) (c : ClientRecord) → if_room room case ≡ Stays c → case ≡ Stays c
roomy true case c e = e
roomy false (Refuses fault) c e = e
roomy false (Stays d) c e = e
roomy false Adds c e = absurd cc

record IsIts (c : ClientRecord) (t : Roster) (a : Ask) : Type 0 where
  there : In c t.records
  owner : c.owner ≡ a.owner
  verifier : c.verifier ≡ a.verifier

its_by : (t : Roster) (a : Ask) (c : ClientRecord) (o : Option ClientRecord) → confirmed_of t a.owner ≡ o → case_by a o ≡ Stays c → IsIts c t a
its_by t a c None at e = absurd (none_if (carries_confirmed a) (updates a) c e)
its_by t a c (Some d) at e =
    let is = stands_if (carries_confirmed a) (updates a) (same_verifier a d) (same_user a d) a.has_open d c e in
    let found = find_in (is_confirmed_of a.owner) t.records d at in
    let parts = and_parts (bytes_eq d.owner a.owner) d.confirmed found.1 in
    subst (λ (c : ClientRecord). IsIts c t a) is.0 (record {
      there = found.0;
      owner = (bytes_eq-Decides d.owner a.owner).0 parts.0;
      verifier = (bytes_eq-Decides d.verifier a.verifier).0 is.1;
    })

its : (t : Roster) (a : Ask) (c : ClientRecord) → case_of t a ≡ Stays c → IsIts c t a
its t a c e = its_by t a c (confirmed_of t a.owner) refl (roomy (has_room t a.owner) (case_by a (confirmed_of t a.owner)) c e)

-- ids have eight bytes
low_id : (t : Roster) (c : ClientRecord) → IsRoster t → In c t.records → c.id ≤ t.last
low_id t c is there = (let bounds = in_bounds the_id (first_id t) (next_id t) t.records c is.rising there in omega (arith, bounds.1))

small_id : (t : Roster) (n : ℕ) → IsRoster t → n ≤ t.last → n < 2 ^ 64
small_id t n is low = (let small = is.instance in omega (arith, low, small))

small_next : (last : ℕ) → last / 2 ^ 32 < 2 ^ 32 → last % 2 ^ 32 < 0xffff_ffff → last + 1 < 2 ^ 64
small_next last instance counter = omega (arith, instance, counter)

module _ (m : Machine) (who : Caller) (now : ℕ) (e : ExchangeId) (client : ℕ) (behind : List ℕ) (is : IsRoster m.clients) (small : client < 2 ^ 64) where
  case_told : (case : Case) → case_of m.clients (ask_of m who e) ≡ case
      → (let o = did_exchange m now (does m.clients (ask_of m who e) case) in Begins client behind o → IsTold client e m.clients o.machine.clients)
  case_told (Refuses fault) at = λ told. absurd (refused_short (client_fault_status fault) client behind told)
  case_told (Stays c) at = λ told.
      (let it = its m.clients (ask_of m who e) c at in
      inl (record {
        standing = c;
        there = it.there;
        id = told_id m.owner c.id c.number client true behind (small_id m.clients c.id is (low_id m.clients c is it.there)) small told;
        owner = it.owner;
        verifier = it.verifier;
        same = refl;
      }))
  case_told Adds at = λ told. inr (record {
    uid = who.uid;
    id = told_id m.owner (next_id m.clients) 1 client false behind (small_next m.clients.last is.instance (adds_below m.clients (ask_of m who e) at)) small told;
    new = refl;
  })

  delay_told : (v : Bool) → (let o = cond v (with_refusal m (op_number Num.ExchangeId) Delay) (exchange_id m who now e) in
      Begins client behind o → IsTold client e m.clients o.machine.clients)
  delay_told true = λ told. absurd (refused_short Delay client behind told)
  delay_told false = subst (λ (o : MachineOutcome). Begins client behind o → IsTold client e m.clients o.machine.clients) (sym (exchange_id_is m who now e))
      (case_told (case_of m.clients (ask_of m who e)) refl)

  item_told : (declared : ℕ) (refused : Bool)
      → (let o = first_item m declared who now refused (Operation (Op.ExchangeId e)) in Begins client behind o → IsTold client e m.clients o.machine.clients)
  item_told declared refused = go (place_fault declared (Operation (Op.ExchangeId e)))
    where
      go : (f : Option Status) → (let o = by_fault m (op_number Num.ExchangeId) f (carried_out m who now refused (Operation (Op.ExchangeId e))) in
          Begins client behind o → IsTold client e m.clients o.machine.clients)
      go None = delay_told (refused && is_ok (exchange_id m who now e).status)
      go (Some status) = λ told. absurd (refused_short status client behind told)

none_told : (client : ℕ) (behind : List ℕ) → [] ≡ done_head Num.ExchangeId ++ (hyper client ++ behind) → ⊥
none_told client behind e =
    let whole = ap length e in
    let head = length_head (op_number Num.ExchangeId) Nfs4Ok in
    let both = length-append (done_head Num.ExchangeId) (hyper client ++ behind) in absurd (omega arith)

request_told : (m : Machine) (r : Request) (who : Caller) (size now : ℕ) (choice : Option ℕ) (e : ExchangeId) (more : List Item) (client : ℕ) (behind : List ℕ)
    → IsRoster m.clients → client < 2 ^ 64 → r.left ≡ Operation (Op.ExchangeId e) ∷ more
    → (compound m r who size now choice).text ≡ spell_compound_head Nfs4Ok r.tag 1 ++ (done_head Num.ExchangeId ++ (hyper client ++ behind))
    → IsTold client e m.clients (compound m r who size now choice).machine.clients
request_told m r who size now choice e more client behind is small first = by_minor (eqb r.minor 1)
  where
    by_items : (items : List Item) → items ≡ Operation (Op.ExchangeId e) ∷ more
        → (by_first m r who size now choice items).text ≡ spell_compound_head Nfs4Ok r.tag 1 ++ (done_head Num.ExchangeId ++ (hyper client ++ behind))
        → IsTold client e m.clients (by_first m r who size now choice items).machine.clients
    by_items items same told =
        let list : by_first m r who size now choice items ≡ by_first m r who size now choice (Operation (Op.ExchangeId e) ∷ more) =
        ap (by_first m r who size now choice) same in
        let o = first_item m r.declared who now (is_here choice) (Operation (Op.ExchangeId e)) in
        subst (λ (a : Answered). IsTold client e m.clients a.machine.clients) (sym list)
        (item_told m who now e client behind is small r.declared (is_here choice)
        (behind_head o.status Nfs4Ok r.tag 1 o.result (done_head Num.ExchangeId ++ (hyper client ++ behind)) (ap (λ (a : Answered). a.text) (sym list) ∙ told)))

    by_minor : (v : Bool) → (let a = cond v (by_first m r who size now choice r.left) (bare r MinorVersMismatch m) in
        a.text ≡ spell_compound_head Nfs4Ok r.tag 1 ++ (done_head Num.ExchangeId ++ (hyper client ++ behind)) → IsTold client e m.clients a.machine.clients)
    by_minor true = λ told. by_items r.left first told
    by_minor false = λ told. absurd (none_told client behind
        (behind_head MinorVersMismatch Nfs4Ok r.tag 0 [] (done_head Num.ExchangeId ++ (hyper client ++ behind)) told))

-- The event that a record was, what it was answered, and the machine behind it.

told_text : (m : Machine) (i : Item) (operation body : List ℕ) (o : Option MachineEvent)
    → (a : AnswersFirst i operation body o (option_map_or (text_of m) o []))
    → (compound m a.request a.who a.size a.now a.choice).text ≡ spell_compound_head Nfs4Ok a.request.tag 1 ++ (operation ++ (body ++ a.behind))
told_text m i operation body o a = ap (λ o. option_map_or (text_of m) o []) (sym a.is) ∙ a.answers

record_told : (owner verifier : List ℕ) (client : ℕ) (s : ServerState) (c : Arrival) → IsRoster (before s c).clients
    → (a : TellsClient owner verifier client (asked_by s c) (answered s c)) → IsTold client a.asked (before s c).clients (state_after s c).machine.clients
record_told owner verifier client s c is a =
    let t = a.told in
    let m = before s c in
    subst (λ (n : Machine). IsTold client a.asked m.clients n.clients) (sym (next_machine s c (Asks t.request t.who t.size t.now t.choice) t.is))
    (request_told m t.request t.who t.size t.now t.choice a.asked t.more client t.behind is a.small t.left
    (told_text m (Operation (Op.ExchangeId a.asked)) (done_head Num.ExchangeId) (hyper client) (asked_by s c) t))

-- what was told is owned
told_owned : (client : ℕ) (e : ExchangeId) (t after : Roster) → IsRoster t → IsTold client e t after → Owns e.ownerid e.verifier client after
told_owned client e t after is (inl st) = subst (λ (r : Roster). Owns e.ownerid e.verifier client r) (sym st.same) (record {
  given = (let low = low_id t st.standing is st.there in let id = st.id in omega arith);
  own = λ c there same. (let one : c ≡ st.standing = in_once the_id (first_id t) (next_id t) t.records c st.standing is.rising there st.there (same ∙ sym st.id) in
      (ap (λ (c : ClientRecord). c.owner) one ∙ st.owner, ap (λ (c : ClientRecord). c.verifier) one ∙ st.verifier));
})
told_owned client e t after is (inr added) = subst (λ (r : Roster). Owns e.ownerid e.verifier client r) (sym added.new) (record {
  given = (let id = added.id in omega arith);
  own = λ c there same. elim (in_push (filter (λ c. not (is_unconfirmed_of e.ownerid c)) t.records) (new_client t e.ownerid e.verifier added.uid) c there) [
    | inl new ↦ (ap (λ (c : ClientRecord). c.owner) new, ap (λ (c : ClientRecord). c.verifier) new)
    | inr old ↦ (let low = low_id t c is (in_filter (λ c. not (is_unconfirmed_of e.ownerid c)) t.records c old).0 in let id = added.id in absurd (omega arith))
  ];
})

-- and so is told to nobody else
told_same : (owner verifier : List ℕ) (client : ℕ) (e : ExchangeId) (t after : Roster) → IsTold client e t after → Owns owner verifier client t
    → (e.ownerid ≡ owner) × (e.verifier ≡ verifier)
told_same owner verifier client e t after (inl st) a =
    let of = a.own st.standing st.there st.id in (sym st.owner ∙ of.0, sym st.verifier ∙ of.1)
told_same owner verifier client e t after (inr added) a = (let id = added.id in let low = a.given in absurd (omega arith))

client_ids : (start : Start) → start.instance < 2 ^ 32 → ClientIdsAreOnes answered start
client_ids start small earlier c between d owner verifier other another client first second =
    let s = reached start earlier in
    let t = state_after_all (state_after s c) between in
    let sound = machine_all (new_state start) earlier (of_start start small) in
    let here : IsMachine (before s c) = machine_before s c sound in
    let there : IsMachine (before t d) = machine_before t d (machine_all (state_after s c) between (machine_next s c sound)) in
    let one = first.asked in
    let owned : Owns one.ownerid one.verifier client (state_after s c).machine.clients =
    told_owned client one (before s c).clients (state_after s c).machine.clients here.clients (record_told owner verifier client s c here.clients first) in
    let later = before_owns one.ownerid one.verifier client t d (all_own one.ownerid one.verifier client (state_after s c) between owned) in
    let same = told_same one.ownerid one.verifier client second.asked (before t d).clients (state_after t d).machine.clients
    (record_told other another client t d there.clients second) later in
    (sym second.owner_is ∙ (same.0 ∙ first.owner_is), sym second.verifier_is ∙ (same.1 ∙ first.verifier_is))

-- Sessions: each was made for the client that it was told to, and its id begins with that client's.

gives_in : (client : ℕ) (id : List ℕ) (s : ServerState) (c : Arrival) → (a : TellsSession client id (asked_by s c) (answered s c)) → GivesIn client a.asked.sequence id s c
gives_in client id s c a =
    let t = a.told in
    record {
      event = Asks t.request t.who t.size t.now t.choice;
      asks = t.is;
      gives = record {
        request = t.request;
        who = t.who;
        size = t.size;
        now = t.now;
        choice = t.choice;
        is = refl;
        asked = a.asked;
        more = t.more;
        first = t.left;
        for = a.of;
        with = refl;
        behind = t.behind;
        answers = told_text (before s c) (Operation (Op.CreateSession a.asked)) (done_head Num.CreateSession) id (asked_by s c) t;
        long = a.long;
      };
    }

record IsOf (client : ℕ) (id : List ℕ) : Type 0 where
  counter : List ℕ
  begins : id ≡ hyper client ++ counter

of_client : (client : ℕ) (id : List ℕ) (before left : _) → MakesOne client id before left → IsOf client id
of_client client id before left makes = record {
  counter = hyper makes.session.counter;
  begins = makes.spelled ∙ ap (λ n. hyper n ++ hyper makes.session.counter) makes.of;
}

made_of : (start : Start) (records : List Arrival) (c : Arrival) (client : ℕ) (id : List ℕ) → start.instance < 2 ^ 32
    → TellsSession client id (asked_by (reached start records) c) (answered (reached start records) c) → IsOf client id
made_of start records c client id small a =
    let was = each_was_made start records c client a.asked.sequence id small a.small (gives_in client id (reached start records) c a) in
    of_client client id _ _ was.makes

session_ids : (start : Start) → start.instance < 2 ^ 32 → SessionIdsAreOnes answered start
session_ids start small earlier c between d client other id first second =
    let one = made_of start earlier c client id small first in
    let two = made_of start (earlier ++ c ∷ between) d other id small
    (subst (λ (t : ServerState). TellsSession other id (asked_by t d) (answered t d)) (sym (after_both (new_state start) earlier (c ∷ between))) second) in
    same_number other client two.counter one.counter second.eight first.eight (sym two.begins ∙ one.begins)

pub ids_are_ones : IdsAreOnes
ids_are_ones start small = (client_ids start small, session_ids start small)
