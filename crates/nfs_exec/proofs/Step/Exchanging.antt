-- EXCHANGE_ID: what the code's steps come to.
use Rattle.std.proofs.{Common.{◌≡◌, ℕ, ◌<◌, Bool, true, false, List, Option, Some, None, Ok, Err, refl, ◌∙◌, ap}, lemmas.Bool.{and_parts, ltb-true}}
use Rattle.std.specs.{Prelude.{◌||◌, nat_lt, is_some, length, option_map}, Option.option_map_or}
use Rattle.nfs_clients.specs.{declared.exchange_id.Exchanged.Exchanged, declared.exchange_id.ClientFault.ClientFault}
use Rattle.nfs_clients.specs.declared.exchange_id.ClientFault.TheVariants.{Inval, NoEnt, NotSame, Perm, ClidInUse, ServerFault, Memory}
use Rattle.nfs_clients.specs.Roster.{ClientRecord, Roster, client_at, confirmed_of, next_id, last_counter, unconfirmed_of}
use Rattle.nfs_clients.specs.ExchangeId.{Ask, asks, Case, Refuses, Stays, Adds, has_room, if_room, case_by, case_of, does}
use Rattle.nfs_clients.specs.{Calls.{exchange_fault, refusal_of, ExchangesOrWants}, ExchangeId.{client_fault_status, answer_standing, answer_added}}
use Rattle.nfs_xdr.specs.{Checks.judged, Caller.Caller}
use Rattle.nfs_compound.specs.declared.session_args.ExchangeId.{ExchangeId}
use Rattle.nfs_lease.specs.Renewals.{Book, with_lease, without_lease}
use Rattle.nfs_results.specs.declared.res.Res.TheVariants as Res
use Rattle.nfs_names.specs.{Ending.has_open, Outcome.is_lack}
use Rattle.nfs_exec.specs.Step.Machine.{Machine, IsMachine, with_result, or_with_delay}
use Rattle.nfs_exec.specs.Step.View.{settled}
use Rattle.nfs_exec.specs.Step.Parts.{granted_of, ask_of, owner_has_open, did_exchange, exchanged_by}
use Rattle.nfs_exec.proofs.Step.LeaseTakenBack.{unleased, taken_back}
use Rattle.nfs_clients.proofs.Terms.{counter_of}

-- what the code asks, for the owner's bytes as they were lent
pub asked_as : (m : Machine) (who : Caller) (e : ExchangeId) (owner : List ℕ) (holds : Bool) → owner ≡ e.ownerid → holds ≡ owner_has_open m owner
    → asks owner e.verifier e.flags who.uid holds ≡ ask_of m who e
asked_as m who e owner holds same is = rw (is, same) refl

-- an open stands of the client that was found
pub found_open : (m : Machine) (o : Option ClientRecord) (client : ℕ) → Some client ≡ option_map (λ (c : ClientRecord). c.id) o
    → has_open m.store client ≡ option_map_or (λ (c : ClientRecord). has_open m.store c.id) o false
found_open m None client is = absurd cc
found_open m (Some c) client is = let same : client ≡ c.id = cc in ap (has_open m.store) same

pub found_none : (m : Machine) (o : Option ClientRecord) → None ≡ option_map (λ (c : ClientRecord). c.id) o
    → false ≡ option_map_or (λ (c : ClientRecord). has_open m.store c.id) o false
found_none m None is = refl
found_none m (Some c) is = absurd cc

no_room : (case : Case) → if_room false case ≡ Adds → ⊥
no_room (Refuses fault) e = absurd cc
no_room (Stays c) e = absurd cc
no_room Adds e = absurd cc

pub room_of : (room : Bool) (case : Case) → if_room room case ≡ Adds → room ≡ true
room_of true case e = refl
room_of false case e = absurd (no_room case e)

-- a record is added only where an id is left
pub adds_below : (t : Roster) (a : Ask) → case_of t a ≡ Adds → counter_of t.last < last_counter
adds_below t a e =
    let parts = and_parts (nat_lt (counter_of t.last) last_counter) (is_some (unconfirmed_of t a.owner) || nat_lt (length t.records) t.most)
    (room_of (has_room t a.owner) (case_by a (confirmed_of t a.owner)) e) in
    ltb-true (counter_of t.last) last_counter parts.0

-- the call was answered: the record's lease stands, or the one that was made first is taken back
pub answered_ok : (m : Machine) (who : Caller) (now : ℕ) (e : ExchangeId) (next : ℕ) (x : Exchanged) (after : Roster) (b : Book) (case : Case) →
    IsMachine m → client_at m.clients next ≡ None → (counter_of m.clients.last < last_counter → next ≡ next_id m.clients) →
    case_of m.clients (ask_of m who e) ≡ case →
    Ok x ≡ (does m.clients (ask_of m who e) case).answer →
    after ≡ (does m.clients (ask_of m who e) case).after → b ≡ settled (with_lease m.leases next now) next x →
    with_result (record m { clients = after; leases = b }) (Res.ExchangeId (granted_of m.owner x)) ≡ did_exchange m now (does m.clients (ask_of m who e) case)
answered_ok m who now e next x after b (Refuses fault) is none value at answer left book = absurd cc
answered_ok m who now e next x after b (Stays c) is none value at answer left book =
    let same : x ≡ answer_standing c = cc in
    let back : b ≡ m.leases = rw same at book ∙ taken_back m.leases next now (unleased m next is none) in
    rw (same, left, back) refl
answered_ok m who now e next x after b Adds is none value at answer left book =
    let same : x ≡ answer_added m.clients (ask_of m who e).owner = cc in
    let id : next ≡ next_id m.clients = value (adds_below m.clients (ask_of m who e) at) in
    let made : b ≡ settled (with_lease m.leases (next_id m.clients) now) next (answer_added m.clients (ask_of m who e).owner) = rw (id, same) at book in
    rw (same, left, made) refl

-- the call was refused before anything was made
pub refused_first : (m : Machine) (who : Caller) (now : ℕ) (e : ExchangeId) (fault : ClientFault) (case : Case) → Err fault ≡ judged (refusal_of case) →
    with_result m (Res.Refused 42 (client_fault_status fault))
    ≡ or_with_delay (is_lack (client_fault_status fault)) m 42 (did_exchange m now (does m.clients (ask_of m who e) case))
refused_first m who now e fault (Stays c) is = absurd cc
refused_first m who now e fault Adds is = absurd cc
refused_first m who now e Inval (Refuses f) is = let same : f ≡ Inval = cc in rw same refl
refused_first m who now e NoEnt (Refuses f) is = let same : f ≡ NoEnt = cc in rw same refl
refused_first m who now e NotSame (Refuses f) is = let same : f ≡ NotSame = cc in rw same refl
refused_first m who now e Perm (Refuses f) is = let same : f ≡ Perm = cc in rw same refl
refused_first m who now e ClidInUse (Refuses f) is = let same : f ≡ ClidInUse = cc in rw same refl
refused_first m who now e ServerFault (Refuses f) is = let same : f ≡ ServerFault = cc in rw same refl
refused_first m who now e Memory (Refuses f) is = let same : f ≡ Memory = cc in rw same refl

-- memory was refused where the call would have been answered
pub wanted : (m : Machine) (who : Caller) (now : ℕ) (e : ExchangeId) (case : Case) → judged (refusal_of case) ≡ Ok tt →
    with_result m (Res.Refused 42 (client_fault_status Memory)) ≡ or_with_delay true m 42 (did_exchange m now (does m.clients (ask_of m who e) case))
wanted m who now e (Refuses f) is = absurd cc
wanted m who now e (Stays c) is = refl
wanted m who now e Adds is = refl

told_fault : (m : Machine) (who : Caller) (now : ℕ) (e : ExchangeId) (fault : ClientFault) (after : Roster) (case : Case) → judged (refusal_of case) ≡ Ok tt →
    Err fault ≡ (does m.clients (ask_of m who e) case).answer → ⊥
told_fault m who now e fault after (Refuses f) is answer = absurd cc
told_fault m who now e fault after (Stays c) is answer = absurd cc
told_fault m who now e fault after Adds is answer = absurd cc

-- the call was refused behind its lease, which was taken back
pub refused_last : (m : Machine) (who : Caller) (now : ℕ) (e : ExchangeId) (next : ℕ) (fault : ClientFault) (after : Roster) (b : Book) →
    IsMachine m → client_at m.clients next ≡ None → judged (exchange_fault m.clients (ask_of m who e)) ≡ Ok tt →
    ExchangesOrWants m.clients (ask_of m who e) (Err fault) after →
    b ≡ without_lease (with_lease m.leases next now) next →
    with_result (record m { clients = after; leases = b }) (Res.Refused 42 (client_fault_status fault))
    ≡ or_with_delay (is_lack (client_fault_status fault)) m 42 (exchanged_by m who now e)
refused_last m who now e next Memory after b is none judged did book =
    let back : b ≡ m.leases = book ∙ taken_back m.leases next now (unleased m next is none) in
    rw (did.1, back) (wanted m who now e (case_of m.clients (ask_of m who e)) judged)
refused_last m who now e next fault after b is none judged did book =
    absurd (told_fault m who now e fault after (case_of m.clients (ask_of m who e)) judged did.0)
