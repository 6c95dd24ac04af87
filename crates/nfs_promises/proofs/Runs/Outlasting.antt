-- A compound that neither renews a client's lease nor begins it leaves it as it was, or ends it.
use Rattle.std.proofs.Common.{◌≡◌, ◌⊎◌, ℕ, Bool, true, false, cond, eqb, List, [], ◌∷◌, Option, Some, None, Result, Ok, Err, refl, sym, ◌∙◌, subst, inl, inr}
use Rattle.std.proofs.lemmas.Bool.{cases_Bool, eqb-false, ne_eqb}
use Rattle.std.specs.{Prelude.{◌&&◌, ◌||◌, ◌==◌, bit_and, is_some, option_map, ok_or}, Option.option_map_or}
use Rattle.nfs_xdr.specs.{Caller.Caller, Checks.{first_fault, judged}, declared.status.Status.Status}
use Rattle.nfs_xdr.specs.{declared.status.Status.TheVariants.{Delay, Inval, StaleClientId, MinorVersMismatch}, Numbers.next_number}
use Rattle.nfs_compound.specs.{declared.{op.Item.{Item, TheVariants.Operation}, session_args.CreateSession.CreateSession}, Request.{Request, item_number}}
use Rattle.nfs_compound.specs.declared.session_args.{ExchangeId.ExchangeId, Sequence.Sequence}
use Rattle.nfs_compound.specs.declared.op.Op.TheVariants as Op
use Rattle.nfs_clients.specs.{declared.created.CreateResult.CreateResult, declared.created.CreateResult.TheVariants.{Done, Refused}, ExchangeId.has_room}
use Rattle.nfs_clients.specs.{Roster.{ClientRecord, client_at, confirmed_of, unconfirmed_of, next_id}, CreateSession.leaving}
use Rattle.nfs_sessions.specs.{Id.id_of, Sessions.session_at}
use Rattle.nfs_opens.specs.Steps.{require, ◌>>=◌, ◌>>◌}
use Rattle.nfs_lease.specs.Renewals.{Book, with_lease, with_renewal, without_lease}
use Rattle.nfs_names.specs.{Context.begins, Outcome.is_ok}
use Rattle.nfs_exec.specs.{Runs.LockHeld.is_of, Step.Compound.{carried_out, first_item, renewed, begun, bare, in_session, by_first, compound}}
use Rattle.nfs_exec.specs.Step.{CreateSession.{create_session, kept_again, made}, Destroy.{destroy_session, client_fault}, Laws.{Asks, first_runs, if_runs}}
use Rattle.nfs_exec.specs.Step.{ExchangeId.{exchange_id, exchanged, standing}, Machine.{Machine, MachineOutcome, or_with_delay, with_refusal}}
use Rattle.nfs_exec.specs.Step.{Parts.without_any_lease, Place.place_fault, Run.{is_here, behind_here}, Sequence.{Sequenced, sequenced}}
use Rattle.nfs_promises.specs.Runs.Renewing.{adds, is_for, renews_alone, renews_or_begins}
use Rattle.nfs_exec.specs.Step.Sequence as sequence
use Rattle.nfs_exec.proofs.Step.{Behind.run_leases, InSteps.for_client, Terms.{by_fault, or_with_refusal, session_checks, or_kept_refusal, client_ended}}
use Rattle.nfs_promises.proofs.Runs.NotNamed.{neither}

abbrev pub IsStill : ℕ → Book → Book → Type 0
IsStill client b left = (left client ≡ None) ⊎ (left client ≡ b client)

after_both : (client : ℕ) (a b c : Book) → IsStill client a b → IsStill client b c → IsStill client a c
after_both client a b c first (inl none) = inl none
after_both client a b c (inl none) (inr same) = inl (same ∙ none)
after_both client a b c (inr was) (inr same) = inr (same ∙ was)

other : (a b : ℕ) → eqb a b ≡ false → eqb b a ≡ false
other a b e = ne_eqb b a (λ same. eqb-false a b e (sym same))

still_lease : (b : Book) (client id now : ℕ) → eqb id client ≡ false → IsStill client b (with_lease b id now)
still_lease b client id now e = inr (rw (other id client e) refl)

still_renewal : (b : Book) (client id now : ℕ) → eqb id client ≡ false → IsStill client b (with_renewal b id now)
still_renewal b client id now e = inr (rw (other id client e) refl)

still_without : (b : Book) (client gone : ℕ) → IsStill client b (without_lease b gone)
still_without b client gone = elim (cases_Bool (eqb client gone)) [ inl here ↦ inl (rw here refl) | inr there ↦ inr (rw there refl) ]

still_any : (b : Book) (client : ℕ) (o : Option ℕ) → IsStill client b (without_any_lease b o)
still_any b client None = inr refl
still_any b client (Some gone) = still_without b client gone

-- Outside a session.

-- a record that is added begins its lease, and one that it replaces loses its own
added_still : (m : Machine) (now client : ℕ) (o : Option ℕ) → (next_id m.clients == client) ≡ false
    → IsStill client m.leases (without_any_lease (with_lease m.leases (next_id m.clients) now) o)
added_still m now client o other =
    let begun = with_lease m.leases (next_id m.clients) now in
    after_both client m.leases begun (without_any_lease begun o) (still_lease m.leases client (next_id m.clients) now other) (still_any begun client o)

exchanged_still : (m : Machine) (who : Caller) (now client : ℕ) (e : ExchangeId)
    → is_ok (exchange_id m who now e).status && is_for client m who (Operation (Op.ExchangeId e)) ≡ false
    → IsStill client m.leases (exchange_id m who now e).machine.leases
exchanged_still m who now client e = by_flag (bit_and e.flags 0x8000_0000 == 0) (standing m who e (confirmed_of m.clients e.ownerid))
  where
    steps : Bool → Result (Option ClientRecord) Status → MachineOutcome
    steps free found = or_with_refusal m 42 (require free Inval >> (found >>= exchanged m who now e))

    by_room : (room : Bool) → has_room m.clients e.ownerid ≡ room → is_ok (steps true (Ok None)).status && (next_id m.clients == client) ≡ false
        → IsStill client m.leases (steps true (Ok None)).machine.leases
    by_room true room none = rw room (added_still m now client (option_map (λ (c : ClientRecord). c.id) (unconfirmed_of m.clients e.ownerid)) (rw room at none))
    by_room false full none = rw full (inr refl)

    by_flag : (free : Bool) (found : Result (Option ClientRecord) Status)
        → is_ok (steps free found).status && (adds found && (next_id m.clients == client)) ≡ false → IsStill client m.leases (steps free found).machine.leases
    by_flag false found none = inr refl
    by_flag true (Err status) none = inr refl
    by_flag true (Ok (Some c)) none = inr refl
    by_flag true (Ok None) none = by_room (has_room m.clients e.ownerid) refl none

delayed_still : (m : Machine) (client : ℕ) (o : MachineOutcome) (refused : Bool) (n : ℕ) (mine : Bool) → (is_ok o.status && mine ≡ false → IsStill client m.leases o.machine.leases)
    → is_ok (or_with_delay refused m n o).status && mine ≡ false → IsStill client m.leases (or_with_delay refused m n o).machine.leases
delayed_still m client o refused n mine still = go (refused && is_ok o.status)
  where
    go : (b : Bool) → is_ok (cond b (with_refusal m n Delay) o).status && mine ≡ false → IsStill client m.leases (cond b (with_refusal m n Delay) o).machine.leases
    go true e = inr refl
    go false e = still e

made_still : (m : Machine) (now client : ℕ) (c : CreateSession) (fault : Option Status) → (let o = or_kept_refusal m c (judged fault >> Ok (made m now c)) in
    is_ok o.status && (c.clientid == client) ≡ false → IsStill client m.leases o.machine.leases)
made_still m now client c None e =
    let gone = without_any_lease m.leases (leaving m.clients c.clientid) in
    after_both client m.leases gone (with_renewal gone c.clientid now) (still_any m.leases client (leaving m.clients c.clientid))
    (still_renewal gone client c.clientid now e)
made_still m now client c (Some status) e = inr refl

created_still : (m : Machine) (who : Caller) (now client : ℕ) (refused : Bool) (c : CreateSession)
    → is_ok (create_session m who now refused c).status && is_for client m who (Operation (Op.CreateSession c)) ≡ false
    → IsStill client m.leases (create_session m who now refused c).machine.leases
created_still m who now client refused c none = by_client (client_at m.clients c.clientid) none
  where
    by_kept : (kept : Option CreateResult) → IsStill client m.leases (or_with_refusal m 43 (kept_again m kept)).machine.leases
    by_kept None = inr refl
    by_kept (Some (Done body)) = inr refl
    by_kept (Some (Refused status)) = inr refl

    steps : Option ClientRecord → MachineOutcome
    steps o = or_with_refusal m 43 (ok_or o StaleClientId >>= for_client m now c who refused)

    by_record : (k : ClientRecord) → is_ok (steps (Some k)).status && ((c.sequence == k.number) && (c.clientid == client)) ≡ false
        → IsStill client m.leases (steps (Some k)).machine.leases
    by_record k none = elim (cases_Bool (next_number c.sequence == k.number)) [
      | inl again ↦ rw again (by_kept k.kept)
      | inr new ↦ elim (cases_Bool (c.sequence == k.number)) [
        | inl next ↦ elim (cases_Bool (k.uid == who.uid)) [
          | inl mine ↦ rw (new, next, mine) (delayed_still m client (or_kept_refusal m c (judged (first_fault (session_checks m c)) >> Ok (made m now c)))
              refused 43 (c.clientid == client) (made_still m now client c (first_fault (session_checks m c))) (rw (new, next, mine) at none))
          | inr other ↦ rw (new, next, other) (inr refl)
        ]
        | inr none ↦ rw (new, none) (inr refl)
      ]
    ]

    by_client : (o : Option ClientRecord) → is_ok (steps o).status && (option_map_or (λ (k : ClientRecord). c.sequence == k.number) o false && (c.clientid == client)) ≡ false
        → IsStill client m.leases (steps o).machine.leases
    by_client None none = inr refl
    by_client (Some k) none = by_record k none

session_still : (m : Machine) (client : ℕ) (sessionid : List ℕ) → IsStill client m.leases (destroy_session m sessionid).machine.leases
session_still m client sessionid = elim (cases_Bool (is_some (session_at m.sessions (id_of sessionid)))) [
  | inl stood ↦ rw stood (inr refl)
  | inr gone ↦ rw gone (inr refl)
]

client_still : (m : Machine) (client gone : ℕ) (o : Option Status) → IsStill client m.leases (by_fault m 57 o (client_ended m gone)).machine.leases
client_still m client gone None = still_without m.leases client gone
client_still m client gone (Some fault) = inr refl

carried_still : (m : Machine) (who : Caller) (now client : ℕ) (refused : Bool) (i : Item)
    → is_ok (carried_out m who now refused i).status && is_for client m who i ≡ false → IsStill client m.leases (carried_out m who now refused i).machine.leases
carried_still m who now client refused (Operation (Op.ExchangeId e)) none =
    delayed_still m client (exchange_id m who now e) refused 42 (is_for client m who (Operation (Op.ExchangeId e))) (exchanged_still m who now client e) none
carried_still m who now client refused (Operation (Op.CreateSession c)) none =
    created_still m who now client refused c none
carried_still m who now client refused (Operation (Op.DestroySession sessionid)) none = session_still m client sessionid
carried_still m who now client refused (Operation (Op.DestroyClientId gone)) none =
    client_still m client gone (client_fault m gone)
carried_still m who now client refused i none = inr refl

first_still : (m : Machine) (declared : ℕ) (who : Caller) (now client : ℕ) (refused : Bool) (i : Item)
    → is_ok (first_item m declared who now refused i).status && is_for client m who i ≡ false
    → IsStill client m.leases (first_item m declared who now refused i).machine.leases
first_still m declared who now client refused i = go (place_fault declared i)
  where
    go : (f : Option Status) → is_ok (by_fault m (item_number i) f (carried_out m who now refused i)).status && is_for client m who i ≡ false
        → IsStill client m.leases (by_fault m (item_number i) f (carried_out m who now refused i)).machine.leases
    go None none = carried_still m who now client refused i none
    go (Some status) none = inr refl

-- The whole compound.

sequenced_still : (m : Machine) (r : Request) (who : Caller) (now client : ℕ) (choice : Option ℕ) (s : Sequence) (more : List Item) (v : Sequenced)
    → option_map_or (is_of client) (if_runs s v) false ≡ false → IsStill client m.leases (in_session m r who now choice s more v).machine.leases
sequenced_still m r who now client choice s more (sequence.Refuses status) e = inr refl
sequenced_still m r who now client choice s more (sequence.Repeats reply) e = inr refl
sequenced_still m r who now client choice s more (sequence.Runs c) e =
    subst (IsStill client m.leases) (sym (run_leases c.maxresponsesize (begun r s c) now (behind_here choice) (renewed m now s) (begins (id_of s.sessionid).client who) more))
    (still_renewal m.leases client (id_of s.sessionid).client now e)

items_still : (m : Machine) (r : Request) (who : Caller) (size now client : ℕ) (choice : Option ℕ) (items : List Item)
    → option_map_or (is_of client) (first_runs m r who size items) false ≡ false → renews_alone client m r who now choice items ≡ false
    → IsStill client m.leases (by_first m r who size now choice items).machine.leases
items_still m r who size now client choice [] runs alone = inr refl
items_still m r who size now client choice (Operation (Op.Sequence s) ∷ more) runs alone =
    sequenced_still m r who now client choice s more (sequenced m r who size s) runs
items_still m r who size now client choice (item ∷ more) runs alone = first_still m r.declared who now client (is_here choice) item alone

pub compound_still : (m : Machine) (r : Request) (who : Caller) (size now client : ℕ) (choice : Option ℕ)
    → renews_or_begins client m (Asks r who size now choice) ≡ false → IsStill client m.leases (compound m r who size now choice).machine.leases
compound_still m r who size now client choice = go (eqb r.minor 1)
  where
    go : (b : Bool) → option_map_or (is_of client) (cond b (first_runs m r who size r.left) None) false || (b && renews_alone client m r who now choice r.left) ≡ false
        → IsStill client m.leases (cond b (by_first m r who size now choice r.left) (bare r MinorVersMismatch m)).machine.leases
    go true e =
        let parts = neither (option_map_or (is_of client) (first_runs m r who size r.left) false) (renews_alone client m r who now choice r.left) e in
        items_still m r who size now client choice r.left parts.0 parts.1
    go false e = inr refl
