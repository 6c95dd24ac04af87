-- EXCHANGE_ID and CREATE_SESSION as their code takes them, from what the tables of clients and of sessions answer, come to what their steps do.
use Rattle.std.proofs.Common.{◌≡◌, ℕ, Bool, true, false, [], ◌∷◌, Option, Some, None, refl, sym, ◌∙◌, ap, arith, inl, inr}
use Rattle.std.proofs.lemmas.Bool.{cases_Bool, eqb-true, ne_eqb}
use Rattle.std.specs.{Prelude.{◌==◌, nat_le, bit_and, bytes_eq, count_by, Result, Ok, ok_or, if◌then◌else◌}, Option.option_map_or}
use Rattle.nfs_xdr.specs.{Caller.Caller, Checks.{first_fault, judged}, declared.status.Status.Status}
use Rattle.nfs_xdr.specs.declared.status.Status.TheVariants as status
use Rattle.nfs_xdr.specs.Numbers.{next_number}
use Rattle.nfs_compound.specs.{declared.session_args.CreateSession.CreateSession, declared.session_args.ExchangeId.ExchangeId}
use Rattle.nfs_results.specs.declared.res.Res.TheVariants as Res
use Rattle.nfs_clients.specs.{declared.created.CreateResult.CreateResult, declared.created.CreateResult.TheVariants.{Done, Refused}}
use Rattle.nfs_clients.specs.{Roster.{ClientRecord, client_at, confirmed_of}, CreateSession.{Again, Misordered, leaving, verdict_by}}
use Rattle.nfs_clients.specs.declared.exchange_id.ClientFault.{ClientFault}
use Rattle.nfs_clients.specs.declared.exchange_id.ClientFault.TheVariants.{Inval, NoEnt, NotSame, Perm, ClidInUse}
use Rattle.nfs_clients.specs.ExchangeId.{Ask, Refuses, Stays, Adds, asks, has_room, if_room, case_by, does, client_fault_status}
use Rattle.nfs_sessions.specs.{declared.sessions.SessionFault.TheVariants.{TooSmall, NoSpc, ServerFault}, Channel.is_too_small}
use Rattle.nfs_sessions.specs.Sessions.{create, create_unless, last_counter, outlasts}
use Rattle.nfs_opens.specs.Steps.{require, ◌>>=◌, ◌>>◌}
use Rattle.nfs_names.specs.Ending.{has_open}
use Rattle.nfs_exec.specs.Step.{Machine.{Machine, MachineOutcome, with_result, or_with_delay}, Parts.wish_of}
use Rattle.nfs_exec.specs.Step.ExchangeId.{exchange_id, standing, exchanged, granted}
use Rattle.nfs_exec.specs.Step.CreateSession.{create_session, kept_again, made}
use Rattle.nfs_exec.specs.Step.Parts.{creates, by_number, created_by, did_exchange, exchanged_by}
use Rattle.nfs_exec.proofs.Step.Terms.{or_with_refusal, session_checks, or_kept_refusal}

-- EXCHANGE_ID

refused_anyway : (m : Machine) (now : ℕ) (a : Ask) (room : Bool) (fault : ClientFault)
    → with_result m (Res.Refused 42 (client_fault_status fault)) ≡ did_exchange m now (does m.clients a (if_room room (Refuses fault)))
refused_anyway m now a true fault = refl
refused_anyway m now a false fault = refl

stands_anyway : (m : Machine) (now : ℕ) (a : Ask) (room : Bool) (c : ClientRecord)
    → with_result m (Res.ExchangeId (granted m.owner c.id c.number true)) ≡ did_exchange m now (does m.clients a (if_room room (Stays c)))
stands_anyway m now a true c = refl
stands_anyway m now a false c = refl

module _ (m : Machine) (who : Caller) (now : ℕ) (e : ExchangeId) where
  added_with : (held room : Bool) → has_room m.clients e.ownerid ≡ room
      → or_with_refusal m 42 (exchanged m who now e None) ≡ did_exchange m now (does m.clients (asks e.ownerid e.verifier e.flags who.uid held) (if_room room Adds))
  added_with held true is = rw is refl
  added_with held false is = rw is refl

  -- the steps, and what the table decides, by the owner's confirmed record
  abbrev in_steps : Option ClientRecord → MachineOutcome
  in_steps o = or_with_refusal m 42 (require (bit_and e.flags 0x8000_0000 == 0) status.Inval >> (standing m who e o >>= exchanged m who now e))

  abbrev asked : Option ClientRecord → Ask
  asked o = asks e.ownerid e.verifier e.flags who.uid (option_map_or (λ (c : ClientRecord). has_open m.store c.id) o false)

  abbrev decided : Option ClientRecord → Bool → MachineOutcome
  decided o room = did_exchange m now (does m.clients (asked o) (if_room room (case_by (asked o) o)))

  module _ (room : Bool) (is : has_room m.clients e.ownerid ≡ room) where
    by_carried : (bit_and e.flags 0x8000_0000 == 0) ≡ false → (o : Option ClientRecord) → in_steps o ≡ decided o room
    by_carried carried None = rw carried (refused_anyway m now (asked None) room Inval)
    by_carried carried (Some c) = rw carried (refused_anyway m now (asked (Some c)) room Inval)

    by_update : (c : ClientRecord) → (bit_and e.flags 0x8000_0000 == 0) ≡ true → (bit_and e.flags 0x4000_0000 == 0) ≡ false → in_steps (Some c) ≡ decided (Some c) room
    by_update c free up = elim (cases_Bool (bytes_eq c.verifier e.verifier)) [
      | inl same ↦ elim (cases_Bool (c.uid == who.uid)) [
        | inl mine ↦ rw (free, up, same, mine) (stands_anyway m now (asked (Some c)) room c)
        | inr other ↦ rw (free, up, same, other) (refused_anyway m now (asked (Some c)) room Perm)
      ]
      | inr other ↦ rw (free, up, other) (refused_anyway m now (asked (Some c)) room NotSame)
    ]

    by_user : (c : ClientRecord) → (bit_and e.flags 0x8000_0000 == 0) ≡ true → (bit_and e.flags 0x4000_0000 == 0) ≡ true → in_steps (Some c) ≡ decided (Some c) room
    by_user c free plain = elim (cases_Bool (c.uid == who.uid)) [
      | inl mine ↦ elim (cases_Bool (bytes_eq c.verifier e.verifier)) [
        | inl same ↦ rw (free, plain, mine, same) (stands_anyway m now (asked (Some c)) room c)
        | inr other ↦ rw (free, plain, mine, other) (added_with (has_open m.store c.id) room is)
      ]
      | inr other ↦ elim (cases_Bool (has_open m.store c.id)) [
        | inl held ↦ rw (free, plain, other, held) (refused_anyway m now (asked (Some c)) room ClidInUse)
        | inr none ↦ rw (free, plain, other, none) (added_with false room is)
      ]
    ]

    by_record : (bit_and e.flags 0x8000_0000 == 0) ≡ true → (o : Option ClientRecord) → in_steps o ≡ decided o room
    by_record free None = elim (cases_Bool (bit_and e.flags 0x4000_0000 == 0)) [
      | inl plain ↦ rw (free, plain) (added_with false room is)
      | inr up ↦ rw (free, up) (refused_anyway m now (asked None) room NoEnt)
    ]
    by_record free (Some c) = elim (cases_Bool (bit_and e.flags 0x4000_0000 == 0)) [ inl plain ↦ by_user c free plain | inr up ↦ by_update c free up ]

    by_flags : (o : Option ClientRecord) → in_steps o ≡ decided o room
    by_flags o = elim (cases_Bool (bit_and e.flags 0x8000_0000 == 0)) [ inl free ↦ by_record free o | inr carried ↦ by_carried carried o ]

pub exchange_id_is : (m : Machine) (who : Caller) (now : ℕ) (e : ExchangeId) → exchange_id m who now e ≡ exchanged_by m who now e
exchange_id_is m who now e = by_flags m who now e (has_room m.clients e.ownerid) refl (confirmed_of m.clients e.ownerid)

-- CREATE_SESSION

never_follows : (n : ℕ) → next_number n ≡ n → ⊥
never_follows n e = omega (arith, e)

module _ (m : Machine) (now : ℕ) (c : CreateSession) where
  by_checks : (small full last : Bool)
      → or_kept_refusal m c (judged (first_fault ((small, status.TooSmall) ∷ (full, status.NoSpc) ∷ (last, status.ServerFault) ∷ [])) >> Ok (made m now c))
      ≡ creates m now c (create_unless m.sessions c.clientid (wish_of m c) (first_fault ((small, TooSmall) ∷ (full, NoSpc) ∷ (last, ServerFault) ∷ [])))
  by_checks true full last = refl
  by_checks false true last = refl
  by_checks false false true = refl
  by_checks false false false = refl

  creates_is : or_kept_refusal m c (judged (first_fault (session_checks m c)) >> Ok (made m now c)) ≡ creates m now c (create m.sessions c.clientid (wish_of m c))
  creates_is = by_checks (is_too_small c.fore_chan_attrs)
      (nat_le m.sessions.most (count_by (outlasts (leaving m.clients c.clientid)) m.sessions.sessions)) (m.sessions.last == last_counter)

  kept_is : (refused : Bool) (kept : Option CreateResult) → or_with_refusal m 43 (kept_again m kept) ≡ by_number m now refused c (option_map_or Again kept Misordered)
  kept_is refused None = refl
  kept_is refused (Some (Done body)) = refl
  kept_is refused (Some (Refused s)) = refl

  -- the steps behind the client's record
  abbrev pub for_client : Caller → (refused : Bool) → ClientRecord → Result MachineOutcome Status
  for_client who refused client =
      if next_number c.sequence == client.number then kept_again m client.kept else
      (require (c.sequence == client.number) status.SeqMisordered >> (require (client.uid == who.uid) status.ClidInUse
      >> Ok (or_with_delay refused m 43 (or_kept_refusal m c (judged (first_fault (session_checks m c)) >> Ok (made m now c))))))

  for_client_is : (who : Caller) (refused : Bool) (client : ClientRecord)
      → or_with_refusal m 43 (for_client who refused client) ≡ by_number m now refused c (verdict_by (Some client) c.sequence who.uid)
  for_client_is who refused client = elim (cases_Bool (next_number c.sequence == client.number)) [
    | inl again ↦ (let other : (c.sequence == client.number) ≡ false =
        ne_eqb c.sequence client.number (λ same. never_follows c.sequence (eqb-true (next_number c.sequence) client.number again ∙ sym same)) in
        rw (again, other) (kept_is refused client.kept))
    | inr new ↦ elim (cases_Bool (c.sequence == client.number)) [
      | inl next ↦ elim (cases_Bool (client.uid == who.uid)) [
        | inl mine ↦ rw (new, next, mine) (ap (or_with_delay refused m 43) creates_is)
        | inr other ↦ rw (new, next, other) refl
      ]
      | inr none ↦ rw (new, none) refl
    ]
  ]

  by_client : (who : Caller) (refused : Bool) (o : Option ClientRecord)
      → or_with_refusal m 43 (ok_or o status.StaleClientId >>= for_client who refused) ≡ by_number m now refused c (verdict_by o c.sequence who.uid)
  by_client who refused None = refl
  by_client who refused (Some client) = for_client_is who refused client

pub create_session_is : (m : Machine) (who : Caller) (now : ℕ) (refused : Bool) (c : CreateSession)
    → create_session m who now refused c ≡ created_by m who now refused c
create_session_is m who now refused c = by_client m now c who refused (client_at m.clients c.clientid)
