-- No answer to anything but a compound on a session begins with a good SEQUENCE.
use Rattle.std.proofs.Common.{◌≡◌, inl, inr, ℕ, ◌<◌, ◌≤◌, ◌^◌, Bool, true, false, List, [], ◌∷◌, Option, Some, None, refl, sym, subst, arith}
use Rattle.std.proofs.lemmas.Bool.{cases_Bool, eqb-true, ne_eqb, and_parts, and_right, leb-true}
use Rattle.std.specs.Prelude.{◌==◌, ◌&&◌, ◌||◌, not, nat_le, nat_lt, IsTrue, Result, Ok, Err, is_some, if◌then◌else◌}
use Rattle.nfs_xdr.specs.{Limits.opaque_limit, Codec.opaque, Caller.Caller, declared.status.Status.Status}
use Rattle.nfs_xdr.specs.declared.status.Status.TheVariants.{Nfs4Ok, Delay, NotSupp, MinorVersMismatch, NotOnlyOp, OpNotInSession, StaleClientId, SeqMisordered, ClidInUse, BadSession}
use Rattle.nfs_xdr.specs.Status.{status_number}
use Rattle.nfs_xdr.proofs.StatusLaws.{is_status_listing}
use Rattle.nfs_compound.proofs.OpNumLaws.{is_op_listing}
use Rattle.nfs_compound.specs.{declared.op.Op.Op, declared.op.Item.Item, declared.op.Item.TheVariants.{Operation, Fault}, Arguments.arguments}
use Rattle.nfs_compound.specs.{Request.{Request, item_number}, declared.session_args.CreateSession.CreateSession}
use Rattle.nfs_results.specs.declared.res.Res.TheVariants as Res
use Rattle.nfs_results.specs.{Results.{refusal, spell_result}, Refusals.{may_return, can_refuse}, Parts.is_legal}
use Rattle.nfs_clients.specs.{declared.exchange_id.{Exchanged.Exchanged, ClientFault.ClientFault}, ExchangeId.exchange}
use Rattle.nfs_clients.specs.declared.created.CreateResult.TheVariants as result
use Rattle.nfs_clients.specs.CreateSession as clients
use Rattle.nfs_sessions.specs.{declared.id.SessionId.SessionId, declared.sessions.SessionFault.SessionFault, Id.id_of}
use Rattle.nfs_sessions.specs.Sessions.{SessionTable, create, session_at, session_fault_status}
use Rattle.nfs_names.specs.Outcome.{is_ok}
use Rattle.nfs_exec.specs.Step.{Compound.{carried_out, first_item, by_first, compound}, Destroy.{destroy_session, client_fault}, ExchangeId.exchange_id}
use Rattle.nfs_exec.specs.Step.{Executing.{first_sequence, sequence_of}, Machine.{Machine, MachineOutcome, or_with_delay}, Place.{stands_alone, is_sequence}}
use Rattle.nfs_exec.specs.Step.{Parts.{wish_of, answered, ask_of, by_number, by_created}, Run.is_here, View.{CanBear, IsOpened}}
use Rattle.nfs_exec.proofs.Step.{InSteps.{exchange_id_is, create_session_is}, Terms.{by_fault, client_ended}, RefusalsFit.opened_bears}
use Rattle.nfs_promises.proofs.Network.{ReplyReading.sequenced, RepliesSpelled.{IsBad, IsMute, mute_spelled, bare_spelled}}

small : (s : Status) → status_number s < 2 ^ 32
small s = is_status_listing.small s

-- a refusal, unless it is SEQUENCE's with NFS4_OK
mute_refusal : (n : ℕ) (s : Status) → n < 2 ^ 32 → ((n == 53) && (status_number s == 0)) ≡ false → IsMute (spell_result (refusal n s))
mute_refusal n s n_small other = by (n == 34)
  where
    by : (b : Bool) → IsMute (spell_result (if b then Res.SetAttr s [] else Res.Refused n s))
    by true = record { op = 34; first = status_number s; rest = _; spelled = refl; op_small = omega arith; first_small = small s; other = refl }
    by false = record { op = n; first = status_number s; rest = []; spelled = refl; op_small = n_small; first_small = small s; other = other }

mute_bad : (n : ℕ) (s : Status) → n < 2 ^ 32 → IsBad s → IsMute (spell_result (refusal n s))
mute_bad n s n_small bad = mute_refusal n s n_small (and_right (n == 53) _ bad)

-- what a reply can bear as a refusal
nor_first : (a b : Bool) → not (a || b) ≡ true → a ≡ false
nor_first true b e = absurd cc
nor_first false b e = refl

or_right : (a b : Bool) → (a || b) ≡ true → a ≡ false → b ≡ true
or_right true b e fails = absurd cc
or_right false b e fails = e

borne : (n : ℕ) (s : Status) → IsTrue (((n == 34) && is_legal s) || can_refuse n s) → (n < 2 ^ 32) × (((n == 53) && (status_number s == 0)) ≡ false)
borne n s bears' = elim (cases_Bool (n == 34)) [
  | inl set ↦ (
      let is : n ≡ 34 = eqb-true n 34 set in
      let apart : (n == 53) ≡ false = ne_eqb n 53 (λ same. omega (arith, is, same)) in
      (omega (arith, is), rw apart refl))
  | inr plain ↦ (
      let can : can_refuse n s ≡ true = or_right ((n == 34) && is_legal s) (can_refuse n s) bears' (rw plain refl) in
      let bears'' : may_return n s ≡ true = (and_parts (may_return n s) _ can).0 in
      elim (cases_Bool (n == 10044)) [
        | inl illegal ↦ (
            let is : n ≡ 10044 = eqb-true n 10044 illegal in
            let apart : (n == 53) ≡ false = ne_eqb n 53 (λ same. omega (arith, is, same)) in
            (omega (arith, is), rw apart refl))
        | inr legal ↦ (
            let passed : ((nat_le 3 n && nat_le n 58) && not ((status_number s == 0) || (status_number s == 10044))) ≡ true = rw legal at bears'' in
            let parts = and_parts (nat_le 3 n && nat_le n 58) _ passed in
            let bound : n ≤ 58 = leb-true n 58 (and_parts (nat_le 3 n) _ parts.0).1 in
            (omega (arith, bound), and_right (n == 53) _ (nor_first (status_number s == 0) _ parts.1)))
      ])
]

-- Each lone operation.

mute_delayed : (m : Machine) (refused : Bool) (n : ℕ) (o : MachineOutcome) → n < 2 ^ 32 → IsMute o.result → IsMute (or_with_delay refused m n o).result
mute_delayed m refused n o n_small is = elim (cases_Bool (refused && is_ok o.status)) [
  | inl here ↦ rw here (mute_bad n Delay n_small refl)
  | inr other ↦ rw other is
]

mute_exchanged : (name : List ℕ) (r : Result Exchanged ClientFault) → IsMute (spell_result (answered name r))
mute_exchanged name (Ok x) = record { op = 42; first = 0; rest = _; spelled = refl; op_small = omega arith; first_small = omega arith; other = refl }
mute_exchanged name (Err fault) = record { op = 42; first = _; rest = []; spelled = refl; op_small = omega arith; first_small = small _; other = refl }

mute_made : (m : Machine) (now : ℕ) (c : CreateSession) (t : SessionTable) (r : Result SessionId SessionFault) → IsMute (by_created m now c t r).result
mute_made m now c t (Ok id) = record { op = 43; first = 0; rest = _; spelled = refl; op_small = omega arith; first_small = omega arith; other = refl }
mute_made m now c t (Err fault) = mute_refusal 43 (session_fault_status fault) (omega arith) refl

mute_created : (m : Machine) (now : ℕ) (refused : Bool) (c : CreateSession) (v : clients.Verdict) → IsMute (by_number m now refused c v).result
mute_created m now refused c clients.Stale = mute_bad 43 StaleClientId (omega arith) refl
mute_created m now refused c (clients.Again (result.Done body)) =
    record { op = 43; first = 0; rest = body; spelled = refl; op_small = omega arith; first_small = omega arith; other = refl }
mute_created m now refused c (clients.Again (result.Refused status)) = mute_refusal 43 status (omega arith) refl
mute_created m now refused c clients.Misordered = mute_bad 43 SeqMisordered (omega arith) refl
mute_created m now refused c clients.InUse = mute_bad 43 ClidInUse (omega arith) refl
mute_created m now refused c clients.Runs =
    let did = create m.sessions c.clientid (wish_of m c) in
    mute_delayed m refused 43 (by_created m now c did.after did.answer) (omega arith) (mute_made m now c did.after did.answer)

mute_destroyed : (m : Machine) (sessionid : List ℕ) → IsMute (destroy_session m sessionid).result
mute_destroyed m sessionid = elim (cases_Bool (is_some (session_at m.sessions (id_of sessionid)))) [
  | inl stood ↦ rw stood (record { op = 44; first = 0; rest = []; spelled = refl; op_small = omega arith; first_small = omega arith; other = refl })
  | inr not_there ↦ rw not_there (mute_bad 44 BadSession (omega arith) refl)
]

mute_client : (m : Machine) (client : ℕ) (o : Option Status) → IsMute (by_fault m 57 o (client_ended m client)).result
mute_client m client None = record { op = 57; first = 0; rest = []; spelled = refl; op_small = omega arith; first_small = omega arith; other = refl }
mute_client m client (Some fault) = mute_refusal 57 _ (omega arith) refl

op_small : (op : Op) → item_number (Operation op) < 2 ^ 32
op_small op = is_op_listing.small (arguments op).op

mute_carried : (m : Machine) (who : Caller) (now : ℕ) (refused : Bool) (op : Op) → IsMute (carried_out m who now refused (Operation op)).result
mute_carried m who now refused (Op.ExchangeId e) =
    mute_delayed m refused 42 (exchange_id m who now e) (omega arith)
    (subst (λ (o : MachineOutcome). IsMute o.result) (sym (exchange_id_is m who now e)) (mute_exchanged m.owner (exchange m.clients (ask_of m who e)).answer))
mute_carried m who now refused (Op.CreateSession c) =
    subst (λ (o : MachineOutcome). IsMute o.result) (sym (create_session_is m who now refused c))
    (mute_created m now refused c (clients.create_verdict m.clients c.clientid c.sequence who.uid))
mute_carried m who now refused (Op.DestroySession sessionid) = mute_destroyed m sessionid
mute_carried m who now refused (Op.DestroyClientId client) = mute_client m client (client_fault m client)
mute_carried m who now refused op = mute_bad (item_number (Operation op)) NotSupp (op_small op) refl

mute_op : (m : Machine) (n : ℕ) (alone sequence many : Bool) (o : MachineOutcome) → n < 2 ^ 32 → IsMute o.result
    → IsMute (by_fault m n (if alone && many then Some NotOnlyOp else if not (alone || sequence) then Some OpNotInSession else None) o).result
mute_op m n true sequence true o n_small is = mute_bad n _ n_small refl
mute_op m n true sequence false o n_small is = is
mute_op m n false true many o n_small is = is
mute_op m n false false many o n_small is = mute_bad n _ n_small refl

mute_first : (m : Machine) (declared : ℕ) (who : Caller) (now : ℕ) (refused : Bool) (i : Item) → CanBear i → IsMute (first_item m declared who now refused i).result
mute_first m declared who now refused (Fault n status) bears' = let is = borne n status bears' in mute_refusal n status is.0 is.1
mute_first m declared who now refused (Operation op) bears' =
    mute_op m (item_number (Operation op)) (stands_alone op) (is_sequence op) (nat_lt 1 declared) (carried_out m who now refused (Operation op)) (op_small op)
    (mute_carried m who now refused op)

-- A compound that does not begin with SEQUENCE.

mute_items : (m : Machine) (r : Request) (who : Caller) (size now : ℕ) (choice : Option ℕ) (items : List Item) → (opaque opaque_limit).Fits r.tag
    → ((item : Item) (more : List Item) → items ≡ item ∷ more → CanBear item) → first_sequence items ≡ None
    → sequenced (by_first m r who size now choice items).text ≡ false
mute_items m r who size now choice [] fits bears' none = bare_spelled (status_number Nfs4Ok) 0 r.tag (omega arith) (omega arith) fits
mute_items m r who size now choice (Operation (Op.Sequence s) ∷ more) fits bears' none = absurd cc
mute_items m r who size now choice (item ∷ more) fits bears' none =
    let o = first_item m r.declared who now (is_here choice) item in
    mute_spelled (status_number o.status) 1 r.tag o.result (small o.status) (omega arith) fits
    (mute_first m r.declared who now (is_here choice) item (bears' item more refl))

pub mute_compound : (m : Machine) (r : Request) (who : Caller) (size now : ℕ) (choice : Option ℕ) → IsOpened r → (opaque opaque_limit).Fits r.tag
    → sequence_of r ≡ None → sequenced (compound m r who size now choice).text ≡ false
mute_compound m r who size now choice opened fits none = elim (cases_Bool (r.minor == 1)) [
  | inl one ↦ rw one (mute_items m r who size now choice r.left fits (λ item more left. opened_bears r item more opened (eqb-true r.minor 1 one) left) (rw one at none))
  | inr other ↦ rw other (bare_spelled (status_number MinorVersMismatch) 0 r.tag (omega arith) (omega arith) fits)
]
