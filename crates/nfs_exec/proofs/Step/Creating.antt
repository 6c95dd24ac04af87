-- CREATE_SESSION: the bytes of its result, and what the code's steps come to.
use Rattle.std.proofs.Common.{◌≡◌, ℕ, ◌+◌, ◌-◌, ◌≤◌, Bool, true, false, cond, List, ◌++◌, length, take, drop, Option, Some, None, Result, Ok, Err, refl, sym, ◌∙◌, ap}
use Rattle.std.proofs.{Common.{subst, arith}, lemmas.{Bool.and_right, List.{length-append, length-drop, take_all}}, Math.Seq.drop-append_seam}
use Rattle.std.specs.Prelude.{IsOk, ◌&&◌}
use Rattle.nfs_xdr.specs.{SheetState.{SheetState, HasRoom, Puts}, declared.status.Status.Status, declared.status.Status.TheVariants.{Nfs4Ok, Delay}}
use Rattle.nfs_xdr.specs.Spelling.{hyper}
use Rattle.nfs_xdr.proofs.Putting.{length_hyper}
use Rattle.nfs_compound.specs.{declared.session_args.CreateSession.CreateSession, declared.op.Item.TheVariants.Operation}
use Rattle.nfs_compound.specs.declared.op.Op.TheVariants as Op
use Rattle.nfs_results.specs.{declared.res.Res.Res, Results.{spell_result, head, operation_of, status_of_result, done_head}, Parts.parts}
use Rattle.nfs_compound.specs.declared.op_num.OpNum.TheVariants as Num
use Rattle.nfs_results.proofs.Lengths.{length_result, length_head}
use Rattle.nfs_clients.specs.{Roster.Roster, declared.created.CreateResult.TheVariants.Refused, CreateSession.{Verdict, with_kept}}
use Rattle.nfs_clients.proofs.Members.{not_kept}
use Rattle.nfs_sessions.specs.{declared.id.SessionId.SessionId, declared.channel.Wish.Wish, declared.sessions.SessionFault.SessionFault}
use Rattle.nfs_sessions.specs.{declared.sessions.SessionFault.TheVariants.{TooSmall, NoSpc, ServerFault, Memory}, Id.id_bytes}
use Rattle.nfs_sessions.specs.{Sessions.{SessionTable, Created, create, create_unless, create_fault, session_fault_status}, SessionTables.CreatesOrWants}
use Rattle.nfs_names.specs.Outcome.{is_ok, is_lack}
use Rattle.nfs_exec.specs.Step.Machine.{Machine, MachineOutcome, or_with_delay, with_refusal}
use Rattle.nfs_exec.specs.{Step.CreateSession.{session_made, made_body, confirmed}, Step.View.Does}
use Rattle.nfs_exec.specs.Step.Parts.{by_number, by_created, creates}

pub length_id : (id : SessionId) → length (id_bytes id) ≡ 16
length_id id = length-append (hyper id.client) (hyper id.counter) ∙ omega (arith, length_hyper id.client, length_hyper id.counter)

pub made_long : (c : CreateSession) (id : SessionId) → length (spell_result (Res.CreateSession (session_made c id))) ≤ 92
made_long c id = length_result (Operation (Op.CreateSession c)) (Res.CreateSession (session_made c id)) (length_id id) (refl, tt, refl)

pub made_fits : (sheet : SheetState) (c : CreateSession) (id : SessionId) (r : Res)
    → length sheet.bytes + 2096 ≤ sheet.room → r ≡ Res.CreateSession (session_made c id) → HasRoom sheet (spell_result r)
made_fits sheet c id r room is =
    let long : length (spell_result r) ≤ 92 = subst (λ (r : Res). length (spell_result r) ≤ 92) (sym is) (made_long c id) in
    omega (arith, room, long)

pub the_rest : (n : ℕ) (bytes : List ℕ) → take (length bytes - n) (drop n bytes) ≡ drop n bytes
the_rest n bytes = take_all (length bytes - n) (drop n bytes) (omega (arith, length-drop n bytes))

-- what was put, and what stands behind its head

pub put_whole : (old new : SheetState) (r : Res) (begin : ℕ) → Puts old new (spell_result r)
    → begin ≡ length old.bytes → take (length new.bytes - begin) (drop begin new.bytes) ≡ spell_result r
put_whole old new r begin put at =
    the_rest begin new.bytes ∙ ap (λ n. drop n new.bytes) at ∙ ap (drop (length old.bytes)) put.bytes ∙ drop-append_seam old.bytes (spell_result r)

pub behind_head : (r : Res) (text : List ℕ) → text ≡ spell_result r → take (length text - 8) (drop 8 text) ≡ (parts r).behind
behind_head r text is =
    let front = head (operation_of r) (status_of_result r) in
    the_rest 8 text ∙ ap (drop 8) is ∙ ap (λ n. drop n (front ++ (parts r).behind)) (sym (length_head (operation_of r) (status_of_result r)))
    ∙ drop-append_seam front (parts r).behind

pub longer : (r : Res) → 8 ≤ length (spell_result r)
longer r =
    let long = length-append (head (operation_of r) (status_of_result r)) (parts r).behind in
    let front = length_head (operation_of r) (status_of_result r) in
    omega (arith, long, front)

pub body_within : (c : CreateSession) (id : SessionId) → length (made_body c id) ≤ 84
body_within c id =
    let whole = made_long c id in
    let parts_long = length-append (head 43 Nfs4Ok) (made_body c id) in
    let front = length_head 43 Nfs4Ok in
    omega (arith, whole, parts_long, front)

-- A session was made.

pub made : (m : Machine) (now : ℕ) (c : CreateSession) (id : SessionId) (did : Created) (after : SessionTable)
    (left : Machine) (body : List ℕ) (old new : SheetState) →
    Ok id ≡ did.answer → after ≡ did.after → left ≡ confirmed (record m { sessions = after }) now c.clientid body →
    body ≡ made_body c id → Puts old new (done_head Num.CreateSession ++ made_body c id) →
    Does (creates m now c did) Nfs4Ok left old new
made m now c id did after left body old new ok is kept whole put =
    subst (λ answer. Does (by_created m now c did.after answer) Nfs4Ok left old new) ok (record {
      status = refl;
      machine = kept ∙ ap (λ (t : SessionTable). confirmed (record m { sessions = t }) now c.clientid body) is
          ∙ ap (λ b. confirmed (record m { sessions = did.after }) now c.clientid b) whole;
      put = put;
    })

-- A session was refused.

no_memory : (m : Machine) (now : ℕ) (c : CreateSession) (did : Created) → IsOk did.answer
    → or_with_delay true m 43 (creates m now c did) ≡ with_refusal m 43 Delay
no_memory m now c did ok = go did.answer ok
  where
    go : (answer : Result SessionId SessionFault) → IsOk answer
        → or_with_delay true m 43 (by_created m now c did.after answer) ≡ with_refusal m 43 Delay
    go (Ok id) ok = refl
    go (Err fault) ok = absurd cc

told : (m : Machine) (now : ℕ) (c : CreateSession) (clients : Roster) (after : SessionTable) (fault : SessionFault) (s : Status)
    (old new : SheetState) (wish : Wish) (o : Option SessionFault) →
    Err fault ≡ (create_unless m.sessions c.clientid wish o).answer → after ≡ (create_unless m.sessions c.clientid wish o).after →
    clients ≡ with_kept m.clients c.clientid (Refused s) → s ≡ session_fault_status fault → is_ok s ≡ false →
    ((n : Machine) → Does (with_refusal n 43 s) s n old new) →
    Does (or_with_delay (is_lack s) m 43 (creates m now c (create_unless m.sessions c.clientid wish o))) s
    (record m { clients = clients; sessions = after }) old new
told m now c clients after fault s old new wish None answer left kept status fails does = absurd cc
told m now c clients after fault s old new wish (Some f) answer left kept status fails does =
    let same : fault ≡ f = cc in
    let is : s ≡ session_fault_status f = status ∙ ap session_fault_status same in
    let n = record m { clients = clients; sessions = after } in
    let to : n ≡ record m { clients = with_kept m.clients c.clientid (Refused (session_fault_status f)) } =
    ap (λ (t : Roster). record m { clients = t; sessions = after }) (kept ∙ ap (λ (u : Status). with_kept m.clients c.clientid (Refused u)) is)
    ∙ ap (λ (t : SessionTable). record m { clients = with_kept m.clients c.clientid (Refused (session_fault_status f)); sessions = t }) left in
    let no : is_lack s && is_ok (session_fault_status f) ≡ false = and_right (is_lack s) _ (ap is_ok (sym is) ∙ fails) in
    subst (λ b. Does (cond b (with_refusal m 43 Delay) (with_refusal (record m { clients = with_kept m.clients c.clientid (Refused (session_fault_status f)) })
    43 (session_fault_status f))) s n old new) (sym no)
    (subst (λ (k : Machine). Does (with_refusal k 43 (session_fault_status f)) s n old new) to
    (subst (λ (u : Status). Does (with_refusal n 43 u) s n old new) is (does n)))

wanted : (m : Machine) (now : ℕ) (c : CreateSession) (clients : Roster) (after : SessionTable) (s : Status) (old new : SheetState) (did : Created) →
    IsOk did.answer → after ≡ m.sessions → clients ≡ with_kept m.clients c.clientid (Refused s) → s ≡ Delay →
    ((n : Machine) → Does (with_refusal n 43 s) s n old new) →
    Does (or_with_delay (is_lack s) m 43 (creates m now c did)) s (record m { clients = clients; sessions = after }) old new
wanted m now c clients after s old new did ok left kept status does =
    let same : clients ≡ m.clients = kept ∙ ap (λ (u : Status). with_kept m.clients c.clientid (Refused u)) status
    ∙ sym (not_kept m.clients c.clientid (Refused Delay) refl) in
    let n = record m { clients = clients; sessions = after } in
    let to : n ≡ m = ap (λ (t : Roster). record m { clients = t; sessions = after }) same ∙ ap (λ (t : SessionTable). record m { sessions = t }) left in
    subst (λ (o : MachineOutcome). Does o s n old new)
    (sym (ap (λ (u : Status). or_with_delay (is_lack u) m 43 (creates m now c did)) status ∙ no_memory m now c did ok))
    (subst (λ (k : Machine). Does (with_refusal k 43 Delay) s n old new) to
    (subst (λ (u : Status). Does (with_refusal n 43 u) s n old new) status (does n)))

pub refused_session : (m : Machine) (now : ℕ) (c : CreateSession) (wish : Wish) (clients : Roster) (after : SessionTable)
    (fault : SessionFault) (s : Status) (old new : SheetState) →
    CreatesOrWants m.sessions (create m.sessions c.clientid wish) (Err fault) after →
    clients ≡ with_kept m.clients c.clientid (Refused s) → s ≡ session_fault_status fault →
    ((n : Machine) → Does (with_refusal n 43 s) s n old new) →
    Does (or_with_delay (is_lack s) m 43 (creates m now c (create m.sessions c.clientid wish))) s
    (record m { clients = clients; sessions = after }) old new
refused_session m now c wish clients after TooSmall s old new did kept status does =
    told m now c clients after TooSmall s old new wish (create_fault m.sessions wish) did.0 did.1 kept status (ap is_ok status) does
refused_session m now c wish clients after NoSpc s old new did kept status does =
    told m now c clients after NoSpc s old new wish (create_fault m.sessions wish) did.0 did.1 kept status (ap is_ok status) does
refused_session m now c wish clients after ServerFault s old new did kept status does =
    told m now c clients after ServerFault s old new wish (create_fault m.sessions wish) did.0 did.1 kept status (ap is_ok status) does
refused_session m now c wish clients after Memory s old new did kept status does =
    wanted m now c clients after s old new (create m.sessions c.clientid wish) did.0 did.1 kept status does

-- the call was refused by its number or its caller
pub refused_call : (m : Machine) (now : ℕ) (refused : Bool) (c : CreateSession) (v w : Verdict) (s t r : Status) (left : Machine) (old new : SheetState) →
    w ≡ v → by_number m now refused c w ≡ with_refusal m 43 t → s ≡ t → left ≡ m →
    ((n : Machine) → Does (with_refusal n 43 s) r n old new) → Does (by_number m now refused c v) r left old new
refused_call m now refused c v w s t r left old new is told status same does =
    subst (λ (o : MachineOutcome). Does o r left old new) (sym told ∙ ap (by_number m now refused c) is)
    (subst (λ (k : Machine). Does (with_refusal m 43 t) r k old new) (sym same)
    (subst (λ (u : Status). Does (with_refusal m 43 u) r m old new) status (does m)))
