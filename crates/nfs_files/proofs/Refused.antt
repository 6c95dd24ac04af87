-- What the table of opens refuses leaves it as it was, and what is answered then.
use Rattle.std.proofs.{Common.{◌≡◌, ◌⊎◌, Bool, true, false, cond, not, refl, sym, ◌∙◌, ap, inl, inr}, lemmas.Bool.and_right}
use Rattle.std.specs.Prelude.{Result, Ok, Err, ◌&&◌, IsOk}
use Rattle.nfs_xdr.specs.{declared.status.Status.Status}
use Rattle.nfs_xdr.specs.declared.status.Status.TheVariants as S
use Rattle.nfs_compound.specs.{declared.op_num.OpNum.OpNum, OpNum.op_number}
use Rattle.nfs_results.specs.{declared.res.Res.Res, Results.{refusal, status_of_result}}
use Rattle.nfs_opens.specs.{declared.stateid.StateId.StateId, declared.locking.OpenFault.OpenFault, Table.{Table, answer_of, table_after}, Steps.map_err}
use Rattle.nfs_opens.specs.declared.locking.OpenFault.TheVariants as F
use Rattle.nfs_opens.proofs.CallLaws.{did_is, refused_is}
use Rattle.nfs_compound.specs.declared.op_num.OpNum.TheVariants as Num
use Rattle.nfs_opens.specs.Calls as calls
use Rattle.nfs_names.specs.{declared.context.Context.Context, State.State, Outcome.{Outcome, refuses, answers, or_lack, is_ok, lacks, is_lack}, Ending.with_opens}
use Rattle.nfs_files.specs.{Denied.open_fault_status, Lock.locked, Parts.unlocked}
use Rattle.nfs_names.proofs.Faulted.{status_of_refusal}

-- the outcome of a refusal that the code made
abbrev pub told_with : State → Context → Res → Table → Outcome
told_with s x r t = record { result = r; state = with_opens s t; context = x }

pub by_refusal : {A : Type 0} (s : State) (x : Context) (op : OpNum) (did : Result (A × Table) Status) (f : A × Table → Outcome) (status : Status) (r : Res)
    (after : Table)
    → Err status ≡ answer_of did → after ≡ table_after s.opens did → r ≡ refusal (op_number op) status → told_with s x r after ≡ answers s x op did f
by_refusal s x op did f status r after e left is =
    let no = refused_is s.opens did status e in
    ap (λ r. told_with s x r after) is ∙ ap (told_with s x (refusal (op_number op) status)) (left ∙ no.1) ∙ sym (ap (λ v. answers s x op v f) no.0)

-- and of what was granted
pub by_grant : {A : Type 0} (s : State) (x : Context) (op : OpNum) (did : Result (A × Table) Status) (f : A × Table → Outcome) (a : A) (after : Table)
    → Ok a ≡ answer_of did → after ≡ table_after s.opens did → f (a, after) ≡ answers s x op did f
by_grant s x op did f a after e left = ap (λ t. f (a, t)) left ∙ sym (ap (λ v. answers s x op v f) (did_is s.opens did a (sym e)))

-- a refusal of its own comes before the want of memory
not_both : (status : Status) → is_lack status && is_ok status ≡ false
not_both S.Nfs4Ok = refl
not_both status = and_right (is_lack status) false refl

pub own_refusal : (w : Bool) (s : State) (x : Context) (op : OpNum) (status : Status) (o : Outcome)
    → status_of_result o.result ≡ status → or_lack (w && is_lack status) s x op o ≡ o
own_refusal w s x op status o e =
    let no : (w && is_lack status) && is_ok (status_of_result o.result) ≡ false = elim w as (λ v. (v && is_lack status) && is_ok (status_of_result o.result) ≡ false)
    [ true ↦ ap (λ st. is_lack status && is_ok st) e ∙ not_both status | false ↦ refl ] in
    ap (λ b. cond b (refuses s x op (lacks s op)) o) no

-- a refusal of an operation's own checks, as its code makes it
pub told_refusal : (w : Bool) (s : State) (x : Context) (op : OpNum) (o : Outcome) (status : Status) (r : Res) → o ≡ refuses s x op status
    → r ≡ refusal (op_number op) status → told_with s x r s.opens ≡ or_lack (w && is_lack (status_of_result r)) s x op o
told_refusal w s x op o status r same is =
    let told : status_of_result r ≡ status = ap status_of_result is ∙ status_of_refusal (op_number op) status in
    let status_is : status_of_result o.result ≡ status = ap (λ (o : Outcome). status_of_result o.result) same ∙ status_of_refusal (op_number op) status in
    ap (λ r. told_with s x r s.opens) is
    ∙ sym (ap (λ k. or_lack (w && is_lack k) s x op o) told ∙ own_refusal w s x op status o status_is ∙ same)

-- what a refused call of the table reports: want of memory where it would have been done, or a refusal of its own
abbrev pub Wanted : Table → Bool → Result (StateId × Table) OpenFault → Table → OpenFault → Type 0
Wanted old grows did new fault = (fault ≡ F.Memory) × (grows ≡ true) × IsOk did × (new ≡ old)

abbrev pub Told : Table → Result (StateId × Table) OpenFault → Table → OpenFault → Type 0
Told old did new fault = (Err fault ≡ answer_of did) × (new ≡ table_after old did)

pub unlock_tells : (old : Table) (whole : Bool) (did : Result (StateId × Table) OpenFault) (new : Table) (fault : OpenFault)
    → calls.UnlocksOrWants old whole did (Err fault) new → Wanted old (not whole) did new fault ⊎ Told old did new fault
unlock_tells old whole did new (F.Refused status) h = inr h
unlock_tells old whole did new (F.Denied held) h = inr h
unlock_tells old whole did new F.Memory h = inl (refl, h.0, h.1, h.2)

pub lock_tells : (old : Table) (did : Result (StateId × Table) OpenFault) (new : Table) (fault : OpenFault)
    → calls.LocksOrWants old did (Err fault) new → Wanted old true did new fault ⊎ Told old did new fault
lock_tells old did new (F.Refused status) h = inr h
lock_tells old did new (F.Denied held) h = inr h
lock_tells old did new F.Memory h = inl (refl, refl, h.0, h.1)

-- what an outcome by such a call comes to, if it is done where the call is, and refuses where the call does
pub refused_outcome : (s : State) (x : Context) (op : OpNum) (grows : Bool) (did : Result (StateId × Table) OpenFault)
    (outcome : Result (StateId × Table) OpenFault → Outcome) (fault : OpenFault) (r : Res) (new : Table)
    → ((v : Result (StateId × Table) OpenFault) → IsOk v → is_ok (status_of_result (outcome v).result) ≡ true)
    → outcome (Err fault) ≡ refuses s x op (open_fault_status fault)
    → lacks s op ≡ S.Delay → r ≡ refusal (op_number op) (open_fault_status fault) → Wanted s.opens grows did new fault ⊎ Told s.opens did new fault
    → told_with s x r new ≡ or_lack (grows && is_lack (open_fault_status fault)) s x op (outcome did)
refused_outcome s x op grows did outcome fault r new goes stops again is (inl wanted) =
    let o = outcome did in
    ap (λ r. told_with s x r new) is ∙ ap (told_with s x (refusal (op_number op) (open_fault_status fault))) wanted.3 ∙ ap (λ f. refuses s x op (open_fault_status f)) wanted.0
    ∙ sym (ap (λ f. or_lack (grows && is_lack (open_fault_status f)) s x op o) wanted.0 ∙ ap (λ g. or_lack (g && true) s x op o) wanted.1
    ∙ ap (λ k. cond k (refuses s x op (lacks s op)) o) (goes did wanted.2) ∙ ap (refuses s x op) again)
refused_outcome s x op grows did outcome fault r new goes stops again is (inr told) =
    let no = refused_is s.opens did fault told.0 in
    let o = outcome did in
    let same : o ≡ refuses s x op (open_fault_status fault) = ap outcome no.0 ∙ stops in
    let status : status_of_result o.result ≡ open_fault_status fault =
    ap (λ (o : Outcome). status_of_result o.result) same ∙ status_of_refusal (op_number op) (open_fault_status fault) in
    ap (λ r. told_with s x r new) is ∙ ap (told_with s x (refusal (op_number op) (open_fault_status fault))) (told.1 ∙ no.1)
    ∙ sym (own_refusal grows s x op (open_fault_status fault) o status ∙ same)

-- what LOCKU comes to, by what the table says
abbrev pub unlocked_by : State → Context → Result (StateId × Table) OpenFault → Outcome
unlocked_by s x v = answers s x Num.LockU (map_err open_fault_status v) (λ did. unlocked s x did.0 did.1)

pub unlocked_is : (s : State) (x : Context) (did : Result (StateId × Table) Status)
    → unlocked_by s x (map_err F.Refused did) ≡ answers s x Num.LockU did (λ did. unlocked s x did.0 did.1)
unlocked_is s x (Err status) = refl
unlocked_is s x (Ok did) = refl

pub ok_unlocked : (s : State) (x : Context) (v : Result (StateId × Table) OpenFault) → IsOk v → is_ok (status_of_result (unlocked_by s x v).result) ≡ true
ok_unlocked s x (Ok did) h = refl
ok_unlocked s x (Err fault) h = absurd cc

pub ok_locked : (s : State) (x : Context) (v : Result (StateId × Table) OpenFault) → IsOk v → is_ok (status_of_result (locked s x v).result) ≡ true
ok_locked s x (Ok did) h = refl
ok_locked s x (Err fault) h = absurd cc

pub granted_outcome : (grows : Bool) (s : State) (x : Context) (did : Result (StateId × Table) OpenFault) (id : StateId) (after : Table)
    → Ok id ≡ answer_of did → after ≡ table_after s.opens did
    → unlocked s x id after ≡ or_lack (grows && is_lack S.Nfs4Ok) s x Num.LockU (unlocked_by s x did)
granted_outcome grows s x did id after e left =
    let same : unlocked s x id after ≡ unlocked_by s x did = ap (unlocked s x id) left ∙ sym (ap (unlocked_by s x) (did_is s.opens did id (sym e))) in
    same ∙ sym (own_refusal grows s x Num.LockU S.Nfs4Ok (unlocked_by s x did) (ap (λ (o : Outcome). status_of_result o.result) (sym same)))

-- an OPEN for which there was no memory is refused with that alone, and nothing changed
pub told_delay : (s left : State) (x context : Context) (op : OpNum) (o : Outcome) (status : Status) (r : Res) → is_ok (status_of_result o.result) ≡ true
    → lacks s op ≡ S.Delay → (status ≡ S.Delay) × (left ≡ s) × (context ≡ x) → r ≡ refusal (op_number op) status
    → record { result = r; state = left; context = context } ≡ or_lack (is_lack (status_of_result r)) s x op o
told_delay s left x context op o status r done again is same =
    let told : r ≡ refusal (op_number op) S.Delay = same ∙ ap (refusal (op_number op)) is.0 in
    let delayed : is_lack (status_of_result r) ≡ true = ap (λ r. is_lack (status_of_result r)) told ∙ ap is_lack (status_of_refusal (op_number op) S.Delay) in
    rw (delayed, done, told, is.1, is.2, again) refl
