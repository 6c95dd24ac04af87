-- What the tree answers, under an operation's number.
use Rattle.std.proofs.Common.{◌≡◌, ◌⊎◌, ℕ, Bool, true, false, cond, eqb, List, [], Option, Some, None, refl, sym, subst, ◌∙◌, ap, inl, inr}
use Rattle.std.proofs.lemmas.Bool.{and_right}
use Rattle.std.specs.Prelude.{Result, Ok, Err, IsOk, ◌&&◌}
use Rattle.nfs_xdr.specs.{Checks.first_fault, declared.status.Status.Status}
use Rattle.nfs_compound.specs.{declared.op_num.OpNum.OpNum, OpNum.op_number}
use Rattle.nfs_results.specs.{declared.res.Res.Res, Results.{status_of_result, refusal}}
use Rattle.nfs_tree.specs.declared.fault.TreeFault.{TreeFault}
use Rattle.nfs_tree.specs.declared.fault.TreeFault.TheVariants.{NoEnt, Exist, NotDir, IsDir, NotEmpty, Inval, Fbig, NoSpc, Mlink, Deep, Counter, Memory}
use Rattle.nfs_tree.specs.{Files.Files, Calls.{Did, does_unless, DoesOrWants}}
use Rattle.nfs_names.specs.{declared.context.Context.Context, State.{State, with_tree}, Faults.tree_fault_status}
use Rattle.nfs_names.specs.Outcome.{Outcome, refuses, passed, checked, answers, or_lack, is_ok, lacks, is_delay, is_lack}
use Rattle.nfs_names.proofs.{Refusing.{IsRefusal, Refuses}, Ones.is_lacked}
use Rattle.nfs_xdr.specs.declared.status.Status.TheVariants.{Delay}

pub does_ok : {A : Type 0} (t : Files) (fault : Option TreeFault) (answer a : A) (after : Files)
    → Ok a ≡ (does_unless t fault answer after).answer → (fault ≡ None) × (a ≡ answer)
does_ok t None answer a after e = (refl, cc)
does_ok t (Some f) answer a after e = absurd cc

pub does_err : {A : Type 0} (t : Files) (fault : Option TreeFault) (answer : A) (after new : Files) (f : TreeFault)
    → Err f ≡ (does_unless t fault answer after).answer → new ≡ (does_unless t fault answer after).after
    → (fault ≡ Some f) × (new ≡ t)
does_err t None answer after new f e n = absurd cc
does_err t (Some g) answer after new f e n = (ap Some cc, n)

pub done_by_tree : {A : Type 0} (t : Files) (grows : Bool) (fault : Option TreeFault) (answer a : A) (after new : Files)
    → DoesOrWants t grows (does_unless t fault answer after) (Ok a) new
    → (fault ≡ None) × (a ≡ answer) × (new ≡ after)
done_by_tree t grows fault answer a after new d =
    let parts = does_ok t fault answer a after d.0 in
    (parts.0, parts.1, d.1 ∙ ap (λ o. (does_unless t o answer after).after) parts.0)

-- what a checked operation comes to by what its last checks say
pub by_last : {A : Type 0} (s : State) (x : Context) (op : OpNum) (v : Result A Status) (checks : A → List (Bool × Status)) (f : A → Outcome) (a : A)
    → v ≡ Ok a → first_fault (checks a) ≡ None → answers s x op (checked v checks) f ≡ f a
by_last s x op v checks f a is none = ap (λ v. answers s x op (checked v checks) f) is ∙ ap (λ o. answers s x op (passed a o) f) none

pub by_refusal : {A : Type 0} (s : State) (x : Context) (op : OpNum) (v : Result A Status) (checks : A → List (Bool × Status)) (f : A → Outcome) (a : A)
    (status : Status) → v ≡ Ok a → first_fault (checks a) ≡ Some status
    → answers s x op (checked v checks) f ≡ refuses s x op status
by_refusal s x op v checks f a status is some = ap (λ v. answers s x op (checked v checks) f) is ∙ ap (λ o. answers s x op (passed a o) f) some

pub by_error : {A : Type 0} (s : State) (x : Context) (op : OpNum) (v : Result A Status) (checks : A → List (Bool × Status)) (f : A → Outcome) (status : Status)
    → v ≡ Err status → answers s x op (checked v checks) f ≡ refuses s x op status
by_error s x op v checks f status is = ap (λ v. answers s x op (checked v checks) f) is

pub status_of_refusal : (n : ℕ) (status : Status) → status_of_result (refusal n status) ≡ status
status_of_refusal n status =
    elim (eqb n 34) as (λ b. status_of_result (cond b (Res.SetAttr status []) (Res.Refused n status)) ≡ status) [ true ↦ refl | false ↦ refl ]

-- where nothing wants memory
pub not_delayed : (refused : Bool) (s : State) (x : Context) (op : OpNum) (o : Outcome) → refused ≡ false → or_lack refused s x op o ≡ o
not_delayed refused s x op o e = ap (λ b. or_lack b s x op o) e

pub delayed : (s : State) (x : Context) (op : OpNum) (o : Outcome) → is_ok (status_of_result o.result) ≡ true → or_lack true s x op o ≡ refuses s x op (lacks s op)
delayed s x op o ok = ap (λ b. cond b (refuses s x op (lacks s op)) o) ok

-- a refusal of its own is answered whether memory was refused or not
pub own_refused : (b : Bool) (s : State) (x : Context) (op : OpNum) (status : Status)
    → is_ok status ≡ false → or_lack b s x op (refuses s x op status) ≡ refuses s x op status
own_refused b s x op status fails =
    let bad : is_ok (status_of_result (refusal (op_number op) status)) ≡ false = ap is_ok (status_of_refusal (op_number op) status) ∙ fails in
    ap (λ k. cond k (refuses s x op (lacks s op)) (refuses s x op status)) (and_right b (is_ok (status_of_result (refusal (op_number op) status))) bad)

-- the refusal of a check is one
pub judged_refusal : (b : Bool) (s : State) (x : Context) (op : OpNum) (status : Status)
    → IsRefusal status → or_lack b s x op (refuses s x op status) ≡ refuses s x op status
judged_refusal b s x op status h = own_refused b s x op status h.done

-- the outcome of a refusal that the code made, where an operation wants memory only if it grows
pub told_refusal_by : (g : Bool) (s : State) (t : Files) (x : Context) (op : OpNum) (o : Outcome) (r : Res) (status : Status)
    → r ≡ refusal (op_number op) status → t ≡ s.tree
    → refuses s x op status ≡ or_lack (g && is_lack status) s x op o
    → record { result = r; state = with_tree s t; context = x } ≡ or_lack (g && is_lack (status_of_result r)) s x op o
told_refusal_by g s t x op o r status is same e =
    let with_result : Res → Files → Outcome = λ r t. record { result = r; state = with_tree s t; context = x } in
    ap (λ r. with_result r t) is ∙ ap (with_result (refusal (op_number op) status)) same ∙ e
    ∙ sym (ap (λ r. or_lack (g && is_lack (status_of_result r)) s x op o) is
    ∙ ap (λ st. or_lack (g && is_lack st) s x op o) (status_of_refusal (op_number op) status))

-- what a refused tree reports, whatever it would have done
abbrev Wanted : {A : Type 0} → Files → Bool → Did A → Files → TreeFault → Type 0
Wanted t grows did new f = (f ≡ Memory) × (grows ≡ true) × IsOk did.answer × (new ≡ t)

abbrev Told : {A : Type 0} → Did A → Files → TreeFault → Type 0
Told did new f = (is_delay (tree_fault_status f) ≡ false) × (Err f ≡ did.answer) × (new ≡ did.after)

pub refused_by_did : {A : Type 0} (t : Files) (grows : Bool) (did : Did A) (new : Files) (f : TreeFault)
    → DoesOrWants t grows did (Err f) new → Wanted t grows did new f ⊎ Told did new f
refused_by_did t grows did new NoEnt d = inr (refl, d.0, d.1)
refused_by_did t grows did new Exist d = inr (refl, d.0, d.1)
refused_by_did t grows did new NotDir d = inr (refl, d.0, d.1)
refused_by_did t grows did new IsDir d = inr (refl, d.0, d.1)
refused_by_did t grows did new NotEmpty d = inr (refl, d.0, d.1)
refused_by_did t grows did new Inval d = inr (refl, d.0, d.1)
refused_by_did t grows did new Fbig d = inr (refl, d.0, d.1)
refused_by_did t grows did new NoSpc d = inr (refl, d.0, d.1)
refused_by_did t grows did new Mlink d = inr (refl, d.0, d.1)
refused_by_did t grows did new Deep d = inr (refl, d.0, d.1)
refused_by_did t grows did new Counter d = inr (refl, d.0, d.1)
refused_by_did t grows did new Memory d = inl (refl, d.0, d.1, d.2)

pub did_ok : {A : Type 0} (t : Files) (fault : Option TreeFault) (answer a : A) (after new : Files)
    → Ok a ≡ (does_unless t fault answer after).answer → new ≡ (does_unless t fault answer after).after
    → (fault ≡ None) × (a ≡ answer) × (new ≡ after)
did_ok t fault answer a after new e n =
    let parts = does_ok t fault answer a after e in
    (parts.0, parts.1, n ∙ ap (λ o. (does_unless t o answer after).after) parts.0)

-- memory was refused where it would have been done, or a check of its own failed
abbrev pub Wants : Bool → TreeFault → Option TreeFault → Type 0
Wants grows f fault = (f ≡ Memory) × (fault ≡ None) × (grows ≡ true)

abbrev pub Other : TreeFault → Option TreeFault → Type 0
Other f fault = (fault ≡ Some f) × (is_delay (tree_fault_status f) ≡ false)

no_fault : {A : Type 0} (t : Files) (fault : Option TreeFault) (answer : A) (after : Files) → IsOk (does_unless t fault answer after).answer → fault ≡ None
no_fault t None answer after ok = refl
no_fault t (Some f) answer after ok = absurd cc

pub refused_tree : {A : Type 0} (t : Files) (grows : Bool) (fault : Option TreeFault) (answer : A) (after new : Files) (f : TreeFault)
    → DoesOrWants t grows (does_unless t fault answer after) (Err f) new
    → (new ≡ t) × (Wants grows f fault ⊎ Other f fault)
refused_tree t grows fault answer after new f d = elim (refused_by_did t grows (does_unless t fault answer after) new f d) [
  | inl w ↦ (w.3, inl (w.0, no_fault t fault answer after w.2, w.1))
  | inr told ↦ (let p = does_err t fault answer after new f told.1 told.2 in (p.1, inr (p.0, told.0)))
]

-- the status under which an operation refuses what its tree did: that of lacking memory where that was it, and one that refuses
pub record IsFault (s : State) (op : OpNum) (f : TreeFault) (status : Status) : Type 0 where
  pub memory : f ≡ Memory → status ≡ lacks s op
  pub fails : is_ok status ≡ false

pub fault_fails : (f : TreeFault) → is_ok (tree_fault_status f) ≡ false
fault_fails f = elim f as (λ f. is_ok (tree_fault_status f) ≡ false) [
  | NoEnt ↦ refl
  | Exist ↦ refl
  | NotDir ↦ refl
  | IsDir ↦ refl
  | NotEmpty ↦ refl
  | Inval ↦ refl
  | Fbig ↦ refl
  | NoSpc ↦ refl
  | Mlink ↦ refl
  | Deep ↦ refl
  | Counter ↦ refl
  | Memory ↦ refl
]

-- of an operation whose client tries again
pub plain_fault : (s : State) (op : OpNum) (f : TreeFault) → lacks s op ≡ Delay → IsFault s op f (tree_fault_status f)
plain_fault s op f again = record { memory = λ is. ap tree_fault_status is ∙ sym again; fails = fault_fails f }

pub lacks_memory : (s : State) (op : OpNum) → is_lack (lacks s op) ≡ true
lacks_memory s op = is_lacked (λ f. is_lack f ≡ true) s op refl refl

pub lacks_fail : (s : State) (op : OpNum) → is_ok (lacks s op) ≡ false
lacks_fail s op = is_lacked (λ f. is_ok f ≡ false) s op refl refl

refused_growing : (grows : Bool) (s : State) (x : Context) (op : OpNum) (o g : Outcome) (fault : Option TreeFault) (f : TreeFault) (status : Status)
    → (fault ≡ None → o ≡ g) → (Other f fault → o ≡ refuses s x op status) → is_ok (status_of_result g.result) ≡ true → IsFault s op f status
    → Wants grows f fault ⊎ Other f fault → refuses s x op status ≡ or_lack (grows && is_lack status) s x op o
refused_growing grows s x op o g fault f status goes stops ok is (inl w) =
    let same = is.memory w.0 in
    rw w.2 (ap (refuses s x op) same
    ∙ sym (ap (λ f. or_lack (is_lack f) s x op o) same ∙ ap (λ b. or_lack b s x op o) (lacks_memory s op)
    ∙ ap (or_lack true s x op) (goes w.1) ∙ delayed s x op g ok))
refused_growing grows s x op o g fault f status goes stops ok is (inr other) =
    sym (ap (or_lack (grows && is_lack status) s x op) (stops other) ∙ own_refused (grows && is_lack status) s x op status is.fails)

-- An operation whose last check is the tree's. `may` says whether it may want memory, and `grows` whether its tree grows.

-- what was done
pub told_done : {A : Type 0} (may grows : Bool) (s : State) (x : Context) (op : OpNum) (o : Outcome) (result : A → Res) (context : A → Context)
    (fault : Option TreeFault) (answer a : A) (after new : Files)
    → (fault ≡ None → o ≡ record { result = result answer; state = with_tree s after; context = context answer })
    → DoesOrWants s.tree grows (does_unless s.tree fault answer after) (Ok a) new
    → record { result = result a; state = with_tree s new; context = context a } ≡ or_lack (may && false) s x op o
told_done may grows s x op o result context fault answer a after new goes d =
    let did = done_by_tree s.tree grows fault answer a after new d in
    ap (λ a. record { result = result a; state = with_tree s new; context = context a }) did.1
    ∙ ap (λ t. record { result = result answer; state = with_tree s t; context = context answer }) did.2
    ∙ sym (not_delayed (may && false) s x op o (and_right may false refl) ∙ goes did.0)

-- what the tree refused
pub told_fault : {A : Type 0} (may grows : Bool) (s : State) (x : Context) (op : OpNum) (o done : Outcome) (r : Res)
    (fault : Option TreeFault) (answer : A) (after new : Files) (f : TreeFault) (status : Status)
    → may ≡ grows → IsFault s op f status → r ≡ refusal (op_number op) status
    → (fault ≡ None → o ≡ done) → (Other f fault → o ≡ refuses s x op status) → is_ok (status_of_result done.result) ≡ true
    → DoesOrWants s.tree grows (does_unless s.tree fault answer after) (Err f) new
    → record { result = r; state = with_tree s new; context = x } ≡ or_lack (may && is_lack (status_of_result r)) s x op o
told_fault may grows s x op o done r fault answer after new f status same by is goes stops ok d =
    let did = refused_tree s.tree grows fault answer after new f d in
    told_refusal_by may s new x op o r status is did.0
    (subst (λ b. refuses s x op status ≡ or_lack (b && is_lack status) s x op o) (sym same)
    (refused_growing grows s x op o done fault f status goes stops ok by did.1))

-- what was refused before the tree was asked
pub told_stop : (may : Bool) (s : State) (x : Context) (op : OpNum) (o : Outcome) (r : Res) (status : Status) → IsRefusal status → o ≡ refuses s x op status
    → r ≡ refusal (op_number op) status → record { result = r; state = s; context = x } ≡ or_lack (may && is_lack (status_of_result r)) s x op o
told_stop may s x op o r status own is told =
    told_refusal_by may s s.tree x op o r status told refl
    (sym (ap (or_lack (may && is_lack status) s x op) is ∙ judged_refusal (may && is_lack status) s x op status own))

pub told_error : {A : Type 0} (may : Bool) (s : State) (x : Context) (op : OpNum) (v : Result A Status) (checks : A → List (Bool × Status)) (f : A → Outcome)
    (r : Res) (status : Status) → Refuses v → v ≡ Err status → r ≡ refusal (op_number op) status
    → record { result = r; state = s; context = x } ≡ or_lack (may && is_lack (status_of_result r)) s x op (answers s x op (checked v checks) f)
told_error may s x op v checks f r status all is told =
    told_stop may s x op (answers s x op (checked v checks) f) r status (all.each status is) (by_error s x op v checks f status is) told
