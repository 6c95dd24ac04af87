-- Which refusals are an operation's own: each is one that a reply can bear, and none is for want of memory.
use Rattle.std.proofs.{Common.{◌≡◌, Bool, true, false, cond, eqb, List, [], ◌∷◌, Option, Some, None, refl, ap, subst}, lemmas.Bool.{and_parts, not-true}}
use Rattle.std.specs.{Prelude.{Result, Ok, Err, ◌&&◌, not, ok_or}, List.list_all}
use Rattle.nfs_xdr.specs.{Checks.{first_fault, judged}, Status.status_number, declared.status.Status.Status}
use Rattle.nfs_compound.specs.{declared.op_num.OpNum.OpNum, OpNum.op_number}
use Rattle.nfs_results.specs.{declared.res.Res.Res, Results.refusal}
use Rattle.nfs_opens.specs.Steps.{◌>>=◌, in_order, require}
use Rattle.nfs_names.specs.{declared.context.Context.Context, State.State, Outcome.{Outcome, passed, checked, mapped, answers, is_delay}}

-- neither NFS4_OK nor that of an operation that there is not, nor NFS4ERR_DELAY
pub record IsRefusal (status : Status) : Type 0 where
  pub done : eqb (status_number status) 0 ≡ false
  pub legal : eqb (status_number status) 10044 ≡ false
  pub prompt : is_delay status ≡ false

-- computes where the status is written out
abbrev pub is_refusal : Status → Bool
is_refusal f = not (eqb (status_number f) 0) && (not (eqb (status_number f) 10044) && not (is_delay f))

pub refusal_by : (f : Status) → is_refusal f ≡ true → IsRefusal f
refusal_by f e =
    let parts = and_parts _ _ e in
    let rest = and_parts _ _ parts.1 in
    record { done = not-true _ parts.0; legal = not-true _ rest.0; prompt = not-true _ rest.1 }

pub record Refuses {A : Type 0} (v : Result A Status) : Type 0 where
  pub each : (status : Status) → v ≡ Err status → IsRefusal status

abbrev pub all_refuse : List (Bool × Status) → Bool
all_refuse checks = list_all (λ check. is_refusal check.1) checks

pub first_refusal : (checks : List (Bool × Status)) → all_refuse checks ≡ true → (f : Status) → first_fault checks ≡ Some f → IsRefusal f
first_refusal [] all f e = absurd cc
first_refusal (check ∷ checks) all f e =
    let parts = and_parts (is_refusal check.1) (all_refuse checks) all in
    by_test check.0 check.1 f (first_fault checks) (refusal_by check.1 parts.0) (first_refusal checks parts.1 f) e
  where
    by_test : (b : Bool) (g f : Status) (rest : Option Status) → IsRefusal g → (rest ≡ Some f → IsRefusal f) → cond b (Some g) rest ≡ Some f → IsRefusal f
    by_test true g f rest here more e = let same : g ≡ f = cc in subst IsRefusal same here
    by_test false g f rest here more e = more e

pub err_refuses : {A : Type 0} (g : Status) → IsRefusal g → Refuses {A = A} (Err g)
err_refuses g h = record { each = λ f e. let same : g ≡ f = cc in subst IsRefusal same h }

pub ok_refuses : {A : Type 0} (a : A) → Refuses {A = A} (Ok a)
ok_refuses a = record { each = λ f e. absurd cc }

pub there_refuses : {A : Type 0} (o : Option A) (f : Status) → is_refusal f ≡ true → Refuses (ok_or o f)
there_refuses None f is = err_refuses f (refusal_by f is)
there_refuses (Some a) f is = ok_refuses a

pub held_refuses : (b : Bool) (f : Status) → is_refusal f ≡ true → Refuses (require b f)
held_refuses true f is = ok_refuses tt
held_refuses false f is = err_refuses f (refusal_by f is)

pub order_refuses : (checks : List (Bool × Status)) → all_refuse checks ≡ true → Refuses (in_order checks)
order_refuses checks all = record { each = λ f e. first_refusal checks all f (judged_err (first_fault checks) f e) }
  where
    judged_err : (o : Option Status) (f : Status) → judged o ≡ Err f → o ≡ Some f
    judged_err None f e = absurd cc
    judged_err (Some g) f e = cc

pub refuses_then : {A B : Type 0} (v : Result A Status) (next : A → Result B Status) → Refuses v → ((a : A) → Refuses (next a)) → Refuses (v >>= next)
refuses_then (Err g) next rest each = err_refuses g (rest.each g refl)
refuses_then (Ok a) next rest each = each a

passed_refuses : {A : Type 0} (a : A) (o : Option Status) (f : Status) → passed a o ≡ Err f → o ≡ Some f
passed_refuses a None f e = absurd cc
passed_refuses a (Some g) f e = ap Some cc

pub refuses_checked : {A : Type 0} (v : Result A Status) (checks : A → List (Bool × Status))
    → Refuses v → ((a : A) → all_refuse (checks a) ≡ true) → Refuses (checked v checks)
refuses_checked (Err g) checks rest all = record { each = λ f e. rest.each f e }
refuses_checked (Ok a) checks rest all =
    record { each = λ f e. first_refusal (checks a) (all a) f (passed_refuses a (first_fault (checks a)) f e) }

pub refuses_mapped : {A B : Type 0} (f : A → B) (v : Result A Status) → Refuses v → Refuses (mapped f v)
refuses_mapped f (Err g) rest = record { each = λ h e. let same : g ≡ h = cc in subst IsRefusal same (rest.each g refl) }
refuses_mapped f (Ok a) rest = record { each = λ h e. absurd cc }

-- a fact of each refusal, and of what is done, holds of the result
pub answers_with : {A : Type 0} (P : Res → Type 0) (s : State) (x : Context) (op : OpNum) (v : Result A Status) (f : A → Outcome)
    → Refuses v → ((status : Status) → IsRefusal status → P (refusal (op_number op) status)) → ((a : A) → P (f a).result)
    → P (answers s x op v f).result
answers_with P s x op (Err status) f all refused done = refused status (all.each status refl)
answers_with P s x op (Ok a) f all refused done = done a
