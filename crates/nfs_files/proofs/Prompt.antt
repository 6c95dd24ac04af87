-- What answers no NFS4ERR_DELAY: checks of which none does, and what is made of them; and the operations on names.
use Rattle.std.proofs.Common.{◌≡◌, Bool, true, false, not, List, [], ◌∷◌, Option, Some, None, refl, sym, ◌∙◌, ap, inl, inr}
use Rattle.std.proofs.lemmas.Bool.{cases_Bool, and_parts}
use Rattle.std.specs.Prelude.{◌&&◌, Result, Ok, Err, IfSome}
use Rattle.nfs_xdr.specs.{Checks.first_fault, declared.time.Time.Time, declared.status.Status.Status}
use Rattle.nfs_compound.specs.{OpNum.op_number, declared.op_num.OpNum.OpNum, declared.op.Op.Op}
use Rattle.nfs_results.specs.Results.{status_of_result}
use Rattle.nfs_names.specs.{declared.context.Context.Context, State.State, Outcome.{Outcome, answers, is_delay}, Checks.current, Operation.one}
use Rattle.nfs_names.proofs.{Bounds.{Answers, answers_one}, Faulted.status_of_refusal, NameLaws.current_refuses, Refusing.Refuses}

-- what all checks answer passes a test, and so does what the first that fails does
abbrev pub all_pass : {F : Type 0} → (F → Bool) → List (Bool × F) → Bool
all_pass test [] = true
all_pass test (check ∷ checks) = test check.1 && all_pass test checks

pub first_passes : {F : Type 0} (test : F → Bool) (checks : List (Bool × F)) → all_pass test checks ≡ true → (fault : F) → first_fault checks ≡ Some fault
    → test fault ≡ true
first_passes test [] all fault e = absurd cc
first_passes test (check ∷ checks) all fault e =
    let p = and_parts (test check.1) (all_pass test checks) all in
    elim (cases_Bool check.0) [
      | inl fails ↦ (let is : Some check.1 ≡ Some fault = rw fails at e in let same : check.1 ≡ fault = cc in ap test (sym same) ∙ p.0)
      | inr passes ↦ first_passes test checks p.1 fault (rw passes at e)
    ]

-- none of these checks answers NFS4ERR_DELAY
abbrev pub calm : List (Bool × Status) → Bool
calm checks = all_pass (λ s. not (is_delay s)) checks

abbrev pub IsPrompt : {A : Type 0} → Result A Status → Type 0
IsPrompt v = (status : Status) → v ≡ Err status → is_delay status ≡ false

pub not_true : (b : Bool) → not b ≡ true → b ≡ false
not_true true e = absurd cc
not_true false e = refl

pub first_prompt : (checks : List (Bool × Status)) → calm checks ≡ true → (status : Status) → first_fault checks ≡ Some status → is_delay status ≡ false
first_prompt checks all status e = not_true (is_delay status) (first_passes (λ s. not (is_delay s)) checks all status e)

pub err_prompt : {A : Type 0} (fault : Status) → is_delay fault ≡ false → IsPrompt {A = A} (Err fault)
err_prompt fault fails status e = let same : fault ≡ status = cc in ap is_delay (sym same) ∙ fails

pub ok_prompt : {A : Type 0} (a : A) → IsPrompt (Ok a)
ok_prompt a status e = absurd cc

-- what is refused for a reason of an operation's own
pub own_prompt : {A : Type 0} (v : Result A Status) → Refuses v → IsPrompt v
own_prompt v all status e = (all.each status e).prompt

pub current_prompt : (s : State) (x : Context) → IsPrompt (current s x)
current_prompt s x = own_prompt (current s x) (current_refuses s x)

-- what an operation answers
pub answered_prompt : {A : Type 0} (s : State) (x : Context) (op : OpNum) (v : Result A Status) (f : A → Outcome) → IsPrompt v
    → ((a : A) → is_delay (status_of_result (f a).result) ≡ false) → is_delay (status_of_result (answers s x op v f).result) ≡ false
answered_prompt s x op (Err fault) f is done = ap is_delay (status_of_refusal (op_number op) fault) ∙ is fault refl
answered_prompt s x op (Ok a) f is done = done a

-- The operations on names.

prompt_some : (op : Op) (v : Option Outcome) → IfSome v (Answers op) → IfSome v (λ o. is_delay (status_of_result o.result) ≡ false)
prompt_some op None answers = tt
prompt_some op (Some o) answers = answers.prompt

pub names_prompt : (s : State) (x : Context) (now : Time) (op : Op) → IfSome (one s x now op) (λ o. is_delay (status_of_result o.result) ≡ false)
names_prompt s x now op = prompt_some op (one s x now op) (answers_one s x now op)
