-- What holds of the steps of an operation, one after the other.
use Rattle.std.proofs.Common.{◌≡◌, Bool, true, false, List, Option, Some, None, refl}
use Rattle.std.specs.Prelude.{Result, Ok, Err, ok_or}
use Rattle.nfs_xdr.specs.{Checks.{first_fault, judged}, declared.status.Status.Status}
use Rattle.nfs_compound.specs.declared.op_num.OpNum.{OpNum}
use Rattle.nfs_opens.specs.Steps.{◌>>=◌, ◌>>◌, in_order, require}
use Rattle.nfs_names.specs.{declared.context.Context.Context, State.State, Outcome.{Outcome, refuses, or_refusal}}
use Rattle.nfs_names.proofs.Refusing.{IsRefusal, Refuses, is_refusal, refusal_by, all_refuse, first_refusal}

-- How the steps end: in a refusal, or in an outcome of which this holds.
abbrev pub Ends : (Outcome → Type 0) → Result Outcome Status → Type 0
Ends P (Err f) = IsRefusal f
Ends P (Ok o) = P o

pub ends_found : {A : Type 0} (P : Outcome → Type 0) (v : Result A Status) (next : A → Result Outcome Status) → Refuses v
    → ((a : A) → v ≡ Ok a → Ends P (next a)) → Ends P (v >>= next)
ends_found P (Err f) next all more = all.each f refl
ends_found P (Ok a) next all more = more a refl

pub ends_there : {A : Type 0} (P : Outcome → Type 0) (o : Option A) (f : Status) (next : A → Result Outcome Status) → is_refusal f ≡ true
    → ((a : A) → o ≡ Some a → Ends P (next a)) → Ends P (ok_or o f >>= next)
ends_there P None f next is more = refusal_by f is
ends_there P (Some a) f next is more = more a refl

pub ends_held : (P : Outcome → Type 0) (b : Bool) (f : Status) (next : Result Outcome Status) → is_refusal f ≡ true
    → (b ≡ true → Ends P next) → Ends P (require b f >> next)
ends_held P true f next is more = more refl
ends_held P false f next is more = refusal_by f is

pub ends_passed : (P : Outcome → Type 0) (checks : List (Bool × Status)) (next : Result Outcome Status) → all_refuse checks ≡ true
    → (first_fault checks ≡ None → Ends P next) → Ends P (in_order checks >> next)
ends_passed P checks next all more = by_fault (first_fault checks) refl
  where
    by_fault : (o : Option Status) → first_fault checks ≡ o → Ends P (judged o >> next)
    by_fault None e = more e
    by_fault (Some f) e = first_refusal checks all f e

pub by_steps : (P : Outcome → Type 0) (s : State) (x : Context) (op : OpNum) (v : Result Outcome Status)
    → ((f : Status) → IsRefusal f → P (refuses s x op f)) → Ends P v → P (or_refusal s x op v)
by_steps P s x op (Err f) refused ends = refused f ends
by_steps P s x op (Ok o) refused ends = ends

-- What comes of steps of which the front was taken apart.

-- a check between two of them, with what is found by it
pub through : {A B C F : Type 0} (v : Result A F) (check : A → Result (Unit {0}) F) (found : A → Result B F) (next : B → Result C F)
    → (v >>= λ a. check a >> (found a >>= next)) ≡ ((v >>= λ a. check a >> found a) >>= next)
through (Err f) check found next = refl
through {A} {B} {C} {F} (Ok a) check found next = by_check (check a)
  where
    by_check : (r : Result (Unit {0}) F) → (r >> (found a >>= next)) ≡ ((r >> found a) >>= next)
    by_check (Err f) = refl
    by_check (Ok u) = refl
