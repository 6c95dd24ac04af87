-- What the steps of an operation are refused with has its reason, if each of its checks has.
use Rattle.std.proofs.Common.{◌≡◌, Bool, true, false, cond, List, [], ◌∷◌, ◌++◌, Option, Some, None, refl}
use Rattle.std.specs.Prelude.{Result, Ok, Err, ok_or}
use Rattle.nfs_xdr.specs.{Checks.{first_fault, judged}, declared.status.Status.Status}
use Rattle.nfs_compound.specs.{declared.op_num.OpNum.OpNum}
use Rattle.nfs_opens.specs.Steps.{◌>>=◌, ◌>>◌, in_order, require}
use Rattle.nfs_exec.specs.Step.Machine.{or_refused}
use Rattle.nfs_names.specs.{declared.context.Context.Context, Outcome.{Outcome, refuses, or_refusal}, State.State}

module _ (R : Status → Type 0) where
  abbrev pub Blames : {A : Type 0} → Result A Status → Type 0
  Blames (Err f) = R f
  Blames (Ok a) = Unit {0}

  pub then_blames : {A B : Type 0} (v : Result A Status) (next : A → Result B Status) → Blames v → ((a : A) → v ≡ Ok a → Blames (next a)) → Blames (v >>= next)
  then_blames (Err f) next is each = is
  then_blames (Ok a) next is each = each a refl

  -- each check, where those before it passed
  abbrev pub AllBlame : List (Bool × Status) → Type 0
  AllBlame [] = Unit {0}
  AllBlame (c ∷ more) = (c.0 ≡ true → R c.1) × (c.0 ≡ false → AllBlame more)

  first_blames : (b : Bool) (f : Status) (more : List (Bool × Status)) → (b ≡ true → R f) → (b ≡ false → Blames (in_order more)) → Blames (in_order ((b, f) ∷ more))
  first_blames true f more is others = is refl
  first_blames false f more is others = others refl

  pub checks_blame : (checks : List (Bool × Status)) → AllBlame checks → Blames (in_order checks)
  checks_blame [] all = tt
  checks_blame ((b, f) ∷ more) all = first_blames b f more all.0 (λ e. checks_blame more (all.1 e))

  pub all_blame : (front back : List (Bool × Status)) → AllBlame front → AllBlame back → AllBlame (front ++ back)
  all_blame [] back all more = more
  all_blame (c ∷ front) back all more = (all.0, λ e. all_blame front back (all.1 e) more)

  pub held_blames : (b : Bool) (f : Status) → (b ≡ false → R f) → Blames (require b f)
  held_blames true f why = tt
  held_blames false f why = why refl

  pub there_blames : {A : Type 0} (o : Option A) (f : Status) → (o ≡ None → R f) → Blames (ok_or o f)
  there_blames None f why = why refl
  there_blames (Some a) f why = tt

  pub bool_blames : {A : Type 0} (b : Bool) (v w : Result A Status) → (b ≡ true → Blames v) → (b ≡ false → Blames w) → Blames (cond b v w)
  bool_blames true v w one other = one refl
  bool_blames false v w one other = other refl

  pub then_checks : {A : Type 0} (checks : List (Bool × Status)) (next : Result A Status) → AllBlame checks → (in_order checks ≡ Ok tt → Blames next)
      → Blames (in_order checks >> next)
  then_checks checks next all each = then_blames (in_order checks) (λ u. next) (checks_blame checks all) (λ u e. each e)

-- How an operation ends: it is refused, or comes to an outcome of which this is so.

abbrev pub Ends : {O : Type 0} → (Status → Type 0) → (O → Type 0) → Result O Status → Type 0
Ends R Y (Err f) = R f
Ends R Y (Ok o) = Y o

pub ends_then : {O A : Type 0} (R : Status → Type 0) (Y : O → Type 0) (v : Result A Status) (next : A → Result O Status) → Blames R v
    → ((a : A) → v ≡ Ok a → Ends R Y (next a)) → Ends R Y (v >>= next)
ends_then R Y (Err f) next is each = is
ends_then R Y (Ok a) next is each = each a refl

-- the same of a step of which something is so itself
pub ends_with : {O A : Type 0} (R : Status → Type 0) (X : A → Type 0) (Y : O → Type 0) (v : Result A Status) (next : A → Result O Status) → Ends R X v
    → ((a : A) → X a → Ends R Y (next a)) → Ends R Y (v >>= next)
ends_with R X Y (Err f) next is each = is
ends_with R X Y (Ok a) next is each = each a is

pub ends_checks : {O : Type 0} (R : Status → Type 0) (Y : O → Type 0) (checks : List (Bool × Status)) (next : Result O Status) → AllBlame R checks
    → (in_order checks ≡ Ok tt → Ends R Y next) → Ends R Y (in_order checks >> next)
ends_checks R Y checks next all each = ends_then R Y (in_order checks) (λ u. next) (checks_blame R checks all) (λ u e. each e)

pub ends_so : {O : Type 0} (R : Status → Type 0) (Y : O → Type 0) (refuse : Status → O) (v : Result O Status) → ((f : Status) → R f → Y (refuse f)) → Ends R Y v
    → Y (or_refused refuse v)
ends_so R Y refuse (Err f) refused ends = refused f ends
ends_so R Y refuse (Ok o) refused ends = ends

pub answers_blame : (R : Status → Type 0) (Y : Outcome → Type 0) (s : State) (x : Context) (op : OpNum) (v : Result Outcome Status) → ((f : Status) → R f → Y (refuses s x op f))
    → Ends R Y v → Y (or_refusal s x op v)
answers_blame R Y s x op (Err f) refused ends = refused f ends
answers_blame R Y s x op (Ok o) refused ends = ends

-- where checks pass none of their tests holds
pub passed_all : (checks : List (Bool × Status)) → in_order checks ≡ Ok tt → first_fault checks ≡ None
passed_all checks e = by (first_fault checks) e
  where
    by : (o : Option Status) → judged o ≡ Ok tt → o ≡ None
    by None e = refl
    by (Some f) e = absurd cc
