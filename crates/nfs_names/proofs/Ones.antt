-- What holds of the outcome of an operation, if it is one of a table of operations.
use Rattle.std.proofs.Common.{◌≡◌, refl, Bool, true, false, cond, Option, Some, None, subst}
use Rattle.std.specs.{Prelude.{◌&&◌, IfSome}, Option.{ForSome, option_map}}
use Rattle.nfs_xdr.specs.{declared.status.Status.Status, declared.status.Status.TheVariants.{NoSpc, Delay}}
use Rattle.nfs_compound.specs.declared.op_num.OpNum.TheVariants as Num
use Rattle.nfs_compound.specs.declared.op_num.OpNum.{OpNum}
use Rattle.nfs_results.specs.Results.{status_of_result}
use Rattle.nfs_tree.specs.Profile.{is_unix}
use Rattle.nfs_names.specs.{declared.context.Context.Context, State.State, Outcome.{Outcome, refuses, or_lack, is_ok, lacks}}

-- it holds of the status where memory is refused, if it holds of both that this may be
pub is_lacked : (P : Status → Type 0) (s : State) (op : OpNum) → P Delay → P NoSpc → P (lacks s op)
is_lacked P s Num.Write delay full = elim (is_unix s.tree.profile) as (λ b. P (cond b NoSpc Delay)) [ true ↦ full | false ↦ delay ]
is_lacked P s op delay full = delay

pub by_delay : (P : Outcome → Type 0) (b : Bool) (s : State) (x : Context) (op : OpNum) (o : Outcome) → P (refuses s x op (lacks s op)) → P o → P (or_lack b s x op o)
by_delay P b s x op o refused done = elim (b && is_ok (status_of_result o.result)) as (λ k. P (cond k (refuses s x op (lacks s op)) o)) [ true ↦ refused | false ↦ done ]

-- it holds where memory was refused too, if it holds of the refusal
pub if_delayed : (P : Outcome → Type 0) (b : Bool) (s : State) (x : Context) (op : OpNum) (v : Option Outcome)
    → P (refuses s x op (lacks s op)) → IfSome v P → IfSome (option_map (or_lack b s x op) v) P
if_delayed P b s x op None refused done = tt
if_delayed P b s x op (Some o) refused done = by_delay P b s x op o refused done

-- the same, where memory may be wanted only by what grows
pub if_grown : (P : Outcome → Type 0) (grows b : Bool) (s : State) (x : Context) (op : OpNum) (v : Option Outcome)
    → (grows ≡ true → P (refuses s x op (lacks s op))) → IfSome v P → IfSome (option_map (or_lack (grows && b) s x op) v) P
if_grown P true b s x op v refused done = if_delayed P b s x op v (refused refl) done
if_grown P false b s x op None refused done = tt
if_grown P false b s x op (Some o) refused done = done

pub if_both : {P Q R : Outcome → Type 0} (v : Option Outcome) → IfSome v P → IfSome v Q → ((o : Outcome) → P o → Q o → R o) → IfSome v R
if_both None p q both = tt
if_both (Some o) p q both = both o p q

-- the same, for whoever knows the outcome
pub each_of : (P : Outcome → Type 0) (v : Option Outcome) → IfSome v P → ForSome v P
each_of P v p o e = subst (λ (v : Option Outcome). IfSome v P) e p
