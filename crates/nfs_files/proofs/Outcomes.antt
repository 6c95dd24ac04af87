-- The outcome of each operation on open files. What is none of these is taken for a refusal that changes nothing, so that laws over all
-- operations need not tell them apart.
use Rattle.std.proofs.Common.{◌≡◌, Bool, Option, Some, None, subst}
use Rattle.std.specs.{Prelude.{◌&&◌}, Option.{ForSome, option_map, unwrap_or}}
use Rattle.nfs_xdr.specs.{declared.time.Time.Time, declared.status.Status.TheVariants.NotSupp}
use Rattle.nfs_compound.specs.{Arguments.arguments, declared.op.Op.Op, declared.op.Item.Item, declared.op.Item.TheVariants.{Operation, Fault}}
use Rattle.nfs_results.specs.declared.res.Res.TheVariants as Res
use Rattle.nfs_names.specs.{declared.context.Context.Context, State.State, Outcome.{Outcome, refuses, or_lack}}
use Rattle.nfs_files.specs.Operation as table
pub use Rattle.nfs_files.specs.Operation.{grows}

abbrev pub one : State → Context → Time → Op → Outcome
one s x now op = unwrap_or (table.one s x now op) (refuses s x (arguments op).op NotSupp)

abbrev pub one_or_delay : Bool → State → Context → Time → Op → Outcome
one_or_delay refused s x now op = or_lack (grows s x op && refused) s x (arguments op).op (one s x now op)

abbrev pub comes_to : Bool → State → Context → Time → Item → Outcome
comes_to refused s x now (Operation op) = one_or_delay refused s x now op
comes_to refused s x now (Fault number status) = record { result = Res.Refused number status; state = s; context = x }

mapped_is : (f : Outcome → Outcome) (v : Option Outcome) (none o : Outcome) → option_map f v ≡ Some o → f (unwrap_or v none) ≡ o
mapped_is f None none o e = absurd cc
mapped_is f (Some found) none o e = cc

-- so it is the outcome where there is one
pub comes_is : (refused : Bool) (s : State) (x : Context) (now : Time) (i : Item) (o : Outcome)
    → table.comes_to refused s x now i ≡ Some o → comes_to refused s x now i ≡ o
comes_is refused s x now (Operation op) o e =
    mapped_is (or_lack (grows s x op && refused) s x (arguments op).op) (table.one s x now op) (refuses s x (arguments op).op NotSupp) o e
comes_is refused s x now (Fault number status) o e = absurd cc

-- what holds of all outcomes holds of it
pub for_each : (P : Outcome → Type 0) (refused : Bool) (s : State) (x : Context) (now : Time) (i : Item)
    → P (comes_to refused s x now i) → ForSome (table.comes_to refused s x now i) P
for_each P refused s x now i done o e = subst P (comes_is refused s x now i o e) done
