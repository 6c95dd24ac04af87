-- What one operation comes to: its result, and the state and the context behind it.
use Rattle.std.specs.{Prelude.{◌==◌, ◌&&◌, ◌||◌, Bool, List, Option, Some, None, Result, Ok, Err, if◌then◌else◌}, Option.option_map}
use Rattle.nfs_xdr.specs.{Checks.first_fault, declared.time.Time.Time, Status.status_number, declared.status.Status.Status}
use Rattle.nfs_xdr.specs.declared.status.Status.TheVariants.{Nfs4Ok, NoSpc, Delay}
use Rattle.nfs_compound.specs.declared.op_num.OpNum.TheVariants as Num
use Rattle.nfs_compound.specs.{declared.op_num.OpNum.OpNum, OpNum.op_number, Arguments.arguments, declared.op.Op.Op, declared.op.Item.Item}
use Rattle.nfs_compound.specs.declared.op.Item.TheVariants.{Operation, Fault}
use Rattle.nfs_results.specs.{declared.res.Res.Res, Results.{status_of_result, refusal}}
use Rattle.nfs_tree.specs.Profile.{is_unix}
use Rattle.nfs_names.specs.{declared.context.Context.Context, State.State}

pub record Outcome : Type 0 where
  pub result : Res
  pub state : State
  pub context : Context

-- it was done, and the state is as before
abbrev pub done : State → Context → Res → Outcome
done s x r = record { result = r; state = s; context = x }

-- it was refused, and nothing changed
abbrev pub refuses : State → Context → OpNum → Status → Outcome
refuses s x op status = record { result = refusal (op_number op) status; state = s; context = x }

-- The checks of an operation in their order, of what was found: the first that fails decides.
abbrev pub passed : {A : Type 0} → A → Option Status → Result A Status
passed a None = Ok a
passed a (Some status) = Err status

abbrev pub checked : {A : Type 0} → Result A Status → (A → List (Bool × Status)) → Result A Status
checked (Err status) checks = Err status
checked (Ok a) checks = passed a (first_fault (checks a))

-- what follows from what was found
abbrev pub mapped : {A B : Type 0} → (A → B) → Result A Status → Result B Status
mapped f (Err status) = Err status
mapped f (Ok a) = Ok (f a)

-- The steps of an operation: it is refused, or comes to an outcome.
abbrev pub or_refusal : State → Context → OpNum → Result Outcome Status → Outcome
or_refusal s x op (Err status) = refuses s x op status
or_refusal s x op (Ok o) = o

-- An operation is refused, or comes to an outcome by what was found.
abbrev pub answers : {A : Type 0} → State → Context → OpNum → Result A Status → (A → Outcome) → Outcome
answers s x op (Err status) outcome = refuses s x op status
answers s x op (Ok a) outcome = outcome a

abbrev pub is_ok : Status → Bool
is_ok status = status_number status == status_number Nfs4Ok

abbrev pub is_delay : Status → Bool
is_delay status = status_number status == status_number Delay

-- The status where memory is refused (RFC 8881 sections 15.1.1.3 and 15.1.4.9): NFS4ERR_DELAY, by which the client tries again. In the profile
-- `unix` the bytes of a WRITE are refused with NFS4ERR_NOSPC: its client would try again without end, and its program would never hear of it.
abbrev pub lacks : State → OpNum → Status
lacks s Num.Write = if is_unix s.tree.profile then NoSpc else Delay
lacks s op = Delay

-- whether a status is one of these
abbrev pub is_lack : Status → Bool
is_lack status = is_delay status || status_number status == status_number NoSpc

-- where memory was refused, that status stands in place of NFS4_OK and nothing changed; a refusal of its own comes before that
abbrev pub or_lack : Bool → State → Context → OpNum → Outcome → Outcome
or_lack refused s x op o = if refused && is_ok (status_of_result o.result) then refuses s x op (lacks s op) else o

-- What stands at a place of a compound comes to by a table of operations, where memory was refused or not; a fault is in no table.
abbrev pub by_table : (grows : State → Context → Op → Bool) → (one : State → Context → Time → Op → Option Outcome)
    → (refused : Bool) → State → Context → Time → Item → Option Outcome
by_table grows one refused s x now (Operation op) = option_map (or_lack (grows s x op && refused) s x (arguments op).op) (one s x now op)
by_table grows one refused s x now (Fault number status) = None
