-- What the code's answer to one operation says.
use Rattle.std.specs.Prelude.{◌≡◌, ◌&&◌, Bool}
use Rattle.nfs_xdr.specs.{SheetState.SheetState, declared.status.Status.Status}
use Rattle.nfs_compound.specs.declared.op_num.OpNum.{OpNum}
use Rattle.nfs_results.specs.{declared.res.Res.Res, Results.status_of_result}
use Rattle.nfs_names.specs.{declared.context.Context.Context, State.State, Outcome.{Outcome, is_lack, or_lack}, Comes.Comes}

abbrev pub outcome_of : Res → State → Context → Outcome
outcome_of r s x = record { result = r; state = s; context = x }

-- The answer of an operation that wants memory where `wants` says so, and what it leaves: what its steps come to, or NFS4ERR_DELAY and nothing changed.
abbrev pub MayWant : (wants : Bool) → (before : State) (at : Context) → OpNum → Outcome → (answer : Res) (s : State) (x : Context) → Type 0
MayWant wants before at op o answer s x = outcome_of answer s x ≡ or_lack (wants && is_lack (status_of_result answer)) before at op o

-- The same of one that puts its result on the sheet and answers its status.
abbrev pub ComesOrWants : (before : State) (at : Context) → OpNum → Outcome → (old new : SheetState) → (answer : Status) (s : State) (x : Context) → Type 0
ComesOrWants before at op o old new answer s x = Comes (or_lack (is_lack answer) before at op o) old new answer s x
