-- What holds behind a refusal and behind what follows from what was found holds behind an operation.
use Rattle.std.proofs.Common.{◌≡◌, refl}
use Rattle.std.specs.Prelude.{Result, Ok, Err}
use Rattle.nfs_xdr.specs.declared.status.Status.{Status}
use Rattle.nfs_compound.specs.declared.op_num.OpNum.{OpNum}
use Rattle.nfs_names.specs.{declared.context.Context.Context, State.State, Outcome.{Outcome, answers}}

pub by_found : {A : Type 0} (P : State → Context → Type 0) (s : State) (x : Context) (op : OpNum) (v : Result A Status) (f : A → Outcome) → P s x
    → ((a : A) → v ≡ Ok a → P (f a).state (f a).context) → P (answers s x op v f).state (answers s x op v f).context
by_found P s x op (Err status) f same done = same
by_found P s x op (Ok a) f same done = done a refl
