-- What an operation puts on the sheet, answers and leaves is an outcome.
use Rattle.std.specs.Prelude.{◌≡◌, Bool, Option, Some, None, IsSomeAnd}
use Rattle.nfs_xdr.specs.{SheetState.{SheetState, Puts}, declared.status.Status.Status}
use Rattle.nfs_xdr.specs.declared.time.Time.{Time}
use Rattle.nfs_compound.specs.{declared.op.Op.Op, declared.op.Item.Item, declared.op.Item.TheVariants.Operation}
use Rattle.nfs_results.specs.Results.{spell_result, status_of_result}
use Rattle.nfs_names.specs.{declared.context.Context.Context, State.State, Outcome.{Outcome, is_lack}}

-- its result stands behind what stood on the sheet, its status is answered, and its state and context are left
pub record Comes (o : Outcome) (old new : SheetState) (answer : Status) (s : State) (x : Context) : Type 0 where
  pub put : Puts old new (spell_result o.result)
  pub status : answer ≡ status_of_result o.result
  pub state : s ≡ o.state
  pub context : x ≡ o.context

-- The same of an operation that may be none of these, by whether memory was refused: then nothing is answered, and all is as before.
abbrev pub MayCome : (Bool → Option Outcome) → (before : State) (at : Context) (old new : SheetState) → Option Status → (s : State) (x : Context) → Type 0
MayCome outcome before at old new None s x = ((refused : Bool) → outcome refused ≡ None) × (new ≡ old) × (s ≡ before) × (x ≡ at)
MayCome outcome before at old new (Some status) s x = IsSomeAnd (outcome (is_lack status)) (λ o. Comes o old new status s x)

-- .. of one that is run at a moment, by the definitions of all
abbrev pub OpComes : (comes_to : Bool → State → Context → Time → Item → Option Outcome) → (before : State) (at : Context) → Time → Op
    → (old new : SheetState) → Option Status → (s : State) (x : Context) → Type 0
OpComes comes_to before at now op old new answer s x = MayCome (λ refused. comes_to refused before at now (Operation op)) before at old new answer s x
