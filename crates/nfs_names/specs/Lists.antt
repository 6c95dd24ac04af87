-- What the calls that list a directory put (RFC 8881 section 18.23).
use Rattle.std.specs.Prelude.{◌≡◌, ℕ, ◌<◌, ◌≤◌, Bool, true, false, List, length}
use Rattle.nfs_xdr.specs.{SheetState.{SheetState, Puts}, declared.status.Status.Status, declared.status.Status.TheVariants.{Nfs4Ok, TooSmall}}
use Rattle.nfs_compound.specs.declared.op_num.OpNum.TheVariants as Num
use Rattle.nfs_compound.specs.OpNum.{op_number}
use Rattle.nfs_results.specs.{declared.res.ReadDirOk.ReadDirOk, Results.{spell_result, refusal}}
use Rattle.nfs_results.specs.declared.res.Res.TheVariants as Res

-- what a call that puts an entry has put, if it takes no more than so many bytes
abbrev pub PutsWithin : Bool → ℕ → SheetState → SheetState → List ℕ → Type 0
PutsWithin true room old new text = (length text ≤ room) × Puts old new text
PutsWithin false room old new text = (room < length text) × (new ≡ old)

-- what a listing answers and puts: its entries, or that none fits
abbrev pub Lists : Status → Bool → ReadDirOk → SheetState → SheetState → Type 0
Lists answer false entries old new = (answer ≡ Nfs4Ok) × Puts old new (spell_result (Res.ReadDir entries))
Lists answer true entries old new = (answer ≡ TooSmall) × Puts old new (spell_result (refusal (op_number Num.ReadDir) TooSmall))
