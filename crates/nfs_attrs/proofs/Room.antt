-- Room for the next part of a text, of which some has been put.
use Rattle.std.proofs.{Common.{ℕ, ◌≤◌, ◌+◌, List, length, ap, ◌∙◌, arith}, lemmas.List.length-append}
use Rattle.nfs_xdr.specs.SheetState.{SheetState, HasRoom, Puts}

pub room_within : (old now : SheetState) (before next whole : List ℕ) → Puts old now before → length before + length next ≤ length whole
    → HasRoom old whole → HasRoom now next
room_within old now before next whole put short room = omega (arith, put.room, ap length put.bytes ∙ length-append old.bytes before)
