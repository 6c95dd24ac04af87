use Rattle.std.specs.Prelude.{take}
use Rattle.nfs_xdr.specs.SheetState.{Puts}
use Rattle.nfs_names.specs.State.{state_of}
use Rattle.nfs_files.proofs.Codes.{code_words}
use Rattle.nfs_files.proofs.stateids.put_codes.Given as goal

abbrev pub invariant-loop-place : goal.invariant-loop-place
invariant-loop-place l = Puts l.initial.out l.out (code_words (state_of l.store) l.context (take l.place l.given))
