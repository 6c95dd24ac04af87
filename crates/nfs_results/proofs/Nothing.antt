-- Nothing was put.
use Rattle.std.proofs.Common.{[], refl, sym, append-nil}
use Rattle.nfs_xdr.specs.SheetState.{SheetState, Puts}

pub puts_nothing : {sheet : SheetState} → Puts sheet sheet []
puts_nothing {sheet} = record { bytes = sym (append-nil sheet.bytes); room = refl }
