use Rattle.std.proofs.Common.{◌+◌, ◌-◌, ◌++◌, length, take, drop, arith, ap, length-append, length-drop, length-take-le}
use Rattle.nfs_xdr.specs.Spelling.{number}
use Rattle.nfs_xdr.proofs.Putting.{length_number}
use Rattle.nfs_serve.proofs.outbox.set_mark.Goals as goal

pub returns-clause-size : goal.returns-clause-size
returns-clause-size c =
    let bytes = c.args.sheet.now.bytes in
    let at = c.args.at in
    let mark = 2147483648 + (c.len.result - at - 4) in
    omega (
      arith,
      ap (λ s. length s.bytes) c.set_u32.ensures,
      length-append (take at bytes ++ number mark) (drop (at + 4) bytes),
      length-append (take at bytes) (number mark),
      length-append (take at bytes) (number mark ++ drop (at + 4) bytes),
      length-append (number mark) (drop (at + 4) bytes),
      length-take-le at bytes (omega (arith, c.requires.within)),
      length-drop (at + 4) bytes,
      length_number mark,
      c.requires.within,
      c.requires.room,
      c.len.ensures.value,
      c.len.ensures.within,
    )
