use Rattle.std.proofs.Common.{◌≡◌, ◌+◌, ◌-◌, ◌++◌, length, drop, ap, ◌∙◌, arith, length-drop}
use Rattle.nfs_xdr.specs.Spelling.{number}
use Rattle.nfs_serve.proofs.Framing.{framed, length-framed, length-framed_reply}
use Rattle.nfs_serve.proofs.engine.frame.Goals as goal

pub set_u32-requires-2 : goal.set_u32-requires-2
set_u32-requires-2 c =
    record { within = rw c.set_u32.ensures (omega (arith, length-framed c.args.sheet.now.bytes c.args.conn c.requires.front, c.requires.front)) }

pub returns-clause-bytes : goal.returns-clause-bytes
returns-clause-bytes c =
    let size : 2147483648 + (c.len.result - 8) ≡ 2147483648 + length (drop 8 c.args.sheet.now.bytes) =
    omega (arith, c.len.ensures.value, length-drop 8 c.args.sheet.now.bytes) in
    rw (c.set_u32-2.ensures, c.set_u32.ensures) (framed c.args.sheet.now.bytes c.args.conn (2147483648 + (c.len.result - 8))
    ∙ ap (λ m. number c.args.conn ++ (number m ++ drop 8 c.args.sheet.now.bytes)) size)

pub returns-clause-size : goal.returns-clause-size
returns-clause-size c = omega (
  arith,
  ap length (returns-clause-bytes c),
  length-framed_reply (drop 8 c.args.sheet.now.bytes) c.args.conn,
  length-drop 8 c.args.sheet.now.bytes,
  c.len.ensures.value,
  c.len.ensures.within,
  c.requires.room,
)
