use Rattle.nfs_rpc.proofs.Feeding.{front_is_whole, front_says, front_is_long}
use Rattle.std.proofs.Common.{inl, inr, arith}
use Rattle.nfs_rpc.proofs.records.Records.whole.Goals as goal

pub returns-clause-some : goal.returns-clause-some
returns-clause-some c =
    front_is_whole _ _ c.in_ok-mark.mark.now c.in_ok-mark.rest.now c.from_be_bytes-word.result (c.is_fresh.ensures.fresh c.if-not-is_fresh.false)
    c.in_ok-mark.ensures.cases.0 c.in_ok-mark.ensures.cases.1 c.in_ok-mark.ensures.cases.2 (record { each = λ i. omega (arith, c.type_inv.piece i) })
    c.from_be_bytes-word.ensures c.from_be_bytes-word.type_inv c.if-word-lt-LAST_FRAGMENT.false c.if-size-rest.false c.if-size-gt-LIMIT.false

pub returns-in_err-mark-clause-none : goal.returns-in_err-mark-clause-none
returns-in_err-mark-clause-none c =
    rw c.from_residual.ensures (λ fresh call b. omega (arith, front_is_long c.args.piece.now call b, c.in_err-mark.ensures.cases))

pub returns-then-word-lt-LAST_FRAGMENT-clause-none : goal.returns-then-word-lt-LAST_FRAGMENT-clause-none
returns-then-word-lt-LAST_FRAGMENT-clause-none c = λ fresh call b.
    let s = front_says c.args.piece.now c.in_ok-mark.mark.now c.in_ok-mark.rest.now call c.from_be_bytes-word.result c.in_ok-mark.ensures.cases.0
    c.in_ok-mark.ensures.cases.1 c.from_be_bytes-word.ensures b in
    elim c.then-word-lt-LAST_FRAGMENT.either [
      | inl w ↦ omega (arith, s.0, w)
      | inr e ↦
          elim e [
            | inl w ↦ omega (arith, s.0, s.2, w)
            | inr w ↦ omega (arith, s.0, s.1, s.2, w)
          ]
    ]
