use Rattle.std.proofs.{Common.{◌+◌, ◌-◌, length, drop, sym, ◌∙◌, arith}, lemmas.List.{length-take, length-drop}}
use Rattle.nfs_rpc.proofs.Feeding.{share_taken}
use Rattle.nfs_rpc.proofs.records.Records.feed.Goals as goal

pub returns-in-Complete-clause-stream : goal.returns-in-Complete-clause-stream
returns-in-Complete-clause-stream c =
    λ rest fits h. share_taken rest c.args.piece.now c.loop-used.used c.advance-used.result c.loop-used.self c.advance-used.new.self fits
    (record { each = λ i. omega (arith, c.type_inv.piece i) }) (c.loop-used.invariant.stands rest fits h) c.advance-used.ensures.stream

pub returns-in-Failed-clause-stream : goal.returns-in-Failed-clause-stream
returns-in-Failed-clause-stream c = λ rest fits h. (
  c.loop-used.used + c.advance-used.result,
  share_taken rest c.args.piece.now c.loop-used.used c.advance-used.result c.loop-used.self c.advance-used.new.self fits
      (record { each = λ i. omega (arith, c.type_inv.piece i) }) (c.loop-used.invariant.stands rest fits h) c.advance-used.ensures.stream,
)

pub loop-used-preserved : goal.loop-used-preserved
loop-used-preserved c = record {
  stands = λ rest fits h. share_taken rest c.args.piece.now c.loop-used.used c.advance-used.result c.loop-used.self c.advance-used.new.self fits
      (record { each = λ i. omega (arith, c.type_inv.piece i) }) (c.loop-used.invariant.stands rest fits h) c.advance-used.ensures.stream;
  begun = sym c.state-in-loop-used.ensures ∙ c.in-Begun.is;
  within = omega (
    arith,
    c.advance-used.ensures.used,
    c.loop-used.invariant.within,
    c.loop-used-test.true,
    length-take (length c.args.piece.now - c.loop-used.used) (drop c.loop-used.used c.args.piece.now),
    length-drop c.loop-used.used c.args.piece.now,
  );
}
