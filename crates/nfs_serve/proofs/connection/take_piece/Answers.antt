use Rattle.std.proofs.{Common.{rules, ◌≡◌, length, take, drop, refl, sym, subst, ◌∙◌, take-append-drop, []}, lemmas.List.nil_from_length, lemmas.Bool.eqb-true}
use Rattle.std.proofs.lemmas.Result.{err_from_is_err_and}
use Rattle.std.specs.Io.KnownBytes.{Appends}
use Rattle.nfs_serve.specs.Ends.{AppendsFront}
use Rattle.nfs_serve.proofs.{Parts.front_and_rest, Framing.lent}
use Rattle.nfs_serve.proofs.Pieces.{taking_start, taking_more, taking_ends, taking_empty, taking_long, breaking, breaking_long, flow_open}
use Rattle.nfs_serve.proofs.connection.take_piece.Goals as goal

pub loop-rest-init : goal.loop-rest-init
loop-rest-init g c = (taking_start _ _ _ _ _ _ _, search rules, search rules, search rules)

pub returns-in-Nothing-clause-taken : goal.returns-in-Nothing-clause-taken
returns-in-Nothing-clause-taken g c =
    let (same, up, none, going) = c.in-Nothing.ensures in
    rw same (
      taking_ends c.loop-rest.invariant.0 c.take_first.new.records c.requires.open none going c.requires.bytes up,
      flow_open _ none going,
      c.loop-rest.invariant.3,
    )

pub returns-clause-taken : goal.returns-clause-taken
returns-clause-taken g c =
    let zero : length c.loop-rest.rest.now ≡ 0 = eqb-true _ _ (sym c.is_empty.ensures ∙ c.loop-rest-test.false) in
    let none : c.loop-rest.rest.now ≡ [] = nil_from_length _ zero in
    taking_empty c.loop-rest.invariant.0 none c.requires.open c.loop-rest.invariant.1 c.loop-rest.invariant.2 c.requires.bytes c.loop-rest.invariant.3

pub returns-in-TooLong-clause-taken : goal.returns-in-TooLong-clause-taken
returns-in-TooLong-clause-taken g c =
    let (same, is, over) = c.in-TooLong.ensures in
    let (wrote, well) = c.in_ok-put_overflow-in-TooLong.ensures in
    rw same (rw is (taking_long c.loop-rest.invariant.0 _ c.requires.open over wrote, refl, well))

pub returns-in_err-put_overflow-in-TooLong-clause-taken : goal.returns-in_err-put_overflow-in-TooLong-clause-taken
returns-in_err-put_overflow-in-TooLong-clause-taken g c =
    let p = err_from_is_err_and c.from_residual.result c.from_residual.ensures.1 in
    let (same, is, over) = c.in-TooLong.ensures in
    let (wrote, failed) = c.in_err-put_overflow-in-TooLong.ensures in
    rw p.1 (rw same (breaking_long c.loop-rest.invariant.0 _ c.requires.open over wrote, failed))

pub loop-rest-preserved : goal.loop-rest-preserved
loop-rest-preserved g c =
    let (call, choice, some, within, up, is, state, answer) = c.in-Record.ensures in
    let (wrote, well) = c.in_ok-write_answer-in-Record.ensures.wrote in
    let front = take c.in-Record.used c.loop-rest.rest.now in
    rw (c.in_ok-write_answer-in-Record.ensures.same, is) (
      taking_more c.loop-rest.invariant.0 front _ call choice _ _ (front_and_rest _ _) up state
          (subst (Appends (g.W.Sink.held c.loop-rest.out) (g.W.Sink.held c.write_answer.new.out)) (sym (lent _ _ _ _ _ answer)) wrote),
      refl,
      refl,
      well,
    )

pub returns-in_err-write_answer-in-Record-clause-taken : goal.returns-in_err-write_answer-in-Record-clause-taken
returns-in_err-write_answer-in-Record-clause-taken g c =
    let p = err_from_is_err_and c.from_residual-in_err-write_answer-in-Record.result c.from_residual-in_err-write_answer-in-Record.ensures.1 in
    let (call, choice, some, within, up, is, state, answer) = c.in-Record.ensures in
    let (wrote, failed) = c.in_err-write_answer-in-Record.ensures.wrote in
    rw (p.1, c.in_err-write_answer-in-Record.ensures.same) (
      breaking c.loop-rest.invariant.0 (take c.in-Record.used c.loop-rest.rest.now)
          (drop c.in-Record.used c.loop-rest.rest.now) call choice _ _ c.requires.open (sym (take-append-drop _ _)) up state
          (subst (AppendsFront (g.W.Sink.held c.loop-rest.out) (g.W.Sink.held c.write_answer.new.out)) (sym (lent _ _ _ _ _ answer)) wrote),
      failed,
    )
