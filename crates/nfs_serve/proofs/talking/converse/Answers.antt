use Rattle.std.proofs.{Common.{◌≡◌, rules, arith, refl, sym, subst, ◌∙◌, [], take, length}, KnownBytes.{Consumes-kept, Consumes-nil}}
use Rattle.std.specs.Io.KnownBytes.{Consumes}
use Rattle.nfs_serve.specs.{Script.Entry, Talk.IsPiece}
use Rattle.nfs_serve.proofs.Speaking.{speaking_start, speaking_more, speaking_breaks, open_is, ends, fails, is_full, shuts}
use Rattle.nfs_serve.proofs.talking.converse.Given as given
use Rattle.nfs_serve.proofs.talking.converse.Goals as goal
use Rattle.nfs_serve.proofs.talking.converse.Goals.{After-now}

-- what was read, as an entry of the one connection
abbrev entry : (g : given.Over) → After-now g → Entry
entry g c = record { moment = c.now.result; conn = 0; piece = take c.in-Ok.n c.read.new.buf }

is_piece : (g : given.Over) (c : After-now g) → IsPiece (entry g c)
is_piece g c =
    let room : length c.read.new.buf ≡ 65536 = search rules in (
      (c.now.ensures.bound, search rules, omega (arith, c.in-Ok.ensures.bound.0, c.in-Ok.ensures.bound.1, room)),
      refl,
      omega (arith, c.in-Ok.ensures.bound.1, c.in-Ok.n-test),
    )

pub loop-init : goal.loop-init
loop-init g c = rw c.close.ensures (speaking_start _ _ _ _, refl, c.requires.room, c.requires.read, c.requires.ended, c.requires.write)

pub loop-preserved : goal.loop-preserved
loop-preserved g c =
    let at = (goal.at.loop-preserved g c).After-now in
    let (fed, flow, well) = c.in-Ok-Open.ensures.fed in (
      speaking_more c.loop.invariant.0 _ _ _ _ _ (entry g at) c.in-Ok.ensures.bytes.0 c.now.ensures.tells (is_piece g at) fed,
      open_is _ (sym c.in-Ok-Open.field-0-is ∙ flow),
      search rules,
      search rules,
      search rules,
      well,
    )

pub returns-in-Ok-Shut-clause-run : goal.returns-in-Ok-Shut-clause-run
returns-in-Ok-Shut-clause-run g c =
    let at = (goal.at.returns-in-Ok-Shut-clause-run g c).After-now in
    let (fed, flow, well) = c.in-Ok-Shut.ensures.fed in
    shuts (speaking_more c.loop.invariant.0 _ _ _ _ _ (entry g at) c.in-Ok.ensures.bytes.0 c.now.ensures.tells (is_piece g at) fed)
    (omega (arith, c.loop-test.true)) (sym c.in-Ok-Shut.field-0-is ∙ flow)

pub returns-in-Err-feed-clause-run : goal.returns-in-Err-feed-clause-run
returns-in-Err-feed-clause-run g c =
    let at = (goal.at.returns-in-Err-feed-clause-run g c).After-now in
    let (breaks, failed) = c.in-Err-feed.ensures.fed in
    speaking_breaks c.loop.invariant.0 _ _ _ _ (entry g at) c.in-Ok.ensures.bytes.0 c.now.ensures.tells (is_piece g at) c.loop-test.true breaks

pub returns-in-Ok-eq0-clause-run : goal.returns-in-Ok-eq0-clause-run
returns-in-Ok-eq0-clause-run g c =
    let zero : c.in-Ok-eq0.field-0 ≡ 0 = search rules in
    ends c.loop.invariant.0 _
    (subst (λ n. Consumes (g.R.Source.left c.loop.r) (g.R.Source.left c.read.new.self) (take n c.read.new.buf)) zero c.in-Ok-eq0.ensures.bytes.0)
    c.loop-test.true c.loop.invariant.1

pub returns-in-Err-clause-run : goal.returns-in-Err-clause-run
returns-in-Err-clause-run g c = fails c.loop.invariant.0 _ (Consumes-kept _ _ _ [] (Consumes-nil _) c.in-Err.ensures.bytes) c.loop-test.true c.loop.invariant.1

pub returns-clause-run : goal.returns-clause-run
returns-clause-run g c = is_full c.loop.invariant.0 (omega (arith, c.loop.auto.counter-end, c.loop-test.false)) c.loop.invariant.1
