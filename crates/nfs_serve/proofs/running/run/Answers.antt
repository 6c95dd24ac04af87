use Rattle.std.proofs.Common.{◌≡◌, rules, arith, refl, sym, ap, ◌∙◌, add-one, is_err}
use Rattle.nfs_serve.specs.Reading.{entry}
use Rattle.nfs_serve.proofs.{Entries.{entry_within, entry_taken}, Runs.{going_start, going_more, going_stops, going_breaks, going_behind, ran_well, ran_broken}}
use Rattle.nfs_serve.proofs.running.run.Goals.{in-Some, in-None+in-Ok-Some}
use Rattle.nfs_serve.proofs.running.run.Goals as goal

pub loop-done-init : goal.loop-done-init
loop-done-init g c = (going_start _ _ _ _ c.requires.closed, c.requires.connections, c.requires.room, c.requires.read, c.requires.ended, c.requires.write)

pub consume-requires : goal.consume-requires
consume-requires g c = entry_within (entry c.in-Some.entry) c.bytes.ensures c.in-Some.ensures.whole

pub loop-done-preserved : goal.loop-done-preserved
loop-done-preserved g c =
    elim c.match-whole_entry.branch [
      | in-Some w ↦
          let read = entry_taken (entry w.in-Some.entry) c.bytes.ensures w.in-Some.ensures.whole _ _ w.consume.ensures.bytes in
          let (ran, well) = ran_well _ _ (entry w.in-Some.entry) _ w.run_entry-ran.result
          (ap is_err (sym w.ran-is) ∙ sym c.is_err.ensures.value ∙ c.if-is_err.false) w.run_entry-ran.ensures.ran in
          rw w.engine-is (rw w.connections-is (rw w.r-is (rw w.w-is (
            going_more c.loop-done.invariant.0 _ _ _ _ (entry w.in-Some.entry) read w.in-Some.ensures.whole.2 ran,
            w.run_entry-ran.ensures.length,
            search rules,
            search rules,
            search rules,
            well,
          ))))
      | in-None+in-Ok-Some w ↦
          let (read, fits, going, more) = rw w.in-Ok-Some.field-0-is at w.in-Ok-Some.ensures.read in
          let (ran, well) = ran_well _ _ (entry w.in-Ok-Some.entry) _ w.run_entry.result
          (ap is_err (sym w.ran-is) ∙ sym c.is_err.ensures.value ∙ c.if-is_err.false) w.run_entry.ensures.ran in
          rw w.engine-is (rw w.connections-is (rw w.r-is (rw w.w-is (
            going_more c.loop-done.invariant.0 _ _ _ _ (entry w.in-Ok-Some.entry) read fits ran,
            w.run_entry.ensures.length,
            search rules,
            going,
            more,
            well,
          ))))
    ]

pub returns-then-is_err-clause-run : goal.returns-then-is_err-clause-run
returns-then-is_err-clause-run g c =
    elim c.match-whole_entry.branch [
      | in-Some w ↦
          let read = entry_taken (entry w.in-Some.entry) c.bytes.ensures w.in-Some.ensures.whole _ _ w.consume.ensures.bytes in
          let (breaks, others) = ran_broken _ _ (entry w.in-Some.entry) _ w.run_entry-ran.result
          (ap is_err (sym w.ran-is) ∙ sym c.is_err.ensures.value ∙ c.if-is_err.true) w.run_entry-ran.ensures.ran in
          rw w.engine-is (rw w.connections-is (rw w.r-is (rw w.w-is (
          going_breaks c.loop-done.invariant.0 _ _ _ _ _ (entry w.in-Some.entry) refl (add-one c.loop-done.done)
          c.loop-done-test.true read w.in-Some.ensures.whole.2 breaks others))))
      | in-None+in-Ok-Some w ↦
          let (read, fits, going, more) = rw w.in-Ok-Some.field-0-is at w.in-Ok-Some.ensures.read in
          let (breaks, others) = ran_broken _ _ (entry w.in-Ok-Some.entry) _ w.run_entry.result
          (ap is_err (sym w.ran-is) ∙ sym c.is_err.ensures.value ∙ c.if-is_err.true) w.run_entry.ensures.ran in
          rw w.engine-is (rw w.connections-is (rw w.r-is (rw w.w-is (
          going_breaks c.loop-done.invariant.0 _ _ _ _ _ (entry w.in-Ok-Some.entry) refl (add-one c.loop-done.done)
          c.loop-done-test.true read fits breaks others))))
    ]

pub returns-in-Err-clause-run : goal.returns-in-Err-clause-run
returns-in-Err-clause-run g c =
    let (rest, read, stands, told) = c.in-Err.ensures.read in
    going_stops c.loop-done.invariant.0 c.in-Err.stop _ _ rest _ _ refl (add-one c.loop-done.done) read (stands c.loop-done.done c.loop-done-test.true) told

pub returns-clause-run : goal.returns-clause-run
returns-clause-run g c =
    let (rest, read, ends, told) = c.behind_last.ensures in
    let all : c.loop-done.done ≡ 1000000 = omega (arith, c.loop-done.auto.done-end, c.loop-done-test.false) in
    going_behind c.loop-done.invariant.0 c.behind_last.result _ rest _ _ all read ends told
