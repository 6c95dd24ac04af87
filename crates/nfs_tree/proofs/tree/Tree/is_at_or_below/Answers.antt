use Rattle.std.proofs.{Common.{◌≡◌, ◌+◌, ◌-◌, ◌∙◌, Some, refl, sym, ap, arith}, lemmas.Bool.ne_eqb}
use Rattle.nfs_tree.specs.{Files.{Files, is_directory_at, parent_in, has_entries}, Names.is_at_or_below}
use Rattle.nfs_tree.proofs.Climb.{climb_step, climb_here, none_below, parent_by}
use Rattle.nfs_tree.proofs.tree.Tree.is_at_or_below.Goals as goal

pub returns-then-object-top : goal.returns-then-object-top
returns-then-object-top c = sym (climb_here c.args.self.now.rows c.args.top c.args.levels c.args.object c.if-object-top.true)

pub returns-then-not-has_entries : goal.returns-then-not-has_entries
returns-then-not-has_entries c =
    let rows = c.args.self.now.rows in
    let seen = ap (λ (t : Files). has_entries t.rows c.args.top) (sym c.self.view_is) in
    sym (none_below rows c.args.top (seen ∙ sym c.has_entries.ensures ∙ c.if-not-has_entries.true) c.args.levels c.args.object
    ∙ ne_eqb c.args.object c.args.top c.if-object-top.false)

pub loop-step-init : goal.loop-step-init
loop-step-init c =
    let t = c.args.self.now in
    let parent : parent_in t.rows c.args.object ≡ Some c.in-Some.first.now.directory =
    ap (λ (t : Files). parent_in t.rows c.args.object) (sym c.self.view_is) ∙ sym c.in-Some.ensures in
    let by = parent_by t.rows c.args.object c.in-Some.first.now.directory parent in
    let some = c.if-levels-eq0.false in
    record {
      directory = ap (is_directory_at t) (sym by.3) ∙ c.kept.ensures.rows.stands by.0 by.1;
      climb = climb_step t.rows c.args.top c.args.levels (c.args.levels - 1) c.args.object c.in-Some.first.now.directory
          (is_at_or_below t.rows c.args.top c.args.levels c.args.object) (omega arith)
          (ne_eqb c.args.object c.args.top c.if-object-top.false) parent refl;
    }

pub loop-step-preserved : goal.loop-step-preserved
loop-step-preserved c =
    let t = c.args.self.now in
    let at = c.loop-step.row.now.directory in
    let i = c.loop-step._step in
    let parent : parent_in t.rows at ≡ Some c.in-Some-above.above.now.directory =
    ap (λ (t : Files). parent_in t.rows at) (sym c.self.view_is) ∙ sym c.in-Some-above.ensures in
    let by = parent_by t.rows at c.in-Some-above.above.now.directory parent in
    let within = c.loop-step-test.true in
    record {
      directory = ap (is_directory_at t) (sym by.3) ∙ c.kept.ensures.rows.stands by.0 by.1;
      climb = climb_step t.rows c.args.top (c.args.levels - i) (c.args.levels - (i + 1)) at c.in-Some-above.above.now.directory
          (is_at_or_below t.rows c.args.top c.args.levels c.args.object) (omega arith)
          (ne_eqb at c.args.top c.if-row-top.false) parent c.loop-step.invariant.climb;
    }
