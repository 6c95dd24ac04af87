use Rattle.std.proofs.Common.{◌<◌, ◌-◌, suc, sym, ap, subst, ◌∙◌}
use Rattle.std.specs.Option.{option_copied}
use Rattle.nfs_opens.specs.Table.{Table}
use Rattle.nfs_names.specs.State.{state_of}
use Rattle.nfs_names.proofs.Ended.{IsOnItsWay, way_begins, way_drops, way_passes, way_ends, own_bounds}
use Rattle.nfs_names.proofs.store.Store.drop_own_files.Goals as goal

pub loop-open-init : goal.loop-open-init
loop-open-init c = way_begins c.args.client (state_of c.args.self.now) c.requires c.kept.ensures

pub loop-open-smaller-then-is_first : goal.loop-open-smaller-then-is_first
loop-open-smaller-then-is_first c =
    subst (λ (t : Table). suc t.last - c.in-Some.open.now.number < suc t.last - c.loop-open.after) c.loop-open.invariant.opens
    (own_bounds c.args.client c.loop-open.after (state_of c.loop-open.self).opens c.in-Some.open.now c.next_of.ensures.kept
    (sym c.next_of.ensures.found ∙ ap option_copied c.in-Some.is))

pub loop-open-smaller : goal.loop-open-smaller
loop-open-smaller c =
    subst (λ (t : Table). suc t.last - c.in-Some.open.now.number < suc t.last - c.loop-open.after) c.loop-open.invariant.opens
    (own_bounds c.args.client c.loop-open.after (state_of c.loop-open.self).opens c.in-Some.open.now c.next_of.ensures.kept
    (sym c.next_of.ensures.found ∙ ap option_copied c.in-Some.is))

pub loop-open-preserved-then-is_first : goal.loop-open-preserved-then-is_first
loop-open-preserved-then-is_first c =
    subst (IsOnItsWay c.args.client c.in-Some.open.now.number (state_of c.args.self.now)) (sym c.drop_own_file.ensures)
    (way_drops c.args.client c.loop-open.after (state_of c.args.self.now) (state_of c.loop-open.self) c.in-Some.open.now c.next_of.ensures.kept
    c.loop-open.invariant (sym c.next_of.ensures.found ∙ ap option_copied c.in-Some.is))

pub loop-open-preserved : goal.loop-open-preserved
loop-open-preserved c = way_passes c.args.client c.loop-open.after (state_of c.args.self.now) (state_of c.loop-open.self) c.in-Some.open.now
    c.next_of.ensures.kept c.loop-open.invariant (sym c.next_of.ensures.found ∙ ap option_copied c.in-Some.is) (sym c.is_first.ensures ∙ c.if-is_first.false)

pub returns : goal.returns
returns c = way_ends c.args.client c.loop-open.after (state_of c.args.self.now) (state_of c.loop-open.self) c.next_of.ensures.kept c.loop-open.invariant
    (sym c.next_of.ensures.found ∙ ap option_copied c.in_default.is)
