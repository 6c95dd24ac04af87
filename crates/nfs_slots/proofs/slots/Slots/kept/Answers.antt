use Rattle.std.proofs.Common.{ap, ◌∙◌, ◌≤◌, length, subst, arith}
use Rattle.nfs_slots.specs.{Slot.kept, SlotTables.{SlotTable, IsBounded}}
use Rattle.nfs_slots.proofs.TableLemmas.{bounded, none_kept}
use Rattle.nfs_slots.proofs.slots.Slots.kept.Goals as goal

pub returns-in-Some-clause-bounded : goal.returns-in-Some-clause-bounded
returns-in-Some-clause-bounded c = subst IsBounded c.self.view_is (bounded _ _ _ c.self.invariant)

pub returns-in-None-clause-reply : goal.returns-in-None-clause-reply
returns-in-None-clause-reply c =
    let past : length c.self.inside.slots.items ≤ c.args.slot = omega (arith, ap length c.deref.ensures.value, c.in-None.ensures.lookup.3) in
    none_kept c.self.inside.slots.items c.args.slot past ∙ ap (λ (t : SlotTable). kept t.slots c.args.slot) c.self.view_is

pub returns-in-None-clause-bounded : goal.returns-in-None-clause-bounded
returns-in-None-clause-bounded c = subst IsBounded c.self.view_is (bounded _ _ _ c.self.invariant)
