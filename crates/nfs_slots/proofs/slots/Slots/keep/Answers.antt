use Rattle.std.proofs.{Common.{ap, arith}, lemmas.Grind.common_steps}
use Rattle.nfs_slots.specs.SlotTables.{SlotTable}
use Rattle.nfs_slots.proofs.TableLemmas.{kept_in}
use Rattle.nfs_slots.proofs.slots.Slots.keep.Goals as goal

pub returns : goal.returns
returns c =
    let t = c.args.self.now in
    let put = kept_in t.slots c.self.inside.slots.items c.args.slot c.keep.new.self _ (ap (λ (t : SlotTable). t.slots) c.self.view_is) c.keep.ensures.state in
    grind (arith, common_steps, put, c.self.view_is)
