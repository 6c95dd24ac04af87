use Rattle.std.proofs.{Common.{◌≡◌, suc, List, set, get_or, ap, ◌∙◌, arith}, lemmas.Grind.common_steps}
use Rattle.std.specs.List.{insert}
use Rattle.nfs_ranges.specs.Holders.{LockedBytes}
use Rattle.nfs_ranges.proofs.GroupLemmas.{in_two}
use Rattle.nfs_ranges.proofs.groups.split_full.Goals as goal

pub returns-clause-same : goal.returns-clause-same
returns-clause-same c =
    let made : c.insert.new.self.items
    ≡ insert (set c.args.groups.now.items c.args.group c.split.new.self) (suc c.args.group) c.in_ok-behind.behind = grind (arith, common_steps) in
    rw made (in_two c.args.groups.now.items c.args.group c.index_mut.result.now c.split.new.self c.in_ok-behind.behind c.requires.some c.requires.bound
    (c.index_mut.ensures.value ∙ ap (λ (gs : List LockedBytes). get_or gs c.args.group c.index_mut.result.now) c.reserve.ensures.items)
    c.in_ok-behind.ensures.both.0 c.in_ok-behind.ensures.both.1 c.in_ok-behind.ensures.both.2)
