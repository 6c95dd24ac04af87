use Rattle.std.proofs.Common.{◌≡◌, suc, min, List, ◌++◌, take, drop, length, ap, ◌∙◌, arith}
use Rattle.std.specs.Option.{option_to_list}
use Rattle.nfs_ranges.specs.{declared.interval.Interval.Interval, Blocks.block_at}
use Rattle.nfs_ranges.proofs.BlockLemmas.{carried, carried_some}
use Rattle.nfs_ranges.proofs.blocks.carry_out.Goals as goal

pub returns-clause-ok : goal.returns-clause-ok
returns-clause-ok c =
    let p = c.in_ok-parts.parts in
    let e = c.args.edit in
    let till : c.min-end.result ≡ min (suc c.args.edit.to.block) (length c.args.blocks.now.items) = omega (arith, c.min-end.ensures) in
    carried c.args.edit c.args.blocks.now.items c.lay_all.new.blocks.items p c.in_ok-new.new.items c.min-end.result
    (c.in_ok-new.ensures ∙ ap (λ (t : List (List Interval)). take e.from.at (block_at t e.from.block) ++ (option_to_list e.left ++ (option_to_list e.middle ++
    (option_to_list e.right ++ drop e.taken (drop e.to.at (block_at t e.to.block)))))) c.deref.ensures.value) c.in_ok-parts.ensures
    (c.lay_all.ensures ∙ ap (λ (t : List (List Interval)). take c.args.edit.from.block t ++ (option_to_list p.left ++ (option_to_list p.middle ++
    (option_to_list p.right ++ drop c.min-end.result t)))) c.reserve.ensures.items) till

pub returns-clause-some : goal.returns-clause-some
returns-clause-some c =
    let p = c.in_ok-parts.parts in
    carried_some c.args.blocks.now.items c.lay_all.new.blocks.items p c.in_ok-new.new.items c.args.edit.from.block c.min-end.result c.requires.some
    c.in_ok-parts.ensures
    (c.lay_all.ensures ∙ ap (λ (t : List (List Interval)). take c.args.edit.from.block t ++ (option_to_list p.left ++ (option_to_list p.middle ++
    (option_to_list p.right ++ drop c.min-end.result t)))) c.reserve.ensures.items)
