use Rattle.std.proofs.{Common.{◌≡◌, ◌<◌, ◌+◌, suc, List, take, length, subst, ap, ◌∙◌, arith, rules}, lemmas.List.take_all}
use Rattle.std.specs.Prelude.{min}
use Rattle.nfs_ranges.specs.Blocks.{flat}
use Rattle.nfs_opens.specs.StateId.{last_number}
use Rattle.nfs_opens.proofs.FlatLemmas.{front_longer}
use Rattle.nfs_opens.proofs.blocks.count_in.Goals as goal

pub loop-place-preserved : goal.loop-place-preserved
loop-place-preserved g c =
    let less : c.loop-place.place < length c.args.blocks.now = search rules in
    let blocks = c.args.blocks.now in
    let place = c.loop-place.place in
    let block = c.index-blocks-place.result in
    let next : suc place ≡ place + 1 = omega arith in
    let more = subst (λ n. length (flat (take n blocks)) ≡ length (flat (take place blocks)) + length block) next
    (front_longer blocks place block less c.index-blocks-place.is) in
    let before = c.loop-place.invariant in
    let one = c.len.ensures in
    let sum = c.saturating_add-count.ensures in
    omega (arith, more, before, one, sum)

pub returns : goal.returns
returns g c =
    let at : c.loop-place.place ≡ length c.args.blocks.now = search rules in
    c.loop-place.invariant ∙ ap (λ (bs : List (List g.row.T.Denot)). min (length (flat bs)) last_number)
    (ap (λ n. take n c.args.blocks.now) at ∙ take_all (length c.args.blocks.now) c.args.blocks.now (omega arith))
