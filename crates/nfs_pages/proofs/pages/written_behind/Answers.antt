use Rattle.std.proofs.Common.{◌≡◌, ℕ, ◌∙◌, ap, arith, List}
use Rattle.nfs_pages.specs.{Page.{Leaf}}
use Rattle.nfs_pages.proofs.WrittenLemmas.{sum_of, behind, summed, sum_few}
use Rattle.nfs_pages.proofs.pages.written_behind.Goals as goal

pub loop-extent-preserved : goal.loop-extent-preserved
loop-extent-preserved c =
    let es : List (ℕ × List Leaf) = c.args.pages.now.map.entries in
    let all : c.into_iter-extent-iterator.result ≡ behind c.args.k es = c.into_iter-extent-iterator.ensures.into_iter_gives ∙ c.range-extent-items.ensures.between tt in
    let few = sum_few c.args.k es c.range-extent-items.ensures.ordered c.requires in
    let whole = ap sum_of all in
    let step = ap sum_of c.in-Some.ensures.steps in
    let before = c.loop-extent.invariant in
    let one = c.written.ensures in
    let least = c.saturating_add-count.ensures in
    omega arith

pub returns : goal.returns
returns c n le below =
    let es : List (ℕ × List Leaf) = c.args.pages.now.map.entries in
    let all : c.into_iter-extent-iterator.result ≡ behind c.args.k es = c.into_iter-extent-iterator.ensures.into_iter_gives ∙ c.range-extent-items.ensures.between tt in
    let rest : sum_of c.loop-extent.extent-iterator ≡ 0 = ap sum_of c.in-None.ensures.steps.0 in
    let whole = ap sum_of all in
    let before = c.loop-extent.invariant in
    let sum = summed c.args.k n es c.range-extent-items.ensures.ordered le below in
    omega arith
