use Rattle.std.proofs.Common.{◌∙◌, ◌≤◌, ◌+◌, ◌%◌, ℕ, List, arith}
use Rattle.nfs_pages.specs.Pages.{page_of, extent_of}
use Rattle.nfs_pages.proofs.{PageLemmas.read_more, ExtentLemmas.extent_part}
use Rattle.nfs_pages.proofs.pages.read_all.Goals as goal

pub loop-done-preserved : goal.loop-done-preserved
loop-done-preserved c =
    let pages : ℕ → List ℕ = page_of c.args.pages.now in
    let at : ℕ = c.args.offset + c.loop-done.done in
    let part : ℕ = c.min-part.result in
    let least = c.min-part.ensures in
    let test = c.loop-done-test.true in
    let fits : at % 262144 + part ≤ 262144 = omega arith in
    record {
      done = omega arith;
      len = (let a = c.read_near.ensures.len in let b = c.loop-done.invariant.len in omega (arith, a, b));
      room = c.read_near.ensures.room ∙ c.loop-done.invariant.room;
      bytes = c.read_near.ensures.bytes ∙ read_more pages c.args.offset c.loop-done.done part c.args.out.now.bytes c.loop-done.out.bytes _ c.loop-done.invariant.bytes (extent_part (extent_of c.args.pages.now) at part fits);
    }
