use Rattle.std.proofs.Common.{◌∙◌, ◌≤◌, ◌+◌, ◌/◌, ◌%◌, ℕ, List, arith, refl}
use Rattle.nfs_pages.specs.Page.{page_in}
use Rattle.nfs_pages.proofs.PageLemmas.{read_more, page_part}
use Rattle.nfs_pages.proofs.extent.read_all.Goals as goal

pub loop-done-preserved : goal.loop-done-preserved
loop-done-preserved c =
    let pages : ℕ → List ℕ = page_in c.args.pages.now in
    let at : ℕ = c.args.offset + c.loop-done.done in
    let part : ℕ = c.min-part.result in
    let least = c.min-part.ensures in
    let test = c.loop-done-test.true in
    let fits : at % 4096 + part ≤ 4096 = omega arith in
    record {
      done = omega arith;
      len = (let a = c.read_page.ensures.len in let b = c.loop-done.invariant.len in omega (arith, a, b));
      room = c.read_page.ensures.room ∙ c.loop-done.invariant.room;
      bytes = c.read_page.ensures.bytes ∙ read_more pages c.args.offset c.loop-done.done part c.args.out.now.bytes c.loop-done.out.bytes _ c.loop-done.invariant.bytes (page_part pages at part (pages (at / 4096)) fits refl);
    }
