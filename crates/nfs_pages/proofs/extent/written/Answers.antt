use Rattle.std.proofs.Common.{◌≡◌, ◌<◌, ◌+◌, ℕ, Bool, true, false, List, length, sym, ◌∙◌, ap, arith, get_or}
use Rattle.std.proofs.lemmas.List.{get_or_default}
use Rattle.std.specs.Prelude.{if◌then◌else◌}
use Rattle.nfs_pages.specs.Page.{Leaf, blank, is_in, count_below}
use Rattle.nfs_pages.proofs.CountLemmas.{count_none, count_more, count_most}
use Rattle.nfs_pages.proofs.extent.written.Goals.{then-is_written, else-is_written}
use Rattle.nfs_pages.proofs.extent.written.Goals as goal

pub loop-page-init : goal.loop-page-init
loop-page-init c = sym (count_none (is_in c.args.pages.now))

pub overflow_add-count : goal.overflow_add-count
overflow_add-count c = (let most = count_most (is_in c.args.pages.now) c.loop-page.page-index in omega (arith, c.loop-page.invariant))

one_more : (pages : List Leaf) (i count now : ℕ) (l : Leaf) (b : Bool) → i < length pages → l ≡ get_or pages i l → l.written ≡ b → count ≡ count_below (is_in pages) i
    → now ≡ count + (if b then 1 else 0) → now ≡ count_below (is_in pages) (i + 1)
one_more pages i count now l b there item is before more =
    let here : is_in pages i ≡ b = ap (λ (x : Leaf). x.written) (get_or_default pages i blank l there ∙ sym item) ∙ is in
    more ∙ ap (λ (k : ℕ). k + (if b then 1 else 0)) before ∙ sym (count_more (is_in pages) i ∙ ap (λ (x : Bool). count_below (is_in pages) i + (if x then 1 else 0)) here)

pub loop-page-preserved : goal.loop-page-preserved
loop-page-preserved c =
    let pages : List Leaf = c.args.pages.now in
    let i : ℕ = c.loop-page.page-index in
    elim c.if-is_written.branch [
      | then-is_written w ↦ one_more pages i c.loop-page.count c.if-is_written.count c.page-item.result true c.loop-page-test.true c.page-item.is
          (sym c.is_written.ensures ∙ w.if-is_written.true) c.loop-page.invariant w.count-is
      | else-is_written w ↦ one_more pages i c.loop-page.count c.if-is_written.count c.page-item.result false c.loop-page-test.true c.page-item.is
          (sym c.is_written.ensures ∙ w.if-is_written.false) c.loop-page.invariant (w.count-is ∙ (omega arith))
    ]
