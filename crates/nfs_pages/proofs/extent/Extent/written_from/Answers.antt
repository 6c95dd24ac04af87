use Rattle.std.proofs.Common.{◌≡◌, ◌≤◌, ◌+◌, ℕ, List, length, refl, ◌∙◌, ap, arith, inl, inr}
use Rattle.std.proofs.lemmas.Bool.{cases_lt}
use Rattle.std.specs.Prelude.{min}
use Rattle.nfs_pages.specs.Page.{Leaf, is_in, count_below}
use Rattle.nfs_pages.proofs.CountLemmas.{count_in_all, count_sliced}
use Rattle.nfs_pages.proofs.extent.Extent.written_from.Goals as goal

-- behind the last page none is written
least_is : (e : List Leaf) (first end : ℕ) → length e ≤ 64 → end ≡ min (length e) first → count_below (is_in e) (min first 64) ≡ count_below (is_in e) end
least_is e first end few is = elim (cases_lt first (length e)) [
  | inl inside ↦ ap (count_below (is_in e)) (let same : min first 64 ≡ end = omega arith in same)
  | inr past ↦ count_in_all e (min first 64) (omega arith) ∙ ap (count_below (is_in e)) (let same : length e ≡ end = omega arith in same)
]

pub returns : goal.returns
returns c =
    let e : List Leaf = c.self.inside.pages.items in
    let least = c.min.ensures in
    let n = c.len.ensures in
    rw (← c.self.view_is) (
    ap (λ (k : ℕ). c.written.result + k) (least_is e c.args.first c.min.result c.self.invariant.0 (omega arith))
    ∙ count_sliced e c.deref.result.now c.min.result c.written.result (count_below (is_in e) 64) c.deref.ensures.value (omega arith) c.self.invariant.0 refl c.written.ensures)
