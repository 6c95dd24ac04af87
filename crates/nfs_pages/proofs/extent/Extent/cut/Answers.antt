use Rattle.std.proofs.Common.{◌≡◌, ◌≤◌, ◌+◌, ◌-◌, ℕ, List, length, take, sym, ◌∙◌, ap, arith, inl, inr}
use Rattle.std.proofs.lemmas.Bool.{cases_lt}
use Rattle.std.proofs.lemmas.List.{length-take, take_all}
use Rattle.std.specs.Prelude.{min}
use Rattle.nfs_pages.specs.Page.{Leaf, is_in, count_below}
use Rattle.nfs_pages.proofs.CountLemmas.{count_front, count_sliced}
use Rattle.nfs_pages.proofs.extent.Extent.cut.Goals as goal

pub overflow_sub-self : goal.overflow_sub-self
overflow_sub-self c =
    let least = c.min-end.ensures in
    let n = c.len.ensures in
    let e = count_sliced c.self.inside.pages.items c.deref-2.result.now c.min-end.result c.written.result c.self.inside.written c.deref-2.ensures.value (omega arith) c.self.invariant.0 c.self.invariant.1 c.written.ensures in
    omega arith

cut_at : (e : List Leaf) (count end : ℕ) → end ≡ min (length e) count → take count e ≡ take end e
cut_at e count end is = elim (cases_lt count (length e)) [
  | inl inside ↦ ap (λ (n : ℕ). take n e) (let same : count ≡ end = omega arith in same)
  | inr past ↦ take_all count e past ∙ sym (take_all end e (omega arith))
]

pub invariant_of-self : goal.invariant_of-self
invariant_of-self c =
    let e : List Leaf = c.self.inside.pages.items in
    let end : ℕ = c.min-end.result in
    let least = c.min-end.ensures in
    let n = c.len.ensures in
    let inside : end ≤ length e = omega arith in
    let left : c.truncate.new.self.items ≡ take end e = c.truncate.ensures.items ∙ cut_at e c.args.count end (omega arith) in
    let sum : c.written.result + count_below (is_in e) end ≡ c.self.inside.written =
    count_sliced e c.deref-2.result.now end c.written.result c.self.inside.written c.deref-2.ensures.value inside c.self.invariant.0 c.self.invariant.1 c.written.ensures in (
      let k = ap length left ∙ length-take end e in let few = c.self.invariant.0 in omega (arith, k, few),
      (let rest : c.self.inside.written - c.written.result ≡ count_below (is_in e) end = omega arith in rest)
          ∙ sym (ap (λ (x : List Leaf). count_below (is_in x) 64) left ∙ count_front e end inside c.self.invariant.0),
    )
