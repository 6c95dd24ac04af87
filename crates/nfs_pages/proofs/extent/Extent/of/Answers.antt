use Rattle.std.proofs.Common.{◌≡◌, [], ◌∷◌, List, length, sym, ◌∙◌, ap, arith, nat_lt}
use Rattle.std.proofs.lemmas.Bool.Decides.{nat_tests}
use Rattle.std.specs.Prelude.{if◌then◌else◌}
use Rattle.nfs_pages.specs.Page.{Leaf, is_in, count_below}
use Rattle.nfs_pages.proofs.CountLemmas.{count_in_one}
use Rattle.nfs_pages.proofs.extent.Extent.of.Goals.{then-is_empty, else-is_empty}
use Rattle.nfs_pages.proofs.extent.Extent.of.Goals as goal

items : (c : goal.Joined-is_empty) → c.push.new.self.items ≡ record { bytes = c.args.bytes.now; written = nat_lt 0 (length c.args.bytes.now) } ∷ []
items c = grind (arith, c.in_ok-push.ensures.items)

pub invariant_of-result : goal.invariant_of-result
invariant_of-result c =
    let l : Leaf = record { bytes = c.args.bytes.now; written = nat_lt 0 (length c.args.bytes.now) } in
    let e : c.push.new.self.items ≡ l ∷ [] = items c in
    let count : count_below (is_in c.push.new.self.items) 64 ≡ (if nat_lt 0 (length c.args.bytes.now) then 1 else 0) = ap (λ (x : List Leaf). count_below (is_in x) 64) e ∙ count_in_one l in (
      let n = ap length e in omega (arith, n),
      elim c.if-is_empty.branch [
        | then-is_empty w ↦ w.written-is ∙ sym (count ∙ grind (arith, nat_tests, sym c.is_empty.ensures ∙ w.if-is_empty.true))
        | else-is_empty w ↦ w.written-is ∙ sym (count ∙ grind (arith, nat_tests, sym c.is_empty.ensures ∙ w.if-is_empty.false))
      ],
    )
