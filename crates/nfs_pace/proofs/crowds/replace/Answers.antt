use Rattle.std.proofs.Common.{◌≡◌, ◌≤◌, ◌<◌, ◌∙◌, rules, ℕ, arith, sym, subst, length, get_or, insert, remove}
use Rattle.std.proofs.lemmas.List.{get_or_default}
use Rattle.std.proofs.lemmas.List.Sorted.{IsNonDecreasingBy-insert}
use Rattle.std.specs.List.Sorted.{IsNonDecreasing}
use Rattle.nfs_pace.proofs.Often.{in_order_without, count_replaced}
use Rattle.nfs_pace.proofs.crowds.replace.Goals as goal

pub below-to-requires : goal.below-to-requires
below-to-requires c =
    let less : c.place_of-from.result < length c.args.sorted.now.items = search rules in
    subst IsNonDecreasing (sym (c.deref-2.ensures.value ∙ c.remove.ensures.items))
    (in_order_without c.args.sorted.now.items c.place_of-from.result less c.requires.order)

pub returns-clause-order : goal.returns-clause-order
returns-clause-order c =
    let from_less : c.place_of-from.result < length c.args.sorted.now.items = search rules in
    let rest = remove c.args.sorted.now.items c.place_of-from.result in
    let is : c.deref-2.result.now ≡ rest = c.deref-2.ensures.value ∙ c.remove.ensures.items in
    let put : c.insert.new.self.items ≡ insert rest c.below-to.result c.args.number = search rules in
    let low : c.below-to.result ≤ length rest = rw (sym is) c.below-to.ensures.bound in
    let less : (k : ℕ) → k < c.below-to.result → get_or rest k 0 < c.args.number = rw (sym is) c.below-to.ensures.less in
    let others : (k : ℕ) → c.below-to.result ≤ k → k < length rest → c.args.number ≤ get_or rest k 0 = rw (sym is) c.below-to.ensures.others in
    subst IsNonDecreasing (sym put)
    (IsNonDecreasingBy-insert (λ y. y) rest c.below-to.result c.args.number
    (in_order_without c.args.sorted.now.items c.place_of-from.result from_less c.requires.order) low
    (λ k d to. let one = less k to in let same = get_or_default rest k d 0 (omega (arith, to, low)) in omega (arith, one, same))
    (λ k d from to. let one = others k from to in let same = get_or_default rest k d 0 to in omega (arith, one, same)))

pub returns-clause-count : goal.returns-clause-count
returns-clause-count c other =
    let less : c.place_of-from.result < length c.args.sorted.now.items = search rules in
    let there : get_or c.args.sorted.now.items c.place_of-from.result 0 ≡ c.args.before = search rules in
    let put : c.insert.new.self.items ≡ insert (remove c.args.sorted.now.items c.place_of-from.result) c.below-to.result c.args.number = search rules in
    rw put (count_replaced c.args.sorted.now.items c.place_of-from.result c.below-to.result c.args.before c.args.number other less there)
