use Rattle.std.proofs.Common.{◌≡◌, rules, arith, refl, sym, ◌∙◌, nat_eq}
use Rattle.std.proofs.lemmas.List.Sums.{count_by-le-length}
use Rattle.nfs_pace.proofs.Often.{count_is}
use Rattle.nfs_pace.proofs.crowds.Crowds.count.Goals as goal

pub returns-clause-count : goal.returns-clause-count
returns-clause-count c =
    let sorted = c.self.inside.sorted.items in
    let low = c.below-low.ensures in
    let high = c.below-high.ensures in
    let first : c.deref.result.now ≡ sorted = c.deref.ensures.value in
    let second : c.deref-2.result.now ≡ sorted = c.deref-2.ensures.value in
    let is = count_is sorted c.args.number c.below-low.result c.below-high.result (rw (sym first) low.bound) (rw (sym first) low.less) (rw (sym first) low.others)
    (rw (sym second) high.bound) (rw (sym second) high.less) (rw (sym second) high.others) in
    let all : c.self.inside.numbers.items ≡ c.args.self.now = search rules in
    sym is ∙ c.self.invariant.1 c.args.number ∙ rw all refl

pub returns-clause-bound : goal.returns-clause-bound
returns-clause-bound c =
    let is = returns-clause-count c in
    let most = count_by-le-length (nat_eq c.args.number) c.args.self.now in
    omega (arith, is, most)
