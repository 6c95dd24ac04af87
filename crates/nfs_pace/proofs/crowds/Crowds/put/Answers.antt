use Rattle.std.proofs.Common.{◌≡◌, ◌<◌, ◌∙◌, rules, arith, length, get_or, nat_eq, count_by, cond, if◌then◌else◌, ◌+◌, set}
use Rattle.std.proofs.lemmas.{Grind.get_or_default_zero, List.Sums.{sum_by-set}}
use Rattle.nfs_pace.proofs.Often.{count_some}
use Rattle.nfs_pace.proofs.crowds.Crowds.put.Goals as goal

pub replace-requires-clause-there : goal.replace-requires-clause-there
replace-requires-clause-there c =
    let xs = c.self.inside.numbers.items in
    let within : c.args.place < length xs = search rules in
    let is : c.index-before.result.now ≡ get_or xs c.args.place 0 = c.index-before.ensures ∙ get_or_default_zero xs c.args.place c.index-before.result.now within in
    rw is (rw (c.self.invariant.1 (get_or xs c.args.place 0)) (count_some xs c.args.place within))

pub invariant_of-self : goal.invariant_of-self
invariant_of-self c =
    let xs = c.self.inside.numbers.items in
    let within : c.args.place < length xs = search rules in
    let is : c.index-before.result.now ≡ get_or xs c.args.place 0 = c.index-before.ensures ∙ get_or_default_zero xs c.args.place c.index-before.result.now within in (
      c.replace.ensures.order,
      λ n.
          let kept = c.self.invariant.1 n in
          let now = c.replace.ensures.count n in
          let put : count_by (nat_eq n) (set xs c.args.place c.args.number) + (if nat_eq n c.index-before.result.now then 1 else 0)
          ≡ count_by (nat_eq n) xs + (if nat_eq n c.args.number then 1 else 0) =
          rw is (sum_by-set (λ y. cond (nat_eq n y) 1 0) xs c.args.place c.args.number 0 within) in
          omega (arith, kept, now, put),
    )
