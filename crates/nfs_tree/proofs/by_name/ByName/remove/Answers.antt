use Rattle.std.proofs.Common.{ℕ, ◌<◌, ◌≤◌, ◌^◌, List, length, None, ◌∙◌, arith, subst}
use Rattle.std.specs.{Ordering.nat_cmp, Cmp.Lexicographic.slice_cmp, BTreeMap.UpdatesBy}
use Rattle.nfs_tree.specs.{declared.by_name.ShortKey.ShortKey, ByName.short_cmp}
use Rattle.nfs_tree.proofs.KeyLemmas.{short_after, long_after}
use Rattle.nfs_tree.proofs.by_name.ByName.remove.Goals as goal

pub returns-then-name-le-SHORT : goal.returns-then-name-le-SHORT
returns-then-name-le-SHORT c =
    let fits : length c.args.name.now ≤ 23 = omega (arith, c.if-name-le-SHORT.true) in
    short_after (λ k. k.items) c.args.self.now.short c.remove.new.self c.args.self.now.long.entries c.args.directory c.args.name.now None fits
    (record { each = λ i. omega (arith, c.type_inv.name i) })
    (subst (λ (k : ShortKey). UpdatesBy short_cmp (short_cmp k) c.args.self.now.short c.remove.new.self None) c.new.ensures c.remove.ensures.updates)

pub returns-else-name-le-SHORT : goal.returns-else-name-le-SHORT
returns-else-name-le-SHORT c =
    let past : 23 < length c.args.name.now = omega (arith, c.if-name-le-SHORT.false) in
    let few : c.args.directory < 2 ^ 64 = omega arith in
    long_after (λ k. k.items) c.args.self.now.short.entries c.args.self.now.long c.remove-else-name-le-SHORT.new.self c.args.directory c.args.name.now None past few
    (subst (λ (q : List ℕ). UpdatesBy (λ x y. slice_cmp nat_cmp x.items y.items) (λ k. slice_cmp nat_cmp q k.items) c.args.self.now.long c.remove-else-name-le-SHORT.new.self None)
    (c.as_slice.ensures ∙ c.new-spelled.ensures) c.remove-else-name-le-SHORT.ensures.updates)
