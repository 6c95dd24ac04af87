use Rattle.std.proofs.Common.{◌≡◌, ℕ, ◌<◌, ◌≤◌, ◌^◌, List, length, Some, ◌∙◌, arith, subst}
use Rattle.std.specs.{Ordering.nat_cmp, Cmp.Lexicographic.slice_cmp, BTreeMap.{Updates, UpdatesBy}}
use Rattle.nfs_tree.specs.{declared.by_name.ShortKey.ShortKey, ByName.{key_of, short_cmp}}
use Rattle.nfs_tree.proofs.KeyLemmas.{short_after, long_after}
use Rattle.nfs_tree.proofs.by_name.ByName.insert.Goals as goal

pub returns-then-name-le-SHORT-clause-ok : goal.returns-then-name-le-SHORT-clause-ok
returns-then-name-le-SHORT-clause-ok c =
    let fits : length c.args.name.now ≤ 23 = omega (arith, c.if-name-le-SHORT.true) in
    short_after (λ k. k.items) c.args.self.now.short c.insert.new.self c.args.self.now.long.entries c.args.directory c.args.name.now (Some c.args.cookie) fits
    (record { each = λ i. omega (arith, c.type_inv.name i) })
    (subst (λ (k : ShortKey). Updates short_cmp c.args.self.now.short c.insert.new.self k (Some c.args.cookie)) c.new.ensures c.in_ok-insert.ensures.updates)

pub returns-clause-ok : goal.returns-clause-ok
returns-clause-ok c =
    let past : 23 < length c.args.name.now = omega (arith, c.if-name-le-SHORT.false) in
    let few : c.args.directory < 2 ^ 64 = omega arith in
    let spelled : c.in_ok-key.key.items ≡ key_of c.args.directory c.args.name.now = c.in_ok-key.ensures.items ∙ c.as_slice.ensures ∙ c.new-spelled.ensures in
    long_after (λ k. k.items) c.args.self.now.short.entries c.args.self.now.long c.insert-2.new.self c.args.directory c.args.name.now (Some c.args.cookie) past few
    (subst (λ (q : List ℕ). UpdatesBy (λ x y. slice_cmp nat_cmp x.items y.items) (λ k. slice_cmp nat_cmp q k.items) c.args.self.now.long c.insert-2.new.self (Some c.args.cookie))
    spelled c.in_ok-insert-2.ensures.updates)
