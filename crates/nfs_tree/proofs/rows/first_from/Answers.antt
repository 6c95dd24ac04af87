use Rattle.std.proofs.Common.{◌≡◌, ℕ, ◌≤◌, List, [], ◌∷◌, None, refl, rules, false, subst}
use Rattle.std.specs.{Prelude.IsSome, Ordering.is_gt, BTreeMap.{BTreeMap, get}, BTreeMap.Range.IsRangeOf, declared.ops.Bound.TheVariants.{Included, Unbounded}}
use Rattle.nfs_tree.specs.Maps.{pair_cmp}
use Rattle.nfs_tree.proofs.PairLemmas.{pair_from, pair_least, pair_first, none_there}
use Rattle.nfs_tree.proofs.rows.first_from.Goals as goal

abbrev Found : BTreeMap (ℕ × ℕ) (Unit {0}) → ℕ → ℕ → List ((ℕ × ℕ) × Unit {0}) → Type 0
Found m d from r = IsRangeOf pair_cmp (Included (d, from)) Unbounded m r

-- a key of the directory that is listed: the first in the range is of the directory, and at most it
first : (m : BTreeMap (ℕ × ℕ) (Unit {0})) (d from x : ℕ) (k : ℕ × ℕ) (rest : List ((ℕ × ℕ) × Unit {0})) → Found m d from ((k, tt) ∷ rest) → from ≤ x → IsSome (get pair_cmp m (d, x)) → (k.0 ≡ d) × (k.1 ≤ x)
first m d from x k rest range low there =
    let under : is_gt (pair_cmp (d, from) k) ≡ false = range.1.0.0 in
    let over : is_gt (pair_cmp k (d, x)) ≡ false = range.2 (d, x) (pair_from d from x low, tt) there in
    (pair_first d from x k under over, pair_least d from x k under over)

nothing : (m : BTreeMap (ℕ × ℕ) (Unit {0})) (d from x : ℕ) → Found m d from [] → from ≤ x → get pair_cmp m (d, x) ≡ None
nothing m d from x range low = range.5 refl (d, x) (pair_from d from x low, tt)

pub returns-in-None-clause-none : goal.returns-in-None-clause-none
returns-in-None-clause-none c =
    let range : Found c.args.pairs.now c.args.number c.args.from c.range-keys.result = c.range-keys.ensures.in_range (search rules) in
    λ x low. nothing c.args.pairs.now c.args.number c.args.from x (subst (Found c.args.pairs.now c.args.number c.args.from) c.in-None.ensures.steps.0 range) low

pub returns-then-key-number-clause-least : goal.returns-then-key-number-clause-least
returns-then-key-number-clause-least c =
    let range : Found c.args.pairs.now c.args.number c.args.from c.range-keys.result = c.range-keys.ensures.in_range (search rules) in
    λ x low there. (first c.args.pairs.now c.args.number c.args.from x c.in-Some.key.now c.next.new.self (subst (Found c.args.pairs.now c.args.number c.args.from) c.in-Some.ensures.steps range) low there).1

pub returns-else-key-number-clause-none : goal.returns-else-key-number-clause-none
returns-else-key-number-clause-none c =
    let range : Found c.args.pairs.now c.args.number c.args.from c.range-keys.result = c.range-keys.ensures.in_range (search rules) in
    λ x low. none_there _ (λ there. c.if-key-number.false (first c.args.pairs.now c.args.number c.args.from x c.in-Some.key.now c.next.new.self (subst (Found c.args.pairs.now c.args.number c.args.from) c.in-Some.ensures.steps range) low there).0)
