use Rattle.std.proofs.{Common.{◌≡◌, ◌++◌, ℕ, List, length, ap, refl, arith}, lemmas.List.length-append}
use Rattle.nfs_attrs.specs.{Asked.values_of, Attributes.{attributes, value_at}, Mask.numbers_of}
use Rattle.nfs_attrs.proofs.{Least.same_values, Bounds.attributes_within}
use Rattle.nfs_attrs.proofs.value.values_len.Goals as goal

pub loop-number-init : goal.loop-number-init
loop-number-init c =
    let a = c.args.about.now in
    let o = c.args.object.now in
    record { exact = omega (arith, ap length (same_values c.args.asked.now c.common-left.result a o c.common-left.ensures)); words = refl }

pub overflow_add-length : goal.overflow_add-length
overflow_add-length c = omega (
  arith,
  c.loop-number.invariant.exact,
  c.value_len-length.ensures.small,
  attributes_within c.args.asked.now c.args.about.now c.args.object.now,
)

pub loop-number-preserved : goal.loop-number-preserved
loop-number-preserved c =
    let a = c.args.about.now in
    let o = c.args.object.now in
    let here = value_at attributes c.in-Some.number a o in
    let later = values_of (numbers_of c.take_least.new.self) a o in
    let next : values_of (numbers_of c.loop-number.left) a o ≡ here ++ later = ap (λ (ns : List ℕ). values_of ns a o) c.in-Some.ensures in
    record {
      exact = omega (arith, c.loop-number.invariant.exact, c.value_len-length.ensures.exact, ap length next, length-append here later);
      words = omega (arith, c.loop-number.invariant.words, c.value_len-length.ensures.words);
    }

pub returns-clause-small : goal.returns-clause-small
returns-clause-small c = omega (arith, c.loop-number.invariant.exact, attributes_within c.args.asked.now c.args.about.now c.args.object.now)
