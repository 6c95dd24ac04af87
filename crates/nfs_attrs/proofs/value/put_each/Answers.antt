use Rattle.std.proofs.{Common.{◌≡◌, ◌++◌, ◌∙◌, ℕ, List, length, ap, append_assoc, refl, sym, arith}, lemmas.List.{length-append}}
use Rattle.nfs_attrs.specs.{Asked.values_of, Attributes.{attributes, value_at}, Mask.numbers_of}
use Rattle.nfs_attrs.proofs.value.put_each.Goals as goal

pub loop-number-init : goal.loop-number-init
loop-number-init c = record { put = record { bytes = refl; room = refl }; words = refl }

pub put_value-requires : goal.put_value-requires
put_value-requires c =
    let a = c.args.about.now in
    let o = c.args.object.now in
    let here = value_at attributes c.in-Some.number a o in
    let later = values_of (numbers_of c.take_least.new.self) a o in
    let all = values_of (numbers_of c.args.asked) a o in
    let next : values_of (numbers_of c.loop-number.left) a o ≡ here ++ later = ap (λ (ns : List ℕ). values_of ns a o) c.in-Some.ensures in
    record {
      room = omega (
        arith,
        c.requires.room,
        c.loop-number.invariant.put.room,
        ap length c.loop-number.invariant.put.bytes,
        length-append c.args.out.now.bytes all,
        ap length next,
        length-append here later,
        length-append c.loop-number.out.bytes (values_of (numbers_of c.loop-number.left) a o),
      );
    }

pub loop-number-preserved : goal.loop-number-preserved
loop-number-preserved c =
    let a = c.args.about.now in
    let o = c.args.object.now in
    let here = value_at attributes c.in-Some.number a o in
    let later = values_of (numbers_of c.take_least.new.self) a o in
    let before = c.loop-number.out.bytes in
    let next : values_of (numbers_of c.loop-number.left) a o ≡ here ++ later = ap (λ (ns : List ℕ). values_of ns a o) c.in-Some.ensures in
    let one = c.put_value.ensures.put in
    record {
      put = record {
        bytes = ap (λ (w : List ℕ). w ++ later) one.bytes ∙ append_assoc before here later ∙ ap (λ (w : List ℕ). before ++ w) (sym next)
            ∙ c.loop-number.invariant.put.bytes;
        room = one.room ∙ c.loop-number.invariant.put.room;
      };
      words = omega (arith, ap length one.bytes, length-append before here, c.put_value.ensures.words, c.loop-number.invariant.words);
    }
