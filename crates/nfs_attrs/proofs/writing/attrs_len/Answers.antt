use Rattle.std.proofs.{Common.{◌≡◌, ◌%◌, length, ap, ◌∙◌, arith}, lemmas.List.length-append}
use Rattle.nfs_xdr.specs.Spelling.{opaque}
use Rattle.nfs_attrs.specs.{Attributes.{values, readable}, Mask.{common, spell_mask}}
use Rattle.nfs_attrs.proofs.{Bounds.{attributes_within, told_within}, Whole.length_of_words}
use Rattle.nfs_attrs.proofs.writing.attrs_len.Goals as goal

pub returns-clause-exact : goal.returns-clause-exact
returns-clause-exact c =
    let text = values c.args.asked c.args.about.now c.args.object.now in
    let shown = common c.args.asked (readable c.args.about.now.profile) in
    let whole : length text % 4 ≡ 0 = rw (← c.values_len-count.ensures.exact) c.values_len-count.ensures.words in
    let mask : c.len-mask.result ≡ length (spell_mask shown) = c.len-mask.ensures.exact ∙ ap (λ m. length (spell_mask m)) (c.common-shown.ensures ∙ ap (common c.args.asked) c.readable.ensures) in
    omega (arith, mask, c.values_len-count.ensures.exact, length_of_words text whole, length-append (spell_mask shown) (opaque text))

pub returns-clause-within : goal.returns-clause-within
returns-clause-within c =
    let text = values c.args.asked c.args.about.now c.args.object.now in
    let shown = common c.args.asked (readable c.args.about.now.profile) in
    let whole : length text % 4 ≡ 0 = rw (← c.values_len-count.ensures.exact) c.values_len-count.ensures.words in
    let mask : c.len-mask.result ≡ length (spell_mask shown) = c.len-mask.ensures.exact ∙ ap (λ m. length (spell_mask m)) (c.common-shown.ensures ∙ ap (common c.args.asked) c.readable.ensures) in
    omega (
      arith,
      mask,
      c.values_len-count.ensures.exact,
      attributes_within c.args.asked c.args.about.now c.args.object.now,
      told_within c.args.asked (readable c.args.about.now.profile),
    )
