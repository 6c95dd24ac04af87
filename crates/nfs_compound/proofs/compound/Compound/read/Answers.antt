use Rattle.std.proofs.Common.{◌∙◌, sym, ap, arith}
use Rattle.std.specs.Prelude.{is_some}
use Rattle.nfs_compound.specs.ReadRequest.{items_at, items_left}
use Rattle.nfs_compound.proofs.{Walk.{at_other, at_minor_one, request_from}, RequestLaws.tag_bound}
use Rattle.nfs_compound.proofs.compound.Compound.read.Goals as goal

pub returns-then-minor-ne-MINOR_VERSION : goal.returns-then-minor-ne-MINOR_VERSION
unfolding items_left
returns-then-minor-ne-MINOR_VERSION c = request_from _ _ _ _ _ _ _ _ _ c.new-cursor.ensures c.in_ok-tag.ensures.exact
    c.in_ok-minor.ensures.exact c.in_ok-declared.ensures.exact (at_other _ _ c.if-minor-ne-MINOR_VERSION.true)

pub returns : goal.returns
returns c = request_from _ _ _ _ _ _ _ _ _ c.new-cursor.ensures c.in_ok-tag.ensures.exact c.in_ok-minor.ensures.exact c.in_ok-declared.ensures.exact
    (at_minor_one _ _ _ c.if-minor-ne-MINOR_VERSION.false
    (ap (λ bytes. is_some (items_at c.in_ok-declared.declared bytes)) (sym c.rest.ensures) ∙ sym c.is_readable.ensures ∙ c.if-not-is_readable.false))

pub invariant_of-result : goal.invariant_of-result
invariant_of-result c = tag_bound c.args.bytes.now _ _ _
    (record { each = λ i. omega (arith, c.type_inv.bytes i) }) c.new-cursor.ensures c.in_ok-tag.ensures.exact

pub invariant_of-result-2 : goal.invariant_of-result-2
invariant_of-result-2 c =
    tag_bound c.args.bytes.now _ _ _ (record { each = λ i. omega (arith, c.type_inv.bytes i) }) c.new-cursor.ensures c.in_ok-tag.ensures.exact
