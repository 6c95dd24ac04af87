use Rattle.std.proofs.Common.{◌∙◌, sym, subst}
use Rattle.nfs_ranges.specs.{Owners.IsSpan, Blocks.flat}
use Rattle.nfs_ranges.proofs.SpanLemmas.{no_span, no_end, span_is}
use Rattle.nfs_ranges.proofs.edits.span_of.Goals as goal

pub returns-in_default : goal.returns-in_default
returns-in_default c = no_end 0xffff_ffff_ffff_ffff 0 c.args.blocks.now c.in_default.ensures.value

pub returns-in_default-at_place : goal.returns-in_default-at_place
returns-in_default-at_place c = no_span 0xffff_ffff_ffff_ffff 0 c.args.blocks.now c.requires.some (sym c.in_default-at_place.is ∙ c.at_place.ensures)

pub returns : goal.returns
returns c =
    subst (λ n. IsSpan c.in-Some-at_place.x.first n (flat c.args.blocks.now)) (sym c.last_end.ensures)
    (span_is c.in-Some-at_place.x c.in-Some.b.now c.args.blocks.now c.requires (sym c.in-Some-at_place.is ∙ c.at_place.ensures) c.in-Some.ensures.value)
