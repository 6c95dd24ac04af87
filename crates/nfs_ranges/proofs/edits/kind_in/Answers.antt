use Rattle.std.proofs.Common.{◌∙◌, sym}
use Rattle.nfs_ranges.proofs.AnswerLemmas.{kind_found, kind_gap, kind_end}
use Rattle.nfs_ranges.specs.Blocks.{flat}
use Rattle.nfs_ranges.proofs.edits.kind_in.Goals as goal

pub returns-in-Some : goal.returns-in-Some
returns-in-Some c = kind_found c.args.byte (flat c.args.blocks.now) c.in-Some.x (sym c.in-Some.is ∙ c.at_place.ensures ∙ c.place_before.ensures.place.next) c.if-x-byte.true

pub returns-in_default : goal.returns-in_default
returns-in_default c = kind_gap c.args.byte (flat c.args.blocks.now) c.in-Some.x c.requires.canonical
    (sym c.in-Some.is ∙ c.at_place.ensures ∙ c.place_before.ensures.place.next) c.if-x-byte.false

pub returns-in_default-2 : goal.returns-in_default-2
returns-in_default-2 c = kind_end c.args.byte (flat c.args.blocks.now) (sym c.in_default.is ∙ c.at_place.ensures ∙ c.place_before.ensures.place.next)
