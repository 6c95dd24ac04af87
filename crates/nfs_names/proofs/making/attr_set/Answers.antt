use Rattle.std.proofs.Common.{◌∙◌}
use Rattle.nfs_names.proofs.Masks.{three_words_trimmed}
use Rattle.nfs_names.proofs.making.attr_set.Goals as goal

pub returns : goal.returns
returns c = c.of.ensures ∙ three_words_trimmed c.args.mask.now.words c.measure.ensures
