use Rattle.std.proofs.Common.{◌≡◌, ◌%◌, length, sym, subst}
use Rattle.nfs_attrs.specs.Value.{spell_value}
use Rattle.nfs_attrs.proofs.Lengths.{whole_words_of_mask}
use Rattle.nfs_attrs.proofs.value.Value.put.Goals as goal

pub returns-in-Mask-clause-words : goal.returns-in-Mask-clause-words
returns-in-Mask-clause-words c = subst (λ v. length (spell_value v) % 4 ≡ 0) (sym c.in-Mask.is) (whole_words_of_mask c.in-Mask.mask)
