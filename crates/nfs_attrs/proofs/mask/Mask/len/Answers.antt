use Rattle.std.proofs.Common.{length, ap, arith}
use Rattle.nfs_attrs.proofs.Lengths.{length_mask}
use Rattle.nfs_attrs.proofs.mask.Mask.len.Goals as goal

pub returns-clause-exact : goal.returns-clause-exact
returns-clause-exact c = omega (arith, ap length c.trimmed_words.ensures.words, length_mask c.args.self.now)
