use Rattle.nfs_attrs.proofs.Fronts.{follows_then}
use Rattle.nfs_attrs.proofs.mask.Mask.follows.Goals as goal

pub returns-then-number_follows : goal.returns-then-number_follows
returns-then-number_follows c = rw (← c.trimmed_words-words.ensures.words) (follows_then c.numbers_follow.result _ _ _ _ _ c.if-number_follows.ensures
    c.numbers_follow.ensures)
