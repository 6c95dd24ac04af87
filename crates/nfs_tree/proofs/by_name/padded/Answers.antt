use Rattle.std.proofs.{Common.{ℕ, List, ◌++◌, length, drop, ◌∙◌, ap}, Math.ListN.{replicate, set}}
use Rattle.nfs_tree.proofs.ShortKeys.{set_last}
use Rattle.nfs_tree.proofs.by_name.padded.Goals as goal

pub returns : goal.returns
returns c = ap (λ (front : List ℕ). set (front ++ drop (length c.args.name.now) (replicate 24 0)) 23 (length c.args.name.now)) c.copy_from_slice.ensures.after
    ∙ set_last c.args.name.now c.requires
