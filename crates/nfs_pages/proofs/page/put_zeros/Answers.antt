use Rattle.std.proofs.{Common.{◌∙◌, ◌++◌, ℕ, List, ap}, lemmas.List.take-replicate}
use Rattle.nfs_pages.proofs.page.put_zeros.Goals as goal

pub returns-clause-bytes : goal.returns-clause-bytes
returns-clause-bytes c = c.put_bytes.ensures.bytes ∙ ap (λ (ys : List ℕ). c.args.out.now.bytes ++ ys) (take-replicate c.args.count 4096 0 c.requires.few)
