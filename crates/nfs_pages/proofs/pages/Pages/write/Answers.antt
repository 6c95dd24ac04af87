use Rattle.std.proofs.Common.{◌+◌, ℕ, ◌∙◌, ap}
use Rattle.nfs_pages.specs.Pages.{is_written}
use Rattle.nfs_pages.proofs.CountLemmas.{count_same}
use Rattle.nfs_pages.proofs.pages.Pages.write.Goals as goal

pub returns-clause-more : goal.returns-clause-more
returns-clause-more c = record {
  grown = λ n le. c.put_all.ensures.more.grown n le
      ∙ ap (λ (k : ℕ). k + c.put_all.result) (count_same (is_written c.make_all.new.pages) (is_written c.args.self.now) n (λ i lt. c.make_all.ensures.written i));
}
