use Rattle.std.proofs.{Common.{ℕ, List, [], ◌/◌, ◌%◌, ◌∙◌, ap, arith, get_or}, lemmas.List.get_or_past}
use Rattle.nfs_pages.specs.{Bytes.pages_in, Pages.{page_of, is_written}}
use Rattle.nfs_pages.proofs.{PageLemmas.bytes_none, NumberLemmas.{content_is, numbers_empty, counted_none}}
use Rattle.nfs_pages.proofs.bytes.Bytes.zeros.Goals as goal

pub invariant_of-result : goal.invariant_of-result
invariant_of-result c = (
  record { clean = λ p le. ap (λ (q : List ℕ). get_or q (p % 4096) 0) (c.new.ensures.pages (p / 4096)) ∙ get_or_past [] (p % 4096) 0 (omega arith) },
  c.requires,
  counted_none (is_written c.new.result) c.args.size c.new.ensures.written,
)

pub returns : goal.returns
returns c = content_is _ _ _ _ (bytes_none (page_of c.new.result) c.args.size c.new.ensures.pages)
    (numbers_empty (is_written c.new.result) (pages_in c.args.size) (λ i lt. c.new.ensures.written i))
