use Rattle.std.proofs.Common.{◌≡◌, refl, ◌∙◌, ap, ℕ, ◌/◌, ◌%◌, take, arith, inl, inr}
use Rattle.std.proofs.lemmas.Bool.{cases_eq}
use Rattle.nfs_pages.specs.Pages.{page_of}
use Rattle.nfs_pages.proofs.PageLemmas.{cut_kept, cut_gone}
use Rattle.nfs_pages.proofs.pages.Pages.cut.Goals as goal

last : (c : goal.After-cut_page) → page_of c.cut_page.new.pages (c.args.size / 4096) ≡ take (c.args.size % 4096) (page_of c.args.self.now (c.args.size / 4096))
last c =
    let size : ℕ = c.args.size in
    c.cut_page.ensures.here ∙ elim (cases_eq (size % 4096) 0) [
      | inl whole ↦ rw whole refl
      | inr some ↦ ap (take (size % 4096)) (c.take_from-behind.ensures.kept (size / 4096) (omega (arith, some)))
    ]

pub returns-clause-kept : goal.returns-clause-kept
returns-clause-kept c =
    cut_kept (page_of c.args.self.now) (page_of c.cut_page.new.pages) c.args.size
    (λ k lt. c.cut_page.ensures.others k (λ e. absurd (omega arith)) ∙ c.take_from-behind.ensures.kept k (omega arith)) (last c)

pub returns-clause-gone : goal.returns-clause-gone
returns-clause-gone c =
    cut_gone (page_of c.args.self.now) (page_of c.cut_page.new.pages) c.args.size (last c)
    (λ k gt. c.cut_page.ensures.others k (λ e. absurd (omega arith)) ∙ c.take_from-behind.ensures.gone k (omega arith))
