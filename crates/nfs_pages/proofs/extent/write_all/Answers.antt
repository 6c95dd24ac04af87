use Rattle.std.proofs.Common.{◌≡◌, ◌<◌, ◌+◌, ◌-◌, ◌/◌, ℕ, Bool, List, length, sym, ◌∙◌, ap, arith, inl, inr}
use Rattle.std.proofs.lemmas.Bool.{cases_lt}
use Rattle.std.proofs.lemmas.List.{get_or_past}
use Rattle.std.specs.Prelude.{◌||◌}
use Rattle.nfs_pages.specs.{Page.{Leaf, blank, page_in, is_in}}
use Rattle.nfs_pages.proofs.CountLemmas.{count_same, covers_is}
use Rattle.nfs_pages.proofs.extent.write_all.Goals as goal

-- a whole page is there
whole_there : (pages : List Leaf) (j : ℕ) → length (page_in pages j) ≡ 4096 → j < length pages
whole_there pages j whole = elim (cases_lt j (length pages)) [
  | inl there ↦ there
  | inr past ↦ absurd (let none = ap (λ (l : Leaf). length l.bytes) (get_or_past pages j blank past) in omega (arith, none, whole))
]

pub mark_all-more-requires : goal.mark_all-more-requires
mark_all-more-requires c =
    let some = c.requires.some in
    record {
      order = omega arith;
      there =
          let last : ℕ = (c.args.offset + length c.args.text.now + 4095) / 4096 - 1 in
          let whole = whole_there c.args.pages.now last (c.requires.whole last (omega arith) (omega arith)) in
          omega arith;
    }

pub returns-clause-written : goal.returns-clause-written
returns-clause-written c = λ k. c.put_all.ensures.written k ∙ c.mark_all-more.ensures.written k
    ∙ ap (λ (b : Bool). b || is_in c.args.pages.now k) (sym (covers_is c.args.offset (length c.args.text.now) k c.requires.some))

pub returns-clause-more : goal.returns-clause-more
returns-clause-more c = record {
  grown = λ n le. count_same (is_in c.put_all.new.pages) (is_in c.mark_all-more.new.pages) n (λ i lt. c.put_all.ensures.written i)
      ∙ c.mark_all-more.ensures.more.grown n (let few = c.requires.few in omega arith);
}
