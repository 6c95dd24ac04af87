use Rattle.std.proofs.{Common.{◌≡◌, ◌≤◌, ◌/◌, ◌%◌, ℕ, List, [], length, ◌∙◌, sym, ap, arith, inl, inr, get_or}, lemmas.{List.get_or_past, Bool.cases_eq, Bool.Decides.nat_tests}}
use Rattle.std.specs.Prelude.{◌==◌, if◌then◌else◌}
use Rattle.nfs_pages.specs.{Bytes.{covers, pages_in}, Pages.{page_of, is_written, byte_in}}
use Rattle.nfs_pages.proofs.{PageLemmas.bytes_one, NumberLemmas.{content_is, numbers_same, counted_text}}
use Rattle.nfs_pages.proofs.bytes.Bytes.copied.Goals.{then-is_empty, else-is_empty}
use Rattle.nfs_pages.proofs.bytes.Bytes.copied.Goals as goal

-- behind the text is nothing
clean : (pages : ℕ → List ℕ) (text : List ℕ) → length text ≤ 4096 → pages 0 ≡ text → ((i : ℕ) → 1 ≤ i → pages i ≡ []) → (p : ℕ) → length text ≤ p → byte_in pages p ≡ 0
clean pages text few first others p le = elim (cases_eq (p / 4096) 0) [
  | inl here ↦ ap (λ (i : ℕ). get_or (pages i) (p % 4096) 0) here ∙ ap (λ (q : List ℕ). get_or q (p % 4096) 0) first ∙ get_or_past text (p % 4096) 0 (omega arith)
  | inr other ↦ ap (λ (q : List ℕ). get_or q (p % 4096) 0) (others (p / 4096) (omega (arith, other))) ∙ get_or_past [] (p % 4096) 0 (omega arith)
]

pub invariant_of-result : goal.invariant_of-result
invariant_of-result c =
    let one : c.if-is_empty.result ≡ (if length c.args.bytes.now == 0 then 0 else 1) = elim c.if-is_empty.branch [
      | then-is_empty w ↦ w.result-is ∙ grind (arith, nat_tests, sym c.is_empty.ensures ∙ w.if-is_empty.true)
      | else-is_empty w ↦ w.result-is ∙ grind (arith, nat_tests, sym c.is_empty.ensures ∙ w.if-is_empty.false)
    ] in (
      record { clean = clean (page_of c.in_ok-pages.pages) c.args.bytes.now c.requires c.in_ok-pages.ensures.first c.in_ok-pages.ensures.others },
      omega (arith, c.requires),
      counted_text (is_written c.in_ok-pages.pages) (length c.args.bytes.now) c.if-is_empty.result c.requires c.in_ok-pages.ensures.written one,
    )

pub returns : goal.returns
returns c = content_is _ _ _ _ (bytes_one (page_of c.in_ok-pages.pages) c.args.bytes.now c.requires c.in_ok-pages.ensures.first)
    (numbers_same (is_written c.in_ok-pages.pages) (covers 0 (length c.args.bytes.now)) (pages_in (length c.args.bytes.now)) (λ i lt. c.in_ok-pages.ensures.written i))
