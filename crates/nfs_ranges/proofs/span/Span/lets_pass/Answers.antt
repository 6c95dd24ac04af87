use Rattle.std.proofs.{Common.{◌≡◌, true, false, sym, ◌∙◌, inl, inr}, lemmas.Bool.{OnTrue_from, cases_Bool, ltb-true}}
use Rattle.std.specs.Prelude.{not}
use Rattle.nfs_ranges.proofs.SpanLemmas.{passes_before, passes_behind, passes_read}
use Rattle.nfs_ranges.proofs.span.Span.lets_pass.Goals as goal
use Rattle.nfs_ranges.proofs.span.Span.lets_pass.Goals.{then-last-self, else-last-self, then-self, else-self}

pub returns-then-self-first : goal.returns-then-self-first
returns-then-self-first c = OnTrue_from c.if-last-self.value _ (λ e xs is. elim c.if-last-self.branch [
  | then-last-self w ↦ passes_before c.args.kind c.args.first c.args.last c.args.self.now xs w.if-last-self.true is
  | else-last-self w ↦ passes_behind c.args.kind c.args.first c.args.last c.args.self.now xs (ltb-true _ _ (sym w.value-is ∙ e)) is
])

pub returns-after-self : goal.returns-after-self
returns-after-self c = OnTrue_from (not c.if-self.result) _ (λ e xs is. elim (cases_Bool c.if-self.result) [
  | inl writes ↦ absurd (let bad : not true ≡ true = rw writes at e in let bad' : false ≡ true = bad in cc)
  | inr reads ↦ elim c.if-self.branch [
    | then-self w ↦ absurd (let bad : true ≡ false = sym w.if-self.true ∙ sym w.result-is ∙ reads in cc)
    | else-self w ↦ passes_read c.args.kind c.args.first c.args.last c.args.self.now xs w.if-self.false (sym w.is_write.ensures ∙ sym w.result-is ∙ reads) is
  ]
])
