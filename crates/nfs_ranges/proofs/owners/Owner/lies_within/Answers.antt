use Rattle.std.proofs.{Common.{◌≡◌, ap, sym, ◌∙◌, leb, []}, lemmas.Bool.{OnTrue_from, leb-true}}
use Rattle.nfs_ranges.specs.Intervals.{without}
use Rattle.nfs_ranges.proofs.SpanLemmas.{none_left}
use Rattle.nfs_ranges.proofs.owners.Owner.lies_within.Goals as goal

pub returns-then-first-self : goal.returns-then-first-self
returns-then-first-self c = OnTrue_from (leb c.self.inside.span.last c.args.last) (without c.args.first c.args.last c.args.self.now.intervals ≡ []) (λ e.
    ap (λ o. without c.args.first c.args.last o.intervals) (sym c.self.view_is)
    ∙ none_left c.self.inside.span.first c.self.inside.span.last c.args.first c.args.last c.self.inside.intervals.value c.self.invariant.span.each
    c.if-first-self.true (leb-true _ _ e))
