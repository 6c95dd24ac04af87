use Rattle.std.proofs.{Common.{◌≡◌, ◌∙◌, subst, sym, false}, lemmas.Bool.{OnFalse_from, or_parts}}
use Rattle.nfs_ranges.specs.{declared.interval.Interval.Interval, Intervals.{IsCanonical, with_range}, Clashes.has_write, Told.is_write}
use Rattle.nfs_ranges.proofs.{EditLemmas.with_range-canonical, SpanLemmas.range_reads}
use Rattle.nfs_ranges.proofs.owners.Owner.set.Goals as goal

pub span-self-inside-requires-clause-canonical : goal.span-self-inside-requires-clause-canonical
span-self-inside-requires-clause-canonical c =
    let m : Interval = record { kind = c.args.kind; first = c.args.first; last = c.args.last } in
    let canonical : IsCanonical c.self.inside.intervals.value = subst (λ o. IsCanonical o.intervals) (sym c.self.view_is) c.requires.canonical in
    rw (c.deref.ensures, c.in_ok-set.ensures.ok, c.deref_mut.ensures.value)
    (with_range-canonical m c.self.inside.intervals.value c.requires.range c.ranges.last.fits canonical)

pub span-self-inside-requires-clause-read : goal.span-self-inside-requires-clause-read
span-self-inside-requires-clause-read c =
    let m : Interval = record { kind = c.args.kind; first = c.args.first; last = c.args.last } in
    rw (c.deref.ensures, c.in_ok-set.ensures.ok, c.deref_mut.ensures.value)
    (OnFalse_from c.writes_with-writes.result (has_write (with_range m c.self.inside.intervals.value) ≡ false) (λ e.
    let parts = or_parts c.self.inside.span.writes (is_write c.args.kind) (sym c.writes_with-writes.ensures ∙ e) in
    range_reads m c.self.inside.intervals.value parts.1 (c.self.invariant.read parts.0)))
