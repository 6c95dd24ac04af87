use Rattle.std.proofs.{Common.{◌≡◌, subst, sym, false}, lemmas.Bool.OnFalse_from}
use Rattle.nfs_ranges.specs.{Intervals.{IsCanonical, without}, Clashes.has_write}
use Rattle.nfs_ranges.proofs.{EditLemmas.without-canonical, SpanLemmas.without_reads}
use Rattle.nfs_ranges.proofs.owners.Owner.clear.Goals as goal

pub span-self-inside-requires-clause-canonical : goal.span-self-inside-requires-clause-canonical
span-self-inside-requires-clause-canonical c =
    let canonical : IsCanonical c.self.inside.intervals.value = subst (λ o. IsCanonical o.intervals) (sym c.self.view_is) c.requires.canonical in
    rw (c.deref.ensures, c.in_ok-clear.ensures.ok, c.deref_mut.ensures.value)
    (without-canonical c.args.first c.args.last c.self.inside.intervals.value c.requires.range c.ranges.last.fits canonical)

pub span-self-inside-requires-clause-read : goal.span-self-inside-requires-clause-read
span-self-inside-requires-clause-read c =
    rw (c.deref.ensures, c.in_ok-clear.ensures.ok, c.deref_mut.ensures.value)
    (OnFalse_from c.self.inside.span.writes (has_write (without c.args.first c.args.last c.self.inside.intervals.value) ≡ false) (λ e.
    without_reads c.args.first c.args.last c.self.inside.intervals.value (c.self.invariant.read e)))
