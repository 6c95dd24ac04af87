use Rattle.std.proofs.Common.{◌∷◌, ◌∙◌, sym, ap, subst, Bool, List, ℕ, Some}
use Rattle.nfs_xdr.specs.Reading.{flag_at}
use Rattle.nfs_results.specs.Entries.{entries_in, AreEntries}
use Rattle.nfs_results.proofs.EntryLaws.{next_flagged, next_none, next_read, next_some}
use Rattle.nfs_results.proofs.entries.Entries.next.Goals as goal

pub returns-in-Err : goal.returns-in-Err
returns-in-Err c = absurd (next_flagged c.self.inside.spelled.now c.self.invariant (ap flag_at (sym c.new-cursor.ensures) ∙ c.in-Err.ensures.exact.0))

pub returns-then-not-more : goal.returns-then-not-more
returns-then-not-more c =
    let flag = ap flag_at (sym c.new-cursor.ensures) ∙ c.in-Ok.ensures.exact ∙ ap (λ (more : Bool). Some (more, c.flag.new.self)) c.if-not-more.true in
    let none = sym c.self.view_is ∙ next_none c.self.inside.spelled.now c.self.invariant c.flag.new.self flag in
    (none, none)

pub invariant_of-self : goal.invariant_of-self
invariant_of-self c =
    let flag = ap flag_at (sym c.new-cursor.ensures) ∙ c.in-Ok.ensures.exact ∙ ap (λ (more : Bool). Some (more, c.flag.new.self)) c.if-not-more.false in
    let s = next_some c.self.inside.spelled.now c.self.invariant c.flag.new.self flag _ c.entry.new.c c.in-Ok-entry.ensures in
    subst (λ (w : List ℕ). AreEntries w) (sym c.rest-self-inside.ensures) s.1

pub returns-in-Ok-entry : goal.returns-in-Ok-entry
returns-in-Ok-entry c =
    let flag = ap flag_at (sym c.new-cursor.ensures) ∙ c.in-Ok.ensures.exact ∙ ap (λ (more : Bool). Some (more, c.flag.new.self)) c.if-not-more.false in
    let s = next_some c.self.inside.spelled.now c.self.invariant c.flag.new.self flag _ c.entry.new.c c.in-Ok-entry.ensures in
    sym c.self.view_is ∙ s.0 ∙ ap (λ (w : List ℕ). c.in-Ok-entry.first ∷ entries_in w) (sym c.rest-self-inside.ensures)

pub returns-in-Err-entry : goal.returns-in-Err-entry
returns-in-Err-entry c =
    let flag = ap flag_at (sym c.new-cursor.ensures) ∙ c.in-Ok.ensures.exact ∙ ap (λ (more : Bool). Some (more, c.flag.new.self)) c.if-not-more.false in
    absurd (next_read c.self.inside.spelled.now c.self.invariant c.flag.new.self flag c.in-Err-entry.ensures)
