use Rattle.std.proofs.{Common.{rules, sym, ◌∙◌}, lemmas.List.Sorted.answers_always}
use Rattle.nfs_sessions.proofs.Places.{the_counter, by_counter, placed, placed_other, placed_nowhere}
use Rattle.nfs_sessions.proofs.sessions.Sessions.find.Goals as goal

pub returns-in_err-place-clause-at : goal.returns-in_err-place-clause-at
returns-in_err-place-clause-at c =
    let facts = c.binary_search_by_key.ensures in
    let by_key = facts.position the_counter (answers_always _ _ _ (λ f a r g called. search rules)) in
    let at = by_counter _ _ c.args.id.now _ _ _ c.self.view_is c.self.invariant c.deref.ensures.value facts.bound by_key c.in_err-place.ensures.value in
    rw c.from_residual.ensures (placed_nowhere c.args.self.now c.args.id.now at)

pub returns-then-is-clause-at : goal.returns-then-is-clause-at
returns-then-is-clause-at c =
    let facts = c.binary_search_by_key.ensures in
    let by_key = facts.position the_counter (answers_always _ _ _ (λ f a r g called. search rules)) in
    let at = by_counter _ _ c.args.id.now _ _ _ c.self.view_is c.self.invariant c.deref.ensures.value facts.bound by_key c.in_ok-place.ensures.value in
    placed _ _ c.args.id.now _ _ c.self.view_is at c.index.ensures (sym c.is.ensures ∙ c.if-is.true)

pub returns-else-is-clause-at : goal.returns-else-is-clause-at
returns-else-is-clause-at c =
    let facts = c.binary_search_by_key.ensures in
    let by_key = facts.position the_counter (answers_always _ _ _ (λ f a r g called. search rules)) in
    let at = by_counter _ _ c.args.id.now _ _ _ c.self.view_is c.self.invariant c.deref.ensures.value facts.bound by_key c.in_ok-place.ensures.value in
    placed_other _ _ c.args.id.now _ _ c.self.view_is c.self.invariant at c.index.ensures (sym c.is.ensures ∙ c.if-is.false)
