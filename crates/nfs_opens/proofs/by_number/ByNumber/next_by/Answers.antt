use Rattle.std.proofs.Common.{ℕ, Some, None, sym, subst, ◌∙◌}
use Rattle.nfs_opens.specs.Index.{IsNext}
use Rattle.nfs_opens.proofs.IndexLemmas.{next_state, no_state, first_state}
use Rattle.nfs_opens.proofs.by_number.ByNumber.next_by.Goals as goal

pub returns-in-Some-clause-next : goal.returns-in-Some-clause-next
returns-in-Some-clause-next g c = λ f is.
    let of = g.S.Sought.of c.args.of.now in
    c.get.ensures ∙ next_state f g.T.State.number 1 c.kept.ensures.0 of c.args.after c.in-Some.number c.args.self.now.items c.args.index.now.items
    c.kept.ensures.1 is (subst (IsNext c.args.index.now.items of c.args.after) c.in-Some.is c.next.ensures)

pub returns-in-Some-clause-first : goal.returns-in-Some-clause-first
returns-in-Some-clause-first g c = λ f is zero.
    let of = g.S.Sought.of c.args.of.now in
    c.get.ensures ∙ (next_state f g.T.State.number 1 c.kept.ensures.0 of 0 c.in-Some.number c.args.self.now.items c.args.index.now.items
    c.kept.ensures.1 is (subst (λ (n : ℕ). IsNext c.args.index.now.items of n (Some c.in-Some.number)) zero
    (subst (IsNext c.args.index.now.items of c.args.after) c.in-Some.is c.next.ensures))
    ∙ first_state f g.T.State.number of c.kept.ensures.0 c.args.self.now.items c.kept.ensures.1)

pub returns-in-None-clause-next : goal.returns-in-None-clause-next
returns-in-None-clause-next g c = λ f is.
    let of = g.S.Sought.of c.args.of.now in
    sym (no_state f g.T.State.number of c.args.after c.args.self.now.items c.args.index.now.items is
    (subst (IsNext c.args.index.now.items of c.args.after) c.in-None.is c.next.ensures))

pub returns-in-None-clause-first : goal.returns-in-None-clause-first
returns-in-None-clause-first g c = λ f is zero.
    let of = g.S.Sought.of c.args.of.now in
    sym (no_state f g.T.State.number of 0 c.args.self.now.items c.args.index.now.items is
    (subst (λ (n : ℕ). IsNext c.args.index.now.items of n None) zero (subst (IsNext c.args.index.now.items of c.args.after) c.in-None.is c.next.ensures)))
    ∙ first_state f g.T.State.number of c.kept.ensures.0 c.args.self.now.items c.kept.ensures.1
