use Rattle.std.proofs.Common.{ap, sym, ◌∙◌, refl}
use Rattle.nfs_results.specs.CompoundResult.{CompoundResult}
use Rattle.nfs_results.proofs.ReplyLaws.{none_left, unread_left, more_left}
use Rattle.nfs_results.proofs.reply.Reply.next.Goals as goal

pub returns-then-self-eq0-clause-item : goal.returns-then-self-eq0-clause-item
returns-then-self-eq0-clause-item c = let none = sym (ap (λ (r : CompoundResult). r.results) c.self.view_is) ∙ none_left _ _ c.if-self-eq0.true in (none, none)

pub returns-in-Ok-clause-item : goal.returns-in-Ok-clause-item
returns-in-Ok-clause-item c = sym (ap (λ (r : CompoundResult). r.results) c.self.view_is) ∙ more_left _ _ _ _ c.if-self-eq0.false c.in-Ok.ensures

pub returns-in-Err-clause-item : goal.returns-in-Err-clause-item
returns-in-Err-clause-item c = (sym (ap (λ (r : CompoundResult). r.results) c.self.view_is) ∙ unread_left _ _ c.in-Err.ensures, none_left 0 _ refl)
