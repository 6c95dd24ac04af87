use Rattle.std.proofs.Common.{◌≡◌, rules, ap, [], ◌∷◌, ◌++◌, refl, false}
use Rattle.nfs_serve.specs.{Desk.Closed, Lane.{desk_of, whole}}
use Rattle.nfs_serve.proofs.{Advancing.{stays, goes_on, closes, reads_none, reads_closed}, Spending.{spends_on, spends_nothing, spends_closed}}
use Rattle.nfs_serve.proofs.TurnEnds.{ends_gone}
use Rattle.nfs_serve.proofs.lane.Lane.turn.Goals as goal

pub returns-then-not-self : goal.returns-then-not-self
returns-then-not-self g c =
    let off : c.args.self.now.live ≡ false = search rules in
    ([], stays _ _ _ _ _, ends_gone whole (reads_none [] refl) (spends_nothing _) off)

pub returns-in-Clear : goal.returns-in-Clear
returns-in-Clear g c = c.in-Clear.ensures

pub returns-in-Stuck : goal.returns-in-Stuck
returns-in-Stuck g c = c.in-Stuck.ensures

pub returns-in-Gone : goal.returns-in-Gone
returns-in-Gone g c =
    let (acts, advances, (once, (left, spent), may)) = c.in-Gone.ensures in (
      acts ++ Closed ∷ [],
      goes_on advances (Closed ∷ []) _ _ _ _ (rw c.reset.ensures (closes _ _ (desk_of c.advance.new.self) _ _ _ may c.close.ensures.logs)),
      ends_gone left (reads_closed acts once) (spends_on acts (Closed ∷ []) _ _ _ spent (spends_closed _)) (ap (λ d. d.live) c.reset.ensures),
    )
