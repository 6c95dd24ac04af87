use Rattle.std.proofs.{Common.{◌≡◌, ◌<◌, rules, arith, ap, sym, ◌∙◌, [], ◌∷◌, ◌++◌, length, inl}, lemmas.List.nil_from_length}
use Rattle.nfs_serve.specs.{Desk.{Came, ReadBlocked, Ended, Failed, IsHungry}, Lane.desk_of}
use Rattle.nfs_serve.proofs.Advancing.{goes_on, read_blocked, read_came, read_ended, read_failed, reads_blocked, reads_none, reads_last, reads_between}
use Rattle.nfs_serve.proofs.Spending.{spends_on, spends_came, spends_blocked, spends_ended, spends_failed}
use Rattle.nfs_serve.proofs.TurnEnds.{ends_stuck, ends_full, ends_answered, ends_behind}
use Rattle.nfs_serve.proofs.lane.Lane.advance.Given as given
use Rattle.nfs_serve.proofs.lane.Lane.advance.Goals as goal
use Rattle.nfs_serve.proofs.lane.Lane.advance.Goals.{After-receive}

hungry : (g : given.Over) (c : After-receive g) → IsHungry (desk_of c.settle.new.self)
hungry g c =
    let (xs, first, (live, stream, enough, owed), none, spent) = c.in-Clear.ensures in
    let empty : length c.rest.result.now ≡ 0 = search rules in
    record { live = live; short = stream; unread = sym c.rest.ensures ∙ nil_from_length _ empty; owed = owed }

pub returns-in-Stuck : goal.returns-in-Stuck
returns-in-Stuck g c = let (xs, first, stuck, none, spent) = c.in-Stuck.ensures in (xs, first, ends_stuck _ (reads_none xs none) spent stuck)

pub returns-in-Gone : goal.returns-in-Gone
returns-in-Gone g c = let (xs, first, may, none, spent) = c.in-Gone.ensures in (xs, first, (reads_none xs none, (_, spent), may))

pub returns-then-not-is_empty : goal.returns-then-not-is_empty
returns-then-not-is_empty g c =
    let (xs, first, (live, stream, enough, owed), none, spent) = c.in-Clear.ensures in
    let some : 0 < length c.settle.new.self.unread = search rules in
    (xs, first, ends_full _ (reads_none xs none) spent live enough some owed)

pub returns-in-Bytes : goal.returns-in-Bytes
returns-in-Bytes g c =
    let at = (goal.at.returns-in-Bytes g c).After-receive in
    let (xs, first, _, none, spent) = c.in-Clear.ensures in
    let (some, few, logs) = c.in-Bytes.ensures.received in
    let (ys, later, rests, none_later, spent_later) = c.settle-in-Bytes.ensures in
    let u = c.receive.new.self in (
      (xs ++ Came u ∷ []) ++ ys,
      goes_on (goes_on first (Came u ∷ []) _ _ _ _ (read_came _ _ (desk_of c.settle.new.self) u _ _ _ (hungry g at) some few logs)) ys _ _ _ _ later,
      ends_behind xs ys u _ _ c.settle-in-Bytes.result (reads_between xs (Came u ∷ []) ys none none_later (omega arith))
          (spends_on (xs ++ Came u ∷ []) ys _ _ _ (spends_on xs (Came u ∷ []) _ _ _ spent (spends_came u _)) spent_later) rests,
    )

pub returns-in-Blocked : goal.returns-in-Blocked
returns-in-Blocked g c =
    let at = (goal.at.returns-in-Blocked g c).After-receive in
    let (xs, first, (live, stream, enough, owed), none, spent) = c.in-Clear.ensures in
    let (empty, logs) = c.in-Blocked.ensures.received in (
      xs ++ ReadBlocked ∷ [],
      goes_on first (ReadBlocked ∷ []) _ _ _ _ (read_blocked _ _ (desk_of c.settle.new.self) c.receive.new.self _ _ _ (hungry g at) empty logs),
      ends_answered _ (reads_last xs (ReadBlocked ∷ []) none (omega arith)) (spends_on xs (ReadBlocked ∷ []) _ _ _ spent (spends_blocked _)) live (inl empty) owed (reads_blocked xs),
    )

pub returns-in-Ended : goal.returns-in-Ended
returns-in-Ended g c =
    let at = (goal.at.returns-in-Ended g c).After-receive in
    let (xs, first, _, none, spent) = c.in-Clear.ensures in
    let (empty, logs) = c.in-Ended.ensures.received in (
      xs ++ Ended ∷ [],
      goes_on first (Ended ∷ []) _ _ _ _ (rw c.leave.ensures (read_ended _ _ (desk_of c.settle.new.self) _ _ _ (hungry g at) logs)),
      (
        reads_last xs (Ended ∷ []) none (omega arith),
        (_, spends_on xs (Ended ∷ []) _ _ _ spent (spends_ended _)),
        inl (ap (λ d. d.gone) c.leave.ensures),
      ),
    )

pub returns-in-Failed : goal.returns-in-Failed
returns-in-Failed g c =
    let at = (goal.at.returns-in-Failed g c).After-receive in
    let (xs, first, _, none, spent) = c.in-Clear.ensures in
    let (empty, logs) = c.in-Failed.ensures.received in (
      xs ++ Failed ∷ [],
      goes_on first (Failed ∷ []) _ _ _ _ (rw c.leave-in-Failed.ensures (read_failed _ _ (desk_of c.settle.new.self) _ _ _ (hungry g at).live logs)),
      (
        reads_last xs (Failed ∷ []) none (omega arith),
        (_, spends_on xs (Failed ∷ []) _ _ _ spent (spends_failed _)),
        inl (ap (λ d. d.gone) c.leave-in-Failed.ensures),
      ),
    )
