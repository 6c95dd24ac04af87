use Rattle.std.proofs.Common.{◌≡◌, ◌<◌, ◌-◌, rules, refl, sym, ap, inl, [], ◌∷◌, ◌++◌, take, length, take-append-drop, length-take-le}
use Rattle.nfs_serve.specs.Desk.{Took, WriteBlocked, Failed, leaving}
use Rattle.nfs_serve.proofs.{Advancing.{quiet_on, quiet_act}, Spending.{spends_on, spends_took, spends_stuck, spends_failed}}
use Rattle.nfs_serve.proofs.lane.Lane.flush.Goals as goal

pub loop-ports-preserved : goal.loop-ports-preserved
loop-ports-preserved g c =
    let ((acts, so_far, spent), live, gone, heard, long, unread) = c.loop-ports.invariant in
    let n = c.in-Bytes.n in
    let owed = c.loop-ports.self.owed.bytes in
    let some : 0 < length (take n c.rest-in-loop-ports.result.now) = search rules in
    let split : owed ≡ take n c.rest-in-loop-ports.result.now ++ c.consume.new.self.bytes =
    rw c.rest-in-loop-ports.ensures (rw c.consume.ensures (sym (take-append-drop n owed))) in
    let size : length (take n c.rest-in-loop-ports.result.now) ≡ n = length-take-le n c.rest-in-loop-ports.result.now (search rules) in
    let fewer : c.saturating_sub-left.result ≡ c.loop-ports.left.bytes - length (take n c.rest-in-loop-ports.result.now) = rw size (search rules) in (
      (
        acts ++ Took (take n c.rest-in-loop-ports.result.now) ∷ [],
        quiet_on _ acts (Took (take n c.rest-in-loop-ports.result.now) ∷ []) _ _ _ _ _ _ so_far
            (quiet_act _ (Took (take n c.rest-in-loop-ports.result.now)) _ _ _ _ refl refl refl
            (λ s. (refl, live, some, c.consume.new.self.bytes, split, refl)) c.in-Bytes.ensures.logs),
        spends_on acts (Took (take n c.rest-in-loop-ports.result.now) ∷ []) _ _ _ spent (spends_took (take n c.rest-in-loop-ports.result.now) _ _ refl fewer refl),
      ),
      live,
      gone,
      heard,
      long,
      unread,
    )

pub returns-in-Blocked : goal.returns-in-Blocked
returns-in-Blocked g c =
    let ((acts, so_far, spent), live, gone, heard, long, unread) = c.loop-ports.invariant in
    let owed : 0 < length c.loop-ports.self.owed.bytes = search rules in (
      acts ++ WriteBlocked ∷ [],
      quiet_on _ acts (WriteBlocked ∷ []) _ _ _ _ _ _ so_far
          (quiet_act _ WriteBlocked _ _ _ _ refl refl refl (λ s. (refl, live, owed, refl)) c.in-Blocked.ensures.logs),
      (acts, refl, owed),
      spends_on acts (WriteBlocked ∷ []) _ _ _ spent (spends_stuck _),
    )

pub returns-in-Failed : goal.returns-in-Failed
returns-in-Failed g c =
    let ((acts, so_far, spent), live, gone, heard, long, unread) = c.loop-ports.invariant in (
      acts ++ Failed ∷ [],
      rw c.leave.ensures (quiet_on _ acts (Failed ∷ []) _ _ leaving _ _ _ so_far
          (quiet_act _ Failed _ _ _ _ refl refl refl (λ s. (refl, live, refl)) c.in-Failed.ensures.logs)),
      inl (ap (λ d. d.gone) c.leave.ensures),
      spends_on acts (Failed ∷ []) _ _ _ spent (spends_failed _),
    )
