use Rattle.std.proofs.{Common.{◌≡◌, ◌<◌, rules, ap, ◌∙◌, [], ◌++◌, length, true, inl, inr, sym}, lemmas.List.nil_from_length}
use Rattle.nfs_serve.specs.Lane.{desk_of}
use Rattle.nfs_serve.proofs.{Advancing.{goes_on, quiet_advances, stuck_behind, none_read}, Spending.spends_on}
use Rattle.nfs_serve.proofs.lane.Lane.settle.Goals as goal

pub returns-in-Stuck : goal.returns-in-Stuck
returns-in-Stuck g c =
    let ((acts, so_far, none_yet, spent), live) = c.loop-self.invariant in
    let (ys, quiet, stuck, flushed) = c.in-Stuck.ensures in (
      acts ++ ys,
      goes_on so_far ys _ _ _ _ (quiet_advances _ ys _ _ _ _ _ _ quiet),
      stuck_behind acts ys (desk_of c.flush.new.self) stuck,
      none_read acts ys none_yet quiet.no_reads,
      spends_on acts ys _ _ _ spent flushed,
    )

pub returns-in-Gone : goal.returns-in-Gone
returns-in-Gone g c =
    let ((acts, so_far, none_yet, spent), live) = c.loop-self.invariant in
    let (ys, quiet, gone, flushed) = c.in-Gone.ensures in (
      acts ++ ys,
      goes_on so_far ys _ _ _ _ (quiet_advances _ ys _ _ _ _ _ _ quiet),
      gone,
      none_read acts ys none_yet quiet.no_reads,
      spends_on acts ys _ _ _ spent flushed,
    )

pub returns-then-is_too_long : goal.returns-then-is_too_long
returns-then-is_too_long g c =
    let ((acts, so_far, none_yet, spent), live) = c.loop-self.invariant in
    let (ys, quiet, clear, flushed) = c.in-Clear.ensures in
    let still : c.flush.new.self.live ≡ true = ap (λ d. d.live) clear ∙ live in
    let long = sym c.is_too_long.ensures ∙ c.if-is_too_long.true in (
      acts ++ ys,
      goes_on so_far ys _ _ _ _ (quiet_advances _ ys _ _ _ _ _ _ quiet),
      inr (still, ap (λ d. d.owed) clear, long),
      none_read acts ys none_yet quiet.no_reads,
      spends_on acts ys _ _ _ spent flushed,
    )

pub returns-then-is_empty : goal.returns-then-is_empty
returns-then-is_empty g c =
    let ((acts, so_far, none_yet, spent), live) = c.loop-self.invariant in
    let (ys, quiet, clear, flushed) = c.in-Clear.ensures in
    let still : c.flush.new.self.live ≡ true = ap (λ d. d.live) clear ∙ live in
    let none : length c.rest.result.now ≡ 0 = search rules in
    let unread : c.flush.new.self.unread ≡ [] = sym c.rest.ensures ∙ nil_from_length _ none in
    let short = sym c.is_too_long.ensures ∙ c.if-is_too_long.false in (
      acts ++ ys,
      goes_on so_far ys _ _ _ _ (quiet_advances _ ys _ _ _ _ _ _ quiet),
      (still, short, inl unread, ap (λ d. d.owed) clear),
      none_read acts ys none_yet quiet.no_reads,
      spends_on acts ys _ _ _ spent flushed,
    )

pub returns-then-is_spent : goal.returns-then-is_spent
returns-then-is_spent g c =
    let ((acts, so_far, none_yet, spent), live) = c.loop-self.invariant in
    let (ys, quiet, clear, flushed) = c.in-Clear.ensures in
    let still : c.flush.new.self.live ≡ true = ap (λ d. d.live) clear ∙ live in
    let some : 0 < length c.flush.new.self.unread = search rules in
    let done = c.is_spent.ensures.spent c.if-is_spent.true in
    let short = sym c.is_too_long.ensures ∙ c.if-is_too_long.false in (
      acts ++ ys,
      goes_on so_far ys _ _ _ _ (quiet_advances _ ys _ _ _ _ _ _ quiet),
      (still, short, inr (some, done), ap (λ d. d.owed) clear),
      none_read acts ys none_yet quiet.no_reads,
      spends_on acts ys _ _ _ spent flushed,
    )

pub loop-self-preserved : goal.loop-self-preserved
loop-self-preserved g c =
    let ((acts, so_far, none_yet, spent), live) = c.loop-self.invariant in
    let (ys, quiet, clear, flushed) = c.in-Clear.ensures in
    let still : c.flush.new.self.live ≡ true = ap (λ d. d.live) clear ∙ live in
    let some = c.step_some.ensures in
    let zs = some.acts in
    let written = goes_on so_far ys _ _ _ _ (quiet_advances _ ys _ _ _ _ _ _ quiet) in (
      (
        (acts ++ ys) ++ zs,
        goes_on written zs _ _ _ _ some.advances,
        none_read (acts ++ ys) zs (none_read acts ys none_yet quiet.no_reads) some.no_reads,
        spends_on (acts ++ ys) zs _ _ _ (spends_on acts ys _ _ _ spent flushed) some.spends,
      ),
      some.live ∙ still,
    )
