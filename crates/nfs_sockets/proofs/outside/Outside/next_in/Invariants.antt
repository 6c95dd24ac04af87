-- One of those so far is found, if there was one.
use Rattle.std.proofs.Common.{◌≡◌, ◌<◌, MatchOption}
use Rattle.nfs_sockets.proofs.outside.Outside.next_in.Given as goal

abbrev pub invariant-loop-at : goal.invariant-loop-at
invariant-loop-at l = MatchOption l.found (l.at ≡ 0) (λ at. at < l.at)
