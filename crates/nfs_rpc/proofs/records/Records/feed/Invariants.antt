use Rattle.std.proofs.Common.{◌≡◌, ◌-◌, ◌≤◌, ◌++◌, List, ℕ, length, take}
use Rattle.nfs_xdr.specs.Text.{IsBytes}
use Rattle.nfs_rpc.specs.declared.records.State.TheVariants as States
use Rattle.nfs_rpc.specs.{Feeding.Holds, Share.state_of}
use Rattle.nfs_rpc.proofs.records.Records.feed.Given as goal

abbrev pub invariant-loop-used : goal.invariant-loop-used
invariant-loop-used l = record {
  stands : (rest : List ℕ) → IsBytes rest → Holds rest l.fn.self → Holds (rest ++ take l.used l.piece) l.self;
  begun : state_of l.self ≡ States.Begun;
  within : l.used ≤ length l.piece;
}

abbrev pub decreases-loop-used : goal.decreases-loop-used
decreases-loop-used l = length l.piece - l.used
