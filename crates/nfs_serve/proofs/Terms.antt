-- What proofs call parts of definitions by.
use Rattle.std.specs.Prelude.{◌≡◌, ◌≢◌, ℕ, List, [], ◌++◌, All, flat_map, map, nat_eq, if◌then◌else◌}
use Rattle.nfs_rpc.specs.Stream.{End}
use Rattle.nfs_serve.specs.{Script.Entry, Run.{StreamEvent, Arrives, overflow}}

-- what the records of a piece, and the end of its stream, bring
abbrev pub events_of : ℕ → ℕ → List (List ℕ) → End → List StreamEvent
events_of conn moment calls end = map (λ call. Arrives conn moment call) calls ++ overflow conn end

-- the bytes that come on a connection by these entries, one piece behind the other
abbrev pub stream_on : ℕ → List Entry → List ℕ
stream_on conn entries = flat_map (λ e. if nat_eq e.conn conn then e.piece else []) entries

abbrev pub NoneCloses : ℕ → List Entry → Type 0
NoneCloses conn entries = All (λ e. e.conn ≡ conn → e.piece ≢ []) entries
