-- Statements on the definitions alone.
use Rattle.std.specs.Prelude.{◌≡◌, ◌≢◌, ◌⊎◌, ℕ, nat_eq, List, [], ◌∷◌, ◌++◌, All, flat_map, Option, if◌then◌else◌}
use Rattle.nfs_rpc.specs.Stream.{End, IsReading}
use Rattle.nfs_serve.specs.{declared.fault.Stop.Stop, Script.{Entry, IsRead}}
use Rattle.nfs_serve.specs.Run.{Streams, all_closed, Brings, TakesAll, StreamEvent, Arrives, Overflows, overflow}

-- Which fault a script has, if any, and its whole entries before it are decided by its bytes.
abbrev pub HasOneReading : Type 0
HasOneReading = (script : List ℕ) (a b : Option Stop) (es fs : List Entry) (r q : List ℕ)
    → IsRead a script es r → IsRead b script fs q → (a ≡ b) × (es ≡ fs) × (r ≡ q)

-- Where a piece is cut makes no difference: two pieces that come one after the other at one moment bring what one piece
-- of their bytes brings.
abbrev pub CutsAnywhere : Type 0
CutsAnywhere = (conn moment : ℕ) (before between end : End) (front back : List ℕ) (first later : List StreamEvent)
    → Brings conn moment before front first between → Brings conn moment between back later end
    → Brings conn moment before (front ++ back) (first ++ later) end

-- And a piece brings only that.
abbrev pub BringsOnce : Type 0
BringsOnce = (conn moment : ℕ) (before : End) (piece : List ℕ) (first other : List StreamEvent) (end last : End)
    → Brings conn moment before piece first end → Brings conn moment before piece other last → (first ≡ other) × (end ≡ last)

abbrev pub call_on : ℕ → StreamEvent → List (List ℕ)
call_on conn (Arrives c moment call) = if nat_eq c conn then call ∷ [] else []
call_on conn (Overflows c) = []

abbrev pub overflow_on : ℕ → StreamEvent → List StreamEvent
overflow_on conn (Arrives c moment call) = []
overflow_on conn (Overflows c) = if nat_eq c conn then Overflows c ∷ [] else []

-- nothing has come on the connection since it was last closed, or ever
abbrev pub IsClosedBehind : ℕ → List Entry → Type 0
IsClosedBehind conn entries = All (λ e. e.conn ≢ conn) entries
    ⊎ ((before : List Entry) × (close : Entry) × (others : List Entry) × (entries ≡ before ++ close ∷ others)
    × (close.conn ≡ conn) × (close.piece ≡ []) × All (λ e. e.conn ≢ conn) others)

-- What a script brings by a stretch of its entries: the records that arrive on the connection are those of the stream of
-- its pieces there, and where that stream becomes too long this is reported once.
pub record BringsStream (conn : ℕ) (front stretch back : List Entry) (brought : List StreamEvent) (end : Streams) : Type 0 where
  pub before : List StreamEvent
  pub here : List StreamEvent
  pub later : List StreamEvent
  pub from : Streams
  pub to : Streams
  pub order : brought ≡ before ++ (here ++ later)
  pub reads_front : TakesAll all_closed front before from
  pub reads_stretch : TakesAll from stretch here to
  pub reads_back : TakesAll to back later end
  pub stream : IsReading (flat_map (λ e. if nat_eq e.conn conn then e.piece else []) stretch) (flat_map (call_on conn) here) (to conn)
  pub overflows : flat_map (overflow_on conn) here ≡ overflow conn (to conn)

-- Entries of many connections in any order: on each connection the pieces since its last close form one stream.
abbrev pub ConnectionsAreStreams : Type 0
ConnectionsAreStreams = (conn : ℕ) (front stretch back : List Entry) (brought : List StreamEvent) (end : Streams)
    → TakesAll all_closed (front ++ (stretch ++ back)) brought end → IsClosedBehind conn front
    → All (λ e. e.conn ≡ conn → e.piece ≢ []) stretch
    → BringsStream conn front stretch back brought end
