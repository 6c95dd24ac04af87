-- What reading the next entry of a script gives; private contracts alone speak of it.
use Rattle.std.specs.{Prelude.{◌≡◌, ℕ, ◌<◌, List, [], ◌++◌, Bool, true, false, Option, None, Some, Result, Ok, Err}, Io.KnownBytes.{Consumes, IsAtEnd}}
use Rattle.nfs_serve.specs.{declared.fault.Stop.Stop, declared.fault.Stop.TheVariants.{Cut, ReadFailed}, Ends.IsReported}
use Rattle.nfs_serve.specs.Script.{Entry, spell_entry, Fits, max_entries, StopsAt}
use Rattle.nfs_serve.specs.declared.script.Entry as rust

-- an entry, wherever its piece lies in memory
abbrev pub entry : rust.Entry → Entry
entry e = record { moment = e.moment; conn = e.conn; piece = e.piece.now }

-- the bytes begin with an entry that is read
abbrev pub BeginsWith : List ℕ → Entry → Type 0
BeginsWith bytes e = (rest : List ℕ) × (bytes ≡ spell_entry e ++ rest) × Fits e

-- a reader that stopped short has failed or ended
abbrev pub stop_of : Bool → Stop
stop_of true = ReadFailed
stop_of false = Cut

-- a run stops so in the place of any entry
abbrev pub StopsAnywhere : Stop → List ℕ → Type 0
StopsAnywhere stop rest = (whole : ℕ) → whole < max_entries → StopsAt stop whole rest

-- an entry, the end, or why there is no entry, and which bytes were taken
abbrev pub ReadsEntry : Result (Option rust.Entry) Stop → Option (List ℕ) → Option (List ℕ) → Bool → Bool → Type 0
ReadsEntry (Ok (Some e)) old new failed ended = Consumes old new (spell_entry (entry e)) × Fits (entry e) × (failed ≡ false) × (ended ≡ false)
ReadsEntry (Ok None) old new failed ended = Consumes old new [] × IsAtEnd new × (failed ≡ false) × (ended ≡ true)
ReadsEntry (Err stop) old new failed ended =
    (rest : List ℕ) × Consumes old new rest × StopsAnywhere stop rest × IsReported stop ended failed false new
