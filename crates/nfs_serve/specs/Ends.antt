-- What a read and a write show of the ends of a run.
use Rattle.std.specs.Prelude.{◌≡◌, ℕ, ◌<◌, List, ◌++◌, length, Bool, true, false, ◌&&◌, nat_eq, nat_lt, Option, Result, Ok, Err}
use Rattle.std.specs.Io.KnownBytes.{Appends, IsAtEnd}
use Rattle.nfs_serve.specs.{declared.fault.Stop.Stop, declared.fault.Stop.TheVariants.{Cut, ReadFailed, WriteFailed}}

-- a read that took no byte into a buffer that is not empty
abbrev pub shows_end : {E : Type 0} → Result ℕ E → List ℕ → Bool
shows_end (Ok n) buf = nat_eq n 0 && nat_lt 0 (length buf)
shows_end (Err e) buf = false

-- a front of the bytes was appended, and not the whole
abbrev pub AppendsFront : Option (List ℕ) → Option (List ℕ) → List ℕ → Type 0
AppendsFront old new bytes = (done : List ℕ) × (rest : List ℕ) × (done ++ rest ≡ bytes) × (0 < length rest) × Appends old new done

-- what an attempt to write all of the bytes did: all were appended, or a front, and then the writer has failed
abbrev pub Writes : {U E : Type 0} → Result U E → Option (List ℕ) → Option (List ℕ) → List ℕ → Bool → Type 0
Writes (Ok u) old new bytes failed = Appends old new bytes × (failed ≡ false)
Writes (Err e) old new bytes failed = AppendsFront old new bytes × (failed ≡ true)

-- Which end is at fault: the reader has ended, the reader has failed, the writer has failed. A script is cut only where no
-- byte is left.
abbrev pub IsReported : Stop → Bool → Bool → Bool → Option (List ℕ) → Type 0
IsReported Cut ended read_failed write_failed left = (ended ≡ true) × (read_failed ≡ false) × (write_failed ≡ false) × IsAtEnd left
IsReported ReadFailed ended read_failed write_failed left = (read_failed ≡ true) × (write_failed ≡ false)
IsReported WriteFailed ended read_failed write_failed left = (read_failed ≡ false) × (write_failed ≡ true)
IsReported stop ended read_failed write_failed left = (read_failed ≡ false) × (write_failed ≡ false)
