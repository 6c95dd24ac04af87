-- A talk over one connection (RFC 5531 section 11): the run of the pieces that were read, as connection 0, each at the
-- clock's answer for it. No connection number and no zero mark is put out.
use Rattle.std.specs.Prelude.{◌≡◌, ℕ, ◌<◌, ◌≤◌, ◌^◌, ◌-◌, List, [], ◌∷◌, ◌++◌, length, flat_map, map, All, Bool, true, false, Option}
use Rattle.std.specs.Io.KnownBytes.{Consumes, Appends, IsAtEnd}
use Rattle.nfs_rpc.specs.Stream.{End, Open, TooLong}
use Rattle.nfs_serve.specs.{Told.{Told, Moment, Logs}, declared.talking.Talk.Talk}
use Rattle.nfs_serve.specs.{declared.talking.Talk.TheVariants.{Ended, Shut, ReadFailed, WriteFailed, TooMany}, declared.form.Form.TheVariants.Plain}
use Rattle.nfs_serve.specs.{Script.{Entry, Fits}, Step.ServerState, Run.{Streams, Runs, RunsInto}}

abbrev pub max_reads : ℕ
max_reads = 2 ^ 64 - 1

-- some bytes that came on connection 0
abbrev pub IsPiece : Entry → Type 0
IsPiece e = Fits e × (e.conn ≡ 0) × (0 < length e.piece)

-- the pieces ran from a closed connection, and its stream ends so
abbrev pub Speaks : ServerState → ServerState → List Entry → End → List ℕ → Type 0
Speaks old new pieces end written = (streams : Streams) × Runs Plain old new pieces streams written × (streams 0 ≡ end)

-- What the pieces came to by how the talk ended. The read that ended it, where it gave no piece, is one of the reads.
abbrev pub SpeaksUntil : Talk → ServerState → ServerState → List Entry → List ℕ → Type 0
SpeaksUntil Ended old new pieces written = (length pieces < max_reads) × (rest : List ℕ) × Speaks old new pieces (Open rest) written
SpeaksUntil ReadFailed old new pieces written = (length pieces < max_reads) × (rest : List ℕ) × Speaks old new pieces (Open rest) written
SpeaksUntil TooMany old new pieces written = (length pieces ≡ max_reads) × (rest : List ℕ) × Speaks old new pieces (Open rest) written
SpeaksUntil Shut old new pieces written = (length pieces ≤ max_reads) × Speaks old new pieces TooLong written
SpeaksUntil WriteFailed old new pieces written =
    (length pieces ≤ max_reads) × (before : List Entry) × (last : Entry) × (pieces ≡ before ++ last ∷ [])
    × (streams : Streams) × RunsInto Plain old new before last streams written

-- the same of what the ends and the clock show: one answer of the clock a piece, and no other
abbrev pub Talks : Talk → ServerState → ServerState → Option (List ℕ) → Option (List ℕ) → Option (List ℕ) → Option (List ℕ) → Option (List Told) → Option (List Told) → Type 0
Talks talk old new l0 l1 h0 h1 c0 c1 = (pieces : List Entry) × (written : List ℕ)
    × Consumes l0 l1 (flat_map (λ e. e.piece) pieces) × Appends h0 h1 written × Logs c0 c1 (map (λ e. Moment e.moment) pieces)
    × All IsPiece pieces × SpeaksUntil talk old new pieces written

-- which end ended the talk
abbrev pub TalkReports : Talk → Bool → Bool → Bool → Option (List ℕ) → Type 0
TalkReports Ended ended read_failed write_failed left = (ended ≡ true) × (read_failed ≡ false) × (write_failed ≡ false) × IsAtEnd left
TalkReports ReadFailed ended read_failed write_failed left = (read_failed ≡ true) × (write_failed ≡ false)
TalkReports WriteFailed ended read_failed write_failed left = (read_failed ≡ false) × (write_failed ≡ true)
TalkReports talk ended read_failed write_failed left = (read_failed ≡ false) × (write_failed ≡ false)
