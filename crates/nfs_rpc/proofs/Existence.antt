-- Each stream of bytes has a reading.
use Rattle.std.proofs.{Common.{◌≡◌, ℕ, List, [], ◌∷◌, ◌++◌, length, refl, sym, subst, append_assoc, inl, inr, arith}, lemmas.List.{append-nil, take_at}}
use Rattle.nfs_xdr.specs.Text.{IsBytes}
use Rattle.nfs_xdr.proofs.CodecLaws.{IsBytes-take}
use Rattle.nfs_rpc.specs.{RecordMarking.{Part, IsPart, Gathered, Begun, Complete, Failed, start}, Feeding.Holds, Stream.{End, Open, TooLong, IsReading}}
use Rattle.nfs_rpc.specs.Share.{with_mark, with_data}
use Rattle.nfs_rpc.proofs.{Fragments.bytes_behind_front, Taking.{mark_holds, data_holds}, Readings.part_unfinished}

-- of nothing nothing is kept
pub starts : IsPart [] start
starts = inl (record { before = []; fits = omega arith; stands = refl; cut = omega arith; taken = refl; lacking = refl; last = refl })

-- one reading of a stream
pub record Read (stream : List ℕ) : Type 0 where
  pub records : List (List ℕ)
  pub end : End
  pub reading : IsReading stream records end

front_bytes : (front back : List ℕ) → IsBytes (front ++ back) → IsBytes front
front_bytes front back h = subst IsBytes (take_at front back (length front) refl) (IsBytes-take (length front) (front ++ back) h)

-- one byte more
byte_holds : (rest : List ℕ) (p : Part) (b : ℕ) → IsBytes (rest ++ b ∷ []) → IsPart rest p → (held : Gathered) × Holds (rest ++ b ∷ []) held
byte_holds rest p b fits h =
    elim h [
      | inl q ↦ (with_mark p (b ∷ []), mark_holds rest p (b ∷ []) q.lacking (omega (arith, q.cut)) fits (inl q))
      | inr q ↦ (with_data p (b ∷ []), data_holds rest p (b ∷ []) q.lacking (omega (arith, q.lacking)) (inr q))
    ]

-- behind it the same bytes are read on
go_on : (front bytes : List ℕ) (held : Gathered) → Holds front held → IsBytes (front ++ bytes)
    → ((rest : List ℕ) (p : Part) → IsPart rest p → IsBytes (rest ++ bytes) → Read (rest ++ bytes)) → Read (front ++ bytes)
go_on front bytes (Begun p) holds fits more = more front p holds fits
go_on front bytes (Complete d) holds fits more =
    let next = more [] start starts (bytes_behind_front front bytes fits) in
    record {
      records = d ∷ next.records;
      end = next.end;
      reading = record { behind = next.reading.behind; stands = (front, bytes, refl, holds, next.reading.stands); ends = next.reading.ends };
    }
go_on front bytes Failed holds fits more = record {
  records = [];
  end = TooLong;
  reading = record { behind = front ++ bytes; stands = refl; ends = (front, bytes, refl, holds) };
}

reads : (bytes rest : List ℕ) (p : Part) → IsPart rest p → IsBytes (rest ++ bytes) → Read (rest ++ bytes)
reads [] rest p h fits = record {
  records = [];
  end = Open rest;
  reading = record { behind = rest ++ []; stands = refl; ends = (append-nil rest, part_unfinished rest p h) };
}
reads (b ∷ bytes) rest p h fits =
    let longer : rest ++ b ∷ bytes ≡ (rest ++ b ∷ []) ++ bytes = sym (append_assoc rest (b ∷ []) bytes) in
    let fit : IsBytes ((rest ++ b ∷ []) ++ bytes) = subst IsBytes longer fits in
    let step = byte_holds rest p b (front_bytes (rest ++ b ∷ []) bytes fit) h in
    subst Read (sym longer) (go_on (rest ++ b ∷ []) bytes step.0 step.1 fit (reads bytes))

pub a_reading : (stream : List ℕ) → IsBytes stream → (records : List (List ℕ)) × (end : End) × IsReading stream records end
a_reading stream fits = let r = reads stream [] start starts fits in (r.records, r.end, r.reading)
