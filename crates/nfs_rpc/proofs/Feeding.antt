-- One share of a piece more.
use Rattle.std.proofs.Common.{◌≡◌, ℕ, ◌+◌, ◌-◌, ◌%◌, ◌^◌, ◌<◌, ◌≤◌, List, [], ◌++◌, length, take, drop, true, sym, ap, subst, ◌∙◌, append_assoc}
use Rattle.std.proofs.Common.{inl, inr, arith}
use Rattle.std.proofs.lemmas.List.{take-append-drop, take-take, drop-take, take_all, take_at, drop_at, length-take, length-drop, length-append}
use Rattle.std.proofs.lemmas.Nat.{be_bytes_4, from_be_bytes-to_be_bytes_4}
use Rattle.std.specs.Int.{w32, from_be_bytes}
use Rattle.nfs_xdr.specs.{Spelling.number, Text.IsBytes, Limits.most_record}
use Rattle.nfs_xdr.proofs.{Putting.length_number, CodecLaws.IsBytes-take}
use Rattle.nfs_rpc.specs.{RecordMarking.{Gathered, Begun, IsPart, IsRecord, start, spell_mark, fragments}, Feeding.{BeginsWith, IsWhole, Holds}}
use Rattle.nfs_rpc.proofs.Fragments.{IsBytes-append}

take_front : (piece : List ℕ) (i k : ℕ) → take i piece ++ take k (drop i piece) ≡ take (i + k) piece
take_front piece i k =
    ap (λ w. take i piece ++ w) (sym (drop-take i k piece)) ∙ ap (λ w. w ++ drop i (take (i + k) piece)) (sym (take-take i (i + k) piece (omega arith)))
    ∙ take-append-drop i (take (i + k) piece)

take_share : (piece : List ℕ) (i k : ℕ) → take i piece ++ take k (take (length piece - i) (drop i piece)) ≡ take (i + k) piece
take_share piece i k =
    ap (λ w. take i piece ++ take k w) (take_all (length piece - i) (drop i piece) (omega (arith, length-drop i piece))) ∙ take_front piece i k

pub share_taken : (rest piece : List ℕ) (i k : ℕ) (self new : Gathered) → IsBytes rest → IsBytes piece → Holds (rest ++ take i piece) self
    → ((before : List ℕ) → IsBytes before → Holds before self → Holds (before ++ take k (take (length piece - i) (drop i piece))) new)
    → Holds (rest ++ take (i + k) piece) new
share_taken rest piece i k self new fits fits_piece holds step =
    subst (λ w. Holds w new) (append_assoc rest (take i piece) _ ∙ ap (λ w. rest ++ w) (take_share piece i k))
    (step (rest ++ take i piece) (IsBytes-append rest (take i piece) fits (IsBytes-take i piece fits_piece)) holds)

-- a record of one fragment, behind bytes that begin no record
behind_nothing : (rest bytes record_data : List ℕ) → IsPart rest start → bytes ≡ spell_mark true (length record_data) ++ record_data
    → length record_data ≤ most_record → IsRecord (rest ++ bytes) record_data
behind_nothing rest bytes record_data part spelled fits =
    elim part [
      | inl b ↦
          record {
            before = b.before;
            final = record_data;
            stands = ap (λ w. w ++ bytes) b.stands ∙ append_assoc (fragments b.before) [] bytes ∙ ap (λ w. fragments b.before ++ w) spelled;
            holds = ap (λ w. w ++ record_data) b.taken;
            fits = fits;
          }
      | inr i ↦ absurd (omega (arith, i.lacking))
    ]

-- a mark at the front of the piece, and as many bytes behind it as it says
pub front_is_whole : (held : Gathered) (piece mark rest : List ℕ) (word : ℕ) → held ≡ Begun start → mark ≡ take 4 piece → rest ≡ drop 4 piece
    → length rest + 4 ≡ length piece → IsBytes piece → word ≡ from_be_bytes w32 mark → word < 2 ^ 32 → 2147483648 ≤ word
    → word % 2147483648 ≤ length rest → word % 2147483648 ≤ most_record → IsWhole held piece (take (word % 2147483648) rest)
unfolding number
front_is_whole held piece mark rest word fresh is_front is_behind whole fits read small last within short =
    let n : ℕ = word % 2147483648 in
    let long : length (take n rest) ≡ n = omega (arith, length-take n rest, within) in
    let four : length mark ≡ 4 = omega (arith, ap length is_front, length-take 4 piece, whole) in
    let bytes : IsBytes mark = rw is_front (IsBytes-take 4 piece fits) in
    let marked : number word ≡ mark = be_bytes_4 mark word four bytes.each read in
    let spelled : spell_mark true (length (take n rest)) ≡ take 4 piece = ap number (omega (arith, long, small, last)) ∙ marked ∙ is_front in
    let stands : take (4 + length (take n rest)) piece ≡ spell_mark true (length (take n rest)) ++ take n rest =
    ap (λ k. take (4 + k) piece) long ∙ sym (take_front piece 4 n) ∙ ap (λ w. w ++ take n (drop 4 piece)) (sym spelled)
    ∙ ap (λ w. spell_mark true (length (take n rest)) ++ take n w) (sym is_behind) in
    record {
      fresh = fresh;
      within = omega (arith, long, within, whole);
      stream = λ r holds. behind_nothing r _ (take n rest) (subst (Holds r) fresh holds) stands (omega (arith, long, short));
    }

-- what the front of a piece says that begins with a record of one fragment
pub front_says : (piece mark rest record_data : List ℕ) (word : ℕ) → mark ≡ take 4 piece → rest ≡ drop 4 piece → word ≡ from_be_bytes w32 mark
    → BeginsWith piece record_data
    → (word ≡ 2147483648 + length record_data) × (length record_data ≤ length rest) × (length record_data ≤ most_record)
unfolding number
front_says piece mark rest record_data word is_front is_behind read b =
    let n : ℕ = 2147483648 + length record_data in
    let front : take 4 piece ≡ number n = ap (take 4) b.stands ∙ take_at (number n) (record_data ++ b.behind) 4 (length_number n) in
    let behind : drop 4 piece ≡ record_data ++ b.behind = ap (drop 4) b.stands ∙ drop_at (number n) (record_data ++ b.behind) 4 (length_number n) in (
      read ∙ ap (from_be_bytes w32) (is_front ∙ front) ∙ from_be_bytes-to_be_bytes_4 n (omega (arith, b.fits)),
      omega (arith, ap length (is_behind ∙ behind), length-append record_data b.behind),
      b.fits,
    )

pub front_is_long : (piece record_data : List ℕ) → BeginsWith piece record_data → 4 ≤ length piece
front_is_long piece record_data b = omega (
  arith,
  ap length b.stands,
  length-append (number (2147483648 + length record_data)) (record_data ++ b.behind),
  length_number (2147483648 + length record_data),
)
