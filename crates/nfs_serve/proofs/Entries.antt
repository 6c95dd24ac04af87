-- Heads of entries, and what reading one gave.
use Rattle.std.proofs.Common.{◌≡◌, ℕ, ◌+◌, ◌<◌, ◌≤◌, ◌^◌, Bool, true, false, List, ◌++◌, length, take, drop, slice_range, refl, sym, ap, subst, ◌∙◌, arith}
use Rattle.std.proofs.Common.{inl, inr, ◌⊎◌, Option, take_all, [], append-nil, append_assoc, length-append, length-take-le, if◌then◌else◌, nat_lt, Some, None}
use Rattle.std.proofs.{lemmas.Bool.ltb-false, lemmas.List.take-append-drop, Math.Seq.take-append_seam}
use Rattle.std.specs.Io.KnownBytes.{Consumes, IsAtEnd}
use Rattle.nfs_serve.specs.{declared.fault.Stop.TheVariants.{Cut, Connection, Long, Late, Many, ReadFailed, WriteFailed}, declared.fault.Stop.Stop}
use Rattle.nfs_serve.specs.{Script.{Entry, spell_entry, head, IsHead, IsPartial, refusal}, Reading.{BeginsWith, StopsAnywhere, stop_of}, Ends.IsReported}
use lib.Seq.{take-add}
use Rattle.nfs_xdr.specs.Spelling.{number, hyper}

pub length-head : (moment conn len : ℕ) → length (head moment conn len) ≡ 16
unfolding head hyper number
length-head moment conn len = refl

-- a list of 16 is its three parts
three_parts : (bs a b c : List ℕ) → length bs ≡ 16 → slice_range bs 0 8 ≡ a → slice_range bs 8 12 ≡ b → slice_range bs 12 16 ≡ c → bs ≡ a ++ b ++ c
three_parts bs a b c long p q r =
    let whole : length bs ≤ 16 = omega arith in
    sym (take_all 16 bs whole) ∙ take-add 12 4 bs ∙ ap (λ l. l ++ take 4 (drop 12 bs)) (take-add 8 4 bs)
    ∙ ap (λ l. (take 8 bs ++ take 4 (drop 8 bs)) ++ l) r ∙ ap (λ l. (take 8 bs ++ l) ++ c) q ∙ ap (λ l. (l ++ b) ++ c) p

pub head_parts : (bs : List ℕ) (moment conn len : ℕ) → length bs ≡ 16 → slice_range bs 0 8 ≡ hyper moment
    → slice_range bs 8 12 ≡ number conn → slice_range bs 12 16 ≡ number len → bs ≡ head moment conn len
unfolding head
head_parts bs moment conn len long p q r = three_parts bs _ _ _ long p q r

-- a reader that stopped short of an entry
pub stops_short : (left : Option (List ℕ)) (rest : List ℕ) (failed ended : Bool) → IsPartial rest → 0 < length rest
    → (failed ≡ true) ⊎ ((failed ≡ false) × (ended ≡ true) × IsAtEnd left)
    → StopsAnywhere (stop_of failed) rest × IsReported (stop_of failed) ended failed false left
stops_short left rest true ended partial some told = (λ whole few. inl (few, partial), (refl, refl))
stops_short left rest false ended partial some (inl bad) = absurd cc
stops_short left rest false ended partial some (inr ok) = (λ whole few. (few, some, partial), (ok.1, refl, refl, ok.2))

if_none : (b : Bool) (x : Stop) (y : Option Stop) → (if b then Some x else y) ≡ None → (b ≡ false) × (y ≡ None)
if_none true x y h = absurd cc
if_none false x y h = (refl, h)

pub refusal_none : (moment conn len : ℕ) → refusal moment conn len ≡ None → (moment ≤ 2 ^ 62) × (conn ≤ 15) × (len ≤ 65536)
refusal_none moment conn len h =
    let a = if_none (nat_lt 15 conn) Connection (if nat_lt 65536 len then Some Long else (if nat_lt (2 ^ 62) moment then Some Late else None)) h in
    let b = if_none (nat_lt 65536 len) Long (if nat_lt (2 ^ 62) moment then Some Late else None) a.1 in
    let d = if_none (nat_lt (2 ^ 62) moment) Late None b.1 in
    (ltb-false (2 ^ 62) moment d.0, ltb-false 15 conn a.0, ltb-false 65536 len b.0)

-- a head, and less than its piece
pub partial_piece : (moment conn len : ℕ) (part : List ℕ) → refusal moment conn len ≡ None → length part < len → IsPartial (head moment conn len ++ part)
partial_piece moment conn len part h short =
    let ok = refusal_none moment conn len h in
    inr (moment, conn, len, part, refl, ok.0, ok.1, ok.2, short)

-- an entry that stands whole in front of other bytes
pub front_entry : (bytes front rest : List ℕ) (moment conn len : ℕ) → front ≡ take 16 bytes → rest ≡ drop 16 bytes → front ≡ head moment conn len
    → refusal moment conn len ≡ None → len ≤ length rest → BeginsWith bytes (record { moment = moment; conn = conn; piece = take len rest })
front_entry bytes front rest moment conn len is_front is_rest is_head well within =
    let ok = refusal_none moment conn len well in
    let long : length (take len rest) ≡ len = length-take-le len rest within in (
      drop len rest,
      sym (take-append-drop 16 bytes) ∙ ap (λ l. l ++ drop 16 bytes) (sym is_front ∙ is_head) ∙ ap (λ l. head moment conn len ++ l) (sym is_rest)
          ∙ ap (λ l. head moment conn len ++ l) (sym (take-append-drop len rest)) ∙ sym (append_assoc (head moment conn len) (take len rest) (drop len rest))
          ∙ ap (λ n. (head moment conn n ++ take len rest) ++ drop len rest) (sym long),
      (ok.0, ok.1, subst (λ n. n ≤ 65536) (sym long) ok.2),
    )

length-entry : (e : Entry) → length (spell_entry e) ≡ 16 + length e.piece
length-entry e = length-append (head e.moment e.conn (length e.piece)) e.piece ∙ ap (λ n. n + length e.piece) (length-head e.moment e.conn (length e.piece))

-- an entry that stands whole in what is lent
module _ {bytes lent : List ℕ} (e : Entry) (same : bytes ≡ lent) (begins : BeginsWith bytes e) where
  pub entry_within : 16 + length e.piece ≤ length lent
  entry_within = omega (arith, ap length (sym same ∙ begins.1), length-append (spell_entry e) begins.0, length-entry e)

  pub entry_taken : (l0 l1 : Option (List ℕ)) → Consumes l0 l1 (take (16 + length e.piece) lent) → Consumes l0 l1 (spell_entry e)
  entry_taken l0 l1 read = subst (Consumes _ _) (ap (λ n. take n lent) (sym (length-entry e)) ∙ ap (take (length (spell_entry e))) (sym same ∙ begins.1)
      ∙ take-append_seam (spell_entry e) begins.0) read

-- the tests of a refusal in their order
data WhyRefused (moment conn len : ℕ) : Stop → Type 0 where
  connection : WhyRefused moment conn len Connection
  long : WhyRefused moment conn len Long
  late : WhyRefused moment conn len Late

why : (moment conn len : ℕ) (stop : Stop) → refusal moment conn len ≡ Some stop → WhyRefused moment conn len stop
why moment conn len stop h = cases (nat_lt 15 conn) (nat_lt 65536 len) (nat_lt (2 ^ 62) moment) h
  where
    some_is : (a b : Stop) → Some a ≡ Some b → a ≡ b
    some_is a b e = cc

    cases : (a b c : Bool) → (if a then Some Connection else if b then Some Long else if c then Some Late else None) ≡ Some stop
        → WhyRefused moment conn len stop
    cases true b c h = subst (WhyRefused moment conn len) (some_is Connection stop h) connection
    cases false true c h = subst (WhyRefused moment conn len) (some_is Long stop h) long
    cases false false true h = subst (WhyRefused moment conn len) (some_is Late stop h) late
    cases false false false h = absurd cc

-- the head of an entry that is refused
pub refused_stops : (left : Option (List ℕ)) (moment conn len : ℕ) (bytes : List ℕ) (stop : Stop) (ended failed : Bool)
    → failed ≡ false → IsHead moment conn len bytes → refusal moment conn len ≡ Some stop
    → StopsAnywhere stop bytes × IsReported stop ended failed false left
refused_stops left moment conn len bytes stop ended failed well is h = cases stop (why moment conn len stop h) h
  where
    cases : (stop : Stop) → WhyRefused moment conn len stop → refusal moment conn len ≡ Some stop
        → StopsAnywhere stop bytes × IsReported stop ended failed false left
    cases Connection connection h = (λ whole few. (few, (moment, conn, len, bytes, [], sym (append-nil bytes), is, h)), (well, refl))
    cases Long long h = (λ whole few. (few, (moment, conn, len, bytes, [], sym (append-nil bytes), is, h)), (well, refl))
    cases Late late h = (λ whole few. (few, (moment, conn, len, bytes, [], sym (append-nil bytes), is, h)), (well, refl))
    cases Cut x h = elim x [ ]
    cases Many x h = elim x [ ]
    cases ReadFailed x h = elim x [ ]
    cases WriteFailed x h = elim x [ ]
