-- A stream is read in one way, wherever its pieces are cut.
use Rattle.std.proofs.{Common.{◌≡◌, ℕ, List, ◌++◌, sym, ap, subst, ◌∙◌, append_assoc, append-nil, map}, lemmas.List.map-append}
use Rattle.nfs_rpc.specs.Stream.{End, Open, TooLong, IsReading}
use Rattle.nfs_rpc.proofs.Readings.{one_reading, reading_then}
use Rattle.nfs_serve.specs.{Run.{Brings, Arrives, overflow}}
use Rattle.nfs_promises.specs.Calls.Streams.{CutsAnywhere, BringsOnce}
use Rattle.nfs_serve.proofs.{Terms.events_of, Pieces.AreRecords-behind}

events_of-then : (conn moment : ℕ) (a b : List (List ℕ)) (rest : List ℕ) (end : End)
    → events_of conn moment a (Open rest) ++ events_of conn moment b end ≡ events_of conn moment (a ++ b) end
events_of-then conn moment a b rest end =
    let f = λ (call : List ℕ). Arrives conn moment call in
    ap (λ l. l ++ (map f b ++ overflow conn end)) (append-nil (map f a))
    ∙ sym (append_assoc (map f a) (map f b) (overflow conn end)) ∙ ap (λ l. l ++ overflow conn end) (sym (map-append f a b))

-- more bytes of a stream that is too long
pub still_long : (stream more : List ℕ) (calls : List (List ℕ)) → IsReading stream calls TooLong → IsReading (stream ++ more) calls TooLong
still_long stream more calls h =
    let (front, left, split, long) = h.ends in record {
      behind = h.behind ++ more;
      stands = AreRecords-behind stream calls h.behind more h.stands;
      ends = (front, left ++ more, ap (λ l. l ++ more) split ∙ append_assoc front left more, long);
    }

pub cuts_anywhere : CutsAnywhere
cuts_anywhere conn moment (Open rest) (Open between) end front back first later one two =
    let (a, reads, is) = one in
    let (b, reads_on, is_on) = two in (
      a ++ b,
      subst (λ s. IsReading s (a ++ b) end) (append_assoc rest front back) (reading_then (rest ++ front) back between a b end reads reads_on),
      ap (λ l. l ++ later) is ∙ ap (λ l. events_of conn moment a (Open between) ++ l) is_on ∙ events_of-then conn moment a b between end,
    )
cuts_anywhere conn moment (Open rest) TooLong end front back first later one two =
    let (a, reads, is) = one in
    subst (λ e. Brings conn moment (Open rest) (front ++ back) (first ++ later) e) (sym two.1) (
      a,
      subst (λ s. IsReading s a TooLong) (append_assoc rest front back) (still_long (rest ++ front) back a reads),
      ap (λ l. first ++ l) two.0 ∙ append-nil first ∙ is,
    )
cuts_anywhere conn moment TooLong between end front back first later one two =
    let then_ignored = subst (λ s. Brings conn moment s back later end) one.1 two in
    (ap (λ l. l ++ later) one.0 ∙ then_ignored.0, then_ignored.1)

pub brings_once : BringsOnce
brings_once conn moment (Open rest) piece first other end last one two =
    let (a, reads, is) = one in
    let (b, reads_too, is_too) = two in
    let same = one_reading (rest ++ piece) a b end last reads reads_too in
    (is ∙ ap (λ c. events_of conn moment c end) same.0 ∙ ap (λ e. events_of conn moment b e) same.1 ∙ sym is_too, same.1)
brings_once conn moment TooLong piece first other end last one two = (one.0 ∙ sym two.0, one.1 ∙ sym two.1)
