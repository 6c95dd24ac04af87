-- What a reply says is read just where its text stands, and is read in one way.
use Rattle.std.proofs.Common.{◌≡◌, ℕ, ◌<◌, ◌^◌, zero, suc, Bool, true, List, [], ◌++◌, get_or, Option, Some, None, refl, sym, ◌∙◌, ap, subst, append_assoc, arith, ltb-true}
use Rattle.std.proofs.{Math.Path.fun_ext, lemmas.Bool.{and_parts, eqb-true, lt-ltb}, lemmas.Nat.be_bytes_4, lemmas.Option.same_Some}
use Rattle.std.proofs.lemmas.Slice.Eq.{bytes_eq-Decides}
use Rattle.std.specs.{Prelude.{◌==◌, ◌&&◌, nat_lt, bytes_eq, if◌then◌else◌}, Int.{w32, from_be_bytes}}
use Rattle.nfs_xdr.specs.Spelling as spelling
use Rattle.nfs_xdr.specs.{Limits.opaque_limit, Codec.{number, opaque}, Combinators.fixed, Text.IsBytes, Lawful.IsCodec}
use Rattle.nfs_xdr.proofs.CodecLaws.{is_number, is_fixed, is_then, test_some}
use Rattle.nfs_rpc.specs.{declared.refusal.Refusal.Refusal, Reply.{spell_head, spell_refusal}}
use Rattle.nfs_sessions.specs.Id.{id_of}
use Rattle.nfs_promises.specs.Network.{Endpoint.{Answer, SlotNumber}, ThisServer.{accepted_reply, IsAnswer, ReplyReader, IsSequenced, Bears}}
use Rattle.nfs_promises.proofs.Network.ReplyReading.{answer_in, front, by_front, sequenced, sequence_front, by_sequence_front, numbered_by, slot_number}
use Rattle.nfs_promises.proofs.Network.{RepliesSpelled.{is_front, answer_spelled, refusal_spelled}, FirstOfReply.head_is}

-- The answer of a reply.

pub answer_again : (reply : List ℕ) (a : Answer) → IsAnswer reply a → answer_in reply ≡ Some a
answer_again reply a (stands, fits) =
    ap answer_in (stands ∙ ap (λ (w : List ℕ). w ++ a.result) (head_is a.xid)) ∙ answer_spelled a.xid a.result fits.0

-- what is read, where it is spelled so
abbrev checked : List ℕ → Option Answer → Option Answer
checked reply None = None
checked reply (Some a) = if nat_lt a.xid (2 ^ 32) && bytes_eq reply ((accepted_reply a.xid).bytes ++ a.result) then Some a else None

unfoldable pub found : List ℕ → Option Answer
found reply = checked reply (answer_in reply)

pub no_bytes : IsBytes []
no_bytes = record { each = λ i. omega arith }

checked_is : (reply : List ℕ) (a : Answer) (o : Option Answer) → checked reply o ≡ Some a → IsAnswer reply a
checked_is reply a None e = absurd cc
checked_is reply a (Some b) e =
    let spelled : Bool = bytes_eq reply ((accepted_reply b.xid).bytes ++ b.result) in
    let passed = test_some (nat_lt b.xid (2 ^ 32) && spelled) (Some b) a e in
    let both = and_parts (nat_lt b.xid (2 ^ 32)) spelled passed.0 in
    subst (IsAnswer reply) (same_Some b a passed.1) (
      (bytes_eq-Decides reply ((accepted_reply b.xid).bytes ++ b.result)).0 both.1,
      (ltb-true b.xid (2 ^ 32) both.0, (tt, (tt, ((omega arith, (omega arith, no_bytes)), tt)))),
    )

pub found_is : (reply : List ℕ) (a : Answer) → found reply ≡ Some a → IsAnswer reply a
unfolding found
found_is reply a e = checked_is reply a (answer_in reply) e

pub found_again : (reply : List ℕ) (a : Answer) → IsAnswer reply a → found reply ≡ Some a
unfolding found
found_again reply a is =
    ap (checked reply) (answer_again reply a is)
    ∙ rw (lt-ltb a.xid (2 ^ 32) is.1.0, (bytes_eq-Decides reply ((accepted_reply a.xid).bytes ++ a.result)).1 is.0) refl

-- a reader finds the answer of what says success, and none in a refusal

pub answer_found : (reader : ReplyReader) (xid : ℕ) (result : List ℕ) → xid < 2 ^ 32
    → reader.find (spell_head xid ++ result) ≡ Some (record { xid = xid; result = result })
answer_found reader xid result small =
    (reader.exact (spell_head xid ++ result) (record { xid = xid; result = result })).1
    (ap (λ (w : List ℕ). w ++ result) (sym (head_is xid)), (small, (tt, (tt, ((omega arith, (omega arith, no_bytes)), tt)))))

pub refusal_found : (reader : ReplyReader) (refusal : Refusal) → reader.find (spell_refusal refusal) ≡ None
refusal_found reader refusal = by (reader.find (spell_refusal refusal)) refl
  where
    by : (o : Option Answer) → reader.find (spell_refusal refusal) ≡ o → o ≡ None
    by None e = refl
    by (Some a) e = sym (answer_again (spell_refusal refusal) a ((reader.exact (spell_refusal refusal) a).0 e)) ∙ refusal_spelled refusal

-- there is such a reader
abbrev pub finding : ReplyReader
finding = record { find = found; exact = λ reply a. (found_is reply a, found_again reply a) }

-- and each finds the same
pub found_by : (reader : ReplyReader) → found ≡ reader.find
found_by reader = fun_ext (λ reply. by reply (found reply) (reader.find reply) refl refl)
  where
    by : (reply : List ℕ) (o p : Option Answer) → found reply ≡ o → reader.find reply ≡ p → o ≡ p
    by reply (Some a) p e f = sym ((reader.exact reply a).1 (found_is reply a e)) ∙ f
    by reply None None e f = refl
    by reply None (Some a) e f = sym e ∙ found_again reply a ((reader.exact reply a).0 f)

-- What the result of a compound begins with.

assoc_5 : (a b c d e r : List ℕ) → (a ++ (b ++ (c ++ (d ++ e)))) ++ r ≡ a ++ (b ++ (c ++ (d ++ (e ++ r))))
assoc_5 a b c d e r =
    append_assoc a (b ++ (c ++ (d ++ e))) r
    ∙ ap (λ (w : List ℕ). a ++ w) (append_assoc b (c ++ (d ++ e)) r
    ∙ ap (λ (w : List ℕ). b ++ w) (append_assoc c (d ++ e) r ∙ ap (λ (w : List ℕ). c ++ w) (append_assoc d e r)))

pub sequenced_again : (result : List ℕ) → IsSequenced result → sequenced result ≡ true
unfolding spelling.number
sequenced_again result is =
    let (status, (tag, count)) = is.value in
    ap sequenced is.stands
    ∙ ap by_front (is_front.again (status, (tag, (count, (53, 0)))) is.rest (is.fits.0, (is.fits.1.0, (is.fits.1.1.0, (omega arith, omega arith)))))

pub sequenced_is : (result : List ℕ) → IsBytes result → sequenced result ≡ true → IsSequenced result
unfolding spelling.number
sequenced_is result bytes e = by (front.read result) refl e
  where
    by : (o : Option ((ℕ × (List ℕ × (ℕ × (ℕ × ℕ)))) × List ℕ)) → front.read result ≡ o → by_front o ≡ true → IsSequenced result
    by None is good = absurd cc
    by (Some ((status, (tag, (count, (op, first)))), rest)) is good =
        let (stands, behind, (s, (t, (c, others)))) = is_front.takes result (status, (tag, (count, (op, first)))) rest bytes is in
        let both = and_parts (op == 53) (first == 0) good in
        record {
          value = (status, (tag, count));
          rest = rest;
          stands = stands
              ∙ ap (λ (n : ℕ). (spelling.number status ++ (spelling.opaque tag ++ (spelling.number count ++ (spelling.number n ++ spelling.number first)))) ++ rest) (eqb-true op 53 both.0)
              ∙ ap (λ (n : ℕ). (spelling.number status ++ (spelling.opaque tag ++ (spelling.number count ++ (spelling.number 53 ++ spelling.number n)))) ++ rest) (eqb-true first 0 both.1);
          fits = (s, (t, (c, (tt, (tt, tt)))));
        }

-- The slot and the number.

is_sequence_front : IsCodec sequence_front
is_sequence_front = is_then (fixed 16) _ (is_fixed 16) (is_then number number is_number is_number)

pub bears_again : (result : List ℕ) (n : SlotNumber) → Bears result n → slot_number result ≡ Some n
bears_again result n (id, session, is) =
    let (status, (tag, count)) = is.value in
    let A = spelling.number status in
    let B = spelling.opaque tag in
    let C = spelling.number count in
    let D = spelling.number 53 in
    let E = spelling.number 0 in
    let S = spelling.fixed id ++ (spelling.number n.number ++ spelling.number n.place.slot) in
    let (s, (t, (c, (d, (e, (i, others)))))) = is.fits in
    ap slot_number (is.stands ∙ ap (λ (w : List ℕ). w ++ is.rest) (sym (assoc_5 A B C D E S)) ∙ append_assoc (A ++ (B ++ (C ++ (D ++ E)))) S is.rest)
    ∙ (ap numbered_by (is_front.again (status, (tag, (count, (53, 0)))) (S ++ is.rest) (s, (t, (c, (omega arith, omega arith)))))
    ∙ (ap by_sequence_front (is_sequence_front.again (id, (n.number, n.place.slot)) is.rest (i, others))
    ∙ ap (λ j. let y : Option SlotNumber = Some (record { place = record { session = j; slot = n.place.slot }; number = n.number }) in y) (sym session)))

pub bears_one : (result : List ℕ) (n m : SlotNumber) → Bears result n → Bears result m → n ≡ m
bears_one result n m one other = same_Some n m (sym (bears_again result n one) ∙ bears_again result m other)

pub bears_is : (result : List ℕ) (n : SlotNumber) → IsBytes result → slot_number result ≡ Some n → Bears result n
bears_is result n bytes e = by (front.read result) refl e
  where
    by_sequence : (v : ℕ × (List ℕ × (ℕ × (ℕ × ℕ)))) (behind : List ℕ) (p : Option ((List ℕ × (ℕ × ℕ)) × List ℕ)) → front.read result ≡ Some (v, behind)
        → sequence_front.read behind ≡ p → by_front (Some (v, behind)) ≡ true → by_sequence_front p ≡ Some n → Bears result n
    by_sequence v behind None is at good e = absurd cc
    by_sequence (status, (tag, (count, (op, first)))) behind (Some ((id, (number, slot)), rest)) is at good e =
        let (stands, left, (s, (t, (c, others)))) = is_front.takes result (status, (tag, (count, (op, first)))) behind bytes is in
        let (here, gone, (i, (m, k))) = is_sequence_front.takes behind (id, (number, slot)) rest left at in
        let both = and_parts (op == 53) (first == 0) good in
        let A = spelling.number status in
        let B = spelling.opaque tag in
        let C = spelling.number count in
        let D = spelling.number 53 in
        let E = spelling.number 0 in
        let S = spelling.fixed id ++ (spelling.number number ++ spelling.number slot) in
        subst (Bears result) (same_Some (record { place = record { session = id_of id; slot = slot }; number = number }) n e) (
          id,
          refl,
          record {
            value = (status, (tag, count));
            rest = rest;
            stands = stands
                ∙ ap (λ (n : ℕ). (A ++ (B ++ (C ++ (spelling.number n ++ spelling.number first)))) ++ behind) (eqb-true op 53 both.0)
                ∙ ap (λ (n : ℕ). (A ++ (B ++ (C ++ (D ++ spelling.number n)))) ++ behind) (eqb-true first 0 both.1)
                ∙ ap (λ (w : List ℕ). (A ++ (B ++ (C ++ (D ++ E)))) ++ w) here
                ∙ sym (append_assoc (A ++ (B ++ (C ++ (D ++ E)))) S rest)
                ∙ ap (λ (w : List ℕ). w ++ rest) (assoc_5 A B C D E S);
            fits = (s, (t, (c, (tt, (tt, (i, (m, k)))))));
          },
        )

    by : (o : Option ((ℕ × (List ℕ × (ℕ × (ℕ × ℕ)))) × List ℕ)) → front.read result ≡ o → numbered_by o ≡ Some n → Bears result n
    by None is e = absurd cc
    by (Some (v, behind)) is e =
        let passed = test_some (by_front (Some (v, behind))) (by_sequence_front (sequence_front.read behind)) n e in
        by_sequence v behind (sequence_front.read behind) is refl passed.0 passed.1

-- what bears a slot and a number begins with a good SEQUENCE
pub bears_sequenced : (result : List ℕ) (n : SlotNumber) → Bears result n → IsSequenced result
unfolding spelling.number
bears_sequenced result n (id, session, is) =
    let (status, (tag, count)) = is.value in
    let A = spelling.number status in
    let B = spelling.opaque tag in
    let C = spelling.number count in
    let D = spelling.number 53 in
    let E = spelling.number 0 in
    let S = spelling.fixed id ++ (spelling.number n.number ++ spelling.number n.place.slot) in
    let (s, (t, (c, others))) = is.fits in
    record {
      value = (status, (tag, count));
      rest = S ++ is.rest;
      stands = is.stands ∙ ap (λ (w : List ℕ). w ++ is.rest) (sym (assoc_5 A B C D E S)) ∙ append_assoc (A ++ (B ++ (C ++ (D ++ E)))) S is.rest;
      fits = (s, (t, (c, (tt, (tt, tt)))));
    }

-- A text of a result that begins so.

-- a number is spelled as one of 32 bits is
small_number : (n : ℕ) → (k : ℕ) × (k < 2 ^ 32) × (spelling.number n ≡ spelling.number k)
unfolding spelling.number
small_number n =
    let bytes : List ℕ = spelling.number n in
    (from_be_bytes w32 bytes, omega (arith, each 0, each 1, each 2, each 3), sym (be_bytes_4 bytes (from_be_bytes w32 bytes) refl each refl))
  where
    each : (i : ℕ) → get_or (spelling.number n) i 0 < 256
    each zero = omega arith
    each (suc zero) = omega arith
    each (suc (suc zero)) = omega arith
    each (suc (suc (suc zero))) = omega arith
    each (suc (suc (suc (suc i)))) = omega arith

assoc_3 : (f g h r : List ℕ) → f ++ (g ++ (h ++ r)) ≡ (f ++ (g ++ h)) ++ r
assoc_3 f g h r = sym (append_assoc f (g ++ h) r ∙ ap (λ (w : List ℕ). f ++ w) (append_assoc g h r))

pub bears_spelled : (status count : ℕ) (tag id : List ℕ) (number slot : ℕ) (text rest : List ℕ) → status < 2 ^ 32 → (opaque opaque_limit).Fits tag
    → sequence_front.Fits (id, (number, slot))
    → text ≡ (spelling.number status ++ (spelling.opaque tag ++ spelling.number count))
    ++ ((spelling.number 53 ++ spelling.number 0) ++ (spelling.fixed id ++ (spelling.number number ++ (spelling.number slot ++ rest))))
    → Bears text (record { place = record { session = id_of id; slot = slot }; number = number })
bears_spelled status count tag id number slot text rest s t fits is =
    let (k, small, same) = small_number count in
    let A = spelling.number status in
    let B = spelling.opaque tag in
    let C = spelling.number k in
    let D = spelling.number 53 in
    let E = spelling.number 0 in
    let F = spelling.fixed id in
    let G = spelling.number number in
    let H = spelling.number slot in
    let S = F ++ (G ++ H) in (
      id,
      refl,
      record {
        value = (status, (tag, k));
        rest = rest;
        stands = is
            ∙ ap (λ (w : List ℕ). (A ++ (B ++ w)) ++ ((D ++ E) ++ (F ++ (G ++ (H ++ rest))))) same
            ∙ ap (λ (w : List ℕ). (A ++ (B ++ C)) ++ ((D ++ E) ++ w)) (assoc_3 F G H rest)
            ∙ nested A B C D E (S ++ rest)
            ∙ sym (assoc_5 A B C D E (S ++ rest))
            ∙ sym (append_assoc (A ++ (B ++ (C ++ (D ++ E)))) S rest)
            ∙ ap (λ (w : List ℕ). w ++ rest) (assoc_5 A B C D E S);
        fits = (s, (t, (small, (tt, (tt, fits)))));
      },
    )
  where
    nested : (a b c d e r : List ℕ) → (a ++ (b ++ c)) ++ ((d ++ e) ++ r) ≡ a ++ (b ++ (c ++ (d ++ (e ++ r))))
    nested a b c d e r =
        append_assoc a (b ++ c) ((d ++ e) ++ r)
        ∙ ap (λ (w : List ℕ). a ++ w) (append_assoc b c ((d ++ e) ++ r) ∙ ap (λ (w : List ℕ). b ++ (c ++ w)) (append_assoc d e r))
