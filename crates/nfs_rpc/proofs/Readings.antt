-- One stream is read into records in one way.
use Rattle.std.proofs.Common.{◌≡◌, ℕ, ◌+◌, ◌≤◌, true, List, [], ◌∷◌, ◌++◌, length, refl, sym, ap, subst, ◌∙◌, append_assoc, inl, inr, arith}
use Rattle.std.proofs.lemmas.List.{length-append}
use Rattle.nfs_rpc.specs.RecordMarking.{spell_mark, fragments, joined, IsRecord, IsTooLong, Part, IsBetween, IsInside, IsPart}
use Rattle.nfs_rpc.specs.Stream.{IsUnfinished, AreRecords, End, Open, TooLong, EndsAs, IsReading}
use Rattle.nfs_xdr.specs.Limits.{most_record}
use Rattle.nfs_rpc.proofs.Walks.{mark_same, append_same, meet, stops_final, stops_long, stops_cut, stops_begun, cut_is_no_mark}

-- a record and what stands behind it
record_behind : (front record_data left : List ℕ) → (h : IsRecord front record_data)
    → front ++ left ≡ fragments h.before ++ (spell_mark true (length h.final) ++ (h.final ++ left))
record_behind front record_data left h =
    ap (λ w. w ++ left) h.stands ∙ append_assoc (fragments h.before) (spell_mark true (length h.final) ++ h.final) left
    ∙ ap (λ w. fragments h.before ++ w) (append_assoc (spell_mark true (length h.final)) h.final left)

record_size : (front record_data : List ℕ) → (h : IsRecord front record_data) → length (joined h.before) + length h.final ≤ most_record
record_size front record_data h = omega (arith, h.fits, ap length h.holds, length-append (joined h.before) h.final)

long_behind : (front left : List ℕ) → (h : IsTooLong front) → front ++ left ≡ fragments h.before ++ (spell_mark h.last h.size ++ left)
long_behind front left h = ap (λ w. w ++ left) h.stands ∙ append_assoc (fragments h.before) (spell_mark h.last h.size) left

joined_same : (a b : List (List ℕ)) → a ≡ b → length (joined a) ≡ length (joined b)
joined_same a b e = ap (λ x. length (joined x)) e

-- where two records stand in front of one stream
pub record_record : (f g d e x y : List ℕ) → IsRecord f d → IsRecord g e → f ++ x ≡ g ++ y → (d ≡ e) × (x ≡ y)
record_record f g d e x y p q same =
    let fits = record_size f d p in
    let fit = record_size g e q in
    let m = meet p.before q.before 0 _ _ (omega (arith, fits)) (omega (arith, fit))
    (stops_final (0 + length (joined p.before)) p.final x (omega (arith, fits))) (stops_final (0 + length (joined q.before)) q.final y (omega (arith, fit)))
    (sym (record_behind f d x p) ∙ same ∙ record_behind g e y q) in
    let k = mark_same true true (length p.final) (length q.final) (p.final ++ x) (q.final ++ y) (omega (arith, fits)) (omega (arith, fit)) m.1 in
    let finals = append_same p.final q.final x y k.1 k.2 in
    (p.holds ∙ ap (λ (b : List (List ℕ)). joined b ++ p.final) m.0 ∙ ap (λ w. joined q.before ++ w) finals.0 ∙ sym q.holds, finals.1)

record_long : (f g d x y : List ℕ) → IsRecord f d → IsTooLong g → f ++ x ≡ g ++ y → ⊥
record_long f g d x y p q same =
    let fits = record_size f d p in
    let m = meet p.before q.before 0 _ _ (omega (arith, fits)) (omega (arith, q.fits))
    (stops_final (0 + length (joined p.before)) p.final x (omega (arith, fits)))
    (stops_long (0 + length (joined q.before)) q.last q.size y q.small (omega (arith, q.long)))
    (sym (record_behind f d x p) ∙ same ∙ long_behind g y q) in
    let k = mark_same true q.last (length p.final) q.size (p.final ++ x) y (omega (arith, fits)) q.small m.1 in
    omega (arith, fits, q.long, k.1, joined_same p.before q.before m.0)

between_record : (rest f d x : List ℕ) (p : Part) → IsBetween rest p → IsRecord f d → rest ≡ f ++ x → ⊥
between_record rest f d x p h q same =
    let fits = record_size f d q in
    let m = meet h.before q.before 0 _ _ (omega (arith, h.fits)) (omega (arith, fits))
    (stops_cut (0 + length (joined h.before)) p.mark h.cut) (stops_final (0 + length (joined q.before)) q.final x (omega (arith, fits)))
    (sym h.stands ∙ same ∙ record_behind f d x q) in
    cut_is_no_mark p.mark true (length q.final) (q.final ++ x) h.cut m.1

inside_record : (rest f d x : List ℕ) (p : Part) → IsInside rest p → IsRecord f d → rest ≡ f ++ x → ⊥
inside_record rest f d x p h q same =
    let fits = record_size f d q in
    let m = meet h.before q.before 0 _ _ (omega (arith, h.fits)) (omega (arith, fits))
    (stops_begun (0 + length (joined h.before)) p.last h.begun p.lacking (omega (arith, h.fits)) h.lacking)
    (stops_final (0 + length (joined q.before)) q.final x (omega (arith, fits)))
    (sym h.stands ∙ same ∙ record_behind f d x q) in
    let k = mark_same p.last true (length h.begun + p.lacking) (length q.final) h.begun (q.final ++ x) (omega (arith, h.fits)) (omega (arith, fits)) m.1 in
    omega (arith, k.1, ap length k.2, length-append q.final x, h.lacking)

between_long : (rest f x : List ℕ) (p : Part) → IsBetween rest p → IsTooLong f → rest ≡ f ++ x → ⊥
between_long rest f x p h q same =
    let m = meet h.before q.before 0 _ _ (omega (arith, h.fits)) (omega (arith, q.fits)) (stops_cut (0 + length (joined h.before)) p.mark h.cut)
    (stops_long (0 + length (joined q.before)) q.last q.size x q.small (omega (arith, q.long)))
    (sym h.stands ∙ same ∙ long_behind f x q) in
    cut_is_no_mark p.mark q.last q.size x h.cut m.1

inside_long : (rest f x : List ℕ) (p : Part) → IsInside rest p → IsTooLong f → rest ≡ f ++ x → ⊥
inside_long rest f x p h q same =
    let m = meet h.before q.before 0 _ _ (omega (arith, h.fits)) (omega (arith, q.fits))
    (stops_begun (0 + length (joined h.before)) p.last h.begun p.lacking (omega (arith, h.fits)) h.lacking)
    (stops_long (0 + length (joined q.before)) q.last q.size x q.small (omega (arith, q.long)))
    (sym h.stands ∙ same ∙ long_behind f x q) in
    let k = mark_same p.last q.last (length h.begun + p.lacking) q.size h.begun x (omega (arith, h.fits)) q.small m.1 in
    omega (arith, k.1, h.fits, q.long, joined_same h.before q.before m.0)

-- what a part stands for is no whole record, and not too long
pub part_unfinished : (rest : List ℕ) (p : Part) → IsPart rest p → IsUnfinished rest
part_unfinished rest p h = record {
  no_record = λ front behind d e q. elim h [ inl k ↦ between_record rest front d behind p k q e | inr k ↦ inside_record rest front d behind p k q e ];
  not_long = λ front behind e q. elim h [ inl k ↦ between_long rest front behind p k q e | inr k ↦ inside_long rest front behind p k q e ];
}

part_from : (p q : Part) → p.taken ≡ q.taken → p.mark ≡ q.mark → p.lacking ≡ q.lacking → p.last ≡ q.last → p ≡ q
part_from p q taken mark lacking last = λ i. record { taken = taken i; mark = mark i; lacking = lacking i; last = last i }

between_between : (rest : List ℕ) (p q : Part) → IsBetween rest p → IsBetween rest q → p ≡ q
between_between rest p q h k =
    let m = meet h.before k.before 0 _ _ (omega (arith, h.fits)) (omega (arith, k.fits))
    (stops_cut (0 + length (joined h.before)) p.mark h.cut) (stops_cut (0 + length (joined k.before)) q.mark k.cut) (sym h.stands ∙ k.stands) in
    part_from p q (h.taken ∙ ap joined m.0 ∙ sym k.taken) m.1 (h.lacking ∙ sym k.lacking) (h.last ∙ sym k.last)

between_inside : (rest : List ℕ) (p q : Part) → IsBetween rest p → IsInside rest q → ⊥
between_inside rest p q h k =
    let m = meet h.before k.before 0 _ _ (omega (arith, h.fits)) (omega (arith, k.fits)) (stops_cut (0 + length (joined h.before)) p.mark h.cut)
    (stops_begun (0 + length (joined k.before)) q.last k.begun q.lacking (omega (arith, k.fits)) k.lacking) (sym h.stands ∙ k.stands) in
    cut_is_no_mark p.mark q.last (length k.begun + q.lacking) k.begun h.cut m.1

inside_inside : (rest : List ℕ) (p q : Part) → IsInside rest p → IsInside rest q → p ≡ q
inside_inside rest p q h k =
    let m = meet h.before k.before 0 _ _ (omega (arith, h.fits)) (omega (arith, k.fits))
    (stops_begun (0 + length (joined h.before)) p.last h.begun p.lacking (omega (arith, h.fits)) h.lacking)
    (stops_begun (0 + length (joined k.before)) q.last k.begun q.lacking (omega (arith, k.fits)) k.lacking) (sym h.stands ∙ k.stands) in
    let s = mark_same p.last q.last (length h.begun + p.lacking)
    (length k.begun + q.lacking) h.begun k.begun (omega (arith, h.fits)) (omega (arith, k.fits)) m.1 in
    part_from p q (h.taken ∙ ap (λ (b : List (List ℕ)). joined b ++ h.begun) m.0 ∙ ap (λ w. joined k.before ++ w) s.2 ∙ sym k.taken)
    (h.mark ∙ sym k.mark) (omega (arith, s.1, ap length s.2)) s.0

-- one rest has one part
pub part_same : (rest : List ℕ) (p q : Part) → IsPart rest p → IsPart rest q → p ≡ q
part_same rest p q h k =
    elim h [
      | inl a ↦ elim k [ inl b ↦ between_between rest p q a b | inr b ↦ absurd (between_inside rest p q a b) ]
      | inr a ↦ elim k [ inl b ↦ absurd (between_inside rest q p b a) | inr b ↦ inside_inside rest p q a b ]
    ]

ends_same : (l m : List ℕ) (e f : End) → l ≡ m → EndsAs l e → EndsAs m f → e ≡ f
ends_same l m (Open r) (Open s) same p q = ap Open (sym p.0 ∙ same ∙ q.0)
ends_same l m (Open r) TooLong same p q = absurd (p.1.not_long q.0 q.1 (sym p.0 ∙ same ∙ q.2) q.3)
ends_same l m TooLong (Open s) same p q = absurd (q.1.not_long p.0 p.1 (sym q.0 ∙ sym same ∙ p.2) p.3)
ends_same l m TooLong TooLong same p q = refl

-- what ends so begins with no whole record
no_record_ends : (front left d l : List ℕ) (e : End) → IsRecord front d → l ≡ front ++ left → EndsAs l e → ⊥
no_record_ends front left d l (Open r) p same q = q.1.no_record front left d (sym q.0 ∙ same) p
no_record_ends front left d l TooLong p same q = record_long front q.0 d left q.1 p q.3 (sym same ∙ q.2)

readings_same : (stream stream' : List ℕ) (a b : List (List ℕ)) (l m : List ℕ) (e f : End) → stream ≡ stream'
    → AreRecords stream a l → AreRecords stream' b m → EndsAs l e → EndsAs m f → (a ≡ b) × (e ≡ f)
readings_same s t [] [] l m e f same p q x y = (refl, ends_same l m e f (sym p ∙ same ∙ q) x y)
readings_same s t [] (d ∷ b) l m e f same p q x y = absurd (no_record_ends q.0 q.1 d l e q.3 (sym p ∙ same ∙ q.2) x)
readings_same s t (d ∷ a) [] l m e f same p q x y = absurd (no_record_ends p.0 p.1 d m f p.3 (sym q ∙ sym same ∙ p.2) y)
readings_same s t (d ∷ a) (g ∷ b) l m e f same p q x y =
    let here = record_record p.0 q.0 d g p.1 q.1 p.3 q.3 (sym p.2 ∙ same ∙ q.2) in
    let there = readings_same p.1 q.1 a b l m e f here.1 p.4 q.4 x y in
    (ap (λ k. k ∷ a) here.0 ∙ ap (λ k. g ∷ k) there.0, there.1)

-- one stream has one reading
pub one_reading : (stream : List ℕ) (a b : List (List ℕ)) (e f : End) → IsReading stream a e → IsReading stream b f → (a ≡ b) × (e ≡ f)
one_reading stream a b e f p q = readings_same stream stream a b p.behind q.behind e f refl p.stands q.stands p.ends q.ends

records_then : (stream rest piece left : List ℕ) (a b : List (List ℕ)) → AreRecords stream a rest
    → AreRecords (rest ++ piece) b left → AreRecords (stream ++ piece) (a ++ b) left
records_then stream rest piece left [] b p q = subst (λ s. AreRecords (s ++ piece) b left) (sym p) q
records_then stream rest piece left (d ∷ a) b p q =
    (p.0, p.1 ++ piece, ap (λ w. w ++ piece) p.2 ∙ append_assoc p.0 p.1 piece, p.3, records_then p.1 rest piece left a b p.4 q)

-- a piece behind what is unfinished goes on
pub reading_then : (stream piece rest : List ℕ) (a b : List (List ℕ)) (e : End)
    → IsReading stream a (Open rest) → IsReading (rest ++ piece) b e → IsReading (stream ++ piece) (a ++ b) e
reading_then stream piece rest a b e p q = record {
  behind = q.behind;
  stands = records_then stream rest piece q.behind a b (subst (λ w. AreRecords stream a w) p.ends.0 p.stands) q.stands;
  ends = q.ends;
}
