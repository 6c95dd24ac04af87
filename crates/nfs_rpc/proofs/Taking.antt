-- Bytes more of the stream: what was held with the stream before is held with the stream now.
use Rattle.std.proofs.Common.{◌≡◌, ℕ, ◌+◌, ◌-◌, ◌%◌, ◌^◌, ◌<◌, ◌≤◌, Bool, true, false, cond, eqb, ltb, leb, ◌&&◌, List, [], ◌∷◌, ◌++◌, length, refl, sym, ap}
use Rattle.std.proofs.Common.{subst, ◌∙◌, append_assoc, inl, inr, arith}
use Rattle.std.proofs.{lemmas.Bool.{cases_eq, ltb-true, ltb-false, eqb-true, eqb-false, eq-eqb, and_parts, cond_both}, lemmas.List.{append-nil, length-append}}
use Rattle.std.proofs.lemmas.Nat.{be_bytes_4}
use Rattle.std.specs.Int.{w32, from_be_bytes}
use Rattle.nfs_xdr.specs.{Spelling.number, Text.IsBytes, Limits.most_record}
use Rattle.nfs_rpc.specs.{RecordMarking.{spell_mark, fragments, joined, Part, IsBetween, IsInside, IsPart, Begun, Complete, Failed}, Feeding.Holds}
use Rattle.nfs_rpc.specs.Share.{at_mark, with_mark, with_data}
use Rattle.nfs_rpc.proofs.Fragments.{more_fragments, more_joined, word_mark, further, bytes_behind_front}

and_off : (t u : Bool) → t ≡ true → (t && u) ≡ false → u ≡ false
and_off true u e f = f
and_off false u e f = absurd cc

-- data that ends its fragment, or does not
data_go : (rest : List ℕ) (p : Part) (bytes : List ℕ) → length bytes ≤ p.lacking
    → (h : IsInside rest p) → (t u : Bool) → eqb p.lacking (length bytes) ≡ t → p.last ≡ u
    → Holds (rest ++ bytes) (cond (t && u) (Complete (p.taken ++ bytes)) (Begun (record p { taken = p.taken ++ bytes; lacking = p.lacking - length bytes })))
data_go rest p bytes within h true true all last =
    let whole : length h.begun + p.lacking ≡ length (h.begun ++ bytes) = omega (arith, length-append h.begun bytes, eqb-true _ _ all) in
    let joins : p.taken ++ bytes ≡ joined h.before ++ (h.begun ++ bytes) = ap (λ w. w ++ bytes) h.taken ∙ append_assoc (joined h.before) h.begun bytes in
    record {
      before = h.before;
      final = h.begun ++ bytes;
      stands = further rest (fragments h.before) _ h.begun bytes h.stands
          ∙ ap (λ (m : Bool). fragments h.before ++ (spell_mark m (length h.begun + p.lacking) ++ (h.begun ++ bytes))) last
          ∙ ap (λ (n : ℕ). fragments h.before ++ (spell_mark true n ++ (h.begun ++ bytes))) whole;
      holds = joins;
      fits = omega (arith, ap length joins, length-append (joined h.before) (h.begun ++ bytes), whole, h.fits);
    }
data_go rest p bytes within h true false all last =
    let whole : length h.begun + p.lacking ≡ length (h.begun ++ bytes) = omega (arith, length-append h.begun bytes, eqb-true _ _ all) in
    let fragment : List ℕ = h.begun ++ bytes in
    inl (record {
      before = h.before ++ fragment ∷ [];
      fits = omega (arith, ap length (more_joined h.before fragment), length-append (joined h.before) fragment, whole, h.fits);
      stands = further rest (fragments h.before) _ h.begun bytes h.stands
          ∙ ap (λ (m : Bool). fragments h.before ++ (spell_mark m (length h.begun + p.lacking) ++ fragment)) last
          ∙ ap (λ (n : ℕ). fragments h.before ++ (spell_mark false n ++ fragment)) whole
          ∙ sym (more_fragments h.before fragment) ∙ sym (append-nil _) ∙ ap (λ w. fragments (h.before ++ fragment ∷ []) ++ w) (sym h.mark);
      cut = omega (arith, ap length h.mark);
      taken = ap (λ w. w ++ bytes) h.taken ∙ append_assoc (joined h.before) h.begun bytes ∙ sym (more_joined h.before fragment);
      lacking = omega (arith, eqb-true _ _ all);
      last = last;
    })
data_go rest p bytes within h false u some last =
    let more : 0 < p.lacking - length bytes =
    elim (cases_eq p.lacking (length bytes)) [ inl q ↦ absurd (eqb-false _ _ some q) | inr q ↦ omega (arith, within) ] in
    let same : length h.begun + p.lacking ≡ length (h.begun ++ bytes) + (p.lacking - length bytes) = omega (arith, length-append h.begun bytes, within) in
    inr (record {
      before = h.before;
      begun = h.begun ++ bytes;
      fits = omega (arith, same, h.fits);
      stands = further rest (fragments h.before) _ h.begun bytes h.stands
          ∙ ap (λ (n : ℕ). fragments h.before ++ (spell_mark p.last n ++ (h.begun ++ bytes))) same;
      taken = ap (λ w. w ++ bytes) h.taken ∙ append_assoc (joined h.before) h.begun bytes;
      lacking = more;
      mark = h.mark;
    })

pub data_holds : (rest : List ℕ) (p : Part) (bytes : List ℕ) → 0 < p.lacking
    → length bytes ≤ p.lacking → IsPart rest p → Holds (rest ++ bytes) (with_data p bytes)
unfolding with_data
data_holds rest p bytes some within h =
    elim h [
      | inl q ↦ absurd (omega (arith, q.lacking, some))
      | inr q ↦ data_go rest p bytes within q (eqb p.lacking (length bytes)) p.last refl refl
    ]

-- a mark that opens a fragment
open_go : (stream taken : List ℕ) (n : ℕ) (last : Bool) (before : List (List ℕ)) → length (joined before) + n ≤ most_record
    → stream ≡ fragments before ++ spell_mark last n → taken ≡ joined before → (eqb n 0 && last) ≡ false
    → IsPart stream (record { taken = taken; mark = []; lacking = n; last = last })
open_go stream taken n last before fits at same f =
    elim (cases_eq n 0) [
      | inl z ↦
          let off : last ≡ false = and_off (eqb n 0) last (eq-eqb n 0 z) f in
          inl (record {
            before = before ++ [] ∷ [];
            fits = omega (arith, ap length (more_joined before []), length-append (joined before) [], fits);
            stands = at ∙ ap (λ (m : Bool). fragments before ++ spell_mark m n) off ∙ ap (λ (k : ℕ). fragments before ++ spell_mark false k) z
                ∙ ap (λ w. fragments before ++ w) (sym (append-nil (spell_mark false 0))) ∙ sym (more_fragments before []) ∙ sym (append-nil _);
            cut = omega arith;
            taken = same ∙ sym (append-nil (joined before)) ∙ sym (more_joined before []);
            lacking = z;
            last = off;
          })
      | inr nz ↦
          let plus : n ≡ length {A = ℕ} [] + n = omega arith in
          inr (record {
            before = before;
            begun = [];
            fits = omega (arith, fits);
            stands = at ∙ ap (λ w. fragments before ++ w) (sym (append-nil (spell_mark last n)))
                ∙ ap (λ (k : ℕ). fragments before ++ (spell_mark last k ++ [])) plus;
            taken = same ∙ sym (append-nil (joined before));
            lacking = omega (arith, nz);
            mark = refl;
          })
    ]

-- the word of a whole mark says what comes
word_go : (stream taken : List ℕ) (word : ℕ) (before : List (List ℕ)) → length (joined before) ≤ most_record
    → stream ≡ fragments before ++ number word → word < 2 ^ 32 → taken ≡ joined before → Holds stream (at_mark taken word)
unfolding at_mark
word_go stream taken word before fits at small same =
    let n : ℕ = word % 2147483648 in
    let last : Bool = leb 2147483648 word in
    let marked : stream ≡ fragments before ++ spell_mark last n = at ∙ ap (λ w. fragments before ++ w) (sym (word_mark word small)) in
    cond_both (ltb most_record (length taken + n)) Failed
    (cond (eqb n 0 && last) (Complete taken) (Begun (record { taken = taken; mark = []; lacking = n; last = last }))) (Holds stream)
    (λ e. record {
      before = before;
      last = last;
      size = n;
      fits = fits;
      small = omega arith;
      stands = marked;
      long = omega (arith, ltb-true _ _ e, ap length same);
    })
    (λ e. cond_both (eqb n 0 && last) (Complete taken) (Begun (record { taken = taken; mark = []; lacking = n; last = last })) (Holds stream)
    (λ f. let q = and_parts (eqb n 0) last f in record {
      before = before;
      final = [];
      stands = marked ∙ ap (λ (m : Bool). fragments before ++ spell_mark m n) q.1
          ∙ ap (λ (k : ℕ). fragments before ++ spell_mark true k) (eqb-true n 0 q.0) ∙ ap (λ w. fragments before ++ w) (sym (append-nil (spell_mark true 0)));
      holds = same ∙ sym (append-nil (joined before));
      fits = omega (arith, ap length same, fits);
    })
    (λ f. open_go stream taken n last before (omega (arith, ltb-false _ _ e, ap length same)) marked same f))

mark_go : (rest : List ℕ) (p : Part) (bytes : List ℕ) → length p.mark + length bytes ≤ 4
    → IsBytes (rest ++ bytes) → IsBetween rest p → Holds (rest ++ bytes) (with_mark p bytes)
unfolding with_mark number
mark_go rest p bytes within fits h =
    let at : rest ++ bytes ≡ fragments h.before ++ (p.mark ++ bytes) = ap (λ w. w ++ bytes) h.stands ∙ append_assoc (fragments h.before) p.mark bytes in
    let small : IsBytes (p.mark ++ bytes) = bytes_behind_front (fragments h.before) (p.mark ++ bytes) (subst IsBytes at fits) in
    cond_both (eqb (length (p.mark ++ bytes)) 4) (at_mark p.taken (from_be_bytes w32 (p.mark ++ bytes)))
    (Begun (record p { mark = p.mark ++ bytes })) (Holds (rest ++ bytes))
    (λ e.
    let spelled : number (from_be_bytes w32 (p.mark ++ bytes)) ≡ p.mark ++ bytes = be_bytes_4 (p.mark ++ bytes) _ (eqb-true _ _ e) small.each refl in
    word_go (rest ++ bytes) p.taken (from_be_bytes w32 (p.mark ++ bytes)) h.before h.fits
    (at ∙ ap (λ w. fragments h.before ++ w) (sym spelled)) (omega (arith, small.each 0, small.each 1, small.each 2, small.each 3)) h.taken)
    (λ e. inl (record {
      before = h.before;
      fits = h.fits;
      stands = at;
      cut = elim (cases_eq (length (p.mark ++ bytes)) 4) [ inl q ↦ absurd (eqb-false _ _ e q) | inr q ↦ omega (arith, length-append p.mark bytes, within) ];
      taken = h.taken;
      lacking = h.lacking;
      last = h.last;
    }))

pub mark_holds : (rest : List ℕ) (p : Part) (bytes : List ℕ) → p.lacking ≡ 0 → length p.mark + length bytes ≤ 4
    → IsBytes (rest ++ bytes) → IsPart rest p → Holds (rest ++ bytes) (with_mark p bytes)
mark_holds rest p bytes none within fits h =
    elim h [
      | inl q ↦ mark_go rest p bytes within fits q
      | inr q ↦ absurd (omega (arith, q.lacking, none))
    ]
