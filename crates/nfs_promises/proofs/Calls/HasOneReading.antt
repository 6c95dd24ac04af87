-- Which fault a script has, and its whole entries, are decided by its bytes.
use Rattle.std.proofs.Common.{◌≡◌, ℕ, suc, ◌+◌, ◌<◌, ◌≤◌, List, [], ◌∷◌, ◌++◌, length, flat_map, take, drop, All, ◌⊎◌, inl, inr, Option, Some, None, refl, sym}
use Rattle.std.proofs.{Common.{ap, subst, ◌∙◌, arith, append_assoc, append-nil, length-append}, lemmas.List.{take_at, drop_at, Elements.{All-head, All-tail}}}
use Rattle.nfs_serve.specs.{declared.fault.Stop.Stop, declared.fault.Stop.TheVariants.{Cut, Connection, Long, Late, Many, ReadFailed, WriteFailed}}
use Rattle.nfs_serve.specs.Script.{Entry, head, spell_entry, Fits, max_entries, refusal, BeginsRefused, IsPartial, StopsAt, IsRead}
use Rattle.nfs_promises.specs.Calls.Streams.{HasOneReading}
use Rattle.nfs_serve.proofs.{Entries.length-head, OneReading.{head_same, small, behind_head, granted}}

-- an entry is read in one way
entry_same : (e f : Entry) (xs ys : List ℕ) → Fits e → Fits f → spell_entry e ++ xs ≡ spell_entry f ++ ys → (e ≡ f) × (xs ≡ ys)
entry_same e f xs ys p q same =
    let (moment, conn, len, rest) = head_same e.moment e.conn (length e.piece) f.moment f.conn (length f.piece)
    (e.piece ++ xs) (f.piece ++ ys) (small e p) (small f q) (sym (behind_head e xs) ∙ same ∙ behind_head f ys) in
    let piece : e.piece ≡ f.piece = sym (take_at e.piece xs (length f.piece) len)
    ∙ ap (take (length f.piece)) rest ∙ take_at f.piece ys (length f.piece) refl in (
      ap (λ m. record { moment = m; conn = e.conn; piece = e.piece }) moment ∙ ap (λ c. record { moment = f.moment; conn = c; piece = e.piece }) conn
          ∙ ap (λ b. record { moment = f.moment; conn = f.conn; piece = b }) piece,
      sym (drop_at e.piece xs (length f.piece) len) ∙ ap (drop (length f.piece)) rest ∙ drop_at f.piece ys (length f.piece) refl,
    )

-- no whole entry stands at the front
record NoEntry (rest : List ℕ) : Type 0 where
  none : (e : Entry) (behind : List ℕ) → Fits e → rest ≡ spell_entry e ++ behind → ⊥

length-entry : (e : Entry) (behind : List ℕ) → length (spell_entry e ++ behind) ≡ 16 + (length e.piece + length behind)
length-entry e behind = ap length (behind_head e behind) ∙ length-append (head e.moment e.conn (length e.piece)) (e.piece ++ behind)
    ∙ omega (arith, length-head e.moment e.conn (length e.piece), length-append e.piece behind)

no_short : (rest : List ℕ) → length rest < 16 → NoEntry rest
no_short rest short = record { none = λ e behind fits is. omega (arith, ap length is, length-entry e behind, short) }

some_none : (s : Stop) → Some s ≡ None → ⊥
some_none s e = cc

no_partial : (rest : List ℕ) → IsPartial rest → NoEntry rest
no_partial rest (inl short) = no_short rest short
no_partial rest (inr h) =
    let (m, c, l, part, is, late, far, long, short) = h in
    record {
      none = λ e behind fits at.
          let same = head_same m c l e.moment e.conn (length e.piece) part (e.piece ++ behind)
          (omega (arith, late), omega (arith, far), omega (arith, long)) (small e fits) (sym is ∙ at ∙ behind_head e behind) in
          omega (arith, short, same.2, ap length same.3, length-append e.piece behind);
    }

no_refused : (stop : Stop) (rest : List ℕ) → BeginsRefused stop rest → NoEntry rest
no_refused stop rest h =
    let (m, c, l, front, behind, split, is, why) = h in
    record {
      none = λ e left fits at.
          let same = head_same m c l e.moment e.conn (length e.piece) behind (e.piece ++ left) (is.1, is.2, is.3)
          (small e fits) (ap (λ f. f ++ behind) (sym is.0) ∙ sym split ∙ at ∙ behind_head e left) in
          some_none stop (sym why ∙ ap (λ x. refusal x c l) same.0 ∙ ap (λ x. refusal e.moment x l) same.1
          ∙ ap (λ x. refusal e.moment e.conn x) same.2 ∙ granted e.moment e.conn (length e.piece) fits.0 fits.1 fits.2);
    }

-- no entry is read behind these
Ends : ℕ → List ℕ → Type 0
Ends n rest = (n ≡ max_entries) ⊎ NoEntry rest

record IsRun (script : List ℕ) (entries : List Entry) (rest : List ℕ) : Type 0 where
  spelled : script ≡ flat_map spell_entry entries ++ rest
  fits : All Fits entries
  few : length entries ≤ max_entries
  ends : Ends (length entries) rest

run_of : (a : Option Stop) (script : List ℕ) (es : List Entry) (r : List ℕ) → IsRead a script es r → IsRun script es r
unfolding Ends
run_of None script es r h = record {
  spelled = h.0.spelled ∙ sym (append-nil _) ∙ ap (λ l. flat_map spell_entry es ++ l) (sym h.1);
  fits = h.0.fits;
  few = h.0.few;
  ends = inr (no_short r (omega (arith, ap length h.1)));
}
run_of (Some Cut) script es r h = record { spelled = h.spelled; fits = h.fits; few = omega (arith, h.stands.0); ends = inr (no_partial r h.stands.2) }
run_of (Some Connection) script es r h = record {
  spelled = h.spelled;
  fits = h.fits;
  few = omega (arith, h.stands.0);
  ends = inr (no_refused Connection r h.stands.1);
}
run_of (Some Long) script es r h = record { spelled = h.spelled; fits = h.fits; few = omega (arith, h.stands.0); ends = inr (no_refused Long r h.stands.1) }
run_of (Some Late) script es r h = record { spelled = h.spelled; fits = h.fits; few = omega (arith, h.stands.0); ends = inr (no_refused Late r h.stands.1) }
run_of (Some Many) script es r h = record { spelled = h.spelled; fits = h.fits; few = omega (arith, h.stands.0); ends = inl h.stands.0 }
run_of (Some ReadFailed) script es r h = absurd h
run_of (Some WriteFailed) script es r h = absurd h

one_more : (n k : ℕ) → n + suc k ≡ suc n + k
one_more n k = omega arith

further : (e : Entry) (es : List Entry) (r : List ℕ) → flat_map spell_entry (e ∷ es) ++ r ≡ spell_entry e ++ (flat_map spell_entry es ++ r)
further e es r = append_assoc (spell_entry e) (flat_map spell_entry es) r

walk : (n : ℕ) (es fs : List Entry) (r q : List ℕ) → All Fits es → All Fits fs
    → n + length es ≤ max_entries → n + length fs ≤ max_entries → Ends (n + length es) r → Ends (n + length fs) q
    → flat_map spell_entry es ++ r ≡ flat_map spell_entry fs ++ q → (es ≡ fs) × (r ≡ q)
unfolding Ends
walk n [] [] r q fits fit few few_too ends end same = (refl, same)
walk n [] (f ∷ fs) r q fits fit few few_too (inl full) end same = absurd (omega (arith, full, few_too))
walk n [] (f ∷ fs) r q fits fit few few_too (inr lacks) end same =
    absurd (lacks.none f (flat_map spell_entry fs ++ q) (All-head Fits f fs fit) (same ∙ further f fs q))
walk n (e ∷ es) [] r q fits fit few few_too ends (inl full) same = absurd (omega (arith, full, few))
walk n (e ∷ es) [] r q fits fit few few_too ends (inr lacks) same =
    absurd (lacks.none e (flat_map spell_entry es ++ r) (All-head Fits e es fits) (sym same ∙ further e es r))
walk n (e ∷ es) (f ∷ fs) r q fits fit few few_too ends end same =
    let (entry, behind) = entry_same e f (flat_map spell_entry es ++ r) (flat_map spell_entry fs ++ q)
    (All-head Fits e es fits) (All-head Fits f fs fit) (sym (further e es r) ∙ same ∙ further f fs q) in
    let (entries, rest) = walk (suc n) es fs r q (All-tail Fits e es fits) (All-tail Fits f fs fit)
    (rw (← one_more n (length es)) few) (rw (← one_more n (length fs)) few_too)
    (subst (λ k. Ends k r) (one_more n (length es)) ends) (subst (λ k. Ends k q) (one_more n (length fs)) end) behind in
    (ap (λ x. x ∷ es) entry ∙ ap (λ l. f ∷ l) entries, rest)

refused_some : (stop : Stop) (r : List ℕ) → BeginsRefused stop r → 0 < length r
refused_some stop r h =
    let (m, c, l, front, behind, split, is, why) = h in
    omega (arith, ap length split, length-append front behind, ap length is.0, length-head m c l)

partial_refused : (stop : Stop) (r : List ℕ) → IsPartial r → BeginsRefused stop r → ⊥
partial_refused stop r (inl short) h =
    let (m, c, l, front, behind, split, is, why) = h in
    omega (arith, ap length split, length-append front behind, ap length is.0, length-head m c l, short)
partial_refused stop r (inr p) h =
    let (n, d, k, part, at, late, far, long, short) = p in
    let (m, c, l, front, behind, split, is, why) = h in
    let same = head_same m c l n d k behind part (is.1, is.2, is.3)
    (omega (arith, late), omega (arith, far), omega (arith, long)) (ap (λ f. f ++ behind) (sym is.0) ∙ sym split ∙ at) in
    some_none stop (sym why ∙ ap (λ x. refusal x c l) same.0 ∙ ap (λ x. refusal n x l) same.1 ∙ ap (λ x. refusal n d x) same.2 ∙ granted n d k late far long)

refused_same : (s t : Stop) (r : List ℕ) → BeginsRefused s r → BeginsRefused t r → Some s ≡ Some t
refused_same s t r h g =
    let (m, c, l, front, behind, split, is, why) = h in
    let (n, d, k, front_too, left, split_too, is_too, why_too) = g in
    let same = head_same m c l n d k behind left (is.1, is.2, is.3) (is_too.1, is_too.2, is_too.3)
    (ap (λ f. f ++ behind) (sym is.0) ∙ sym split ∙ split_too ∙ ap (λ f. f ++ left) is_too.0) in
    sym why ∙ ap (λ x. refusal x c l) same.0 ∙ ap (λ x. refusal n x l) same.1 ∙ ap (λ x. refusal n d x) same.2 ∙ why_too

-- how the script stops behind n entries
StopsHow : Option Stop → ℕ → List ℕ → Type 0
StopsHow None n r = r ≡ []
StopsHow (Some stop) n r = StopsAt stop n r

how : (a : Option Stop) (script : List ℕ) (es : List Entry) (r : List ℕ) → IsRead a script es r → StopsHow a (length es) r
unfolding StopsHow
how None script es r h = h.1
how (Some ReadFailed) script es r h = absurd h
how (Some WriteFailed) script es r h = absurd h
how (Some stop) script es r h = h.stands

empty_some : (r : List ℕ) → r ≡ [] → 0 < length r → ⊥
empty_some r e some = omega (arith, ap length e, some)

same_how : (a b : Option Stop) (script other : List ℕ) (es fs : List Entry) (n : ℕ) (r : List ℕ)
    → IsRead a script es r → IsRead b other fs r → StopsHow a n r → StopsHow b n r → a ≡ b
unfolding StopsHow
same_how None None script other es fs n r ra rb h g = refl
same_how (Some ReadFailed) b script other es fs n r ra rb h g = absurd ra
same_how (Some WriteFailed) b script other es fs n r ra rb h g = absurd ra
same_how a (Some ReadFailed) script other es fs n r ra rb h g = absurd rb
same_how a (Some WriteFailed) script other es fs n r ra rb h g = absurd rb
same_how None (Some Cut) script other es fs n r ra rb h g = absurd (empty_some r h g.1)
same_how None (Some Many) script other es fs n r ra rb h g = absurd (empty_some r h g.1)
same_how None (Some b) script other es fs n r ra rb h g = absurd (empty_some r h (refused_some b r g.1))
same_how (Some Cut) None script other es fs n r ra rb h g = absurd (empty_some r g h.1)
same_how (Some Many) None script other es fs n r ra rb h g = absurd (empty_some r g h.1)
same_how (Some a) None script other es fs n r ra rb h g = absurd (empty_some r g (refused_some a r h.1))
same_how (Some Cut) (Some Cut) script other es fs n r ra rb h g = refl
same_how (Some Many) (Some Many) script other es fs n r ra rb h g = refl
same_how (Some Many) (Some b) script other es fs n r ra rb h g = absurd (omega (arith, h.0, g.0))
same_how (Some a) (Some Many) script other es fs n r ra rb h g = absurd (omega (arith, h.0, g.0))
same_how (Some Cut) (Some b) script other es fs n r ra rb h g = absurd (partial_refused b r h.2 g.1)
same_how (Some a) (Some Cut) script other es fs n r ra rb h g = absurd (partial_refused a r g.2 h.1)
same_how (Some a) (Some b) script other es fs n r ra rb h g = refused_same a b r h.1 g.1

pub one_reading : HasOneReading
one_reading script a b es fs r q h g =
    let x = run_of a script es r h in
    let y = run_of b script fs q g in
    let (entries, rest) = walk 0 es fs r q x.fits y.fits (omega (arith, x.few)) (omega (arith, y.few))
    (subst (λ k. Ends k r) (omega arith) x.ends) (subst (λ k. Ends k q) (omega arith) y.ends) (sym x.spelled ∙ y.spelled) in
    (same_how a b script script es fs (length es) r h (rw rest g) (how a script es r h) (rw (rest, entries) (how b script fs q g)), entries, rest)
