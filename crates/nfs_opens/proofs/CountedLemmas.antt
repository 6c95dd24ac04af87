-- The count of each file's opens, behind an open that comes, goes or changes; and what it tells of clashes (RFC 8881 section 9.7).
use Rattle.std.proofs.Common.{◌≡◌, inl, inr, ℕ, ◌<◌, ◌≤◌, Bool, true, false, cond, List, [], ◌∷◌, ◌++◌, length, Some, None, refl, sym, ◌∙◌, ap, arith}
use Rattle.std.proofs.lemmas.Bool.{cases_Bool, eq-eqb, ne_eqb, eqb-true, false≢true}
use Rattle.std.specs.Prelude.{◌==◌, ◌&&◌}
use Rattle.nfs_xdr.specs.Tables.{IsRising, record_at, without_record, with_record}
use Rattle.nfs_xdr.proofs.{Lists.find_in, Tables.{without_none, with_none}}
use Rattle.nfs_opens.specs.{StateId.last_number, declared.records.OpenState.OpenState, declared.counts.Count.Count, declared.counts.Counts.Counts}
use Rattle.nfs_opens.specs.{Counts.{how_many, count_of, count_at, more, less, with_one, without_one, reserved, CountsAnew, AreCounted}, TableInvariants.Rises}
use Rattle.nfs_opens.proofs.CountLemmas.{less_without, more_pushed, other_with, many_there}

pub same_count : (a b : Count) → a.opens ≡ b.opens → a.readers ≡ b.readers → a.writers ≡ b.writers → a.read_deniers ≡ b.read_deniers
    → a.write_deniers ≡ b.write_deniers → a ≡ b
same_count a b o r w d e =
    let A : ℕ → Count = λ x. record { opens = x; readers = a.readers; writers = a.writers; read_deniers = a.read_deniers; write_deniers = a.write_deniers } in
    let B : ℕ → Count = λ x. record { opens = b.opens; readers = x; writers = a.writers; read_deniers = a.read_deniers; write_deniers = a.write_deniers } in
    let C : ℕ → Count = λ x. record { opens = b.opens; readers = b.readers; writers = x; read_deniers = a.read_deniers; write_deniers = a.write_deniers } in
    let D : ℕ → Count = λ x. record { opens = b.opens; readers = b.readers; writers = b.writers; read_deniers = x; write_deniers = a.write_deniers } in
    let E : ℕ → Count = λ x. record { opens = b.opens; readers = b.readers; writers = b.writers; read_deniers = b.read_deniers; write_deniers = x } in
    ap A o ∙ (ap B r ∙ (ap C w ∙ (ap D d ∙ ap E e)))

abbrev number_of : OpenState → ℕ
number_of o = o.number

--- ONE OPEN MORE, LESS, OR CHANGED

pub count_without : (p : OpenState → Bool) (n low high : ℕ) (xs : List OpenState) (o : OpenState) → IsRising number_of low xs high
    → record_at number_of xs n ≡ Some o
    → count_of p (without_record number_of xs n) ≡ cond (p o) (without_one (reserved o) (count_of p xs)) (count_of p xs)
count_without p n low high xs o r found =
    let field : (bit : OpenState → Bool) → how_many (λ x. p x && bit x) (without_record number_of xs n) ≡ less (how_many (λ x. p x && bit x) xs) (p o && bit o) =
    λ bit. less_without number_of (λ x. p x && bit x) n low high xs o r found in
    let all = less_without number_of p n low high xs o r found in
    elim (cases_Bool (p o)) [
      | inl counts ↦ rw counts (same_count _ _ (rw counts at all) (rw counts at field (λ x. x.access.reads)) (rw counts at field (λ x. x.access.writes))
          (rw counts at field (λ x. x.deny.reads)) (rw counts at field (λ x. x.deny.writes)))
      | inr other ↦ rw other (same_count _ _ (rw other at all) (rw other at field (λ x. x.access.reads)) (rw other at field (λ x. x.access.writes))
          (rw other at field (λ x. x.deny.reads)) (rw other at field (λ x. x.deny.writes)))
    ]

pub count_pushed : (p : OpenState → Bool) (xs : List OpenState) (o : OpenState) → length xs < last_number
    → count_of p (xs ++ o ∷ []) ≡ cond (p o) (with_one (reserved o) (count_of p xs)) (count_of p xs)
count_pushed p xs o few =
    let field : (bit : OpenState → Bool) → how_many (λ x. p x && bit x) (xs ++ o ∷ []) ≡ more (how_many (λ x. p x && bit x) xs) (p o && bit o) =
    λ bit. more_pushed (λ x. p x && bit x) xs o few in
    let all = more_pushed p xs o few in
    elim (cases_Bool (p o)) [
      | inl counts ↦ rw counts (same_count _ _ (rw counts at all) (rw counts at field (λ x. x.access.reads)) (rw counts at field (λ x. x.access.writes))
          (rw counts at field (λ x. x.deny.reads)) (rw counts at field (λ x. x.deny.writes)))
      | inr other ↦ rw other (same_count _ _ (rw other at all) (rw other at field (λ x. x.access.reads)) (rw other at field (λ x. x.access.writes))
          (rw other at field (λ x. x.deny.reads)) (rw other at field (λ x. x.deny.writes)))
    ]

pub count_changed : (p : OpenState → Bool) (f : OpenState → OpenState) (n low high : ℕ) (xs : List OpenState) (o : OpenState) → IsRising number_of low xs high
    → record_at number_of xs n ≡ Some o → p (f o) ≡ p o → length xs ≤ last_number
    → count_of p (with_record number_of xs n f) ≡ cond (p o) (with_one (reserved (f o)) (without_one (reserved o) (count_of p xs))) (count_of p xs)
count_changed p f n low high xs o r found stays few =
    let field : (bit : OpenState → Bool) → how_many (λ x. p x && bit x) (with_record number_of xs n f)
    ≡ more (less (how_many (λ x. p x && bit x) xs) (p o && bit o)) (p (f o) && bit (f o)) =
    λ bit. other_with number_of (λ x. p x && bit x) f n low high xs o r found few in
    let all = other_with number_of p f n low high xs o r found few in
    elim (cases_Bool (p o)) [
      | inl counts ↦ (let after : p (f o) ≡ true = stays ∙ counts in
          rw counts (same_count _ _ (rw (counts, after) at all) (rw (counts, after) at field (λ x. x.access.reads)) (rw (counts, after) at field (λ x. x.access.writes))
          (rw (counts, after) at field (λ x. x.deny.reads)) (rw (counts, after) at field (λ x. x.deny.writes))))
      | inr other ↦ (let after : p (f o) ≡ false = stays ∙ other in
          rw other (same_count _ _ (rw (other, after) at all) (rw (other, after) at field (λ x. x.access.reads)) (rw (other, after) at field (λ x. x.access.writes))
          (rw (other, after) at field (λ x. x.deny.reads)) (rw (other, after) at field (λ x. x.deny.writes))))
    ]

-- whichever way two numbers are compared
eqb_either : (a b : ℕ) → (a == b) ≡ (b == a)
eqb_either a b = elim (cases_Bool (a == b)) [
  | inl same ↦ rw same (sym (eq-eqb b a (sym (eqb-true a b same))))
  | inr other ↦ rw other (sym (ne_eqb b a (λ e. false≢true (sym other ∙ eq-eqb a b (sym e)))))
]

-- the counts that a step leaves, where it does to the file's count what is said
stepped : (xs ys : List OpenState) (t u : Counts) (file : ℕ) (step : Count → Count) → AreCounted xs t
    → ((f : ℕ) → count_of (λ x. x.file == f) ys ≡ cond (file == f) (step (count_of (λ x. x.file == f) xs)) (count_of (λ x. x.file == f) xs))
    → CountsAnew t u file (step (count_at t file)) → AreCounted ys u
stepped xs ys t u file step counted made anew f =
    elim (cases_Bool (f == file)) [
      | inl here ↦
          (let is : f ≡ file = eqb-true f file here in
          let back : (file == f) ≡ true = eqb_either file f ∙ here in
          let now : count_at u f ≡ step (count_at t file) = anew f ∙ rw here refl in
          let want : count_of (λ x. x.file == f) ys ≡ step (count_of (λ x. x.file == f) xs) = made f ∙ rw back refl in
          now ∙ (ap (λ (g : ℕ). step (count_at t g)) (sym is) ∙ (ap step (counted f) ∙ sym want)))
      | inr other ↦
          (let back : (file == f) ≡ false = eqb_either file f ∙ other in
          let now : count_at u f ≡ count_at t f = anew f ∙ rw other refl in
          let want : count_of (λ x. x.file == f) ys ≡ count_of (λ x. x.file == f) xs = made f ∙ rw back refl in
          now ∙ (counted f ∙ sym want))
    ]

pub counted_without : (n : ℕ) (xs : List OpenState) (t u : Counts) (o : OpenState) → Rises number_of 1 xs → record_at number_of xs n ≡ Some o → AreCounted xs t
    → CountsAnew t u o.file (without_one (reserved o) (count_at t o.file)) → AreCounted (without_record number_of xs n) u
counted_without n xs t u o (high, r) found counted = stepped xs (without_record number_of xs n) t u o.file (without_one (reserved o)) counted
    (λ f. count_without (λ x. x.file == f) n 1 high xs o r found)

pub counted_pushed : (xs : List OpenState) (t u : Counts) (o : OpenState) → length xs < last_number → AreCounted xs t
    → CountsAnew t u o.file (with_one (reserved o) (count_at t o.file)) → AreCounted (xs ++ o ∷ []) u
counted_pushed xs t u o few counted = stepped xs (xs ++ o ∷ []) t u o.file (with_one (reserved o)) counted (λ f. count_pushed (λ x. x.file == f) xs o few)

pub counted_changed : (g : OpenState → OpenState) (n : ℕ) (xs : List OpenState) (t u : Counts) (o : OpenState) → Rises number_of 1 xs
    → record_at number_of xs n ≡ Some o → (g o).file ≡ o.file → length xs ≤ last_number → AreCounted xs t
    → CountsAnew t u o.file (with_one (reserved (g o)) (without_one (reserved o) (count_at t o.file))) → AreCounted (with_record number_of xs n g) u
counted_changed g n xs t u o (high, r) found stays few counted =
    stepped xs (with_record number_of xs n g) t u o.file (λ c. with_one (reserved (g o)) (without_one (reserved o) c)) counted
    (λ f. count_changed (λ x. x.file == f) g n 1 high xs o r found (ap (λ (k : ℕ). k == f) stays) few)

pub unchanged_without : (n : ℕ) (xs : List OpenState) (t u : Counts) → record_at number_of xs n ≡ None → AreCounted xs t
    → ((f : ℕ) → count_at u f ≡ count_at t f) → AreCounted (without_record number_of xs n) u
unchanged_without n xs t u none counted same f = same f ∙ (counted f ∙ ap (count_of (λ x. x.file == f)) (sym (without_none number_of n xs none)))

pub unchanged_with : (g : OpenState → OpenState) (n : ℕ) (xs : List OpenState) (t u : Counts) → record_at number_of xs n ≡ None → AreCounted xs t
    → ((f : ℕ) → count_at u f ≡ count_at t f) → AreCounted (with_record number_of xs n g) u
unchanged_with g n xs t u none counted same f = same f ∙ (counted f ∙ ap (count_of (λ x. x.file == f)) (sym (with_none number_of g n xs none)))

pub counted_there : (xs : List OpenState) (t : Counts) (n : ℕ) (o : OpenState) → AreCounted xs t → record_at number_of xs n ≡ Some o
    → 0 < (count_at t o.file).opens
counted_there xs t n o counted found =
    let some = many_there (λ x. x.file == o.file) xs o (find_in (λ x. x.number == n) xs o found).0 (eq-eqb o.file o.file refl) in
    let is : (count_at t o.file).opens ≡ how_many (λ x. x.file == o.file) xs = ap (λ (c : Count). c.opens) (counted o.file) in
    omega arith
