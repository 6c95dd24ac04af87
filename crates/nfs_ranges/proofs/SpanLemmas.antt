-- The span of intervals, and wishes that lie outside it.
use Rattle.std.proofs.Common.{◌≡◌, ℕ, suc, ◌-◌, ◌<◌, ◌≤◌, true, false, leb, ltb, List, [], ◌∷◌, ◌++◌, drop, length, Some, None, refl}
use Rattle.std.proofs.{Common.{sym, ◌∙◌, ap, subst, arith, inl, inr}, lemmas.List.append-nil}
use Rattle.std.proofs.lemmas.Bool.{cases_Bool, and_left, and_right, or_parts, lt-leb, le-ltb}
use Rattle.std.specs.Prelude.{find, slice_get}
use Rattle.nfs_ranges.specs.{declared.Kind.Kind, declared.interval.Interval.Interval, declared.span.Span.Span}
use Rattle.nfs_ranges.specs.{Intervals.{AreFrom, joins, kept_below, kept_above, put, glue, without, with_range}, Edits.head}
use Rattle.nfs_ranges.specs.{Blocks.{flat, last_of, last_end, block_at, AreSome, AreBlocks}, Owners.{LieWithin, IsSpan, IsSpanOf}, Clashes.{hits, has_write}}
use Rattle.nfs_ranges.specs.Told.{is_write, meets}

wider : (first low last : ℕ) (xs : List Interval) → first ≤ low → LieWithin low last xs → LieWithin first last xs
wider first low last [] le within = tt
wider first low last (x ∷ xs) le within = (omega arith, within.1, wider first low last xs le within.2)

-- from the first byte of the first interval to the last byte of the last
lie_from : (low : ℕ) (x : Interval) (xs : List Interval) → AreFrom low (x ∷ xs) → (x.last ≤ (last_of x xs).last) × LieWithin x.first (last_of x xs).last (x ∷ xs)
lie_from low x [] are = let le = are.1 in (omega arith, (omega arith, omega arith, tt))
lie_from low x (y ∷ ys) are =
    let here = are.1 in
    let next = are.4.0 in
    let there = are.4.1 in
    let rest = lie_from (suc x.last) y ys are.4 in
    let top = rest.0 in
    (omega arith, (omega arith, omega arith, wider x.first y.first (last_of y ys).last (y ∷ ys) (omega arith) rest.1))

last_behind : (x : Interval) (xs : List Interval) (y : Interval) (ys : List Interval) → (last_of x (xs ++ y ∷ ys)).last ≡ (last_of y ys).last
last_behind x [] y ys = refl
last_behind x (z ∷ zs) y ys = last_behind z zs y ys

end_behind : (xs : List Interval) (y : Interval) (ys : List Interval) → last_end (xs ++ y ∷ ys) ≡ (last_of y ys).last
end_behind [] y ys = refl
end_behind (x ∷ xs) y ys = last_behind x xs y ys

last_flat : (c : List Interval) (bs : List (List Interval)) (b : List Interval) → AreSome (c ∷ bs) → Some b ≡ slice_get (c ∷ bs) (length bs) →
    last_end (flat (c ∷ bs)) ≡ last_end b
last_flat c [] b some e = let same : c ≡ b = (let back : Some c ≡ Some b = sym e in cc) in ap last_end (append-nil c ∙ same)
last_flat c ([] ∷ ds) b some e = absurd (let bad : true ≡ false = some.1.0 in cc)
last_flat c ((y ∷ ys) ∷ ds) b some e = end_behind c y (ys ++ flat ds) ∙ last_flat (y ∷ ys) ds b some.1 e

pub span_is : (x : Interval) (b : List Interval) (bs : List (List Interval)) → AreBlocks bs → Some x ≡ head (drop 0 (block_at bs 0)) →
    Some b ≡ slice_get bs (length bs - 1) → IsSpan x.first (last_end b) (flat bs)
span_is x b [] are first last = absurd cc
span_is x b ([] ∷ bs) are first last = absurd cc
span_is x b ((y ∷ ys) ∷ bs) are first last =
    let same : y ≡ x = (let back : Some y ≡ Some x = sym first in cc) in
    let count : length ((y ∷ ys) ∷ bs) - 1 ≡ length bs = omega arith in
    let top : (last_of y (ys ++ flat bs)).last ≡ last_end b = last_flat (y ∷ ys) bs b are.some (last ∙ ap (slice_get ((y ∷ ys) ∷ bs)) count) in
    record {
      each = subst (λ l. LieWithin x.first l (y ∷ (ys ++ flat bs))) top
          (subst (λ (z : Interval). LieWithin z.first (last_of y (ys ++ flat bs)).last (y ∷ (ys ++ flat bs))) same (lie_from 0 y (ys ++ flat bs) are.canonical.from).1);
    }

pub no_span : (first last : ℕ) (bs : List (List Interval)) → AreSome bs → None ≡ head (drop 0 (block_at bs 0)) → IsSpan first last (flat bs)
no_span first last [] some none = record { each = tt }
no_span first last ([] ∷ bs) some none = absurd (let bad : true ≡ false = some.0 in cc)
no_span first last ((y ∷ ys) ∷ bs) some none = absurd cc

there : (b : List Interval) (bs : List (List Interval)) → None ≡ slice_get (b ∷ bs) (length bs) → ⊥
there b [] none = cc
there b (c ∷ bs) none = there c bs none

pub no_end : (first last : ℕ) (bs : List (List Interval)) → None ≡ slice_get bs (length bs - 1) → IsSpan first last (flat bs)
no_end first last [] none = record { each = tt }
no_end first last (b ∷ bs) none =
    let count : length (b ∷ bs) - 1 ≡ length bs = omega arith in
    absurd (there b bs (none ∙ ap (slice_get (b ∷ bs)) count))

-- a wish that ends before the span or begins behind it
pub none_before : (k : Kind) (low high first last : ℕ) (xs : List Interval) → LieWithin low high xs → last < low → find (hits k first last) xs ≡ None
none_before k low high first last [] within lt = refl
none_before k low high first last (x ∷ xs) within lt =
    let lo = within.0 in
    let miss : hits k first last x ≡ false = and_right (meets k (Some x.kind)) _
    (and_right (leb first x.last) (leb x.first last) (lt-leb x.first last (omega arith))) in
    rw miss (none_before k low high first last xs within.2 lt)

pub none_behind : (k : Kind) (low high first last : ℕ) (xs : List Interval) → LieWithin low high xs → high < first → find (hits k first last) xs ≡ None
none_behind k low high first last [] within lt = refl
none_behind k low high first last (x ∷ xs) within lt =
    let hi = within.1 in
    let miss : hits k first last x ≡ false = and_right (meets k (Some x.kind)) _
    (and_left (leb first x.last) (leb x.first last) (lt-leb first x.last (omega arith))) in
    rw miss (none_behind k low high first last xs within.2 lt)

-- a range round the span leaves nothing
none_below : (low high first : ℕ) (xs : List Interval) → LieWithin low high xs → first ≤ low → kept_below first xs ≡ []
none_below low high first [] within le = refl
none_below low high first (x ∷ xs) within le =
    let lo = within.0 in
    rw (le-ltb x.first first (omega arith)) refl

none_above : (low high last : ℕ) (xs : List Interval) → LieWithin low high xs → high ≤ last → kept_above last xs ≡ []
none_above low high last [] within le = refl
none_above low high last (x ∷ xs) within le =
    let hi = within.1 in
    rw (le-ltb last x.last (omega arith)) (none_above low high last xs within.2 le)

pub none_left : (low high first last : ℕ) (xs : List Interval) → LieWithin low high xs → first ≤ low → high ≤ last → without first last xs ≡ []
none_left low high first last xs within le up = rw (none_below low high first xs within le, none_above low high last xs within up) refl

-- a wish to read, where nothing is held for writing
pub no_writer : (k : Kind) (first last : ℕ) (xs : List Interval) → is_write k ≡ false → has_write xs ≡ false → find (hits k first last) xs ≡ None
no_writer k first last [] read none = refl
no_writer k first last (x ∷ xs) read none =
    let parts = or_parts (is_write x.kind) (has_write xs) none in
    let miss : hits k first last x ≡ false = rw (read, parts.0) refl in
    rw miss (no_writer k first last xs read parts.1)

-- what a wish may pass over
pub passes_before : (k : Kind) (first last : ℕ) (s : Span) (xs : List Interval) → last < s.first → IsSpanOf s xs → find (hits k first last) xs ≡ None
passes_before k first last s xs lt is = none_before k s.first s.last first last xs is.span.each lt

pub passes_behind : (k : Kind) (first last : ℕ) (s : Span) (xs : List Interval) → s.last < first → IsSpanOf s xs → find (hits k first last) xs ≡ None
passes_behind k first last s xs lt is = none_behind k s.first s.last first last xs is.span.each lt

pub passes_read : (k : Kind) (first last : ℕ) (s : Span) (xs : List Interval) → s.writes ≡ false → is_write k ≡ false → IsSpanOf s xs →
    find (hits k first last) xs ≡ None
passes_read k first last s xs none read is = no_writer k first last xs read (is.read none)

pub spans_one : (s : Span) (m : Interval) → s.first ≡ m.first → s.last ≡ m.last → s.writes ≡ is_write m.kind → IsSpanOf s (m ∷ [])
spans_one s m first last writes = record {
  span = record { each = (omega arith, omega arith, tt) };
  read = λ e. rw (sym writes ∙ e) refl;
}

-- where nothing is held for writing, what an edit leaves is not
below_reads : (b : ℕ) (xs : List Interval) → has_write xs ≡ false → has_write (kept_below b xs) ≡ false
below_reads b [] none = refl
below_reads b (x ∷ xs) none =
    let parts = or_parts (is_write x.kind) (has_write xs) none in
    elim (cases_Bool (ltb x.first b)) [
      | inl lt ↦ rw (lt, parts.0) (below_reads b xs parts.1)
      | inr ge ↦ rw ge refl
    ]

above_reads : (b : ℕ) (xs : List Interval) → has_write xs ≡ false → has_write (kept_above b xs) ≡ false
above_reads b [] none = refl
above_reads b (x ∷ xs) none =
    let parts = or_parts (is_write x.kind) (has_write xs) none in
    elim (cases_Bool (ltb b x.last)) [
      | inl lt ↦ rw (lt, parts.0) parts.1
      | inr ge ↦ rw ge (above_reads b xs parts.1)
    ]

put_reads : (x : Interval) (ys : List Interval) → is_write x.kind ≡ false → has_write ys ≡ false → has_write (put x ys) ≡ false
put_reads x [] read none = rw read refl
put_reads x (y ∷ ys) read none =
    let parts = or_parts (is_write y.kind) (has_write ys) none in
    elim (cases_Bool (joins x y)) [
      | inl is ↦ rw (is, read) parts.1
      | inr not ↦ rw (not, read) none
    ]

glue_reads : (xs ys : List Interval) → has_write xs ≡ false → has_write ys ≡ false → has_write (glue xs ys) ≡ false
glue_reads [] ys read none = none
glue_reads (x ∷ xs) ys read none =
    let parts = or_parts (is_write x.kind) (has_write xs) read in
    put_reads x (glue xs ys) parts.0 (glue_reads xs ys parts.1 none)

pub without_reads : (first last : ℕ) (xs : List Interval) → has_write xs ≡ false → has_write (without first last xs) ≡ false
without_reads first last xs none = glue_reads (kept_below first xs) (kept_above last xs) (below_reads first xs none) (above_reads last xs none)

pub range_reads : (m : Interval) (xs : List Interval) → is_write m.kind ≡ false → has_write xs ≡ false → has_write (with_range m xs) ≡ false
range_reads m xs read none =
    glue_reads (kept_below m.first xs) (put m (kept_above m.last xs)) (below_reads m.first xs none)
    (put_reads m (kept_above m.last xs) read (above_reads m.last xs none))
