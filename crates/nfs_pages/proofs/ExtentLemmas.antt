-- The bytes of pages that lie together, among all bytes.
use Rattle.std.proofs.Common.{◌≡◌, ◌≢◌, ℕ, ◌+◌, ◌-◌, ◌*◌, ◌/◌, ◌%◌, ◌<◌, ◌≤◌, suc, Bool, true, false, refl, List, [], map, length, take, sym, ◌∙◌, ap, arith, inl, inr, get_or, nat_lt}
use Rattle.std.proofs.lemmas.Bool.{le-ltb, cases_lt, cases_eq, lt-ltb}
use Rattle.std.specs.Prelude.{◌&&◌, ◌||◌, max, min}
use Rattle.std.specs.List.{range_with_len}
use Rattle.nfs_pages.specs.{Bytes.{written_byte, covers}, Page.{Leaf, page_in, is_in, count_below}, Pages.{byte_in, AreMore}}
use Rattle.nfs_pages.proofs.CountLemmas.{count_same, count_split, count_most, lt_same, none_in, is_in-take}
use Rattle.nfs_pages.proofs.PageLemmas.{written_in, written_below, written_above, bytes_same}

-- the page of a number, of what lies together
abbrev pub paged : (ℕ → List Leaf) → ℕ → List ℕ
paged ext i = page_in (ext (i / 64)) (i % 64)

pub near_page : (ext : ℕ → List Leaf) (k j : ℕ) → j < 64 → paged ext (k * 64 + j) ≡ page_in (ext k) j
near_page ext k j lt =
    let here : (k * 64 + j) / 64 ≡ k = omega arith in
    let at : (k * 64 + j) % 64 ≡ j = omega arith in
    ap (λ n. page_in (ext n) ((k * 64 + j) % 64)) here ∙ ap (page_in (ext k)) at

pub extent_byte : (ext : ℕ → List Leaf) (k q p : ℕ) → q < 262144 → p ≡ k * 262144 + q → byte_in (page_in (ext k)) q ≡ byte_in (paged ext) p
extent_byte ext k q p lt is =
    let here : p / 4096 / 64 ≡ k = omega arith in
    let page : q / 4096 ≡ p / 4096 % 64 = omega arith in
    let place : q % 4096 ≡ p % 4096 = omega arith in
    ap (λ j. get_or (page_in (ext k) j) (q % 4096) 0) page ∙ ap (λ b. get_or (page_in (ext k) (p / 4096 % 64)) b 0) place
    ∙ ap (λ n. get_or (page_in (ext n) (p / 4096 % 64)) (p % 4096) 0) (sym here)

-- bytes that are put into one extent
pub put_lifts : (old new : ℕ → List Leaf) (k from : ℕ) (given : List ℕ) → from + length given ≤ 262144 → ((n : ℕ) → n ≢ k → new n ≡ old n)
    → ((q : ℕ) → byte_in (page_in (new k)) q ≡ written_byte (byte_in (page_in (old k))) from given q)
    → (p : ℕ) → byte_in (paged new) p ≡ written_byte (byte_in (paged old)) (k * 262144 + from) given p
put_lifts old new k from given fits others put p = elim (cases_eq (p / 4096 / 64) k) [
  | inl here ↦ inside here
  | inr other ↦ ap (λ (e : List Leaf). get_or (page_in e (p / 4096 % 64)) (p % 4096) 0) (others (p / 4096 / 64) other)
      ∙ elim (cases_lt p (k * 262144 + from)) [
        | inl below ↦ sym (written_below (k * 262144 + from) given (byte_in (paged old)) p below)
        | inr above ↦ sym (written_above (k * 262144 + from) given (byte_in (paged old)) p (past other above))
      ]
]
  where
    past : p / 4096 / 64 ≢ k → k * 262144 + from ≤ p → k * 262144 + from + length given ≤ p
    past other above = elim (cases_lt (p / 4096 / 64) (suc k)) [ inl low ↦ absurd (other (omega arith)) | inr high ↦ omega arith ]

    inside : p / 4096 / 64 ≡ k → byte_in (paged new) p ≡ written_byte (byte_in (paged old)) (k * 262144 + from) given p
    inside here =
        let q : ℕ = p % 262144 in
        let is : p ≡ k * 262144 + q = omega arith in
        let lt : q < 262144 = omega arith in
        sym (extent_byte new k q p lt is) ∙ put q ∙ elim (cases_lt q from) [
          | inl below ↦ written_below from given (byte_in (page_in (old k))) q below ∙ extent_byte old k q p lt is
              ∙ sym (written_below (k * 262144 + from) given (byte_in (paged old)) p (omega arith))
          | inr above ↦ elim (cases_lt q (from + length given)) [
            | inl within ↦ written_in from given (byte_in (page_in (old k))) q above within
                ∙ ap (λ z. get_or given z 0) (let e : q - from ≡ p - (k * 262144 + from) = omega arith in e)
                ∙ sym (written_in (k * 262144 + from) given (byte_in (paged old)) p (omega arith) (omega arith))
            | inr behind ↦ written_above from given (byte_in (page_in (old k))) q behind ∙ extent_byte old k q p lt is
                ∙ sym (written_above (k * 262144 + from) given (byte_in (paged old)) p (omega arith))
          ]
        ]

pub lengths_lift : (old new : ℕ → List Leaf) (k : ℕ) → ((n : ℕ) → n ≢ k → new n ≡ old n) → ((j : ℕ) → length (page_in (new k) j) ≡ length (page_in (old k) j))
    → (i : ℕ) → length (paged new i) ≡ length (paged old i)
lengths_lift old new k others here i = elim (cases_eq (i / 64) k) [
  | inl is ↦ ap (λ n. length (page_in (new n) (i % 64))) is ∙ here (i % 64) ∙ ap (λ n. length (page_in (old n) (i % 64))) (sym is)
  | inr other ↦ ap (λ (e : List Leaf). length (page_in e (i % 64))) (others (i / 64) other)
]

-- some bytes of one extent
pub extent_part : (ext : ℕ → List Leaf) (at part : ℕ) → at % 262144 + part ≤ 262144
    → map (byte_in (page_in (ext (at / 262144)))) (range_with_len (at % 262144) part) ≡ map (byte_in (paged ext)) (range_with_len at part)
extent_part ext at part fits = bytes_same (byte_in (page_in (ext (at / 262144)))) (byte_in (paged ext)) (at % 262144) at part
    (λ k lt. extent_byte ext (at / 262144) (at % 262144 + k) (at + k) (omega arith) (omega arith))

-- whether something was written in the page of a number
abbrev pub marked : (ℕ → List Leaf) → ℕ → Bool
marked ext i = is_in (ext (i / 64)) (i % 64)

pub near_marked : (ext : ℕ → List Leaf) (k j : ℕ) → j < 64 → marked ext (k * 64 + j) ≡ is_in (ext k) j
near_marked ext k j lt =
    let here : (k * 64 + j) / 64 ≡ k = omega arith in
    let at : (k * 64 + j) % 64 ≡ j = omega arith in
    ap (λ n. is_in (ext n) ((k * 64 + j) % 64)) here ∙ ap (is_in (ext k)) at

-- what is written in one extent
pub marks_lift : (old new : ℕ → List Leaf) (k from count : ℕ) → from + count ≤ 262144 → ((n : ℕ) → n ≢ k → new n ≡ old n)
    → ((j : ℕ) → is_in (new k) j ≡ covers from count j || is_in (old k) j) → (i : ℕ) → marked new i ≡ covers (k * 262144 + from) count i || marked old i
marks_lift old new k from count fits others marks i = elim (cases_eq (i / 64) k) [
  | inl here ↦ ap (λ (n : ℕ). is_in (new n) (i % 64)) here ∙ marks (i % 64)
      ∙ ap (λ (b : Bool). b || is_in (old k) (i % 64)) (lt_same (max from (i % 64 * 4096)) (min (from + count) (i % 64 * 4096 + 4096)) (max (k * 262144 + from) (i * 4096)) (min (k * 262144 + from + count) (i * 4096 + 4096)) (λ lt. omega arith) (λ lt. omega arith))
      ∙ ap (λ (n : ℕ). covers (k * 262144 + from) count i || is_in (old n) (i % 64)) (sym here)
  | inr other ↦ ap (λ (e : List Leaf). is_in e (i % 64)) (others (i / 64) other)
      ∙ sym (ap (λ (b : Bool). b || marked old i) (le-ltb (max (k * 262144 + from) (i * 4096)) (min (k * 262144 + from + count) (i * 4096 + 4096)) (apart other)))
]
  where
    apart : i / 64 ≢ k → min (k * 262144 + from + count) (i * 4096 + 4096) ≤ max (k * 262144 + from) (i * 4096)
    apart other = elim (cases_lt (i / 64) k) [ inl below ↦ omega arith | inr above ↦ (let more : k < i / 64 = omega (arith, other) in omega arith) ]

-- how many of them were not before
pub more_lifts : (old new : ℕ → List Leaf) (k more end : ℕ) → k * 64 + 64 ≤ end → ((n : ℕ) → n ≢ k → new n ≡ old n) → AreMore (is_in (old k)) (is_in (new k)) 64 more → AreMore (marked old) (marked new) end more
more_lifts old new k more end behind others some = record { grown = λ n le. at n (omega arith) }
  where
    elsewhere : (i : ℕ) → i / 64 ≢ k → marked new i ≡ marked old i
    elsewhere i other = ap (λ (e : List Leaf). is_in e (i % 64)) (others (i / 64) other)

    parts : (ext : ℕ → List Leaf) (n : ℕ) → k * 64 + 64 ≤ n
        → count_below (marked ext) n ≡ count_below (marked ext) (k * 64) + count_below (is_in (ext k)) 64 + count_below (λ j. marked ext (k * 64 + 64 + j)) (n - (k * 64 + 64))
    parts ext n le =
        let size : n ≡ k * 64 + 64 + (n - (k * 64 + 64)) = omega arith in
        ap (count_below (marked ext)) size ∙ count_split (marked ext) (k * 64 + 64) (n - (k * 64 + 64))
        ∙ ap (λ (c : ℕ). c + count_below (λ j. marked ext (k * 64 + 64 + j)) (n - (k * 64 + 64)))
        (count_split (marked ext) (k * 64) 64 ∙ ap (λ (c : ℕ). count_below (marked ext) (k * 64) + c) (count_same (λ j. marked ext (k * 64 + j)) (is_in (ext k)) 64 (λ j lt. near_marked ext k j lt)))

    sum : (a b c d e f : ℕ) → a ≡ b → c ≡ d → e ≡ f + more → a + e + c ≡ b + f + d + more
    sum a b c d e f front back mid = omega arith

    at : (n : ℕ) → k * 64 + 64 ≤ n → count_below (marked new) n ≡ count_below (marked old) n + more
    at n le =
        parts new n le
        ∙ sum (count_below (marked new) (k * 64)) (count_below (marked old) (k * 64)) (count_below (λ j. marked new (k * 64 + 64 + j)) (n - (k * 64 + 64))) (count_below (λ j. marked old (k * 64 + 64 + j)) (n - (k * 64 + 64)))
        (count_below (is_in (new k)) 64) (count_below (is_in (old k)) 64)
        (count_same (marked new) (marked old) (k * 64) (λ i lt. elsewhere i (λ e. absurd (omega arith))))
        (count_same (λ j. marked new (k * 64 + 64 + j)) (λ j. marked old (k * 64 + 64 + j)) (n - (k * 64 + 64)) (λ j lt. elsewhere (k * 64 + 64 + j) (λ e. absurd (omega arith))))
        (some.grown 64 (omega arith))
        ∙ ap (λ (c : ℕ). c + more) (sym (parts old n le))

-- what a cut leaves
pub marks_left : (old mid new : ℕ → List Leaf) (first : ℕ) → ((k : ℕ) → k < (first + 63) / 64 → mid k ≡ old k) → ((k : ℕ) → (first + 63) / 64 ≤ k → mid k ≡ [])
    → new (first / 64) ≡ take (first % 64) (mid (first / 64)) → ((n : ℕ) → n ≢ first / 64 → new n ≡ mid n) → (i : ℕ) → marked new i ≡ nat_lt i first && marked old i
marks_left old mid new first kept gone cut others i = elim (cases_eq (i / 64) (first / 64)) [
  | inl here ↦ ap (λ (n : ℕ). is_in (new n) (i % 64)) here ∙ ap (λ (e : List Leaf). is_in e (i % 64)) cut ∙ is_in-take (mid (first / 64)) (first % 64) (i % 64)
      ∙ ap (λ (b : Bool). b && is_in (mid (first / 64)) (i % 64)) (lt_same (i % 64) (first % 64) i first (λ lt. omega arith) (λ lt. omega arith))
      ∙ front here
  | inr other ↦ elim (cases_lt i first) [
    | inl below ↦ ap (λ (e : List Leaf). is_in e (i % 64)) (others (i / 64) other ∙ kept (i / 64) (omega (arith, other))) ∙ sym (ap (λ (b : Bool). b && marked old i) (lt-ltb i first below))
    | inr past ↦ ap (λ (e : List Leaf). is_in e (i % 64)) (others (i / 64) other ∙ gone (i / 64) (omega (arith, other))) ∙ none_in (i % 64) ∙ sym (ap (λ (b : Bool). b && marked old i) (le-ltb i first past))
  ]
]
  where
    front : i / 64 ≡ first / 64 → nat_lt i first && is_in (mid (first / 64)) (i % 64) ≡ nat_lt i first && marked old i
    front here = elim (cases_lt i first) [
      | inl below ↦ ap (λ (e : List Leaf). nat_lt i first && is_in e (i % 64)) (kept (first / 64) (omega arith)) ∙ ap (λ (n : ℕ). nat_lt i first && is_in (old n) (i % 64)) (sym here)
      | inr past ↦ ap (λ (b : Bool). b && is_in (mid (first / 64)) (i % 64)) (le-ltb i first past) ∙ sym (ap (λ (b : Bool). b && marked old i) (le-ltb i first past))
    ]

-- more behind what is written
pub covers_more : (offset done count i : ℕ) (b : Bool) → covers (offset + done) count i || (covers offset done i || b) ≡ covers offset (done + count) i || b
covers_more offset done count i b = elim (cases_lt (max (offset + done) (i * 4096)) (min (offset + done + count) (i * 4096 + 4096))) [
  | inl late ↦ both (covers (offset + done) count i) (covers offset done i) (covers offset (done + count) i) (lt-ltb _ _ late) (lt-ltb (max offset (i * 4096)) (min (offset + (done + count)) (i * 4096 + 4096)) (omega arith))
  | inr none ↦ elim (cases_lt (max offset (i * 4096)) (min (offset + done) (i * 4096 + 4096))) [
    | inl early ↦ either (covers (offset + done) count i) (covers offset done i) (covers offset (done + count) i) true (le-ltb _ _ none) (lt-ltb _ _ early) (lt-ltb (max offset (i * 4096)) (min (offset + (done + count)) (i * 4096 + 4096)) (omega arith))
    | inr neither ↦ either (covers (offset + done) count i) (covers offset done i) (covers offset (done + count) i) false (le-ltb _ _ none) (le-ltb _ _ neither) (le-ltb (max offset (i * 4096)) (min (offset + (done + count)) (i * 4096 + 4096)) (omega arith))
  ]
]
  where
    both : (x y z : Bool) → x ≡ true → z ≡ true → x || (y || b) ≡ z || b
    both x y z e f = rw (e, f) refl

    either : (x y z w : Bool) → x ≡ false → y ≡ w → z ≡ w → x || (y || b) ≡ z || b
    either x y z w e f g = rw (e, f, g) refl

-- one part behind the other
pub more_yet : (old mid new : ℕ → Bool) (a b x y : ℕ) → a ≤ b → AreMore old mid a x → AreMore mid new b y → AreMore old new b (x + y)
more_yet old mid new a b x y le first second = record {
  grown = λ n behind. (let u = first.grown n (omega arith) in let v = second.grown n behind in omega arith);
}

pub more_most : (old new : ℕ → Bool) (end x : ℕ) → AreMore old new end x → x ≤ end
more_most old new end x more = (let u = more.grown end (omega arith) in let v = count_most new end in omega arith)
