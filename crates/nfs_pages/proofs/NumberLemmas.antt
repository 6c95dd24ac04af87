-- The numbers below one that pass a test.
use Rattle.std.proofs.Common.{◌≡◌, ℕ, ◌+◌, ◌-◌, ◌*◌, ◌<◌, ◌≤◌, zero, suc, Bool, true, false, List, [], ◌∷◌, ◌++◌, length, refl, sym, ◌∙◌, ap, arith, inl, inr, nat_lt}
use Rattle.std.proofs.lemmas.{Bool.{le-ltb, cases_lt, cases_eq, eq-eqb, ne_eqb, lt-ltb}, List.{length-append, Elements.filter-append, Folds.list_any-append}}
use Rattle.std.specs.{Prelude.{◌&&◌, ◌||◌, ◌==◌, filter, max, if◌then◌else◌}, List.range_with_len}
use Rattle.nfs_pages.specs.{Bytes.{Content, covers, has, numbers_below, pages_in}, Page.count_below, Pages.{IsBelow, AreCounted, AreMore}}
use Rattle.nfs_pages.proofs.{PageLemmas.range_split, CountLemmas.{count_none, count_more, count_same, count_beyond, count_empty}}

-- one more
numbers_more : (f : ℕ → Bool) (n : ℕ) → numbers_below f (n + 1) ≡ numbers_below f n ++ (if f n then n ∷ [] else [])
unfolding numbers_below
numbers_more f n = ap (filter f) (range_split 0 n 1) ∙ filter-append f (range_with_len 0 n) (range_with_len (0 + n) 1) ∙ (let e : 0 + n ≡ n = omega arith in rw e refl)

numbers_none : (f : ℕ → Bool) → numbers_below f 0 ≡ []
unfolding numbers_below
numbers_none f = refl

after : (n : ℕ) → suc n ≡ n + 1
after n = omega arith

pub length-numbers_below : (f : ℕ → Bool) (n : ℕ) → length (numbers_below f n) ≡ count_below f n
length-numbers_below f zero = ap length (numbers_none f) ∙ sym (count_none f)
length-numbers_below f (suc n) =
    rw (after n) (ap length (numbers_more f n) ∙ length-append (numbers_below f n) (if f n then n ∷ [] else [])
    ∙ ap (λ (k : ℕ). k + length (if f n then n ∷ [] else [])) (length-numbers_below f n)
    ∙ ap (λ (k : ℕ). count_below f n + k) (one (f n)) ∙ sym (count_more f n))
  where
    one : (b : Bool) → length (if b then n ∷ [] else []) ≡ (if b then 1 else 0)
    one true = refl
    one false = refl

pub has-numbers_below : (f : ℕ → Bool) (n i : ℕ) → has (numbers_below f n) i ≡ nat_lt i n && f i
has-numbers_below f zero i = ap (λ (xs : List ℕ). has xs i) (numbers_none f) ∙ sym (ap (λ (b : Bool). b && f i) (le-ltb i 0 (omega arith)))
has-numbers_below f (suc n) i =
    rw (after n) (ap (λ (xs : List ℕ). has xs i) (numbers_more f n) ∙ list_any-append (λ m. m == i) (numbers_below f n) (if f n then n ∷ [] else [])
    ∙ ap (λ (b : Bool). b || has (if f n then n ∷ [] else []) i) (has-numbers_below f n i)
    ∙ last (f n) refl)
  where
    last : (b : Bool) → f n ≡ b → (nat_lt i n && f i) || has (if b then n ∷ [] else []) i ≡ nat_lt i (n + 1) && f i
    last b is = elim (cases_eq n i) [
      | inl here ↦ rw (le-ltb i n (omega arith), lt-ltb i (n + 1) (omega arith), ← here, is) (self b)
      | inr other ↦ elim (cases_lt i n) [
        | inl below ↦ rw (lt-ltb i n below, lt-ltb i (n + 1) (omega arith)) (none b (f i) (ne_eqb n i other))
        | inr past ↦ rw (le-ltb i n past, le-ltb i (n + 1) (omega (arith, other))) (none b false (ne_eqb n i other))
      ]
    ]
      where
        self : (b : Bool) → has (if b then n ∷ [] else []) n ≡ b
        self true = rw (eq-eqb n n refl) refl
        self false = refl

        none : (b c : Bool) → (n == i) ≡ false → c || has (if b then n ∷ [] else []) i ≡ c
        none true true e = refl
        none true false e = rw e refl
        none false true e = refl
        none false false e = refl

pub numbers_same : (f g : ℕ → Bool) (n : ℕ) → ((i : ℕ) → i < n → f i ≡ g i) → numbers_below f n ≡ numbers_below g n
numbers_same f g zero same = numbers_none f ∙ sym (numbers_none g)
numbers_same f g (suc n) same =
    rw (after n) (numbers_more f n
    ∙ ap (λ (xs : List ℕ). xs ++ (if f n then n ∷ [] else [])) (numbers_same f g n (λ i lt. same i (omega arith)))
    ∙ ap (λ (b : Bool). numbers_below g n ++ (if b then n ∷ [] else [])) (same n (omega arith))
    ∙ sym (numbers_more g n))

pub numbers_empty : (f : ℕ → Bool) (n : ℕ) → ((i : ℕ) → i < n → f i ≡ false) → numbers_below f n ≡ []
numbers_empty f zero none = numbers_none f
numbers_empty f (suc n) none =
    rw (after n) (numbers_more f n ∙ ap (λ (xs : List ℕ). xs ++ (if f n then n ∷ [] else [])) (numbers_empty f n (λ i lt. none i (omega arith)))
    ∙ ap (λ (b : Bool). [] ++ (if b then n ∷ [] else [])) (none n (omega arith)))

-- none behind the end is lost
pub has_is : (f : ℕ → Bool) (n i : ℕ) → IsBelow f n → has (numbers_below f n) i ≡ f i
has_is f n i below = has-numbers_below f n i ∙ elim (cases_lt i n) [
  | inl lt ↦ ap (λ (b : Bool). b && f i) (lt-ltb i n lt)
  | inr past ↦ ap (λ (b : Bool). b && f i) (le-ltb i n past) ∙ sym (below i past)
]

-- what is kept: the same bytes and pages
abbrev pub content : List ℕ → List ℕ → Content
content bytes pages = record { bytes = bytes; pages = pages }

pub content_is : (bytes also pages too : List ℕ) → bytes ≡ also → pages ≡ too → content bytes pages ≡ content also too
content_is bytes also pages too b p = ap (λ (x : List ℕ). content x pages) b ∙ ap (content also) p

-- pages of a text
none_covered : (offset count i : ℕ) → offset + count ≤ i * 4096 → covers offset count i ≡ false
none_covered offset count i past = le-ltb _ _ (omega arith)

pub counted_none : (f : ℕ → Bool) (size : ℕ) → ((i : ℕ) → f i ≡ false) → AreCounted f size 0
counted_none f size none = record { below = λ i le. none i; exact = sym (count_empty f (pages_in size) (λ i lt. none i)) }

pub counted_text : (f : ℕ → Bool) (size count : ℕ) → size ≤ 4096 → ((i : ℕ) → f i ≡ covers 0 size i) → count ≡ (if size == 0 then 0 else 1) → AreCounted f size count
counted_text f size count few is one = record {
  below = λ i le. is i ∙ none_covered 0 size i (omega arith);
  exact = one ∙ elim (cases_eq size 0) [
    | inl none ↦ rw (eq-eqb size 0 none) (sym (ap (λ (n : ℕ). count_below f (pages_in n)) none ∙ count_none f))
    | inr some ↦ rw (ne_eqb size 0 some) (
        let n : pages_in size ≡ 0 + 1 = omega (arith, some) in
        let here : f 0 ≡ true = is 0 ∙ lt-ltb _ _ (omega (arith, some)) in
        sym (ap (count_below f) n ∙ count_more f 0 ∙ ap (λ (k : ℕ). k + (if f 0 then 1 else 0)) (count_none f) ∙ rw here refl))
  ];
}

pub counted_written : (f g : ℕ → Bool) (size count offset length end more : ℕ) → AreCounted f size count → ((i : ℕ) → g i ≡ covers offset length i || f i) → AreMore f g end more
    → AreCounted g (max size (offset + length)) (count + more)
counted_written f g size count offset length end more counted is grown =
    let below : IsBelow g (pages_in (max size (offset + length))) = λ i le. is i ∙ rw (none_covered offset length i (omega arith), counted.below i (omega arith)) refl in
    let far : ℕ = max end (pages_in (max size (offset + length))) in
    record {
      below = below;
      exact =
          let up = grown.grown far (omega arith) in
          let new = count_beyond g (pages_in (max size (offset + length))) far below (omega arith) in
          let old = count_beyond f (pages_in size) far counted.below (omega arith) in
          let was = counted.exact in
          omega arith;
    }

pub counted_cut : (f g : ℕ → Bool) (size count to gone : ℕ) → AreCounted f size count → ((i : ℕ) → g i ≡ nat_lt (i * 4096) to && f i) → gone + count_below f (pages_in to) ≡ count → AreCounted g to (count - gone)
counted_cut f g size count to gone counted is sum = record {
  below = λ i le. is i ∙ ap (λ (b : Bool). b && f i) (le-ltb (i * 4096) to (omega arith));
  exact =
      let same = count_same g f (pages_in to) (λ i lt. is i ∙ ap (λ (b : Bool). b && f i) (lt-ltb (i * 4096) to (omega arith))) in
      omega arith;
}

-- how many are left of those below another
pub length-left : (f : ℕ → Bool) (n m : ℕ) → IsBelow f n → length (numbers_below (has (numbers_below f n)) m) ≡ count_below f m
length-left f n m below = length-numbers_below (has (numbers_below f n)) m ∙ count_same (has (numbers_below f n)) f m (λ i lt. has_is f n i below)
