-- The bytes of pages, through each change of a page.
use Rattle.std.proofs.Common.{◌≡◌, ◌≢◌, ℕ, ◌+◌, ◌-◌, ◌*◌, ◌/◌, ◌%◌, ◌<◌, ◌≤◌, suc, Bool, true, false, not, List, [], ◌++◌, map, length, take, drop, refl, sym, ◌∙◌, ap, arith, inl, inr, get_or, nat_lt, subst}
use Rattle.std.proofs.{Math.ListN.{replicate}, lemmas.Bool.{cases_lt, cases_eq}, lemmas.Bool.Decides.nat_tests}
use Rattle.std.proofs.lemmas.List.{get_or_past, get_or-take, get_or-drop, get_or_append_left, get_or-append_right, get_or-replicate, length-take-le, length-replicate, take_all, same_lists, length-append, length-drop, length-take, append_assoc, map-append, get_or_default}
use Rattle.std.proofs.lemmas.List.FromFn.{length-range_with_len, get_or-range_with_len, length-map-range_with_len, get_or-map-range_with_len}
use Rattle.std.specs.{Prelude.{◌&&◌, if◌then◌else◌, slice_index_or, max, min, unwrap_or, Option, None}, List.range_with_len}
use Rattle.std.specs.{Ordering.{nat_cmp, is_gt}, Cmp.nat_cmp_is, declared.cmp.Ordering.Ordering}
use Rattle.std.proofs.Math.Bool.{cond}
use Rattle.nfs_xdr.specs.{SheetState.{SheetState, HasRoom}, Spelling.{number, opaque, padding}}
use Rattle.nfs_pages.specs.{Bytes.{written_byte, written, resized}, Page.{Leaf, blank, page_in, put_in}, Pages.{byte_in, bytes, IsClean}}
use Rattle.nfs_xdr.proofs.Putting.{length_number}

-- zeros behind the end are not seen
pub pad : (xs : List ℕ) (m j : ℕ) → get_or (xs ++ replicate m 0) j 0 ≡ get_or xs j 0
pad xs m j = elim (cases_lt j (length xs)) [
  | inl inside ↦ get_or_append_left xs (replicate m 0) 0 j inside
  | inr past ↦ get_or-append_right xs (replicate m 0) (length xs) j 0 refl past ∙ zeros m (j - length xs) ∙ sym (get_or_past xs j 0 past)
]
  where
    zeros : (m j : ℕ) → get_or (replicate {A = ℕ} m 0) j 0 ≡ 0
    zeros m j = elim (cases_lt j m) [ inl lt ↦ get_or-replicate m j 0 0 lt | inr ge ↦ get_or_past (replicate m 0) j 0 (let n : length (replicate {A = ℕ} m 0) ≡ m = length-replicate m 0 in omega arith) ]

pub resize_same : (ok : Bool) (xs ys : List ℕ) (n m j : ℕ) → length xs ≤ n → ys ≡ (if ok then take n xs ++ replicate m 0 else xs) → get_or ys j 0 ≡ get_or xs j 0
resize_same true xs ys n m j le e = rw (e, take_all n xs le) (pad xs m j)
resize_same false xs ys n m j le e = ap (λ zs. get_or zs j 0) e

-- the range of the data
pub written_in : (offset : ℕ) (given : List ℕ) (other : ℕ → ℕ) (p : ℕ) → offset ≤ p → p < offset + length given → written_byte other offset given p ≡ get_or given (p - offset) 0
written_in offset given other p from below = grind (arith, nat_tests)

pub written_below : (offset : ℕ) (given : List ℕ) (other : ℕ → ℕ) (p : ℕ) → p < offset → written_byte other offset given p ≡ other p
written_below offset given other p below = grind (arith, nat_tests)

pub written_above : (offset : ℕ) (given : List ℕ) (other : ℕ → ℕ) (p : ℕ) → offset + length given ≤ p → written_byte other offset given p ≡ other p
written_above offset given other p above = grind (arith, nat_tests)

-- a byte of a page into which data is put
pub get_or-put_in : (page : List ℕ) (at : ℕ) (given : List ℕ) (j : ℕ) → at + length given ≤ length page → get_or (put_in page at given) j 0 ≡ written_byte (λ j. get_or page j 0) at given j
get_or-put_in page at given j fits =
    let first : length (take at page) ≡ at = length-take-le at page (omega arith) in
    elim (cases_lt j at) [
      | inl below ↦ get_or_append_left (take at page) (given ++ drop (at + length given) page) 0 j (omega arith) ∙ get_or-take at page j 0 below ∙ sym (written_below at given (λ j. get_or page j 0) j below)
      | inr from ↦ get_or-append_right (take at page) (given ++ drop (at + length given) page) at j 0 first from ∙ elim (cases_lt j (at + length given)) [
        | inl inside ↦ get_or_append_left given (drop (at + length given) page) 0 (j - at) (omega arith) ∙ sym (written_in at given (λ j. get_or page j 0) j from inside)
        | inr past ↦ get_or-append_right given (drop (at + length given) page) (length given) (j - at) 0 refl (omega arith) ∙ get_or-drop (at + length given) page (j - at - length given) 0
            ∙ ap (λ k. get_or page k 0) (let e : at + length given + (j - at - length given) ≡ j = omega arith in e) ∙ sym (written_above at given (λ j. get_or page j 0) j past)
      ]
    ]

-- a byte of all pages, where data is put into one
pub byte_in-put : (old new : ℕ → List ℕ) (i from : ℕ) (given : List ℕ) → length (old i) ≡ 4096 → from + length given ≤ 4096
    → new i ≡ put_in (old i) from given → ((k : ℕ) → k ≢ i → new k ≡ old k) → (p : ℕ) → byte_in new p ≡ written_byte (byte_in old) (i * 4096 + from) given p
byte_in-put old new i from given whole fits put others p =
    elim (cases_eq (p / 4096) i) [
      | inl here ↦ ap (λ (q : List ℕ). get_or q (p % 4096) 0) (ap new here ∙ put)
          ∙ get_or-put_in (old i) from given (p % 4096) (omega arith)
          ∙ same_place here (ap (λ k. get_or (old k) (p % 4096) 0) here)
      | inr other ↦ ap (λ (page : List ℕ). get_or page (p % 4096) 0) (others (p / 4096) other)
          ∙ elim (cases_lt p (i * 4096 + from)) [
            | inl below ↦ sym (written_below (i * 4096 + from) given (byte_in old) p below)
            | inr above ↦ sym (written_above (i * 4096 + from) given (byte_in old) p (past_page other above))
          ]
    ]
  where
    past_page : p / 4096 ≢ i → i * 4096 + from ≤ p → i * 4096 + from + length given ≤ p
    past_page other above = elim (cases_lt (p / 4096) (suc i)) [ inl low ↦ absurd (other (omega arith)) | inr high ↦ omega arith ]

    same_place : p / 4096 ≡ i → byte_in old p ≡ get_or (old i) (p % 4096) 0 → written_byte (λ j. get_or (old i) j 0) from given (p % 4096) ≡ written_byte (byte_in old) (i * 4096 + from) given p
    same_place here same = elim (cases_lt (p % 4096) from) [
      | inl below ↦ written_below from given (λ j. get_or (old i) j 0) (p % 4096) below ∙ sym same ∙ sym (written_below (i * 4096 + from) given (byte_in old) p (omega arith))
      | inr above ↦ elim (cases_lt (p % 4096) (from + length given)) [
        | inl inside ↦ written_in from given (λ j. get_or (old i) j 0) (p % 4096) above inside
            ∙ ap (λ k. get_or given k 0) (let e : p % 4096 - from ≡ p - (i * 4096 + from) = omega arith in e)
            ∙ sym (written_in (i * 4096 + from) given (byte_in old) p (omega arith) (omega arith))
        | inr past ↦ written_above from given (λ j. get_or (old i) j 0) (p % 4096) past ∙ sym same ∙ sym (written_above (i * 4096 + from) given (byte_in old) p (omega arith))
      ]
    ]

-- more data behind what is put
pub put_more : (pages old : ℕ → List ℕ) (offset done count : ℕ) (text given : List ℕ) → done + count ≤ length text → length given ≡ count → ((k : ℕ) → k < count → get_or given k 0 ≡ get_or text (done + k) 0)
    → ((p : ℕ) → byte_in pages p ≡ written_byte (byte_in old) offset (take done text) p) → (p : ℕ) → written_byte (byte_in pages) (offset + done) given p ≡ written_byte (byte_in old) offset (take (done + count) text) p
put_more pages old offset done count text given fits long reads before p =
    let first : length (take done text) ≡ done = length-take-le done text (omega arith) in
    let both : length (take (done + count) text) ≡ done + count = length-take-le (done + count) text fits in
    elim (cases_lt p offset) [
      | inl below ↦ written_below (offset + done) given (byte_in pages) p (omega arith) ∙ before p ∙ written_below offset (take done text) (byte_in old) p below ∙ sym (written_below offset (take (done + count) text) (byte_in old) p below)
      | inr from ↦ elim (cases_lt p (offset + done)) [
        | inl early ↦ written_below (offset + done) given (byte_in pages) p early ∙ before p ∙ written_in offset (take done text) (byte_in old) p from (omega arith) ∙ get_or-take done text (p - offset) 0 (omega arith)
            ∙ sym (get_or-take (done + count) text (p - offset) 0 (omega arith)) ∙ sym (written_in offset (take (done + count) text) (byte_in old) p from (omega arith))
        | inr late ↦ elim (cases_lt p (offset + done + count)) [
          | inl inside ↦ written_in (offset + done) given (byte_in pages) p late (omega arith) ∙ reads (p - (offset + done)) (omega arith) ∙ ap (λ k. get_or text k 0) (let e : done + (p - (offset + done)) ≡ p - offset = omega arith in e)
              ∙ sym (get_or-take (done + count) text (p - offset) 0 (omega arith)) ∙ sym (written_in offset (take (done + count) text) (byte_in old) p from (omega arith))
          | inr past ↦ written_above (offset + done) given (byte_in pages) p (omega arith) ∙ before p ∙ written_above offset (take done text) (byte_in old) p (omega arith) ∙ sym (written_above offset (take (done + count) text) (byte_in old) p (omega arith))
        ]
      ]
    ]

pub put_step : (pages new old : ℕ → List ℕ) (offset done count i from : ℕ) (text given : List ℕ) → done + count ≤ length text → count + from ≤ 4096 → length given ≡ count → ((k : ℕ) → k < count → get_or given k 0 ≡ get_or text (done + k) 0)
    → i ≡ (offset + done) / 4096 → from ≡ (offset + done) % 4096 → length (pages i) ≡ 4096
    → new i ≡ put_in (pages i) from given → ((k : ℕ) → k ≢ i → new k ≡ pages k)
    → ((p : ℕ) → byte_in pages p ≡ written_byte (byte_in old) offset (take done text) p)
    → (p : ℕ) → byte_in new p ≡ written_byte (byte_in old) offset (take (done + count) text) p
put_step pages new old offset done count i from text given fits room long reads ei ef whole put others before p =
    let at : i * 4096 + from ≡ offset + done = omega arith in
    byte_in-put pages new i from given whole (omega arith) put others p
    ∙ ap (λ k. written_byte (byte_in pages) k given p) at
    ∙ put_more pages old offset done count text given fits long reads before p

-- no page's length changes
pub put_whole : (old new : ℕ → List ℕ) (i from : ℕ) (given : List ℕ) → from + length given ≤ length (old i) → new i ≡ put_in (old i) from given → ((k : ℕ) → k ≢ i → new k ≡ old k)
    → (k : ℕ) → length (new k) ≡ length (old k)
put_whole old new i from given fits put others k = elim (cases_eq k i) [
  | inl here ↦ ap (λ k. length (new k)) here ∙ ap length put ∙ same_length (old i) fits ∙ sym (ap (λ k. length (old k)) here)
  | inr other ↦ ap length (others k other)
]
  where
    same_length : (page : List ℕ) → from + length given ≤ length page → length (put_in page from given) ≡ length page
    same_length page fits = length-append (take from page) (given ++ drop (from + length given) page) ∙ (
        let a = length-append given (drop (from + length given) page) in
        let b = length-drop (from + length given) page in
        let t = length-take-le from page (omega arith) in
        omega arith)

-- the file
pub seen : (pages : ℕ → List ℕ) (size : ℕ) → IsClean pages size → (k : ℕ) → get_or (bytes pages size) k 0 ≡ byte_in pages k
seen pages size clean k = elim (cases_lt k size) [
  | inl inside ↦ get_or-map-range_with_len (byte_in pages) 0 size k k 0 inside (omega arith)
  | inr past ↦ get_or_past (bytes pages size) k 0 (let n = length-map-range_with_len (byte_in pages) 0 size in omega (arith, n)) ∙ sym (clean k past)
]

pub length-bytes : (pages : ℕ → List ℕ) (size : ℕ) → length (bytes pages size) ≡ size
length-bytes pages size = length-map-range_with_len (byte_in pages) 0 size

-- lists of as many bytes
made_same : (f g : ℕ → ℕ) (m n : ℕ) → m ≡ n → ((k : ℕ) → k < m → f k ≡ g k) → map f (range_with_len 0 m) ≡ map g (range_with_len 0 n)
made_same f g m n e same =
    same_lists (map f (range_with_len 0 m)) (map g (range_with_len 0 n)) (length-map-range_with_len f 0 m ∙ e ∙ sym (length-map-range_with_len g 0 n))
    (λ k d lt. (let within : k < m = let n = length-map-range_with_len f 0 m in omega (arith, n) in
    get_or-map-range_with_len f 0 m k k d within (omega arith) ∙ same k within ∙ sym (get_or-map-range_with_len g 0 n k k d (omega arith) (omega arith))))

pub written_same : (offset : ℕ) (given : List ℕ) (f g : ℕ → ℕ) (p : ℕ) → f p ≡ g p → written_byte f offset given p ≡ written_byte g offset given p
written_same offset given f g p e = ap (λ z. if not (nat_lt p offset) && nat_lt p (offset + length given) then slice_index_or given (p - offset) 0 else z) e

pub bytes_written : (old new : ℕ → List ℕ) (size offset : ℕ) (text : List ℕ) → IsClean old size → ((p : ℕ) → byte_in new p ≡ written_byte (byte_in old) offset text p) → bytes new (max size (offset + length text)) ≡ written (bytes old size) offset text
bytes_written old new size offset text clean put =
    made_same (byte_in new) (written_byte (λ p. get_or (bytes old size) p 0) offset text) (max size (offset + length text)) (max (length (bytes old size)) (offset + length text)) (ap (λ n. max n (offset + length text)) (sym (length-bytes old size)))
    (λ k lt. put k ∙ written_same offset text (byte_in old) (λ p. get_or (bytes old size) p 0) k (sym (seen old size clean k)))

pub bytes_resized : (old new : ℕ → List ℕ) (size more : ℕ) → IsClean old size → ((p : ℕ) → p < more → byte_in new p ≡ byte_in old p) → bytes new more ≡ resized (bytes old size) more
bytes_resized old new size more clean kept =
    made_same (byte_in new) (λ p. get_or (bytes old size) p 0) more more refl (λ k lt. kept k lt ∙ sym (seen old size clean k))

-- cutting
pub cut_kept : (pages new : ℕ → List ℕ) (size : ℕ) → ((k : ℕ) → k < size / 4096 → new k ≡ pages k) → new (size / 4096) ≡ take (size % 4096) (pages (size / 4096))
    → (p : ℕ) → p < size → byte_in new p ≡ byte_in pages p
cut_kept pages new size kept cut p lt =
    let last : ℕ = size / 4096 in
    elim (cases_eq (p / 4096) last) [
      | inl here ↦ ap (λ (q : List ℕ). get_or q (p % 4096) 0) (ap new here ∙ cut)
          ∙ get_or-take (size % 4096) (pages last) (p % 4096) 0 (omega arith) ∙ ap (λ k. get_or (pages k) (p % 4096) 0) (sym here)
      | inr other ↦ ap (λ (q : List ℕ). get_or q (p % 4096) 0) (kept (p / 4096) (omega (arith, other)))
    ]

pub cut_gone : (pages new : ℕ → List ℕ) (size : ℕ) → new (size / 4096) ≡ take (size % 4096) (pages (size / 4096)) → ((k : ℕ) → size / 4096 < k → new k ≡ [])
    → (p : ℕ) → size ≤ p → byte_in new p ≡ 0
cut_gone pages new size cut gone p le =
    let last : ℕ = size / 4096 in
    elim (cases_eq (p / 4096) last) [
      | inl here ↦ ap (λ (q : List ℕ). get_or q (p % 4096) 0) (ap new here ∙ cut)
          ∙ get_or_past (take (size % 4096) (pages last)) (p % 4096) 0 (let n = length-take (size % 4096) (pages last) in omega (arith, n))
      | inr other ↦ ap (λ (q : List ℕ). get_or q (p % 4096) 0) (gone (p / 4096) (omega (arith, other))) ∙ get_or_past [] (p % 4096) 0 (omega arith)
    ]

-- reading
pub range_split : (a n m : ℕ) → range_with_len a (n + m) ≡ range_with_len a n ++ range_with_len (a + n) m
range_split a n m = same_lists (range_with_len a (n + m)) (range_with_len a n ++ range_with_len (a + n) m) lengths (λ k d lt. at k d (let e = length-range_with_len a (n + m) in omega (arith, e)))
  where
    lengths : length (range_with_len a (n + m)) ≡ length (range_with_len a n ++ range_with_len (a + n) m)
    lengths = (let x = length-range_with_len a (n + m) in let y = length-append (range_with_len a n) (range_with_len (a + n) m) in let z = length-range_with_len a n in let w = length-range_with_len (a + n) m in omega (arith, x, y, z, w))

    at : (k d : ℕ) → k < n + m → get_or (range_with_len a (n + m)) k d ≡ get_or (range_with_len a n ++ range_with_len (a + n) m) k d
    at k d lt = get_or-range_with_len a (n + m) k d lt ∙ elim (cases_lt k n) [
      | inl front ↦ sym (get_or_append_left (range_with_len a n) (range_with_len (a + n) m) d k (let z = length-range_with_len a n in omega (arith, z)) ∙ get_or-range_with_len a n k d front)
      | inr back ↦ sym (get_or-append_right (range_with_len a n) (range_with_len (a + n) m) n k d (length-range_with_len a n) back ∙ get_or-range_with_len (a + n) m (k - n) d (omega arith) ∙ (let e : a + n + (k - n) ≡ a + k = omega arith in e))
    ]

-- the same number of bytes, each the same
pub bytes_same : (f g : ℕ → ℕ) (a b n : ℕ) → ((k : ℕ) → k < n → f (a + k) ≡ g (b + k)) → map f (range_with_len a n) ≡ map g (range_with_len b n)
bytes_same f g a b n same =
    same_lists (map f (range_with_len a n)) (map g (range_with_len b n)) (length-map-range_with_len f a n ∙ sym (length-map-range_with_len g b n))
    (λ k d lt. (let within : k < n = (let e = length-map-range_with_len f a n in omega (arith, e)) in
    get_or-map-range_with_len f a n k (a + k) d within refl ∙ same k within ∙ sym (get_or-map-range_with_len g b n k (b + k) d within refl)))

pub read_more : (pages : ℕ → List ℕ) (offset done part : ℕ) (before out more : List ℕ) → out ≡ before ++ map (byte_in pages) (range_with_len offset done) → more ≡ map (byte_in pages) (range_with_len (offset + done) part) → out ++ more ≡ before ++ map (byte_in pages) (range_with_len offset (done + part))
read_more pages offset done part before out more eo em =
    ap (λ xs. xs ++ more) eo ∙ append_assoc before (map (byte_in pages) (range_with_len offset done)) more
    ∙ ap (λ xs. before ++ xs) (ap (λ ys. map (byte_in pages) (range_with_len offset done) ++ ys) em ∙ sym (map-append (byte_in pages) (range_with_len offset done) (range_with_len (offset + done) part)) ∙ ap (map (byte_in pages)) (sym (range_split offset done part)))

-- part of one page
pub page_part : (pages : ℕ → List ℕ) (at part : ℕ) (page : List ℕ) → at % 4096 + part ≤ 4096 → pages (at / 4096) ≡ page → map (λ j. get_or page j 0) (range_with_len (at % 4096) part) ≡ map (byte_in pages) (range_with_len at part)
page_part pages at part page fits e = bytes_same (λ j. get_or page j 0) (byte_in pages) (at % 4096) at part (λ k lt. (
    let i : at / 4096 ≡ (at + k) / 4096 = omega arith in
    let j : at % 4096 + k ≡ (at + k) % 4096 = omega arith in
    ap (λ n. get_or page n 0) j ∙ ap (λ (q : List ℕ). get_or q ((at + k) % 4096) 0) (sym e ∙ ap pages i)))

zeros_are : (part a : ℕ) → replicate {A = ℕ} part 0 ≡ map (λ j. get_or [] j 0) (range_with_len a part)
zeros_are part a = same_lists (replicate {A = ℕ} part 0) (map (λ j. get_or [] j 0) (range_with_len a part)) (length-replicate part 0 ∙ sym (length-map-range_with_len (λ j. get_or [] j 0) a part))
    (λ k d lt. (let within : k < part = (let e = length-replicate {A = ℕ} part 0 in omega (arith, e)) in get_or-replicate part k 0 d within ∙ sym (get_or-map-range_with_len (λ j. get_or [] j 0) a part k (a + k) d within refl ∙ get_or_past [] (a + k) 0 (omega arith))))

-- a page's bytes, and zeros behind its end
pub piece : (xs : List ℕ) (from count end : ℕ) → end ≤ length xs → from ≤ end → end ≤ from + count → (end < from + count → length xs ≤ end) → take (end - from) (drop from xs) ++ replicate (from + count - end) 0 ≡ map (λ j. get_or xs j 0) (range_with_len from count)
piece xs from count end inside order within short =
    let first : length (take (end - from) (drop from xs)) ≡ end - from = length-take-le (end - from) (drop from xs) (let e = length-drop from xs in omega (arith, e)) in
    let last : length (replicate {A = ℕ} (from + count - end) 0) ≡ from + count - end = length-replicate (from + count - end) 0 in
    let both : length (take (end - from) (drop from xs) ++ replicate (from + count - end) 0) ≡ count = (let e = length-append (take (end - from) (drop from xs)) (replicate {A = ℕ} (from + count - end) 0) in omega (arith, e)) in
    same_lists (take (end - from) (drop from xs) ++ replicate (from + count - end) 0) (map (λ j. get_or xs j 0) (range_with_len from count)) (both ∙ sym (length-map-range_with_len (λ j. get_or xs j 0) from count))
    (λ k d lt. (let k_in : k < count = omega arith in
    at k d k_in first ∙ sym (get_or-map-range_with_len (λ j. get_or xs j 0) from count k (from + k) d k_in refl)))
  where
    at : (k d : ℕ) → k < count → length (take (end - from) (drop from xs)) ≡ end - from → get_or (take (end - from) (drop from xs) ++ replicate (from + count - end) 0) k d ≡ get_or xs (from + k) 0
    at k d lt first = elim (cases_lt k (end - from)) [
      | inl front ↦ get_or_append_left (take (end - from) (drop from xs)) (replicate (from + count - end) 0) d k (omega arith) ∙ get_or-take (end - from) (drop from xs) k d front ∙ get_or-drop from xs k d ∙ get_or_default xs (from + k) d 0 (omega arith)
      | inr back ↦ get_or-append_right (take (end - from) (drop from xs)) (replicate (from + count - end) 0) (end - from) k d first back ∙ get_or-replicate (from + count - end) (k - (end - from)) 0 d (omega arith) ∙ sym (get_or_past xs (from + k) 0 (let s = short (omega arith) in omega arith))
    ]

pub part_is : (pages : ℕ → List ℕ) (size offset count start n : ℕ) → start ≡ min offset size → n ≡ min count (size - start)
    → map (byte_in pages) (range_with_len start n) ≡ take count (drop offset (bytes pages size))
part_is pages size offset count start n es en =
    same_lists (map (byte_in pages) (range_with_len start n)) (take count (drop offset (bytes pages size))) lengths
    (λ k d lt. (let within : k < n = (let e = length-map-range_with_len (byte_in pages) start n in omega (arith, e)) in
    get_or-map-range_with_len (byte_in pages) start n k (offset + k) d within (omega arith)
    ∙ sym (get_or-take count (drop offset (bytes pages size)) k d (omega arith) ∙ get_or-drop offset (bytes pages size) k d
    ∙ get_or-map-range_with_len (byte_in pages) 0 size (offset + k) (offset + k) d (omega arith) (omega arith))))
  where
    lengths : length (map (byte_in pages) (range_with_len start n)) ≡ length (take count (drop offset (bytes pages size)))
    lengths =
        let a = length-map-range_with_len (byte_in pages) start n in
        let b = length-take count (drop offset (bytes pages size)) in
        let c = length-drop offset (bytes pages size) in
        let e = length-bytes pages size in
        omega (arith, a, b, c, e)

-- as an opaque
pub opaque_is : (part body : List ℕ) (n : ℕ) → body ≡ part → length body ≡ n → number n ++ (body ++ replicate (padding n) 0) ≡ opaque part
opaque_is part body n same long =
    ap (λ (m : ℕ). number m ++ (body ++ replicate (padding m) 0)) (sym long)
    ∙ ap (λ (ys : List ℕ). number (length ys) ++ (ys ++ replicate (padding (length ys)) 0)) same

pub opaque_fits : (part body : List ℕ) (n : ℕ) (s : SheetState) → body ≡ part → length body ≡ n → HasRoom s (opaque part) → length s.bytes + (4 + (n + padding n)) ≤ s.room
opaque_fits part body n s same long room =
    let fits : HasRoom s (number n ++ (body ++ replicate (padding n) 0)) = rw (opaque_is part body n same long) room in
    let l : length (number n ++ (body ++ replicate {A = ℕ} (padding n) 0)) ≡ 4 + (n + padding n) =
    length-append (number n) (body ++ replicate (padding n) 0) ∙ ap (λ k. k + length (body ++ replicate {A = ℕ} (padding n) 0)) (length_number n)
    ∙ ap (λ k. 4 + k) (length-append body (replicate (padding n) 0) ∙ ap (λ k. k + length (replicate {A = ℕ} (padding n) 0)) long ∙ ap (λ k. n + k) (length-replicate (padding n) 0)) in
    subst (λ k. length s.bytes + k ≤ s.room) l fits

-- one page
pub bytes_one : (pages : ℕ → List ℕ) (text : List ℕ) → length text ≤ 4096 → pages 0 ≡ text → bytes pages (length text) ≡ text
bytes_one pages text few is =
    same_lists (bytes pages (length text)) text (length-bytes pages (length text))
    (λ k d lt. (let within : k < length text = (let e = length-bytes pages (length text) in omega (arith, e)) in
    get_or-map-range_with_len (byte_in pages) 0 (length text) k k d within (omega arith) ∙ byte_one k (omega arith) ∙ get_or_default text k 0 d within))
  where
    byte_one : (k : ℕ) → k < 4096 → byte_in pages k ≡ get_or text k 0
    byte_one k lt =
        let page : k / 4096 ≡ 0 = omega arith in
        let place : k % 4096 ≡ k = omega arith in
        ap (λ (i : ℕ). get_or (pages i) (k % 4096) 0) page ∙ ap (λ (q : List ℕ). get_or q (k % 4096) 0) is ∙ ap (λ (j : ℕ). get_or text j 0) place

-- no page
pub bytes_none : (pages : ℕ → List ℕ) (size : ℕ) → ((i : ℕ) → pages i ≡ []) → bytes pages size ≡ replicate size 0
bytes_none pages size none = same_lists (bytes pages size) (replicate size 0) (length-bytes pages size ∙ sym (length-replicate size 0))
    (λ k d lt. (let within : k < size = (let e = length-bytes pages size in omega (arith, e)) in
    get_or-map-range_with_len (byte_in pages) 0 size k k d within (omega arith) ∙ ap (λ (q : List ℕ). get_or q (k % 4096) 0) (none (k / 4096)) ∙ sym (get_or-replicate size k 0 d within)))

-- behind the page's end is nothing but zeros
pub pad_part : (xs : List ℕ) (from count : ℕ) → (0 < count → length xs ≤ from) → replicate {A = ℕ} count 0 ≡ map (λ j. get_or xs j 0) (range_with_len from count)
pad_part xs from count past = zeros_are count from ∙ bytes_same (λ j. get_or [] j 0) (λ j. get_or xs j 0) from from count (λ k lt. get_or_past [] (from + k) 0 (omega arith) ∙ sym (get_or_past xs (from + k) 0 (let p = past (omega arith) in omega arith)))

pub page_past : (page : List ℕ) (from count : ℕ) → page ≡ [] → replicate {A = ℕ} count 0 ≡ map (λ j. get_or page j 0) (range_with_len from count)
page_past page from count past = zeros_are count from ∙ ap (λ (q : List ℕ). map (λ j. get_or q j 0) (range_with_len from count)) (sym past)

-- what a map is left with that is split at a number
pub below_is : (a q : ℕ) (o : Option (List Leaf)) → q < a → unwrap_or (cond (is_gt (nat_cmp a q)) o None) [] ≡ unwrap_or o []
below_is a q o lt = rw (← nat_cmp_is a q Ordering.Greater lt) refl

pub from_is : (a q : ℕ) (o : Option (List Leaf)) → a ≤ q → unwrap_or (cond (is_gt (nat_cmp a q)) o None) [] ≡ []
from_is a q o le = elim (cases_eq a q) [
  | inl same ↦ rw (← nat_cmp_is a q Ordering.Equal same) refl
  | inr other ↦ rw (← nat_cmp_is a q Ordering.Less (omega (arith, other))) refl
]

-- pages that lie together
pub pages_gone : (now mid : ℕ → List Leaf) (first : ℕ) → ((k : ℕ) → (first + 63) / 64 ≤ k → mid k ≡ []) → now (first / 64) ≡ take (first % 64) (mid (first / 64))
    → ((n : ℕ) → n ≢ first / 64 → now n ≡ mid n) → (i : ℕ) → first ≤ i → page_in (now (i / 64)) (i % 64) ≡ []
pages_gone now mid first gone cut others i le = elim (cases_eq (i / 64) (first / 64)) [
  | inl here ↦ ap (λ (e : List Leaf). page_in e (i % 64)) (ap now here ∙ cut)
      ∙ ap (λ (l : Leaf). l.bytes) (get_or_past (take (first % 64) (mid (first / 64))) (i % 64) blank (let n = length-take (first % 64) (mid (first / 64)) in omega (arith, n)))
  | inr other ↦ ap (λ (e : List Leaf). page_in e (i % 64)) (others (i / 64) other ∙ gone (i / 64) (omega (arith, other))) ∙ ap (λ (l : Leaf). l.bytes) (get_or_past [] (i % 64) blank (omega arith))
]
