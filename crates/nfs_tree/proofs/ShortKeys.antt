-- The keys of short names are equal where the directories and the names are.
use Rattle.std.proofs.Common.{◌≡◌, ℕ, ◌-◌, ◌<◌, ◌≤◌, zero, suc, true, List, [], ◌∷◌, ◌++◌, length, take, drop, refl, sym, ◌∙◌, ap, arith, inl, inr}
use Rattle.std.proofs.{lemmas.Bool.{cases_Bool, cases_lt, cases_eq, eq-eqb, eqb-true, and_parts, false≢true}, lemmas.Bool.Decides.nat_tests}
use Rattle.std.proofs.{lemmas.Nat.be_bytes_8, lemmas.Slice.Eq.bytes_eq-Decides}
use Rattle.std.proofs.lemmas.List.{take-append-drop, take_at, length-append, length-replicate, length-take, length-drop, drop-drop, drop-replicate, get_or_append_left, get_or-append_right, get_or-replicate, get_or-set_same, get_or-set_other, length-set, same_lists, get_or_past}
use Rattle.std.specs.{Prelude.{◌==◌, ◌&&◌, bytes_eq, replicate, get_or, set}, Int.{to_be_bytes, from_be_bytes, w64}, BTreeMap.is_at}
use Rattle.nfs_xdr.specs.Text.{IsBytes}
use Rattle.nfs_xdr.proofs.{Bytes.IsBytes-drop, CodecLaws.IsBytes-take}
use Rattle.nfs_tree.specs.{declared.by_name.ShortKey.ShortKey, ByName.{padded, short_key, short_cmp}}

pub length-padded : (name : List ℕ) → length name ≤ 23 → length (padded name) ≡ 24
length-padded name short = omega (arith, length-append name (replicate (23 - length name) 0 ++ length name ∷ []), length-append (replicate (23 - length name) 0) (length name ∷ []), length-replicate {A = ℕ} (23 - length name) 0)

-- the last byte is the length
padded_last : (name : List ℕ) → length name ≤ 23 → (d : ℕ) → get_or (padded name) 23 d ≡ length name
padded_last name short d =
    let room = 23 - length name in
    get_or-append_right name (replicate room 0 ++ length name ∷ []) (length name) 23 d refl short
    ∙ get_or-append_right (replicate room 0) (length name ∷ []) room room d (length-replicate {A = ℕ} room 0) (omega arith)
    ∙ (let none : room - room ≡ 0 = omega arith in rw none refl)

bytes_zeros : (n : ℕ) → IsBytes (replicate n 0)
bytes_zeros n = record {
  each = λ i. elim (cases_lt i n) [
    | inl lt ↦ rw (get_or-replicate {A = ℕ} n i 0 0 lt) (omega arith)
    | inr le ↦ rw (get_or_past {X = ℕ} (replicate n 0) i 0 (omega (arith, length-replicate {A = ℕ} n 0))) (omega arith)
  ];
}

bytes_first : (x : ℕ) (xs : List ℕ) → x < 256 → IsBytes xs → IsBytes (x ∷ xs)
bytes_first x xs small rest = record { each = λ i. at i }
  where
    at : (i : ℕ) → get_or (x ∷ xs) i 0 < 256
    at zero = small
    at (suc i) = rest.each i

bytes_append : (xs ys : List ℕ) → IsBytes xs → IsBytes ys → IsBytes (xs ++ ys)
bytes_append [] ys front back = back
bytes_append (x ∷ xs) ys front back = bytes_first x (xs ++ ys) (front.each 0) (bytes_append xs ys (record { each = λ i. front.each (suc i) }) back)

bytes_padded : (name : List ℕ) → length name ≤ 23 → IsBytes name → IsBytes (padded name)
bytes_padded name short is = bytes_append name _ is (bytes_append (replicate (23 - length name) 0) (length name ∷ []) (bytes_zeros _) (bytes_first (length name) [] (omega arith) (record { each = λ i. omega arith })))

-- eight bytes are known by their number
word_same : (xs ys : List ℕ) → length xs ≡ 8 → length ys ≡ 8 → IsBytes xs → IsBytes ys → from_be_bytes w64 xs ≡ from_be_bytes w64 ys → xs ≡ ys
word_same xs ys lx ly bx by e =
    sym (be_bytes_8 xs (from_be_bytes w64 xs) lx (λ i. bx.each i) refl) ∙ ap (to_be_bytes w64) e ∙ be_bytes_8 ys (from_be_bytes w64 ys) ly (λ i. by.each i) refl

-- a name is known by its bytes and its length
unpadded : (m n : List ℕ) → length m ≤ 23 → length n ≤ 23 → padded m ≡ padded n → m ≡ n
unpadded m n sm sn e =
    let same : length m ≡ length n = sym (padded_last m sm 0) ∙ ap (λ bytes. get_or bytes 23 0) e ∙ padded_last n sn 0 in
    sym (take_at m _ (length m) refl) ∙ ap (take (length m)) e ∙ take_at n _ (length m) (sym same)

words_same : (m n : List ℕ) → length m ≤ 23 → length n ≤ 23 → IsBytes m → IsBytes n
    → from_be_bytes w64 (take 8 (padded m)) ≡ from_be_bytes w64 (take 8 (padded n))
    → from_be_bytes w64 (take 8 (drop 8 (padded m))) ≡ from_be_bytes w64 (take 8 (drop 8 (padded n)))
    → from_be_bytes w64 (drop 16 (padded m)) ≡ from_be_bytes w64 (drop 16 (padded n)) → m ≡ n
words_same m n sm sn bm bn first second last =
    let lm = length-padded m sm in
    let ln = length-padded n sn in
    let pm = bytes_padded m sm bm in
    let pn = bytes_padded n sn bn in
    let a : take 8 (padded m) ≡ take 8 (padded n) =
    word_same _ _ (omega (arith, length-take 8 (padded m), lm)) (omega (arith, length-take 8 (padded n), ln)) (IsBytes-take 8 _ pm) (IsBytes-take 8 _ pn) first in
    let b : take 8 (drop 8 (padded m)) ≡ take 8 (drop 8 (padded n)) =
    word_same _ _ (omega (arith, length-take 8 (drop 8 (padded m)), length-drop 8 (padded m), lm)) (omega (arith, length-take 8 (drop 8 (padded n)), length-drop 8 (padded n), ln))
    (IsBytes-take 8 _ (IsBytes-drop 8 _ pm)) (IsBytes-take 8 _ (IsBytes-drop 8 _ pn)) second in
    let c : drop 16 (padded m) ≡ drop 16 (padded n) =
    word_same _ _ (omega (arith, length-drop 16 (padded m), lm)) (omega (arith, length-drop 16 (padded n), ln)) (IsBytes-drop 16 _ pm) (IsBytes-drop 16 _ pn) last in
    unpadded m n sm sn (joined m ∙ ap (λ xs. xs ++ (take 8 (drop 8 (padded m)) ++ drop 16 (padded m))) a
    ∙ ap (λ xs. take 8 (padded n) ++ (xs ++ drop 16 (padded m))) b ∙ ap (λ xs. take 8 (padded n) ++ (take 8 (drop 8 (padded n)) ++ xs)) c ∙ sym (joined n))
  where
    joined : (name : List ℕ) → padded name ≡ take 8 (padded name) ++ (take 8 (drop 8 (padded name)) ++ drop 16 (padded name))
    joined name = sym (take-append-drop 8 (padded name))
        ∙ ap (λ xs. take 8 (padded name) ++ xs) (sym (take-append-drop 8 (drop 8 (padded name))) ∙ ap (λ xs. take 8 (drop 8 (padded name)) ++ xs) (drop-drop 8 8 (padded name)))

at_key : (x y : ShortKey) → is_at (short_cmp x) y ≡ ((x.directory == y.directory) && ((x.first == y.first) && ((x.second == y.second) && (x.last == y.last))))
at_key x y = grind (arith, nat_tests)

at_itself : (x : ShortKey) → is_at (short_cmp x) x ≡ true
at_itself x = at_key x x ∙ rw (eq-eqb x.directory x.directory refl, eq-eqb x.first x.first refl, eq-eqb x.second x.second refl, eq-eqb x.last x.last refl) refl

pub short_same : (d0 d : ℕ) (n0 n : List ℕ) → length n0 ≤ 23 → length n ≤ 23 → IsBytes n0 → IsBytes n
    → is_at (short_cmp (short_key d0 n0)) (short_key d n) ≡ ((d0 == d) && bytes_eq n0 n)
short_same d0 d n0 n short0 short is0 is = elim (cases_Bool ((d0 == d) && bytes_eq n0 n)) [
  | inl same ↦ (let parts = and_parts (d0 == d) (bytes_eq n0 n) same in
      let de : d0 ≡ d = eqb-true d0 d parts.0 in
      let ne : n0 ≡ n = (bytes_eq-Decides n0 n).0 parts.1 in
      ap (λ e. is_at (short_cmp (short_key e n0)) (short_key d n)) de ∙ ap (λ m. is_at (short_cmp (short_key d m)) (short_key d n)) ne ∙ at_itself (short_key d n) ∙ sym same)
  | inr other ↦ elim (cases_Bool (is_at (short_cmp (short_key d0 n0)) (short_key d n))) [
    | inl found ↦ (let x = short_key d0 n0 in
        let y = short_key d n in
        let all = and_parts (x.directory == y.directory) _ (sym (at_key x y) ∙ found) in
        let behind = and_parts (x.first == y.first) _ all.1 in
        let last = and_parts (x.second == y.second) _ behind.1 in
        let names : n0 ≡ n = words_same n0 n short0 short is0 is (eqb-true x.first y.first behind.0) (eqb-true x.second y.second last.0) (eqb-true x.last y.last last.1) in
        let t : ((d0 == d) && bytes_eq n0 n) ≡ true = rw all.0 ((bytes_eq-Decides n0 n).1 names) in
        absurd (false≢true (sym other ∙ t)))
    | inr differ ↦ differ ∙ sym other
  ]
]

-- a name written to the front of zeros, and its length behind them
pub set_last : (name : List ℕ) → length name ≤ 23 → set (name ++ drop (length name) (replicate 24 0)) 23 (length name) ≡ padded name
set_last name short = ap (λ back. set (name ++ back) 23 (length name)) (drop-replicate (length name) 24 0)
    ∙ same_lists (set zeroed 23 (length name)) (padded name) (lengths ∙ sym (length-padded name short)) (λ k d lt. at k d (omega (arith, lengths, lt)))
  where
    zeroed : List ℕ
    zeroed = name ++ replicate (24 - length name) 0

    long : length zeroed ≡ 24
    long = omega (arith, length-append name (replicate (24 - length name) 0), length-replicate {A = ℕ} (24 - length name) 0)

    lengths : length (set zeroed 23 (length name)) ≡ 24
    lengths = length-set zeroed 23 (length name) ∙ long

    behind : (k d : ℕ) → length name ≤ k → k < 23 → get_or zeroed k d ≡ get_or (padded name) k d
    behind k d le lt =
        let i = k - length name in
        let in_zeros : i < 23 - length name = omega arith in
        get_or-append_right name (replicate (24 - length name) 0) (length name) k d refl le
        ∙ get_or-replicate {A = ℕ} (24 - length name) i 0 d (omega arith)
        ∙ sym (get_or-append_right name (replicate (23 - length name) 0 ++ length name ∷ []) (length name) k d refl le
        ∙ get_or_append_left (replicate (23 - length name) 0) (length name ∷ []) d i (rw (length-replicate {A = ℕ} (23 - length name) 0) in_zeros)
        ∙ get_or-replicate {A = ℕ} (23 - length name) i 0 d in_zeros)

    at : (k d : ℕ) → k < 24 → get_or (set zeroed 23 (length name)) k d ≡ get_or (padded name) k d
    at k d lt = elim (cases_eq k 23) [
      | inl here ↦ rw here (get_or-set_same zeroed 23 (length name) d (omega (arith, long)) ∙ sym (padded_last name short d))
      | inr other ↦ get_or-set_other zeroed 23 k (length name) d other ∙ (elim (cases_lt k (length name)) [
        | inl in_name ↦ get_or_append_left name (replicate (24 - length name) 0) d k in_name ∙ sym (get_or_append_left name (replicate (23 - length name) 0 ++ length name ∷ []) d k in_name)
        | inr past ↦ behind k d past (omega (arith, other))
      ])
    ]
