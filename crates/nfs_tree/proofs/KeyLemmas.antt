-- What a change of either map of names leaves at each name in each directory.
use Rattle.std.proofs.Common.{◌≡◌, ℕ, ◌<◌, ◌≤◌, ◌^◌, Bool, true, false, cond, List, length, take, drop, Option, refl, sym, ◌∙◌, ap, inl, inr}
use Rattle.std.proofs.{lemmas.Bool.{cases_Bool, eq-eqb, eqb-true, and_parts, false≢true, leb-true, le-leb, lt-leb}, lemmas.Cmp.nat_list_cmp_total}
use Rattle.std.proofs.{lemmas.Map.Text.is_eq-slice_cmp, lemmas.Nat.from_be_bytes-to_be_bytes_8, lemmas.Slice.Eq.bytes_eq-Decides}
use Rattle.std.proofs.lemmas.List.{take_at, drop_at}
use Rattle.std.specs.{Prelude.{◌==◌, ◌&&◌, nat_le, bytes_eq}, Int.{to_be_bytes, from_be_bytes, w64}, Ordering.{nat_cmp, is_eq, eq_by_cmp}, Cmp.eq_by_cmp_equiv}
use Rattle.std.specs.{Cmp.Lexicographic.slice_cmp, BTreeMap.{BTreeMap, is_at, Updates, UpdatesBy}, Map.{lookup, KeepsOthers, IsKeyTest, AreApart}}
use Rattle.nfs_xdr.specs.Text.{IsBytes}
use Rattle.nfs_tree.specs.{declared.by_name.ShortKey.ShortKey, ByName.{key_of, spelled_at, short_key, short_cmp, cookie_at, NamesAnew}}
use Rattle.nfs_tree.proofs.ShortKeys.{short_same}

spells : (d0 d : ℕ) (n0 n : List ℕ) → d0 < 2 ^ 64 → d < 2 ^ 64 → key_of d0 n0 ≡ key_of d n → (d0 ≡ d) × (n0 ≡ n)
spells d0 d n0 n few0 few e =
    let front : to_be_bytes w64 d0 ≡ to_be_bytes w64 d = sym (take_at (to_be_bytes w64 d0) n0 8 refl) ∙ ap (take 8) e ∙ take_at (to_be_bytes w64 d) n 8 refl in
    let back : n0 ≡ n = sym (drop_at (to_be_bytes w64 d0) n0 8 refl) ∙ ap (drop 8) e ∙ drop_at (to_be_bytes w64 d) n 8 refl in
    (sym (from_be_bytes-to_be_bytes_8 d0 few0) ∙ ap (from_be_bytes w64) front ∙ from_be_bytes-to_be_bytes_8 d few, back)

key_same : (d0 d : ℕ) (n0 n : List ℕ) → d0 < 2 ^ 64 → d < 2 ^ 64 → bytes_eq (key_of d0 n0) (key_of d n) ≡ ((d0 == d) && bytes_eq n0 n)
key_same d0 d n0 n few0 few = elim (cases_Bool ((d0 == d) && bytes_eq n0 n)) [
  | inl same ↦ (let parts = and_parts (d0 == d) (bytes_eq n0 n) same in
      let de : d0 ≡ d = eqb-true d0 d parts.0 in
      let ne : n0 ≡ n = (bytes_eq-Decides n0 n).0 parts.1 in
      (bytes_eq-Decides (key_of d0 n0) (key_of d n)).1 (ap (λ d. key_of d n0) de ∙ ap (key_of d) ne) ∙ sym same)
  | inr other ↦ elim (cases_Bool (bytes_eq (key_of d0 n0) (key_of d n))) [
    | inl spelled ↦ (let parts = spells d0 d n0 n few0 few ((bytes_eq-Decides (key_of d0 n0) (key_of d n)).0 spelled) in
        let t : ((d0 == d) && bytes_eq n0 n) ≡ true = rw (eq-eqb d0 d parts.0) ((bytes_eq-Decides n0 n).1 parts.1) in
        absurd (false≢true (sym other ∙ t)))
    | inr differ ↦ differ ∙ sym other
  ]
]

module _ {K : Type 0} (bytes : K → List ℕ) where
  others : (test : K → Bool) (old new : List (K × ℕ)) → KeepsOthers (eq_by_cmp (λ x y. slice_cmp nat_cmp (bytes x) (bytes y))) test old new
      → (other : K → Bool) → IsKeyTest (eq_by_cmp (λ x y. slice_cmp nat_cmp (bytes x) (bytes y))) other → AreApart test other → lookup other new ≡ lookup other old
  unfolding KeepsOthers
  others test old new h = h

  apart : (bs cs : List ℕ) (k : K) → bytes_eq bs cs ≡ false → is_eq (slice_cmp nat_cmp bs (bytes k)) ≡ true → is_eq (slice_cmp nat_cmp cs (bytes k)) ≡ false
  apart bs cs k differ there = is_eq-slice_cmp cs (bytes k) ∙ (elim (cases_Bool (bytes_eq cs (bytes k))) [
    | inl same ↦ (let b : bs ≡ bytes k = (bytes_eq-Decides bs (bytes k)).0 (sym (is_eq-slice_cmp bs (bytes k)) ∙ there) in
        let c : cs ≡ bytes k = (bytes_eq-Decides cs (bytes k)).0 same in
        absurd (false≢true (sym differ ∙ (bytes_eq-Decides bs cs).1 (b ∙ sym c))))
    | inr other ↦ other
  ])

  spelled_after : (m n : BTreeMap K ℕ) (bs : List ℕ) (w : Option ℕ) → UpdatesBy (λ x y. slice_cmp nat_cmp (bytes x) (bytes y)) (λ k. slice_cmp nat_cmp bs (bytes k)) m n w
      → (cs : List ℕ) → spelled_at bytes n.entries cs ≡ cond (bytes_eq bs cs) w (spelled_at bytes m.entries cs)
  spelled_after m n bs w h cs = elim (cases_Bool (bytes_eq bs cs)) [
    | inl same ↦ rw same (ap (spelled_at bytes n.entries) (sym ((bytes_eq-Decides bs cs).0 same)) ∙ h.1)
    | inr other ↦ rw other (others (is_at (λ k. slice_cmp nat_cmp bs (bytes k))) m.entries n.entries h.3 (is_at (λ k. slice_cmp nat_cmp cs (bytes k)))
        (λ x y. (eq_by_cmp_equiv nat_list_cmp_total).congr cs (bytes x) (bytes y)) (λ k. apart bs cs k other))
  ]

  -- a name of another length
  apart_names : (d e : ℕ) (name other : List ℕ) → nat_le (length name) 23 ≡ true → nat_le (length other) 23 ≡ false → ((d == e) && bytes_eq name other) ≡ false
  apart_names d e name other short long = elim (cases_Bool ((d == e) && bytes_eq name other)) [
    | inl same ↦ (let is : name ≡ other = (bytes_eq-Decides name other).0 (and_parts (d == e) (bytes_eq name other) same).1 in
        absurd (false≢true (sym long ∙ ap (λ n. nat_le (length n) 23) (sym is) ∙ short)))
    | inr differ ↦ differ
  ]

  apart_back : (d e : ℕ) (name other : List ℕ) → nat_le (length name) 23 ≡ false → nat_le (length other) 23 ≡ true → ((d == e) && bytes_eq name other) ≡ false
  apart_back d e name other long short = elim (cases_Bool ((d == e) && bytes_eq name other)) [
    | inl same ↦ (let is : name ≡ other = (bytes_eq-Decides name other).0 (and_parts (d == e) (bytes_eq name other) same).1 in
        absurd (false≢true (sym long ∙ ap (λ n. nat_le (length n) 23) is ∙ short)))
    | inr differ ↦ differ
  ]

  -- the map of short names changes
  pub short_after : (m n : BTreeMap ShortKey ℕ) (long : List (K × ℕ)) (d : ℕ) (name : List ℕ) (w : Option ℕ) → length name ≤ 23 → IsBytes name
      → Updates short_cmp m n (short_key d name) w → NamesAnew (cookie_at bytes m.entries long) (cookie_at bytes n.entries long) d name w
  short_after m n long d name w short is updates = λ e other few are. (elim (cases_Bool (nat_le (length other) 23)) [
    | inl fits ↦ rw fits (updates.0 (short_key e other)
        ∙ ap (λ b. cond b w (lookup (is_at (short_cmp (short_key e other))) m.entries)) (short_same d e name other short (leb-true _ _ fits) is are))
    | inr past ↦ rw (past, apart_names d e name other (le-leb _ _ short) past) refl
  ])

  -- the map of long ones does
  pub long_after : (short : List (ShortKey × ℕ)) (m n : BTreeMap K ℕ) (d : ℕ) (name : List ℕ) (w : Option ℕ) → 23 < length name → d < 2 ^ 64
      → UpdatesBy (λ x y. slice_cmp nat_cmp (bytes x) (bytes y)) (λ k. slice_cmp nat_cmp (key_of d name) (bytes k)) m n w
      → NamesAnew (cookie_at bytes short m.entries) (cookie_at bytes short n.entries) d name w
  long_after short m n d name w long low updates = λ e other few are. (elim (cases_Bool (nat_le (length other) 23)) [
    | inl fits ↦ rw (fits, apart_back d e name other (lt-leb _ _ long) fits) refl
    | inr past ↦ rw past (spelled_after m n (key_of d name) w updates (key_of e other)
        ∙ ap (λ b. cond b w (spelled_at bytes m.entries (key_of e other))) (key_same d e name other low few))
  ])

  -- where a name is looked up
  pub at_short : (short : List (ShortKey × ℕ)) (long : List (K × ℕ)) (d : ℕ) (name : List ℕ) → length name ≤ 23
      → cookie_at bytes short long d name ≡ lookup (is_at (short_cmp (short_key d name))) short
  at_short short long d name fits = rw (le-leb _ 23 fits) refl

  pub at_long : (short : List (ShortKey × ℕ)) (long : List (K × ℕ)) (d : ℕ) (name : List ℕ) → 23 < length name
      → cookie_at bytes short long d name ≡ spelled_at bytes long (key_of d name)
  at_long short long d name past = rw (lt-leb _ 23 past) refl
