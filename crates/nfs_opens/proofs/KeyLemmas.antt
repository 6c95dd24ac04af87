-- Owners on files in their order: where each stands, whose a number is, and what an owner has by the first of its number.
use Rattle.std.proofs.Common.{◌≡◌, ◌≢◌, ℕ, suc, ◌+◌, ◌*◌, ◌^◌, ◌<◌, ◌≤◌, Bool, true, false, List, [], ◌∷◌, length, Some, None, refl, sym, ◌∙◌, ap, arith, inl, inr}
use Rattle.std.proofs.lemmas.Bool.{cases_Bool, cases_lt, eq-eqb, ne_eqb, eqb-true, lt-ltb, le-ltb, and_parts, false≢true}
use Rattle.std.specs.{Prelude.{◌==◌, ◌&&◌, nat_lt, find, bytes_eq}, List.fold, Ordering.{nat_cmp, ordering_then}, declared.cmp.Ordering.Ordering}
use Rattle.std.specs.{declared.cmp.Ordering.TheVariants.{Less, Equal, Greater}, Cmp.Lexicographic.slice_cmp}
use Rattle.nfs_xdr.specs.Text.{IsBytes}
use Rattle.nfs_xdr.proofs.Lists.{find_none, none_in}
use Rattle.nfs_opens.proofs.ShareLemmas.{owner_bytes, same_bytes}
use Rattle.nfs_opens.specs.Keys.{digit, spelled, on_file_of, owner_key}

-- The first of a key, where it passes a test that those of the key alone pass.

module _ {X : Type 0} (key : X → ℕ) (q : X → Bool) (k : ℕ) (only : (x : X) → q x ≡ true → key x ≡ k) where
  pub found_by : (xs : List X) (x : X) → find (λ y. key y == k) xs ≡ Some x → q x ≡ true → find q xs ≡ Some x
  found_by [] x e passes = absurd cc
  found_by (y ∷ ys) x e passes =
      elim (cases_Bool (q y)) [
        | inl here ↦ (let keyed : (key y == k) ≡ true = eq-eqb (key y) k (only y here) in let first : Some y ≡ Some x = rw keyed at e in rw here first)
        | inr gone ↦ elim (cases_Bool (key y == k)) [
          | inl keyed ↦ (let first : Some y ≡ Some x = rw keyed at e in let same : y ≡ x = cc in absurd (false≢true (sym gone ∙ (ap q same ∙ passes))))
          | inr other ↦ rw gone (found_by ys x (rw other at e) passes)
        ]
      ]

  pub none_by : (xs : List X) → find (λ y. key y == k) xs ≡ None → find q xs ≡ None
  none_by xs none = find_none q xs (λ y there.
      elim (cases_Bool (q y)) [
        | inl here ↦ absurd (false≢true (sym (none_in (λ y. key y == k) xs y none there) ∙ eq-eqb (key y) k (only y here)))
        | inr gone ↦ gone
      ])

-- Numbers compared.

pub cmp_less : (x y : ℕ) → x < y → nat_cmp x y ≡ Less
cmp_less x y low = let lower : nat_lt x y ≡ true = lt-ltb x y low in rw lower refl

pub cmp_equal : (x y : ℕ) → x ≡ y → nat_cmp x y ≡ Equal
cmp_equal x y same =
    let not_lower : nat_lt x y ≡ false = le-ltb x y (omega arith) in let here : (x == y) ≡ true = eq-eqb x y same in rw (not_lower, here) refl

pub cmp_greater : (x y : ℕ) → y < x → nat_cmp x y ≡ Greater
cmp_greater x y high =
    let not_lower : nat_lt x y ≡ false = le-ltb x y (omega arith) in
    let other : (x == y) ≡ false = ne_eqb x y (λ e. absurd (omega arith)) in rw (not_lower, other) refl

-- The bytes of owners.

rest_bytes : (x : ℕ) (xs : List ℕ) → IsBytes (x ∷ xs) → IsBytes xs
rest_bytes x xs small = record { each = λ i. small.each (suc i) }

-- no more digits behind a lower number make a lower one
lower : (j k : ℕ) (xs ys : List ℕ) → IsBytes xs → j < k → length xs ≤ length ys → fold digit j xs < fold digit k ys
lower j k [] [] small less le = less
lower j k [] (y ∷ ys) small less le = lower j (digit k y) [] ys small (omega arith) (omega arith)
lower j k (x ∷ xs) [] small less le = absurd (omega arith)
lower j k (x ∷ xs) (y ∷ ys) small less le =
    let byte : x < 256 = small.each 0 in lower (digit j x) (digit k y) xs ys (rest_bytes x xs small) (omega arith) (omega arith)

shorter : (xs ys : List ℕ) → IsBytes xs → length xs < length ys → fold digit 1 xs < fold digit 1 ys
shorter xs [] small less = absurd (omega arith)
shorter xs (y ∷ ys) small less = lower 1 (digit 1 y) xs ys small (omega arith) (omega arith)

alike : (k : ℕ) (xs ys : List ℕ) → IsBytes xs → IsBytes ys → length xs ≡ length ys → slice_cmp nat_cmp xs ys ≡ nat_cmp (fold digit k xs) (fold digit k ys)
alike k [] [] small_x small_y same = sym (cmp_equal k k refl)
alike k [] (y ∷ ys) small_x small_y same = absurd (omega arith)
alike k (x ∷ xs) [] small_x small_y same = absurd (omega arith)
alike k (x ∷ xs) (y ∷ ys) small_x small_y same =
    let tails_x = rest_bytes x xs small_x in
    let tails_y = rest_bytes y ys small_y in
    elim (cases_lt x y) [
      | inl low ↦ ap (λ (o : Ordering). ordering_then o (slice_cmp nat_cmp xs ys)) (cmp_less x y low)
          ∙ sym (cmp_less (fold digit (digit k x) xs) (fold digit (digit k y) ys) (lower (digit k x) (digit k y) xs ys tails_x (omega arith) (omega arith)))
      | inr not_low ↦ elim (cases_lt y x) [
        | inl high ↦ ap (λ (o : Ordering). ordering_then o (slice_cmp nat_cmp xs ys)) (cmp_greater x y high)
            ∙ sym (cmp_greater (fold digit (digit k x) xs) (fold digit (digit k y) ys) (lower (digit k y) (digit k x) ys xs tails_y (omega arith) (omega arith)))
        | inr not_high ↦ (let is : x ≡ y = omega arith in
            ap (λ (o : Ordering). ordering_then o (slice_cmp nat_cmp xs ys)) (cmp_equal x y is)
            ∙ (alike (digit k x) xs ys tails_x tails_y (omega arith) ∙ ap (λ (n : ℕ). nat_cmp (fold digit (digit k x) xs) (fold digit (digit k n) ys)) is))
      ]
    ]

same_digits : (k : ℕ) (xs ys : List ℕ) → IsBytes xs → IsBytes ys → length xs ≡ length ys → fold digit k xs ≡ fold digit k ys → xs ≡ ys
same_digits k [] [] small_x small_y same e = refl
same_digits k [] (y ∷ ys) small_x small_y same e = absurd (omega arith)
same_digits k (x ∷ xs) [] small_x small_y same e = absurd (omega arith)
same_digits k (x ∷ xs) (y ∷ ys) small_x small_y same e =
    let tails_x = rest_bytes x xs small_x in
    let tails_y = rest_bytes y ys small_y in
    elim (cases_lt x y) [
      | inl low ↦ (let less = lower (digit k x) (digit k y) xs ys tails_x (omega arith) (omega arith) in absurd (omega arith))
      | inr not_low ↦ elim (cases_lt y x) [
        | inl high ↦ (let less = lower (digit k y) (digit k x) ys xs tails_y (omega arith) (omega arith) in absurd (omega arith))
        | inr not_high ↦ (let is : x ≡ y = omega arith in
            let rest = same_digits (digit k x) xs ys tails_x tails_y (omega arith) (e ∙ ap (λ (n : ℕ). fold digit (digit k n) ys) (sym is)) in
            ap (λ (n : ℕ). n ∷ xs) is ∙ ap (λ (zs : List ℕ). y ∷ zs) rest)
      ]
    ]

-- of owners of two lengths the lengths decide
pub by_length : (xs ys : List ℕ) → IsBytes xs → IsBytes ys → length xs ≢ length ys → nat_cmp (spelled xs) (spelled ys) ≡ nat_cmp (length xs) (length ys)
unfolding spelled
by_length xs ys small_x small_y other =
    elim (cases_lt (length xs) (length ys)) [
      | inl low ↦ cmp_less (fold digit 1 xs) (fold digit 1 ys) (shorter xs ys small_x low) ∙ sym (cmp_less (length xs) (length ys) low)
      | inr not_low ↦ elim (cases_lt (length ys) (length xs)) [
        | inl high ↦ cmp_greater (fold digit 1 xs) (fold digit 1 ys) (shorter ys xs small_y high) ∙ sym (cmp_greater (length xs) (length ys) high)
        | inr not_high ↦ absurd (other (omega arith))
      ]
    ]

pub spelled_alike : (xs ys : List ℕ) → IsBytes xs → IsBytes ys → length xs ≡ length ys → slice_cmp nat_cmp xs ys ≡ nat_cmp (spelled xs) (spelled ys)
unfolding spelled
spelled_alike xs ys = alike 1 xs ys

-- no two owners are spelled as one
pub spelled_same : (xs ys : List ℕ) → IsBytes xs → IsBytes ys → spelled xs ≡ spelled ys → xs ≡ ys
unfolding spelled
spelled_same xs ys small_x small_y e =
    elim (cases_lt (length xs) (length ys)) [
      | inl low ↦ (let less = shorter xs ys small_x low in absurd (omega arith))
      | inr not_low ↦ elim (cases_lt (length ys) (length xs)) [
        | inl high ↦ (let less = shorter ys xs small_y high in absurd (omega arith))
        | inr not_high ↦ same_digits 1 xs ys small_x small_y (omega arith) e
      ]
    ]

-- Clients and files.

-- of two clients the clients decide, and of one its files
pub files_of_two : (c f d g : ℕ) → f < 2 ^ 64 → g < 2 ^ 64 → c ≢ d → nat_cmp (on_file_of c f) (on_file_of d g) ≡ nat_cmp c d
files_of_two c f d g small_f small_g other =
    elim (cases_lt c d) [
      | inl low ↦ cmp_less (on_file_of c f) (on_file_of d g) (omega arith) ∙ sym (cmp_less c d low)
      | inr not_low ↦ elim (cases_lt d c) [
        | inl high ↦ cmp_greater (on_file_of c f) (on_file_of d g) (omega arith) ∙ sym (cmp_greater c d high)
        | inr not_high ↦ absurd (other (omega arith))
      ]
    ]

pub files_of_one : (c f d g : ℕ) → c ≡ d → nat_cmp (on_file_of c f) (on_file_of d g) ≡ nat_cmp f g
files_of_one c f d g same =
    elim (cases_lt f g) [
      | inl low ↦ cmp_less (on_file_of c f) (on_file_of d g) (omega arith) ∙ sym (cmp_less f g low)
      | inr not_low ↦ elim (cases_lt g f) [
        | inl high ↦ cmp_greater (on_file_of c f) (on_file_of d g) (omega arith) ∙ sym (cmp_greater f g high)
        | inr not_high ↦ cmp_equal (on_file_of c f) (on_file_of d g) (omega arith) ∙ sym (cmp_equal f g (omega arith))
      ]
    ]

pub in_order : (o p q : Ordering) → ordering_then (ordering_then o p) q ≡ ordering_then o (ordering_then p q)
in_order Less p q = refl
in_order Equal p q = refl
in_order Greater p q = refl

-- the length of an owner, and of one length its bytes
owners_ordered : (xs ys : List ℕ) → IsBytes xs → IsBytes ys
    → ordering_then (nat_cmp (length xs) (length ys)) (slice_cmp nat_cmp xs ys) ≡ nat_cmp (spelled xs) (spelled ys)
owners_ordered xs ys small_x small_y =
    elim (cases_lt (length xs) (length ys)) [
      | inl low ↦ (let is = cmp_less (length xs) (length ys) low in
          ap (λ o. ordering_then o (slice_cmp nat_cmp xs ys)) is ∙ sym (by_length xs ys small_x small_y (λ e. omega arith) ∙ is))
      | inr not_low ↦ elim (cases_lt (length ys) (length xs)) [
        | inl high ↦ (let is = cmp_greater (length xs) (length ys) high in
            ap (λ o. ordering_then o (slice_cmp nat_cmp xs ys)) is ∙ sym (by_length xs ys small_x small_y (λ e. omega arith) ∙ is))
        | inr not_high ↦ ap (λ o. ordering_then o (slice_cmp nat_cmp xs ys)) (cmp_equal (length xs) (length ys) (omega arith))
            ∙ spelled_alike xs ys small_x small_y (omega arith)
      ]
    ]

-- the client, and of one client the file
files_ordered : (c f d g : ℕ) → f < 2 ^ 64 → g < 2 ^ 64 → ordering_then (nat_cmp c d) (nat_cmp f g) ≡ nat_cmp (on_file_of c f) (on_file_of d g)
files_ordered c f d g small_f small_g =
    elim (cases_lt c d) [
      | inl low ↦ (let is = cmp_less c d low in
          ap (λ o. ordering_then o (nat_cmp f g)) is ∙ sym (files_of_two c f d g small_f small_g (λ e. omega arith) ∙ is))
      | inr not_low ↦ elim (cases_lt d c) [
        | inl high ↦ (let is = cmp_greater c d high in
            ap (λ o. ordering_then o (nat_cmp f g)) is ∙ sym (files_of_two c f d g small_f small_g (λ e. omega arith) ∙ is))
        | inr not_high ↦ ap (λ o. ordering_then o (nat_cmp f g)) (cmp_equal c d (omega arith)) ∙ sym (files_of_one c f d g (omega arith))
      ]
    ]

-- Owners on files.

cmp_says_less : (x y : ℕ) → nat_cmp x y ≡ Less → x < y
cmp_says_less x y e = grind arith

cmp_says_equal : (x y : ℕ) → nat_cmp x y ≡ Equal → x ≡ y
cmp_says_equal x y e = grind arith

cmp_says_greater : (x y : ℕ) → nat_cmp x y ≡ Greater → y < x
cmp_says_greater x y e = grind arith

module _ (f c : ℕ) (xs : List ℕ) (g d : ℕ) (ys : List ℕ) (small_f : f < 2 ^ 64) (small_c : c < 2 ^ 64) (small_g : g < 2 ^ 64) (small_d : d < 2 ^ 64) where
  pub key_less : nat_cmp (spelled xs) (spelled ys) ≡ Less → nat_cmp (owner_key f c xs) (owner_key g d ys) ≡ Less
  unfolding owner_key
  key_less e = let low = cmp_says_less (spelled xs) (spelled ys) e in cmp_less (spelled xs * 2 ^ 128 + on_file_of c f) (spelled ys * 2 ^ 128 + on_file_of d g) (omega arith)

  pub key_greater : nat_cmp (spelled xs) (spelled ys) ≡ Greater → nat_cmp (owner_key f c xs) (owner_key g d ys) ≡ Greater
  unfolding owner_key
  key_greater e = let high = cmp_says_greater (spelled xs) (spelled ys) e in cmp_greater (spelled xs * 2 ^ 128 + on_file_of c f) (spelled ys * 2 ^ 128 + on_file_of d g) (omega arith)

  pub key_equal : nat_cmp (spelled xs) (spelled ys) ≡ Equal → nat_cmp (on_file_of c f) (on_file_of d g) ≡ nat_cmp (owner_key f c xs) (owner_key g d ys)
  unfolding owner_key
  key_equal e =
      let same = cmp_says_equal (spelled xs) (spelled ys) e in
      elim (cases_lt (on_file_of c f) (on_file_of d g)) [
        | inl low ↦ cmp_less (on_file_of c f) (on_file_of d g) low ∙ sym (cmp_less (spelled xs * 2 ^ 128 + on_file_of c f) (spelled ys * 2 ^ 128 + on_file_of d g) (omega arith))
        | inr not_low ↦ elim (cases_lt (on_file_of d g) (on_file_of c f)) [
          | inl high ↦ cmp_greater (on_file_of c f) (on_file_of d g) high ∙ sym (cmp_greater (spelled xs * 2 ^ 128 + on_file_of c f) (spelled ys * 2 ^ 128 + on_file_of d g) (omega arith))
          | inr not_high ↦ cmp_equal (on_file_of c f) (on_file_of d g) (omega arith) ∙ sym (cmp_equal (spelled xs * 2 ^ 128 + on_file_of c f) (spelled ys * 2 ^ 128 + on_file_of d g) (omega arith))
        ]
      ]

  -- the parts of a key in their order
  pub key_ordered : IsBytes xs → IsBytes ys
      → ordering_then (ordering_then (ordering_then (nat_cmp (length xs) (length ys)) (slice_cmp nat_cmp xs ys)) (nat_cmp c d)) (nat_cmp f g)
      ≡ nat_cmp (owner_key f c xs) (owner_key g d ys)
  key_ordered small_x small_y =
      in_order (ordering_then (nat_cmp (length xs) (length ys)) (slice_cmp nat_cmp xs ys)) (nat_cmp c d) (nat_cmp f g)
      ∙ ap (λ o. ordering_then o (ordering_then (nat_cmp c d) (nat_cmp f g))) (owners_ordered xs ys small_x small_y)
      ∙ by_owners (nat_cmp (spelled xs) (spelled ys)) refl
    where
      by_owners : (o : Ordering) → nat_cmp (spelled xs) (spelled ys) ≡ o
          → ordering_then o (ordering_then (nat_cmp c d) (nat_cmp f g)) ≡ nat_cmp (owner_key f c xs) (owner_key g d ys)
      by_owners Less e = sym (key_less e)
      by_owners Equal e = files_ordered c f d g small_f small_g ∙ key_equal e
      by_owners Greater e = sym (key_greater e)

  -- no two have one number
  pub key_same : IsBytes xs → IsBytes ys → owner_key f c xs ≡ owner_key g d ys → (f ≡ g) × (c ≡ d) × (xs ≡ ys)
  unfolding owner_key
  key_same small_x small_y e =
      let owners : spelled xs ≡ spelled ys = omega arith in
      let clients : c ≡ d = omega arith in
      (omega arith, clients, spelled_same xs ys small_x small_y owners)

  pub key_is : IsBytes xs → IsBytes ys → (owner_key f c xs == owner_key g d ys) ≡ ((f == g) && ((c == d) && bytes_eq xs ys))
  key_is small_x small_y =
      elim (cases_Bool (owner_key f c xs == owner_key g d ys)) [
        | inl same ↦ (let (files, clients, owners) = key_same small_x small_y (eqb-true (owner_key f c xs) (owner_key g d ys) same) in
            let on : (f == g) ≡ true = eq-eqb f g files in
            let of : (c == d) ≡ true = eq-eqb c d clients in
            let by : bytes_eq xs ys ≡ true = ap (λ (zs : List ℕ). bytes_eq zs ys) owners ∙ same_bytes ys in
            same ∙ sym (rw (on, of, by) refl))
        | inr other ↦ elim (cases_Bool ((f == g) && ((c == d) && bytes_eq xs ys))) [
          | inr apart ↦ other ∙ sym apart
          | inl all ↦ absurd (let rest = and_parts (f == g) ((c == d) && bytes_eq xs ys) all in
              let parts = and_parts (c == d) (bytes_eq xs ys) rest.1 in
              false≢true (sym other ∙ eq-eqb (owner_key f c xs) (owner_key g d ys)
              (ap (λ (n : ℕ). owner_key n c xs) (eqb-true f g rest.0)
              ∙ (ap (λ (n : ℕ). owner_key g n xs) (eqb-true c d parts.0) ∙ ap (owner_key g d) (owner_bytes xs ys parts.1)))))
        ]
      ]
