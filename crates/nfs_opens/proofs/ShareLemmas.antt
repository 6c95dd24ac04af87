-- When two opens do not clash (RFC 8881 section 9.7).
use Rattle.std.proofs.Common.{◌≡◌, inl, inr, ℕ, Bool, true, false, not, ◌&&◌, ◌||◌, List, refl, sym, ◌∙◌, ap, eqb}
use Rattle.std.proofs.{lemmas.Bool.{cases_Bool, eq-eqb, eqb-true, and_parts, false≢true}, lemmas.Slice.Eq.bytes_eq-Decides}
use Rattle.std.specs.Prelude.{bytes_eq}
use Rattle.nfs_opens.specs.{declared.share.Share.Share, declared.records.OpenState.OpenState, Share.{meets, joined, is_part}}
use Rattle.nfs_opens.specs.{Table.{Asked, is_owners, is_own, clashes_with, as_asked}, Opening.{joins, narrows, is_narrower}}

-- of two that meet on no bit
pub record AreApart (access deny : Share) (o : OpenState) : Type 0 where
  pub asked : meets access o.deny ≡ false
  pub denied : meets deny o.access ≡ false

split : (a b c d : Bool) → (a && (not b && (c || d))) ≡ false → a ≡ true → b ≡ false → (c ≡ false) × (d ≡ false)
split true false false false e p q = (refl, refl)
split true false false true e p q = absurd cc
split true false true d e p q = absurd cc
split true true c d e p q = absurd cc
split false b c d e p q = absurd cc

join : (a b c d : Bool) → (a ≡ true → b ≡ false → (c ≡ false) × (d ≡ false)) → (a && (not b && (c || d))) ≡ false
join true false c d h = let parts = h refl refl in rw (parts.0, parts.1) refl
join true true c d h = refl
join false b c d h = refl

pub owner_bytes : (xs ys : List ℕ) → bytes_eq xs ys ≡ true → xs ≡ ys
owner_bytes xs ys e = (bytes_eq-Decides xs ys).0 e

pub same_bytes : (xs : List ℕ) → bytes_eq xs xs ≡ true
same_bytes xs = (bytes_eq-Decides xs xs).1 refl

pub owners_are : (a : Asked) (o : OpenState) → is_owners a o ≡ true → (o.client ≡ a.client) × (o.owner ≡ a.owner)
owners_are a o e = let parts = and_parts _ _ e in (eqb-true _ _ parts.0, owner_bytes o.owner a.owner parts.1)

pub are_owners : (a : Asked) (o : OpenState) → o.client ≡ a.client → o.owner ≡ a.owner → is_owners a o ≡ true
are_owners a o client owner = rw (eq-eqb o.client a.client client) (ap (λ (xs : List ℕ). bytes_eq xs a.owner) owner ∙ same_bytes a.owner)

pub own_is : (a : Asked) (o : OpenState) → is_own a o ≡ true → (o.file ≡ a.file) × (o.client ≡ a.client) × (o.owner ≡ a.owner)
own_is a o e = let parts = and_parts _ _ e in let owners = owners_are a o parts.1 in (eqb-true _ _ parts.0, owners.0, owners.1)

pub peace_of : (a : Asked) (o : OpenState) → clashes_with a o ≡ false → o.file ≡ a.file → is_owners a o ≡ false → AreApart a.access a.deny o
peace_of a o e file other = let parts = split (eqb o.file a.file) (is_owners a o) _ _ e
    (eq-eqb o.file a.file file) other in record { asked = parts.0; denied = parts.1 }

pub at_peace : (a : Asked) (o : OpenState) → (o.file ≡ a.file → is_owners a o ≡ false → AreApart a.access a.deny o) → clashes_with a o ≡ false
at_peace a o h = join (eqb o.file a.file) (is_owners a o) _ _ (λ file other. let apart = h (eqb-true _ _ file) other in (apart.asked, apart.denied))

and_either : (a b : Bool) → (a && b) ≡ (b && a)
and_either true true = refl
and_either true false = refl
and_either false true = refl
and_either false false = refl

pub meets_either : (a b : Share) → meets a b ≡ meets b a
meets_either a b = ap (λ (x : Bool). x || (a.writes && b.writes)) (and_either a.reads b.reads)
    ∙ ap (λ (x : Bool). (b.reads && a.reads) || x) (and_either a.writes b.writes)

-- a clash is one from both sides
pub peace_back : (a b : OpenState) → clashes_with (as_asked b) a ≡ false → clashes_with (as_asked a) b ≡ false
peace_back a b e =
    at_peace (as_asked a) b (λ file other.
    let back : is_owners (as_asked b) a ≡ false = elim (cases_Bool (is_owners (as_asked b) a)) [
      | inl same ↦ (let are = owners_are (as_asked b) a same in absurd (false≢true (sym other ∙ are_owners (as_asked a) b (sym are.0) (sym are.1))))
      | inr is ↦ is
    ] in
    let apart = peace_of (as_asked b) a e (sym file) back in
    record { asked = meets_either a.access b.deny ∙ apart.denied; denied = meets_either a.deny b.access ∙ apart.asked })

pub peace_self : (a : Asked) (o : OpenState) → o.client ≡ a.client → o.owner ≡ a.owner → clashes_with a o ≡ false
peace_self a o client owner = at_peace a o (λ file other. absurd (false≢true (sym other ∙ are_owners a o client owner)))

neither_of : (x y : Bool) → (x || y) ≡ false → (x ≡ false) × (y ≡ false)
neither_of false y e = (refl, e)
neither_of true y e = absurd cc

both_false : (x y : Bool) → x ≡ false → y ≡ false → (x || y) ≡ false
both_false false y e f = f
both_false true y e f = e

bit_joined : (p r t : Bool) → (p && t) ≡ false → (r && t) ≡ false → ((p || r) && t) ≡ false
bit_joined false r t e f = f
bit_joined true r t e f = e

bit_part : (p r t : Bool) → (not p || r) ≡ true → (r && t) ≡ false → (p && t) ≡ false
bit_part false r t e f = refl
bit_part true r t e f = ap (λ (x : Bool). x && t) (sym e) ∙ f

joined_meets : (a b c : Share) → meets a c ≡ false → meets b c ≡ false → meets (joined a b) c ≡ false
joined_meets a b c e f =
    let one = neither_of _ _ e in
    let two = neither_of _ _ f in
    both_false _ _ (bit_joined a.reads b.reads c.reads one.0 two.0) (bit_joined a.writes b.writes c.writes one.1 two.1)

pub part_meets : (a b c : Share) → is_part a b ≡ true → meets b c ≡ false → meets a c ≡ false
part_meets a b c e f =
    let parts = and_parts _ _ e in
    let met = neither_of _ _ f in
    both_false _ _ (bit_part a.reads b.reads c.reads parts.0 met.0) (bit_part a.writes b.writes c.writes parts.1 met.1)

-- what an open and what is asked of it have apart from another open, they have joined
pub joins_apart : (a : Asked) (o b : OpenState) → o.file ≡ a.file → o.client ≡ a.client → o.owner ≡ a.owner → clashes_with (as_asked o) b ≡ false
    → clashes_with a b ≡ false
    → clashes_with (as_asked (joins a o)) b ≡ false
joins_apart a o b file client owner e f =
    at_peace (as_asked (joins a o)) b (λ same other.
    let theirs : is_owners a b ≡ false = ap (λ (n : ℕ). eqb b.client n && bytes_eq b.owner a.owner) (sym client)
    ∙ (ap (λ (xs : List ℕ). eqb b.client o.client && bytes_eq b.owner xs) (sym owner) ∙ other) in
    let one = peace_of (as_asked o) b e same other in
    let two = peace_of a b f (same ∙ file) theirs in
    record { asked = joined_meets o.access a.access b.deny one.asked two.asked; denied = joined_meets o.deny a.deny b.access one.denied two.denied })

-- a narrower open is still apart
pub narrows_apart : (access deny : Share) (o b : OpenState) → is_narrower access deny o ≡ true → clashes_with (as_asked o) b ≡ false
    → clashes_with (as_asked (narrows access deny o)) b ≡ false
narrows_apart access deny o b narrower e =
    at_peace (as_asked (narrows access deny o)) b (λ same other.
    let bits = and_parts _ _ (and_parts _ _ narrower).1 in
    let one = peace_of (as_asked o) b e same other in
    record { asked = part_meets access o.access b.deny bits.0 one.asked; denied = part_meets deny o.deny b.access bits.1 one.denied })
