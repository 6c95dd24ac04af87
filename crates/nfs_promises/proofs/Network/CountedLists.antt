-- Members of a list, and numbers that count up.
use Rattle.std.proofs.Common.{◌≡◌, ◌⊎◌, inl, inr, ℕ, ◌+◌, ◌<◌, ◌≤◌, suc, Bool, cond, List, [], ◌∷◌, ◌++◌, map, length, refl, sym, ◌∙◌, ap, arith}
use Rattle.std.proofs.{lemmas.Bool.{cases_eq, ne_eqb, eq-eqb}, lemmas.List.Sums.sum_by-cons}
use Rattle.std.specs.Prelude.{max, count_by}
use Rattle.nfs_xdr.specs.Tables.{In}
use Rattle.nfs_promises.specs.Network.{Endpoint.Compound, ExactlyOnce.{RanCompound, is_number, top, CountUp, IsPart}}

pub In-front : {X : Type 0} (x : X) (xs ys : List X) → In x xs → In x (xs ++ ys)
In-front x [] ys i = absurd i
In-front x (z ∷ zs) ys (inl e) = inl e
In-front x (z ∷ zs) ys (inr i) = inr (In-front x zs ys i)

pub In-last : {X : Type 0} (xs : List X) (x : X) → In x (xs ++ x ∷ [])
In-last [] x = inl refl
In-last (z ∷ zs) x = inr (In-last zs x)

pub In-push : {X : Type 0} (x : X) (xs : List X) (y : X) → In x (xs ++ y ∷ []) → In x xs ⊎ (x ≡ y)
In-push x [] y (inl e) = inr e
In-push x [] y (inr i) = absurd i
In-push x (z ∷ zs) y (inl e) = inl (inl e)
In-push x (z ∷ zs) y (inr i) = elim (In-push x zs y i) [ inl h ↦ inl (inr h) | inr e ↦ inr e ]

pub In-map : {X Y : Type 0} (f : X → Y) (x : X) (xs : List X) → In x xs → In (f x) (map f xs)
In-map f x [] i = absurd i
In-map f x (z ∷ zs) (inl e) = inl (ap f e)
In-map f x (z ∷ zs) (inr i) = inr (In-map f x zs i)

pub In-map-back : {X Y : Type 0} (f : X → Y) (y : Y) (xs : List X) → In y (map f xs) → (x : X) × In x xs × (f x ≡ y)
In-map-back f y [] i = absurd i
In-map-back f y (z ∷ zs) (inl e) = (z, inl refl, sym e)
In-map-back f y (z ∷ zs) (inr i) = let found = In-map-back f y zs i in (found.0, inr found.1, found.2)

pub append_none : {X : Type 0} (xs : List X) → xs ++ [] ≡ xs
append_none [] = refl
append_none (x ∷ xs) = ap (λ (ys : List _). x ∷ ys) (append_none xs)

pub length_append : {X : Type 0} (xs ys : List X) → length (xs ++ ys) ≡ length xs + length ys
length_append [] ys = omega arith
length_append (x ∷ xs) ys = omega (arith, length_append xs ys)

pub length_push : {X : Type 0} (xs : List X) (x : X) → length (xs ++ x ∷ []) ≡ length xs + 1
length_push [] x = refl
length_push (z ∷ zs) x = omega (arith, length_push zs x)

pub map_push : {X Y : Type 0} (f : X → Y) (xs : List X) (x : X) → map f (xs ++ x ∷ []) ≡ map f xs ++ f x ∷ []
map_push f [] x = refl
map_push f (z ∷ zs) x = ap (λ (ys : List _). f z ∷ ys) (map_push f zs x)

pub map_length : {X Y : Type 0} (f : X → Y) (xs : List X) → length (map f xs) ≡ length xs
map_length f [] = refl
map_length f (x ∷ xs) = ap suc (map_length f xs)

pub CountUp-push : (n : ℕ) (cs : List Compound) (c : Compound) → CountUp n cs → c.number ≡ n + length cs → CountUp n (cs ++ c ∷ [])
CountUp-push n [] c counts e = (omega (arith, e), tt)
CountUp-push n (x ∷ xs) c counts e = (counts.0, CountUp-push (n + 1) xs c counts.1 (omega (arith, e)))

pub CountUp-front : (n : ℕ) (cs ds : List Compound) → CountUp n (cs ++ ds) → CountUp n cs
CountUp-front n [] ds counts = tt
CountUp-front n (x ∷ xs) ds counts = (counts.0, CountUp-front (n + 1) xs ds counts.1)

pub CountUp-last : (n : ℕ) (cs : List Compound) (c : Compound) → CountUp n (cs ++ c ∷ []) → c.number ≡ n + length cs
CountUp-last n [] c counts = omega (arith, counts.0)
CountUp-last n (x ∷ xs) c counts = omega (arith, CountUp-last (n + 1) xs c counts.1)

pub CountUp-bounds : (n : ℕ) (cs : List Compound) (c : Compound) → CountUp n cs → In c cs → (n ≤ c.number) × (c.number < n + length cs)
CountUp-bounds n [] c counts i = absurd i
CountUp-bounds n (x ∷ xs) c counts (inl e) = let same : c.number ≡ n = ap (λ (y : Compound). y.number) e ∙ counts.0 in (omega (arith, same), omega (arith, same))
CountUp-bounds n (x ∷ xs) c counts (inr i) = let b = CountUp-bounds (n + 1) xs c counts.1 i in (omega (arith, b.0), omega (arith, b.1))

-- the highest number

pub top_bounds : (cs : List Compound) (c : Compound) → In c cs → c.number ≤ top cs
top_bounds [] c i = absurd i
top_bounds (x ∷ xs) c (inl e) = let same : c.number ≡ x.number = ap (λ (y : Compound). y.number) e in omega (arith, same)
top_bounds (x ∷ xs) c (inr i) = omega (arith, top_bounds xs c i)

pub top_within : (cs : List Compound) (t : ℕ) → ((c : Compound) → In c cs → c.number ≤ t) → top cs ≤ t
top_within [] t within = omega arith
top_within (x ∷ xs) t within = omega (arith, within x (inl refl), top_within xs t (λ c i. within c (inr i)))

pub top_push : (cs : List Compound) (c : Compound) → top (cs ++ c ∷ []) ≡ max (top cs) c.number
top_push [] c = omega arith
top_push (x ∷ xs) c = omega (arith, top_push xs c)

-- so many numbers that count up are no more than what bounds them
pub CountUp-within : (n : ℕ) (cs : List Compound) (t : ℕ) → CountUp n cs → n ≤ t + 1 → ((c : Compound) → In c cs → c.number ≤ t) → n + length cs ≤ t + 1
CountUp-within n [] t counts outset within = omega (arith, outset)
CountUp-within n (x ∷ xs) t counts outset within =
    let first = within x (inl refl) in
    let number = counts.0 in
    omega (arith, CountUp-within (n + 1) xs t counts.1 (omega (arith, first, number)) (λ c i. within c (inr i)))

pub CountUp-top : (cs : List Compound) → CountUp 1 cs → top cs ≡ length cs
CountUp-top cs counts =
    let high = top_within cs (length cs) (λ c i. (let b = CountUp-bounds 1 cs c counts i in omega (arith, b.1))) in
    let low = CountUp-within 1 cs (top cs) counts (omega arith) (top_bounds cs) in
    omega (arith, high, low)

-- Some of a list, in their order.

pub IsPart-in : {X : Type 0} (x : X) (xs ys : List X) → IsPart xs ys → In x xs → In x ys
IsPart-in x [] ys part i = absurd i
IsPart-in x (z ∷ zs) [] part i = absurd part
IsPart-in x (z ∷ zs) (y ∷ ys) (inl here) (inl e) = inl (e ∙ here.0)
IsPart-in x (z ∷ zs) (y ∷ ys) (inl here) (inr i) = inr (IsPart-in x zs ys here.1 i)
IsPart-in x (z ∷ zs) (y ∷ ys) (inr later) i = inr (IsPart-in x (z ∷ zs) ys later i)

pub IsPart-more : {X : Type 0} (xs ys : List X) (y : X) → IsPart xs ys → IsPart xs (ys ++ y ∷ [])
IsPart-more [] ys y part = tt
IsPart-more (x ∷ xs) [] y part = absurd part
IsPart-more (x ∷ xs) (z ∷ zs) y (inl here) = inl (here.0, IsPart-more xs zs y here.1)
IsPart-more (x ∷ xs) (z ∷ zs) y (inr later) = inr (IsPart-more (x ∷ xs) zs y later)

IsPart-one : {X : Type 0} (x : X) (ys : List X) → In x ys → IsPart (x ∷ []) ys
IsPart-one x [] i = absurd i
IsPart-one x (y ∷ ys) (inl e) = inl (e, tt)
IsPart-one x (y ∷ ys) (inr i) = inr (IsPart-one x ys i)

-- one more, of a higher number than the others
pub IsPart-push : (n : ℕ) (xs ys : List RanCompound) (d : RanCompound) → CountUp n (map (λ d. d.compound) ys) → IsPart xs ys → In d ys
    → ((x : RanCompound) → In x xs → x.compound.number < d.compound.number) → IsPart (xs ++ d ∷ []) ys
IsPart-push n [] ys d counts part i below = IsPart-one d ys i
IsPart-push n (x ∷ xs) [] d counts part i below = absurd part
IsPart-push n (x ∷ xs) (y ∷ ys) d counts part (inl e) below =
    let there = IsPart-in x (x ∷ xs) (y ∷ ys) part (inl refl) in
    let low = CountUp-bounds n (map (λ d. d.compound) (y ∷ ys)) x.compound counts (In-map (λ (d : RanCompound). d.compound) x (y ∷ ys) there) in
    let same : d.compound.number ≡ n = ap (λ (z : RanCompound). z.compound.number) e ∙ counts.0 in
    absurd (omega (arith, low.0, same, below x (inl refl)))
IsPart-push n (x ∷ xs) (y ∷ ys) d counts (inl here) (inr i) below = inl (here.0, IsPart-push (n + 1) xs ys d counts.1 here.1 i (λ z j. below z (inr j)))
IsPart-push n (x ∷ xs) (y ∷ ys) d counts (inr later) (inr i) below = inr (IsPart-push (n + 1) (x ∷ xs) ys d counts.1 later i below)

-- a list has one last element
none_or : {X : Type 0} (x y : X) (ys : List X) → x ∷ [] ≡ y ∷ ys → ys ≡ []
none_or x y ys e = cc

pub last_one : {X : Type 0} (xs ys : List X) (x y : X) → xs ++ x ∷ [] ≡ ys ++ y ∷ [] → x ≡ y
last_one [] [] x y e = cc
last_one [] (b ∷ bs) x y e = absurd (short bs y (none_or x b (bs ++ y ∷ []) e))
  where
    short : {X : Type 0} (xs : List X) (x : X) → xs ++ x ∷ [] ≡ [] → ⊥
    short [] x e = cc
    short (z ∷ zs) x e = cc
last_one (a ∷ rs) [] x y e = absurd (short rs x (none_or y a (rs ++ x ∷ []) (sym e)))
  where
    short : {X : Type 0} (xs : List X) (x : X) → xs ++ x ∷ [] ≡ [] → ⊥
    short [] x e = cc
    short (z ∷ zs) x e = cc
last_one (a ∷ rs) (b ∷ bs) x y e = last_one rs bs x y (rest a b (rs ++ x ∷ []) (bs ++ y ∷ []) e)
  where
    rest : {X : Type 0} (a b : X) (xs ys : List X) → a ∷ xs ≡ b ∷ ys → xs ≡ ys
    rest a b xs ys e = cc

count_yes : (number : ℕ) (x : RanCompound) (xs : List RanCompound) → x.compound.number ≡ number → count_by (is_number number) (x ∷ xs) ≡ 1 + count_by (is_number number) xs
count_yes number x xs same =
    sum_by-cons (λ (d : RanCompound). cond (is_number number d) 1 0) x xs
    ∙ ap (λ (b : Bool). cond b 1 0 + count_by (is_number number) xs) (eq-eqb x.compound.number number same)

count_no : (number : ℕ) (x : RanCompound) (xs : List RanCompound) → (x.compound.number ≡ number → ⊥) → count_by (is_number number) (x ∷ xs) ≡ 0 + count_by (is_number number) xs
count_no number x xs other =
    sum_by-cons (λ (d : RanCompound). cond (is_number number d) 1 0) x xs
    ∙ ap (λ (b : Bool). cond b 1 0 + count_by (is_number number) xs) (ne_eqb x.compound.number number other)

none_below : (n number : ℕ) (ds : List RanCompound) → CountUp n (map (λ d. d.compound) ds) → number < n → count_by (is_number number) ds ≡ 0
none_below n number [] c low = refl
none_below n number (x ∷ xs) c low = omega (arith, count_no number x xs (λ e. omega (arith, e, c.0, low)), none_below (n + 1) number xs c.1 (omega (arith, low)))

pub counted_once : (n number : ℕ) (ds : List RanCompound) → CountUp n (map (λ d. d.compound) ds) → count_by (is_number number) ds ≤ 1
counted_once n number [] c = omega arith
counted_once n number (x ∷ xs) c = elim (cases_eq x.compound.number number) [
  | inl same ↦ omega (arith, count_yes number x xs same, none_below (n + 1) number xs c.1 (omega (arith, same, c.0)))
  | inr other ↦ omega (arith, count_no number x xs other, counted_once (n + 1) number xs c.1)
]
