-- Intervals in blocks: which block and which place in it, and what an edit leaves of them.
use Rattle.std.proofs.Common.{◌≡◌, ℕ, zero, suc, ◌-◌, ◌<◌, ◌≤◌, min, Bool, true, false, ◌==◌, List, [], ◌∷◌, ◌++◌, take, drop, set, length, get_or}
use Rattle.std.proofs.Common.{Option, Some, None, refl, sym, ◌∙◌, ap, subst, arith, inl, inr, append_assoc}
use Rattle.std.proofs.{lemmas.Bool.{cases_Bool, ne_eqb}, lemmas.List.{append-nil, drop_min, set_split, set-get_or, take-append-drop}}
use Rattle.std.specs.{Option.option_to_list, Prelude.{slice_get, if◌then◌else◌}, List.{insert, remove}, List.Sorted.IsPartitionedBy}
use Rattle.nfs_ranges.specs.{declared.interval.Interval.Interval, declared.blocks.Place.Place, declared.blocks.Parts.Parts, declared.edits.Edit.Edit}
use Rattle.nfs_ranges.specs.{Intervals.{AreFrom, IsCanonical}, Owners.is_empty, Edits.{lead, head}}
use Rattle.nfs_ranges.specs.Blocks.{flat, last_of, last_end, AreSome, AreBlocks, spot, block_at, IsPlace, spliced, IsSomeIn, ArePartsOf}
use Rattle.nfs_ranges.proofs.{EditLemmas.from_later, RiseLemmas.{Lower, Rises, rising_parted}}

-- lists of blocks
pub flat-append : {X : Type 0} (bs cs : List (List X)) → flat (bs ++ cs) ≡ flat bs ++ flat cs
flat-append [] cs = refl
flat-append (b ∷ bs) cs = ap (λ t. b ++ t) (flat-append bs cs) ∙ sym (append_assoc b (flat bs) (flat cs))

-- one block in the place of another, and what stands round it
pub flat_set : {X : Type 0} (bs : List (List X)) (i : ℕ) (b : List X) → i < length bs → flat (set bs i b) ≡ flat (take i bs) ++ (b ++ flat (drop (suc i) bs))
flat_set bs i b lt = ap flat (set_split bs i b lt) ∙ flat-append (take i bs) (b ∷ drop (suc i) bs)

pub flat_at : {X : Type 0} (bs : List (List X)) (i : ℕ) (b : List X) → i < length bs → b ≡ get_or bs i b
    → flat bs ≡ flat (take i bs) ++ (b ++ flat (drop (suc i) bs))
flat_at bs i b lt at = ap flat (sym (ap (set bs i) at ∙ set-get_or bs i b)) ∙ flat_set bs i b lt

-- one more block behind another, and one that goes
pub flat_split : {X : Type 0} (bs : List (List X)) (i : ℕ) (b c : List X) → i < length bs
    → flat (insert (set bs i b) (suc i) c) ≡ flat (take i bs) ++ ((b ++ c) ++ flat (drop (suc i) bs))
flat_split [] i b c lt = absurd (omega arith)
flat_split (d ∷ bs) zero b c lt = sym (append_assoc b c (flat bs))
flat_split (d ∷ bs) (suc i) b c lt =
    ap (λ ps. d ++ ps) (flat_split bs i b c (omega arith)) ∙ sym (append_assoc d (flat (take i bs)) ((b ++ c) ++ flat (drop (suc i) bs)))

pub flat_remove : {X : Type 0} (bs : List (List X)) (i : ℕ) → i < length bs → flat (remove bs i) ≡ flat (take i bs) ++ flat (drop (suc i) bs)
flat_remove [] i lt = absurd (omega arith)
flat_remove (d ∷ bs) zero lt = refl
flat_remove (d ∷ bs) (suc i) lt = ap (λ ps. d ++ ps) (flat_remove bs i (omega arith)) ∙ sym (append_assoc d (flat (take i bs)) (flat (drop (suc i) bs)))

-- no block is empty
pub some_set : {X : Type 0} (bs : List (List X)) (i : ℕ) (b : List X) → AreSome bs → is_empty b ≡ false → AreSome (set bs i b)
some_set [] i b some e = tt
some_set (c ∷ bs) zero b some e = (e, some.1)
some_set (c ∷ bs) (suc i) b some e = (some.0, some_set bs i b some.1 e)

pub some_insert : {X : Type 0} (bs : List (List X)) (i : ℕ) (b : List X) → AreSome bs → is_empty b ≡ false → AreSome (insert bs i b)
some_insert bs zero b some e = (e, some)
some_insert [] (suc i) b some e = (e, tt)
some_insert (c ∷ bs) (suc i) b some e = (some.0, some_insert bs i b some.1 e)

pub some_remove : {X : Type 0} (bs : List (List X)) (i : ℕ) → AreSome bs → AreSome (remove bs i)
some_remove [] zero some = tt
some_remove [] (suc i) some = tt
some_remove (c ∷ bs) zero some = some.1
some_remove (c ∷ bs) (suc i) some = (some.0, some_remove bs i some.1)

pub some-append : {X : Type 0} (bs cs : List (List X)) → AreSome bs → AreSome cs → AreSome (bs ++ cs)
some-append [] cs some more = more
some-append (b ∷ bs) cs some more = (some.0, some-append bs cs some.1 more)

pub some-take : {X : Type 0} (n : ℕ) (bs : List (List X)) → AreSome bs → AreSome (take n bs)
some-take zero bs some = tt
some-take (suc n) [] some = tt
some-take (suc n) (b ∷ bs) some = (some.0, some-take n bs some.1)

pub some-drop : {X : Type 0} (n : ℕ) (bs : List (List X)) → AreSome bs → AreSome (drop n bs)
some-drop zero bs some = some
some-drop (suc n) [] some = tt
some-drop (suc n) (b ∷ bs) some = some-drop n bs some.1

some_option : (o : Option (List Interval)) → IsSomeIn o → AreSome (option_to_list o)
some_option None some = tt
some_option (Some b) some = (some, tt)

-- what stands in a block of intervals in canonical form
rear_from : (low : ℕ) (xs ys : List Interval) → AreFrom low (xs ++ ys) → (from : ℕ) × AreFrom from ys
rear_from low [] ys are = (low, are)
rear_from low (x ∷ xs) ys are = rear_from (suc x.last) xs ys are.4

part_from : (low : ℕ) (xs ys : List Interval) → AreFrom low (xs ++ ys) → AreFrom low xs
part_from low [] ys are = tt
part_from low (x ∷ []) ys are = (are.0, are.1, are.2, refl, tt)
part_from low (x ∷ y ∷ xs) ys are = (are.0, are.1, are.2, are.3, part_from (suc x.last) (y ∷ xs) ys are.4)

block_from : (low : ℕ) (bs : List (List Interval)) (i : ℕ) → AreFrom low (flat bs) → (from : ℕ) × AreFrom from (block_at bs i)
block_from low [] i are = (low, tt)
block_from low (b ∷ bs) zero are = (low, part_from low b (flat bs) are)
block_from low (b ∷ bs) (suc i) are = let rest = rear_from low b (flat bs) are in block_from rest.0 bs i rest.1

pub block_canonical : (bs : List (List Interval)) (i : ℕ) → AreBlocks bs → IsCanonical (block_at bs i)
block_canonical bs i are = let from = block_from 0 bs i are.canonical.from in record { from = from_later 0 from.0 (block_at bs i) (omega arith) from.1 }

pub block_got : {X : Type 0} (bs : List (List X)) (i : ℕ) (b : List X) → i < length bs → b ≡ get_or bs i b → block_at bs i ≡ b
block_got [] i b lt e = absurd (omega arith)
block_got (c ∷ bs) zero b lt e = sym e
block_got (c ∷ bs) (suc i) b lt e = block_got bs i b (omega arith) e

pub got_canonical : (bs : List (List Interval)) (i : ℕ) (b : List Interval) → AreBlocks bs → i < length bs → b ≡ get_or bs i b → IsCanonical b
got_canonical bs i b are lt e = subst IsCanonical (block_got bs i b lt e) (block_canonical bs i are)

-- intervals that are seen as one list
pub blocks_are : (bs : List (List Interval)) (xs : List Interval) → AreSome bs → flat bs ≡ xs → IsCanonical xs → AreBlocks bs
blocks_are bs xs some e is = record { canonical = rw e is; some = some }

pub block_none : {X : Type 0} (bs : List (List X)) (i : ℕ) → length bs ≤ i → block_at bs i ≡ []
block_none [] i le = refl
block_none (b ∷ bs) zero le = absurd (omega arith)
block_none (b ∷ bs) (suc i) le = block_none bs i (omega arith)

pub blocks_drop : (n : ℕ) (bs : List (List Interval)) → AreBlocks bs → AreBlocks (drop n bs)
blocks_drop n bs are = let from = go n 0 bs are.canonical.from in record {
  canonical = record { from = from_later 0 from.0 (flat (drop n bs)) (omega arith) from.1 };
  some = some-drop n bs are.some;
}
  where
    go : (n low : ℕ) (bs : List (List Interval)) → AreFrom low (flat bs) → (from : ℕ) × AreFrom from (flat (drop n bs))
    go zero low bs are = (low, are)
    go (suc n) low [] are = (low, are)
    go (suc n) low (b ∷ bs) are = let rest = rear_from low b (flat bs) are in go n rest.0 bs rest.1

-- the last byte of a block
pub lows : (low : ℕ) (x : Interval) (xs ys : List Interval) → AreFrom low ((x ∷ xs) ++ ys) → (low ≤ (last_of x xs).last) × (x.last ≤ (last_of x xs).last) ×
    AreFrom (suc (last_of x xs).last) ys
lows low x [] ys are = let lo = are.0 in let le = are.1 in (omega arith, omega arith, are.4)
lows low x (y ∷ xs) ys are =
    let lo = are.0 in
    let le = are.1 in
    let rest = lows (suc x.last) y xs ys are.4 in
    let up = rest.0 in
    (omega arith, omega arith, rest.2)

pub lows_block : (low : ℕ) (b ys : List Interval) → is_empty b ≡ false → AreFrom low (b ++ ys) → (low ≤ last_end b) × AreFrom (suc (last_end b)) ys
lows_block low [] ys some are = absurd cc
lows_block low (x ∷ xs) ys some are = let all = lows low x xs ys are in (all.0, all.2)

pub last_got : {X : Type 0} (x z : X) (xs : List X) → Some z ≡ slice_get (x ∷ xs) (length (x ∷ xs) - 1) → z ≡ last_of x xs
last_got x z [] e = cc
last_got x z (y ∷ ys) e =
    let count : length (x ∷ y ∷ ys) - 1 ≡ suc (length (y ∷ ys) - 1) = omega arith in last_got y z ys (e ∙ ap (slice_get (x ∷ y ∷ ys)) count)

pub last_is : (xs : List Interval) (z : Interval) → Some z ≡ slice_get xs (length xs - 1) → z.last ≡ last_end xs
last_is [] z e = absurd cc
last_is (x ∷ xs) z e = ap (λ (t : Interval). t.last) (last_got x z xs e)

ends_rise : (low : ℕ) (bs : List (List Interval)) → AreFrom low (flat bs) → AreSome bs → Rises last_end low bs
ends_rise low [] are some = tt
ends_rise low (b ∷ bs) are some = let here = lows_block low b (flat bs) some.0 are in (here.0, ends_rise (suc (last_end b)) bs here.1 some.1)

pub blocks_parted : (q : ℕ → Bool) → Lower q → (bs : List (List Interval)) → AreBlocks bs → IsPartitionedBy (λ b. q (last_end b)) bs
blocks_parted q lower bs are = rising_parted last_end q lower 0 bs (ends_rise 0 bs are.canonical.from are.some)

-- intervals that all pass, and such of which the last does not
pass_all : (q : ℕ → Bool) → Lower q → (low : ℕ) (x : Interval) (xs ys : List Interval) → AreFrom low ((x ∷ xs) ++ ys) → q (last_of x xs).last ≡ true →
    (take (lead (λ y. q y.last) ((x ∷ xs) ++ ys)) ((x ∷ xs) ++ ys) ≡ (x ∷ xs) ++ take (lead (λ y. q y.last) ys) ys) ×
    (drop (lead (λ y. q y.last) ((x ∷ xs) ++ ys)) ((x ∷ xs) ++ ys) ≡ drop (lead (λ y. q y.last) ys) ys)
pass_all q lower low x [] ys are e = rw e (refl, refl)
pass_all q lower low x (y ∷ xs) ys are e =
    let all = lows low x (y ∷ xs) ys are in
    let here = lower x.last (last_of y xs).last all.1 e in
    let rest = pass_all q lower (suc x.last) y xs ys are.4 e in
    rw here (ap (λ ts. x ∷ ts) rest.0, rest.1)

stops : (q : ℕ → Bool) (x : Interval) (xs ys : List Interval) → q (last_of x xs).last ≡ false →
    (take (lead (λ y. q y.last) ((x ∷ xs) ++ ys)) ((x ∷ xs) ++ ys) ≡ take (lead (λ y. q y.last) (x ∷ xs)) (x ∷ xs)) ×
    (drop (lead (λ y. q y.last) ((x ∷ xs) ++ ys)) ((x ∷ xs) ++ ys) ≡ drop (lead (λ y. q y.last) (x ∷ xs)) (x ∷ xs) ++ ys) ×
    ((z : Interval) × (zs : List Interval) × (drop (lead (λ y. q y.last) (x ∷ xs)) (x ∷ xs) ≡ z ∷ zs))
stops q x [] ys e = rw e (refl, refl, (x, [], refl))
stops q x (y ∷ xs) ys e = elim (cases_Bool (q x.last)) [
  | inl here ↦ (let rest = stops q y xs ys e in rw here (ap (λ ts. x ∷ ts) rest.0, rest.1, rest.2))
  | inr not ↦ rw not (refl, refl, (x, y ∷ xs, refl))
]

abbrev place_in : (ℕ → Bool) → List (List Interval) → ℕ → Place
place_in q bs i = record { block = i; at = lead (λ y. q y.last) (block_at bs i) }

one_block : (q : ℕ → Bool) (b : List Interval) → IsPlace (λ y. q y.last) (b ∷ []) (place_in q (b ∷ []) 0)
one_block q b = record {
  front = ap (λ ys. take (lead (λ y. q y.last) ys) ys) (sym (append-nil b));
  rest = append-nil (drop (lead (λ y. q y.last) b) b) ∙ ap (λ ys. drop (lead (λ y. q y.last) ys) ys) (sym (append-nil b));
  next = ap (λ ys. head (drop (lead (λ y. q y.last) ys) ys)) (sym (append-nil b));
}

in_first : (q : ℕ → Bool) (b : List Interval) (bs : List (List Interval)) → is_empty b ≡ false → q (last_end b) ≡ false →
    IsPlace (λ y. q y.last) (b ∷ bs) (place_in q (b ∷ bs) 0)
in_first q [] bs some e = absurd cc
in_first q (x ∷ xs) bs some e =
    let all = stops q x xs (flat bs) e in
    let is = all.2.2 in
    record { front = sym all.0; rest = sym all.1; next = ap head is ∙ sym (ap head (all.1 ∙ ap (λ ts. ts ++ flat bs) is)) }

further : (q : ℕ → Bool) → Lower q → (low : ℕ) (b : List Interval) (bs : List (List Interval)) (i : ℕ) → is_empty b ≡ false → AreFrom low (flat (b ∷ bs))
    → q (last_end b) ≡ true → IsPlace (λ y. q y.last) bs (place_in q bs i) → IsPlace (λ y. q y.last) (b ∷ bs) (place_in q (b ∷ bs) (suc i))
further q lower low [] bs i some are e place = absurd cc
further q lower low (x ∷ xs) bs i some are e place =
    let both = pass_all q lower low x xs (flat bs) are e in
    record {
      front = append_assoc (x ∷ xs) (flat (take i bs)) (take (lead (λ y. q y.last) (block_at bs i)) (block_at bs i)) ∙
          ap (λ ts. (x ∷ xs) ++ ts) place.front ∙ sym both.0;
      rest = place.rest ∙ sym both.1;
      next = place.next ∙ ap head (sym both.1);
    }

-- the place that is searched for
pub placed : (q : ℕ → Bool) → Lower q → (low : ℕ) (bs : List (List Interval)) → AreFrom low (flat bs) → AreSome bs →
    IsPlace (λ y. q y.last) bs (place_in q bs (spot (λ b. q (last_end b)) bs))
placed q lower low [] are some = record { front = refl; rest = refl; next = refl }
placed q lower low (b ∷ []) are some = one_block q b
placed q lower low (b ∷ c ∷ bs) are some =
    by_test (q (last_end b)) refl (placed q lower (suc (last_end b)) (c ∷ bs) (lows_block low b (flat (c ∷ bs)) some.0 are).1 some.1)
  where
    by_test : (v : Bool) → q (last_end b) ≡ v → IsPlace (λ y. q y.last) (c ∷ bs) (place_in q (c ∷ bs) (spot (λ b. q (last_end b)) (c ∷ bs)))
        → IsPlace (λ y. q y.last) (b ∷ c ∷ bs) (place_in q (b ∷ c ∷ bs) (if v then suc (spot (λ b. q (last_end b)) (c ∷ bs)) else 0))
    by_test true e rest = further q lower low b (c ∷ bs) (spot (λ b. q (last_end b)) (c ∷ bs)) some.0 are e rest
    by_test false e rest = in_first q b (c ∷ bs) some.0 e

pub spot_is : {X : Type 0} (p : List X → Bool) (bs : List (List X)) → min (lead p bs) (length bs - 1) ≡ spot p bs
spot_is p [] = omega arith
spot_is p (b ∷ []) = omega arith
spot_is p (b ∷ c ∷ bs) = elim (cases_Bool (p b)) [
  | inl e ↦ (let rest = spot_is p (c ∷ bs) in rw e (omega arith))
  | inr e ↦ rw e (omega arith)
]

pub lead-le : {X : Type 0} (p q : X → Bool) (xs : List X) → ((x : X) → p x ≡ true → q x ≡ true) → lead p xs ≤ lead q xs
lead-le p q [] h = omega arith
lead-le p q (x ∷ xs) h = elim (cases_Bool (p x)) [
  | inl e ↦ (let rest = lead-le p q xs h in rw (e, h x e) (omega arith))
  | inr e ↦ rw e (omega arith)
]

pub spot-le : {X : Type 0} (p q : List X → Bool) (bs : List (List X)) → ((b : List X) → p b ≡ true → q b ≡ true) → spot p bs ≤ spot q bs
spot-le p q bs h = omega (arith, spot_is p bs, spot_is q bs, lead-le p q bs h)

pub spot-length : {X : Type 0} (p : List X → Bool) (bs : List (List X)) → spot p bs ≤ length bs
spot-length p bs = omega (arith, spot_is p bs)

pub spot_within : {X : Type 0} (p : List X → Bool) (bs : List (List X)) → 0 < length bs → spot p bs < length bs
spot_within p bs some = omega (arith, spot_is p bs)

pub placed_at : (q : ℕ → Bool) → Lower q → (n i : ℕ) (bs : List (List Interval)) → AreBlocks bs → i ≡ min (lead (λ b. q (last_end b)) bs) (length bs - 1) →
    n ≡ lead (λ y. q y.last) (block_at bs i) → IsPlace (λ y. q y.last) bs (record { block = i; at = n })
placed_at q lower n i bs are e f =
    let same = e ∙ spot_is (λ b. q (last_end b)) bs in
    rw (f, same) (placed q lower 0 bs are.canonical.from are.some)

-- an edit, by its parts
pub splice_is : (f a l m r b g c d : List Interval) → f ++ a ≡ c → b ++ g ≡ d → f ++ (a ++ (l ++ (m ++ (r ++ (b ++ g))))) ≡ c ++ (l ++ (m ++ (r ++ d)))
splice_is f a l m r b g c d e1 e2 =
    sym (append_assoc f a (l ++ (m ++ (r ++ (b ++ g))))) ∙ ap (λ t. t ++ (l ++ (m ++ (r ++ (b ++ g))))) e1 ∙ ap (λ t. c ++ (l ++ (m ++ (r ++ t)))) e2

regroup : (a l m r b g : List Interval) → (a ++ (l ++ (m ++ (r ++ b)))) ++ g ≡ a ++ (l ++ (m ++ (r ++ (b ++ g))))
regroup a l m r b g =
    append_assoc a (l ++ (m ++ (r ++ b))) g
    ∙ ap (λ t. a ++ t) (append_assoc l (m ++ (r ++ b)) g
    ∙ ap (λ t. l ++ t) (append_assoc m (r ++ b) g ∙ ap (λ t. m ++ t) (append_assoc r b g)))

pub carried : (e : Edit) (bs new : List (List Interval)) (p : Parts) (v : List Interval) (end : ℕ) →
    v ≡ take e.from.at (block_at bs e.from.block) ++ (option_to_list e.left ++ (option_to_list e.middle ++ (option_to_list e.right ++ drop e.taken (drop e.to.at (block_at bs e.to.block))))) →
    ArePartsOf v p →
    new ≡ take e.from.block bs ++ (option_to_list p.left ++ (option_to_list p.middle ++ (option_to_list p.right ++ drop end bs))) →
    end ≡ min (suc e.to.block) (length bs) → flat new ≡ spliced e bs
carried e bs new p v end edges parts made till =
    let l = option_to_list p.left in
    let m = option_to_list p.middle in
    let r = option_to_list p.right in
    let rest = drop (suc e.to.block) bs in
    let last : drop end bs ≡ rest = ap (λ n. drop n bs) till ∙ drop_min (suc e.to.block) bs in
    ap flat (made ∙ ap (λ t. take e.from.block bs ++ (l ++ (m ++ (r ++ t)))) last)
    ∙ flat-append (take e.from.block bs) (l ++ (m ++ (r ++ rest)))
    ∙ ap (λ t. flat (take e.from.block bs) ++ t) (
    ap flat (ap (λ t. l ++ t) (sym (append_assoc m r rest)) ∙ sym (append_assoc l (m ++ r) rest))
    ∙ flat-append (l ++ (m ++ r)) rest
    ∙ ap (λ t. t ++ flat rest) (parts.whole ∙ edges)
    ∙ regroup (take e.from.at (block_at bs e.from.block)) (option_to_list e.left) (option_to_list e.middle) (option_to_list e.right)
    (drop e.taken (drop e.to.at (block_at bs e.to.block))) (flat rest)
    )

pub carried_some : (bs new : List (List Interval)) (p : Parts) (v : List Interval) (at end : ℕ) → AreSome bs → ArePartsOf v p →
    new ≡ take at bs ++ (option_to_list p.left ++ (option_to_list p.middle ++ (option_to_list p.right ++ drop end bs))) → AreSome new
carried_some bs new p v at end some parts made =
    rw made (some-append (take at bs) _ (some-take at bs some)
    (some-append (option_to_list p.left) _ (some_option p.left parts.some.0)
    (some-append (option_to_list p.middle) _ (some_option p.middle parts.some.1)
    (some-append (option_to_list p.right) _ (some_option p.right parts.some.2) (some-drop end bs some)))))

-- three parts
pub in_three : (xs ys : List Interval) (n m : ℕ) → ys ≡ take n xs → take m ys ++ (drop m ys ++ drop n xs) ≡ xs
in_three xs ys n m e =
    sym (append_assoc (take m ys) (drop m ys) (drop n xs)) ∙ ap (λ t. t ++ drop n xs) (take-append-drop m ys ∙ e) ∙ take-append-drop n xs

pub some_cut : (at : ℕ) (xs : List Interval) → at < length xs → is_empty (drop at xs) ≡ false
some_cut at [] lt = absurd (omega arith)
some_cut zero (x ∷ xs) lt = refl
some_cut (suc at) (x ∷ xs) lt = some_cut at xs (omega arith)

pub some_front : (n : ℕ) (xs : List Interval) → 0 < n → 0 < length xs → is_empty (take n xs) ≡ false
some_front zero xs lt some = absurd (omega arith)
some_front (suc n) [] lt some = absurd (omega arith)
some_front (suc n) (x ∷ xs) lt some = refl

any_of : (k : ℕ) (xs : List Interval) → is_empty (drop k xs) ≡ false → 0 < length xs
any_of zero [] e = absurd cc
any_of (suc k) [] e = absurd cc
any_of k (x ∷ xs) e = omega arith

pub three_parts : (xs ys l m r : List Interval) (n k : ℕ) → ys ≡ take n xs → r ≡ drop n xs → is_empty r ≡ false → l ≡ take k ys → m ≡ drop k ys →
    is_empty m ≡ false → 0 < k → ArePartsOf xs (record { left = Some l; middle = Some m; right = Some r })
three_parts xs ys l m r n k ey er some_r el em some_m lt = record {
  whole = ap (λ t. l ++ (m ++ t)) (append-nil r ∙ er) ∙ ap (λ t. t ++ (m ++ drop n xs)) el ∙ ap (λ t. take k ys ++ (t ++ drop n xs)) em ∙ in_three xs ys n k ey;
  some = (ap is_empty el ∙ some_front k ys lt (any_of k ys (sym (ap is_empty em) ∙ some_m)), some_m, some_r);
}

pub some_length : (xs : List Interval) → 0 < length xs → is_empty xs ≡ false
some_length [] lt = absurd (omega arith)
some_length (x ∷ xs) lt = refl

-- whether there are any
pub no_flat : (bs : List (List Interval)) → AreSome bs → (length bs == 0) ≡ is_empty (flat bs)
no_flat [] some = refl
no_flat ([] ∷ bs) some = absurd (let bad : true ≡ false = some.0 in cc)
no_flat ((x ∷ xs) ∷ bs) some = ne_eqb (suc (length bs)) 0 (λ e. omega arith)
