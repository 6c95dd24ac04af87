-- What is told is the first interval that clashes, of the owner that comes first.
use Rattle.std.proofs.Common.{◌≡◌, ◌≢◌, ℕ, zero, suc, ◌<◌, ◌≤◌, ◌^◌, max, Bool, true, false, cond, eqb, leb, ◌&&◌, List, [], ◌∷◌, drop, length, get_or, Option, ◌+◌, ◌++◌}
use Rattle.std.proofs.{Common.{Some, None, refl, sym, ◌∙◌, ap, subst, arith, inl, inr}, Math.Path.fun_ext, lemmas.List.drop_more}
use Rattle.std.proofs.lemmas.Bool.{cases_lt, cases_Bool, and_parts, and_cases, and_left, and_right, leb-true, and_from, cases_eq, ltb-true, lt-ltb, le-ltb}
use Rattle.std.proofs.lemmas.Bool.{le-leb, lt-leb, eq-eqb, ne_eqb}
use Rattle.std.specs.Prelude.{All, find, not, option_map}
use Rattle.nfs_ranges.specs.{declared.Kind.Kind, declared.interval.Interval.Interval, declared.Held.Held, Intervals.{AreFrom, IsCanonical}, Edits.lead}
use Rattle.nfs_ranges.specs.{Blocks.{flat, last_of, last_end, AreSome, AreBlocks, ends_whole}, Holders.{Holders, Owned, LockedBytes, at, nobody, kind_at}}
use Rattle.nfs_ranges.specs.{Owners.{AreOwners, AreCanonical}, Clashes.{hits, held_by, clash_of, sooner, tell}, Told.{meets, clashes}, Facts.{IsTold, Tells}}
use Rattle.nfs_ranges.proofs.{CanonicalLemmas.{none_below, ends_there, at_above, at_within}, EditLemmas.or_else, BlockLemmas.{lows, lows_block}}
use Rattle.nfs_ranges.proofs.OwnerLemmas.{no_bytes}

-- behind the range nothing clashes, and before it neither
pub none_hit : (k : Kind) (first last low : ℕ) (xs : List Interval) → AreFrom low xs → last < low → find (hits k first last) xs ≡ None
none_hit k first last low [] are lt = refl
none_hit k first last low (x ∷ xs) are lt =
    let lo = are.0 in
    let le = are.1 in
    let miss : hits k first last x ≡ false = and_right (meets k (Some x.kind)) _
    (and_right (leb first x.last) (leb x.first last) (lt-leb x.first last (omega arith))) in
    rw miss (none_hit k first last (suc x.last) xs are.4 (omega arith))

pub none_further : (k : Kind) (first last i : ℕ) (xs : List Interval) (d : Interval) → IsCanonical xs → i < length xs → last < (get_or xs i d).first →
    find (hits k first last) (drop i xs) ≡ None
none_further k first last i xs d are lt over = go i 0 xs are.from lt over
  where
    go : (i low : ℕ) (xs : List Interval) → AreFrom low xs → i < length xs → last < (get_or xs i d).first → find (hits k first last) (drop i xs) ≡ None
    go i low [] are lt over = absurd (omega arith)
    go zero low (x ∷ xs) are lt over = none_hit k first last x.first (x ∷ xs) (omega arith, are.1, are.2, are.3, are.4) over
    go (suc i) low (x ∷ xs) are lt over = go i (suc x.last) xs are.4 (omega arith) over

-- of intervals behind each other
pub find_front : (p : Interval → Bool) (xs ys : List Interval) (x : Interval) → Some x ≡ find p xs → Some x ≡ find p (xs ++ ys)
find_front p [] ys x e = absurd cc
find_front p (z ∷ zs) ys x e = elim (cases_Bool (p z)) [
  | inl here ↦ (let found = rw here at e in rw here found)
  | inr not ↦ (let found = rw not at e in rw not (find_front p zs ys x found))
]

pub find_behind : (p : Interval → Bool) (xs ys : List Interval) → None ≡ find p xs → find p (xs ++ ys) ≡ find p ys
find_behind p [] ys e = refl
find_behind p (z ∷ zs) ys e = elim (cases_Bool (p z)) [
  | inl here ↦ (let found : None ≡ Some z = rw here at e in absurd cc)
  | inr not ↦ (let found = rw not at e in rw not (find_behind p zs ys found))
]

skip_whole : (k : Kind) (first last low : ℕ) (x : Interval) (xs ys : List Interval) → AreFrom low ((x ∷ xs) ++ ys) → (last_of x xs).last < first →
    find (hits k first last) ((x ∷ xs) ++ ys) ≡ find (hits k first last) ys
skip_whole k first last low x [] ys are lt =
    let miss : hits k first last x ≡ false = and_right (meets k (Some x.kind)) _ (and_left (leb first x.last) (leb x.first last) (lt-leb first x.last lt)) in
    rw miss refl
skip_whole k first last low x (y ∷ xs) ys are lt =
    let up = (lows low x (y ∷ xs) ys are).1 in
    let miss : hits k first last x ≡ false = and_right (meets k (Some x.kind)) _ (and_left (leb first x.last) (leb x.first last) (lt-leb first x.last (omega arith))) in
    rw miss (skip_whole k first last (suc x.last) y xs ys are.4 lt)

pub skip_blocks : (k : Kind) (first last low : ℕ) (bs : List (List Interval)) → AreFrom low (flat bs) → AreSome bs →
    find (hits k first last) (flat (drop (lead (ends_whole first) bs) bs)) ≡ find (hits k first last) (flat bs)
skip_blocks k first last low [] are some = refl
skip_blocks k first last low ([] ∷ bs) are some = absurd (let bad : true ≡ false = some.0 in cc)
skip_blocks k first last low ((x ∷ xs) ∷ bs) are some = elim (cases_Bool (ends_whole first (x ∷ xs))) [
  | inl e ↦ (
      let rest = lows low x xs (flat bs) are in
      rw e (skip_blocks k first last (suc (last_of x xs).last) bs rest.2 some.1 ∙
      sym (skip_whole k first last low x xs (flat bs) are (ltb-true (last_of x xs).last first e)))
      )
  | inr e ↦ rw e refl
]

-- one block of them
pub at_block : {X : Type 0} (bs : List (List X)) (i : ℕ) (b : List X) → i < length bs → b ≡ get_or bs i b → flat (drop i bs) ≡ b ++ flat (drop (i + 1) bs)
at_block bs i b lt e = ap flat (drop_more bs i b lt) ∙ ap (λ c. c ++ flat (drop (i + 1) bs)) (sym e)

behind_from : (low : ℕ) (bs : List (List Interval)) (i : ℕ) (b : List Interval) → AreFrom low (flat bs) → AreSome bs → i < length bs → b ≡ get_or bs i b →
    AreFrom (suc (last_end b)) (flat (drop (suc i) bs))
behind_from low [] i b are some lt e = absurd (omega arith)
behind_from low (c ∷ bs) zero b are some lt e = subst (λ (d : List Interval). AreFrom (suc (last_end d)) (flat bs)) (sym e) (lows_block low c (flat bs) some.0 are).1
behind_from low (c ∷ bs) (suc i) b are some lt e = behind_from (suc (last_end c)) bs i b (lows_block low c (flat bs) some.0 are).1 some.1 (omega arith) e

-- no block behind one that ends behind the range
pub none_later : (k : Kind) (first last : ℕ) (bs : List (List Interval)) (i : ℕ) (b : List Interval) → AreBlocks bs → i < length bs → b ≡ get_or bs i b →
    last ≤ last_end b → None ≡ find (hits k first last) b → find (hits k first last) (flat (drop i bs)) ≡ None
none_later k first last bs i b are lt e over none =
    let next : i + 1 ≡ suc i = omega arith in
    ap (find (hits k first last)) (at_block bs i b lt e)
    ∙ find_behind (hits k first last) b (flat (drop (i + 1) bs)) none
    ∙ ap (λ n. find (hits k first last) (flat (drop n bs))) next
    ∙ none_hit k first last (suc (last_end b)) (flat (drop (suc i) bs)) (behind_from 0 bs i b are.canonical.from are.some lt e) (omega arith)

-- a part of the owners, each canonical
abbrev pub AreEach : LockedBytes → Type 0
AreEach = All (λ o. IsCanonical o.intervals)

pub all_canonical : (low : ℕ) (os : LockedBytes) → AreOwners low os → AreEach os
all_canonical low [] are k d lt = absurd (omega arith)
all_canonical low (o ∷ os) are zero d lt = are.2
all_canonical low (o ∷ os) are (suc k) d lt = all_canonical (suc o.number) os are.3 k d (omega arith)

-- one owner is asked, and those behind it are left
pub told_next : (s : ℕ) (k : Kind) (first last i : ℕ) (told next : Option Held) (os : LockedBytes) (o : Owned) (t : Option Held) → i < length os →
    o ≡ get_or os i o → tell s k first last told (drop i os) ≡ t → next ≡ sooner first told (clash_of s k first last o) →
    tell s k first last next (drop (i + 1) os) ≡ t
told_next s k first last i told next os o t lt e is made =
    ap (λ b. tell s k first last b (drop (i + 1) os)) made
    ∙ ap (λ p. tell s k first last (sooner first told (clash_of s k first last p)) (drop (i + 1) os)) e
    ∙ sym (ap (tell s k first last told) (drop_more os i o lt))
    ∙ is

pub one_canonical : (os : LockedBytes) (i : ℕ) (o : Owned) → AreCanonical os → i < length os → o ≡ get_or os i o → IsCanonical o.intervals
one_canonical os i o are lt e = subst (λ (p : Owned). IsCanonical p.intervals) (sym e) (all_canonical 0 os are.from i o lt)

-- what clashes on the first byte of the range stays told
pub stays : (s : ℕ) (k : Kind) (first last : ℕ) (b : Held) (os : LockedBytes) → b.first ≤ first → tell s k first last (Some b) os ≡ Some b
stays s k first last b [] le = refl
stays s k first last b (o ∷ os) le = ap (λ c. tell s k first last c os) (not_sooner (clash_of s k first last o)) ∙ stays s k first last b os le
  where
    not_sooner : (c : Option Held) → sooner first (Some b) c ≡ Some b
    not_sooner None = refl
    not_sooner (Some c) = rw (le-ltb (max c.first first) (max b.first first) (omega arith)) refl

-- groups behind each other
tell-append : (s : ℕ) (k : Kind) (first last : ℕ) (best : Option Held) (os ps : LockedBytes) →
    tell s k first last best (os ++ ps) ≡ tell s k first last (tell s k first last best os) ps
tell-append s k first last best [] ps = refl
tell-append s k first last best (o ∷ os) ps = tell-append s k first last (sooner first best (clash_of s k first last o)) os ps

pub told_group : (s : ℕ) (k : Kind) (first last i : ℕ) (told next : Option Held) (gs : List LockedBytes) (g : LockedBytes) (t : Option Held) → i < length gs →
    g ≡ get_or gs i g → tell s k first last told (flat (drop i gs)) ≡ t → next ≡ tell s k first last told g →
    tell s k first last next (flat (drop (i + 1) gs)) ≡ t
told_group s k first last i told next gs g t lt e is made =
    ap (λ b. tell s k first last b (flat (drop (i + 1) gs))) made
    ∙ sym (tell-append s k first last told g (flat (drop (i + 1) gs)))
    ∙ ap (tell s k first last told) (sym (at_block gs i g lt e))
    ∙ is

-- the first interval of one list that clashes
pub record IsHit (k : Kind) (first last : ℕ) (xs : List Interval) (x : Interval) : Type 0 where
  pub meets_is : meets k (Some x.kind) ≡ true
  pub range : (x.first ≤ x.last) × (x.last < 2 ^ 64)
  pub within : (first ≤ x.last) × (x.first ≤ last)
  pub earliest : (c : ℕ) → first ≤ c → c < max x.first first → meets k (kind_at xs c) ≡ false
  pub held : (c : ℕ) → x.first ≤ c → c ≤ x.last → kind_at xs c ≡ Some x.kind
  pub before : (c : ℕ) → suc c ≡ x.first → kind_at xs c ≢ Some x.kind
  pub behind : kind_at xs (suc x.last) ≢ Some x.kind

abbrev pub HitIs : Kind → ℕ → ℕ → List Interval → Option Interval → Type 0
HitIs k first last xs None = (c : ℕ) → first ≤ c → c ≤ last → meets k (kind_at xs c) ≡ false
HitIs k first last xs (Some x) = IsHit k first last xs x

-- an interval in the range that does not clash is of no such kind
missed : (k : Kind) (first last : ℕ) (y : Interval) (c : ℕ) → hits k first last y ≡ false → first ≤ c → c ≤ last → y.first ≤ c → c ≤ y.last →
    meets k (Some y.kind) ≡ false
missed k first last y c miss lo hi from to = elim (and_cases (meets k (Some y.kind)) (leb first y.last && leb y.first last) miss) [
  | inl e ↦ e
  | inr e ↦ absurd (let both : (leb first y.last && leb y.first last) ≡ true = rw (le-leb first y.last (omega arith), le-leb y.first last (omega arith)) refl in
      let bad : true ≡ false = sym both ∙ e in cc)
]

unmet : (k : Kind) (first last : ℕ) (y : Interval) (ys : List Interval) (low c : ℕ) → AreFrom low (y ∷ ys) → hits k first last y ≡ false → first ≤ c →
    c ≤ last → (y.last < c → meets k (kind_at ys c) ≡ false) → meets k (kind_at (y ∷ ys) c) ≡ false
unmet k first last y ys low c are miss lo hi rest = elim (cases_lt y.last c) [
  | inl over ↦ ap (meets k) (at_above y ys c over) ∙ rest over
  | inr not_over ↦ elim (cases_lt c y.first) [
    | inl below ↦ ap (meets k) (none_below y.first (y ∷ ys) c (omega arith, are.1, are.2, are.3, are.4) below)
    | inr inside ↦ ap (meets k) (at_within y ys c inside not_over) ∙ missed k first last y c miss lo hi inside not_over
  ]
]

pub hit_is : (k : Kind) (first last low : ℕ) (xs : List Interval) → AreFrom low xs → HitIs k first last xs (find (hits k first last) xs)
hit_is k first last low [] are = λ c lo hi. refl
hit_is k first last low (y ∷ ys) are = by_test (hits k first last y) refl (find (hits k first last) ys) (hit_is k first last (suc y.last) ys are.4)
  where
    by_test : (v : Bool) → hits k first last y ≡ v → (r : Option Interval) → HitIs k first last ys r → HitIs k first last (y ∷ ys) (cond v (Some y) r)
    by_test true e r rest =
        let parts = and_parts (meets k (Some y.kind)) (leb first y.last && leb y.first last) e in
        let range = and_parts (leb first y.last) (leb y.first last) parts.1 in
        let le = are.1 in
        record {
          meets_is = parts.0;
          range = (are.1, are.2);
          within = (leb-true first y.last range.0, leb-true y.first last range.1);
          earliest = λ c lo hi. ap (meets k) (none_below y.first (y ∷ ys) c (omega arith, are.1, are.2, are.3, are.4) (omega arith));
          held = λ c lo hi. at_within y ys c lo hi;
          before = λ c next e. let none = none_below y.first (y ∷ ys) c (omega arith, are.1, are.2, are.3, are.4) (omega arith) in let bad : None ≡
              Some y.kind = sym none ∙ e in cc;
          behind = λ e. ends_there y ys are.3 are.4 (sym (at_above y ys (suc y.last) (omega arith)) ∙ e);
        }
    by_test false e None rest = λ c lo hi. unmet k first last y ys low c are e lo hi (λ over. rest c lo hi)
    by_test false e (Some x) rest =
        let le = rest.range.0 in
        let in_range = rest.within.1 in
        let over : y.last < x.first = elim (cases_lt y.last x.first) [
          | inl over ↦ over
          | inr under ↦ absurd (let none = none_below (suc y.last) ys x.first are.4 (omega arith) in let bad : None ≡ Some x.kind = sym none ∙
              rest.held x.first (omega arith) le in cc)
        ] in
        record {
          meets_is = rest.meets_is;
          range = rest.range;
          within = rest.within;
          earliest = λ c lo hi. unmet k first last y ys low c are e lo (omega arith) (λ more. rest.earliest c lo hi);
          held = λ c lo hi. at_above y ys c (omega arith) ∙ rest.held c lo hi;
          before = λ c next same. elim (cases_lt y.last c) [
            | inl more ↦ rest.before c next (sym (at_above y ys c more) ∙ same)
            | inr here ↦ (
                let le' = are.1 in
                let mine : Some y.kind ≡ Some x.kind = sym (at_within y ys c (omega arith) here) ∙ same in
                ends_there y ys are.3 are.4 (rest.held (suc y.last) (omega arith) (omega arith) ∙ sym mine)
                )
          ];
          behind = λ same. rest.behind (sym (at_above y ys (suc x.last) (omega arith)) ∙ same);
        }

-- what is told of one owner
abbrev pub ToldAt : Holders → ℕ → Kind → ℕ → ℕ → Option Held → Type 0
ToldAt f s k first last None = (b t : ℕ) → first ≤ b → b ≤ last → clashes f s k b t ≡ false
ToldAt f s k first last (Some h) = IsTold f s k first last h (max h.first first)

pub own : (o : Owned) (b : ℕ) → at (o ∷ []) o.number b ≡ kind_at o.intervals b
own o b = rw (eq-eqb o.number o.number refl) refl

not_own : (o : Owned) (t b : ℕ) → o.number ≢ t → at (o ∷ []) t b ≡ None
not_own o t b other = rw (ne_eqb o.number t other) refl

-- another lock state than this owner clashes nowhere, and this one as its intervals say
other_clash : (o : Owned) (s : ℕ) (k : Kind) (b t : ℕ) → o.number ≢ t → clashes (at (o ∷ [])) s k b t ≡ false
other_clash o s k b t other = and_right (not (eqb t s)) (meets k (at (o ∷ []) t b)) (ap (meets k) (not_own o t b other))

own_clash : (o : Owned) (s : ℕ) (k : Kind) (b t : ℕ) → meets k (kind_at o.intervals b) ≡ false → clashes (at (o ∷ [])) s k b t ≡ false
own_clash o s k b t none = elim (cases_eq o.number t) [
  | inl same ↦ and_right (not (eqb t s)) (meets k (at (o ∷ []) t b)) (ap (λ u. meets k (at (o ∷ []) u b)) (sym same) ∙ ap (meets k) (own o b) ∙ none)
  | inr other ↦ other_clash o s k b t other
]

pub one_told : (s : ℕ) (k : Kind) (first last : ℕ) (o : Owned) → first ≤ last → IsCanonical o.intervals →
    ToldAt (at (o ∷ [])) s k first last (clash_of s k first last o)
one_told s k first last o le are = elim (cases_eq o.number s) [
  | inl same ↦ rw (eq-eqb o.number s same) (λ b t lo hi. elim (cases_eq o.number t) [
    | inl mine ↦ and_left (not (eqb t s)) (meets k (at (o ∷ []) t b)) (ap not (eq-eqb t s (sym mine ∙ same)))
    | inr other ↦ other_clash o s k b t other
  ])
  | inr other ↦ rw (ne_eqb o.number s other) (by_hit other (find (hits k first last) o.intervals) (hit_is k first last 0 o.intervals are.from))
]
  where
    by_hit : o.number ≢ s → (r : Option Interval) → HitIs k first last o.intervals r → ToldAt (at (o ∷ [])) s k first last (option_map (held_by o.number) r)
    by_hit other None hit = λ b t lo hi. own_clash o s k b t (hit b lo hi)
    by_hit other (Some x) hit =
        let lo = hit.within.0 in
        let hi = hit.within.1 in
        let whole = hit.range.0 in
        let mine : (c : ℕ) → at (o ∷ []) o.number c ≡ kind_at o.intervals c = own o in
        record {
          within = (omega arith, omega arith);
          earliest = λ c t from to. own_clash o s k c t (hit.earliest c from to);
          clash = and_from (not (eqb o.number s)) (meets k (at (o ∷ []) o.number (max x.first first))) (ap not (ne_eqb o.number s other))
              (ap (meets k) (own o (max x.first first) ∙ hit.held (max x.first first) (omega arith) (omega arith)) ∙ hit.meets_is);
          lowest = λ t lt. other_clash o s k (max x.first first) t (λ same. omega arith);
          round = (omega arith, omega arith, hit.range.1);
          held = λ c from to. own o c ∙ hit.held c from to;
          before = λ c next same. hit.before c next (sym (own o c) ∙ same);
          behind = λ small same. hit.behind (sym (own o (suc x.last)) ∙ same);
        }

-- two lists of owners: one below a number, one of that number alone
abbrev both : Holders → Holders → Holders
both f g t b = or_else (f t b) (g t b)

or_none : (x : Option Kind) → or_else x None ≡ x
or_none None = refl
or_none (Some k) = refl

record AreApart (f g : Holders) (n : ℕ) : Type 0 where
  below : (t b : ℕ) → n ≤ t → f t b ≡ None
  only : (t b : ℕ) → t < n → g t b ≡ None

low_row : (f g : Holders) (n : ℕ) → AreApart f g n → (t b : ℕ) → t < n → both f g t b ≡ f t b
low_row f g n are t b lt = ap (or_else (f t b)) (are.only t b lt) ∙ or_none (f t b)

high_row : (f g : Holders) (n : ℕ) → AreApart f g n → (t b : ℕ) → n ≤ t → both f g t b ≡ g t b
high_row f g n are t b ge = ap (λ x. or_else x (g t b)) (are.below t b ge)

row_clash : (f u : Holders) (s : ℕ) (k : Kind) (b t : ℕ) → u t b ≡ f t b → clashes f s k b t ≡ false → clashes u s k b t ≡ false
row_clash f u s k b t row none = ap (λ x. not (eqb t s) && meets k x) row ∙ none

-- nobody clashes with either, nobody with both
both_clash : (f g : Holders) (n : ℕ) (s : ℕ) (k : Kind) (b t : ℕ) → AreApart f g n → clashes f s k b t ≡ false → clashes g s k b t ≡ false →
    clashes (both f g) s k b t ≡ false
both_clash f g n s k b t are no_f no_g = elim (cases_lt t n) [
  | inl lt ↦ row_clash f (both f g) s k b t (low_row f g n are t b lt) no_f
  | inr ge ↦ row_clash g (both f g) s k b t (high_row f g n are t b ge) no_g
]

-- who clashes holds something
holds_it : (f : Holders) (s : ℕ) (k : Kind) (b t : ℕ) → clashes f s k b t ≡ true → f t b ≢ None
holds_it f s k b t clash none = let parts = and_parts (not (eqb t s)) (meets k (f t b)) clash in let bad : false ≡ true = sym (ap (meets k) none) ∙ parts.1 in
    cc

pub lift : (f u : Holders) (s : ℕ) (k : Kind) (first last : ℕ) (h : Held) (b : ℕ) → IsTold f s k first last h b → ((c : ℕ) → u h.owner c ≡ f h.owner c)
    → ((c t : ℕ) → first ≤ c → c < b → clashes u s k c t ≡ false) → ((t : ℕ) → t < h.owner → clashes u s k b t ≡ false) → IsTold u s k first last h b
lift f u s k first last h b told row earliest lowest = record {
  within = told.within;
  earliest = earliest;
  clash = ap (λ x. not (eqb h.owner s) && meets k x) (row b) ∙ told.clash;
  lowest = lowest;
  round = told.round;
  held = λ c lo hi. row c ∙ told.held c lo hi;
  before = λ c next same. told.before c next (sym (row c) ∙ same);
  behind = λ small same. told.behind small (sym (row (suc h.last)) ∙ same);
}

-- the one that is told is of the side that it came from
low_owner : (f g : Holders) (n s : ℕ) (k : Kind) (first last : ℕ) (h : Held) (b : ℕ) → AreApart f g n → IsTold f s k first last h b → h.owner < n
low_owner f g n s k first last h b are told = elim (cases_lt h.owner n) [
  | inl lt ↦ lt
  | inr ge ↦ absurd
      (holds_it f s k b h.owner told.clash (are.below h.owner b ge))
]

high_owner : (f g : Holders) (n s : ℕ) (k : Kind) (first last : ℕ) (h : Held) (b : ℕ) → AreApart f g n → IsTold g s k first last h b → n ≤ h.owner
high_owner f g n s k first last h b are told = elim (cases_lt h.owner n) [
  | inl lt ↦ absurd (holds_it g s k b h.owner told.clash (are.only h.owner b lt))
  | inr
      ge ↦ ge
]

sooner_told : (f g : Holders) (n s : ℕ) (k : Kind) (first last : ℕ) (r q : Option Held) → AreApart f g n → ToldAt f s k first last r →
    ToldAt g s k first last q → ToldAt (both f g) s k first last (sooner first r q)
sooner_told f g n s k first last None None are a b = λ c t lo hi. both_clash f g n s k c t are (a c t lo hi) (b c t lo hi)
sooner_told f g n s k first last None (Some q) are a b =
    let hi = b.within.1 in
    let owner = high_owner f g n s k first last q (max q.first first) are b in
    lift g (both f g) s k first last q (max q.first first) b (λ c. high_row f g n are q.owner c owner)
    (λ c t from to. both_clash f g n s k c t are (a c t from (omega arith)) (b.earliest c t from to))
    (λ t lt. both_clash f g n s k (max q.first first) t are (a (max q.first first) t (omega arith) hi) (b.lowest t lt))
sooner_told f g n s k first last (Some r) None are a b =
    let hi = a.within.1 in
    let owner = low_owner f g n s k first last r (max r.first first) are a in
    lift f (both f g) s k first last r (max r.first first) a (λ c. low_row f g n are r.owner c owner)
    (λ c t from to. both_clash f g n s k c t are (a.earliest c t from to) (b c t from (omega arith)))
    (λ t lt. row_clash f (both f g) s k (max r.first first) t (low_row f g n are t (max r.first first) (omega arith)) (a.lowest t lt))
sooner_told f g n s k first last (Some r) (Some q) are a b = elim (cases_lt (max q.first first) (max r.first first)) [
  | inl sooner_is ↦ (
      let owner = high_owner f g n s k first last q (max q.first first) are b in
      rw (lt-ltb (max q.first first) (max r.first first) sooner_is)
      (lift g (both f g) s k first last q (max q.first first) b (λ c. high_row f g n are q.owner c owner)
      (λ c t from to. both_clash f g n s k c t are (a.earliest c t from (omega arith)) (b.earliest c t from to))
      (λ t lt. both_clash f g n s k (max q.first first) t are (a.earliest (max q.first first) t (omega arith) sooner_is) (b.lowest t lt)))
      )
  | inr not_sooner ↦ (
      let owner = low_owner f g n s k first last r (max r.first first) are a in
      rw (le-ltb (max q.first first) (max r.first first) not_sooner)
      (lift f (both f g) s k first last r (max r.first first) a (λ c. low_row f g n are r.owner c owner)
      (λ c t from to. both_clash f g n s k c t are (a.earliest c t from to) (b.earliest c t from (omega arith)))
      (λ t lt. row_clash f (both f g) s k (max r.first first) t (low_row f g n are t (max r.first first) (omega arith)) (a.lowest t lt)))
      )
]

-- one owner more
more : (f : Holders) (o : Owned) (os : LockedBytes) → AreOwners (suc o.number) os → (t b : ℕ) → both (both f (at (o ∷ []))) (at os) t b ≡
    both f (at (o ∷ os)) t b
more f o os are t b = elim (cases_eq o.number t) [
  | inl same ↦ (
      let none : at os t b ≡ None = ap (λ xs. kind_at xs b) (no_bytes (suc o.number) os t are (omega arith)) in
      ap (or_else (or_else (f t b) (at (o ∷ []) t b))) none ∙ or_none (or_else (f t b) (at (o ∷ []) t b)) ∙
      ap (or_else (f t b)) (rw (eq-eqb o.number t same) refl)
      )
  | inr other ↦ (
      let none : at (o ∷ []) t b ≡ None = not_own o t b other in
      ap (λ x. or_else x (at os t b)) (ap (or_else (f t b)) none ∙ or_none (f t b)) ∙ ap (or_else (f t b)) (rw (ne_eqb o.number t other) refl)
      )
]

tell_is : (f : Holders) (low s : ℕ) (k : Kind) (first last : ℕ) (best : Option Held) (os : LockedBytes) → first ≤ last → ((t b : ℕ) → low ≤ t → f t b ≡ None) →
    AreOwners low os → ToldAt f s k first last best → ToldAt (both f (at os)) s k first last (tell s k first last best os)
tell_is f low s k first last best [] le below are told =
    let same : both f (at []) ≡ f = fun_ext (λ t. fun_ext (λ b. or_none (f t b))) in
    subst (λ u. ToldAt u s k first last best) (sym same) told
tell_is f low s k first last best (o ∷ os) le below are told =
    let lo = are.0 in
    let apart : AreApart f (at (o ∷ [])) o.number =
    record { below = λ t b ge. below t b (omega arith); only = λ t b lt. not_own o t b (λ same. omega arith) } in
    let step = sooner_told f (at (o ∷ [])) o.number s k first last best (clash_of s k first last o) apart told (one_told s k first last o le are.2) in
    let rest = tell_is (both f (at (o ∷ []))) (suc o.number) s k first last (sooner first best (clash_of s k first last o)) os le
    (λ t b ge. ap (λ x. or_else x (at (o ∷ []) t b)) (below t b (omega arith)) ∙ not_own o t b (λ same. omega arith)) are.3 step in
    let same : both (both f (at (o ∷ []))) (at os) ≡ both f (at (o ∷ os)) = fun_ext (λ t. fun_ext (λ b. more f o os are.3 t b)) in
    subst (λ u. ToldAt u s k first last (tell s k first last (sooner first best (clash_of s k first last o)) os)) same rest

pub tells_from : (f : Holders) (s : ℕ) (k : Kind) (first last : ℕ) (r : Option Held) → ToldAt f s k first last r → Tells f s k first last r
tells_from f s k first last None told = told
tells_from f s k first last (Some h) told = (max h.first first, told)

pub tells : (os : LockedBytes) (s : ℕ) (k : Kind) (first last : ℕ) → first ≤ last → AreCanonical os → Tells (at os) s k first last (tell s k first last None os)
tells os s k first last le are =
    tells_from (at os) s k first last (tell s k first last None os)
    (tell_is nobody 0 s k first last None os le (λ t b ge. refl) are.from (λ b t lo hi. and_right (not (eqb t s)) (meets k None) refl))
