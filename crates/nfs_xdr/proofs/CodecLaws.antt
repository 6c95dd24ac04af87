-- Each codec's laws: what is read is spelled so, and what is spelled so is read.
use Rattle.std.proofs.Common.{◌≡◌, ℕ, zero, suc, ◌+◌, ◌*◌, ◌%◌, ◌^◌, ◌<◌, ◌≤◌, ◌⊎◌, Bool, true, false, cond, ltb, eqb, List, [], ◌∷◌, ◌++◌, length, map, take}
use Rattle.std.proofs.Common.{drop, replicate, Option, Some, None, Result, Ok, Err, refl, sym, ap, subst, ◌∙◌, append_assoc, add-zero, arith, inl, inr}
use Rattle.std.proofs.{Math.Nat.{suc-mul, zero-mul}, lemmas.Bool.{cases_lt, ltb-false, le-ltb, lt-ltb, eqb-true, eq-eqb, and_parts}, lemmas.Option.same_Some}
use Rattle.std.proofs.lemmas.List.{take_at, drop_at, take-append-drop, length-append, length-take, length-drop, length-replicate, map-id, get_or-take}
use Rattle.std.proofs.lemmas.List.{get_or_past, drop-drop, append-nil}
use Rattle.std.proofs.lemmas.Nat.{be_bytes_4, be_bytes_8, from_be_bytes-to_be_bytes_4, from_be_bytes-to_be_bytes_8}
use Rattle.std.specs.{Int.{Width, byte_len, w32, w64, from_be_bytes, to_be_bytes}, Simd.first_chunks, List.{flat_map, AllByRecursion}}
use Rattle.nfs_xdr.proofs.Bytes.{IsBytes-drop}
use Rattle.nfs_xdr.specs.Spelling as spelling
use Rattle.nfs_xdr.specs.{Spelling.padding, Reading.{◌>>=◌, number_at, flag_at, all_zero, fixed_at, opaque_at, pieces_at}, Readers.{ReadsBy, ReadsAs}}
use Rattle.nfs_xdr.specs.Codec.{Codec, number, hyper, flag, opaque, unbounded, ◌then◌, as_type, only, many_at, array, led_by, choose, union, arm, bare, pieces}
use Rattle.nfs_xdr.specs.{Text.IsBytes, Lawful.{IsCodec, IsPrefixFree, IsSized}, Combinators.{fixed, nothing, few, spell_optional, optional, in_arm}}

-- steps

-- the value of a step that did not fail
pub bind_some : {A B : Type 0} (r : Option A) (f : A → Option B) (y : B) → (r >>= f) ≡ Some y → (x : A) × (r ≡ Some x) × (f x ≡ Some y)
bind_some None f y e = absurd cc
bind_some (Some x) f y e = (x, refl, e)

-- a test that passed
pub guard_some : {A : Type 0} (b : Bool) (x : Option A) (y : A) → cond b None x ≡ Some y → (b ≡ false) × (x ≡ Some y)
guard_some true x y e = absurd cc
guard_some false x y e = (refl, e)

pub test_some : {A : Type 0} (b : Bool) (x : Option A) (y : A) → cond b x None ≡ Some y → (b ≡ true) × (x ≡ Some y)
test_some true x y e = (refl, e)
test_some false x y e = absurd cc

-- which way a test went
pub chosen : {A : Type 0} (b : Bool) (x y z : A) → cond b x y ≡ z → ((b ≡ true) × (x ≡ z)) ⊎ ((b ≡ false) × (y ≡ z))
chosen true x y z e = inl (refl, e)
chosen false x y z e = inr (refl, e)

pub IsBytes-take : (n : ℕ) (bytes : List ℕ) → IsBytes bytes → IsBytes (take n bytes)
IsBytes-take n bytes h = record {
  each = λ i.
      elim (cases_lt i n) [
        | inl lt ↦ rw (get_or-take n bytes i 0 lt) (h.each i)
        | inr le ↦ rw (get_or_past (take n bytes) i 0 (omega (arith, length-take n bytes))) (omega arith)
      ];
}

-- what reading took from the front, to be shown at the value that is known by an equation
pub taken_at : {A : Type 0} (c : Codec A) (bytes : List ℕ) (x y : A) (r s : List ℕ) → ◌≡◌ {A = Option (A × List ℕ)} (Some (x, r)) (Some (y, s))
    → (bytes ≡ c.spell x ++ r) × IsBytes r × c.Fits x → (bytes ≡ c.spell y ++ s) × IsBytes s × c.Fits y
taken_at {A} c bytes x y r s e t = subst (λ (p : A × List ℕ). (bytes ≡ c.spell p.0 ++ p.1) × IsBytes p.1 × c.Fits p.0) (same_Some (x, r) (y, s) e) t

-- numbers

-- what is used of a width of 4 or 8 bytes
record IsWide (w : Width) (limit : ℕ) : Type 0 where
  pub len : (n : ℕ) → length (to_be_bytes w n) ≡ byte_len w
  pub back : (bytes : List ℕ) → length bytes ≡ byte_len w → IsBytes bytes → to_be_bytes w (from_be_bytes w bytes) ≡ bytes
  pub again : (n : ℕ) → n < limit → from_be_bytes w (to_be_bytes w n) ≡ n
  pub below : (bytes : List ℕ) → IsBytes bytes → from_be_bytes w bytes < limit

wide32 : IsWide w32 (2 ^ 32)
wide32 = record {
  len = λ n. refl;
  back = λ bytes len fits. be_bytes_4 bytes _ len fits.each refl;
  again = λ n lt. from_be_bytes-to_be_bytes_4 n lt;
  below = λ bytes fits. omega (arith, fits.each 0, fits.each 1, fits.each 2, fits.each 3);
}

wide64 : IsWide w64 (2 ^ 64)
wide64 = record {
  len = λ n. refl;
  back = λ bytes len fits. be_bytes_8 bytes _ len fits.each refl;
  again = λ n lt. from_be_bytes-to_be_bytes_8 n lt;
  below = λ bytes fits. omega (arith, fits.each 0, fits.each 1, fits.each 2, fits.each 3, fits.each 4, fits.each 5, fits.each 6, fits.each 7);
}

abbrev wide : Width → ℕ → Codec ℕ
wide w limit = record {
  spell = to_be_bytes w;
  Fits = λ n. n < limit;
  read = λ bytes. cond (ltb (length bytes) (byte_len w)) None (Some (from_be_bytes w (take (byte_len w) bytes), drop (byte_len w) bytes));
}

is_wide : (w : Width) (limit : ℕ) → IsWide w limit → IsCodec (wide w limit)
is_wide w limit h = record {
  takes = λ bytes x rest fits e.
      let g = guard_some (ltb (length bytes) (byte_len w)) (Some (from_be_bytes w (take (byte_len w) bytes), drop (byte_len w) bytes)) (x, rest) e in
      let long : byte_len w ≤ length bytes = ltb-false _ _ g.0 in
      let front = h.back (take (byte_len w) bytes) (omega (arith, length-take (byte_len w) bytes)) (IsBytes-take (byte_len w) bytes fits) in
      taken_at (wide w limit) bytes _ x _ rest g.1 (
        rw front (sym (take-append-drop (byte_len w) bytes)),
        IsBytes-drop (byte_len w) bytes fits,
        h.below (take (byte_len w) bytes) (IsBytes-take (byte_len w) bytes fits),
      );
  again = λ x rest fits.
      let len = h.len x in
      let long : ltb (length (to_be_bytes w x ++ rest)) (byte_len w) ≡ false = le-ltb _ _ (omega (arith, length-append (to_be_bytes w x) rest)) in
      rw (long, take_at (to_be_bytes w x) rest (byte_len w) len, drop_at (to_be_bytes w x) rest (byte_len w) len, h.again x fits) refl;
}

pub is_number : IsCodec number
unfolding spelling.number
is_number = is_wide w32 (2 ^ 32) wide32

pub is_hyper : IsCodec hyper
unfolding spelling.hyper
is_hyper = is_wide w64 (2 ^ 64) wide64

flag_cases : (bytes : List ℕ) (n : ℕ) (left : List ℕ) (y : Bool) (rest : List ℕ) → bytes ≡ spelling.number n ++ left → IsBytes left
    → cond {A = Option (Bool × List ℕ)} (eqb n 0) (Some (false, left)) (cond (eqb n 1) (Some (true, left)) None) ≡ Some (y, rest)
    → (bytes ≡ flag.spell y ++ rest) × IsBytes rest × flag.Fits y
flag_cases bytes n left y rest p f e =
    elim (chosen {A = Option (Bool × List ℕ)} (eqb n 0) _ _ _ e) [
      | inl q ↦ taken_at flag bytes false y left rest q.1 (p ∙ ap (λ (k : ℕ). spelling.number k ++ left) (eqb-true n 0 q.0), f, tt)
      | inr q ↦ let r = test_some (eqb n 1) (Some (true, left)) (y, rest) q.1 in
          taken_at flag bytes true y left rest r.1 (p ∙ ap (λ (k : ℕ). spelling.number k ++ left) (eqb-true n 1 r.0), f, tt)
    ]

abbrev flag_of : Option (ℕ × List ℕ) → Option (Bool × List ℕ)
flag_of r = r >>= λ n. cond (eqb n.0 0) (Some (false, n.1)) (cond (eqb n.0 1) (Some (true, n.1)) None)

flag_again : (y : Bool) (rest : List ℕ) → flag_at (flag.spell y ++ rest) ≡ Some (y, rest)
unfolding flag_at
flag_again false rest = ap flag_of (is_number.again 0 rest (omega arith))
flag_again true rest = ap flag_of (is_number.again 1 rest (omega arith))

pub is_flag : IsCodec flag
unfolding flag_at
is_flag = record {
  takes = λ bytes y rest fits e.
      let s = bind_some (number_at bytes) (λ n. cond (eqb n.0 0) (Some (false, n.1)) (cond (eqb n.0 1) (Some (true, n.1)) None)) (y, rest) e in
      let t = is_number.takes bytes s.0.0 s.0.1 fits s.1 in
      flag_cases bytes s.0.0 s.0.1 y rest t.0 t.1 s.2;
  again = λ y rest fits. flag_again y rest;
}

-- opaques

all_zero-replicate : (n : ℕ) → all_zero (replicate n 0) ≡ true
all_zero-replicate zero = refl
all_zero-replicate (suc n) = all_zero-replicate n

replicate_from_zeros : (bytes : List ℕ) → all_zero bytes ≡ true → bytes ≡ replicate (length bytes) 0
replicate_from_zeros [] e = refl
replicate_from_zeros (b ∷ bytes) e =
    let p = and_parts (eqb b 0) (all_zero bytes) e in
    rw (eqb-true b 0 p.0, ← replicate_from_zeros bytes p.1) refl

pub is_fixed : (n : ℕ) → IsCodec (fixed n)
unfolding fixed_at
is_fixed n = record {
  takes = λ bytes x rest fits e.
      let g = guard_some (ltb (length bytes) (n + padding n)) _ (x, rest) e in
      let h = test_some (all_zero (take (padding n) (drop n bytes))) (Some (take n bytes, drop (n + padding n) bytes)) (x, rest) g.1 in
      let long : n + padding n ≤ length bytes = ltb-false _ _ g.0 in
      let len : length (take n bytes) ≡ n = omega (arith, length-take n bytes) in
      let filled : length (take (padding n) (drop n bytes)) ≡ padding n = omega (arith, length-take (padding n) (drop n bytes), length-drop n bytes) in
      let zeros : take (padding n) (drop n bytes) ≡ replicate (padding n) 0 = replicate_from_zeros _ h.0 ∙ ap (λ (k : ℕ). replicate k 0) filled in
      let whole : bytes ≡ take n bytes ++ (take (padding n) (drop n bytes) ++ drop (n + padding n) bytes) = sym (ap (λ (w : List ℕ). take n bytes ++ w)
      (ap (λ (w : List ℕ). take (padding n) (drop n bytes) ++ w) (sym (drop-drop (padding n) n bytes)) ∙ take-append-drop (padding n) (drop n bytes))
      ∙ take-append-drop n bytes) in
      taken_at (fixed n) bytes (take n bytes) x (drop (n + padding n) bytes) rest h.1 (
        whole ∙ ap (λ (w : List ℕ). take n bytes ++ (w ++ drop (n + padding n) bytes)) (zeros ∙ ap (λ (k : ℕ). replicate (padding k) 0) (sym len))
            ∙ sym (append_assoc (take n bytes) _ _),
        IsBytes-drop (n + padding n) bytes fits,
        (len, IsBytes-take n bytes fits),
      );
  again = λ x rest fits.
      let fill : List ℕ = replicate (padding n) 0 in
      let same : spelling.fixed x ++ rest ≡ x ++ (fill ++ rest) = append_assoc x _ rest ∙ ap (λ (k : ℕ). x ++ (replicate (padding k) 0 ++ rest)) fits.0 in
      let long : ltb (length (x ++ (fill ++ rest))) (n + padding n) ≡ false =
      le-ltb _ _ (omega (arith, fits.0, length-append x (fill ++ rest), length-append fill rest, length-replicate {A = ℕ} (padding n) 0)) in
      let behind : drop n (x ++ (fill ++ rest)) ≡ fill ++ rest = drop_at x (fill ++ rest) n fits.0 in
      let further : drop (n + padding n) (x ++ (fill ++ rest)) ≡ rest =
      sym (drop-drop (padding n) n _) ∙ ap (drop (padding n)) behind ∙ drop_at fill rest (padding n) (length-replicate {A = ℕ} (padding n) 0) in
      ap (fixed_at n) same ∙ rw (
        long,
        behind,
        take_at fill rest (padding n) (length-replicate {A = ℕ} (padding n) 0),
        all_zero-replicate (padding n),
        take_at x (fill ++ rest) n fits.0,
        further,
      ) refl;
}

pub is_opaque : (limit : ℕ) → limit < 2 ^ 32 → IsCodec (opaque limit)
unfolding opaque_at
is_opaque limit small = record {
  takes = λ bytes x rest fits e.
      let s = bind_some (number_at bytes) (λ n. cond (ltb limit n.0) None (fixed_at n.0 n.1)) (x, rest) e in
      let g = guard_some (ltb limit s.0.0) (fixed_at s.0.0 s.0.1) (x, rest) s.2 in
      let t = is_number.takes bytes s.0.0 s.0.1 fits s.1 in
      let u = (is_fixed s.0.0).takes s.0.1 x rest t.1 g.1 in (
        t.0 ∙ ap (λ (w : List ℕ). spelling.number s.0.0 ++ w) u.0 ∙ sym (append_assoc (spelling.number s.0.0) (spelling.fixed x) rest)
            ∙ ap (λ (n : ℕ). (spelling.number n ++ spelling.fixed x) ++ rest) (sym u.2.0),
        u.1,
        (omega (arith, u.2.0, ltb-false _ _ g.0), u.2.1),
      );
  again = λ x rest fits.
      let short : ltb limit (length x) ≡ false = le-ltb _ _ fits.0 in
      ap (opaque_at limit) (append_assoc (spelling.number (length x)) (spelling.fixed x) rest)
      ∙ rw (is_number.again (length x) (spelling.fixed x ++ rest) (omega (arith, fits.0)), short) ((is_fixed (length x)).again x rest (refl, fits.1));
}

pub is_unbounded : IsCodec unbounded
is_unbounded = is_opaque 4294967295 (omega arith)

-- combinations

pub is_nothing : {A : Type 0} (x : A) → IsCodec (nothing x)
is_nothing x = record {
  takes = λ bytes y rest fits e. taken_at (nothing x) bytes x y bytes rest e (refl, fits, refl);
  again = λ y rest fits. rw fits refl;
}

pub is_then : {A B : Type 0} (a : Codec A) (b : Codec B) → IsCodec a → IsCodec b → IsCodec (a then b)
is_then {A} {B} a b p q = record {
  takes = λ bytes z rest fits e.
      let s = bind_some (a.read bytes) (λ x. b.read x.1 >>= λ y. Some ((x.0, y.0), y.1)) (z, rest) e in
      let t = bind_some (b.read s.0.1) (λ y. Some ((s.0.0, y.0), y.1)) (z, rest) s.2 in
      let first = p.takes bytes s.0.0 s.0.1 fits s.1 in
      let second = q.takes s.0.1 t.0.0 t.0.1 first.1 t.1 in
      taken_at (a then b) bytes (s.0.0, t.0.0) z t.0.1 rest t.2
      (first.0 ∙ ap (λ (w : List ℕ). a.spell s.0.0 ++ w) second.0 ∙ sym (append_assoc (a.spell s.0.0) (b.spell t.0.0) t.0.1), second.1, (first.2, second.2));
  again = λ z rest fits.
      ap (λ (w : List ℕ). (a then b).read w) (append_assoc (a.spell z.0) (b.spell z.1) rest)
      ∙ rw (p.again z.0 (b.spell z.1 ++ rest) fits.0, q.again z.1 rest fits.1) refl;
}

pub is_as_type : {A B : Type 0} (make : A → B) (parts : B → A) (c : Codec A) → ((x : A) → parts (make x) ≡ x) → IsCodec c → IsCodec (as_type make parts c)
is_as_type {A} {B} make parts c back p = record {
  takes = λ bytes y rest fits e.
      let s = bind_some (c.read bytes) (λ x. Some (make x.0, x.1)) (y, rest) e in
      let t = p.takes bytes s.0.0 s.0.1 fits s.1 in
      taken_at (as_type make parts c) bytes (make s.0.0) y s.0.1 rest s.2
      (rw (back s.0.0) t.0, t.1, (ap make (back s.0.0), rw (back s.0.0) t.2));
  again = λ y rest fits. rw (p.again (parts y) rest fits.1, fits.0) refl;
}

pub is_only : {A : Type 0} (test : A → Bool) (c : Codec A) → IsCodec c → IsCodec (only test c)
is_only {A} test c p = record {
  takes = λ bytes y rest fits e.
      let s = bind_some (c.read bytes) (λ x. cond (test x.0) (Some x) None) (y, rest) e in
      let g = test_some (test s.0.0) (Some s.0) (y, rest) s.2 in
      let t = p.takes bytes s.0.0 s.0.1 fits s.1 in
      taken_at (only test c) bytes s.0.0 y s.0.1 rest g.1 (t.0, t.1, (g.0, t.2));
  again = λ y rest fits. rw (p.again y rest fits.1, fits.0) refl;
}

-- arrays

many_takes : {A : Type 0} (c : Codec A) → IsCodec c → (n : ℕ) (bytes : List ℕ) (xs : List A) (rest : List ℕ) → IsBytes bytes
    → many_at c.read n bytes ≡ Some (xs, rest) → (bytes ≡ flat_map c.spell xs ++ rest) × IsBytes rest × ((length xs ≡ n) × AllByRecursion c.Fits xs)
many_takes {A} c p zero bytes xs rest fits e =
    subst (λ (q : List A × List ℕ). (bytes ≡ flat_map c.spell q.0 ++ q.1) × IsBytes q.1 × ((length q.0 ≡ 0) × AllByRecursion c.Fits q.0))
    (same_Some ([], bytes) (xs, rest) e) (refl, fits, (refl, tt))
many_takes {A} c p (suc n) bytes xs rest fits e =
    let s = bind_some (c.read bytes) (λ x. many_at c.read n x.1 >>= λ ys. Some (x.0 ∷ ys.0, ys.1)) (xs, rest) e in
    let t = bind_some (many_at c.read n s.0.1) (λ ys. Some (s.0.0 ∷ ys.0, ys.1)) (xs, rest) s.2 in
    let first = p.takes bytes s.0.0 s.0.1 fits s.1 in
    let second = many_takes c p n s.0.1 t.0.0 t.0.1 first.1 t.1 in
    subst (λ (q : List A × List ℕ). (bytes ≡ flat_map c.spell q.0 ++ q.1) × IsBytes q.1 × ((length q.0 ≡ suc n) × AllByRecursion c.Fits q.0))
    (same_Some (s.0.0 ∷ t.0.0, t.0.1) (xs, rest) t.2) (
      first.0 ∙ ap (λ (w : List ℕ). c.spell s.0.0 ++ w) second.0 ∙ sym (append_assoc (c.spell s.0.0) (flat_map c.spell t.0.0) t.0.1),
      second.1,
      (ap suc second.2.0, (first.2, second.2.1)),
    )

many_again : {A : Type 0} (c : Codec A) → IsCodec c → (xs : List A) (rest : List ℕ)
    → AllByRecursion c.Fits xs → many_at c.read (length xs) (flat_map c.spell xs ++ rest) ≡ Some (xs, rest)
many_again c p [] rest fits = refl
many_again c p (x ∷ xs) rest fits =
    ap (many_at c.read (suc (length xs))) (append_assoc (c.spell x) (flat_map c.spell xs) rest)
    ∙ rw (p.again x (flat_map c.spell xs ++ rest) fits.0, many_again c p xs rest fits.1) refl

pub is_array : {A : Type 0} (c : Codec A) → IsCodec c → IsCodec (array c)
is_array {A} c p = record {
  takes = λ bytes xs rest fits e.
      let s = bind_some (number_at bytes) (λ n. many_at c.read n.0 n.1) (xs, rest) e in
      let t = is_number.takes bytes s.0.0 s.0.1 fits s.1 in
      let u = many_takes c p s.0.0 s.0.1 xs rest t.1 s.2 in
      let same : s.0.0 ≡ length xs = sym u.2.0 in (
        t.0 ∙ ap (λ (w : List ℕ). spelling.number s.0.0 ++ w) u.0 ∙ sym (append_assoc (spelling.number s.0.0) (flat_map c.spell xs) rest)
            ∙ ap (λ (n : ℕ). (spelling.number n ++ flat_map c.spell xs) ++ rest) same,
        u.1,
        (subst (λ (n : ℕ). n < 2 ^ 32) same t.2, u.2.1),
      );
  again = λ xs rest fits.
      ap (λ (w : List ℕ). (array c).read w) (append_assoc (spelling.number (length xs)) (flat_map c.spell xs) rest)
      ∙ rw (is_number.again (length xs) (flat_map c.spell xs ++ rest) fits.0) (many_again c p xs rest fits.1);
}

-- what a refusal says

none≢some : {A : Type 0} (x : A) → None ≡ Some x → ⊥
none≢some x e = cc

-- what gives what reading gives reads what is spelled
pub reads_from_gives : {X Y E : Type 0} (c : Codec Y) (view : X → Y) (r : Result X E) (old new : List ℕ)
    → IsCodec c → IsBytes old → ReadsBy view r (c.read old) old new → ReadsAs c view r old new
reads_from_gives c view (Ok x) old new p fits given = let t = p.takes old (view x) new fits given in (t.0, t.2)
reads_from_gives c view (Err e) old new p fits given = (given.1, λ y rest f same. absurd (none≢some _ (sym given.0 ∙ ap c.read same ∙ p.again y rest f)))

-- arrays of pieces

suc_times : (k n : ℕ) → suc k * n ≡ n + k * n
suc_times k n = omega (arith, suc-mul k n)

-- as many as there is room for
many_sized : {A : Type 0} (c : Codec A) (n : ℕ) (value : List ℕ → A) → IsSized c n value → (k : ℕ) (bytes : List ℕ) → many_at c.read k bytes
    ≡ cond {A = Option (List A × List ℕ)} (ltb (length bytes) (k * n)) None (Some (map value (first_chunks n k bytes), drop (k * n) bytes))
many_sized {A} c n value h zero bytes = rw (le-ltb (length bytes) (0 * n) (omega (arith, zero-mul n)), zero-mul n) refl
many_sized {A} c n value h (suc k) bytes =
    elim (cases_lt (length bytes) n) [
      | inl lt ↦ rw (h.read bytes, lt-ltb (length bytes) n lt, lt-ltb (length bytes) (suc k * n) (omega (arith, suc_times k n))) refl
      | inr le ↦
          let next : many_at c.read k (drop n bytes) ≡ cond {A = Option (List A × List ℕ)} (ltb (length (drop n bytes)) (k * n)) None
          (Some (map value (first_chunks n k (drop n bytes)), drop (k * n) (drop n bytes))) = many_sized c n value h k (drop n bytes) in
          rw (h.read bytes, le-ltb (length bytes) n le, next)
          (elim (cases_lt (length (drop n bytes)) (k * n)) [
            | inl lt ↦ rw (lt-ltb _ _ lt, lt-ltb (length bytes) (suc k * n) (omega (arith, suc_times k n, length-drop n bytes, lt))) refl
            | inr more ↦ rw (
              le-ltb _ _ more,
              le-ltb (length bytes) (suc k * n) (omega (arith, suc_times k n, length-drop n bytes, more)),
              drop-drop (k * n) n bytes,
              suc_times k n,
            ) refl
          ])
    ]

either : {A : Type 0} (value : List ℕ → A) (b : Bool) (ys : List (List ℕ)) (r : List ℕ) → cond {A = Option (List A × List ℕ)} b None (Some (map value ys, r))
    ≡ (cond {A = Option (List (List ℕ) × List ℕ)} b None (Some (ys, r)) >>= λ x. Some (map value x.0, x.1))
either value true ys r = refl
either value false ys r = refl

fronts : {A : Type 0} (c : Codec A) (n : ℕ) (value : List ℕ → A) → IsSized c n value → (r : Option (ℕ × List ℕ)) → (r >>= λ k. many_at c.read k.0 k.1)
    ≡ (r >>= (λ k. cond {A = Option (List (List ℕ) × List ℕ)} (ltb (length k.1) (k.0 * n)) None (Some (first_chunks n k.0 k.1, drop (k.0 * n) k.1)))
    >>= λ x. Some (map value x.0, x.1))
fronts c n value h None = refl
fronts c n value h (Some k) = many_sized c n value h k.0 k.1 ∙ either value (ltb (length k.1) (k.0 * n)) (first_chunks n k.0 k.1) (drop (k.0 * n) k.1)

pub is_pieces : {A : Type 0} (n : ℕ) (value : List ℕ → A) (c : Codec A) → IsSized c n value → IsCodec c → IsCodec (pieces n value c)
unfolding pieces_at
is_pieces {A} n value c h p = record {
  takes = λ bytes xs rest fits e. (is_array c p).takes bytes xs rest fits (fronts c n value h (number_at bytes) ∙ e);
  again = λ xs rest fits. sym (fronts c n value h (number_at ((array c).spell xs ++ rest))) ∙ (is_array c p).again xs rest fits;
}

pub is_few : {A : Type 0} (limit : ℕ) (c : Codec A) → limit < 2 ^ 32 → IsCodec c → IsCodec (few limit c)
is_few {A} limit c small p = record {
  takes = λ bytes xs rest fits e.
      let s = bind_some (number_at bytes) (λ n. cond (ltb limit n.0) None (many_at c.read n.0 n.1)) (xs, rest) e in
      let g = guard_some (ltb limit s.0.0) (many_at c.read s.0.0 s.0.1) (xs, rest) s.2 in
      let t = is_number.takes bytes s.0.0 s.0.1 fits s.1 in
      let u = many_takes c p s.0.0 s.0.1 xs rest t.1 g.1 in
      let same : s.0.0 ≡ length xs = sym u.2.0 in (
        t.0 ∙ ap (λ (w : List ℕ). spelling.number s.0.0 ++ w) u.0 ∙ sym (append_assoc (spelling.number s.0.0) (flat_map c.spell xs) rest)
            ∙ ap (λ (n : ℕ). (spelling.number n ++ flat_map c.spell xs) ++ rest) same,
        u.1,
        (omega (arith, same, ltb-false _ _ g.0), u.2.1),
      );
  again = λ xs rest fits.
      ap (λ (w : List ℕ). (few limit c).read w) (append_assoc (spelling.number (length xs)) (flat_map c.spell xs) rest)
      ∙ rw (is_number.again (length xs) (flat_map c.spell xs ++ rest) (omega (arith, fits.0)), le-ltb limit (length xs) fits.0) (many_again c p xs rest fits.1);
}

optional_takes : {A : Type 0} (c : Codec A) → IsCodec c
    → (bytes : List ℕ) (there : Bool) (left : List ℕ) (y : Option A) (rest : List ℕ) → bytes ≡ spelling.flag there ++ left → IsBytes left
    → cond {A = Option (Option A × List ℕ)} there (c.read left >>= λ x. Some (Some x.0, x.1)) (Some (None, left)) ≡ Some (y, rest)
    → (bytes ≡ spell_optional c y ++ rest) × IsBytes rest × (optional c).Fits y
optional_takes {A} c p bytes false left y rest front f e = taken_at (optional c) bytes None y left rest e (front, f, tt)
optional_takes {A} c p bytes true left y rest front f e =
    let s = bind_some (c.read left) (λ x. Some (Some x.0, x.1)) (y, rest) e in
    let t = p.takes left s.0.0 s.0.1 f s.1 in
    taken_at (optional c) bytes (Some s.0.0) y s.0.1 rest s.2
    (front ∙ ap (λ (w : List ℕ). spelling.flag true ++ w) t.0 ∙ sym (append_assoc (spelling.flag true) (c.spell s.0.0) s.0.1), t.1, t.2)

optional_again : {A : Type 0} (c : Codec A) → IsCodec c → (y : Option A) (rest : List ℕ)
    → (optional c).Fits y → (optional c).read (spell_optional c y ++ rest) ≡ Some (y, rest)
optional_again c p None rest fits = rw (is_flag.again false rest tt) refl
optional_again c p (Some x) rest fits =
    ap (λ (w : List ℕ). (optional c).read w) (append_assoc (spelling.flag true) (c.spell x) rest)
    ∙ rw (is_flag.again true (c.spell x ++ rest) tt, p.again x rest fits) refl

pub is_optional : {A : Type 0} (c : Codec A) → IsCodec c → IsCodec (optional c)
is_optional {A} c p = record {
  takes = λ bytes y rest fits e.
      let s = bind_some (flag_at bytes)
      (λ b. cond {A = Option (Option A × List ℕ)} b.0 (c.read b.1 >>= λ x. Some (Some x.0, x.1)) (Some (None, b.1))) (y, rest) e in
      let t = is_flag.takes bytes s.0.0 s.0.1 fits s.1 in
      optional_takes c p bytes s.0.0 s.0.1 y rest t.0 t.1 s.2;
  again = λ y rest fits. optional_again c p y rest fits;
}

-- one arm of a union, behind its head
pub arm_takes : {A B : Type 0} (c : Codec A) (b : Codec B) (make : A → B) (head : List ℕ) → IsCodec c
    → ((x : A) → b.spell (make x) ≡ head ++ c.spell x) → ((x : A) → c.Fits x → b.Fits (make x))
    → (bytes left : List ℕ) (y : B) (rest : List ℕ) → bytes ≡ head ++ left → IsBytes left
    → in_arm make (c.read left) ≡ Some (y, rest) → (bytes ≡ b.spell y ++ rest) × IsBytes rest × b.Fits y
arm_takes {A} {B} c b make head p spells fit bytes left y rest front f e =
    let s = bind_some (c.read left) (λ x. Some (make x.0, x.1)) (y, rest) e in
    let t = p.takes left s.0.0 s.0.1 f s.1 in
    taken_at b bytes (make s.0.0) y s.0.1 rest s.2 (
      front ∙ ap (λ (w : List ℕ). head ++ w) t.0 ∙ sym (append_assoc head (c.spell s.0.0) s.0.1) ∙ ap (λ (w : List ℕ). w ++ s.0.1) (sym (spells s.0.0)),
      t.1,
      fit s.0.0 t.2,
    )

pub is_led_by : {A : Type 0} (k : ℕ) (c : Codec A) → k < 2 ^ 32 → IsCodec c → IsCodec (led_by k c)
is_led_by {A} k c small p = record {
  takes = λ bytes y rest fits e.
      let s = bind_some (number_at bytes) (λ n. cond (eqb n.0 k) (c.read n.1) None) (y, rest) e in
      let g = test_some (eqb s.0.0 k) (c.read s.0.1) (y, rest) s.2 in
      let t = is_number.takes bytes s.0.0 s.0.1 fits s.1 in
      let u = p.takes s.0.1 y rest t.1 g.1 in (
        t.0 ∙ ap (λ (n : ℕ). spelling.number n ++ s.0.1) (eqb-true s.0.0 k g.0)
            ∙ ap (λ (w : List ℕ). spelling.number k ++ w) u.0 ∙ sym (append_assoc (spelling.number k) (c.spell y) rest),
        u.1,
        u.2,
      );
  again = λ y rest fits.
      ap (λ (w : List ℕ). (led_by k c).read w) (append_assoc (spelling.number k) (c.spell y) rest)
      ∙ rw (is_number.again k (c.spell y ++ rest) small, eq-eqb k k refl) (p.again y rest fits);
}

-- an arm reads what the union spells
pub record IsArm {B : Type 0} (b : Codec B) (a : ℕ × (List ℕ → Option (B × List ℕ))) : Type 0 where
  pub takes : (left : List ℕ) (y : B) (rest : List ℕ) → IsBytes left → a.1 left ≡ Some (y, rest)
      → (spelling.number a.0 ++ left ≡ b.spell y ++ rest) × IsBytes rest × b.Fits y

pub is_arm : {A B : Type 0} (b : Codec B) (k : ℕ) (make : A → B) (c : Codec A) → IsCodec c
    → ((x : A) → b.spell (make x) ≡ spelling.number k ++ c.spell x) → ((x : A) → c.Fits x → b.Fits (make x)) → IsArm b (k, arm make c)
is_arm b k make c p spells fit =
    record { takes = λ left y rest f e. arm_takes c b make (spelling.number k) p spells fit (spelling.number k ++ left) left y rest refl f e }

pub is_bare : {B : Type 0} (b : Codec B) (k : ℕ) (x : B) → b.spell x ≡ spelling.number k → b.Fits x → IsArm b (k, bare x)
is_bare b k x spells fit =
    record { takes = λ left y rest f e. taken_at b (spelling.number k ++ left) x y left rest e (ap (λ (w : List ℕ). w ++ left) (sym spells), f, fit) }

choose_takes : {B : Type 0} (b : Codec B) (arms : List (ℕ × (List ℕ → Option (B × List ℕ)))) → AllByRecursion (IsArm b) arms
    → (n : ℕ) (left : List ℕ) (y : B) (rest : List ℕ) → IsBytes left → choose arms n left ≡ Some (y, rest)
    → (spelling.number n ++ left ≡ b.spell y ++ rest) × IsBytes rest × b.Fits y
choose_takes b [] good n left y rest f e = absurd cc
choose_takes {B} b (a ∷ arms) good n left y rest f e =
    elim (chosen (eqb n a.0) (a.1 left) (choose arms n left) (Some (y, rest)) e) [
      | inl q ↦ let t = good.0.takes left y rest f q.1 in (ap (λ (k : ℕ). spelling.number k ++ left) (eqb-true n a.0 q.0) ∙ t.0, t.1, t.2)
      | inr q ↦ choose_takes b arms good.1 n left y rest f q.1
    ]

-- a union of arms, each of which is read again
pub is_union : {B : Type 0} (spell : B → List ℕ) (Fits : B → Type 0) (arms : List (ℕ × (List ℕ → Option (B × List ℕ))))
    → AllByRecursion (IsArm (union spell Fits arms)) arms
    → ((y : B) (rest : List ℕ) → Fits y
    → (k : ℕ) × (left : List ℕ) × (k < 2 ^ 32) × (spell y ++ rest ≡ spelling.number k ++ left) × (choose arms k left ≡ Some (y, rest)))
    → IsCodec (union spell Fits arms)
is_union spell Fits arms good back = record {
  takes = λ bytes y rest fits e.
      let s = bind_some (number_at bytes) (λ n. choose arms n.0 n.1) (y, rest) e in
      let t = is_number.takes bytes s.0.0 s.0.1 fits s.1 in
      let u = choose_takes (union spell Fits arms) arms good s.0.0 s.0.1 y rest t.1 s.2 in
      (t.0 ∙ u.0, u.1, u.2);
  again = λ y rest fits.
      let b = back y rest fits in
      ap (λ (w : List ℕ). (union spell Fits arms).read w) b.3 ∙ rw (is_number.again b.0 b.1 b.2) b.4;
}

-- n bytes that are whole words are spelled as they are
sized_fixed : (n : ℕ) → n % 4 ≡ 0 → IsSized (fixed n) n (λ x. x)
unfolding fixed_at
sized_fixed n whole = record { read = λ bytes. rw (whole, add-zero n) refl }

as_they_are : (r : Option (List (List ℕ) × List ℕ)) → r ≡ (r >>= λ x. Some (map (λ y. y) x.0, x.1))
as_they_are None = refl
as_they_are (Some x) = ap (λ (ys : List (List ℕ)). Some (ys, x.1)) (sym (map-id x.0))

-- an array of fixed opaques is read as pieces
pub reads_pieces : {X E : Type 0} (n : ℕ) (view : X → List (List ℕ)) (r : Result X E) (old new : List ℕ)
    → n % 4 ≡ 0 → IsBytes old → ReadsBy view r (pieces_at n old) old new → ReadsAs (array (fixed n)) view r old new
reads_pieces {X} {E} n view r old new whole bytes given =
    reads_from_gives (pieces n (λ x. x) (fixed n)) view r old new (is_pieces n (λ x. x) (fixed n) (sized_fixed n whole) (is_fixed n)) bytes
    (subst (λ (read : Option (List (List ℕ) × List ℕ)). ReadsBy view r read old new) (as_they_are (pieces_at n old)) given)

-- no spelling begins another of the same type
pub is_prefix_free : {A : Type 0} (c : Codec A) → IsCodec c → IsPrefixFree c
is_prefix_free {A} c p x y rest f g e =
    let one : c.read (c.spell x ++ []) ≡ Some (x, []) = p.again x [] f in
    let other : c.read (c.spell y ++ rest) ≡ Some (y, rest) = p.again y rest g in
    let same : ◌≡◌ {A = Option (A × List ℕ)} (Some (x, [])) (Some (y, rest)) = sym one ∙ ap c.read (append-nil (c.spell x) ∙ e) ∙ other in
    let pair = same_Some (x, []) (y, rest) same in
    (ap (λ (q : A × List ℕ). q.0) pair, sym (ap (λ (q : A × List ℕ). q.1) pair))
