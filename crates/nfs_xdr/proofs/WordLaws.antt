-- Laws of the words that unions, enums and arrays of the protocol are put together from.
use Rattle.std.proofs.Common.{◌≡◌, ◌≢◌, ℕ, ℤ, suc, ◌+◌, ◌-◌, ◌^◌, ◌<◌, ◌≤◌, eqb, List, [], ◌∷◌, ◌++◌, length, take, Option, Some}
use Rattle.std.proofs.{Common.{None, refl, sym, ap, ◌∙◌, arith, inl, inr}, lemmas.Option.same_Some, lemmas.Bool.{eqb-true, eqb-false}}
use Rattle.std.proofs.{lemmas.Int.{to_z-of_z, of_z-to_z}, Math.Facts.{sfits_to_z, Fits-of_z}, lemmas.List.{take_at, length-append}}
use Rattle.std.specs.{Int.{w64, cast_signed, cast_unsigned}, Int.RustNames.FitsSigned, List.AllByRecursion}
use Rattle.nfs_xdr.specs.Spelling as spelling
use Rattle.nfs_xdr.specs.{Reading.{◌>>=◌, number_at, hyper_at}, Codec.{Codec, signed, at_most, many_at}, Text.IsBytes, Lawful.{IsCodec, IsListing}}
use Rattle.nfs_xdr.specs.{Combinators.{listed_at, listed, raw, passed, choose_or, union_or, union_by}, Time.time}
use Rattle.nfs_xdr.proofs.CodecLaws.{bind_some, taken_at, chosen, IsArm, is_number, is_hyper, is_only, is_then, is_as_type}

signed_fits : (n : ℕ) → n < 2 ^ 64 → FitsSigned w64 (cast_signed w64 n)
signed_fits n lt = sfits_to_z {w = w64} {n = n} (record { fits = lt })

unsigned_fits : (z : ℤ) → FitsSigned w64 z → cast_unsigned w64 z < 2 ^ 64
unsigned_fits z fits = (Fits-of_z {w = w64} {z = z} fits).fits

pub is_signed : IsCodec signed
is_signed = record {
  takes = λ bytes z rest fits e.
      let s = bind_some (hyper_at bytes) (λ n. Some (cast_signed w64 n.0, n.1)) (z, rest) e in
      let t = is_hyper.takes bytes s.0.0 s.0.1 fits s.1 in
      taken_at signed bytes (cast_signed w64 s.0.0) z s.0.1 rest s.2
      (rw (of_z-to_z w64 s.0.0 t.2) t.0, t.1, signed_fits s.0.0 t.2);
  again = λ z rest fits. rw (is_hyper.again (cast_unsigned w64 z) rest (unsigned_fits z fits), to_z-of_z w64 z fits) refl;
}

-- what is found under a number has it
pub listed_number : {A : Type 0} (number_of : A → ℕ) (all : List A) (n : ℕ) (x : A) → listed_at number_of all n ≡ Some x → n ≡ number_of x
listed_number number_of [] n x e = absurd cc
listed_number {A} number_of (y ∷ ys) n x e =
    elim (chosen {A = Option A} (eqb n (number_of y)) (Some y) (listed_at number_of ys n) (Some x) e) [
      | inl q ↦ (let same : y ≡ x = cc in eqb-true n (number_of y) q.0 ∙ ap number_of same)
      | inr q ↦ listed_number number_of ys n x q.1
    ]

pub is_listed : {A : Type 0} (number_of : A → ℕ) (all : List A) → IsListing number_of all → IsCodec (listed number_of all)
is_listed {A} number_of all is = record {
  takes = λ bytes x rest fits e.
      let s = bind_some (number_at bytes) (λ n. listed_at number_of all n.0 >>= λ y. Some (y, n.1)) (x, rest) e in
      let u = bind_some (listed_at number_of all s.0.0) (λ y. Some (y, s.0.1)) (x, rest) s.2 in
      let t = is_number.takes bytes s.0.0 s.0.1 fits s.1 in
      taken_at (listed number_of all) bytes u.0 x s.0.1 rest u.2
      (t.0 ∙ ap (λ (n : ℕ). spelling.number n ++ s.0.1) (listed_number number_of all s.0.0 u.0 u.1), t.1, tt);
  again = λ x rest fits. rw (is_number.again (number_of x) rest (is.small x), is.found x) refl;
}

pub is_at_most : {A : Type 0} (limit : ℕ) (c : Codec (List A)) → IsCodec c → IsCodec (at_most limit c)
is_at_most limit c p = is_only _ c p

front_of : (front rest : List ℕ) → take (length (front ++ rest) - length rest) (front ++ rest) ≡ front
front_of front rest = take_at front rest (length (front ++ rest) - length rest) (omega (arith, length-append front rest))

-- the bytes that were read are the spelling of what was read
pub is_raw : {A : Type 0} (c : Codec A) → IsCodec c → IsCodec (raw c)
is_raw {A} c p = record {
  takes = λ bytes front rest fits e.
      let s = bind_some (c.read bytes) (λ x. Some (take (length bytes - length x.1) bytes, x.1)) (front, rest) e in
      let t = p.takes bytes s.0.0 s.0.1 fits s.1 in
      let same : take (length bytes - length s.0.1) bytes ≡ c.spell s.0.0 =
      ap (λ (w : List ℕ). take (length w - length s.0.1) w) t.0 ∙ front_of (c.spell s.0.0) s.0.1 in
      taken_at (raw c) bytes (take (length bytes - length s.0.1) bytes) front s.0.1 rest s.2
      (t.0 ∙ ap (λ (w : List ℕ). w ++ s.0.1) (sym same), t.1, (s.0.0, same, t.2));
  again = λ front rest fits.
      let read : c.read (front ++ rest) ≡ Some (fits.0, rest) = ap (λ (w : List ℕ). c.read (w ++ rest)) fits.1 ∙ p.again fits.0 rest fits.2 in
      rw (read, front_of front rest) refl;
}

choose_or_takes : {B : Type 0} (b : Codec B) (other : ℕ → B) (arms : List (ℕ × (List ℕ → Option (B × List ℕ))))
    → AllByRecursion (IsArm b) arms → (n : ℕ) (left : List ℕ) (y : B) (rest : List ℕ) → IsBytes left
    → (AllByRecursion (λ a. n ≢ a.0) arms → (b.spell (other n) ≡ spelling.number n) × b.Fits (other n)) → choose_or arms other n left ≡ Some (y, rest)
    → (spelling.number n ++ left ≡ b.spell y ++ rest) × IsBytes rest × b.Fits y
choose_or_takes b other [] good n left y rest f alone e = let o = alone tt in
    taken_at b (spelling.number n ++ left) (other n) y left rest e (ap (λ (w : List ℕ). w ++ left) (sym o.0), f, o.1)
choose_or_takes {B} b other (a ∷ arms) good n left y rest f alone e =
    elim (chosen (eqb n a.0) (a.1 left) (choose_or arms other n left) (Some (y, rest)) e) [
      | inl q ↦ let t = good.0.takes left y rest f q.1 in (ap (λ (k : ℕ). spelling.number k ++ left) (eqb-true n a.0 q.0) ∙ t.0, t.1, t.2)
      | inr q ↦ choose_or_takes b other arms good.1 n left y rest f (λ others. alone (eqb-false n a.0 q.0, others)) q.1
    ]

-- a union of arms, each of which is read again, and of a number alone where no arm has it
pub is_union_or : {B : Type 0} (spell : B → List ℕ) (Fits : B → Type 0) (arms : List (ℕ × (List ℕ → Option (B × List ℕ)))) (other : ℕ → B)
    → AllByRecursion (IsArm (union_or spell Fits arms other)) arms
    → ((n : ℕ) → n < 2 ^ 32 → AllByRecursion (λ a. n ≢ a.0) arms → (spell (other n) ≡ spelling.number n) × Fits (other n))
    → ((y : B) (rest : List ℕ) → Fits y
    → (k : ℕ) × (left : List ℕ) × (k < 2 ^ 32) × (spell y ++ rest ≡ spelling.number k ++ left) × (choose_or arms other k left ≡ Some (y, rest)))
    → IsCodec (union_or spell Fits arms other)
is_union_or spell Fits arms other good alone back = record {
  takes = λ bytes y rest fits e.
      let s = bind_some (number_at bytes) (λ n. choose_or arms other n.0 n.1) (y, rest) e in
      let t = is_number.takes bytes s.0.0 s.0.1 fits s.1 in
      let u = choose_or_takes (union_or spell Fits arms other) other arms good s.0.0 s.0.1 y rest t.1 (alone s.0.0 t.2) s.2 in
      (t.0 ∙ u.0, u.1, u.2);
  again = λ y rest fits.
      let b = back y rest fits in
      ap (λ (w : List ℕ). (union_or spell Fits arms other).read w) b.3 ∙ rw (is_number.again b.0 b.1 b.2) b.4;
}

pub is_time : IsCodec time
unfolding time
is_time = is_as_type _ _ _ (λ _. refl) (is_then _ _ is_signed is_number)

-- Going over items that are not looked at, as a loop does.

passed_more : {A : Type 0} (x : A) (r : Option (List A × List ℕ)) → passed (r >>= λ xs. Some (x ∷ xs.0, xs.1)) ≡ passed r
passed_more x None = refl
passed_more x (Some xs) = refl

passed_one : {A : Type 0} (read : List ℕ → Option (A × List ℕ)) (n : ℕ) (r : Option (A × List ℕ)) (u : Unit {0}) (rest : List ℕ) → passed r ≡ Some (u, rest)
    → passed (r >>= λ x. many_at read n x.1 >>= λ xs. Some (x.0 ∷ xs.0, xs.1)) ≡ passed (many_at read n rest)
passed_one read n None u rest e = absurd cc
passed_one read n (Some x) u rest e = passed_more x.0 (many_at read n x.1)
    ∙ ap (λ (p : Unit {0} × List ℕ). passed (many_at read n p.1)) (same_Some (tt, x.1) (u, rest) e)

passed_none : {A : Type 0} (read : List ℕ → Option (A × List ℕ)) (n : ℕ) (r : Option (A × List ℕ))
    → passed r ≡ None → passed (r >>= λ x. many_at read n x.1 >>= λ xs. Some (x.0 ∷ xs.0, xs.1)) ≡ None
passed_none read n None e = refl
passed_none read n (Some x) e = absurd cc

pub many_refused : {A : Type 0} (read : List ℕ → Option (A × List ℕ)) (count i : ℕ) (bytes : List ℕ) (whole : Option (Unit {0} × List ℕ))
    → i < count → passed (read bytes) ≡ None → passed (many_at read (count - i) bytes) ≡ whole → whole ≡ None
many_refused read count i bytes whole lt e so_far =
    let k : count - i ≡ suc (count - (i + 1)) = omega arith in
    sym so_far ∙ rw k (passed_none read (count - (i + 1)) (read bytes) e)

pub many_passed : {A : Type 0} (read : List ℕ → Option (A × List ℕ)) (count i : ℕ) (bytes : List ℕ) (u : Unit {0}) (rest : List ℕ)
    (whole : Option (Unit {0} × List ℕ)) → i < count → passed (read bytes) ≡ Some (u, rest)
    → passed (many_at read (count - i) bytes) ≡ whole → passed (many_at read (count - (i + 1)) rest) ≡ whole
many_passed read count i bytes u rest whole lt e so_far =
    let k : count - i ≡ suc (count - (i + 1)) = omega arith in
    let one : passed (many_at read (count - i) bytes) ≡ passed (many_at read (count - (i + 1)) rest) =
    rw k (passed_one read (count - (i + 1)) (read bytes) u rest e) in
    sym one ∙ so_far

pub many_over : {A : Type 0} (read : List ℕ → Option (A × List ℕ)) (count i : ℕ) (bytes : List ℕ) (whole : Option (Unit {0} × List ℕ))
    → count ≤ i → passed (many_at read (count - i) bytes) ≡ whole → whole ≡ Some (tt, bytes)
many_over read count i bytes whole le so_far =
    let k : count - i ≡ 0 = omega arith in
    sym so_far ∙ rw k refl

-- Unions of values that are listed.

pub is_union_by : {K B : Type 0} (number_of : K → ℕ) (all : List K) (spell : B → List ℕ) (Fits : B → Type 0) (arms : K → List ℕ → Option (B × List ℕ))
    → IsListing number_of all → ((k : K) → IsArm (union_by number_of all spell Fits arms) (number_of k, arms k))
    → ((y : B) (rest : List ℕ) → Fits y
    → (k : K) × (left : List ℕ) × (spell y ++ rest ≡ spelling.number (number_of k) ++ left) × (arms k left ≡ Some (y, rest)))
    → IsCodec (union_by number_of all spell Fits arms)
is_union_by {K} {B} number_of all spell Fits arms is good back = record {
  takes = λ bytes y rest fits e.
      let s = bind_some (number_at bytes) (λ n. listed_at number_of all n.0 >>= λ k. arms k n.1) (y, rest) e in
      let u = bind_some (listed_at number_of all s.0.0) (λ k. arms k s.0.1) (y, rest) s.2 in
      let t = is_number.takes bytes s.0.0 s.0.1 fits s.1 in
      let v = (good u.0).takes s.0.1 y rest t.1 u.2 in
      (t.0 ∙ ap (λ (n : ℕ). spelling.number n ++ s.0.1) (listed_number number_of all s.0.0 u.0 u.1) ∙ v.0, v.1, v.2);
  again = λ y rest fits.
      let b = back y rest fits in
      ap (λ (w : List ℕ). (union_by number_of all spell Fits arms).read w) b.2 ∙ rw (is_number.again (number_of b.0) b.1 (is.small b.0), is.found b.0) b.3;
}
