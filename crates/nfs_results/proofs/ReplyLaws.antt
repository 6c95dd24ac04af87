-- Reading the result of a compound, one result after the other.
use Rattle.std.proofs.Common.{◌≡◌, ℕ, zero, suc, ◌+◌, ◌-◌, ◌<◌, Bool, true, false, eqb, List, [], ◌∷◌, length, append-nil, Option, Some, None, Result, Ok, Err}
use Rattle.std.proofs.{Common.{refl, sym, ap, ◌∙◌, arith}, lemmas.Bool.{eqb-true, false≢true}, lemmas.List.nil_from_length}
use Rattle.std.specs.Prelude.{IfOk, OnErr, MatchResult}
use Rattle.nfs_xdr.proofs.CodecLaws.{test_some}
use Rattle.nfs_xdr.specs.{declared.cursor.Unreadable.Unreadable, Reading.{◌>>=◌, number_at, opaque_at}, Codec.many_at, Text.IsBytes}
use Rattle.nfs_xdr.specs.{declared.status.Status.Status, StatusCodec.status}
use Rattle.nfs_results.specs.{declared.res.Res.Res, ResultCodec.result, CompoundResult.{CompoundResult, spell_compound, compound_result, IsReply, IsNoReply}}
use Rattle.nfs_results.specs.ReadReply.{whole, is_whole, results_left}
use Rattle.nfs_results.proofs.CompoundLaws.{is_compound}

-- one result in front of others changes nothing about what stands behind them
in_front : (x : Res) (r : Option (List Res × List ℕ)) → is_whole (r >>= λ xs. Some (x ∷ xs.0, xs.1)) ≡ is_whole r
in_front x None = refl
in_front x (Some xs) = refl

pub one_more : (count i : ℕ) (bytes : List ℕ) (x : Res) (rest : List ℕ) (all : Bool) → i < count
    → result.read bytes ≡ Some (x, rest) → is_whole (many_at result.read (count - i) bytes) ≡ all
    → is_whole (many_at result.read (count - (i + 1)) rest) ≡ all
one_more count i bytes x rest all lt read so_far =
    let left : count - i ≡ suc (count - (i + 1)) = omega arith in
    let same : is_whole (many_at result.read (count - i) bytes) ≡ is_whole (many_at result.read (count - (i + 1)) rest) =
    rw (left, read) (in_front x (many_at result.read (count - (i + 1)) rest)) in
    sym same ∙ so_far

-- where one cannot be read, not all stand whole
pub one_less : (count i : ℕ) (bytes : List ℕ) (all : Bool) → i < count
    → result.read bytes ≡ None → is_whole (many_at result.read (count - i) bytes) ≡ all → false ≡ all
one_less count i bytes all lt none so_far =
    let left : count - i ≡ suc (count - (i + 1)) = omega arith in
    let same : is_whole (many_at result.read (count - i) bytes) ≡ false = rw (left, none) refl in
    sym same ∙ so_far

at_end : (bytes : List ℕ) → is_whole {A = List Res} (Some ([], bytes)) ≡ true → ◌≡◌ {A = Option (List Res × List ℕ)} (Some ([], bytes)) (Some ([], []))
at_end bytes e = ap (λ (w : List ℕ). Some ([], w)) (nil_from_length bytes (eqb-true (length bytes) 0 e))

step_left : (n : ℕ) (bytes : List ℕ) (r : Option (Res × List ℕ))
    → ((rest : List ℕ) → is_whole (many_at result.read n rest) ≡ true → many_at result.read n rest ≡ Some (results_left n rest, [])) → result.read bytes ≡ r
    → is_whole (many_at result.read (suc n) bytes) ≡ true → many_at result.read (suc n) bytes ≡ Some (results_left (suc n) bytes, [])
unfolding results_left
step_left n bytes None more read e = let one : is_whole (many_at result.read (suc n) bytes) ≡ false = rw read refl in absurd (false≢true (sym one ∙ e))
step_left n bytes (Some x) more read e =
    let same : is_whole (many_at result.read (suc n) bytes) ≡ is_whole (many_at result.read n x.1) = rw read (in_front x.0 (many_at result.read n x.1)) in
    rw (read, more x.1 (sym same ∙ e)) refl

-- what is left of results that stand whole is all of them
pub all_left : (n : ℕ) (bytes : List ℕ) → is_whole (many_at result.read n bytes) ≡ true → many_at result.read n bytes ≡ Some (results_left n bytes, [])
unfolding results_left
all_left zero bytes e = at_end bytes e
all_left (suc n) bytes e = step_left n bytes (result.read bytes) (all_left n) refl e

pub none_left : (n : ℕ) (bytes : List ℕ) → n ≡ 0 → results_left n bytes ≡ []
unfolding results_left
none_left n bytes e = rw e refl

pub unread_left : (n : ℕ) (bytes : List ℕ) → result.read bytes ≡ None → results_left n bytes ≡ []
unfolding results_left
unread_left zero bytes e = refl
unread_left (suc n) bytes e = rw e refl

pub more_left : (n : ℕ) (bytes : List ℕ) (x : Res) (rest : List ℕ) → (n ≡ 0 → ⊥)
    → result.read bytes ≡ Some (x, rest) → results_left n bytes ≡ x ∷ results_left (n - 1) rest
unfolding results_left
more_left zero bytes x rest some read = absurd (some refl)
more_left (suc n) bytes x rest some read = rw (read, same) refl
  where
    same : suc n - 1 ≡ n
    same = omega arith

-- a head and whole results behind it
pub reply_from : (bytes : List ℕ) (s : Status) (r tag t : List ℕ) (n : ℕ) (u : List ℕ) → status.read bytes ≡ Some (s, r)
    → opaque_at 1024 r ≡ Some (tag, t) → number_at t ≡ Some (n, u) → is_whole (many_at result.read n u) ≡ true
    → whole (compound_result.read bytes) ≡ Some (record { status = s; tag = tag; results = results_left n u })
reply_from bytes s r tag t n u h i j k = rw (h, i, j, all_left n u k) refl

whole_some : (r : Option (CompoundResult × List ℕ)) (c : CompoundResult) → whole r ≡ Some c → r ≡ Some (c, [])
whole_some None c e = absurd cc
whole_some (Some x) c e =
    let t = test_some (eqb (length x.1) 0) (Some x.0) c e in
    ap (λ (w : List ℕ). Some (x.0, w)) (nil_from_length x.1 (eqb-true (length x.1) 0 t.0)) ∙ ap (λ (r : Option CompoundResult). r >>= λ y. Some (y, [])) t.1

pub is_found : (bytes : List ℕ) (r : Result CompoundResult Unreadable) → IsBytes bytes
    → MatchResult r (λ c. whole (compound_result.read bytes) ≡ Some c) (λ _. whole (compound_result.read bytes) ≡ None) → IfOk r (λ c. IsReply bytes c)
is_found bytes (Ok c) fits e = let t = is_compound.takes bytes c [] fits (whole_some _ c e) in (t.0 ∙ append-nil (spell_compound c), t.2)
is_found bytes (Err g) fits e = tt

pub is_none : (bytes : List ℕ) (r : Result CompoundResult Unreadable)
    → MatchResult r (λ c. whole (compound_result.read bytes) ≡ Some c) (λ _. whole (compound_result.read bytes) ≡ None) → OnErr r (IsNoReply bytes)
is_none bytes (Ok c) e = tt
is_none bytes (Err g) e = λ c fits same.
    let read : whole (compound_result.read bytes) ≡ Some c =
    ap (λ (w : List ℕ). whole (compound_result.read w)) (same ∙ sym (append-nil (spell_compound c))) ∙ ap whole (is_compound.again c [] fits) in
    none≢some c (sym e ∙ read)
  where
    none≢some : (c : CompoundResult) → None ≡ Some c → ⊥
    none≢some c e = cc
