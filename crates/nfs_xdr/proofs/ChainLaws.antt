-- A linked list is read exactly where it is spelled.
use Rattle.std.proofs.Common.{◌≡◌, ℕ, zero, suc, ◌+◌, ◌-◌, ◌<◌, ◌≤◌, Bool, true, false, cond, List, [], ◌∷◌, ◌++◌, length, Option, Some, None, subst, refl, sym}
use Rattle.std.proofs.{Common.{ap, ◌∙◌, append_assoc, arith}, lemmas.Option.same_Some, lemmas.List.length-append}
use Rattle.std.specs.List.{AllByRecursion}
use Rattle.nfs_xdr.specs.Spelling as spelling
use Rattle.nfs_xdr.specs.{Reading.{◌>>=◌, flag_at}, Codec.Codec, Text.IsBytes, Lawful.IsCodec, Combinators.passed, Chain.{spell_chain, chain_at, chain}}
use Rattle.nfs_xdr.proofs.{Putting.length_number, CodecLaws.{bind_some, is_flag}}

record IsChain {A : Type 0} (c : Codec A) (bytes : List ℕ) (xs : List A) (rest : List ℕ) : Type 0 where
  pub spelled : bytes ≡ spell_chain c.spell xs ++ rest
  pub left : IsBytes rest
  pub fits : AllByRecursion c.Fits xs

-- the value that is known by an equation
chain_is : {A : Type 0} (c : Codec A) (bytes : List ℕ) (xs ys : List A) (r s : List ℕ)
    → ◌≡◌ {A = Option (List A × List ℕ)} (Some (xs, r)) (Some (ys, s)) → IsChain c bytes xs r → IsChain c bytes ys s
chain_is {A} c bytes xs ys r s e t = subst (λ (p : List A × List ℕ). IsChain c bytes p.0 p.1) (same_Some (xs, r) (ys, s) e) t

-- what stands behind a flag
more_takes : {A : Type 0} (c : Codec A) → IsCodec c → (n : ℕ)
    → ((left : List ℕ) (xs : List A) (rest : List ℕ) → IsBytes left → chain_at c.read n left ≡ Some (xs, rest) → IsChain c left xs rest)
    → (bytes : List ℕ) (there : Bool) (left : List ℕ) (xs : List A) (rest : List ℕ) → bytes ≡ spelling.flag there ++ left → IsBytes left
    → cond {A = Option (List A × List ℕ)} there (c.read left >>= λ x. chain_at c.read n x.1 >>= λ ys. Some (x.0 ∷ ys.0, ys.1)) (Some ([], left))
    ≡ Some (xs, rest) → IsChain c bytes xs rest
more_takes c p n others bytes false left xs rest front f e = chain_is c bytes [] xs left rest e (record { spelled = front; left = f; fits = tt })
more_takes c p n others bytes true left xs rest front f e =
    let s = bind_some (c.read left) (λ x. chain_at c.read n x.1 >>= λ ys. Some (x.0 ∷ ys.0, ys.1)) (xs, rest) e in
    let t = bind_some (chain_at c.read n s.0.1) (λ ys. Some (s.0.0 ∷ ys.0, ys.1)) (xs, rest) s.2 in
    let first = p.takes left s.0.0 s.0.1 f s.1 in
    let second = others s.0.1 t.0.0 t.0.1 first.1 t.1 in
    let tail : left ≡ (c.spell s.0.0 ++ spell_chain c.spell t.0.0) ++ t.0.1 =
    first.0 ∙ ap (λ (w : List ℕ). c.spell s.0.0 ++ w) second.spelled ∙ sym (append_assoc (c.spell s.0.0) (spell_chain c.spell t.0.0) t.0.1) in
    chain_is c bytes (s.0.0 ∷ t.0.0) xs t.0.1 rest t.2
    (record {
      spelled = front ∙ ap (λ (w : List ℕ). spelling.flag true ++ w) tail
          ∙ sym (append_assoc (spelling.flag true) (c.spell s.0.0 ++ spell_chain c.spell t.0.0) t.0.1);
      left = second.left;
      fits = (first.2, second.fits);
    })

chain_takes : {A : Type 0} (c : Codec A) → IsCodec c → (n : ℕ) (bytes : List ℕ) (xs : List A) (rest : List ℕ)
    → IsBytes bytes → chain_at c.read n bytes ≡ Some (xs, rest) → IsChain c bytes xs rest
unfolding chain_at
chain_takes c p zero bytes xs rest fits e = absurd cc
chain_takes {A} c p (suc n) bytes xs rest fits e =
    let s = bind_some (flag_at bytes) (λ more. cond {A = Option (List A × List ℕ)} more.0
    (c.read more.1 >>= λ x. chain_at c.read n x.1 >>= λ ys. Some (x.0 ∷ ys.0, ys.1)) (Some ([], more.1))) (xs, rest) e in
    let t = is_flag.takes bytes s.0.0 s.0.1 fits s.1 in
    more_takes c p n (chain_takes c p n) bytes s.0.0 s.0.1 xs rest t.0 t.1 s.2

chain_again : {A : Type 0} (c : Codec A) → IsCodec c → (xs : List A) (n : ℕ) (rest : List ℕ) → length xs < n
    → AllByRecursion c.Fits xs → chain_at c.read n (spell_chain c.spell xs ++ rest) ≡ Some (xs, rest)
unfolding chain_at
chain_again c p [] zero rest lt fits = absurd (omega (arith, lt))
chain_again c p [] (suc n) rest lt fits = rw (is_flag.again false rest tt) refl
chain_again c p (x ∷ xs) zero rest lt fits = absurd (omega (arith, lt))
chain_again {A} c p (x ∷ xs) (suc n) rest lt fits =
    let others : List ℕ = spell_chain c.spell xs ++ rest in
    let parts : spell_chain c.spell (x ∷ xs) ++ rest ≡ spelling.flag true ++ (c.spell x ++ others) =
    append_assoc (spelling.flag true) (c.spell x ++ spell_chain c.spell xs) rest
    ∙ ap (λ (w : List ℕ). spelling.flag true ++ w) (append_assoc (c.spell x) (spell_chain c.spell xs) rest) in
    ap (λ (w : List ℕ). chain_at c.read (suc n) w) parts
    ∙ rw (is_flag.again true (c.spell x ++ others) tt, p.again x others fits.0, chain_again c p xs n rest (omega (arith, lt)) fits.1) refl

-- there are more bytes than items
pub longer : {A : Type 0} (spell : A → List ℕ) (xs : List A) → length xs < length (spell_chain spell xs)
longer spell [] = omega (arith, length_number 0)
longer spell (x ∷ xs) = omega (
  arith,
  longer spell xs,
  length_number 1,
  length-append (spelling.number 1) (spell x ++ spell_chain spell xs),
  length-append (spell x) (spell_chain spell xs),
)

pub is_chain : {A : Type 0} (c : Codec A) → IsCodec c → IsCodec (chain c)
is_chain c p = record {
  takes = λ bytes xs rest fits e. let t = chain_takes c p (length bytes) bytes xs rest fits e in (t.spelled, t.left, t.fits);
  again = λ xs rest fits. chain_again c p xs (length (spell_chain c.spell xs ++ rest)) rest
      (omega (arith, longer c.spell xs, length-append (spell_chain c.spell xs) rest)) fits;
}

-- Going over a chain whose items are not looked at, as a loop does.

-- what is read behind a flag
abbrev behind_flag : {A : Type 0} → (List ℕ → Option (A × List ℕ)) → ℕ → Option (Bool × List ℕ) → Option (List A × List ℕ)
behind_flag {A} read n flag =
    flag >>= λ more. cond {A = Option (List A × List ℕ)} more.0 (read more.1 >>= λ x. chain_at read n x.1 >>= λ xs. Some (x.0 ∷ xs.0, xs.1)) (Some ([], more.1))

one_flag : {A : Type 0} (read : List ℕ → Option (A × List ℕ)) (n : ℕ) (bytes : List ℕ) → chain_at read (suc n) bytes ≡ behind_flag read n (flag_at bytes)
unfolding chain_at
one_flag read n bytes = refl

no_flag : {A : Type 0} (read : List ℕ → Option (A × List ℕ)) (bytes : List ℕ) → chain_at read 0 bytes ≡ None
unfolding chain_at
no_flag read bytes = refl

passed_more : {A : Type 0} (x : A) (r : Option (List A × List ℕ)) → passed (r >>= λ xs. Some (x ∷ xs.0, xs.1)) ≡ passed r
passed_more x None = refl
passed_more x (Some xs) = refl

step : {A : Type 0} (read : List ℕ → Option (A × List ℕ)) (n i : ℕ) (bytes : List ℕ) → i < n
    → passed (chain_at read (n - i) bytes) ≡ passed (behind_flag read (n - (i + 1)) (flag_at bytes))
step read n i bytes lt = let k : n - i ≡ suc (n - (i + 1)) = omega arith in rw k (ap passed (one_flag read (n - (i + 1)) bytes))

pub chain_unflagged : {A : Type 0} (read : List ℕ → Option (A × List ℕ)) (n i : ℕ) (bytes : List ℕ) (whole : Option (Unit {0} × List ℕ))
    → i < n → flag_at bytes ≡ None → passed (chain_at read (n - i) bytes) ≡ whole → whole ≡ None
chain_unflagged read n i bytes whole lt flag so_far = sym so_far ∙ step read n i bytes lt ∙ rw flag refl

pub chain_ended : {A : Type 0} (read : List ℕ → Option (A × List ℕ)) (n i : ℕ) (bytes rest : List ℕ) (whole : Option (Unit {0} × List ℕ))
    → i < n → flag_at bytes ≡ Some (false, rest) → passed (chain_at read (n - i) bytes) ≡ whole → whole ≡ Some (tt, rest)
chain_ended read n i bytes rest whole lt flag so_far = sym so_far ∙ step read n i bytes lt ∙ rw flag refl

pub chain_unread : {A : Type 0} (read : List ℕ → Option (A × List ℕ)) (n i : ℕ) (bytes left : List ℕ) (whole : Option (Unit {0} × List ℕ))
    → i < n → flag_at bytes ≡ Some (true, left) → read left ≡ None → passed (chain_at read (n - i) bytes) ≡ whole → whole ≡ None
chain_unread read n i bytes left whole lt flag none so_far = sym so_far ∙ step read n i bytes lt ∙ rw (flag, none) refl

pub chain_passed : {A : Type 0} (read : List ℕ → Option (A × List ℕ))
    (n i : ℕ) (bytes left : List ℕ) (x : A) (rest : List ℕ) (whole : Option (Unit {0} × List ℕ))
    → i < n → flag_at bytes ≡ Some (true, left) → read left ≡ Some (x, rest)
    → passed (chain_at read (n - i) bytes) ≡ whole → passed (chain_at read (n - (i + 1)) rest) ≡ whole
chain_passed read n i bytes left x rest whole lt flag item so_far =
    let one : passed (chain_at read (n - i) bytes) ≡ passed (chain_at read (n - (i + 1)) rest) =
    step read n i bytes lt ∙ rw (flag, item) (passed_more x (chain_at read (n - (i + 1)) rest)) in
    sym one ∙ so_far

pub chain_over : {A : Type 0} (read : List ℕ → Option (A × List ℕ)) (n i : ℕ) (bytes : List ℕ) (whole : Option (Unit {0} × List ℕ))
    → n ≤ i → passed (chain_at read (n - i) bytes) ≡ whole → whole ≡ None
chain_over read n i bytes whole le so_far = let k : n - i ≡ 0 = omega arith in sym so_far ∙ rw (k, no_flag read bytes) refl
