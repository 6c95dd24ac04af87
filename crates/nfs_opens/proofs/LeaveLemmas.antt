-- Lock states that leave go one after the other.
use Rattle.std.proofs.Common.{◌≡◌, inl, inr, ℕ, suc, ◌<◌, ◌≤◌, Bool, true, false, not, List, [], ◌∷◌, length, Some, None, refl, sym, ◌∙◌, ap, arith}
use Rattle.std.proofs.lemmas.Bool.{cases_Bool, eq-eqb, ne_eqb, false≢true}
use Rattle.std.specs.Prelude.{◌==◌, find, filter}
use Rattle.nfs_xdr.specs.Tables.{IsRising, In}
use Rattle.nfs_xdr.proofs.{Lists.{find_in, none_in, filter_all, filter_past, length_fewer}, Tables.{in_bounds, in_once}}
use Rattle.nfs_ranges.specs.Holders.{dropped}
use Rattle.nfs_opens.specs.{declared.records.LockState.LockState, Holding.{FileHolders, on_file}, TableInvariants.Rises, Calls.held_without}
use Rattle.nfs_opens.proofs.LockLemmas.{without_none_leaves}

abbrev number_of : LockState → ℕ
number_of l = l.number

abbrev but : ℕ → LockState → Bool
but n l = not (l.number == n)

-- the first that passes has the lowest number
least_found : (q : LockState → Bool) (low high : ℕ) (xs : List LockState) (l k : LockState) → IsRising number_of low xs high → find q xs ≡ Some l → In k xs
    → q k ≡ true → l.number ≤ k.number
least_found q low high [] l k r found there passes = absurd there
least_found q low high (x ∷ xs) l k r found there passes =
    elim (cases_Bool (q x)) [
      | inl first ↦
          (let is_some : Some x ≡ Some l = rw first at found in
          let is : x ≡ l = cc in
          let same : x.number ≡ l.number = ap number_of is in
          elim there [
            | inl here ↦ (let at : k.number ≡ x.number = ap number_of here in omega arith)
            | inr more ↦ (let up = (in_bounds number_of (suc x.number) high xs k r.1 more).0 in omega arith)
          ])
      | inr fails ↦
          (let rest : find q xs ≡ Some l = rw fails at found in
          elim there [
            | inl here ↦ absurd (false≢true (sym fails ∙ (ap q (sym here) ∙ passes)))
            | inr more ↦ least_found q (suc x.number) high xs l k r.1 rest more passes
          ])
    ]

-- where only one with a number has it, the others stay
others_stay : (n low high : ℕ) (xs : List LockState) → IsRising number_of low xs high → n < low → filter (but n) xs ≡ xs
others_stay n low high xs r below = filter_all (but n) xs
    (λ x there. let up = (in_bounds number_of low high xs x r there).0 in ap not (ne_eqb x.number n (λ e. absurd (omega arith))))

-- the first that leaves goes before the rest
first_leaves : (p : LockState → Bool) (low high : ℕ) (xs : List LockState) (l : LockState) (held : FileHolders) → IsRising number_of low xs high → In l xs
    → p l ≡ true → ((k : LockState) → In k xs → k.number < l.number → p k ≡ false)
    → held_without p (filter (but l.number) xs) (on_file held l.file (λ h. dropped h l.number)) ≡ held_without p xs held
first_leaves p low high [] l held r there passes none = absurd there
first_leaves p low high (x ∷ xs) l held r (inl is) passes none =
    let same : x.number ≡ l.number = ap number_of (sym is) in
    let goes : (x.number == l.number) ≡ true = eq-eqb x.number l.number same in
    let leaves : p x ≡ true = ap p (sym is) ∙ passes in
    let rest : filter (but l.number) xs ≡ xs = others_stay l.number (suc x.number) high xs r.1 (omega arith) in
    rw (goes, leaves, rest) (ap (λ (k : LockState). held_without p xs (on_file held k.file (λ h. dropped h k.number))) is)
first_leaves p low high (x ∷ xs) l held r (inr more) passes none =
    let up = (in_bounds number_of (suc x.number) high xs l r.1 more).0 in
    let stays : (x.number == l.number) ≡ false = ne_eqb x.number l.number (λ e. absurd (omega arith)) in
    let kept : p x ≡ false = none x (inl refl) (omega arith) in
    rw (stays, kept) (first_leaves p (suc x.number) high xs l held r.1 more passes (λ k there. none k (inr there)))

-- what a walk has come to, in which the first that leaves goes, and the first of those that are left, and so on
pub record IsLeft (p : LockState → Bool) (old : List LockState) (before : FileHolders) (locks : List LockState) (held : FileHolders) : Type 0 where
  pub stay : filter (λ l. not (p l)) locks ≡ filter (λ l. not (p l)) old
  pub bytes : held_without p locks held ≡ held_without p old before

module _ (p : LockState → Bool) (old : List LockState) (before : FileHolders) (locks : List LockState) (held : FileHolders) (is : IsLeft p old before locks held) where
  pub left_gone : (l : LockState) (locks' : List LockState) (held' : FileHolders) → Rises (λ l. l.number) 1 locks → find p locks ≡ Some l
      → locks' ≡ filter (but l.number) locks → held' ≡ on_file held l.file (λ h. dropped h l.number) → IsLeft p old before locks' held'
  left_gone l locks' held' rises found made put =
      let (there, leaves) = find_in p locks l found in record {
        stay = ap (filter (λ (l : LockState). not (p l))) made
            ∙ (filter_past (λ (l : LockState). not (p l)) (but l.number) locks
            (λ k in_k stays. ap not (ne_eqb k.number l.number (λ same. absurd (false≢true (sym (ap not
            (ap p (in_once number_of 1 rises.0 locks k l rises.1 in_k there same) ∙ leaves)) ∙ stays)))))
            ∙ is.stay);
        bytes = ap (λ (ls : List LockState). held_without p ls held') made
            ∙ (ap (held_without p (filter (but l.number) locks)) put
            ∙ (first_leaves p 1 rises.0 locks l held rises.1 there leaves (λ k in_k less. elim (cases_Bool (p k)) [
              | inr stays ↦ stays
              | inl goes ↦ (let least = least_found p 1 rises.0 locks l k rises.1 found in_k goes in absurd (omega arith))
            ])
            ∙ is.bytes));
      }

  pub left_locks : find p locks ≡ None → locks ≡ filter (λ l. not (p l)) old
  left_locks none = sym (filter_all (λ (l : LockState). not (p l)) locks (λ k there. ap not (none_in p locks k none there))) ∙ is.stay

  pub left_bytes : find p locks ≡ None → held ≡ held_without p old before
  left_bytes none = sym (without_none_leaves p locks held (λ k there. none_in p locks k none there)) ∙ is.bytes

-- fewer are left
pub fewer_gone : (p : LockState → Bool) (locks locks' : List LockState) (l : LockState) → find p locks ≡ Some l → locks' ≡ filter (but l.number) locks
    → length locks' < length locks
fewer_gone p locks locks' l found made =
    let less = length_fewer (but l.number) locks l (find_in p locks l found).0 (ap not (eq-eqb l.number l.number refl)) in
    let same = ap (λ (ls : List LockState). length ls) made in omega arith
