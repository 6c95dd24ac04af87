-- Pairs in their order, what stands before and behind a place, what one that comes or goes leaves; and a walk over the states that belong to one file.
use Rattle.std.proofs.Common.{◌≡◌, ◌≢◌, ◌⊎◌, inl, inr, ℕ, suc, ◌<◌, ◌≤◌, Bool, true, false, not, List, [], ◌∷◌, ◌++◌, map}
use Rattle.std.proofs.Common.{Option, Some, None, refl, sym, ◌∙◌, ap, subst, arith}
use Rattle.std.proofs.lemmas.Bool.{cases_Bool, cases_lt, eq-eqb, ne_eqb, eqb-true, lt-ltb, le-ltb, ltb-true, and_parts, false≢true}
use Rattle.std.specs.{Prelude.{◌==◌, ◌&&◌, ◌||◌, nat_lt, is_some, find, filter, if◌then◌else◌}, List.{list_any}}
use Rattle.nfs_xdr.specs.Tables.{IsRising, In}
use Rattle.nfs_xdr.proofs.Lists.{in_filter, stays_in, in_map, map_in, in_push, push_in, last_in, find_in, find_none, none_in, in_any}
use Rattle.nfs_xdr.proofs.Tables.{in_bounds, in_once, without_none}
use Rattle.nfs_opens.specs.{declared.index.Pair.Pair, Index.{Precedes, IsAscending, pair_of, is_before, IsNext, HasPut, HasTaken, IsIndex}, Blocks.{IsParted, found, added, removed}}
use Rattle.nfs_opens.proofs.BlockLemmas.{added_behind_one, added_first, found_behind_one, found_first, found_not, removed_behind_one, removed_first}

-- Of two pairs one precedes the other, or they are the same.

same_pair : (p q : Pair) → p.of ≡ q.of → p.number ≡ q.number → p ≡ q
same_pair p q o n = ap (λ (k : ℕ). pair_of k p.number) o ∙ ap (λ (k : ℕ). pair_of q.of k) n

compared : (p x : Pair) → Precedes p x ⊎ ((p ≡ x) ⊎ Precedes x p)
compared p x =
    elim (cases_lt p.of x.of) [
      | inl low ↦ inl (inl low)
      | inr not_low ↦ elim (cases_lt x.of p.of) [
        | inl high ↦ inr (inr (inl high))
        | inr not_high ↦ (let same : p.of ≡ x.of = omega arith in elim (cases_lt p.number x.number) [
          | inl less ↦ inl (inr (same, less))
          | inr not_less ↦ elim (cases_lt x.number p.number) [
            | inl more ↦ inr (inr (inr (sym same, more)))
            | inr not_more ↦ inr (inl (same_pair p x same (omega arith)))
          ]
        ])
      ]
    ]

never_itself : (p q : Pair) → Precedes p q → p ≢ q
never_itself p q (inl low) e = let o : p.of ≡ q.of = ap (λ (r : Pair). r.of) e in absurd (omega arith)
never_itself p q (inr less) e = let n : p.number ≡ q.number = ap (λ (r : Pair). r.number) e in let lt = less.1 in absurd (omega arith)

carried : (p q r : Pair) → Precedes p q → Precedes q r → Precedes p r
carried p q r (inl a) (inl b) = inl (omega arith)
carried p q r (inl a) (inr b) = let o = b.0 in inl (omega arith)
carried p q r (inr a) (inl b) = let o = a.0 in inl (omega arith)
carried p q r (inr a) (inr b) = let m = a.1 in let n = b.1 in inr (a.0 ∙ b.0, omega arith)

-- What the test says.

neither_way : (too : Bool) → (too && false) ≡ false
neither_way true = refl
neither_way false = refl

tested : (of number : ℕ) (too : Bool) (p : Pair) → p.of ≡ of → is_before of number too p ≡ (nat_lt p.number number || (too && (p.number == number)))
tested of number too p same =
    let not_low : nat_lt p.of of ≡ false = le-ltb p.of of (omega arith) in
    let here : (p.of == of) ≡ true = eq-eqb p.of of same in
    rw (not_low, here) refl

before_is : (p x : Pair) (too : Bool) → Precedes p x → is_before x.of x.number too p ≡ true
before_is p x too (inl low) = let less : nat_lt p.of x.of ≡ true = lt-ltb p.of x.of low in rw less refl
before_is p x too (inr less) =
    let lower : nat_lt p.number x.number ≡ true = lt-ltb p.number x.number less.1 in tested x.of x.number too p less.0 ∙ rw lower refl

behind_is : (p x : Pair) (too : Bool) → Precedes x p → is_before x.of x.number too p ≡ false
behind_is p x too (inl low) =
    let not_low : nat_lt p.of x.of ≡ false = le-ltb p.of x.of (omega arith) in
    let other : (p.of == x.of) ≡ false = ne_eqb p.of x.of (λ e. absurd (omega arith)) in
    rw (not_low, other) refl
behind_is p x too (inr more) =
    let up = more.1 in
    let not_lower : nat_lt p.number x.number ≡ false = le-ltb p.number x.number (omega arith) in
    let other : (p.number == x.number) ≡ false = ne_eqb p.number x.number (λ e. absurd (omega arith)) in
    tested x.of x.number too p (sym more.0) ∙ rw (not_lower, other) (neither_way too)

itself_is : (x : Pair) (too : Bool) → is_before x.of x.number too x ≡ too
itself_is x too =
    let not_lower : nat_lt x.number x.number ≡ false = le-ltb x.number x.number (omega arith) in
    let here : (x.number == x.number) ≡ true = eq-eqb x.number x.number refl in
    tested x.of x.number too x refl ∙ rw (not_lower, here) (both too)
  where
    both : (b : Bool) → (b && true) ≡ b
    both true = refl
    both false = refl

stays_before : (p q x : Pair) (too : Bool) → Precedes p q → is_before x.of x.number too q ≡ true → is_before x.of x.number too p ≡ true
stays_before p q x too lt e =
    elim (compared q x) [
      | inl low ↦ before_is p x too (carried p q x lt low)
      | inr rest ↦ elim rest [
        | inl same ↦ before_is p x too (subst (λ (r : Pair). Precedes p r) same lt)
        | inr high ↦ absurd (false≢true (sym (behind_is q x too high) ∙ e))
      ]
    ]

pub parted : (of number : ℕ) (too : Bool) (ps : List Pair) → IsAscending ps → IsParted (is_before of number too) ps
parted of number too [] order = tt
parted of number too (p ∷ ps) order = ((λ q there e. stays_before p q (pair_of of number) too (order.0 q there) e), parted of number too ps order.1)

-- The next number.

later : (of after : ℕ) (p : Pair) → p.of ≡ of → after < p.number → is_before of after true p ≡ false
later of after p same more = behind_is p (pair_of of after) true (inr (sym same, more))

beyond : (of after : ℕ) (p : Pair) → is_before of after true p ≡ false → Precedes (pair_of of after) p
beyond of after p off =
    elim (compared p (pair_of of after)) [
      | inl low ↦ absurd (false≢true (sym off ∙ before_is p (pair_of of after) true low))
      | inr rest ↦ elim rest [
        | inl same ↦ absurd (false≢true (sym off ∙ (ap (is_before of after true) same ∙ itself_is (pair_of of after) true)))
        | inr high ↦ high
      ]
    ]

-- one that stands before is not behind the number
not_later : (of after : ℕ) (p q : Pair) → is_before of after true p ≡ true → q ≡ p → q.of ≡ of → q.number ≤ after
not_later of after p q on is same =
    elim (cases_lt after q.number) [
      | inr no_more ↦ no_more
      | inl more ↦ absurd (false≢true (sym (later of after q same more) ∙ (ap (is_before of after true) is ∙ on)))
    ]

next_here : (of after : ℕ) (p : Pair) (ps : List Pair) → IsAscending (p ∷ ps) → is_before of after true p ≡ false → p.of ≡ of → IsNext (p ∷ ps) of after (Some p.number)
next_here of after p ps order off same = (
  inl (ap (λ (k : ℕ). pair_of k p.number) (sym same)),
  elim (beyond of after p off) [ inl low ↦ absurd (omega arith) | inr more ↦ more.1 ],
  (λ q there of_q up. elim there [
    | inl is ↦ (let n : q.number ≡ p.number = ap (λ (r : Pair). r.number) is in omega arith)
    | inr rear ↦ elim (order.0 q rear) [ inl low ↦ absurd (omega arith) | inr less ↦ (let lt = less.1 in omega arith) ]
  ]),
)

pub next_some : (of after : ℕ) (ps : List Pair) (h : Pair) → IsAscending ps → found (is_before of after true) (λ p. p.of == of) ps ≡ Some h
    → IsNext ps of after (Some h.number)
next_some of after [] h order e = absurd cc
next_some of after (p ∷ ps) h order e =
    let before : Pair → Bool = is_before of after true in
    let is : Pair → Bool = λ q. q.of == of in
    elim (cases_Bool (is_before of after true p)) [
      | inl on ↦ (let rest = next_some of after ps h order.1 (sym (found_behind_one before is p ps on) ∙ e) in (
        inr rest.0,
        rest.1,
        (λ q there same up. elim there [
          | inl here ↦ absurd (let le = not_later of after p q on here same in omega arith)
          | inr rear ↦ rest.2 q rear same up
        ]),
      ))
      | inr off ↦ elim (cases_Bool (p.of == of)) [
        | inl here ↦ (let same : Some p ≡ Some h = sym (found_first before is p ps off here) ∙ e in
            let at : p ≡ h = cc in
            subst (λ (r : Pair). IsNext (p ∷ ps) of after (Some r.number)) at (next_here of after p ps order off (eqb-true p.of of here)))
        | inr other ↦ absurd (let none : None ≡ Some h = sym (found_not before is p ps off other) ∙ e in cc)
      ]
    ]

pub next_none : (of after : ℕ) (ps : List Pair) → IsAscending ps → found (is_before of after true) (λ p. p.of == of) ps ≡ None → IsNext ps of after None
next_none of after [] order e q there same = absurd there
next_none of after (p ∷ ps) order e q there same =
    let before : Pair → Bool = is_before of after true in
    let is : Pair → Bool = λ r. r.of == of in
    elim (cases_Bool (is_before of after true p)) [
      | inl on ↦ elim there [
        | inl here ↦ not_later of after p q on here same
        | inr rear ↦ next_none of after ps order.1 (sym (found_behind_one before is p ps on) ∙ e) q rear same
      ]
      | inr off ↦ elim (cases_Bool (p.of == of)) [
        | inl here ↦ absurd (let some : Some p ≡ None = sym (found_first before is p ps off here) ∙ e in cc)
        | inr other ↦ absurd (past off (λ at. false≢true (sym other ∙ eq-eqb p.of of at)))
      ]
    ]
  where
    past : is_before of after true p ≡ false → p.of ≢ of → ⊥
    past off other = elim (beyond of after p off) [
      | inr near ↦ other (sym near.0)
      | inl high ↦ elim there [
        | inl here ↦ (let at : q.of ≡ p.of = ap (λ (r : Pair). r.of) here in omega arith)
        | inr rear ↦ elim (order.0 q rear) [ inl low ↦ omega arith | inr less ↦ (let at = less.0 in omega arith) ]
      ]
    ]

-- A pair that comes, and one that goes.

pub has_put : (x : Pair) (ps : List Pair) → IsAscending ps → ((p : Pair) → In p ps → p ≢ x) → HasPut ps x (added (is_before x.of x.number false) x ps)
has_put x [] order other = record {
  order = ((λ q there. absurd there), tt);
  put = inl refl;
  kept = λ p there. absurd there;
  only = λ p there. elim there [ inl is ↦ inl is | inr more ↦ absurd more ];
}
has_put x (p ∷ ps) order other =
    let before : Pair → Bool = is_before x.of x.number false in
    elim (compared p x) [
      | inl low ↦ (let rest = has_put x ps order.1 (λ q there. other q (inr there)) in
          subst (HasPut (p ∷ ps) x) (sym (added_behind_one before x p ps (before_is p x false low))) (record {
            order = (
              (λ q there. elim (rest.only q there) [ inl is ↦ subst (λ (r : Pair). Precedes p r) (sym is) low | inr old ↦ order.0 q old ]),
              rest.order,
            );
            put = inr rest.put;
            kept = λ q there. elim there [ inl is ↦ inl is | inr more ↦ inr (rest.kept q more) ];
            only = λ q there. elim there [
              | inl is ↦ inr (inl is)
              | inr more ↦ elim (rest.only q more) [ inl new ↦ inl new | inr old ↦ inr (inr old) ]
            ];
          }))
      | inr others ↦ elim others [
        | inl same ↦ absurd (other p (inl refl) same)
        | inr high ↦ subst (HasPut (p ∷ ps) x) (sym (added_first before x p ps (behind_is p x false high))) (record {
          order = (
            (λ q there. elim there [ inl is ↦ subst (λ (r : Pair). Precedes x r) (sym is) high | inr more ↦ carried x p q high (order.0 q more) ]),
            order,
          );
          put = inl refl;
          kept = λ q there. inr there;
          only = λ q there. there;
        })
      ]
    ]

pub has_taken : (x : Pair) (ps : List Pair) → IsAscending ps → In x ps → HasTaken ps x (removed (is_before x.of x.number false) (λ p. p.of == x.of) ps)
has_taken x [] order there = absurd there
has_taken x (p ∷ ps) order there =
    let before : Pair → Bool = is_before x.of x.number false in
    let is : Pair → Bool = λ q. q.of == x.of in
    elim (compared p x) [
      | inl low ↦ (let rest = has_taken x ps order.1 (elim there [ inl here ↦ absurd (never_itself p x low (sym here)) | inr rear ↦ rear ]) in
          subst (HasTaken (p ∷ ps) x) (sym (removed_behind_one before is p ps (before_is p x false low))) (record {
            order = ((λ q in_q. order.0 q (rest.only q in_q).0), rest.order);
            kept = λ q in_q other. elim in_q [ inl here ↦ inl here | inr rear ↦ inr (rest.kept q rear other) ];
            only = λ q in_q. elim in_q [
              | inl here ↦ (inl here, (λ e. never_itself p x low (sym here ∙ e)))
              | inr rear ↦ (inr (rest.only q rear).0, (rest.only q rear).1)
            ];
          }))
      | inr others ↦ elim others [
        | inl same ↦ subst (HasTaken (p ∷ ps) x)
            (sym (removed_first before is p ps (ap (is_before x.of x.number false) same ∙ itself_is x false) (eq-eqb p.of x.of (ap (λ (r : Pair). r.of) same)))) (record {
              order = order.1;
              kept = λ q in_q other. elim in_q [ inl here ↦ absurd (other (here ∙ same)) | inr rear ↦ rear ];
              only = λ q in_q. (inr in_q, (λ e. never_itself p q (order.0 q in_q) (same ∙ sym e)));
            })
        | inr high ↦ absurd (elim there [
          | inl here ↦ never_itself x p high here
          | inr rear ↦ never_itself x x (carried x p x high (order.0 x rear)) refl
        ])
      ]
    ]

pub any_found : {X : Type 0} (p : X → Bool) (xs : List X) → is_some (find p xs) ≡ list_any p xs
any_found p [] = refl
any_found p (x ∷ xs) = elim (cases_Bool (p x)) [ inl here ↦ rw here refl | inr gone ↦ rw gone (any_found p xs) ]

-- An index of states, behind what changes the states.

module _ {X : Type 0} (of number : X → ℕ) where
  abbrev pair : X → Pair
  pair x = record { of = of x; number = number x }

  pub index_none : IsIndex of number [] []
  index_none = record { order = tt; each = λ x there. absurd there; only = λ p there. absurd there }

  pub index_put : (xs : List X) (x : X) (ps qs : List Pair) → IsIndex of number xs ps → HasPut ps (record { of = of x; number = number x }) qs
      → IsIndex of number (xs ++ x ∷ []) qs
  index_put xs x ps qs is put = record {
    order = put.order;
    each = λ y there. elim (in_push xs x y there) [
      | inl new ↦ subst (λ (z : X). In (pair z) qs) (sym new) put.put
      | inr old ↦ put.kept (pair y) (is.each y old)
    ];
    only = λ p there. elim (put.only p there) [
      | inl new ↦ (x, last_in xs x, sym (ap (λ (q : Pair). q.of) new), sym (ap (λ (q : Pair). q.number) new))
      | inr old ↦ (let (y, in_y, here, same) = is.only p old in (y, push_in xs x y in_y, here, same))
    ];
  }

  -- a number above all is new
  -- one with a number above all has no pair yet
  pub index_apart : (xs : List X) (ps : List Pair) (new : Pair) → IsIndex of number xs ps → ((x : X) → In x xs → number x < new.number) → (p : Pair) → In p ps → p ≢ new
  index_apart xs ps new is above p there e =
      let (y, in_y, here, same) = is.only p there in
      let upper = above y in_y in
      let n : p.number ≡ new.number = ap (λ (q : Pair). q.number) e in absurd (omega arith)

  pub index_taken : (low high n : ℕ) (xs : List X) (x : X) (ps qs : List Pair) → IsRising number low xs high → IsIndex of number xs ps
      → find (λ x. number x == n) xs ≡ Some x → HasTaken ps (record { of = of x; number = n }) qs
      → IsIndex of number (filter (λ x. not (number x == n)) xs) qs
  index_taken low high n xs x ps qs rises is found taken = record { order = taken.order; each = each; only = only }
    where
      here : In x xs × ((number x == n) ≡ true)
      here = find_in (λ x. number x == n) xs x found

      at : number x ≡ n
      at = eqb-true (number x) n here.1

      each : (y : X) → In y (filter (λ x. not (number x == n)) xs) → In (pair y) qs
      each y there =
          let stays = in_filter (λ x. not (number x == n)) xs y there in
          taken.kept (pair y) (is.each y stays.0) (λ e.
          let same : (number y == n) ≡ true = eq-eqb (number y) n (ap (λ (q : Pair). q.number) e) in
          absurd (false≢true (ap not (sym same) ∙ stays.1)))

      only : (p : Pair) → In p qs → (y : X) × In y (filter (λ x. not (number x == n)) xs) × (of y ≡ p.of) × (number y ≡ p.number)
      only p there =
          let (in_p, other) = taken.only p there in
          let (y, in_y, file, same) = is.only p in_p in
          let apart : (number y == n) ≡ false = ne_eqb (number y) n (λ e.
          let one : y ≡ x = in_once number low high xs y x rises in_y here.0 (e ∙ sym at) in
          other (same_pair p (pair_of (of x) n) (sym file ∙ ap of one) (sym same ∙ e))) in
          (y, stays_in (λ x. not (number x == n)) xs y in_y (ap not apart), file, same)

  pub pair_in : (n : ℕ) (xs : List X) (x : X) (ps : List Pair) → IsIndex of number xs ps → find (λ x. number x == n) xs ≡ Some x
      → In (record { of = of x; number = n }) ps
  pair_in n xs x ps is found =
      let here = find_in (λ x. number x == n) xs x found in
      subst (λ (k : ℕ). In (pair_of (of x) k) ps) (eqb-true (number x) n here.1) (is.each x here.0)

  pub index_left : (n : ℕ) (xs : List X) (ps : List Pair) → IsIndex of number xs ps → find (λ x. number x == n) xs ≡ None
      → IsIndex of number (filter (λ x. not (number x == n)) xs) ps
  index_left n xs ps is gone = subst (λ (ys : List X). IsIndex of number ys ps) (sym (without_none number n xs gone)) is

  -- a change that keeps what the state belongs to and its number
  index_mapped : (f : X → X) (xs : List X) (ps : List Pair) → ((x : X) → of (f x) ≡ of x) → ((x : X) → number (f x) ≡ number x)
      → IsIndex of number xs ps → IsIndex of number (map f xs) ps
  index_mapped f xs ps same_of same_number is = record {
    order = is.order;
    each = λ y there.
        let (x, in_x, made) = in_map f xs y there in
        subst (λ (p : Pair). In p ps) (same_pair (pair x) (pair y) (sym (ap of made ∙ same_of x)) (sym (ap number made ∙ same_number x))) (is.each x in_x);
    only = λ p there.
        let (x, in_x, here, same) = is.only p there in
        (f x, map_in f xs x in_x, same_of x ∙ here, same_number x ∙ same);
  }

  -- such a change of the state of one number
  pub index_changed : (f : X → X) (n : ℕ) (xs ys : List X) (ps : List Pair) → ys ≡ map (λ x. if number x == n then f x else x) xs
      → ((x : X) → of (f x) ≡ of x) → ((x : X) → number (f x) ≡ number x) → IsIndex of number xs ps → IsIndex of number ys ps
  index_changed f n xs ys ps made same_of same_number is =
      subst (λ (zs : List X). IsIndex of number zs ps) (sym made)
      (index_mapped (λ x. if number x == n then f x else x) xs ps
      (λ x. elim (cases_Bool (number x == n)) [ inl here ↦ rw here (same_of x) | inr other ↦ rw other refl ])
      (λ x. elim (cases_Bool (number x == n)) [ inl here ↦ rw here (same_number x) | inr other ↦ rw other refl ])
      is)

  -- The next state.

  least_first : (r : X → Bool) (low high : ℕ) (xs : List X) (x : X) → IsRising number low xs high → In x xs → r x ≡ true
      → ((y : X) → In y xs → r y ≡ true → number x ≤ number y) → find r xs ≡ Some x
  least_first r low high [] x rises there passes least = absurd there
  least_first r low high (y ∷ ys) x rises (inl is) passes least = let here : r y ≡ true = ap r (sym is) ∙ passes in rw here (ap (λ (z : X). Some z) (sym is))
  least_first r low high (y ∷ ys) x rises (inr more) passes least =
      elim (cases_Bool (r y)) [
        | inl here ↦ (let up = (in_bounds number (suc (number y)) high ys x rises.1 more).0 in let le = least y (inl refl) here in absurd (omega arith))
        | inr gone ↦ rw gone (least_first r (suc (number y)) high ys x rises.1 more passes (λ z there. least z (inr there)))
      ]

  is_later : (file after : ℕ) (x : X) → of x ≡ file → after < number x → ((of x == file) && nat_lt after (number x)) ≡ true
  is_later file after x here more =
      let a : (of x == file) ≡ true = eq-eqb (of x) file here in let b : nat_lt after (number x) ≡ true = lt-ltb after (number x) more in rw (a, b) refl

  later_parts : (file after : ℕ) (x : X) → ((of x == file) && nat_lt after (number x)) ≡ true → (of x ≡ file) × (after < number x)
  later_parts file after x e = let parts = and_parts (of x == file) (nat_lt after (number x)) e in
      (eqb-true (of x) file parts.0, ltb-true after (number x) parts.1)

  pub next_state : (low high file after n : ℕ) (xs : List X) (ps : List Pair) → IsRising number low xs high → IsIndex of number xs ps
      → IsNext ps file after (Some n) → find (λ x. number x == n) xs ≡ find (λ x. (of x == file) && nat_lt after (number x)) xs
  next_state low high file after n xs ps rises is next =
      let (x, in_x, here, same) = is.only (pair_of file n) next.0 in
      let more = next.1 in
      found x in_x same ∙ sym (least_first (λ x. (of x == file) && nat_lt after (number x)) low high xs x rises in_x (is_later file after x here (omega arith))
      (λ y in_y passes. (let parts = later_parts file after y passes in
      let le = next.2 (pair y) (is.each y in_y) parts.0 parts.1 in omega arith)))
    where
      found : (x : X) → In x xs → number x ≡ n → find (λ x. number x == n) xs ≡ Some x
      found x in_x same = least_first (λ x. number x == n) low high xs x rises in_x (eq-eqb (number x) n same)
          (λ y in_y passes. (let equal = eqb-true (number y) n passes in omega arith))

  pub no_state : (file after : ℕ) (xs : List X) (ps : List Pair) → IsIndex of number xs ps → IsNext ps file after None
      → find (λ x. (of x == file) && nat_lt after (number x)) xs ≡ None
  no_state file after xs ps is none =
      find_none (λ x. (of x == file) && nat_lt after (number x)) xs (λ y in_y.
      elim (cases_Bool ((of y == file) && nat_lt after (number y))) [
        | inl passes ↦ (let parts = later_parts file after y passes in
            let le = none (pair y) (is.each y in_y) parts.0 in let more = parts.1 in absurd (omega arith))
        | inr fails ↦ fails
      ])

  -- A walk over the states of one file, each behind the last.

  abbrev pub ToCome : ℕ → (X → Bool) → X → Bool
  ToCome after q x = nat_lt after (number x) && q x

  find_same : (p q : X → Bool) (xs : List X) → ((x : X) → In x xs → p x ≡ q x) → find p xs ≡ find q xs
  find_same p q [] same = refl
  find_same p q (x ∷ xs) same =
      let rest = find_same p q xs (λ y there. same y (inr there)) in
      elim (cases_Bool (q x)) [
        | inl here ↦ (let also : p x ≡ true = same x (inl refl) ∙ here in rw (also, here) refl)
        | inr gone ↦ (let also : p x ≡ false = same x (inl refl) ∙ gone in rw (also, gone) rest)
      ]

  any_same : (p q : X → Bool) (xs : List X) → ((x : X) → In x xs → p x ≡ q x) → list_any p xs ≡ list_any q xs
  any_same p q [] same = refl
  any_same p q (x ∷ xs) same = rw (same x (inl refl), any_same p q xs (λ y there. same y (inr there))) refl

  begun : (q : X → Bool) (high : ℕ) (xs : List X) → IsRising number 1 xs high → (x : X) → In x xs → ToCome 0 q x ≡ q x
  begun q high xs rises x there =
      let low = (in_bounds number 1 high xs x rises there).0 in
      let up : nat_lt 0 (number x) ≡ true = lt-ltb 0 (number x) (omega arith) in rw up refl

  pub any_begun : (q : X → Bool) (high : ℕ) (xs : List X) → IsRising number 1 xs high → list_any (ToCome 0 q) xs ≡ list_any q xs
  any_begun q high xs rises = any_same (ToCome 0 q) q xs (begun q high xs rises)

  module _ (q : X → Bool) (file : ℕ) (only : (x : X) → q x ≡ true → of x ≡ file) (low high : ℕ) (xs : List X) (rises : IsRising number low xs high) where
    abbrev Later : ℕ → X → Bool
    Later after x = (of x == file) && nat_lt after (number x)

    come_later : (after : ℕ) (x : X) → ToCome after q x ≡ true → Later after x ≡ true
    come_later after x e = let parts = and_parts (nat_lt after (number x)) (q x) e in
        is_later file after x (only x parts.1) (ltb-true after (number x) parts.0)

    none_come : (after : ℕ) → find (Later after) xs ≡ None → (x : X) → In x xs → ToCome after q x ≡ false
    none_come after none x there =
        elim (cases_Bool (ToCome after q x)) [
          | inl comes ↦ absurd (false≢true (sym (none_in (Later after) xs x none there) ∙ come_later after x comes))
          | inr fails ↦ fails
        ]

    pub any_done : (after : ℕ) → find (Later after) xs ≡ None → list_any (ToCome after q) xs ≡ false
    any_done after none =
        elim (cases_Bool (list_any (ToCome after q) xs)) [
          | inl some ↦ (let (x, there, passes) = in_any (ToCome after q) xs some in absurd (false≢true (sym (none_come after none x there) ∙ passes)))
          | inr fails ↦ fails
        ]

    pub first_least : (after l : ℕ) (ys : List X) (x y : X) → IsRising number l ys high → find (Later after) ys ≡ Some x → In y ys → Later after y ≡ true
        → number x ≤ number y
    first_least after l [] x y up e there passes = absurd there
    first_least after l (z ∷ zs) x y up e there passes =
        elim (cases_Bool (Later after z)) [
          | inl here ↦ (let first : Some z ≡ Some x = rw here at e in let same : z ≡ x = cc in let is : number z ≡ number x = ap number same in
              elim there [
                | inl this ↦ (let n : number y ≡ number z = ap number this in omega arith)
                | inr more ↦ (let above = (in_bounds number (suc (number z)) high zs y up.1 more).0 in omega arith)
              ])
          | inr gone ↦ elim there [
            | inl this ↦ absurd (false≢true (sym gone ∙ (ap (Later after) (sym this) ∙ passes)))
            | inr more ↦ first_least after (suc (number z)) zs x y up.1 (rw gone at e) more passes
          ]
        ]

    -- the one that comes does not pass
    missed : (after : ℕ) (x : X) → find (Later after) xs ≡ Some x → q x ≡ false → (y : X) → In y xs → ToCome (number x) q y ≡ ToCome after q y
    missed after x e fails y there =
        let is = find_in (Later after) xs x e in
        let above = (later_parts file after x is.1).1 in
        elim (cases_Bool (q y)) [
          | inr out ↦ rw out (same_false (nat_lt (number x) (number y)) (nat_lt after (number y)))
          | inl comes ↦ elim (cases_lt (number x) (number y)) [
            | inl more ↦ (let a : nat_lt (number x) (number y) ≡ true = lt-ltb (number x) (number y) more in
                let b : nat_lt after (number y) ≡ true = lt-ltb after (number y) (omega arith) in rw (a, b) refl)
            | inr no_more ↦ (let a : nat_lt (number x) (number y) ≡ false = le-ltb (number x) (number y) no_more in
                elim (cases_lt after (number y)) [
                  | inr not_after ↦ (let b : nat_lt after (number y) ≡ false = le-ltb after (number y) not_after in rw (a, b) refl)
                  | inl behind ↦ (let le = first_least after low xs x y rises e there (is_later file after y (only y comes) behind) in
                      let one : y ≡ x = in_once number low high xs y x rises there is.0 (omega arith) in
                      absurd (false≢true (sym fails ∙ (ap q (sym one) ∙ comes))))
                ])
          ]
        ]
      where
        same_false : (a b : Bool) → (a && false) ≡ (b && false)
        same_false true true = refl
        same_false true false = refl
        same_false false true = refl
        same_false false false = refl

    pub any_missed : (after : ℕ) (x : X) → find (Later after) xs ≡ Some x → q x ≡ false → list_any (ToCome (number x) q) xs ≡ list_any (ToCome after q) xs
    any_missed after x e fails = any_same (ToCome (number x) q) (ToCome after q) xs (missed after x e fails)

    -- what comes is behind, and not above the last
    pub come_bounds : (after : ℕ) (x : X) → find (Later after) xs ≡ Some x → (after < number x) × (number x < high)
    come_bounds after x e = let is = find_in (Later after) xs x e in
        ((later_parts file after x is.1).1, (in_bounds number low high xs x rises is.0).1)

  -- the first state that belongs to a file or a client
  module _ (file high : ℕ) (xs : List X) (rises : IsRising number 1 xs high) where
    pub first_state : find (λ x. (of x == file) && nat_lt 0 (number x)) xs ≡ find (λ x. of x == file) xs
    first_state = find_same (λ x. (of x == file) && nat_lt 0 (number x)) (λ x. of x == file) xs (λ x there. (let low = (in_bounds number 1 high xs x rises there).0 in
        let up : nat_lt 0 (number x) ≡ true = lt-ltb 0 (number x) (omega arith) in rw up (also (of x == file))))
      where
        also : (b : Bool) → (b && true) ≡ b
        also true = refl
        also false = refl

    pub state_seen : (o : Option X) → o ≡ find (λ x. (of x == file) && nat_lt 0 (number x)) xs → is_some o ≡ list_any (λ x. of x == file) xs
    state_seen o at = ap is_some (at ∙ first_state) ∙ any_found (λ x. of x == file) xs
