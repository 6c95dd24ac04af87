-- What is in a list, what is found in it, and how many pass a test, behind a filter, a map or a push.
use Rattle.std.proofs.Common.{◌≡◌, ◌⊎◌, ℕ, zero, ◌+◌, ◌<◌, ◌≤◌, suc, Bool, true, false, cond, not, List, [], ◌∷◌, ◌++◌, map, length, get_or, Option}
use Rattle.std.proofs.{Common.{Some, None, refl, sym, ◌∙◌, ap, arith, inl, inr}, lemmas.Bool.{cases_Bool, lt-ltb, false≢true}}
use Rattle.std.proofs.{lemmas.Option.{cond_some, slice_get-get_or, slice_get_within, get_or_from_slice_get, none-some}, lemmas.List.Folds.find_at}
use Rattle.std.proofs.lemmas.List.Quantifiers.{position-Some}
use Rattle.std.specs.Prelude.{if◌then◌else◌, ◌&&◌, ◌||◌, filter, find, position, nat_lt, slice_get, is_some, option_map, IsSomeAnd}
use Rattle.std.specs.List.{list_any, position_or_len}
use Rattle.nfs_xdr.specs.Tables.{In}

module _ {X : Type 0} where
  pub in_filter : (p : X → Bool) (xs : List X) (x : X) → In x (filter p xs) → In x xs × (p x ≡ true)
  in_filter p [] x there = absurd there
  in_filter p (y ∷ ys) x there =
      elim (cases_Bool (p y)) [
        | inl passes ↦ (let h : In x (y ∷ filter p ys) = rw passes at there in elim h [
          | inl is ↦ (inl is, ap p is ∙ passes)
          | inr more ↦ (let rest = in_filter p ys x more in (inr rest.0, rest.1))
        ])
        | inr fails ↦ (let rest = in_filter p ys x (rw fails at there) in (inr rest.0, rest.1))
      ]

  pub stays_in : (p : X → Bool) (xs : List X) (x : X) → In x xs → p x ≡ true → In x (filter p xs)
  stays_in p [] x there passes = absurd there
  stays_in p (y ∷ ys) x (inl is) passes = let here : p y ≡ true = ap p (sym is) ∙ passes in rw here (inl is)
  stays_in p (y ∷ ys) x (inr more) passes =
      let rest = stays_in p ys x more passes in
      elim (cases_Bool (p y)) [ inl here ↦ rw here (inr rest) | inr gone ↦ rw gone rest ]

  pub in_push : (xs : List X) (new x : X) → In x (xs ++ new ∷ []) → (x ≡ new) ⊎ In x xs
  in_push [] new x (inl is) = inl is
  in_push [] new x (inr more) = absurd more
  in_push (y ∷ ys) new x (inl is) = inr (inl is)
  in_push (y ∷ ys) new x (inr more) = elim (in_push ys new x more) [ inl is ↦ inl is | inr there ↦ inr (inr there) ]

  pub push_in : (xs : List X) (new x : X) → In x xs → In x (xs ++ new ∷ [])
  push_in [] new x there = absurd there
  push_in (y ∷ ys) new x (inl is) = inl is
  push_in (y ∷ ys) new x (inr more) = inr (push_in ys new x more)

  pub last_in : (xs : List X) (new : X) → In new (xs ++ new ∷ [])
  last_in [] new = inl refl
  last_in (y ∷ ys) new = inr (last_in ys new)

  pub any_in : (p : X → Bool) (xs : List X) (x : X) → In x xs → p x ≡ true → list_any p xs ≡ true
  any_in p [] x there here = absurd there
  any_in p (y ∷ ys) x (inl is) here = let passes : p y ≡ true = ap p (sym is) ∙ here in rw passes refl
  any_in p (y ∷ ys) x (inr more) here = elim (cases_Bool (p y)) [ inl passes ↦ rw passes refl | inr fails ↦ rw fails (any_in p ys x more here) ]

  pub in_any : (p : X → Bool) (xs : List X) → list_any p xs ≡ true → (x : X) × In x xs × (p x ≡ true)
  in_any p [] e = absurd cc
  in_any p (y ∷ ys) e =
      elim (cases_Bool (p y)) [
        | inl passes ↦ (y, inl refl, passes)
        | inr fails ↦ (let rest = in_any p ys (rw fails at e) in (rest.0, inr rest.1, rest.2))
      ]

  pub none_any : (p : X → Bool) (xs : List X) (x : X) → list_any p xs ≡ false → In x xs → p x ≡ false
  none_any p [] x e there = absurd there
  none_any p (y ∷ ys) x e there =
      elim (cases_Bool (p y)) [
        | inl passes ↦ absurd (let h : true ≡ false = rw passes at e in cc)
        | inr fails ↦ elim there [ inl is ↦ ap p is ∙ fails | inr more ↦ none_any p ys x (rw fails at e) more ]
      ]

  pub any_map : (p : X → Bool) (f : X → X) → ((x : X) → p (f x) ≡ p x) → (xs : List X) → list_any p (map f xs) ≡ list_any p xs
  any_map p f same [] = refl
  any_map p f same (x ∷ xs) = rw (same x, any_map p f same xs) refl

  pub any_push : (p : X → Bool) (xs : List X) (new : X) → p new ≡ false → list_any p (xs ++ new ∷ []) ≡ list_any p xs
  any_push p [] new fails = rw fails refl
  any_push p (x ∷ xs) new fails = ap (λ b. p x || b) (any_push p xs new fails)

  pub any_filter : (p q : X → Bool) (xs : List X) → ((x : X) → In x xs → p x ≡ true → q x ≡ true) → list_any p (filter q xs) ≡ list_any p xs
  any_filter p q [] stays = refl
  any_filter p q (x ∷ xs) stays =
      let rest = any_filter p q xs (λ y there. stays y (inr there)) in
      elim (cases_Bool (q x)) [
        | inl left ↦ rw left (ap (λ b. p x || b) rest)
        | inr goes ↦ elim (cases_Bool (p x)) [
          | inl passes ↦ absurd (false≢true (sym goes ∙ stays x (inl refl) passes))
          | inr fails ↦ rw (goes, fails) rest
        ]
      ]

  -- what some of what is left passes, some passes
  pub any_left : (p q : X → Bool) (xs : List X) → list_any p (filter q xs) ≡ true → list_any p xs ≡ true
  any_left p q xs e = let x = in_any p (filter q xs) e in any_in p xs x.0 (in_filter q xs x.0 x.1).0 x.2

  pub none_left : (p q : X → Bool) (xs : List X) → list_any p xs ≡ false → list_any p (filter q xs) ≡ false
  none_left p q xs e =
      elim (cases_Bool (list_any p (filter q xs))) [ inl some ↦ absurd (false≢true (sym e ∙ any_left p q xs some)) | inr none ↦ none ]

  -- What is found.

  pub find_in : (p : X → Bool) (xs : List X) (x : X) → find p xs ≡ Some x → In x xs × (p x ≡ true)
  find_in p [] x e = absurd cc
  find_in p (y ∷ ys) x e =
      elim (cases_Bool (p y)) [
        | inl passes ↦ (let h : Some y ≡ Some x = rw passes at e in let same : y ≡ x = cc in (inl (sym same), ap p (sym same) ∙ passes))
        | inr fails ↦ (let rest = find_in p ys x (rw fails at e) in (inr rest.0, rest.1))
      ]

  pub none_in : (p : X → Bool) (xs : List X) (x : X) → find p xs ≡ None → In x xs → p x ≡ false
  none_in p [] x e there = absurd there
  none_in p (y ∷ ys) x e there =
      elim (cases_Bool (p y)) [
        | inl passes ↦ absurd (let h : Some y ≡ None = rw passes at e in cc)
        | inr fails ↦ elim there [ inl is ↦ ap p is ∙ fails | inr more ↦ none_in p ys x (rw fails at e) more ]
      ]

  pub find_none : (p : X → Bool) (xs : List X) → ((x : X) → In x xs → p x ≡ false) → find p xs ≡ None
  find_none p [] fails = refl
  find_none p (x ∷ xs) fails = rw (fails x (inl refl)) (find_none p xs (λ y there. fails y (inr there)))

  pub none_found : (p : X → Bool) (xs : List X) → find p xs ≡ None → list_any p xs ≡ false
  none_found p [] e = refl
  none_found p (x ∷ xs) e =
      elim (cases_Bool (p x)) [
        | inl here ↦ absurd (let h : Some x ≡ None = rw here at e in cc)
        | inr gone ↦ rw gone (none_found p xs (rw gone at e))
      ]

  -- what is found stays found where it is kept
  pub find_kept : (p q : X → Bool) (xs : List X) (x : X) → find p xs ≡ Some x → q x ≡ true → find p (filter q xs) ≡ Some x
  find_kept p q [] x e kept = absurd cc
  find_kept p q (y ∷ ys) x e kept =
      elim (cases_Bool (p y)) [
        | inl here ↦ (let found : Some y ≡ Some x = rw here at e in let same : y ≡ x = cc in
            let stays : q y ≡ true = ap q same ∙ kept in rw (stays, here) found)
        | inr gone ↦ (let rest = find_kept p q ys x (rw gone at e) kept in
            elim (cases_Bool (q y)) [ inl stays ↦ rw (stays, gone) rest | inr goes ↦ rw goes rest ])
      ]

  -- what all of them passes that pass the test stands in the way of none that is found
  pub find_past : (p q : X → Bool) (xs : List X) → ((x : X) → p x ≡ true → q x ≡ true) → find p (filter q xs) ≡ find p xs
  find_past p q [] passes = refl
  find_past p q (y ∷ ys) passes =
      let rest = find_past p q ys passes in
      elim (cases_Bool (p y)) [
        | inl here ↦ (let stays : q y ≡ true = passes y here in rw (stays, here) refl)
        | inr gone ↦ elim (cases_Bool (q y)) [ inl stays ↦ rw (stays, gone) rest | inr goes ↦ rw (goes, gone) rest ]
      ]

  pub find_none_kept : (p q : X → Bool) (xs : List X) → find p xs ≡ None → find p (filter q xs) ≡ None
  find_none_kept p q [] e = refl
  find_none_kept p q (y ∷ ys) e =
      elim (cases_Bool (p y)) [
        | inl here ↦ absurd (let h : Some y ≡ None = rw here at e in cc)
        | inr gone ↦ (let rest = find_none_kept p q ys (rw gone at e) in
            elim (cases_Bool (q y)) [ inl stays ↦ rw (stays, gone) rest | inr goes ↦ rw goes rest ])
      ]

  pub find_push_some : (p : X → Bool) (xs : List X) (y x : X) → find p xs ≡ Some x → find p (xs ++ y ∷ []) ≡ Some x
  find_push_some p [] y x e = absurd cc
  find_push_some p (z ∷ zs) y x e = elim (cases_Bool (p z)) [ inl here ↦ rw here (rw here at e) | inr gone ↦ rw gone (find_push_some p zs y x (rw gone at e)) ]

  -- behind a push
  pub find_push : (p : X → Bool) (xs : List X) (y : X) → find p xs ≡ None → find p (xs ++ y ∷ []) ≡ (if p y then Some y else None)
  find_push p [] y e = refl
  find_push p (z ∷ zs) y e =
      elim (cases_Bool (p z)) [
        | inl here ↦ absurd (let h : Some z ≡ None = rw here at e in cc)
        | inr gone ↦ rw gone (find_push p zs y (rw gone at e))
      ]

  pub find_push_none : (p : X → Bool) (xs : List X) (y : X) → find p xs ≡ None → p y ≡ true → find p (xs ++ y ∷ []) ≡ Some y
  find_push_none p xs y e passes = find_push p xs y e ∙ rw passes refl

  pub find_push_other : (p : X → Bool) (xs : List X) (y : X) → p y ≡ false → find p (xs ++ y ∷ []) ≡ find p xs
  find_push_other p [] y fails = rw fails refl
  find_push_other p (z ∷ zs) y fails = elim (cases_Bool (p z)) [ inl here ↦ rw here refl | inr gone ↦ rw gone (find_push_other p zs y fails) ]

  -- a map that the test does not see, and that is another one on what passes
  pub find_map_as : (p : X → Bool) (f g : X → X) (xs : List X) → ((x : X) → p (f x) ≡ p x) → ((x : X) → p x ≡ true → f x ≡ g x)
      → find p (map f xs) ≡ option_map g (find p xs)
  find_map_as p f g [] same equal = refl
  find_map_as p f g (x ∷ xs) same equal =
      elim (cases_Bool (p x)) [
        | inl here ↦ rw (same x, here) (ap (λ (y : X). Some y) (equal x here))
        | inr gone ↦ rw (same x, gone) (find_map_as p f g xs same equal)
      ]

  pub find_map : (p : X → Bool) (f : X → X) (xs : List X) → ((x : X) → p (f x) ≡ p x) → find p (map f xs) ≡ option_map f (find p xs)
  find_map p f xs same = find_map_as p f f xs same (λ x here. refl)

  -- what none passes that is kept is not found there
  pub find_out : (p q : X → Bool) (xs : List X) → ((x : X) → p x ≡ true → q x ≡ false) → find p (filter q xs) ≡ None
  find_out p q xs out =
      find_none p (filter q xs) (λ x there. elim (cases_Bool (p x)) [
        | inl here ↦ absurd (false≢true (sym (out x here) ∙ (in_filter q xs x there).1))
        | inr other ↦ other
      ])

  pub in_at : (xs : List X) (i : ℕ) (d : X) → i < length xs → In (get_or xs i d) xs
  in_at [] i d within = absurd (omega arith)
  in_at (x ∷ xs) zero d within = inl refl
  in_at (x ∷ xs) (suc i) d within = inr (in_at xs i d (omega arith))

  pub some_or_none : (o : Option X) → ((x : X) × (o ≡ Some x)) ⊎ (o ≡ None)
  some_or_none None = inr refl
  some_or_none (Some x) = inl (x, refl)

  pub some_there : (o : Option X) (P : X → Type 0) → IsSomeAnd o P → (x : X) × (o ≡ Some x) × P x
  some_there None P is = absurd is
  some_there (Some x) P is = (x, refl, is)

  -- a filter by what agrees on each record
  pub filter_in : (p q : X → Bool) (xs : List X) → ((x : X) → In x xs → p x ≡ q x) → filter p xs ≡ filter q xs
  filter_in p q [] same = refl
  filter_in p q (x ∷ xs) same =
      let rest = filter_in p q xs (λ y there. same y (inr there)) in
      elim (cases_Bool (q x)) [
        | inl stays ↦ rw (same x (inl refl) ∙ stays, stays) (ap (λ (ys : List X). x ∷ ys) rest)
        | inr goes ↦ rw (same x (inl refl) ∙ goes, goes) rest
      ]

  pub filter_all : (p : X → Bool) (xs : List X) → ((x : X) → In x xs → p x ≡ true) → filter p xs ≡ xs
  filter_all p [] all = refl
  filter_all p (x ∷ xs) all = rw (all x (inl refl)) (ap (λ (ys : List X). x ∷ ys) (filter_all p xs (λ y there. all y (inr there))))

  -- a filter behind one that all pass who pass it
  pub filter_past : (p q : X → Bool) (xs : List X) → ((x : X) → In x xs → p x ≡ true → q x ≡ true) → filter p (filter q xs) ≡ filter p xs
  filter_past p q [] passes = refl
  filter_past p q (x ∷ xs) passes =
      let rest = filter_past p q xs (λ y there. passes y (inr there)) in
      elim (cases_Bool (q x)) [
        | inl stays ↦ rw stays (ap (λ (ys : List X). cond (p x) (x ∷ ys) ys) rest)
        | inr goes ↦ elim (cases_Bool (p x)) [
          | inl here ↦ absurd (false≢true (sym goes ∙ passes x (inl refl) here))
          | inr fails ↦ rw (goes, fails) rest
        ]
      ]

  -- two filters as one
  pub filter_both : (p q r : X → Bool) → ((x : X) → (q x && p x) ≡ r x) → (xs : List X) → filter p (filter q xs) ≡ filter r xs
  filter_both p q r same [] = refl
  filter_both p q r same (x ∷ xs) =
      elim (cases_Bool (q x)) [
        | inl here ↦ (let is : p x ≡ r x = ap (λ b. b && p x) (sym here) ∙ same x in elim (cases_Bool (p x)) [
          | inl kept ↦ rw (here, kept, sym is ∙ kept) (ap (λ ys. x ∷ ys) (filter_both p q r same xs))
          | inr gone ↦ rw (here, gone, sym is ∙ gone) (filter_both p q r same xs)
        ])
        | inr out ↦ rw (out, sym (same x) ∙ ap (λ b. b && p x) out) (filter_both p q r same xs)
      ]

  -- Lengths.

  pub length_filter : (p : X → Bool) (xs : List X) → length (filter p xs) ≤ length xs
  length_filter p [] = omega arith
  length_filter p (x ∷ xs) = let rest = length_filter p xs in
      elim (cases_Bool (p x)) [ inl passes ↦ rw passes (omega arith) | inr fails ↦ rw fails (omega arith) ]

  -- where one fails, fewer pass
  pub length_fewer : (p : X → Bool) (xs : List X) (x : X) → In x xs → p x ≡ false → length (filter p xs) < length xs
  length_fewer p [] x there fails = absurd there
  length_fewer p (y ∷ ys) x (inl is) fails =
      let goes : p y ≡ false = ap p (sym is) ∙ fails in
      let le = length_filter p ys in rw goes (omega arith)
  length_fewer p (y ∷ ys) x (inr more) fails =
      let rest = length_fewer p ys x more fails in
      elim (cases_Bool (p y)) [ inl stays ↦ rw stays (omega arith) | inr goes ↦ rw goes (omega arith) ]

  -- where something passes, what does not is less
  pub length_left : (p : X → Bool) (xs : List X) → is_some (find p xs) ≡ true → length (filter (λ x. not (p x)) xs) < length xs
  length_left p [] e = absurd cc
  length_left p (x ∷ xs) e =
      elim (cases_Bool (p x)) [
        | inl passes ↦ (let le = length_filter (λ x. not (p x)) xs in rw passes (omega arith))
        | inr fails ↦ (let rest = length_left p xs (rw fails at e) in rw fails (omega arith))
      ]

  -- how many pass, after a filter and after a push
  pub count_filter : (p q : X → Bool) (xs : List X) → length (filter p (filter q xs)) ≤ length (filter p xs)
  count_filter p q [] = omega arith
  count_filter p q (x ∷ xs) = let ih = count_filter p q xs in
      elim (cases_Bool (q x)) [
        | inl stays ↦ elim (cases_Bool (p x)) [ inl here ↦ rw (stays, here) (omega arith) | inr gone ↦ rw (stays, gone) ih ]
        | inr goes ↦ elim (cases_Bool (p x)) [ inl here ↦ rw (goes, here) (omega arith) | inr gone ↦ rw (goes, gone) ih ]
      ]

  -- one that passes goes
  pub count_dropped : (p q : X → Bool) (xs : List X) (x : X) → In x xs
      → p x ≡ true → q x ≡ false → length (filter p (filter q xs)) < length (filter p xs)
  count_dropped p q [] x there here gone = absurd there
  count_dropped p q (y ∷ ys) x (inl is) here gone =
      let le = count_filter p q ys in
      let goes : q y ≡ false = ap q (sym is) ∙ gone in
      let passes : p y ≡ true = ap p (sym is) ∙ here in
      rw (goes, passes) (omega arith)
  count_dropped p q (y ∷ ys) x (inr more) here gone =
      let ih = count_dropped p q ys x more here gone in
      elim (cases_Bool (q y)) [
        | inl stays ↦ elim (cases_Bool (p y)) [ inl passes ↦ rw (stays, passes) (omega arith) | inr fails ↦ rw (stays, fails) ih ]
        | inr goes ↦ elim (cases_Bool (p y)) [ inl passes ↦ rw (goes, passes) (omega arith) | inr fails ↦ rw (goes, fails) ih ]
      ]

  pub count_push : (p : X → Bool) (xs : List X) (y : X) → length (filter p (xs ++ y ∷ [])) ≡ length (filter p xs) + (if p y then 1 else 0)
  count_push p [] y = elim (cases_Bool (p y)) [ inl here ↦ rw here refl | inr gone ↦ rw gone refl ]
  count_push p (z ∷ zs) y = let ih = count_push p zs y in
      elim (cases_Bool (p z)) [ inl here ↦ rw here (omega arith) | inr gone ↦ rw gone ih ]

  pub filter_swap : (p q : X → Bool) (xs : List X) → filter p (filter q xs) ≡ filter q (filter p xs)
  filter_swap p q [] = refl
  filter_swap p q (x ∷ xs) = let ih = filter_swap p q xs in
      elim (cases_Bool (q x)) [
        | inl stays ↦ elim (cases_Bool (p x)) [ inl here ↦ rw (stays, here, stays) (ap (λ rest. x ∷ rest) ih) | inr gone ↦ rw (stays, gone) ih ]
        | inr goes ↦ elim (cases_Bool (p x)) [ inl here ↦ rw (goes, here, goes) ih | inr gone ↦ rw (goes, gone) ih ]
      ]

  pub map_same : (f : X → X) → ((x : X) → f x ≡ x) → (xs : List X) → map f xs ≡ xs
  map_same f same [] = refl
  map_same f same (x ∷ xs) = rw (same x) (ap (λ (rest : List X). x ∷ rest) (map_same f same xs))

  -- The place of what is found.

  -- what stands at the place of the first that passes is what is found
  pub position_finds : (p : X → Bool) (xs : List X) (i : ℕ) (d : X) → position p xs ≡ Some i → find p xs ≡ Some (get_or xs i d)
  position_finds p xs i d e =
      let first = position-Some p xs i d e in
      let place = cond_some (nat_lt (position_or_len p xs) (length xs)) (position_or_len p xs) i e in
      find_at p xs ∙ (ap (slice_get xs) place.1 ∙ slice_get-get_or xs i d first.0)

  -- what is found stands at a place
  pub place_of : (p : X → Bool) (xs : List X) (x : X) → find p xs ≡ Some x → (i : ℕ) × (position p xs ≡ Some i) × (x ≡ get_or xs i x)
  place_of p xs x e =
      let place = position_or_len p xs in
      let there : slice_get xs place ≡ Some x = sym (find_at p xs) ∙ e in
      let test : nat_lt place (length xs) ≡ true = lt-ltb place (length xs) (slice_get_within xs place x there) in
      (place, ap (λ (b : Bool). cond b (Some place) None) test, sym (get_or_from_slice_get xs place x x there))

  pub position_nowhere : (p : X → Bool) (xs : List X) → position p xs ≡ None → find p xs ≡ None
  position_nowhere p xs e =
      elim (some_or_none (find p xs)) [
        | inl found ↦ (let (i, at, read) = place_of p xs found.0 found.1 in absurd (none-some i (sym e ∙ at)))
        | inr nowhere ↦ nowhere
      ]

pub in_map : {X Y : Type 0} (f : X → Y) (xs : List X) (y : Y) → In y (map f xs) → (x : X) × In x xs × (y ≡ f x)
in_map f [] y there = absurd there
in_map f (x ∷ xs) y (inl is) = (x, inl refl, is)
in_map f (x ∷ xs) y (inr more) = let rest = in_map f xs y more in (rest.0, inr rest.1, rest.2)

pub map_in : {X Y : Type 0} (f : X → Y) (xs : List X) (x : X) → In x xs → In (f x) (map f xs)
map_in f [] x there = absurd there
map_in f (y ∷ ys) x (inl is) = inl (ap f is)
map_in f (y ∷ ys) x (inr more) = inr (map_in f ys x more)
