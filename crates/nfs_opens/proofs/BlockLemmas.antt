-- What a search finds, adds, takes and changes in one block, seen among the items of all.
use Rattle.std.proofs.Common.{◌≡◌, ◌≢◌, inl, inr, ℕ, zero, suc, ◌-◌, ◌<◌, ◌≤◌, Bool, true, false, List, [], ◌∷◌, ◌++◌, take, drop, set, length, get_or}
use Rattle.std.proofs.{Common.{Option, Some, None, refl, sym, ◌∙◌, ap, subst, arith}, lemmas.Bool.{cases_Bool}, lemmas.List.{append-nil, append_assoc, drop_all}, lemmas.Option.slice_get-get_or}
use Rattle.std.specs.{Prelude.{slice_get, IfSome}, List.{insert, remove}, List.Sorted.IsPartitionedBy}
use Rattle.nfs_xdr.specs.Tables.{In}
use Rattle.nfs_xdr.proofs.Lists.{in_at}
use Rattle.nfs_ranges.specs.Edits.{lead}
use Rattle.nfs_ranges.specs.{Blocks.{flat, last_of, AreSome}, Owners.is_empty}
use Rattle.nfs_ranges.proofs.BlockLemmas.{flat-append, flat_at, flat_remove, flat_set, flat_split, last_got, some-append, some_insert, some_remove, some_set}
use Rattle.nfs_opens.specs.Blocks.{IsParted, found, onward, added, removed, changed, first_out, first_changed, passes}
use Rattle.nfs_opens.proofs.FlatLemmas.{in_front, in_rear, in_flat, last_among, removed_set}

module _ {X : Type 0} (p : X → Bool) where
  -- What passes stands before what does not.

  pub parted_by : (xs : List X) → IsParted p xs → IsPartitionedBy p xs
  parted_by [] parted i j d le within e = absurd (omega arith)
  parted_by (x ∷ xs) parted zero zero d le within e = e
  parted_by (x ∷ xs) parted zero (suc j) d le within e = parted.0 (get_or xs j d) (in_at xs j d (omega arith)) e
  parted_by (x ∷ xs) parted (suc i) zero d le within e = absurd (omega arith)
  parted_by (x ∷ xs) parted (suc i) (suc j) d le within e = parted_by xs parted.1 i j d (omega arith) (omega arith) e

  pub parted_front : (xs ys : List X) → IsParted p (xs ++ ys) → IsParted p xs
  parted_front [] ys parted = tt
  parted_front (x ∷ xs) ys parted = ((λ y there. parted.0 y (in_front xs ys y there)), parted_front xs ys parted.1)

  pub parted_rear : (xs ys : List X) → IsParted p (xs ++ ys) → IsParted p ys
  parted_rear [] ys parted = parted
  parted_rear (x ∷ xs) ys parted = parted_rear xs ys parted.1

  parted_across : (xs ys : List X) → IsParted p (xs ++ ys) → (x y : X) → In x xs → In y ys → p y ≡ true → p x ≡ true
  parted_across [] ys parted x y front rear e = absurd front
  parted_across (z ∷ xs) ys parted x y (inl is) rear e = ap p is ∙ parted.0 y (in_rear xs ys y rear) e
  parted_across (z ∷ xs) ys parted x y (inr more) rear e = parted_across xs ys parted.1 x y more rear e

  -- where the last passes, all do
  all_pass : (x : X) (xs : List X) → IsParted p (x ∷ xs) → p (last_of x xs) ≡ true → (y : X) → In y (x ∷ xs) → p y ≡ true
  all_pass x [] parted e y (inl is) = ap p is ∙ e
  all_pass x [] parted e y (inr more) = absurd more
  all_pass x (z ∷ zs) parted e y (inl is) = ap p is ∙ parted.0 (last_of z zs) (last_among z zs) e
  all_pass x (z ∷ zs) parted e y (inr more) = all_pass z zs parted.1 e y more

  block_passes : (b : List X) → IsParted p b → passes p b ≡ true → (y : X) → In y b → p y ≡ true
  block_passes [] parted e y there = absurd there
  block_passes (x ∷ xs) parted e y there = all_pass x xs parted e y there

  some_in : (bs : List (List X)) (c : List X) → AreSome bs → In c bs → is_empty c ≡ false
  some_in [] c some there = absurd there
  some_in (b ∷ bs) c some (inl is) = ap is_empty is ∙ some.0
  some_in (b ∷ bs) c some (inr more) = some_in bs c some.1 more

  passes_so : (b : List X) (bs : List (List X)) → AreSome bs → IsParted p (b ++ flat bs) → (c : List X) → In c bs → passes p c ≡ true → passes p b ≡ true
  passes_so [] bs some parted c there e = refl
  passes_so (x ∷ xs) bs some parted [] there e = absurd (let bad : true ≡ false = some_in bs [] some there in cc)
  passes_so (x ∷ xs) bs some parted (y ∷ ys) there e =
      parted_across (x ∷ xs) (flat bs) parted (last_of x xs) (last_of y ys) (last_among x xs) (in_flat bs (y ∷ ys) (last_of y ys) there (last_among y ys)) e

  pub blocks_parted : (bs : List (List X)) → AreSome bs → IsParted p (flat bs) → IsParted (passes p) bs
  blocks_parted [] some parted = tt
  blocks_parted (b ∷ bs) some parted = (
    passes_so b bs some.1 parted,
    blocks_parted bs some.1 (parted_rear b (flat bs) parted),
  )

  pub block_parted : (bs : List (List X)) (i : ℕ) (b : List X) → IsParted p (flat bs) → i < length bs → b ≡ get_or bs i b → IsParted p b
  block_parted [] i b parted less at = absurd (omega arith)
  block_parted (c ∷ bs) zero b parted less at = subst (IsParted p) (sym at) (parted_front c (flat bs) parted)
  block_parted (c ∷ bs) (suc i) b parted less at = block_parted bs i b (parted_rear c (flat bs) parted) (omega arith) at

  pub ends_at : (xs : List X) (x : X) → Some x ≡ slice_get xs (length xs - 1) → p x ≡ passes p xs
  ends_at [] x e = absurd cc
  ends_at (y ∷ ys) x e = ap p (last_got y x ys e)

  -- In one list.

  pub added_behind_one : (new x : X) (xs : List X) → p x ≡ true → added p new (x ∷ xs) ≡ x ∷ added p new xs
  added_behind_one new x xs on = rw on refl

  pub added_first : (new x : X) (xs : List X) → p x ≡ false → added p new (x ∷ xs) ≡ new ∷ x ∷ xs
  added_first new x xs off = rw off refl

  pub added_is : (new : X) (xs : List X) → added p new xs ≡ insert xs (lead p xs) new
  added_is new [] = refl
  added_is new (x ∷ xs) = elim (cases_Bool (p x)) [ inl e ↦ rw e (ap (λ (ys : List X). x ∷ ys) (added_is new xs)) | inr e ↦ rw e refl ]

  module _ (is : X → Bool) where
    pub found_behind_one : (x : X) (xs : List X) → p x ≡ true → found p is (x ∷ xs) ≡ found p is xs
    found_behind_one x xs on = rw on refl

    pub found_first : (x : X) (xs : List X) → p x ≡ false → is x ≡ true → found p is (x ∷ xs) ≡ Some x
    found_first x xs off here = rw (off, here) refl

    pub found_not : (x : X) (xs : List X) → p x ≡ false → is x ≡ false → found p is (x ∷ xs) ≡ None
    found_not x xs off other = rw (off, other) refl

    pub removed_behind_one : (x : X) (xs : List X) → p x ≡ true → removed p is (x ∷ xs) ≡ x ∷ removed p is xs
    removed_behind_one x xs on = rw on refl

    pub removed_first : (x : X) (xs : List X) → p x ≡ false → is x ≡ true → removed p is (x ∷ xs) ≡ xs
    removed_first x xs off here = rw (off, here) refl

    pub removed_not : (x : X) (xs : List X) → p x ≡ false → is x ≡ false → removed p is (x ∷ xs) ≡ x ∷ xs
    removed_not x xs off other = rw (off, other) refl

    pub changed_behind_one : (f : X → X) (x : X) (xs : List X) → p x ≡ true → changed p is f (x ∷ xs) ≡ x ∷ changed p is f xs
    changed_behind_one f x xs on = rw on refl

    pub changed_first : (f : X → X) (x : X) (xs : List X) → p x ≡ false → is x ≡ true → changed p is f (x ∷ xs) ≡ f x ∷ xs
    changed_first f x xs off here = rw (off, here) refl

    pub changed_not : (f : X → X) (x : X) (xs : List X) → p x ≡ false → is x ≡ false → changed p is f (x ∷ xs) ≡ x ∷ xs
    changed_not f x xs off other = rw (off, other) refl

    pub found_here : (xs : List X) (x : X) → slice_get xs (lead p xs) ≡ Some x → is x ≡ true → found p is xs ≡ Some x
    found_here [] x at here = absurd cc
    found_here (y ∷ ys) x at here = elim (cases_Bool (p y)) [
      | inl e ↦ rw e (found_here ys x (let more : slice_get ys (lead p ys) ≡ Some x = rw e at at in more) here)
      | inr e ↦ (let same : y ≡ x = (let first : Some y ≡ Some x = rw e at at in cc) in rw (e, same, here) refl)
    ]

    pub found_other : (xs : List X) (x : X) → slice_get xs (lead p xs) ≡ Some x → is x ≡ false → found p is xs ≡ None
    found_other [] x at other = refl
    found_other (y ∷ ys) x at other = elim (cases_Bool (p y)) [
      | inl e ↦ rw e (found_other ys x (let more : slice_get ys (lead p ys) ≡ Some x = rw e at at in more) other)
      | inr e ↦ (let same : y ≡ x = (let first : Some y ≡ Some x = rw e at at in cc) in rw (e, same, other) refl)
    ]

    pub found_nowhere : (xs : List X) → slice_get xs (lead p xs) ≡ None → found p is xs ≡ None
    found_nowhere [] at = refl
    found_nowhere (y ∷ ys) at = elim (cases_Bool (p y)) [
      | inl e ↦ rw e (found_nowhere ys (let more : slice_get ys (lead p ys) ≡ None = rw e at at in more))
      | inr e ↦ absurd (let first : Some y ≡ None = rw e at at in cc)
    ]

    pub removed_at : (xs : List X) (x : X) → found p is xs ≡ Some x → removed p is xs ≡ remove xs (lead p xs)
    removed_at [] x e = absurd cc
    removed_at (y ∷ ys) x e = elim (cases_Bool (p y)) [
      | inl on ↦ rw on (ap (λ (zs : List X). y ∷ zs) (removed_at ys x (let more : found p is ys ≡ Some x = rw on at e in more)))
      | inr off ↦ elim (cases_Bool (is y)) [
        | inl here ↦ rw (off, here) refl
        | inr other ↦ absurd (let none : None ≡ Some x = rw (off, other) at e in cc)
      ]
    ]

    pub removed_none : (xs : List X) → found p is xs ≡ None → removed p is xs ≡ xs
    removed_none [] e = refl
    removed_none (y ∷ ys) e = elim (cases_Bool (p y)) [
      | inl on ↦ rw on (ap (λ (zs : List X). y ∷ zs) (removed_none ys (let more : found p is ys ≡ None = rw on at e in more)))
      | inr off ↦ elim (cases_Bool (is y)) [
        | inl here ↦ absurd (let some : Some y ≡ None = rw (off, here) at e in cc)
        | inr other ↦ rw (off, other) refl
      ]
    ]

    pub changed_at : (f : X → X) (xs : List X) (x : X) → found p is xs ≡ Some x → changed p is f xs ≡ set xs (lead p xs) (f x)
    changed_at f [] x e = absurd cc
    changed_at f (y ∷ ys) x e = elim (cases_Bool (p y)) [
      | inl on ↦ rw on (ap (λ (zs : List X). y ∷ zs) (changed_at f ys x (let more : found p is ys ≡ Some x = rw on at e in more)))
      | inr off ↦ elim (cases_Bool (is y)) [
        | inl here ↦ (let same : y ≡ x = (let some : Some y ≡ Some x = rw (off, here) at e in cc) in rw (off, here, same) refl)
        | inr other ↦ absurd (let none : None ≡ Some x = rw (off, other) at e in cc)
      ]
    ]

    pub changed_none : (f : X → X) (xs : List X) → found p is xs ≡ None → changed p is f xs ≡ xs
    changed_none f [] e = refl
    changed_none f (y ∷ ys) e = elim (cases_Bool (p y)) [
      | inl on ↦ rw on (ap (λ (zs : List X). y ∷ zs) (changed_none f ys (let more : found p is ys ≡ None = rw on at e in more)))
      | inr off ↦ elim (cases_Bool (is y)) [
        | inl here ↦ absurd (let some : Some y ≡ None = rw (off, here) at e in cc)
        | inr other ↦ rw (off, other) refl
      ]
    ]

    pub removed_there : (xs : List X) (i : ℕ) → i ≡ lead p xs → i < length xs → found p is xs ≡ slice_get xs i → removed p is xs ≡ remove xs i
    removed_there [] i place less e = absurd (omega arith)
    removed_there (x ∷ xs) i place less e =
        removed_at (x ∷ xs) (get_or (x ∷ xs) i x) (e ∙ slice_get-get_or (x ∷ xs) i x less) ∙ ap (remove (x ∷ xs)) (sym place)

    pub changed_there : (f : X → X) (xs : List X) (i : ℕ) (x : X) → i ≡ lead p xs → i < length xs → found p is xs ≡ slice_get xs i → x ≡ get_or xs i x
        → changed p is f xs ≡ set xs i (f x)
    changed_there f xs i x place less e at =
        changed_at f xs x (e ∙ (slice_get-get_or xs i x less ∙ ap (λ (y : X). Some y) (sym at))) ∙ ap (λ (k : ℕ). set xs k (f x)) (sym place)

    -- Over all blocks.

    found_behind : (b ys : List X) → ((x : X) → In x b → p x ≡ true) → found p is (b ++ ys) ≡ found p is ys
    found_behind [] ys pass = refl
    found_behind (x ∷ xs) ys pass = rw (pass x (inl refl)) (found_behind xs ys (λ y there. pass y (inr there)))

    found_front : (x : X) (xs ys : List X) → p (last_of x xs) ≡ false → found p is (x ∷ xs ++ ys) ≡ found p is (x ∷ xs)
    found_front x [] ys e = rw e refl
    found_front x (z ∷ zs) ys e = elim (cases_Bool (p x)) [ inl on ↦ rw on (found_front z zs ys e) | inr off ↦ rw off refl ]

    pub found_in : (bs : List (List X)) (b : List X) → AreSome bs → IsParted p (flat bs) → slice_get bs (lead (passes p) bs) ≡ Some b
        → found p is b ≡ found p is (flat bs)
    found_in [] b some parted at = absurd cc
    found_in ([] ∷ bs) b some parted at = absurd (let bad : true ≡ false = some.0 in cc)
    found_in ((x ∷ xs) ∷ bs) b some parted at = elim (cases_Bool (p (last_of x xs))) [
      | inl on ↦ found_in bs b some.1 (parted_rear (x ∷ xs) (flat bs) parted) (let more : slice_get bs (lead (passes p) bs) ≡ Some b = rw on at at in more)
          ∙ sym (found_behind (x ∷ xs) (flat bs) (all_pass x xs (parted_front (x ∷ xs) (flat bs) parted) on))
      | inr off ↦ (let same : x ∷ xs ≡ b = (let first : Some (x ∷ xs) ≡ Some b = rw off at at in cc) in ap (found p is) (sym same) ∙ sym (found_front x xs (flat bs) off))
    ]

    pub found_none : (bs : List (List X)) → AreSome bs → IsParted p (flat bs) → slice_get bs (lead (passes p) bs) ≡ None → found p is (flat bs) ≡ None
    found_none [] some parted at = refl
    found_none ([] ∷ bs) some parted at = absurd (let bad : true ≡ false = some.0 in cc)
    found_none ((x ∷ xs) ∷ bs) some parted at = elim (cases_Bool (p (last_of x xs))) [
      | inl on ↦ found_behind (x ∷ xs) (flat bs) (all_pass x xs (parted_front (x ∷ xs) (flat bs) parted) on)
          ∙ found_none bs some.1 (parted_rear (x ∷ xs) (flat bs) parted) (let more : slice_get bs (lead (passes p) bs) ≡ None = rw on at at in more)
      | inr off ↦ absurd (let first : Some (x ∷ xs) ≡ None = rw off at at in cc)
    ]

  -- A change that looks at the first item alone.

  module _ (change : List X → List X) where
    onward_behind : (b ys : List X) → ((x : X) → In x b → p x ≡ true) → onward p change (b ++ ys) ≡ b ++ onward p change ys
    onward_behind [] ys pass = refl
    onward_behind (x ∷ xs) ys pass = rw (pass x (inl refl)) (ap (λ (zs : List X). x ∷ zs) (onward_behind xs ys (λ y there. pass y (inr there))))

    -- all pass
    pub onward_none : (bs : List (List X)) → IsParted p (flat bs) → length bs ≤ lead (passes p) bs → onward p change (flat bs) ≡ flat bs ++ change []
    onward_none [] parted le = refl
    onward_none (b ∷ bs) parted le = elim (cases_Bool (passes p b)) [
      | inl on ↦ onward_behind b (flat bs) (block_passes b (parted_front b (flat bs) parted) on)
          ∙ (ap (λ (zs : List X). b ++ zs) (onward_none bs (parted_rear b (flat bs) parted) (let more : suc (length bs) ≤ suc (lead (passes p) bs) = rw on at le in omega arith))
          ∙ sym (append_assoc b (flat bs) (change [])))
      | inr off ↦ absurd (let none : suc (length bs) ≤ zero = rw off at le in omega arith)
    ]

    module _ (first : (x : X) (xs ys : List X) → change (x ∷ (xs ++ ys)) ≡ change (x ∷ xs) ++ ys) where
      onward_front : (x : X) (xs ys : List X) → p (last_of x xs) ≡ false → onward p change (x ∷ (xs ++ ys)) ≡ onward p change (x ∷ xs) ++ ys
      onward_front x [] ys e = rw e (first x [] ys)
      onward_front x (z ∷ zs) ys e = elim (cases_Bool (p x)) [
        | inl on ↦ rw on (ap (λ (ws : List X). x ∷ ws) (onward_front z zs ys e))
        | inr off ↦ rw off (first x (z ∷ zs) ys)
      ]

      pub onward_in : (bs : List (List X)) (i : ℕ) (b : List X) → AreSome bs → IsParted p (flat bs) → i ≡ lead (passes p) bs → i < length bs → b ≡ get_or bs i b
          → onward p change (flat bs) ≡ flat (take i bs) ++ (onward p change b ++ flat (drop (suc i) bs))
      onward_in [] i b some parted is less at = absurd (omega arith)
      onward_in ([] ∷ bs) i b some parted is less at = absurd (let bad : true ≡ false = some.0 in cc)
      onward_in ((x ∷ xs) ∷ bs) zero b some parted is less at = elim (cases_Bool (p (last_of x xs))) [
        | inl on ↦ absurd (let bad : zero ≡ suc (lead (passes p) bs) = rw on at is in omega arith)
        | inr off ↦ onward_front x xs (flat bs) off ∙ ap (λ (ys : List X). onward p change ys ++ flat bs) (sym at)
      ]
      onward_in ((x ∷ xs) ∷ bs) (suc i) b some parted is less at = elim (cases_Bool (p (last_of x xs))) [
        | inl on ↦ onward_behind (x ∷ xs) (flat bs) (all_pass x xs (parted_front (x ∷ xs) (flat bs) parted) on)
            ∙ (ap (λ (zs : List X). (x ∷ xs) ++ zs) (onward_in bs i b some.1 (parted_rear (x ∷ xs) (flat bs) parted)
            (let more : suc i ≡ suc (lead (passes p) bs) = rw on at is in omega arith) (omega arith) at)
            ∙ sym (append_assoc (x ∷ xs) (flat (take i bs)) (onward p change b ++ flat (drop (suc i) bs))))
        | inr off ↦ absurd (let bad : suc i ≡ zero = rw off at is in omega arith)
      ]

-- What the blocks are afterwards.

module _ {X : Type 0} where
  -- blocks that hold these
  pub record Holds (bs : List (List X)) (xs : List X) : Type 0 where
    pub items : flat bs ≡ xs
    pub some : AreSome bs

  some_is : (c : List X) → c ≢ [] → is_empty c ≡ false
  some_is [] full = absurd (full refl)
  some_is (x ∷ xs) full = refl

  module _ (p : X → Bool) (change : List X → List X) (first : (x : X) (xs ys : List X) → change (x ∷ (xs ++ ys)) ≡ change (x ∷ xs) ++ ys)
      (bs : List (List X)) (i : ℕ) (b : List X) (some : AreSome bs) (parted : IsParted p (flat bs)) (is : i ≡ lead (passes p) bs) (less : i < length bs)
      (at : b ≡ get_or bs i b) where
    here : onward p change (flat bs) ≡ flat (take i bs) ++ (onward p change b ++ flat (drop (suc i) bs))
    here = onward_in p change first bs i b some parted is less at

    pub one_changed : (c : List X) → c ≡ onward p change b → c ≢ [] → Holds (set bs i c) (onward p change (flat bs))
    one_changed c made full = record {
      items = flat_set bs i c less ∙ (ap (λ (ys : List X). flat (take i bs) ++ (ys ++ flat (drop (suc i) bs))) made ∙ sym here);
      some = some_set bs i c some (some_is c full);
    }

    pub one_emptied : (c : List X) (cs : List (List X)) → c ≡ onward p change b → c ≡ [] → cs ≡ remove (set bs i c) i → Holds cs (onward p change (flat bs))
    one_emptied c cs made none left =
        let gone : cs ≡ remove bs i = left ∙ removed_set bs i c in
        record {
          items = ap flat gone ∙ (flat_remove bs i less ∙ (ap (λ (ys : List X). flat (take i bs) ++ (ys ++ flat (drop (suc i) bs))) (sym none ∙ made) ∙ sym here));
          some = subst (λ (ds : List (List X)). AreSome ds) (sym gone) (some_remove bs i some);
        }

    pub one_split : (c t : List X) (cs : List (List X)) → c ++ t ≡ onward p change b → c ≢ [] → t ≢ [] → cs ≡ insert (set bs i c) (suc i) t
        → Holds cs (onward p change (flat bs))
    one_split c t cs made full more added = record {
      items = ap flat added ∙ (flat_split bs i c t less ∙ (ap (λ (ys : List X). flat (take i bs) ++ (ys ++ flat (drop (suc i) bs))) made ∙ sym here));
      some = subst (λ (ds : List (List X)). AreSome ds) (sym added)
          (some_insert (set bs i c) (suc i) t (some_set bs i c some (some_is c full)) (some_is t more));
    }

  pub block_some : (bs : List (List X)) (i : ℕ) (b : List X) → AreSome bs → i < length bs → b ≡ get_or bs i b → b ≢ []
  block_some [] i b some less at none = absurd (omega arith)
  block_some (c ∷ bs) zero b some less at none = let bad : true ≡ false = ap is_empty (sym none ∙ at) ∙ some.0 in cc
  block_some (c ∷ bs) (suc i) b some less at none = block_some bs i b some.1 (omega arith) at none

  pub spare_empty : (spare : Option (List X)) (b : List X) (n room : ℕ) → IfSome spare (λ s. (s ≡ []) × (n < room)) → spare ≡ Some b → b ≡ []
  spare_empty None b n room is e = absurd cc
  spare_empty (Some s) b n room is e = let same : s ≡ b = cc in sym same ∙ is.0

  -- one more behind all, in the last block
  pub pushed_last : (bs : List (List X)) (i : ℕ) (b c : List X) (new : X) → AreSome bs → length bs ≡ suc i → b ≡ get_or bs i b → c ≡ b ++ new ∷ []
      → Holds (set bs i c) (flat bs ++ new ∷ [])
  pushed_last bs i b c new some last at made =
      let none = ap (λ (ds : List (List X)). flat ds) (drop_all (suc i) bs (omega arith)) in
      let before : flat bs ≡ flat (take i bs) ++ b = flat_at bs i b (omega arith) at
      ∙ (ap (λ (ys : List X). flat (take i bs) ++ (b ++ ys)) none ∙ ap (λ (ys : List X). flat (take i bs) ++ ys) (append-nil b)) in
      record {
        items = flat_set bs i c (omega arith)
            ∙ (ap (λ (ys : List X). flat (take i bs) ++ (c ++ ys)) none
            ∙ (ap (λ (ys : List X). flat (take i bs) ++ ys) (append-nil c ∙ made)
            ∙ (sym (append_assoc (flat (take i bs)) b (new ∷ [])) ∙ ap (λ (ys : List X). ys ++ new ∷ []) (sym before))));
        some = some_set bs i c some (ap is_empty made ∙ pushed_some b);
      }
    where
      pushed_some : (b : List X) → is_empty (b ++ new ∷ []) ≡ false
      pushed_some [] = refl
      pushed_some (x ∷ xs) = refl

  -- and in one of its own
  pub pushed_new : (bs cs : List (List X)) (b : List X) (new : X) → AreSome bs → b ≡ new ∷ [] → cs ≡ bs ++ b ∷ [] → Holds cs (flat bs ++ new ∷ [])
  pushed_new bs cs b new some one made = record {
    items = ap flat made ∙ (flat-append bs (b ∷ []) ∙ (ap (λ (ys : List X). flat bs ++ ys) (append-nil b) ∙ ap (λ (ys : List X). flat bs ++ ys) one));
    some = subst (λ (ds : List (List X)). AreSome ds) (sym made) (some-append bs (b ∷ []) some (ap is_empty one, tt));
  }

  -- what finds, takes and changes one item looks at the first alone
  pub first_removed : (is : X → Bool) (x : X) (xs ys : List X) → first_out is (x ∷ (xs ++ ys)) ≡ first_out is (x ∷ xs) ++ ys
  first_removed is x xs ys = elim (cases_Bool (is x)) [ inl e ↦ rw e refl | inr e ↦ rw e refl ]

  pub first_made : (is : X → Bool) (f : X → X) (x : X) (xs ys : List X) → first_changed is f (x ∷ (xs ++ ys)) ≡ first_changed is f (x ∷ xs) ++ ys
  first_made is f x xs ys = elim (cases_Bool (is x)) [ inl e ↦ rw e refl | inr e ↦ rw e refl ]
