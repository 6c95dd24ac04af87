-- Lists that lie in blocks: what stands in one block, and round it.
use Rattle.std.proofs.Common.{◌≡◌, inl, inr, ℕ, zero, suc, ◌+◌, ◌<◌, ◌≤◌, List, [], ◌∷◌, ◌++◌, take, set, length, get_or}
use Rattle.std.proofs.{Common.{Option, Some, None, refl, sym, ap, subst, arith}, lemmas.List.{length-append}}
use Rattle.std.specs.{Prelude.{slice_get, IfSome}, List.remove}
use Rattle.nfs_xdr.specs.Tables.{In}
use Rattle.nfs_ranges.specs.Blocks.{flat, last_of}

module _ {X : Type 0} where
  -- Lists behind each other.

  pub in_front : (xs ys : List X) (q : X) → In q xs → In q (xs ++ ys)
  in_front [] ys q there = absurd there
  in_front (x ∷ xs) ys q (inl is) = inl is
  in_front (x ∷ xs) ys q (inr more) = inr (in_front xs ys q more)

  pub in_rear : (xs ys : List X) (q : X) → In q ys → In q (xs ++ ys)
  in_rear [] ys q there = there
  in_rear (x ∷ xs) ys q there = inr (in_rear xs ys q there)

  pub last_among : (p : X) (ps : List X) → In (last_of p ps) (p ∷ ps)
  last_among p [] = inl refl
  last_among p (q ∷ qs) = inr (last_among q qs)

  pub in_flat : (bs : List (List X)) (c : List X) (q : X) → In c bs → In q c → In q (flat bs)
  in_flat [] c q there in_c = absurd there
  in_flat (b ∷ bs) c q (inl is) in_c = in_front b (flat bs) q (subst (λ (d : List X). In q d) is in_c)
  in_flat (b ∷ bs) c q (inr more) in_c = in_rear b (flat bs) q (in_flat bs c q more in_c)

  -- The block at a place.

  pub front_longer : (bs : List (List X)) (i : ℕ) (b : List X) → i < length bs → b ≡ get_or bs i b
      → length (flat (take (suc i) bs)) ≡ length (flat (take i bs)) + length b
  front_longer [] i b less is = absurd (omega arith)
  front_longer (c ∷ bs) zero b less is = omega (arith, length-append c [], ap (λ (xs : List X). length xs) is)
  front_longer (c ∷ bs) (suc i) b less is =
      let more = front_longer bs i b (omega arith) is in
      omega (arith, length-append c (flat (take (suc i) bs)), length-append c (flat (take i bs)), more)

  pub got_block : (bs : List (List X)) (i : ℕ) (b : List X) → slice_get bs i ≡ Some b → (i < length bs) × (b ≡ get_or bs i b)
  got_block [] i b e = absurd cc
  got_block (c ∷ bs) zero b e = let same : c ≡ b = cc in (omega arith, sym same)
  got_block (c ∷ bs) (suc i) b e = let rest = got_block bs i b e in let less = rest.0 in (omega arith, rest.1)

  pub removed_set : (bs : List (List X)) (i : ℕ) (b : List X) → remove (set bs i b) i ≡ remove bs i
  removed_set [] i b = refl
  removed_set (c ∷ bs) zero b = refl
  removed_set (c ∷ bs) (suc i) b = ap (λ (ds : List (List X)). c ∷ ds) (removed_set bs i b)

  -- room stays room
  pub room_kept : (o : Option (List X)) (n m room more : ℕ) → IfSome o (λ s. (s ≡ []) × (n < room)) → m ≤ n → more ≡ room → IfSome o (λ s. (s ≡ []) × (m < more))
  room_kept None n m room more is le same = tt
  room_kept (Some s) n m room more is le same = let less = is.1 in (is.0, omega arith)
