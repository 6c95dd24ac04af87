-- Locks in lists: what an edit of a list keeps, and that what is found is told first.
use Rattle.std.proofs.Common.{◌≡◌, ℕ, zero, suc, ◌<◌, ◌≤◌, Bool, true, eqb, List, [], ◌∷◌, ◌++◌, ◌⊎◌, take, drop, length, get_or, set}
use Rattle.std.proofs.{Common.{refl, sym, ◌∙◌, ap, subst, arith, inl, inr}}
use Rattle.std.proofs.lemmas.List.Elements.{All-cons, All-head, All-tail}
use Rattle.std.proofs.lemmas.Bool.{eqb-true}
use Rattle.std.specs.{Prelude.{All}, List.{insert, remove, AllWithin}}
use Rattle.nfs_ranges.proofs.BlockLemmas.{flat_split, flat_at}
use Rattle.nfs_ranges.specs.{declared.Held.Held, declared.listing.Part.Part}
use Rattle.nfs_ranges.specs.{Blocks.flat, Listing.{Has, IsApart, IsIn}}

-- of two lists
pub has_left : (xs ys : List Held) (h : Held) → Has xs h → Has (xs ++ ys) h
has_left [] ys h has = absurd has
has_left (x ∷ xs) ys h (inl e) = inl e
has_left (x ∷ xs) ys h (inr has) = inr (has_left xs ys h has)

pub has_right : (xs ys : List Held) (h : Held) → Has ys h → Has (xs ++ ys) h
has_right [] ys h has = has
has_right (x ∷ xs) ys h has = inr (has_right xs ys h has)

pub has_either : (xs ys : List Held) (h : Held) → Has (xs ++ ys) h → Has xs h ⊎ Has ys h
has_either [] ys h has = inr has
has_either (x ∷ xs) ys h (inl e) = inl (inl e)
has_either (x ∷ xs) ys h (inr has) = elim (has_either xs ys h has) [ inl l ↦ inl (inr l) | inr r ↦ inr r ]

-- all of a list
pub of_all : (P : Held → Type 0) (xs : List Held) (h : Held) → All P xs → Has xs h → P h
of_all P [] h all has = absurd has
of_all P (x ∷ xs) h all (inl e) = subst P e (all zero x (omega arith))
of_all P (x ∷ xs) h all (inr has) = of_all P xs h (λ i d lt. all (suc i) d (omega arith)) has

pub of_blocks : (P : Held → Type 0) (bs : List (List Held)) (h : Held) → All (All P) bs → Has (flat bs) h → P h
of_blocks P [] h all has = absurd has
of_blocks P (b ∷ bs) h all has = elim (has_either b (flat bs) h has) [
  | inl l ↦ of_all P b h (all zero b (omega arith)) l
  | inr r ↦ of_blocks P bs h (λ i d lt. all (suc i) d (omega arith)) r
]

-- one more
pub has_new : (xs : List Held) (i : ℕ) (h : Held) → i ≤ length xs → Has (insert xs i h) h
has_new xs zero h le = inl refl
has_new [] (suc i) h le = absurd (omega arith)
has_new (x ∷ xs) (suc i) h le = inr (has_new xs i h (omega arith))

pub has_still : (xs : List Held) (i : ℕ) (new h : Held) → Has xs h → Has (insert xs i new) h
has_still xs zero new h has = inr has
has_still [] (suc i) new h has = absurd has
has_still (x ∷ xs) (suc i) new h (inl e) = inl e
has_still (x ∷ xs) (suc i) new h (inr has) = inr (has_still xs i new h has)

pub all_insert : (P : Held → Type 0) (xs : List Held) (i : ℕ) (h : Held) → P h → All P xs → All P (insert xs i h)
all_insert P xs zero h p all = All-cons P h xs p all
all_insert P [] (suc i) h p all = All-cons P h [] p all
all_insert P (x ∷ xs) (suc i) h p all = All-cons P x (insert xs i h) (All-head P x xs all) (all_insert P xs i h p (All-tail P x xs all))

-- a part that goes
in_or_apart : (p : Part) (x h : Held) → IsIn p x → x ≡ h → IsApart p h → ⊥
in_or_apart p x h is e (inl other) = other (ap (λ (z : Held). z.owner) (sym e) ∙ is.0)
in_or_apart p x h is e (inr (inl before)) = let same = ap (λ (z : Held). z.last) e in let lo = is.1 in omega arith
in_or_apart p x h is e (inr (inr behind)) = let same = ap (λ (z : Held). z.first) e in let hi = is.2 in omega arith

has_behind : (p : Part) (xs : List Held) (to : ℕ) (h : Held) → AllWithin (IsIn p) xs 0 to → IsApart p h → Has xs h → Has (drop to xs) h
has_behind p xs zero h all apart has = has
has_behind p [] (suc to) h all apart has = absurd has
has_behind p (x ∷ xs) (suc to) h all apart (inl e) = absurd (in_or_apart p x h (all zero x (omega arith) (omega arith)) e apart)
has_behind p (x ∷ xs) (suc to) h all apart (inr has) = has_behind p xs to h (λ k d low lt. all (suc k) d (omega arith) (omega arith)) apart has

pub has_rest : (p : Part) (xs : List Held) (from to : ℕ) (h : Held) → from ≤ to → AllWithin (IsIn p) xs from to → IsApart p h → Has xs h →
    Has (take from xs ++ drop to xs) h
has_rest p xs zero to h le all apart has = has_behind p xs to h all apart has
has_rest p [] (suc from) to h le all apart has = absurd has
has_rest p (x ∷ xs) (suc from) zero h le all apart has = absurd (omega arith)
has_rest p (x ∷ xs) (suc from) (suc to) h le all apart (inl e) = inl e
has_rest p (x ∷ xs) (suc from) (suc to) h le all apart (inr has) =
    inr (has_rest p xs from to h (omega arith) (λ k d low lt. all (suc k) d (omega arith) (omega arith)) apart has)

-- one block in the place of another
pub flat_keeps : (bs : List (List Held)) (i : ℕ) (b new : List Held) (h : Held) → i < length bs → b ≡ get_or bs i b → (Has b h → Has new h) →
    Has (flat bs) h → Has (flat (set bs i new)) h
flat_keeps [] i b new h lt e keeps has = absurd (omega arith)
flat_keeps (c ∷ bs) zero b new h lt e keeps has = elim (has_either c (flat bs) h has) [
  | inl l ↦ has_left new (flat bs) h (keeps (subst (λ xs. Has xs h) (sym e) l))
  | inr r ↦ has_right new (flat bs) h r
]
flat_keeps (c ∷ bs) (suc i) b new h lt e keeps has = elim (has_either c (flat bs) h has) [
  | inl l ↦ has_left c (flat (set bs i new)) h l
  | inr r ↦ has_right c (flat (set bs i new)) h (flat_keeps bs i b new h (omega arith) e keeps r)
]

pub flat_new : (bs : List (List Held)) (i : ℕ) (new : List Held) (h : Held) → i < length bs → Has new h → Has (flat (set bs i new)) h
flat_new [] i new h lt has = absurd (omega arith)
flat_new (c ∷ bs) zero new h lt has = has_left new (flat bs) h has
flat_new (c ∷ bs) (suc i) new h lt has = has_right c (flat (set bs i new)) h (flat_new bs i new h (omega arith) has)

-- one that has become empty goes
none_has : (b : List Held) (h : Held) → length b ≡ 0 → Has b h → ⊥
none_has [] h none has = has
none_has (x ∷ b) h none has = absurd (omega arith)

pub flat_emptied : (bs : List (List Held)) (i : ℕ) (b new : List Held) (h : Held) → i < length bs → b ≡ get_or bs i b → (Has b h → Has new h)
    → length new ≡ 0 → Has (flat bs) h → Has (flat (remove (set bs i new) i)) h
flat_emptied [] i b new h lt e keeps none has = absurd (omega arith)
flat_emptied (c ∷ bs) zero b new h lt e keeps none has = elim (has_either c (flat bs) h has) [
  | inl l ↦ absurd (none_has new h none (keeps (subst (λ xs. Has xs h) (sym e) l)))
  | inr r ↦ r
]
flat_emptied (c ∷ bs) (suc i) b new h lt e keeps none has = elim (has_either c (flat bs) h has) [
  | inl l ↦ has_left c (flat (remove (set bs i new) i)) h l
  | inr r ↦ has_right c (flat (remove (set bs i new) i)) h (flat_emptied bs i b new h (omega arith) e keeps none r)
]

-- a block in two
pub split_in_two : (bs : List (List Held)) (i : ℕ) (b front behind : List Held) → i < length bs → b ≡ get_or bs i b → front ++ behind ≡ b →
    flat (insert (set bs i front) (suc i) behind) ≡ flat bs
split_in_two bs i b front behind lt e both =
    flat_split bs i front behind lt ∙ ap (λ hs. flat (take i bs) ++ (hs ++ flat (drop (suc i) bs))) both ∙ sym (flat_at bs i b lt e)

pub emptied : (n : ℕ) (r : Bool) → r ≡ eqb n 0 → r ≡ true → n ≡ 0
emptied n r is e = eqb-true n 0 (sym is ∙ e)
