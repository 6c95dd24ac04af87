-- What follows what.
use Rattle.std.proofs.Common.{◌≡◌, ◌≢◌, ℕ, ◌<◌, zero, suc, Bool, true, false, List, [], ◌∷◌}
use Rattle.std.proofs.{Common.{◌++◌, length, take, drop, get_or, Some, refl, sym, ap, ◌∙◌, append_assoc, arith}, lemmas.Option.same_Some}
use Rattle.std.proofs.lemmas.List.{drop_at, append-nil}
use Rattle.std.specs.List.{flat_map}
use Rattle.nfs_xdr.specs.{Codec.Codec, Lawful.IsCodec}
use Rattle.nfs_attrs.specs.Following.{Follows}

-- no spelling begins another
pub same_value : {A : Type 0} (c : Codec A) → IsCodec c → (x y : A) (new rest : List ℕ) → c.Fits x → c.Fits y → c.spell x ++ new ≡ c.spell y ++ rest → x ≡ y
same_value {A} c is x y new rest fx fy e =
    let both : Some (x, new) ≡ Some (y, rest) = sym (is.again x new fx) ∙ ap c.read e ∙ is.again y rest fy in
    ap (λ (p : A × List ℕ). p.0) (same_Some (x, new) (y, rest) both)

-- what stands behind equal fronts is equal
pub behind : (front x y : List ℕ) → front ++ x ≡ front ++ y → x ≡ y
behind front x y e = sym (drop_at front x (length front) refl) ∙ ap (drop (length front)) e ∙ drop_at front y (length front) refl

-- a value that was read is the one that was looked for, or another
pub follows_if : {A : Type 0} (c : Codec A) → IsCodec c → (x y : A) (b : Bool) (old new : List ℕ) → (b ≡ true → x ≡ y) → (b ≡ false → x ≢ y)
    → old ≡ c.spell x ++ new → c.Fits x → c.Fits y → Follows b (c.spell y) old new
follows_if c is x y true old new same other e fx fy = rw (← same refl) e
follows_if c is x y false old new same other e fx fy = λ rest h. other refl (same_value c is x y new rest fx fy (sym e ∙ h))

-- the parts of a text before an element, of it, and behind it
pub split_at : {A : Type 0} (f : A → List ℕ) (xs : List A) (i : ℕ) (d : A) → i < length xs
    → flat_map f xs ≡ flat_map f (take i xs) ++ (f (get_or xs i d) ++ flat_map f (drop (suc i) xs))
split_at f [] i d lt = absurd (omega arith)
split_at f (x ∷ xs) zero d lt = refl
split_at f (x ∷ xs) (suc i) d lt = ap (λ (w : List ℕ). f x ++ w) (split_at f xs i d (omega arith)) ∙ sym (append_assoc (f x) _ _)

pub one_more : {A : Type 0} (f : A → List ℕ) (xs : List A) (i : ℕ) (d : A) → i < length xs
    → flat_map f (take (suc i) xs) ≡ flat_map f (take i xs) ++ f (get_or xs i d)
one_more f [] i d lt = absurd (omega arith)
one_more f (x ∷ xs) zero d lt = append-nil (f x)
one_more f (x ∷ xs) (suc i) d lt = ap (λ (w : List ℕ). f x ++ w) (one_more f xs i d (omega arith)) ∙ sym (append_assoc (f x) _ _)

-- Where an element does not stand behind those before it, the whole text does not stand.
pub lacks_whole : {A : Type 0} (f : A → List ℕ) (xs : List A) (i : ℕ) (d : A) (old mid : List ℕ) → i < length xs
    → old ≡ flat_map f (take i xs) ++ mid → ((rest : List ℕ) → mid ≢ f (get_or xs i d) ++ rest) → (rest : List ℕ) → old ≢ flat_map f xs ++ rest
lacks_whole f xs i d old mid lt e lacks rest h =
    let here = f (get_or xs i d) in
    let front = flat_map f (take i xs) in
    let later = flat_map f (drop (suc i) xs) in
    let whole : front ++ mid ≡ front ++ (here ++ (later ++ rest)) = sym e ∙ h ∙ ap (λ (w : List ℕ). w ++ rest) (split_at f xs i d lt)
    ∙ append_assoc front _ rest ∙ ap (λ (w : List ℕ). front ++ w) (append_assoc here later rest) in
    lacks (later ++ rest) (behind front mid _ whole)

-- one text behind another
pub follows_then : (b : Bool) (first next old mid new : List ℕ) → old ≡ first ++ mid → Follows b next mid new → Follows b (first ++ next) old new
follows_then true first next old mid new e f = e ∙ ap (λ (w : List ℕ). first ++ w) f ∙ sym (append_assoc first next new)
follows_then false first next old mid new e f = λ rest h. f rest (behind first mid _ (sym e ∙ h ∙ append_assoc first next rest))
