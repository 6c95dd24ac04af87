-- What each change of the slab and of the map makes of the list of what is on a shelf.
use Rattle.std.proofs.Common.{◌≡◌, ◌≢◌, ℕ, suc, ◌+◌, ◌<◌, true, false, inl, inr, List, [], ◌∷◌, ◌++◌, Bor, MutBor, Option, Some, None, refl, sym, ◌∙◌, ap, arith, subst}
use Rattle.std.proofs.{lemmas.Bool.{eqb-true, Decides.nat_tests}, lemmas.List.{get_or-set_same, get_or-set_other}}
use Rattle.std.specs.{Prelude.{slice_index_or, length, zero, ◌==◌, option_map, option_copied, IfSome}, Option.{option_and_then, option_copied_mut}, Ordering.nat_cmp, BTreeMap.{is_at, insert_entry}}
use Rattle.std.specs.Map.{lookup, remove_entry}
use Rattle.slab.specs.Slab.{with_value, Slab, get, Updates}
use Rattle.nfs_xdr.specs.Tables.{IsRising, In, record_at, without_record, with_record}
use Rattle.nfs_xdr.proofs.{Lists.find_in, Tables.{IsRising-push, in_bounds, in_once, without_none as none_without}}
use Rattle.nfs_tree.specs.Indexed.{stored, IsShelf}
use Rattle.nfs_tree.proofs.StoredLemmas.{insert_last, free_vacant, stored_push, stored_apart, stored_remove, led_new, led_without, led_write, in_stored, AreStored-push, stored_find, stored_write, found_keeps, rising_keys, rising_stored, length-stored}

-- a pair that stands is the one that is looked up
at_self : (n : ℕ) → is_at (nat_cmp n) n ≡ true
at_self n = grind (arith, nat_tests)

apart : (n m : ℕ) → m < n → is_at (nat_cmp n) m ≡ false
apart n m up = grind (arith, nat_tests)

lookup_in : (low high : ℕ) (es : List (ℕ × ℕ)) (n key : ℕ) → IsRising (λ (e : ℕ × ℕ). e.0) low es high → In (n, key) es → lookup (is_at (nat_cmp n)) es ≡ Some key
lookup_in low high [] n key rise there = absurd there
lookup_in low high (e ∷ es) n key rise (inl is) =
    let here : is_at (nat_cmp n) e.0 ≡ true = ap (λ (x : ℕ × ℕ). is_at (nat_cmp n) x.0) (sym is) ∙ at_self n in
    rw here (ap (λ (x : ℕ × ℕ). Some x.1) (sym is))
lookup_in low high (e ∷ es) n key rise (inr more) =
    let above = (in_bounds (λ (e : ℕ × ℕ). e.0) (suc e.0) high es (n, key) rise.1 more).0 in
    let off : is_at (nat_cmp n) e.0 ≡ false = apart n e.0 (omega arith) in
    rw off (lookup_in (suc e.0) high es n key rise.1 more)

pub if_some_as : {X : Type 0} (o : Option X) (P Q : X → Type 0) → ((x : X) → P x → Q x) → IfSome o P → IfSome o Q
if_some_as None P Q f h = tt
if_some_as (Some x) P Q f h = f x h

-- what is true of whatever was found is true of what is lent
pub if_lent : {K : Type 0} (r : Option (Bor K)) (o : Option K) (P : K → Type 0) → option_copied r ≡ o → ((k : K) → o ≡ Some k → P k) → IfSome r (λ b. P b.now)
if_lent None o P is all = tt
if_lent (Some b) o P is all = all b.now (sym is)

pub if_lent_mut : {K : Type 0} (r : Option (MutBor K)) (o : Option K) (P : K → Type 0) → option_copied_mut r ≡ o → ((k : K) → o ≡ Some k → P k) → IfSome r (λ b. P b.now)
if_lent_mut None o P is all = tt
if_lent_mut (Some b) o P is all = all b.now (sym is)

module _ {K X : Type 0} (made : ℕ → K → X) (number : X → ℕ) where
  pub shelf_same : (s t : Slab K) (es fs : List (ℕ × ℕ)) → t.slots ≡ s.slots → fs ≡ es → IsShelf made number (get s) es → IsShelf made number (get t) fs
  shelf_same s t es fs slots entries is =
      subst (λ fs. IsShelf made number (get t) fs) (sym entries) (subst (λ slots. IsShelf made number (get (record s { slots = slots })) es) (sym slots) is)

  pub view_same : (s t : Slab K) (es : List (ℕ × ℕ)) → t.slots ≡ s.slots → stored made (get t) es ≡ stored made (get s) es
  view_same s t es slots = ap (λ slots. stored made (get (record s { slots = slots })) es) slots

  pub record Made (s t : Slab K) (es fs : List (ℕ × ℕ)) (x : X) : Type 0 where
    pub is : IsShelf made number (get t) fs
    pub view : stored made (get t) fs ≡ stored made (get s) es ++ x ∷ []

  pub shelf_new : (s t : Slab K) (es fs : List (ℕ × ℕ)) (n key : ℕ) (x : K) → number (made n x) ≡ n → IsShelf made number (get s) es → IsRising number 0 (stored made (get s) es) n
      → get s key ≡ None → Updates s t key (Some x) → fs ≡ insert_entry nat_cmp es n key → Made s t es fs (made n x)
  shelf_new s t es fs n key x keeps is up vacant updates entries =
      let rising = rising_keys made number (get s) 0 n es is.stored up in
      let last : fs ≡ es ++ (n, key) ∷ [] = entries ∙ insert_last es 0 n key rising in
      let free = free_vacant made number (get s) key vacant es is.stored in
      let kept = stored_apart made number (get s) (get t) key updates.others es free is.stored in
      rw last (record {
        is = record {
          high = n + 1;
          rising = IsRising-push (λ (e : ℕ × ℕ). e.0) 0 n (n + 1) es (n, key) refl refl rising;
          stored = AreStored-push made number (get t) n key es (rw updates.changed keeps) free kept.1;
          led = led_new (get s) (get t) n key es updates.others is.led;
        };
        view = stored_push made number (get t) n key x es updates.changed ∙ ap (λ xs. xs ++ made n x ∷ []) kept.0;
      })

  pub record Lost (s t : Slab K) (es fs : List (ℕ × ℕ)) (n : ℕ) : Type 0 where
    pub is : IsShelf made number (get t) fs
    pub view : stored made (get t) fs ≡ without_record number (stored made (get s) es) n

  pub shelf_without : (s t : Slab K) (es fs : List (ℕ × ℕ)) (n key : ℕ) → IsShelf made number (get s) es → lookup (is_at (nat_cmp n)) es ≡ Some key
      → Updates s t key None → fs ≡ remove_entry (is_at (nat_cmp n)) es → Lost s t es fs n
  shelf_without s t es fs n key is found updates entries =
      let gone = stored_remove made number (get s) (get t) n key 0 is.high updates.others es is.rising is.stored found in
      rw entries (record {
        is = record {
          high = is.high;
          rising = gone.2;
          stored = gone.1;
          led = led_without (get s) (get t) n key es updates.others updates.changed found is.led;
        };
        view = gone.0;
      })

  -- what is looked up by way of the map is the one of the list
  pub find_same : (s : Slab K) (es : List (ℕ × ℕ)) (n : ℕ) → IsShelf made number (get s) es
      → option_map (made n) (option_and_then (get s) (lookup (is_at (nat_cmp n)) es)) ≡ record_at number (stored made (get s) es) n
  find_same s es n is = sym (stored_find made number (get s) n es is.stored)

  pub find_by : (s : Slab K) (es : List (ℕ × ℕ)) (n : ℕ) (k : Option ℕ) → IsShelf made number (get s) es → k ≡ lookup (is_at (nat_cmp n)) es
      → option_map (made n) (option_and_then (get s) k) ≡ record_at number (stored made (get s) es) n
  find_by s es n k is leads = ap (λ k. option_map (made n) (option_and_then (get s) k)) leads ∙ find_same s es n is

  pub without_none : (s : Slab K) (es : List (ℕ × ℕ)) (n : ℕ) → IsShelf made number (get s) es → None ≡ lookup (is_at (nat_cmp n)) es
      → without_record number (stored made (get s) es) n ≡ stored made (get s) es
  without_none s es n is none = none_without number n (stored made (get s) es) (sym (find_by s es n None is none))

  pub shelf_length : (s : Slab K) (es : List (ℕ × ℕ)) → IsShelf made number (get s) es → length (stored made (get s) es) ≡ length es
  shelf_length s es is = length-stored made number (get s) es is.stored

  -- what stands at a key is one of them
  pub is_shelved : (s : Slab K) (es : List (ℕ × ℕ)) (k : ℕ) (x : K) → IsShelf made number (get s) es → get s k ≡ Some x → (n : ℕ) × In (made n x) (stored made (get s) es)
  is_shelved s es k x is here = let to = is.led k x here in (to.0, in_stored made (get s) to.0 k x es here to.1)

  -- .. and where a pair leads, that of its number
  pub find_pair : (s : Slab K) (es : List (ℕ × ℕ)) (n key : ℕ) → IsShelf made number (get s) es → In (n, key) es
      → option_map (made n) (get s key) ≡ record_at number (stored made (get s) es) n
  find_pair s es n key is there = find_by s es n (Some key) is (sym (lookup_in 0 is.high es n key is.rising there))

  pub record Put (s : Slab K) (es : List (ℕ × ℕ)) (n key : ℕ) (x : K) : Type 0 where
    pub is : IsShelf made number (get (with_value s key x)) es
    pub view : stored made (get (with_value s key x)) es ≡ with_record number (stored made (get s) es) n (λ _. made n x)

  within : (xs : List (Option K)) (key : ℕ) (x : K) → slice_index_or xs key None ≡ Some x → key < length xs
  within [] key x e = absurd cc
  within (o ∷ xs) zero x e = omega arith
  within (o ∷ xs) (suc key) x e = let rest = within xs key x e in omega arith

  -- whatever is written where a number leads
  pub shelf_put : (s : Slab K) (es : List (ℕ × ℕ)) (n key : ℕ) (x : K) → number (made n x) ≡ n → IsShelf made number (get s) es → lookup (is_at (nat_cmp n)) es ≡ Some key → Put s es n key x
  shelf_put s es n key x keeps is found =
      let t : Slab K = with_value s key x in
      let old = found_keeps made number (get s) n key es is.stored found in
      let put : get t key ≡ Some x = get_or-set_same s.slots key (Some x) None (within s.slots key old.0 old.1) in
      let others : (k : ℕ) → k ≢ key → get t k ≡ get s k = λ k other. get_or-set_other s.slots key k (Some x) None other in
      let wrote = stored_write made number (λ _. made n x) (get s) (get t) n key 0 is.high old.0 x old.1 put refl keeps others es is.rising is.stored found in
      record {
        is = record { high = is.high; rising = is.rising; stored = wrote.1; led = led_write (get s) (get t) key old.0 es others old.1 is.led };
        view = wrote.0;
      }

  -- a number is that of one value
  pub shelf_one : (s : Slab K) (es : List (ℕ × ℕ)) (n : ℕ) (y x : X) → IsShelf made number (get s) es → record_at number (stored made (get s) es) n ≡ Some y
      → In x (stored made (get s) es) → number x ≡ n → x ≡ y
  shelf_one s es n y x is found there same =
      let at = find_in (λ x. number x == n) (stored made (get s) es) y found in
      in_once number 0 is.high (stored made (get s) es) x y (rising_stored made number (get s) 0 is.high es is.stored is.rising) there at.0 (same ∙ sym (eqb-true _ _ at.1))
