-- Going over the operations of a compound, as a loop does.
use Rattle.std.proofs.Common.{◌≡◌, ℕ, zero, suc, ◌-◌, ◌+◌, ◌≤◌, ◌<◌, Bool, true, false, eqb, cond, List, [], ◌∷◌, length, Option, Some, None, refl, sym, ap}
use Rattle.std.proofs.{Common.{◌∙◌, arith}, lemmas.Option.same_Some, lemmas.Bool.{eq-eqb, ne_eqb, false≢true}}
use Rattle.nfs_xdr.proofs.CodecLaws.{bind_some}
use Rattle.std.specs.Prelude.{is_some}
use Rattle.nfs_xdr.specs.{Reading.{◌>>=◌, number_at, opaque_at}, Combinators.in_arm}
use Rattle.nfs_compound.specs.{declared.op.Op.Op, declared.op.Item.Item, declared.op.Item.TheVariants.{Operation, Fault}, OpCodec.{fault_at, op_at}}
use Rattle.nfs_compound.specs.{OpNum.op_num, ReadRequest.{is_fault, op_or_fault, item_at, in_front, first_of, items_at, items_left, request_at}}

behind_fault : (x : Item) (items : Option (List Item)) → is_fault x ≡ true → is_some (in_front x items) ≡ true
behind_fault (Operation op) items e = absurd cc
behind_fault (Fault n status) items e = refl

behind_operation : (x : Item) (items : Option (List Item)) → is_fault x ≡ false → is_some (in_front x items) ≡ is_some items
behind_operation (Operation op) (Some xs) e = refl
behind_operation (Operation op) None e = refl
behind_operation (Fault n status) items e = absurd cc

pub at_none : (count i : ℕ) (bytes : List ℕ) (whole : Bool) → i < count → item_at bytes ≡ None → is_some (items_at (count - i) bytes) ≡ whole → false ≡ whole
unfolding items_at
at_none count i bytes whole lt h so_far =
    let k : count - i ≡ suc (count - (i + 1)) = omega arith in
    let one : is_some (items_at (count - i) bytes) ≡ false = rw (k, h) refl in
    sym one ∙ so_far

pub at_fault : (count i : ℕ) (bytes : List ℕ) (x : Item) (rest : List ℕ) (whole : Bool) → i < count
    → item_at bytes ≡ Some (x, rest) → is_fault x ≡ true → is_some (items_at (count - i) bytes) ≡ whole → true ≡ whole
unfolding items_at
at_fault count i bytes x rest whole lt h f so_far =
    let k : count - i ≡ suc (count - (i + 1)) = omega arith in
    let one : is_some (items_at (count - i) bytes) ≡ true = rw (k, h) (behind_fault x (items_at (count - (i + 1)) rest) f) in
    sym one ∙ so_far

pub at_operation : (count i : ℕ) (bytes : List ℕ) (x : Item) (rest : List ℕ) (whole : Bool) → i < count → item_at bytes ≡ Some (x, rest)
    → is_fault x ≡ false → is_some (items_at (count - i) bytes) ≡ whole → is_some (items_at (count - (i + 1)) rest) ≡ whole
unfolding items_at
at_operation count i bytes x rest whole lt h f so_far =
    let k : count - i ≡ suc (count - (i + 1)) = omega arith in
    let one : is_some (items_at (count - i) bytes) ≡ is_some (items_at (count - (i + 1)) rest) =
    rw (k, h) (behind_operation x (items_at (count - (i + 1)) rest) f) in
    sym one ∙ so_far

pub at_end : (count i : ℕ) (bytes : List ℕ) (whole : Bool) → count ≤ i → is_some (items_at (count - i) bytes) ≡ whole → eqb (length bytes) 0 ≡ whole
unfolding items_at
at_end count i bytes whole le so_far =
    let k : count - i ≡ 0 = omega arith in
    let one : is_some (items_at (count - i) bytes) ≡ eqb (length bytes) 0 = rw k (answered (eqb (length bytes) 0)) in
    sym one ∙ so_far
  where
    answered : (b : Bool) → is_some (cond {A = Option (List Item)} b (Some []) None) ≡ b
    answered true = refl
    answered false = refl

-- what was passed over could be read
pub passed_over : (r : Option (Item × List ℕ)) (f : Bool) (rest : List ℕ) → in_arm is_fault r ≡ Some (f, rest) → (x : Item) × (r ≡ Some (x, rest)) × (is_fault x ≡ f)
passed_over None f rest e = absurd cc
passed_over (Some x) f rest e =
    let same : (is_fault x.0, x.1) ≡ (f, rest) = same_Some _ _ e in
    (x.0, ap (λ (w : List ℕ). Some (x.0, w)) (ap (λ (p : Bool × List ℕ). p.1) same), ap (λ (p : Bool × List ℕ). p.0) same)

-- nothing is left behind a fault
none_left : (n : ℕ) → items_left n [] ≡ []
unfolding items_left item_at
none_left zero = refl
none_left (suc n) = refl

place_ends : (fault : Item) (r : Option (Op × List ℕ)) (x : Item × List ℕ) → op_or_fault fault r ≡ x → is_fault x.0 ≡ true → x.1 ≡ []
place_ends fault None x e f = sym (ap (λ (p : Item × List ℕ). p.1) e)
place_ends fault (Some y) x e f = absurd (false≢true (ap (λ (p : Item × List ℕ). is_fault p.0) e ∙ f))

fault_ends : (bytes : List ℕ) (x : Item × List ℕ) → item_at bytes ≡ Some x → is_fault x.0 ≡ true → x.1 ≡ []
unfolding item_at
fault_ends bytes x e f =
    let s = bind_some (number_at bytes) (λ n. Some (op_or_fault (fault_at n.0 n.1) (op_num n.0 >>= λ op. op_at op n.1))) x e in
    place_ends (fault_at s.0.0 s.0.1) (op_num s.0.0 >>= λ op. op_at op s.0.1) x (same_Some _ x s.2) f

ended : (b : Bool) → is_some (cond {A = Option (List Item)} b (Some []) None) ≡ true → cond {A = Option (List Item)} b (Some []) None ≡ Some []
ended true e = refl
ended false e = absurd cc

behind_left : (n : ℕ) (x : Item) (rest : List ℕ) → (is_some (items_at n rest) ≡ true → items_at n rest ≡ Some (items_left n rest))
    → is_some (in_front x (items_at n rest)) ≡ true → (is_fault x ≡ true → rest ≡ []) → in_front x (items_at n rest) ≡ Some (x ∷ items_left n rest)
behind_left n (Operation op) rest more e f = rw (more (sym (behind_operation (Operation op) (items_at n rest) refl) ∙ e)) refl
behind_left n (Fault k status) rest more e f = rw (f refl, none_left n) refl

step_left : (n : ℕ) (bytes : List ℕ) (r : Option (Item × List ℕ))
    → ((rest : List ℕ) → is_some (items_at n rest) ≡ true → items_at n rest ≡ Some (items_left n rest)) → item_at bytes ≡ r
    → is_some (r >>= λ x. in_front x.0 (items_at n x.1)) ≡ true → (r >>= λ x. in_front x.0 (items_at n x.1)) ≡ Some (first_of r (λ rest. items_left n rest))
step_left n bytes None more h e = absurd cc
step_left n bytes (Some x) more h e = behind_left n x.0 x.1 (more x.1) e (λ f. fault_ends bytes x h f)

-- what is left of what can be read is what was read
pub left_is : (n : ℕ) (bytes : List ℕ) → is_some (items_at n bytes) ≡ true → items_at n bytes ≡ Some (items_left n bytes)
unfolding items_at items_left
left_is zero bytes e = ended (eqb (length bytes) 0) e
left_is (suc n) bytes e = step_left n bytes (item_at bytes) (left_is n) refl e

pub at_other : (minor : ℕ) (items : Option (List Item)) → (minor ≡ 1 → ⊥) → cond (eqb minor 1) items (Some []) ≡ Some []
at_other minor items ne = rw (ne_eqb minor 1 ne) refl

pub at_minor_one : (minor declared : ℕ) (bytes : List ℕ) → minor ≡ 1 → is_some (items_at declared bytes) ≡ true
    → cond (eqb minor 1) (items_at declared bytes) (Some []) ≡ Some (items_left declared bytes)
at_minor_one minor declared bytes one e = rw (eq-eqb minor 1 one) (left_is declared bytes e)

-- a head and a list
pub request_from : (bytes front tag r s t : List ℕ) (minor declared : ℕ) (items : List Item) → front ≡ bytes
    → opaque_at 1024 front ≡ Some (tag, r) → number_at r ≡ Some (minor, s) → number_at s ≡ Some (declared, t)
    → cond (eqb minor 1) (items_at declared t) (Some []) ≡ Some items
    → request_at bytes ≡ Some (record { bytes = bytes; tag = tag; minor = minor; declared = declared; left = items })
unfolding request_at
request_from bytes front tag r s t minor declared items same h i j k = rw (ap (opaque_at 1024) (sym same) ∙ h, i, j, k) refl
