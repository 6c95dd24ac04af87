-- Which text is a number's.
use Rattle.std.proofs.Common.{◌≡◌, ◌≢◌, ℕ, ◌<◌, ◌^◌, Bool, true, false, List, Some, None, refl, ap, ◌∙◌, arith, cond}
use Rattle.std.proofs.{lemmas.Bool.{ltb-true, lt-ltb, and_parts}, lemmas.Fmt.decimal_is_IsNumeral, lemmas.Slice.Eq.bytes_eq-Decides}
use Rattle.std.specs.{Prelude.{nat_lt, bytes_eq}, Fmt.decimal, Str.Parse.digits_value}
use Rattle.nfs_attrs.specs.Owner.{owner_of}

digits_of_decimal : (n : ℕ) → n < 2 ^ 32 → digits_value 10 (decimal n) ≡ n
digits_of_decimal n small = (decimal_is_IsNumeral n (omega arith)).1

pub owner_some : (text : List ℕ) (n : ℕ) → n < 2 ^ 32 → text ≡ decimal n → owner_of text ≡ Some n
owner_some text n small e =
    let v : digits_value 10 text ≡ n = ap (digits_value 10) e ∙ digits_of_decimal n small in
    rw (v, lt-ltb n (2 ^ 32) small, (bytes_eq-Decides text (decimal n)).1 e) refl

tested : (text : List ℕ) (b : Bool) → (b ≡ true → (nat_lt (digits_value 10 text) (2 ^ 32) ≡ true) × (bytes_eq text (decimal
    (digits_value 10 text)) ≡ true)) → ((n : ℕ) → n < 2 ^ 32 → text ≢ decimal n) → cond b (Some (digits_value 10 text)) None ≡ None
tested text true parts none = let p = parts refl in absurd (none (digits_value 10 text) (ltb-true _ _ p.0) ((bytes_eq-Decides text _).0 p.1))
tested text false parts none = refl

pub owner_none : (text : List ℕ) → ((n : ℕ) → n < 2 ^ 32 → text ≢ decimal n) → owner_of text ≡ None
owner_none text none = tested text _ (and_parts (nat_lt (digits_value 10 text) (2 ^ 32)) (bytes_eq text (decimal (digits_value 10 text)))) none
