-- What is so at the first place that passes a test.
use Rattle.std.proofs.Common.{◌≡◌, ℕ, true, Some, None, is_none}
use Rattle.std.specs.List.{position}
use Rattle.std.proofs.lemmas.List.Quantifiers.{position-Some}
use Rattle.nfs_pace.specs.Places.{Guests, guest_at, is_over}

pub free_is_none : (guests : Guests) (port : ℕ) → position is_none guests ≡ Some port → is_none (guest_at guests port) ≡ true
free_is_none guests port found = (position-Some is_none guests port None found).1

pub silent_is_over : (lease shown : ℕ) (guests : Guests) (port : ℕ) → position (is_over lease shown) guests ≡ Some port
    → is_over lease shown (guest_at guests port) ≡ true
silent_is_over lease shown guests port found = (position-Some (is_over lease shown) guests port None found).1
