-- The text of a user or a group (RFC 8881 section 5.9): its number in decimal, without leading zeros.
use Rattle.std.specs.{Prelude.{ℕ, ◌^◌, ◌&&◌, List, Option, Some, None, nat_lt, bytes_eq, if◌then◌else◌}, Fmt.decimal, Str.Parse.digits_value}

-- the number below 2^32 that is written so
abbrev pub owner_of : List ℕ → Option ℕ
owner_of text = if nat_lt (digits_value 10 text) (2 ^ 32) && bytes_eq text (decimal (digits_value 10 text)) then Some (digits_value 10 text) else None
