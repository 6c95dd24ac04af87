-- The numbers of requests on a slot and of CREATE_SESSIONs (sequenceid4, RFC 8881 sections 2.10.6.1 and 18.36.4).
use Rattle.std.specs.Prelude.{ℕ, ◌+◌, ◌%◌, ◌^◌}

-- numbers go round: 0 stands behind 2^32 - 1
abbrev pub next_number : ℕ → ℕ
next_number number = (number + 1) % 2 ^ 32
