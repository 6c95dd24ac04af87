-- Leases: when each client renewed its own last, and who has run out (RFC 8881 section 8.3; how long a lease lasts is this server's profile).
use Rattle.std.specs.{Prelude.{ℕ, ◌-◌, ◌==◌, nat_lt, Bool, false, Option, Some, None, List, option_map, if◌then◌else◌}, Map.lookup}

-- what a table keeps, each client with the moment of its last renewal, the newest first; other crates see it through `leases_of` and `standing` alone
abbrev pub KeptLeases : Type 0
KeptLeases = List (ℕ × ℕ)

-- the moment at which each client with a lease renewed it last
abbrev pub Book : Type 0
Book = ℕ → Option ℕ

abbrev pub leases_of : KeptLeases → Book
leases_of kept = λ client. lookup (λ c. client == c) kept

abbrev pub no_leases : Book
no_leases = λ client. None

-- a lease begins, or begins anew
abbrev pub with_lease : Book → ℕ → ℕ → Book
with_lease b client now = λ c. if c == client then Some now else b c

-- a lease that stands is renewed
abbrev pub with_renewal : Book → ℕ → ℕ → Book
with_renewal b client now = λ c. if c == client then option_map (λ moment. now) (b c) else b c

-- a lease ends
abbrev pub without_lease : Book → ℕ → Book
without_lease b client = λ c. if c == client then None else b c

-- a renewal is more than a lease ago, where a lease is so long
abbrev pub is_out : (lease now : ℕ) → Option ℕ → Bool
is_out lease now None = false
is_out lease now (Some moment) = nat_lt lease (now - moment)

-- the client's lease has run out
abbrev pub has_run_out : (lease : ℕ) → Book → (now client : ℕ) → Bool
has_run_out lease b now client = is_out lease now (b client)
