-- Who is taken from the system, and who of those that wait is let in (docs/OPERATING.md).
use Rattle.std.specs.Prelude.{◌≡◌, ◌⊎◌, ◌≤◌, ◌<◌, ℕ, ◌+◌, min, List, length, Bool, true, ◌||◌, nat_eq, Option, IfSome}
use Rattle.nfs_pace.specs.Places.{PlacesModel, GivesPort}
use Rattle.nfs_sockets.specs.{Left.none_left, declared.left.Left.Left, declared.outside.Newcomer.Newcomer}

-- Why nobody is let in who waits, on the first `made` ports: no connection is to come any more; a port was looked for a short while ago; nobody waits; the
-- places have no port for some address, or one that was not made; or the system has no room to watch one more connection, which is counted.
abbrev pub StaysOut : (made : ℕ) → Left → (now again : ℕ) → List Newcomer → PlacesModel → (shown sweep : ℕ) → (unwatched0 unwatched1 : ℕ) → Type 0
StaysOut made left now again newcomers places shown sweep unwatched0 unwatched1 = (none_left left.connections ≡ true) ⊎ (now < again)
    ⊎ (length newcomers ≡ 0)
    ⊎ ((address : ℕ) × (port : Option ℕ) × GivesPort places address now shown sweep port × IfSome port (λ p. made ≤ p))
    ⊎ (unwatched1 ≡ min (unwatched0 + 1) 18446744073709551615)

-- Which failures to take a connection last (accept(2) of Linux): the listener is none, or none any more. The others pass.
-- EBADF, EFAULT, EINVAL, ENOTSOCK, EOPNOTSUPP
abbrev pub lasts : ℕ → Bool
lasts number = nat_eq number 9 || nat_eq number 14 || nat_eq number 22 || nat_eq number 88 || nat_eq number 95
