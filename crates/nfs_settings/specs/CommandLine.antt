-- What may be asked for on the command line (this server's profile).
use Rattle.std.specs.Prelude.{◌≤◌, ℕ, Option, Some, None, IfSome}
use Rattle.nfs_serve.specs.Script.{connection_count}
use Rattle.nfs_settings.specs.{declared.asked.Order.Order, declared.asked.Order.TheVariants.{Replay, Serve}}

-- 1 to 1,000,000 connections, or no end of them; 1 to 16 at once, or as many as the settings say; a line of status after each 1 to 86,400 seconds, or none
abbrev pub MayBeAsked : Order → Type 0
MayBeAsked (Replay settings) = Unit {0}
MayBeAsked (Serve listen connections asked settings status metrics clients) = IfSome connections (λ n. (1 ≤ n) × (n ≤ 1000000))
    × IfSome asked (λ n. (1 ≤ n) × (n ≤ connection_count)) × IfSome status (λ n. (1 ≤ n) × (n ≤ 86400))

-- How many are asked for: as many as are said; else one, where it is said how many there are in all.
abbrev pub at_once : Option ℕ → Option ℕ → Option ℕ
at_once connections (Some asked) = Some asked
at_once (Some connections) None = Some 1
at_once None None = None
