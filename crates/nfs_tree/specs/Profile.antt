-- What a server has of what the RFC leaves open (docs/PROTOCOL.md).
use Rattle.std.specs.Prelude.{Bool, true, false}
use Rattle.nfs_tree.specs.{declared.profile.Profile.Profile, declared.profile.Profile.TheVariants.{Exact, Unix}}

abbrev pub is_unix : Profile → Bool
is_unix Exact = false
is_unix Unix = true
