-- The keys of a table, and the members that it stands for.
use Rattle.std.proofs.Common.{◌≡◌, Bool, true, ◌&&◌, List, [], ◌∷◌, map, String, Global, string_bytes, refl, ap}
use Rattle.toml.specs.{declared.value.Value.Value, View.members_view}
use Rattle.nfs_settings.specs.SettingsFile.{is_known, all_known}

abbrev pub known_keys : List (String Global) → Bool
known_keys [] = true
known_keys (key ∷ more) = is_known (string_bytes key) && known_keys more

pub all_known-keys : (entries : List (String Global × Value)) → all_known (members_view entries) ≡ known_keys (map (λ e. e.0) entries)
all_known-keys [] = refl
all_known-keys (e ∷ more) = ap (λ b. is_known (string_bytes e.0) && b) (all_known-keys more)
