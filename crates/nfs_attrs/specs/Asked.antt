-- The values of attributes, by their numbers.
use Rattle.std.specs.{Prelude.{◌≡◌, ◌≤◌, ℕ, List, Option, Some, None, length, take, ⊤}, List.flat_map}
use Rattle.nfs_tree.specs.declared.profile.Profile.{Profile}
use Rattle.nfs_tree.specs.declared.object.Object.{Object}
use Rattle.nfs_attrs.specs.{Attributes.{attributes, value_at, readable}, Mask.{common, spell_mask}, declared.mask.Mask.{Mask}, declared.about.About.About}

-- the values of the attributes of these numbers, one behind the other
abbrev pub values_of : List ℕ → About → Object → List ℕ
values_of numbers a o = flat_map (λ n. value_at attributes n a o) numbers

-- a text begins with a mask as it is spelled for a profile, in so many bytes
abbrev pub BeginsWith : Option Profile → Mask → ℕ → List ℕ → Type 0
BeginsWith None mask front bytes = ⊤
BeginsWith (Some profile) mask front bytes = (front ≤ length bytes) × (take front bytes ≡ spell_mask (common mask (readable profile)))
