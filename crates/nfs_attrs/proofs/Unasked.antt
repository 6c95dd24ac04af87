-- What is not asked for is not told.
use Rattle.std.proofs.Common.{◌≡◌, ℕ, false, refl}
use Rattle.nfs_tree.specs.{declared.profile.Profile.TheVariants.{Exact}}
use Rattle.nfs_tree.specs.declared.object.Object.{Object}
use Rattle.nfs_attrs.specs.{Attributes.{attributes, values}, Mask.has, declared.about.About.About, declared.mask.Mask.Mask}

-- Where the number of names is not asked for, the values are the same whatever it is.
pub values_without_links : (asked : Mask) (a : About) (o : Object) (n : ℕ) → has asked 35 ≡ false
    → values asked (record a { links = n }) o ≡ values asked a o
unfolding values attributes
values_without_links asked a o n off = rw off refl

-- Where it is not asked how much more there may be, the values are the same however much that is ..
pub values_without_free : (asked : Mask) (a : About) (o : Object) (files space : ℕ)
    → has asked 21 ≡ false → has asked 22 ≡ false → has asked 42 ≡ false → has asked 43 ≡ false
    → values asked (record a { files_free = files; space_free = space }) o ≡ values asked a o
unfolding values attributes
values_without_free asked a o files space f21 f22 f42 f43 = rw (f21, f22, f42, f43) refl

-- .. and where it is not asked how much there may be, however much that is
pub values_without_totals : (asked : Mask) (a : About) (o : Object) (files space : ℕ) → has asked 23 ≡ false → has asked 44 ≡ false
    → values asked (record a { files_total = files; space_total = space }) o ≡ values asked a o
unfolding values attributes
values_without_totals asked a o files space f23 f44 = rw (f23, f44) refl

-- In `exact` it is never told how much more there may be.
pub values_in_exact : (asked : Mask) (a : About) (o : Object) (files space : ℕ) → a.profile ≡ Exact
    → values asked (record a { files_free = files; space_free = space }) o ≡ values asked a o
unfolding values attributes
values_in_exact asked a o files space exact = rw exact refl
