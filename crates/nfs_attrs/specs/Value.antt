-- How a value is spelled, by its kind.
use Rattle.std.specs.{Prelude.{ℕ, List, [], ◌++◌, Option, Some, None, if◌then◌else◌}, Fmt.decimal}
use Rattle.nfs_xdr.specs.Spelling as spelling
use Rattle.nfs_xdr.specs.Wire.{nfstime4}
use Rattle.nfs_attrs.specs.{Wire.nfs_fh4, Mask.{has, spell_mask}, Attributes.{attributes, value_at}, declared.about.About.About, declared.mask.Mask.Mask}
use Rattle.nfs_tree.specs.declared.object.Object.{Object}
use Rattle.nfs_attrs.specs.declared.value.Value as rust_value
use Rattle.nfs_attrs.specs.declared.value.Value.TheVariants as V

abbrev pub spell_value : rust_value.Value → List ℕ
spell_value (V.Number n) = spelling.number n
spell_value (V.Hyper n) = spelling.hyper n
spell_value (V.Flag b) = spelling.flag b
spell_value (V.FsId major minor) = spelling.hyper major ++ spelling.hyper minor
spell_value (V.Handle h) = spelling.opaque (nfs_fh4 h).bytes
spell_value (V.Owner n) = spelling.opaque (decimal n)
spell_value (V.Mask m) = spell_mask m
spell_value (V.Time t) = (nfstime4 t).bytes

abbrev pub spell_found : Option rust_value.Value → List ℕ
spell_found None = []
spell_found (Some v) = spell_value v

abbrev pub asked_at : Mask → About → Object → ℕ → List ℕ
asked_at asked a o n = if has asked n then value_at attributes n a o else []
