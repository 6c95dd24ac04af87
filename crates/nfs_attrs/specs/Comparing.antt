-- Comparing attributes, as VERIFY and NVERIFY do (RFC 8881 sections 18.15 and 18.31).
use Rattle.std.specs.Prelude.{ℕ, ◌||◌, List, Bool, not, bytes_eq, Result, Ok, Err, if◌then◌else◌}
use Rattle.nfs_xdr.specs.{declared.status.Status.Status, declared.status.Status.TheVariants.{AttrNotSupp, Inval}}
use Rattle.nfs_tree.specs.declared.object.Object.{Object}
use Rattle.nfs_attrs.specs.{Mask.{has, asks_set_only, within}, Attributes.{supported, values}, declared.about.About.About, declared.mask.Mask.Mask}

-- whether the bytes are the values as the server itself writes them; rdattr_error and what can only be set are not compared
abbrev pub same : Mask → List ℕ → About → Object → Result Bool Status
same asked bytes a o =
    if not (within asked (supported a.profile)) then Err AttrNotSupp
    else if has asked 11 || asks_set_only asked then Err Inval
    else Ok (bytes_eq bytes (values asked a o))
