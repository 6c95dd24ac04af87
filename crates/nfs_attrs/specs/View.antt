-- What lent values are, wherever their bytes lie, and what a fault is on the wire.
use Rattle.std.specs.{Prelude.{ℕ, List, Option, Some, None, Result, Ok, Err}, Borrow.Bor}
use Rattle.nfs_xdr.specs.declared.status.Status.{Status}
use Rattle.nfs_xdr.specs.declared.status.Status.TheVariants as S
use Rattle.nfs_attrs.specs.Attributes as table
use Rattle.nfs_attrs.specs.declared.wanted.Settings as rust_settings
use Rattle.nfs_attrs.specs.{declared.wanted.AttrFault.AttrFault, declared.wanted.AttrFault.TheVariants.{AttrNotSupp, Inval, BadXdr, BadOwner}}

abbrev pub lent : Option (Bor (List ℕ)) → Option (List ℕ)
lent None = None
lent (Some text) = Some text.now

abbrev pub settings : rust_settings.Settings → table.Settings
settings s = record { size = s.size; mode = s.mode; owner = lent s.owner; group = lent s.group; access = s.access; modify = s.modify }

abbrev pub found : Option rust_settings.Settings → Option table.Settings
found None = None
found (Some s) = Some (settings s)

abbrev pub attr_fault_status : AttrFault → Status
attr_fault_status AttrNotSupp = S.AttrNotSupp
attr_fault_status Inval = S.Inval
attr_fault_status BadXdr = S.BadXdr
attr_fault_status BadOwner = S.BadOwner

abbrev pub with_status : {A : Type 0} → Result A AttrFault → Result A Status
with_status (Err fault) = Err (attr_fault_status fault)
with_status (Ok a) = Ok a
