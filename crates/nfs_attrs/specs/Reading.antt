-- Reading attributes that are to be set (fattr4 in SETATTR, CREATE and OPEN; RFC 8881 sections 5.5, 5.6 and 18.30).
use Rattle.std.specs.Prelude.{ℕ, ◌||◌, List, Bool, false, not, Option, Some, None, Result, Ok, Err, is_some, nat_lt, if◌then◌else◌}
use Rattle.nfs_xdr.specs.{declared.status.Status.Status, declared.status.Status.TheVariants.{AttrNotSupp, Inval, BadXdr, BadOwner}}
use Rattle.nfs_tree.specs.declared.profile.Profile.TheVariants.{Exact}
use Rattle.nfs_attrs.specs.{Mask.within, Owner.owner_of, Attributes.{Settings, supported, settable}, SettingsCodec.settings_of, declared.mask.Mask.Mask}
use Rattle.nfs_attrs.specs.{declared.set_time.SetTime.SetTime, declared.set_time.SetTime.TheVariants.{Now, Given}, declared.wanted.Wanted.Wanted}

-- the number that a text names, where there is a text
abbrev pub owner_in : Option (List ℕ) → Option ℕ
owner_in None = None
owner_in (Some text) = owner_of text

abbrev pub names_nobody : Option (List ℕ) → Bool
names_nobody None = false
names_nobody (Some text) = not (is_some (owner_of text))

-- more nanoseconds than a second has
abbrev pub overflows : Option SetTime → Bool
overflows None = false
overflows (Some Now) = false
overflows (Some (Given t)) = nat_lt 999999999 t.nanoseconds

-- more than the twelve bits of a mode
abbrev pub exceeds : Option ℕ → Bool
exceeds None = false
exceeds (Some mode) = nat_lt 4095 mode

abbrev pub judged_settings : Mask → Option Settings → Result Wanted Status
judged_settings given None = Err BadXdr
judged_settings given (Some s) =
    if names_nobody s.owner || names_nobody s.group then Err BadOwner
    else if overflows s.access || overflows s.modify || exceeds s.mode then Err Inval
    else Ok (record { size = s.size; mode = s.mode; owner = owner_in s.owner; group = owner_in s.group; access = s.access; modify = s.modify; mask = given })

-- The checks in their order: an attribute that the server does not have in each profile, one that cannot be set, values that are cut,
-- malformed or followed by others, an owner or group that is no number, a number that is too large.
abbrev pub read_attrs : Mask → List ℕ → Result Wanted Status
read_attrs given values =
    if not (within given (supported Exact)) then Err AttrNotSupp
    else if not (within given settable) then Err Inval
    else judged_settings given (settings_of given values)
