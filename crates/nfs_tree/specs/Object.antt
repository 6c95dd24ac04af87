-- An object's type and its attributes, and how they change (RFC 8881 sections 3.2 and 5.8).
use Rattle.std.specs.Prelude.{◌+◌, Bool, true, false, Some, None, unwrap_or}
use Rattle.nfs_xdr.specs.declared.time.Time.{Time}
use Rattle.nfs_tree.specs.{declared.object.FileType.FileType, declared.object.FileType.TheVariants.{Regular, Directory, Link}, declared.object.Object.Object}
use Rattle.nfs_tree.specs.declared.sets.Sets.{Sets}

abbrev pub is_directory : FileType → Bool
is_directory Regular = false
is_directory Directory = true
is_directory Link = false

abbrev pub is_regular : FileType → Bool
is_regular Regular = true
is_regular Directory = false
is_regular Link = false

abbrev pub is_link : FileType → Bool
is_link Regular = false
is_link Directory = false
is_link Link = true

-- nothing is set
abbrev pub no_sets : Sets
no_sets = record { mode = None; owner = None; group = None; access = None; modify = None }

-- bytes or entries changed: the time of modification is now, but one that is set stands
abbrev pub modified : Time → Sets → Sets
modified now sets = record sets { modify = Some (unwrap_or sets.modify now) }

-- One change of an object: what is set is taken over, equal to the old or not; `change` rises by one, and the time of metadata is now.
abbrev pub changed : Time → Sets → Object → Object
changed now sets o = record o {
  mode = unwrap_or sets.mode o.mode;
  owner = unwrap_or sets.owner o.owner;
  group = unwrap_or sets.group o.group;
  change = o.change + 1;
  access = unwrap_or sets.access o.access;
  metadata = now;
  modify = unwrap_or sets.modify o.modify;
}
