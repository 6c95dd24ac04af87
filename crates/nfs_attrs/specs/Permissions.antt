-- Permission bits (RFC 8881 section 6.2.4), and what they let a caller do. Of the three classes only the caller's own counts.
use Rattle.std.specs.{Prelude.{ℕ, ◌+◌, ◌/◌, ◌%◌, ◌==◌, ◌||◌, ◌&&◌, Bool, true, false, not, bit_and, if◌then◌else◌}, Int.bit_at, List.list_any}
use Rattle.nfs_xdr.specs.Caller.{Caller}
use Rattle.nfs_tree.specs.{declared.object.FileType.FileType, declared.object.FileType.TheVariants.{Regular, Directory, Link}, declared.object.Object.Object}
use Rattle.nfs_tree.specs.{declared.profile.Profile.Profile, declared.profile.Profile.TheVariants.{Exact, Unix}}
use Rattle.nfs_attrs.specs.{declared.permission.Want.Want, declared.permission.Access.Access}

abbrev pub in_group : ℕ → Caller → Bool
in_group group who = who.gid == group || list_any (λ g. g == group) who.gids

-- The bits r, w and x (4, 2, 1) of the caller's class. The user 0 has them all.
abbrev pub class_bits : Object → Caller → ℕ
class_bits o who =
    if who.uid == 0 then 7
    else if who.uid == o.owner then o.mode / 64 % 8
    else if in_group o.group who then o.mode / 8 % 8
    else o.mode % 8

abbrev pub may : Object → Caller → Want → Bool
may o who want =
    (not want.read || bit_at (class_bits o who) 2 == 1) && (not want.write || bit_at (class_bits o who) 1 == 1)
    && (not want.execute || bit_at (class_bits o who) 0 == 1)

abbrev pub read : Want
read = record { read = true; write = false; execute = false }

abbrev pub write : Want
write = record { read = false; write = true; execute = false }

abbrev pub execute : Want
execute = record { read = false; write = false; execute = true }

-- to change a directory's entries
abbrev pub change_entries : Want
change_entries = record { read = false; write = true; execute = true }

-- with x in place of r
abbrev pub by_executing : Want → Want
by_executing want = record want { read = false; execute = true }

-- Whether the bytes of a regular file may be used so. In `unix` they are read with r or x: no program runs that is not read (RFC 8881 section 6.2.1.3.2).
abbrev pub may_use_bytes : Profile → Object → Caller → Want → Bool
may_use_bytes Exact o who want = may o who want
may_use_bytes Unix o who want = may o who want || may o who (by_executing want)

-- The bits of ACCESS (RFC 8881 section 18.1): READ 1, LOOKUP 2, MODIFY 4, EXTEND 8, DELETE 16, EXECUTE 32.
abbrev pub supported_access : FileType → ℕ
supported_access Regular = 0x2d
supported_access Directory = 0x1f
supported_access Link = 0x2d

abbrev pub bits_if : Bool → ℕ → ℕ
bits_if granted bits = if granted then bits else 0

abbrev pub granted_access : FileType → Object → Caller → ℕ
granted_access Regular o who = bits_if (may o who read) 1 + bits_if (may o who write) 0xc + bits_if (may o who execute) 0x20
granted_access Directory o who = bits_if (may o who read) 1 + bits_if (may o who execute) 2 + bits_if (may o who change_entries) 0x1c
granted_access Link o who = bits_if (may o who read) 1 + bits_if (may o who write) 0xc + bits_if (may o who execute) 0x20

abbrev pub judge_access : Object → Caller → ℕ → Access
judge_access o who asked = record { supported = bit_and asked (supported_access o.kind); granted = bit_and asked (granted_access o.kind o who) }
