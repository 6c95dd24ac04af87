-- The bits by which a program runs as its file's owner (04000, set-user-ID) or group (02000, set-group-ID), and what a directory with 02000 gives to what is made
-- in it (POSIX, chmod and open). In `exact` they change only where they are set.
use Rattle.std.specs.{Prelude.{ℕ, ◌==◌, ◌||◌, ◌&&◌, Bool, not, bit_and, bit_or, if◌then◌else◌, Option, Some, None, is_some, unwrap_or, option_map}, Int.bit_at}
use Rattle.nfs_xdr.specs.Caller.{Caller}
use Rattle.nfs_tree.specs.{declared.profile.Profile.Profile, declared.profile.Profile.TheVariants.{Exact, Unix}}
use Rattle.nfs_attrs.specs.{declared.wanted.Wanted.Wanted, Permissions.in_group}

-- 04000 goes, and 02000 where the group may execute (00010)
abbrev pub cleared : ℕ → ℕ
cleared mode = if bit_at mode 3 == 1 then bit_and mode 0xffff_f3ff else bit_and mode 0xffff_f7ff

-- what a change of a file's bytes sets of its mode: by user 0 nothing
abbrev pub mode_behind : Profile → ℕ → Caller → Option ℕ
mode_behind Exact mode who = None
mode_behind Unix mode who = if who.uid == 0 then None else Some (cleared mode)

-- the mode that a caller can give to an object of a group: with 02000 only to one of the caller's own
abbrev pub mode_given : ℕ → Caller → ℕ → ℕ
mode_given group who mode = if who.uid == 0 || in_group group who then mode else bit_and mode 0xffff_fbff

-- whether what is set clears the bits of a file: an owner or a group, or by another than user 0 a size
abbrev pub clears : Wanted → Caller → Bool
clears w who = is_some w.owner || is_some w.group || is_some w.size && not (who.uid == 0)

abbrev pub mode_if : Bool → Option ℕ → ℕ → Option ℕ
mode_if clear given mode = if clear then Some (cleared (unwrap_or given mode)) else given

-- what a SETATTR sets of an object that is a regular file or is none, with this mode and group, where the caller may
abbrev pub settled : Profile → Bool → (mode group : ℕ) → Caller → Wanted → Wanted
settled Exact regular mode group who w = w
settled Unix regular mode group who w =
    record w { mode = mode_if (regular && clears w who) (option_map (mode_given (unwrap_or w.group group) who) w.mode) mode }

-- the mode of what is made in a directory with 02000: a directory has 02000 too
abbrev pub made_mode : Bool → ℕ → Caller → ℕ → ℕ
made_mode directory group who mode = if directory then bit_or mode 0x400 else mode_given group who mode

-- what a new object has of what is wanted in a directory with this mode and group, with the mode `plain` where none is given
abbrev pub made_in : Profile → (mode group : ℕ) → Caller → Bool → ℕ → Wanted → Wanted
made_in Exact mode group who directory plain w = w
made_in Unix mode group who directory plain w =
    if bit_at mode 10 == 1
    then record w { mode = Some (made_mode directory (unwrap_or w.group group) who (unwrap_or w.mode plain)); group = Some (unwrap_or w.group group) }
    else w
