-- The number of each value of the enums that arguments and results have (RFC 5662).
use Rattle.std.specs.Prelude.{ℕ}
use Rattle.nfs_compound.specs.{declared.file_args.StableHow.StableHow, declared.lock_args.LockType.LockType, declared.name_args.SecinfoStyle.SecinfoStyle}
use Rattle.nfs_compound.specs.declared.open_args.DelegationType.{DelegationType}
use Rattle.nfs_compound.specs.declared.file_args.StableHow.TheVariants as StableHows
use Rattle.nfs_compound.specs.declared.lock_args.LockType.TheVariants as LockTypes
use Rattle.nfs_compound.specs.declared.name_args.SecinfoStyle.TheVariants as SecinfoStyles
use Rattle.nfs_compound.specs.declared.open_args.DelegationType.TheVariants as Delegations

-- nfs_lock_type4 (RFC 8881 section 18.10)
abbrev pub lock_type_number : LockType → ℕ
lock_type_number LockTypes.Read = 1
lock_type_number LockTypes.Write = 2
lock_type_number LockTypes.ReadW = 3
lock_type_number LockTypes.WriteW = 4

-- open_delegation_type4 (section 18.16)
abbrev pub delegation_number : DelegationType → ℕ
delegation_number Delegations.NoDelegation = 0
delegation_number Delegations.ReadDelegation = 1
delegation_number Delegations.WriteDelegation = 2
delegation_number Delegations.NoDelegationExt = 3

-- stable_how4 (section 18.32)
abbrev pub stable_how_number : StableHow → ℕ
stable_how_number StableHows.Unstable = 0
stable_how_number StableHows.DataSync = 1
stable_how_number StableHows.FileSync = 2

-- secinfo_style4 (section 18.45)
abbrev pub secinfo_style_number : SecinfoStyle → ℕ
secinfo_style_number SecinfoStyles.CurrentFh = 0
secinfo_style_number SecinfoStyles.Parent = 1
