-- The status of what the tree refuses (RFC 8881 section 15.1), which contracts of the code cite: each operation says its own statuses.
use Rattle.std.specs.Prelude.{Bool, List, map}
use Rattle.nfs_xdr.specs.declared.status.Status.{Status}
use Rattle.nfs_xdr.specs.declared.status.Status.TheVariants as S
use Rattle.nfs_tree.specs.declared.fault.TreeFault.{TreeFault}
use Rattle.nfs_tree.specs.declared.fault.TreeFault.TheVariants as F

abbrev pub tree_fault_status : TreeFault → Status
tree_fault_status F.NoEnt = S.NoEnt
tree_fault_status F.Exist = S.Exist
tree_fault_status F.NotDir = S.NotDir
tree_fault_status F.IsDir = S.IsDir
tree_fault_status F.NotEmpty = S.NotEmpty
tree_fault_status F.Inval = S.Inval
tree_fault_status F.Fbig = S.FBig
tree_fault_status F.NoSpc = S.NoSpc
tree_fault_status F.Mlink = S.MLink
tree_fault_status F.Deep = S.NameTooLong
tree_fault_status F.Counter = S.ServerFault
tree_fault_status F.Memory = S.Delay

-- the tree's own checks, under the statuses of its faults
abbrev pub by_tree : List (Bool × TreeFault) → List (Bool × Status)
by_tree checks = map (λ check. (check.0, tree_fault_status check.1)) checks
