-- Which operation bears which status with nothing behind it (RFC 5662; RFC 8881 sections 15.2 and 18).
use Rattle.std.specs.Prelude.{ℕ, ◌==◌, ◌||◌, ◌&&◌, Bool, not, nat_le, if◌then◌else◌}
use Rattle.nfs_xdr.specs.{declared.status.Status.Status, declared.status.Status.TheVariants.{Nfs4Ok, Denied, OpIllegal, RepTooBig}, Status.status_number}
use Rattle.nfs_compound.specs.declared.op_num.OpNum.TheVariants as Num
use Rattle.nfs_compound.specs.OpNum.{op_number, first_op, last_op, op_illegal}

-- A refusal is one of an operation of minor version 1, which are first_op to last_op, or of OP_ILLEGAL. That one alone is illegal, and
-- beside that its answer can only be too big.
abbrev pub may_return : ℕ → Status → Bool
may_return operation s =
    if operation == op_illegal then status_number s == status_number OpIllegal || status_number s == status_number RepTooBig
    else nat_le first_op operation && nat_le operation last_op && not (status_number s == status_number Nfs4Ok || status_number s == status_number OpIllegal)

-- SETATTR says more than its status, and so do LOCK and LOCKT that are denied
abbrev pub tells : ℕ → Status → Bool
tells operation s = operation == op_number Num.SetAttr
    || ((operation == op_number Num.Lock || operation == op_number Num.LockT) && status_number s == status_number Denied)

abbrev pub can_refuse : ℕ → Status → Bool
can_refuse operation s = may_return operation s && not (tells operation s)
