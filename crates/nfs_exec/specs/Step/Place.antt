-- What may stand in which place of a compound (RFC 8881 sections 2.10.6.4 and 15.1.3).
use Rattle.std.specs.Prelude.{ℕ, ◌||◌, ◌&&◌, nat_lt, not, Bool, true, false, [], ◌∷◌, Option, Some}
use Rattle.nfs_xdr.specs.{Checks.first_fault, declared.status.Status.Status}
use Rattle.nfs_xdr.specs.declared.status.Status.TheVariants.{NotOnlyOp, NotSupp, OpNotInSession, SequencePos}
use Rattle.nfs_compound.specs.{declared.op.Op.Op, declared.op.Item.Item, declared.op.Item.TheVariants.{Operation, Fault}}

-- the operations that stand alone in a compound outside a session
abbrev pub stands_alone : Op → Bool
stands_alone (Op.ExchangeId e) = true
stands_alone (Op.CreateSession c) = true
stands_alone (Op.DestroySession sessionid) = true
stands_alone (Op.DestroyClientId clientid) = true
stands_alone op = false

-- SEQUENCE, which begins a compound in a session
abbrev pub is_sequence : Op → Bool
is_sequence (Op.Sequence s) = true
is_sequence op = false

-- Why an item cannot stand in the first place, of so many declared. A fault answers its own status, whatever place it is.
abbrev pub place_fault : ℕ → Item → Option Status
place_fault declared (Fault number status) = Some status
place_fault declared (Operation op) =
    first_fault ((stands_alone op && nat_lt 1 declared, NotOnlyOp)
    ∷ (not (stands_alone op || is_sequence op), OpNotInSession)
    ∷ [])

-- What an item behind SEQUENCE is refused with, where nothing carries it out: the four operations that stand alone are not
-- supported there (this server's profile).
abbrev pub status_behind : Item → Status
status_behind (Fault number status) = status
status_behind (Operation (Op.Sequence s)) = SequencePos
status_behind (Operation op) = NotSupp
