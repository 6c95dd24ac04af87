-- Which requests execute (RFC 8881 sections 2.10.6.1 and 2.10.6.4): a new one on its slot that SEQUENCE does not refuse, and an operation
-- that stands alone outside a session.
use Rattle.std.specs.Prelude.{ℕ, ◌==◌, ◌&&◌, ◌||◌, nat_lt, not, Bool, false, List, ◌∷◌, Option, Some, None, is_some, if◌then◌else◌}
use Rattle.nfs_xdr.specs.Caller.{Caller}
use Rattle.nfs_compound.specs.{declared.op.Item.Item, declared.op.Item.TheVariants.Operation, declared.session_args.Sequence.Sequence, Request.Request}
use Rattle.nfs_compound.specs.declared.op.Op.TheVariants as Op
use Rattle.nfs_exec.specs.{Step.Machine.Machine, Step.Place.stands_alone, Step.Laws.first_runs}

-- SEQUENCE in front of the operations
abbrev pub first_sequence : List Item → Option Sequence
first_sequence (Operation (Op.Sequence s) ∷ more) = Some s
first_sequence items = None

-- the SEQUENCE that a request of minor version 1 begins with
abbrev pub sequence_of : Request → Option Sequence
sequence_of r = if r.minor == 1 then first_sequence r.left else None

-- one of the operations that stand alone, and nothing else declared, whatever it answers
abbrev pub is_alone : (declared : ℕ) → List Item → Bool
is_alone declared (Operation op ∷ more) = stands_alone op && not (nat_lt 1 declared)
is_alone declared items = false

abbrev pub executes : Machine → Request → Caller → (size : ℕ) → Bool
executes m r who size = r.minor == 1 && (is_some (first_runs m r who size r.left) || is_alone r.declared r.left)
