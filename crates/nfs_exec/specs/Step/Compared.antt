-- What a repeat is compared by, by the text of the wire (RFC 8881 sections 2.10.6.1 and 18.46.1): the arguments of a compound that SEQUENCE begins, but
-- for sa_highest_slotid.
use Rattle.std.specs.Prelude.{◌≡◌, List, ℕ, ◌++◌, Some}
use Rattle.nfs_xdr.specs.{Limits.opaque_limit, Text.{Text, ◌then◌, uint32, enum, fixed, opaque}}
use Rattle.nfs_compound.specs.{OpNum.op_number, declared.session_args.Sequence.Sequence, Request.{Request, IsRequest}}
use Rattle.nfs_compound.specs.declared.op_num.OpNum.TheVariants as Num
use Rattle.nfs_exec.specs.{Step.Sequence.compared, Step.Executing.sequence_of}

-- what stands before the field
abbrev pub before_highest : Request → Sequence → Text
before_highest r s =
    opaque opaque_limit r.tag then uint32 r.minor then uint32 r.declared
    then enum (op_number Num.Sequence) then fixed 16 s.sessionid then uint32 s.sequenceid then uint32 s.slotid

-- The bytes are what stands before the field, the field, and what stands behind it; and a repeat is compared by the first and the last of these.
pub record IsCut (bytes : List ℕ) (r : Request) (s : Sequence) : Type 0 where
  pub behind : List ℕ
  pub spelled : bytes ≡ (before_highest r s).bytes ++ ((uint32 s.highest_slotid).bytes ++ behind)
  pub compares : compared r ≡ (before_highest r s).bytes ++ behind

abbrev pub ComparesAllButHighest : Type 0
ComparesAllButHighest = (bytes : List ℕ) (r : Request) (s : Sequence) → IsRequest bytes r → sequence_of r ≡ Some s → IsCut bytes r s

-- Two requests that are compared by the same bytes differ in that field or not at all.
abbrev pub DifferThereAlone : Type 0
DifferThereAlone =
    (bytes bytes' : List ℕ) (r r' : Request) (s s' : Sequence)
    → IsRequest bytes r → sequence_of r ≡ Some s → IsRequest bytes' r' → sequence_of r' ≡ Some s' → compared r ≡ compared r'
    → (front behind : List ℕ) × (bytes ≡ front ++ ((uint32 s.highest_slotid).bytes ++ behind)) × (bytes' ≡ front ++ ((uint32 s'.highest_slotid).bytes ++ behind))
