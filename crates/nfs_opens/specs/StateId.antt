-- Stateids (RFC 8881 section 8.2): a seqid, and behind it the server's instance and the number of an open or a lock state.
use Rattle.std.specs.Prelude.{ℕ, ◌+◌, ◌==◌, Bool, ◌&&◌, ◌||◌, Result, Ok, Err, if◌then◌else◌}
use Rattle.nfs_xdr.specs.{declared.status.Status.Status, declared.status.Status.TheVariants.BadStateId}
use Rattle.nfs_opens.specs.{declared.stateid.StateId.StateId, declared.stateid.CurrentSeqid.CurrentSeqid, declared.stateid.CurrentSeqid.TheVariants.{Any, Own}}

-- the last value of a seqid, and of the counter of states
abbrev pub last_seqid : ℕ
last_seqid = 0xffff_ffff

abbrev pub last_number : ℕ
last_number = 0xffff_ffff_ffff_ffff

-- behind the last seqid comes 1: a state's seqid is never 0
abbrev pub next_seqid : ℕ → ℕ
next_seqid seqid = if seqid == last_seqid then 1 else seqid + 1

-- what stands behind the seqid is all zeros, or all ones (section 8.2.3)
abbrev pub has_zeros : StateId → Bool
has_zeros id = (id.instance == 0) && (id.number == 0)

abbrev pub has_ones : StateId → Bool
has_ones id = (id.instance == last_seqid) && (id.number == last_number)

abbrev pub is_anonymous : StateId → Bool
is_anonymous id = (id.seqid == 0) && has_zeros id

abbrev pub is_bypass : StateId → Bool
is_bypass id = (id.seqid == last_seqid) && has_ones id

abbrev pub is_current : StateId → Bool
is_current id = (id.seqid == 1) && has_zeros id

-- the current stateid as an argument: with the seqid that means any, or with its own
abbrev pub with_seqid : CurrentSeqid → StateId → StateId
with_seqid Any id = record id { seqid = 0 }
with_seqid Own id = id

-- what an argument stands for: seqid 1 and zeros stand for the current stateid, which must be no special one (section 8.2.3)
abbrev pub resolved : StateId → StateId → CurrentSeqid → Result StateId Status
resolved given current form =
    if is_current given then (if has_zeros current || has_ones current then Err BadStateId else Ok (with_seqid form current)) else Ok given
