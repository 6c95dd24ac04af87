-- What the bytes of one share of a piece make of the part held: bytes of one mark, or data bytes of one fragment
-- (RFC 5531 section 11).
use Rattle.std.specs.{Prelude.{ℕ, ◌+◌, ◌-◌, ◌%◌, ◌==◌, ◌&&◌, List, [], ◌++◌, length, nat_lt, nat_le, if◌then◌else◌}, Int.{w32, from_be_bytes}}
use Rattle.nfs_rpc.specs.{declared.records.State.State, RecordMarking.{Part, Gathered, Begun, Complete, Failed, last_fragment}}
use Rattle.nfs_xdr.specs.Limits.{most_record}

-- what the fields of a `Records` hold
abbrev pub held : State → Part → Gathered
held State.Begun p = Begun p
held State.Complete p = Complete p.taken
held State.Failed p = Failed

abbrev pub state_of : Gathered → State
state_of (Begun p) = State.Begun
state_of (Complete record_data) = State.Complete
state_of Failed = State.Failed

-- behind the data so far stands a whole mark, and this is its word
unfoldable pub at_mark : List ℕ → ℕ → Gathered
at_mark taken word =
    let size = word % last_fragment in
    let last = nat_le last_fragment word in
    if nat_lt most_record (length taken + size) then Failed
    else if size == 0 && last then Complete taken
    else Begun (record { taken = taken; mark = []; lacking = size; last = last })

unfoldable pub with_mark : Part → List ℕ → Gathered
with_mark p bytes =
    if length (p.mark ++ bytes) == 4 then at_mark p.taken (from_be_bytes w32 (p.mark ++ bytes))
    else Begun (record p { mark = p.mark ++ bytes })

unfoldable pub with_data : Part → List ℕ → Gathered
with_data p bytes =
    if p.lacking == length bytes && p.last then Complete (p.taken ++ bytes)
    else Begun (record p { taken = p.taken ++ bytes; lacking = p.lacking - length bytes })
