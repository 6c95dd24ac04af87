-- The operations of a compound behind its SEQUENCE, one after the other (RFC 8881 section 2.3): they stop at the first whose
-- status is not NFS4_OK, and what was done stays done.
use Rattle.std.specs.Prelude.{ℕ, zero, suc, ◌+◌, nat_lt, Bool, true, false, List, [], ◌∷◌, ◌++◌, length, Option, Some, None, if◌then◌else◌}
use Rattle.nfs_xdr.specs.{declared.status.Status.Status, declared.status.Status.TheVariants.{Nfs4Ok, RepTooBig}}
use Rattle.nfs_compound.specs.declared.op.Item.{Item}
use Rattle.nfs_results.specs.Largest.{largest}
use Rattle.nfs_names.specs.{declared.context.Context.Context, Outcome.is_ok}
use Rattle.nfs_exec.specs.{Step.Machine.{Machine, MachineOutcome}, Step.Behind.{Step, refused_step, step}}

-- The place at which memory was refused, if any, is counted from here ..
abbrev pub is_here : Option ℕ → Bool
is_here (Some zero) = true
is_here _ = false

-- .. and from the place behind
abbrev pub behind_here : Option ℕ → Option ℕ
behind_here (Some (suc k)) = Some k
behind_here _ = None

-- the room that is kept for a refusal, in bytes
abbrev pub reserve : ℕ
reserve = 12

-- One operation in its place, where the reply has so many bytes so far and may have so many: the largest result that it
-- may have needs room before it is run.
abbrev pub in_room : (limit sofar now : ℕ) → (refused : Bool) → Machine → Context → Item → Step
in_room limit sofar now refused m x item =
    if nat_lt limit (sofar + largest item + reserve) then refused_step m x item RepTooBig
    else step m x now refused item

-- the status of the last, how many were run, their results, and the machine behind them
pub record Ran : Type 0 where
  pub status : Status
  pub count : ℕ
  pub results : List ℕ
  pub machine : Machine

-- nothing is left to run
abbrev pub finished : Machine → Ran
finished m = record { status = Nfs4Ok; count = 0; results = []; machine = m }

-- one operation was run, and nothing behind it
abbrev pub only : MachineOutcome → Ran
only o = record { status = o.status; count = 1; results = o.result; machine = o.machine }

-- the run goes on behind NFS4_OK, and stops with any other status
abbrev pub follow : MachineOutcome → Ran → Ran
follow o rest =
    if is_ok o.status then record { status = rest.status; count = suc rest.count; results = o.result ++ rest.results; machine = rest.machine }
    else only o

abbrev pub run : (limit sofar now : ℕ) → Option ℕ → Machine → Context → List Item → Ran
run limit sofar now choice m x [] = finished m
run limit sofar now choice m x (item ∷ more) =
    let s = in_room limit sofar now (is_here choice) m x item in
    follow s.outcome (run limit (sofar + length s.outcome.result) now (behind_here choice) s.outcome.machine s.context more)
