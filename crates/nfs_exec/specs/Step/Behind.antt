-- One operation behind a SEQUENCE (RFC 8881 section 2.10.6.4): what it comes to, and the context in which the next one runs.
use Rattle.std.specs.{Prelude.{ℕ, Bool}, Option.option_map_or}
use Rattle.nfs_xdr.specs.declared.status.Status.{Status}
use Rattle.nfs_compound.specs.{Request.item_number, declared.op.Item.Item, declared.op.Item.TheVariants.Operation}
use Rattle.nfs_compound.specs.declared.op.Op.TheVariants as Op
use Rattle.nfs_names.specs.{declared.context.Context.Context, State.time_at, Outcome.{Outcome as OfStore}}
use Rattle.nfs_names.specs.Operation as names
use Rattle.nfs_files.specs.Operation as files
use Rattle.nfs_exec.specs.{Step.Machine.{Machine, MachineOutcome, with_result, with_refusal}, Step.Place.status_behind, Step.ReclaimComplete.reclaim_complete}

pub record Step : Type 0 where
  pub outcome : MachineOutcome
  pub context : Context

-- it is refused, and nothing changes
abbrev pub refused_step : Machine → Context → Item → Status → Step
refused_step m x item status = record { outcome = with_refusal m (item_number item) status; context = x }

-- an operation on the store leaves the other tables as they are
abbrev pub on_store : Machine → OfStore → Step
on_store m o = record { outcome = with_result (record m { store = o.state }) o.result; context = o.context }

-- RECLAIM_COMPLETE, and what nothing carries out
abbrev pub otherwise : Machine → Context → Item → Step
otherwise m x (Operation (Op.ReclaimComplete one)) = record { outcome = reclaim_complete m x one; context = x }
otherwise m x item = refused_step m x item (status_behind item)

-- An item behind a SEQUENCE, at a moment in seconds, where memory was refused or not: an operation on names or attributes, one on open
-- files, or one that is not on the store.
abbrev pub step : Machine → Context → (now : ℕ) → (refused : Bool) → Item → Step
step m x now refused item =
    option_map_or (on_store m) (names.comes_to refused m.store x (time_at m.store now) item)
    (option_map_or (on_store m) (files.comes_to refused m.store x (time_at m.store now) item) (otherwise m x item))
