-- A byte that is held, back to the LOCK that granted it.
use Rattle.std.proofs.Common.{◌≡◌, ℕ, Bool, List, refl, inl, inr}
use Rattle.std.specs.Prelude.{filter}
use Rattle.nfs_opens.specs.{declared.records.LockState.LockState, Table.Table}
use Rattle.nfs_names.specs.Ending.{table_staying}
use Rattle.nfs_files.specs.LockTold.{LockTold}
use Rattle.nfs_exec.specs.Runs.LockHeld.{Spares}
use Rattle.nfs_promises.specs.Locks.Denials.{Grants}
use Rattle.nfs_promises.proofs.Locks.{LockBeforeStep.{Holds, held_before, held_fewer, within_held}, LockNotEnded.spared_by, Traced.{Trace, IsTrace}}

pub held_staying : (k : LockTold) (owner : List ℕ) (t : Table) (stays : ℕ → Bool) → Holds k owner (table_staying stays t) → Holds k owner t
held_staying k owner t stays is = held_fewer k owner t (table_staying stays t) (λ (l : LockState). stays l.client) refl
    (within_held (filter (λ (l : LockState). stays l.client) t.locks) t.held k.file k.state k.first k.kind is.held) is

abbrev pub lock_trace : LockTold → List ℕ → Trace
lock_trace k owner =
    record { Way = Unit {0}; On = λ way t. Holds k owner t; Grants = λ way d. Grants k owner d; Spares = λ d. Spares k d; Leads = λ had ds way. Unit {0} }

pub lock_traced : (k : LockTold) (owner : List ℕ) → k.last ≡ k.first → IsTrace (lock_trace k owner)
lock_traced k owner one = record {
  none = λ way. tt;
  step = λ way d done holds. elim (held_before k owner d done.run done.behind one holds) [
    | inl grants ↦ inl grants
    | inr before ↦ inr (record { had = tt; stood = before; spared = spared_by k owner d done.run done.behind one holds; leads = λ last more leads. tt })
  ];
  staying = λ way t stays holds. held_staying k owner t stays holds;
}
