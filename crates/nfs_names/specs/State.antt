-- What operations act on: the tree, the opens, which know the server's instance, and the length of a lease.
use Rattle.std.specs.{Prelude.{ℕ, ◌==◌, ◌||◌, Bool, pos, if◌then◌else◌}, List.list_any}
use Rattle.nfs_xdr.specs.declared.time.Time.{Time}
use Rattle.nfs_tree.specs.{Files.{Files, root, has_row, stamp}, Create.new_tree, Names.forget}
use Rattle.nfs_opens.specs.Table.{Table, table, no_opens}
use Rattle.nfs_names.specs.{declared.start.Start.Start, declared.store.Store.Store}

pub record State : Type 0 where
  pub tree : Files
  pub opens : Table
  pub lease : ℕ

abbrev pub state_of : Store → State
state_of s = record { tree = s.tree; opens = table s.opens; lease = s.lease }

-- a new server's: nothing but the root, and nothing is open
abbrev pub new_store : Start → Time → State
new_store start now = record { tree = new_tree start.mode now start.limits start.profile; opens = no_opens start.instance; lease = start.lease }

abbrev pub with_tree : State → Files → State
with_tree s t = record { tree = t; opens = s.opens; lease = s.lease }

-- so many seconds, as a time
abbrev pub moment : ℕ → Time
moment now = record { seconds = pos now; nanoseconds = 0 }

-- the time of what changes at such a moment
abbrev pub time_at : State → ℕ → Time
time_at s now = stamp s.tree (moment now)

-- An object but the root goes when it has no row and no open: one that is open stays until its last CLOSE (RFC 8881 section 18.16, PRESERVE_UNLINKED).
abbrev pub is_open : State → ℕ → Bool
is_open s n = list_any (λ o. o.file == n) s.opens.opens

abbrev pub is_used : State → ℕ → Bool
is_used s n = n == root || (has_row s.tree.rows n || is_open s n)

abbrev pub without_unused : State → ℕ → State
without_unused s n = if is_used s n then s else with_tree s (forget s.tree n)
