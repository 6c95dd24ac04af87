-- The change attribute tells of names: in a directory whose change is the same each name leads to the same object, or to none, and a listing has the same entries
-- (RFC 8881 sections 10.8 and 18.13).
use Rattle.std.specs.Prelude.{◌≡◌, ◌⊎◌, ℕ, true, List, ◌∷◌, ◌++◌, Some}
use Rattle.nfs_xdr.specs.{Tables.In, declared.status.Status.Status, declared.status.Status.TheVariants.{Nfs4Ok, NoEnt}}
use Rattle.nfs_compound.specs.declared.op.Item.TheVariants.{Operation}
use Rattle.nfs_compound.specs.declared.op.Op.TheVariants as Op
use Rattle.nfs_tree.specs.Files.{is_there, change_of, object_named, listing}
use Rattle.nfs_names.specs.{declared.start.Start.Start}
use Rattle.nfs_exec.specs.Runs.Ops.{RanOp}
use Rattle.nfs_promises.specs.{Network.Endpoint.Arrival, Runs.Points.{state_after, reached, ops_of}, Bytes.ChangeTells.RunsIn}

-- a LOOKUP of a name in directory n, and what it was answered
pub record LooksUp (n : ℕ) (name : List ℕ) (status : Status) (d : RanOp) : Type 0 where
  pub is : d.item ≡ Operation (Op.Lookup name)
  pub at : d.context.current ≡ Some n
  pub answers : d.status ≡ status

-- At both moments the names are the same, and so are the entries behind each cookie; and of two LOOKUPs of a name neither finds it where the other finds none.
pub record AreNamed (n : ℕ) (d e : RanOp) : Type 0 where
  pub names : (name : List ℕ) → object_named e.before.store.tree n name ≡ object_named d.before.store.tree n name
  pub entries : (cookie : ℕ) → listing e.before.store.tree.rows n cookie ≡ listing d.before.store.tree.rows n cookie
  pub found : (name : List ℕ) → LooksUp n name Nfs4Ok d → LooksUp n name NoEnt e → ⊥
  pub missed : (name : List ℕ) → LooksUp n name NoEnt d → LooksUp n name Nfs4Ok e → ⊥

-- In every run of a server, from its start on: the directory is there before an operation, and before a later one, in the same compound or in whatever records come
-- behind it, and its change is the same.
abbrev pub NamesAreAlike : Type 0
NamesAreAlike = (start : Start) (earlier : List Arrival) (c : Arrival) (front : List RanOp) (d : RanOp) (back : List RanOp) (more : List Arrival) (e : RanOp) (n : ℕ)
    → (let s = reached start earlier in
    ops_of s c ≡ front ++ d ∷ back → In e back ⊎ RunsIn (state_after s c) more e
    → is_there d.before.store.tree n ≡ true → is_there e.before.store.tree n ≡ true
    → change_of e.before.store.tree n ≡ change_of d.before.store.tree n → AreNamed n d e)
