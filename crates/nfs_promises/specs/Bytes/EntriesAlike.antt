-- While an object's change is the same, READDIR tells the same of it as GETATTR, and as READDIR told before (RFC 8881 sections 5.8.1.4, 18.7 and 18.23).
use Rattle.std.specs.Prelude.{◌≡◌, ◌⊎◌, ℕ, List, ◌∷◌, ◌++◌, Some}
use Rattle.nfs_xdr.specs.Tables.{In}
use Rattle.nfs_results.specs.{declared.res.Entry.Entry, Results.spell_result}
use Rattle.nfs_results.specs.declared.res.Res.TheVariants as Res
use Rattle.nfs_tree.specs.Files.{change_of, object_named}
use Rattle.nfs_names.specs.{declared.start.Start.Start}
use Rattle.nfs_exec.specs.Runs.Ops.{RanOp}
use Rattle.nfs_promises.specs.{Bytes.ChangeTells.{RunsIn, GetsOf, AsksNoFree}, Network.Endpoint.Arrival, Names.ListsAll.{Page, IsPage}, Runs.Points.{state_after, reached}}
use Rattle.nfs_promises.specs.Runs.Points.{ops_of}

-- An operation told these attributes of an object: a GETATTR of it; or a READDIR, in an entry whose name leads to the object before it. They are given as a GETATTR
-- answers them.
pub data TellsOf (n : ℕ) (words : List ℕ) (d : RanOp) (told : List ℕ) : Type 0 where
  Gets : GetsOf n words d → d.result ≡ told → TellsOf n words d told
  Lists : (directory cookie : ℕ) (p : Page) (e : Entry) → IsPage directory cookie p → p.op ≡ d → p.asked.attr_request ≡ words → In e p.told.entries
      → object_named p.op.before.store.tree directory e.name ≡ Some n → spell_result (Res.GetAttr e.attrs) ≡ told → TellsOf n words d told

-- In every run of a server, from its start on: two operations tell of an object, and its change is the same before both. Then they tell the same.
abbrev pub EntriesAreAlike : Type 0
EntriesAreAlike = (start : Start) (earlier : List Arrival) (c : Arrival) (front : List RanOp) (d : RanOp) (back : List RanOp) (more : List Arrival) (e : RanOp)
    (n : ℕ) (words told also : List ℕ)
    → (let s = reached start earlier in
    ops_of s c ≡ front ++ d ∷ back → In e back ⊎ RunsIn (state_after s c) more e
    → change_of e.before.store.tree n ≡ change_of d.before.store.tree n → AsksNoFree d.before.store.tree.profile words
    → TellsOf n words d told → TellsOf n words e also → also ≡ told)
