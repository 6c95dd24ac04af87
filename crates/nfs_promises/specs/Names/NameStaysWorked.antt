-- A name that leads where it was said, worked by hand (RFC 8881 sections 18.13, 18.25, 18.26 and 18.28). To a new server of instance 7 comes a client
-- `A`, which makes the file `f` and looks it up twice. Then it renames `f` to `g`, and looks up both; it removes `g`, and looks it up once more.
use Rattle.std.specs.Prelude.{◌≡◌, ℕ, ◌+◌, List, [], ◌∷◌, ◌++◌, Option, Some}
use Rattle.nfs_compound.specs.declared.op_num.OpNum.TheVariants as Num
use Rattle.nfs_compound.specs.declared.op.Op.{Op}
use Rattle.nfs_results.specs.Results.{done_head}
use Rattle.nfs_tree.specs.{declared.row.Row.Row, Files.root}
use Rattle.nfs_names.specs.declared.context.Context.{Context}
use Rattle.nfs_exec.specs.Runs.Ops.{RanOp}
use Rattle.nfs_serve.specs.{Step.ServerState}
use Rattle.nfs_promises.specs.{Runs.{Requests.in_session, Points.{state_after, ops_of}}, Network.Endpoint.Arrival, Locks.LockKeptWorked.{came, last_of}}
use Rattle.nfs_promises.specs.{Bytes.WrittenStaysWorked.made, Names.NameStays.{Name, IsDone, finds_none, TakesIt, Leaves, Says, Denies, AllSpare, next_of}}
use Rattle.nfs_promises.specs.Names.NameStays.{LeadsBefore, MissesBefore}

abbrev pub looks_up : (now number : ℕ) → List ℕ → Arrival
looks_up now number name = came (100 + now) now (in_session 1 number (Op.PutRootFh ∷ Op.Lookup name ∷ Op.GetFh ∷ []))

abbrev pub finds : Arrival
finds = looks_up 4 2 (0x66 ∷ [])

abbrev pub finds_again : Arrival
finds_again = looks_up 5 3 (0x66 ∷ [])

abbrev pub renames : Arrival
renames = came 106 6 (in_session 1 4 (Op.PutRootFh ∷ Op.SaveFh ∷ Op.Rename (record { oldname = 0x66 ∷ []; newname = 0x67 ∷ [] }) ∷ []))

abbrev pub finds_new : Arrival
finds_new = looks_up 7 5 (0x67 ∷ [])

abbrev pub misses : Arrival
misses = looks_up 8 6 (0x66 ∷ [])

abbrev pub removes : Arrival
removes = came 109 9 (in_session 1 7 (Op.PutRootFh ∷ Op.Remove (0x67 ∷ []) ∷ []))

abbrev pub misses_new : Arrival
misses_new = looks_up 10 8 (0x67 ∷ [])

abbrev pub found : ServerState
found = state_after made finds

abbrev pub found_again : ServerState
found_again = state_after found finds_again

abbrev pub renamed : ServerState
renamed = state_after found_again renames

abbrev pub found_new : ServerState
found_new = state_after renamed finds_new

abbrev pub missed : ServerState
missed = state_after found_new misses

abbrev pub removed : ServerState
removed = state_after missed removes

-- `f` and `g` in the root, which lead to object 2
abbrev pub f : Name
f = record { directory = root; name = 0x66 ∷ []; object = 2 }

abbrev pub g : Name
g = record { directory = root; name = 0x67 ∷ []; object = 2 }

-- the second of these operations; what stands in front of them is of no account
abbrev pub second_of : RanOp → List RanOp → RanOp
second_of d (a ∷ b ∷ more) = b
second_of d ds = d

-- The run meets the premises of the promises, and computes to what they say.
pub record LeadsTo : Type 0 where
  -- a LOOKUP of `f`, and the GETFH behind it
  pub front : List RanOp
  pub look : RanOp
  pub get : RanOp
  pub ops : ops_of made finds ≡ front ++ look ∷ get ∷ []
  pub says : Says f look (next_of (get ∷ []))
  pub spared : AllSpare (λ d. TakesIt f.directory f.name d → ⊥) (ops_of found finds_again)
  -- the same LOOKUP leads there
  pub until : List RanOp
  pub again : RanOp
  pub later : RanOp
  pub found_ops : ops_of found finds_again ≡ until ++ again ∷ later ∷ []
  pub leads : IsDone Num.Lookup again.result
  pub there : Leaves (next_of (later ∷ [])) 2
  -- RENAME is the last operation of its compound: it takes `f` away, and says `g`
  pub before : List RanOp
  pub rename : RanOp
  pub rename_ops : ops_of found_again renames ≡ before ++ rename ∷ []
  pub takes : TakesIt f.directory f.name rename
  pub tells : Says g rename (next_of [])
  pub denies : Denies f.directory f.name rename
  -- LOOKUPs of `g` and of `f`
  pub new : RanOp
  pub new_get : RanOp
  pub new_front : List RanOp
  pub new_ops : ops_of renamed finds_new ≡ new_front ++ new ∷ new_get ∷ []
  pub new_leads : IsDone Num.Lookup new.result
  pub new_there : Leaves (next_of (new_get ∷ [])) 2
  pub old : (d : RanOp) → (last_of d (ops_of found_new misses)).result ≡ finds_none
  -- REMOVE of `g`, and a LOOKUP of it
  pub gone : (d : RanOp) → Denies g.directory g.name (last_of d (ops_of missed removes))
  pub none : (d : RanOp) → (last_of d (ops_of removed misses_new)).result ≡ finds_none

-- an operation that answers this
abbrev pub answering : List ℕ → RanOp → RanOp
answering result d = record d { result = result }

-- a tree with these names before it
abbrev pub with_names : List Row → RanOp → RanOp
with_names rows d = record d { before = record d.before { store = record d.before.store { tree = record d.before.store.tree { rows = rows } } } }

-- the names before an operation, and those behind it
abbrev pub both_names : RanOp → List Row
both_names d = d.before.store.tree.rows ++ d.behind.store.tree.rows

-- the context behind the LOOKUP, but with another object
abbrev pub at_another : RanOp → Option Context
at_another d = Some (record d.context { current = Some 3 })

-- The promises refuse these, under whatever cookie the name is listed.
pub record NamesAreRefused : Type 0 where
  -- the second LOOKUP is answered NFS4ERR_NOENT
  pub unfound : (d : RanOp) (cookie : ℕ) → LeadsBefore f cookie (answering finds_none (second_of d (ops_of found finds_again))) (next_of []) → ⊥
  -- it leads to object 3
  pub another : (d : RanOp) (cookie : ℕ) → (let e = second_of d (ops_of found finds_again) in LeadsBefore f cookie e (at_another e)) → ⊥
  -- the tree has lost its names
  pub lost : (d : RanOp) (cookie : ℕ) → LeadsBefore f cookie (with_names [] (second_of d (ops_of found finds_again))) (next_of []) → ⊥
  -- behind the RENAME the tree has both names
  pub both : (d : RanOp) → MissesBefore f.directory f.name (with_names (both_names (last_of d (ops_of found_again renames))) (last_of d (ops_of found_new misses))) → ⊥
  -- the LOOKUP of `f` behind the RENAME is answered NFS4_OK
  pub shown : (d : RanOp) → MissesBefore f.directory f.name (answering (done_head Num.Lookup) (last_of d (ops_of found_new misses))) → ⊥
