-- A name leads where it was said until it is taken away, and one that is gone is not found until it is made: what becomes of a name in a directory over any list of
-- records (RFC 8881 sections 18.4, 18.9, 18.13, 18.16, 18.25 and 18.26).
use Rattle.std.specs.Prelude.{◌≡◌, ◌≢◌, ℕ, true, List, [], ◌∷◌, ◌++◌, Option, Some, None}
use Rattle.nfs_xdr.specs.{Tables.In, declared.status.Status.TheVariants.NoEnt}
use Rattle.nfs_compound.specs.{declared.name_args.Create.Create, declared.name_args.Rename.Rename, declared.open_args.Open.Open}
use Rattle.nfs_compound.specs.{declared.open_args.OpenClaim.TheVariants.Null, declared.op.Item.Item, declared.op.Item.TheVariants.Operation}
use Rattle.nfs_compound.specs.{declared.op_num.OpNum.OpNum, OpNum.op_number}
use Rattle.nfs_compound.specs.declared.op.Op.TheVariants as Op
use Rattle.nfs_compound.specs.declared.op_num.OpNum.TheVariants as Num
use Rattle.nfs_results.specs.Results.{spell_result, done_head, refusal}
use Rattle.nfs_tree.specs.{declared.row.Row.Row, Files.{entry, object_named}}
use Rattle.nfs_names.specs.{declared.start.Start.Start, declared.context.Context.Context, Checks.saved_object}
use Rattle.nfs_files.specs.OpenTold.{names_open}
use Rattle.nfs_exec.specs.Runs.Ops.{RanOp}
use Rattle.nfs_serve.specs.{Step.ServerState}
use Rattle.nfs_promises.specs.{Network.Endpoint.Arrival, Runs.Points.{state_after, reached, ops_of}}

-- a name in a directory, and the object that it leads to
pub record Name : Type 0 where
  pub directory : ℕ
  pub name : List ℕ
  pub object : ℕ

-- the result of an operation that was answered NFS4_OK
abbrev pub IsDone : OpNum → List ℕ → Type 0
IsDone op result = (more : List ℕ) × (result ≡ done_head op ++ more)

-- that of a LOOKUP that was answered NFS4ERR_NOENT
abbrev pub finds_none : List ℕ
finds_none = spell_result (refusal (op_number Num.Lookup) NoEnt)

-- What follows is of an operation, by what was asked, under which filehandles, and by its result.

-- A name in a directory may be made by it: a CREATE, an OPEN by the name, a LINK or a RENAME to it was answered NFS4_OK.
pub data Makes (directory : ℕ) (name : List ℕ) (x : Context) (i : Item) (result : List ℕ) : Type 0 where
  ByCreate : (a : Create) → i ≡ Operation (Op.Create a) → a.objname ≡ name → x.current ≡ Some directory → IsDone Num.Create result → Makes directory name x i result
  ByOpen : (a : Open) → i ≡ Operation (Op.Open a) → a.claim ≡ Null name → x.current ≡ Some directory → IsDone Num.Open result → Makes directory name x i result
  ByLink : i ≡ Operation (Op.Link name) → x.current ≡ Some directory → IsDone Num.Link result → Makes directory name x i result
  ByRename : (a : Rename) → i ≡ Operation (Op.Rename a) → a.newname ≡ name → x.current ≡ Some directory → IsDone Num.Rename result → Makes directory name x i result

-- A name in a directory may be taken away by it: a REMOVE of the name, or a RENAME from it or to it, was answered NFS4_OK.
pub data Takes (directory : ℕ) (name : List ℕ) (x : Context) (i : Item) (result : List ℕ) : Type 0 where
  Removed : i ≡ Operation (Op.Remove name) → x.current ≡ Some directory → IsDone Num.Remove result → Takes directory name x i result
  MovedAway : (a : Rename) → i ≡ Operation (Op.Rename a) → a.oldname ≡ name → saved_object x.saved ≡ Some directory → IsDone Num.Rename result
      → Takes directory name x i result
  MovedOver : (a : Rename) → i ≡ Operation (Op.Rename a) → a.newname ≡ name → x.current ≡ Some directory → IsDone Num.Rename result → Takes directory name x i result

abbrev pub MakesIt : ℕ → List ℕ → RanOp → Type 0
MakesIt directory name d = Makes directory name d.context d.item d.result

abbrev pub TakesIt : ℕ → List ℕ → RanOp → Type 0
TakesIt directory name d = Takes directory name d.context d.item d.result

-- the context of the operation behind, if there is one: a GETFH there answers its current filehandle
abbrev pub next_of : List RanOp → Option Context
next_of [] = None
next_of (e ∷ more) = Some e.context

-- the object is that of the current filehandle behind it
abbrev pub Leaves : Option Context → ℕ → Type 0
Leaves next object = (y : Context) × (next ≡ Some y) × (y.current ≡ Some object)

-- The operation said that the name leads to the object: a CREATE, an OPEN that answered a stateid or a LOOKUP, and the object is that of the filehandle which is current
-- behind it; a LINK of the saved one; or a RENAME from a name that led to the object.
pub data Says (k : Name) (d : RanOp) (next : Option Context) : Type 0 where
  Creates : (a : Create) → d.item ≡ Operation (Op.Create a) → a.objname ≡ k.name → d.context.current ≡ Some k.directory → IsDone Num.Create d.result
      → Leaves next k.object → Says k d next
  Opens : (a : Open) → d.item ≡ Operation (Op.Open a) → a.claim ≡ Null k.name → d.context.current ≡ Some k.directory → (n : ℕ)
      → names_open Num.Open d.result n ≡ true → Leaves next k.object → Says k d next
  Finds : d.item ≡ Operation (Op.Lookup k.name) → d.context.current ≡ Some k.directory → IsDone Num.Lookup d.result → Leaves next k.object → Says k d next
  Links : d.item ≡ Operation (Op.Link k.name) → d.context.current ≡ Some k.directory → saved_object d.context.saved ≡ Some k.object → IsDone Num.Link d.result
      → Says k d next
  Renames : (a : Rename) → d.item ≡ Operation (Op.Rename a) → a.newname ≡ k.name → d.context.current ≡ Some k.directory → (source : ℕ)
      → saved_object d.context.saved ≡ Some source → object_named d.before.store.tree source a.oldname ≡ Some k.object → IsDone Num.Rename d.result → Says k d next

-- The operation said that the name leads nowhere: a REMOVE of it was answered NFS4_OK, or a RENAME from it to a name that did not lead to the same object; or a LOOKUP of
-- it was answered NFS4ERR_NOENT.
pub data Denies (directory : ℕ) (name : List ℕ) (d : RanOp) : Type 0 where
  Removes : d.item ≡ Operation (Op.Remove name) → d.context.current ≡ Some directory → IsDone Num.Remove d.result → Denies directory name d
  RenamesIt : (a : Rename) → d.item ≡ Operation (Op.Rename a) → a.oldname ≡ name → saved_object d.context.saved ≡ Some directory → (target : ℕ)
      → d.context.current ≡ Some target → object_named d.before.store.tree directory name ≢ object_named d.before.store.tree target a.newname → IsDone Num.Rename d.result
      → Denies directory name d
  Misses : d.item ≡ Operation (Op.Lookup name) → d.context.current ≡ Some directory → d.result ≡ finds_none → Denies directory name d

-- Something holds before operations for as long as they spare it.

-- `Before` says it of an operation and of the context behind it, and each of these is one that spares it or the last of which it is said
abbrev pub HoldsWhile : (Before : RanOp → Option Context → Type 0) → (Spares : RanOp → Type 0) → List RanOp → Type 0
HoldsWhile Before Spares [] = Unit {0}
HoldsWhile Before Spares (d ∷ more) = Before d (next_of more) × (Spares d → HoldsWhile Before Spares more)

abbrev pub AllSpare : (RanOp → Type 0) → List RanOp → Type 0
AllSpare Spares ds = (d : RanOp) → In d ds → Spares d

-- and through these records, as long as all operations of the records before spared it
abbrev pub HoldsThrough : (Before : RanOp → Option Context → Type 0) → (Spares : RanOp → Type 0) → ServerState → List Arrival → Type 0
HoldsThrough Before Spares s [] = Unit {0}
HoldsThrough Before Spares s (c ∷ more) =
    HoldsWhile Before Spares (ops_of s c) × (AllSpare Spares (ops_of s c) → HoldsThrough Before Spares (state_after s c) more)

-- from an operation of a record's compound on: these are behind it there, and then come whatever records
abbrev pub HoldsFrom : (Before : RanOp → Option Context → Type 0) → (Spares : RanOp → Type 0) → ServerState → Arrival → List RanOp → Type 0
HoldsFrom Before Spares s c back =
    HoldsWhile Before Spares back × (AllSpare Spares back → (more : List Arrival) → HoldsThrough Before Spares (state_after s c) more)

-- The laws.

abbrev pub row_of : Name → ℕ → Row
row_of k cookie = record { directory = k.directory; name = k.name; object = k.object; cookie = cookie }

-- The name stands in the tree before the operation, under this cookie; and if that is a LOOKUP of the name, it is not answered NFS4ERR_NOENT, and where it is answered
-- NFS4_OK, the object is that of the current filehandle behind it.
pub record LeadsBefore (k : Name) (cookie : ℕ) (d : RanOp) (next : Option Context) : Type 0 where
  pub stands : entry d.before.store.tree.rows k.directory k.name ≡ Some (row_of k cookie)
  pub found : d.item ≡ Operation (Op.Lookup k.name) → d.context.current ≡ Some k.directory → d.result ≢ finds_none
  pub there : d.item ≡ Operation (Op.Lookup k.name) → d.context.current ≡ Some k.directory → IsDone Num.Lookup d.result → (y : Context) → next ≡ Some y
      → y.current ≡ Some k.object

-- In every run of a server, from its start on: what an operation said of a name holds before each later operation, in its compound and in whatever records come, whoever
-- asks, until an operation that may take the name away is answered NFS4_OK. Its cookie in listings is the same all the while.
abbrev pub NameStays : Type 0
NameStays = (start : Start) (earlier : List Arrival) (c : Arrival) (k : Name) (front : List RanOp) (d : RanOp) (back : List RanOp)
    → (let s = reached start earlier in
    ops_of s c ≡ front ++ d ∷ back → Says k d (next_of back)
    → (cookie : ℕ) × HoldsFrom (LeadsBefore k cookie) (λ e. TakesIt k.directory k.name e → ⊥) s c back)

-- The name is not in the tree before the operation, and a LOOKUP of it is not answered NFS4_OK.
pub record MissesBefore (directory : ℕ) (name : List ℕ) (d : RanOp) : Type 0 where
  pub gone : entry d.before.store.tree.rows directory name ≡ None
  pub missed : d.item ≡ Operation (Op.Lookup name) → d.context.current ≡ Some directory → IsDone Num.Lookup d.result → ⊥

-- A name that was said to lead nowhere is not found until an operation that may make it is answered NFS4_OK.
abbrev pub GoneStays : Type 0
GoneStays = (start : Start) (earlier : List Arrival) (c : Arrival) (directory : ℕ) (name : List ℕ) (front : List RanOp) (d : RanOp) (back : List RanOp)
    → (let s = reached start earlier in
    ops_of s c ≡ front ++ d ∷ back → Denies directory name d
    → HoldsFrom (λ e next. MissesBefore directory name e) (λ e. MakesIt directory name e → ⊥) s c back)
