-- What is told of the change: an operation that was answered NFS4_OK, and changes an object, raises its change; and what CREATE, LINK, OPEN, REMOVE and RENAME report of a
-- directory's change is so (RFC 8881 sections 5.8.1.4, 10.3.1, 18.4, 18.9, 18.16, 18.25 and 18.26).
use Rattle.std.specs.Prelude.{◌≡◌, ◌⊎◌, ℕ, ◌<◌, ◌&&◌, true, List, ◌∷◌, ◌++◌, length, Some, Ok}
use Rattle.nfs_xdr.specs.Tables.{In}
use Rattle.nfs_compound.specs.{declared.name_args.Create.Create, declared.name_args.Rename.Rename, declared.open_args.Open.Open, declared.file_args.Write.Write}
use Rattle.nfs_compound.specs.{declared.file_args.SetAttr.SetAttr, declared.op.Item.TheVariants.Operation}
use Rattle.nfs_compound.specs.declared.op.Op.TheVariants as Op
use Rattle.nfs_results.specs.{declared.res.ChangeInfo.ChangeInfo, declared.res.CreateOk.CreateOk, declared.res.OpenOk.OpenOk, declared.res.RenameOk.RenameOk}
use Rattle.nfs_results.specs.Results.{spell_result}
use Rattle.nfs_results.specs.declared.res.Res.TheVariants as Res
use Rattle.nfs_tree.specs.Files.{is_there, change_of}
use Rattle.nfs_attrs.specs.declared.wanted.Wanted.{Wanted}
use Rattle.nfs_names.specs.{declared.start.Start.Start, declared.context.Saved.Saved, Create.attributes_in, Outcome.is_ok}
use Rattle.nfs_files.specs.{FileImage.{claimed, is_number, asks_empty}, SetAttr.gives_some}
use Rattle.nfs_exec.specs.Runs.Ops.{RanOp}
use Rattle.nfs_promises.specs.{Network.Endpoint.Arrival, Runs.Points.{state_after, reached, ops_of}, Bytes.ChangeTells.RunsIn}

-- A directory's change as it was reported: it is that before the operation and that behind it, with nothing between.
pub record IsTheirs (n : ℕ) (d : RanOp) (info : ChangeInfo) : Type 0 where
  pub atomic : info.atomic ≡ true
  pub before : info.before ≡ change_of d.before.store.tree n
  pub after : info.after ≡ change_of d.behind.store.tree n

-- What an operation in directory n reports, if it was answered NFS4_OK. RENAME reports of the directory that the entry left, which is the saved filehandle's, and of
-- the one that it came to.
pub record ReportsOf (n : ℕ) (d : RanOp) : Type 0 where
  pub created : (a : Create) → d.item ≡ Operation (Op.Create a)
      → (k : CreateOk) × (d.result ≡ spell_result (Res.Create k)) × IsTheirs n d k.cinfo × (k.cinfo.before < k.cinfo.after)
  pub linked : (name : List ℕ) → d.item ≡ Operation (Op.Link name)
      → (info : ChangeInfo) × (d.result ≡ spell_result (Res.Link info)) × IsTheirs n d info × (info.before < info.after)
  pub removed : (name : List ℕ) → d.item ≡ Operation (Op.Remove name)
      → (info : ChangeInfo) × (d.result ≡ spell_result (Res.Remove info)) × IsTheirs n d info × (info.before < info.after)
  pub renamed : (a : Rename) (from : Saved) → d.item ≡ Operation (Op.Rename a) → d.context.saved ≡ Some from
      → (k : RenameOk) × (d.result ≡ spell_result (Res.Rename k)) × IsTheirs from.object d k.source_cinfo × IsTheirs n d k.target_cinfo
  pub opened : (a : Open) → d.item ≡ Operation (Op.Open a) → (k : OpenOk) × (d.result ≡ spell_result (Res.Open k)) × IsTheirs n d k.cinfo

-- In every run of a server, from its start on.
abbrev pub ReportsAreTrue : Type 0
ReportsAreTrue = (start : Start) (records : List Arrival) (c : Arrival) (d : RanOp) (n : ℕ)
    → In d (ops_of (reached start records) c) → is_ok d.status ≡ true → d.context.current ≡ Some n → ReportsOf n d

-- An operation changes object n, by what it asks for: WRITE of at least a byte, SETATTR of something, an OPEN that empties a file; and in a directory CREATE, LINK and
-- REMOVE.
pub data Changes (n : ℕ) (d : RanOp) : Type 0 where
  Writes : (a : Write) → d.item ≡ Operation (Op.Write a) → d.context.current ≡ Some n → 0 < length a.bytes → Changes n d
  Sets : (a : SetAttr) (wanted : Wanted) → d.item ≡ Operation (Op.SetAttr a) → d.context.current ≡ Some n → attributes_in a.obj_attributes ≡ Ok wanted
      → gives_some wanted ≡ true → Changes n d
  Empties : (a : Open) → d.item ≡ Operation (Op.Open a) → is_number n (claimed d.before.store.tree d.context.current a.claim) && asks_empty a ≡ true → Changes n d
  Creates : (a : Create) → d.item ≡ Operation (Op.Create a) → d.context.current ≡ Some n → Changes n d
  Links : (name : List ℕ) → d.item ≡ Operation (Op.Link name) → d.context.current ≡ Some n → Changes n d
  Removes : (name : List ℕ) → d.item ≡ Operation (Op.Remove name) → d.context.current ≡ Some n → Changes n d

-- Such an operation, answered NFS4_OK, gives the object a change that is greater than at any moment before: no answer has told it.
abbrev pub ChangesAreNew : Type 0
ChangesAreNew = (start : Start) (earlier : List Arrival) (c : Arrival) (front : List RanOp) (e : RanOp) (back : List RanOp) (more : List Arrival) (d : RanOp) (n : ℕ)
    → (let s = reached start earlier in
    ops_of s c ≡ front ++ e ∷ back → In d (e ∷ back) ⊎ RunsIn (state_after s c) more d
    → is_there e.before.store.tree n ≡ true → is_there d.before.store.tree n ≡ true → is_ok d.status ≡ true → Changes n d
    → change_of e.before.store.tree n < change_of d.behind.store.tree n)
