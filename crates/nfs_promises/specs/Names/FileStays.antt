-- A file that is open stays: what becomes, over any list of records, of a file that an OPEN opened, whatever becomes of its names (RFC 8881 sections 18.2, 18.16 and
-- 18.25).
use Rattle.std.specs.Prelude.{◌≡◌, ◌≢◌, ℕ, ◌<◌, ◌^◌, Bool, true, false, List, ◌∷◌, ◌++◌, Option, Some}
use Rattle.nfs_xdr.specs.{Tables.In, declared.status.Status.TheVariants.Stale}
use Rattle.nfs_compound.specs.{declared.op.Item.Item, declared.op.Item.TheVariants.Operation}
use Rattle.nfs_compound.specs.declared.op.Op.TheVariants as Op
use Rattle.nfs_tree.specs.Files.{is_there, has_row}
use Rattle.nfs_names.specs.{declared.start.Start.Start, declared.context.Context.Context, declared.context.Saved.Saved}
use Rattle.nfs_files.specs.OpenTold.{OpenTold, Bits, bits_behind, IsOpenWith}
use Rattle.nfs_promises.specs.Runs.{Handles.Gives, OpenHeld.{bits_left, TellsOpen}}
use Rattle.nfs_exec.specs.{Runs.Kept.{Kept, While, AreSpared}, Runs.LockHeld.ClosesOf, Runs.Ops.RanOp}
use Rattle.nfs_promises.specs.{Network.Endpoint.Arrival, Locks.LockKept.StaysFor, Names.NameStays.{Name, Says, HoldsFrom}, Runs.Points.{state_after, reached}}
use Rattle.nfs_promises.specs.Runs.Points.{taken, ops_of}

-- A GETFH in some record gave this filehandle for the object.
pub record IsHandleOf (start : Start) (n : ℕ) (h : List ℕ) : Type 0 where
  pub records : List Arrival
  pub record_of : Arrival
  pub get : RanOp
  pub ran : In get (ops_of (reached start records) record_of)
  pub gives : Gives n h get

-- the operations that look at the object of the current filehandle
abbrev pub is_on_current : Item → Bool
is_on_current (Operation (Op.Access asked)) = true
is_on_current (Operation (Op.Close a)) = true
is_on_current (Operation (Op.Commit a)) = true
is_on_current (Operation (Op.Create a)) = true
is_on_current (Operation (Op.GetAttr words)) = true
is_on_current (Operation Op.GetFh) = true
is_on_current (Operation (Op.Link name)) = true
is_on_current (Operation (Op.Lock a)) = true
is_on_current (Operation (Op.LockT a)) = true
is_on_current (Operation (Op.LockU a)) = true
is_on_current (Operation (Op.Lookup name)) = true
is_on_current (Operation Op.LookupP) = true
is_on_current (Operation (Op.NVerify a)) = true
is_on_current (Operation (Op.Open a)) = true
is_on_current (Operation (Op.OpenDowngrade a)) = true
is_on_current (Operation (Op.Read a)) = true
is_on_current (Operation (Op.ReadDir a)) = true
is_on_current (Operation Op.ReadLink) = true
is_on_current (Operation (Op.ReclaimComplete one)) = one
is_on_current (Operation (Op.Remove name)) = true
is_on_current (Operation (Op.Rename a)) = true
is_on_current (Operation Op.SaveFh) = true
is_on_current (Operation (Op.SecinfoNoName style)) = true
is_on_current (Operation (Op.SetAttr a)) = true
is_on_current (Operation (Op.Verify a)) = true
is_on_current (Operation (Op.Write a)) = true
is_on_current item = false

-- and of the saved one
abbrev pub is_on_saved : Item → Bool
is_on_saved (Operation (Op.Link name)) = true
is_on_saved (Operation (Op.Rename a)) = true
is_on_saved (Operation Op.RestoreFh) = true
is_on_saved item = false

-- The object is there: a PUTFH of its filehandle is not answered NFS4ERR_STALE. Neither is an operation that looks at the object as the current filehandle's, nor one that
-- looks at it as the saved one's, if the current one's is there too where it looks at that.
pub record IsThere (n : ℕ) (h : List ℕ) (d : RanOp) : Type 0 where
  pub there : is_there d.before.store.tree n ≡ true
  pub found : d.item ≡ Operation (Op.PutFh h) → d.status ≢ Stale
  pub at_current : is_on_current d.item ≡ true → is_on_saved d.item ≡ false → d.context.current ≡ Some n → d.status ≢ Stale
  pub at_saved : is_on_saved d.item ≡ true → (saved : Saved) → d.context.saved ≡ Some saved → saved.object ≡ n
      → (is_on_current d.item ≡ true → (k : ℕ) → d.context.current ≡ Some k → is_there d.before.store.tree k ≡ true) → d.status ≢ Stale

-- the file of an open, with this filehandle, as long as no CLOSE of the open is answered NFS4_OK
abbrev pub the_file : OpenTold → List ℕ → Kept
the_file k h = record {
  Way = Bits;
  Stands = λ b s. IsOpenWith k b s.opens;
  Before = λ b d. IsThere k.file h d;
  Spares = λ d. ClosesOf d k.number → ⊥;
  after = λ b d. bits_behind k.number d.item d.result b;
}

-- In every run of a server whose leases last so many seconds, from its start on: an OPEN in the record's compound told the open, and these operations are behind it
-- there. The file is there for each of them while none closes the open, whoever asks and whatever names are removed; and if none does, it is there through whatever
-- records come, as long as the open's client renews its lease in time.
abbrev pub FilesStay : Type 0
FilesStay = (start : Start) (earlier : List Arrival) (c : Arrival) (k : OpenTold) (b : Bits) (h : List ℕ) (front : List RanOp) (told : RanOp) (back : List RanOp)
    → start.instance < 2 ^ 32 → IsHandleOf start k.file h
    → (let s = reached start earlier in
    ops_of s c ≡ front ++ told ∷ back → TellsOpen k b told
    → While (the_file k h) b back
    × (AreSpared (the_file k h) back → (more : List Arrival) → StaysFor (the_file k h) k.client start.lease (taken s c) (bits_left k.number b back) (state_after s c) more))

-- No name leads to the object before the operation, and the operation does not say that one does: no CREATE, OPEN, LOOKUP, LINK or RENAME.
pub record IsNameless (n : ℕ) (d : RanOp) (next : Option Context) : Type 0 where
  pub unnamed : has_row d.before.store.tree.rows n ≡ false
  pub unsaid : (k : Name) → k.object ≡ n → Says k d next → ⊥

-- In every run of a server, from its start on: once an operation left no name for an object that was there, none leads to it in whatever records come.
abbrev pub NamelessStays : Type 0
NamelessStays = (start : Start) (earlier : List Arrival) (c : Arrival) (n : ℕ) (front : List RanOp) (d : RanOp) (back : List RanOp)
    → (let s = reached start earlier in
    ops_of s c ≡ front ++ d ∷ back → is_there d.before.store.tree n ≡ true → has_row d.behind.store.tree.rows n ≡ false
    → HoldsFrom (IsNameless n) (λ e. Unit {0}) s c back)
