-- Permission: what an operation does to an object is what the object's mode, owner and group give to its user, and what is refused by NFS4ERR_ACCESS is what they do not
-- give (RFC 8881 sections 5.9, 6.2.4, 18.4, 18.9, 18.13, 18.14, 18.16, 18.22, 18.23, 18.25 and 18.32).
use Rattle.std.specs.{Prelude.{◌≡◌, ◌≢◌, ◌⊎◌, ℕ, ◌/◌, ◌%◌, ◌||◌, Bool, true, false, List, [], ◌∷◌, Option, Some, None, Ok, option_map}, Int.bit_at}
use Rattle.nfs_xdr.specs.{Caller.Caller, Tables.In, declared.status.Status.TheVariants.Access}
use Rattle.nfs_compound.specs.{declared.file_args.Read.Read, declared.file_args.Write.Write, declared.op.Item.Item, declared.op.Item.TheVariants.Operation}
use Rattle.nfs_compound.specs.{declared.open_args.Open.Open, declared.open_args.OpenClaim.TheVariants.{Null, Fh}, declared.stateid.Stateid.Stateid}
use Rattle.nfs_compound.specs.declared.op.Op.TheVariants as Op
use Rattle.nfs_tree.specs.{declared.object.Object.Object, Files.{Files, stored_in, object_named}}
use Rattle.nfs_tree.specs.{declared.profile.Profile.Profile, declared.profile.Profile.TheVariants.{Exact, Unix}}
use Rattle.nfs_opens.specs.{declared.records.OpenState.OpenState, declared.share.Share.Share, declared.stateid.CurrentSeqid.TheVariants.Any}
use Rattle.nfs_opens.specs.{declared.stateid.StateId.StateId, StateId.{is_anonymous, is_bypass}, Table.Table}
use Rattle.nfs_names.specs.{declared.start.Start.Start, Outcome.is_ok}
use Rattle.nfs_files.specs.{Open.access_of, OpenTold.claimed, StateIds.meant}
use Rattle.nfs_exec.specs.Runs.Ops.{RanOp}
use Rattle.nfs_promises.specs.{Network.Endpoint.Arrival, Runs.Points.{reached, ops_of}}

-- what decides: the mode, the owner and the group of an object
pub record Rights : Type 0 where
  pub mode : ℕ
  pub owner : ℕ
  pub group : ℕ

pub data Right : Type 0 where
  Reads : Right
  Writes : Right
  Executes : Right

-- its place in a digit of the mode: r is 4, w is 2 and x is 1
abbrev pub place : Right → ℕ
place Reads = 2
place Writes = 1
place Executes = 0

pub data IsIn (group : ℕ) (who : Caller) : Type 0 where
  First : who.gid ≡ group → IsIn group who
  Further : In group who.gids → IsIn group who

-- The mode has three digits of eight: the owner's, that of whoever else is in the group, and that of all others. Of these the user's own decides alone. User 0 may do all.
pub data Grants (r : Rights) (who : Caller) (right : Right) : Type 0 where
  ToRoot : who.uid ≡ 0 → Grants r who right
  ToOwner : who.uid ≡ r.owner → bit_at (r.mode / 64 % 8) (place right) ≡ 1 → Grants r who right
  ToGroup : who.uid ≢ r.owner → IsIn r.group who → bit_at (r.mode / 8 % 8) (place right) ≡ 1 → Grants r who right
  ToOthers : who.uid ≢ r.owner → (IsIn r.group who → ⊥) → bit_at (r.mode % 8) (place right) ≡ 1 → Grants r who right

-- What lets a user read the bytes of a file: r. In `unix` x does too, since no program runs that is not read (section 6.2.1.3.2).
abbrev pub GrantsBytes : Profile → Rights → Caller → Type 0
GrantsBytes Exact r who = Grants r who Reads
GrantsBytes Unix r who = Grants r who Reads ⊎ Grants r who Executes

-- .. and use them, in this way
abbrev pub GrantsUse : Right → Profile → Rights → Caller → Type 0
GrantsUse Reads p r who = GrantsBytes p r who
GrantsUse right p r who = Grants r who right

abbrev pub rights_of : Object → Rights
rights_of o = record { mode = o.mode; owner = o.owner; group = o.group }

abbrev pub rights_at : Files → ℕ → Option Rights
rights_at t n = option_map (λ s. rights_of s.object) (stored_in t.objects n)

-- What an operation on names wants of the current filehandle's object: to find a name in a directory, to list it, and to change its entries.
abbrev pub wants : Item → List Right
wants (Operation (Op.Lookup name)) = Executes ∷ []
wants (Operation Op.LookupP) = Executes ∷ []
wants (Operation (Op.ReadDir a)) = Reads ∷ []
wants (Operation (Op.Create a)) = Writes ∷ Executes ∷ []
wants (Operation (Op.Link name)) = Writes ∷ Executes ∷ []
wants (Operation (Op.Remove name)) = Writes ∷ Executes ∷ []
wants item = []

abbrev pub has_right : Share → Right → Bool
has_right a Reads = a.reads
has_right a Writes = a.writes
has_right a Executes = false

-- an open of the client and of the file stands, and has the right
pub record HasOpen (t : Table) (client file : ℕ) (right : Right) : Type 0 where
  pub state : OpenState
  pub stands : In state t.opens
  pub client_is : state.client ≡ client
  pub file_is : state.file ≡ file
  pub has : has_right state.access right ≡ true

-- the current filehandle's object is this one, and has these
pub record IsAt (n : ℕ) (r : Rights) (d : RanOp) : Type 0 where
  pub at : d.context.current ≡ Some n
  pub is : rights_at d.before.store.tree n ≡ Some r

-- Bytes are read or written by a stateid. A special one names no state: then the object grants it. By another one an open of the user's client does.
abbrev pub is_special : StateId → Bool
is_special id = is_anonymous id || is_bypass id

pub record ByStateid (p : Profile) (n : ℕ) (r : Rights) (d : RanOp) (given : Stateid) (right : Right) : Type 0 where
  pub special : (id : StateId) → meant d.context Any given ≡ Ok id → is_special id ≡ true → GrantsUse right p r d.context.who
  pub state : (id : StateId) → meant d.context Any given ≡ Ok id → is_special id ≡ false → HasOpen d.before.store.opens d.context.client n right

-- What was answered NFS4_OK was granted, by the server's profile.
pub record IsGranted (p : Profile) (d : RanOp) : Type 0 where
  pub named : (n : ℕ) (r : Rights) → IsAt n r d → is_ok d.status ≡ true → (right : Right) → In right (wants d.item) → Grants r d.context.who right
  pub read : (n : ℕ) (r : Rights) → IsAt n r d → is_ok d.status ≡ true → (a : Read) → d.item ≡ Operation (Op.Read a) → ByStateid p n r d a.stateid Reads
  pub written : (n : ℕ) (r : Rights) → IsAt n r d → is_ok d.status ≡ true → (a : Write) → d.item ≡ Operation (Op.Write a) → ByStateid p n r d a.stateid Writes
  -- an OPEN by a name: the directory in which it is found, or is made
  pub entered : (n : ℕ) (r : Rights) → IsAt n r d → is_ok d.status ≡ true → (a : Open) (name : List ℕ) → d.item ≡ Operation (Op.Open a) → a.claim ≡ Null name
      → Grants r d.context.who Executes × (object_named d.before.store.tree n name ≡ None → Grants r d.context.who Writes)
  -- an OPEN of a file that is there: all that it asks for
  pub opened : (n : ℕ) (r : Rights) → rights_at d.before.store.tree n ≡ Some r → is_ok d.status ≡ true → (a : Open) → d.item ≡ Operation (Op.Open a)
      → claimed d.before.store.tree d.context a.claim ≡ Some n → (right : Right) → has_right (access_of a) right ≡ true → GrantsUse right p r d.context.who

-- What was refused by NFS4ERR_ACCESS was not: not all that was wanted.
pub record IsRefused (p : Profile) (d : RanOp) : Type 0 where
  pub named : (n : ℕ) (r : Rights) → IsAt n r d → d.status ≡ Access → (first : Right) → In first (wants d.item)
      → ((right : Right) → In right (wants d.item) → Grants r d.context.who right) → ⊥
  pub read : (n : ℕ) (r : Rights) → IsAt n r d → d.status ≡ Access → (a : Read) → d.item ≡ Operation (Op.Read a) → GrantsBytes p r d.context.who → ⊥
  pub written : (n : ℕ) (r : Rights) → IsAt n r d → d.status ≡ Access → (a : Write) → d.item ≡ Operation (Op.Write a) → Grants r d.context.who Writes → ⊥
  -- an OPEN by a name: not all of the directory, or not all that it asks for of a file that is there
  pub opened : (n : ℕ) (r : Rights) → IsAt n r d → d.status ≡ Access → (a : Open) (name : List ℕ) → d.item ≡ Operation (Op.Open a) → a.claim ≡ Null name
      → Grants r d.context.who Executes → (object_named d.before.store.tree n name ≡ None → Grants r d.context.who Writes)
      → ((m : ℕ) (q : Rights) → object_named d.before.store.tree n name ≡ Some m → rights_at d.before.store.tree m ≡ Some q → (right : Right)
      → has_right (access_of a) right ≡ true → GrantsUse right p q d.context.who) → ⊥
  -- and by a filehandle
  pub opened_again : (n : ℕ) (r : Rights) → IsAt n r d → d.status ≡ Access → (a : Open) → d.item ≡ Operation (Op.Open a) → a.claim ≡ Fh
      → ((right : Right) → has_right (access_of a) right ≡ true → GrantsUse right p r d.context.who) → ⊥

-- In every run of a server, of each operation that runs.
abbrev pub PermissionsHold : Type 0
PermissionsHold = (start : Start) (records : List Arrival) (c : Arrival) (d : RanOp) → In d (ops_of (reached start records) c)
    → IsGranted start.profile d × IsRefused start.profile d
