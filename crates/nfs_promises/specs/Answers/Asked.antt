-- What a request looks at, which names and which stateid it gives, and which rights it needs: a line for each operation (RFC 8881 sections 18.3 to 18.32).
use Rattle.std.specs.Prelude.{◌≡◌, ◌⊎◌, ℕ, ◌+◌, ◌<◌, ◌≤◌, ◌||◌, Bool, true, false, List, [], ◌∷◌, Option, Some, None, is_some, Result, Ok, Err, if◌then◌else◌}
use Rattle.nfs_xdr.specs.{Caller.Caller, declared.time.Time.Time, declared.status.Status.Status}
use Rattle.nfs_compound.specs.{declared.attributes.Attributes.Attributes, declared.lock_args.{LockType.LockType, Locker.{Locker, TheVariants.{OpenOwner, LockOwner}}}}
use Rattle.nfs_compound.specs.declared.lock_args.LockType.TheVariants as LockTypes
use Rattle.nfs_compound.specs.declared.name_args.{ReadDir.ReadDir, SecinfoStyle.TheVariants.Parent}
use Rattle.nfs_compound.specs.declared.name_args.Create as args
use Rattle.nfs_compound.specs.{declared.file_args.{Read.Read, SetAttr.SetAttr, Write.Write}, declared.name_args.Rename.Rename, declared.open_args.{Open.Open, OpenHow.OpenHow}}
use Rattle.nfs_compound.specs.declared.open_args.{OpenClaim.OpenClaim, OpenClaim.TheVariants.{Null, Previous, Fh}, OpenHow.TheVariants.{NoCreate, Create}}
use Rattle.nfs_compound.specs.declared.open_args.CreateHow.TheVariants.{Unchecked, Guarded, Exclusive, Exclusive41}
use Rattle.nfs_compound.specs.{declared.stateid.Stateid.Stateid, declared.op.Item.Item, declared.op.Item.TheVariants.Operation}
use Rattle.nfs_compound.specs.declared.op.Op.TheVariants as Op
use Rattle.nfs_ranges.specs.declared.Kind.{Kind}
use Rattle.nfs_ranges.specs.declared.Kind.TheVariants as Kinds
use Rattle.nfs_tree.specs.{declared.profile.Profile.{Profile, TheVariants.Unix}, Files.{object_named}}
use Rattle.nfs_attrs.specs.{declared.set_time.SetTime.TheVariants.{Now, Given}, declared.wanted.Wanted.Wanted}
use Rattle.nfs_opens.specs.{declared.judging.Sort.Sort, declared.judging.Sort.TheVariants.{Either, OpenOnly, LockOnly}, declared.records.LockState.LockState, declared.stateid.StateId.StateId}
use Rattle.nfs_opens.specs.{declared.stateid.CurrentSeqid.CurrentSeqid, declared.stateid.CurrentSeqid.TheVariants.{Any, Own}}
use Rattle.nfs_names.specs.{declared.context.Context.Context, declared.context.Saved.Saved, Create.attributes_in, State.State}
use Rattle.nfs_files.specs.{Open.access_of, OpenTold.claimed, StateIds.state_id}
use Rattle.nfs_promises.specs.{Names.FileStays.{is_on_current, is_on_saved}, Permission.Permitted.{Right, Reads, Writes, Executes, Rights, IsIn, rights_at}}

-- Objects.

-- the current filehandle's object, and the saved one's
pub data LooksAt (x : Context) (i : Item) (n : ℕ) : Type 0 where
  AtCurrent : is_on_current i ≡ true → x.current ≡ Some n → LooksAt x i n
  AtSaved : (saved : Saved) → is_on_saved i ≡ true → x.saved ≡ Some saved → saved.object ≡ n → LooksAt x i n

-- the name in an OPEN's claim
abbrev pub named_by : OpenClaim → Option (List ℕ)
named_by (Null name) = Some name
named_by claim = None

-- the current one has to be a directory, and for RENAME the saved one too
abbrev pub is_in_directory : Item → Bool
is_in_directory (Operation (Op.Create c)) = true
is_in_directory (Operation (Op.Link name)) = true
is_in_directory (Operation Op.LookupP) = true
is_in_directory (Operation (Op.ReadDir a)) = true
is_in_directory (Operation (Op.SecinfoNoName Parent)) = true
is_in_directory (Operation (Op.Lookup name)) = true
is_in_directory (Operation (Op.Remove name)) = true
is_in_directory (Operation (Op.Rename a)) = true
is_in_directory (Operation (Op.Open a)) = is_some (named_by a.claim)
is_in_directory item = false

pub data DirectoryOf (x : Context) (i : Item) (n : ℕ) : Type 0 where
  Target : is_in_directory i ≡ true → x.current ≡ Some n → DirectoryOf x i n
  Source : (a : Rename) (saved : Saved) → i ≡ Operation (Op.Rename a) → x.saved ≡ Some saved → saved.object ≡ n → DirectoryOf x i n

-- the size that is given to be set
abbrev pub size_in : Result Wanted Status → Option ℕ
size_in (Err f) = None
size_in (Ok w) = w.size

abbrev pub sets_size : SetAttr → Bool
sets_size a = is_some (size_in (attributes_in a.obj_attributes))

-- the current one has to be a file; of an OPEN what its claim leads to
abbrev pub is_of_file : Item → Bool
is_of_file (Operation (Op.Close a)) = true
is_of_file (Operation (Op.Commit a)) = true
is_of_file (Operation (Op.Lock a)) = true
is_of_file (Operation (Op.LockT a)) = true
is_of_file (Operation (Op.LockU a)) = true
is_of_file (Operation (Op.OpenDowngrade a)) = true
is_of_file (Operation (Op.Read a)) = true
is_of_file (Operation (Op.SetAttr a)) = sets_size a
is_of_file (Operation (Op.Write a)) = true
is_of_file item = false

pub data FileOf (s : State) (x : Context) (i : Item) (n : ℕ) : Type 0 where
  Used : is_of_file i ≡ true → x.current ≡ Some n → FileOf s x i n
  Opened : (a : Open) → i ≡ Operation (Op.Open a) → claimed s.tree x a.claim ≡ Some n → FileOf s x i n

-- what may be no directory: such a file, and the object of a LINK
pub data NoDirectoryOf (s : State) (x : Context) (i : Item) (n : ℕ) : Type 0 where
  AFile : FileOf s x i n → NoDirectoryOf s x i n
  Linked : (name : List ℕ) (saved : Saved) → i ≡ Operation (Op.Link name) → x.saved ≡ Some saved → saved.object ≡ n → NoDirectoryOf s x i n

-- what may be no link: such a file, and the directory of a LOOKUP
pub data NoLinkOf (s : State) (x : Context) (i : Item) (n : ℕ) : Type 0 where
  TheFile : FileOf s x i n → NoLinkOf s x i n
  Searched : (name : List ℕ) → i ≡ Operation (Op.Lookup name) → x.current ≡ Some n → NoLinkOf s x i n

-- Names.

-- a name in the current directory
abbrev pub named : Item → Option (List ℕ)
named (Operation (Op.Create c)) = Some c.objname
named (Operation (Op.Link name)) = Some name
named (Operation (Op.Lookup name)) = Some name
named (Operation (Op.Remove name)) = Some name
named (Operation (Op.Open a)) = named_by a.claim
named item = None

-- one that has to be there: an OPEN that makes nothing has one
abbrev pub sought_by : OpenHow → OpenClaim → Option (List ℕ)
sought_by NoCreate claim = named_by claim
sought_by how claim = None

abbrev pub sought : Item → Option (List ℕ)
sought (Operation (Op.Lookup name)) = Some name
sought (Operation (Op.Remove name)) = Some name
sought (Operation (Op.Open a)) = sought_by a.openhow a.claim
sought item = None

-- .. in the current directory, or RENAME's in the saved one
pub data Seeks (x : Context) (i : Item) (directory : ℕ) (name : List ℕ) : Type 0 where
  InCurrent : x.current ≡ Some directory → sought i ≡ Some name → Seeks x i directory name
  InSaved : (a : Rename) (saved : Saved) → i ≡ Operation (Op.Rename a) → a.oldname ≡ name → x.saved ≡ Some saved → saved.object ≡ directory → Seeks x i directory name

-- one that has to be free
abbrev pub made : Item → Option (List ℕ)
made (Operation (Op.Create c)) = Some c.objname
made (Operation (Op.Link name)) = Some name
made item = None

-- an object that has to have a name: LINK's, and that of which the directory is asked for
abbrev pub leaves : Item → Bool
leaves (Operation Op.LookupP) = true
leaves (Operation (Op.SecinfoNoName Parent)) = true
leaves item = false

pub data NamedOf (x : Context) (i : Item) (n : ℕ) : Type 0 where
  Left : leaves i ≡ true → x.current ≡ Some n → NamedOf x i n
  Kept : (name : List ℕ) (saved : Saved) → i ≡ Operation (Op.Link name) → x.saved ≡ Some saved → saved.object ≡ n → NamedOf x i n

-- all names that are given
pub data Gives (i : Item) (name : List ℕ) : Type 0 where
  ByName : named i ≡ Some name → Gives i name
  ByOldName : (a : Rename) → i ≡ Operation (Op.Rename a) → a.oldname ≡ name → Gives i name
  ByNewName : (a : Rename) → i ≡ Operation (Op.Rename a) → a.newname ≡ name → Gives i name

-- a file is made, and none may be there: or none but the one that was made with this verifier
abbrev pub makes_by : OpenHow → Option (Option (List ℕ))
makes_by (Create (Guarded a)) = Some None
makes_by (Create (Exclusive v)) = Some (Some v)
makes_by (Create (Exclusive41 v a)) = Some (Some v)
makes_by how = None

-- a file is made where the name is free
abbrev pub creates : OpenHow → Bool
creates NoCreate = false
creates (Create how) = true

-- an object is made, of a size if one is given
abbrev pub adds : Item → Bool
adds (Operation (Op.Create c)) = true
adds (Operation (Op.Open a)) = creates a.openhow
adds item = false

-- what is open is asked for again; what was delegated is
abbrev pub reclaims : OpenClaim → Bool
reclaims (Previous type) = true
reclaims claim = false

abbrev pub is_delegated : OpenClaim → Bool
is_delegated (Null name) = false
is_delegated (Previous type) = false
is_delegated Fh = false
is_delegated claim = true

-- Stateids.

-- a stateid that is given: of what it has to be, with which seqid the current stateid stands for it, and whether it has to be of the current file
pub record StateGiven : Type 0 where
  pub given : Stateid
  pub sort : Sort
  pub form : CurrentSeqid
  pub here : Bool

-- a new lock owner names an open, another one its lock state
abbrev pub of_locker : Locker → StateGiven
of_locker (OpenOwner o) = record { given = o.open_stateid; sort = OpenOnly; form = Any; here = true }
of_locker (LockOwner o) = record { given = o.lock_stateid; sort = LockOnly; form = Any; here = true }

abbrev pub by_state : Item → Option StateGiven
by_state (Operation (Op.Close a)) = Some (record { given = a.open_stateid; sort = OpenOnly; form = Own; here = true })
by_state (Operation (Op.FreeStateid given)) = Some (record { given = given; sort = Either; form = Any; here = false })
by_state (Operation (Op.Lock a)) = Some (of_locker a.locker)
by_state (Operation (Op.OpenDowngrade a)) = Some (record { given = a.open_stateid; sort = OpenOnly; form = Own; here = true })
by_state (Operation (Op.Read a)) = Some (record { given = a.stateid; sort = Either; form = Any; here = true })
by_state (Operation (Op.SetAttr a)) = if sets_size a then Some (record { given = a.stateid; sort = Either; form = Any; here = true }) else None
by_state (Operation (Op.Write a)) = Some (record { given = a.stateid; sort = Either; form = Any; here = true })
by_state (Operation (Op.LockU a)) = Some (record { given = a.lock_stateid; sort = LockOnly; form = Any; here = true })
by_state item = None

-- the access that a request needs of the open that its stateid is of
abbrev pub of_type : LockType → Right
of_type LockTypes.Read = Reads
of_type LockTypes.ReadW = Reads
of_type LockTypes.Write = Writes
of_type LockTypes.WriteW = Writes

abbrev pub used : Item → Option Right
used (Operation (Op.Lock a)) = Some (of_type a.locktype)
used (Operation (Op.Read a)) = Some Reads
used (Operation (Op.SetAttr a)) = Some Writes
used (Operation (Op.Write a)) = Some Writes
used item = None

-- seqid 1 and zeros stand for the current stateid (section 8.2.3)
abbrev pub IsCurrent : StateId → Type 0
IsCurrent id = (id.seqid ≡ 1) × (id.instance ≡ 0) × (id.number ≡ 0)

-- what stands behind the seqid names nothing
pub data IsNone (id : StateId) : Type 0 where
  Zeros : id.instance ≡ 0 → id.number ≡ 0 → IsNone id
  Ones : id.instance ≡ 0xffff_ffff → id.number ≡ 0xffff_ffff_ffff_ffff → IsNone id

-- the two special ones: all zeros, and all ones
pub data IsSpecial (id : StateId) : Type 0 where
  AllZeros : id.seqid ≡ 0 → id.instance ≡ 0 → id.number ≡ 0 → IsSpecial id
  AllOnes : id.seqid ≡ 0xffff_ffff → id.instance ≡ 0xffff_ffff → id.number ≡ 0xffff_ffff_ffff_ffff → IsSpecial id

-- seqid 0 is any
abbrev pub as_given : CurrentSeqid → StateId → StateId
as_given Any id = record { seqid = 0; instance = id.instance; number = id.number }
as_given Own id = id

-- what the stateid that is given stands for
pub data StandsFor (x : Context) (k : StateGiven) (id : StateId) : Type 0 where
  Itself : (IsCurrent (state_id k.given) → ⊥) → id ≡ state_id k.given → StandsFor x k id
  TheCurrent : IsCurrent (state_id k.given) → (IsNone (state_id x.stateid) → ⊥) → id ≡ as_given k.form (state_id x.stateid) → StandsFor x k id

-- the state of this number is the one whose stateid is given
pub record IsGiven (x : Context) (i : Item) (n : ℕ) : Type 0 where
  pub given : StateGiven
  pub is : by_state i ≡ Some given
  pub id : StateId
  pub means : StandsFor x given id
  pub names : id.number ≡ n

-- Locks.

-- whose lock state it is: of a new lock owner that is given, or the one whose stateid is
abbrev pub IsOf : Context → Item → Locker → LockState → Type 0
IsOf x i (OpenOwner o) l = l.owner ≡ o.lock_owner.owner
IsOf x i (LockOwner o) l = IsGiven x i l.number

-- .. the asker's own
abbrev pub IsAskers : Context → Item → LockState → Type 0
IsAskers x (Operation (Op.Lock a)) l = (l.client ≡ x.client) × IsOf x (Operation (Op.Lock a)) a.locker l
IsAskers x (Operation (Op.LockT a)) l = (l.client ≡ x.client) × (l.owner ≡ a.owner.owner)
IsAskers x item l = ⊥

-- the bytes that are to be locked or asked for
pub record Range : Type 0 where
  pub type : LockType
  pub offset : ℕ
  pub size : ℕ

abbrev pub locked : Item → Option Range
locked (Operation (Op.Lock a)) = Some (record { type = a.locktype; offset = a.offset; size = a.length })
locked (Operation (Op.LockT a)) = Some (record { type = a.locktype; offset = a.offset; size = a.length })
locked item = None

-- the byte is in the range: a length of all ones goes to the last byte there can be
abbrev pub InRange : (offset size b : ℕ) → Type 0
InRange offset size b = (offset ≤ b) × (b ≤ 0xffff_ffff_ffff_ffff) × ((size ≡ 0xffff_ffff_ffff_ffff) ⊎ (b < offset + size))

-- it may be locked in this way beside a holder
abbrev pub LiesBeside : Kind → Option Kind → Type 0
LiesBeside kind held = (held ≡ None) ⊎ ((kind ≡ Kinds.Read) × (held ≡ Some Kinds.Read))

-- Rights.

abbrev pub shared : (reads writes : Bool) → List Right
shared true true = Reads ∷ Writes ∷ []
shared true false = Reads ∷ []
shared false true = Writes ∷ []
shared false false = []

-- the bytes of the file are asked for by a special stateid, which no open grants
pub record IsAsked (x : Context) (i : Item) (n : ℕ) : Type 0 where
  pub state : StateGiven
  pub is : by_state i ≡ Some state
  pub id : StateId
  pub means : StandsFor x state id
  pub special : IsSpecial id
  pub at : x.current ≡ Some n

-- Whose objects they are: that is for the owner to set, and another owner for user 0 alone (sections 6.2.4 and 18.30.3); in `unix` also as it is.

abbrev pub Owns : Caller → Rights → Type 0
Owns who r = (who.uid ≡ 0) ⊎ (who.uid ≡ r.owner)

pub record MaySet (p : Profile) (who : Caller) (r : Rights) (w : Wanted) : Type 0 where
  pub as_it_is : p ≡ Unix → is_some w.owner || is_some w.group ≡ true → Owns who r
  pub owner : (new : ℕ) → w.owner ≡ Some new → (who.uid ≡ 0) ⊎ (new ≡ r.owner)
  pub group : (new : ℕ) → w.group ≡ Some new → (who.uid ≡ 0) ⊎ ((new ≡ r.group) ⊎ ((who.uid ≡ r.owner) × IsIn new who))
  pub mode : (new : ℕ) → w.mode ≡ Some new → Owns who r
  pub accessed : (t : Time) → w.access ≡ Some (Given t) → Owns who r
  pub modified : (t : Time) → w.modify ≡ Some (Given t) → Owns who r

-- a new object is the caller's, and of the caller's first group
abbrev pub own : Caller → Rights
own who = record { mode = 0; owner = who.uid; group = who.gid }

abbrev pub attributes_of : OpenHow → Attributes
attributes_of (Create (Unchecked a)) = a
attributes_of (Create (Guarded a)) = a
attributes_of (Create (Exclusive41 v a)) = a
attributes_of how = record { attrmask = []; attr_vals = [] }

-- what is set, of an object that is whose
pub data Sets (s : State) (x : Context) : Item → Rights → Wanted → Type 0 where
  ToSet : (n : ℕ) (a : SetAttr) (r : Rights) (w : Wanted) → x.current ≡ Some n → rights_at s.tree n ≡ Some r → attributes_in a.obj_attributes ≡ Ok w
      → Sets s x (Operation (Op.SetAttr a)) r w
  ToCreate : (c : args.Create) (w : Wanted) → attributes_in c.createattrs ≡ Ok w → Sets s x (Operation (Op.Create c)) (own x.who) w
  ToMakeAs : (n : ℕ) (a : Open) (name : List ℕ) (w : Wanted) → a.claim ≡ Null name → x.current ≡ Some n → object_named s.tree n name ≡ None
      → attributes_in (attributes_of a.openhow) ≡ Ok w → Sets s x (Operation (Op.Open a)) (own x.who) w

-- the server's own time is set, which whoever may write may do
pub data Touches (w : Wanted) : Type 0 where
  Access : w.access ≡ Some Now → Touches w
  Modify : w.modify ≡ Some Now → Touches w

-- which object has to grant which rights to the caller
pub data Needs (s : State) (x : Context) : Item → ℕ → List Right → Type 0 where
  ToFind : (n : ℕ) (i : Item) (name : List ℕ) → named i ≡ Some name → x.current ≡ Some n → Needs s x i n (Executes ∷ [])
  ToList : (n : ℕ) (a : ReadDir) → x.current ≡ Some n → Needs s x (Operation (Op.ReadDir a)) n (Reads ∷ [])
  ToLeave : (n : ℕ) → x.current ≡ Some n → Needs s x (Operation Op.LookupP) n (Executes ∷ [])
  ToTouch : (n : ℕ) (a : SetAttr) (r : Rights) (w : Wanted) → x.current ≡ Some n → rights_at s.tree n ≡ Some r → attributes_in a.obj_attributes ≡ Ok w → Touches w
      → (Owns x.who r → ⊥) → Needs s x (Operation (Op.SetAttr a)) n (Writes ∷ [])
  ToSize : (n : ℕ) (a : SetAttr) → IsAsked x (Operation (Op.SetAttr a)) n → Needs s x (Operation (Op.SetAttr a)) n (Writes ∷ [])
  ToAdd : (n : ℕ) (i : Item) (name : List ℕ) → made i ≡ Some name → x.current ≡ Some n → Needs s x i n (Writes ∷ Executes ∷ [])
  ToRemove : (n : ℕ) (name : List ℕ) → x.current ≡ Some n → Needs s x (Operation (Op.Remove name)) n (Writes ∷ Executes ∷ [])
  ToTake : (n : ℕ) (a : Rename) (saved : Saved) → x.saved ≡ Some saved → saved.object ≡ n → Needs s x (Operation (Op.Rename a)) n (Writes ∷ Executes ∷ [])
  ToPut : (n : ℕ) (a : Rename) → x.current ≡ Some n → Needs s x (Operation (Op.Rename a)) n (Writes ∷ Executes ∷ [])
  ToMake : (n : ℕ) (a : Open) (name : List ℕ) → a.claim ≡ Null name → creates a.openhow ≡ true → x.current ≡ Some n → object_named s.tree n name ≡ None
      → Needs s x (Operation (Op.Open a)) n (Writes ∷ [])
  ToOpen : (n : ℕ) (a : Open) → claimed s.tree x a.claim ≡ Some n → Needs s x (Operation (Op.Open a)) n (shared (access_of a).reads (access_of a).writes)
  ToRead : (n : ℕ) (a : Read) → IsAsked x (Operation (Op.Read a)) n → Needs s x (Operation (Op.Read a)) n (Reads ∷ [])
  ToWrite : (n : ℕ) (a : Write) → IsAsked x (Operation (Op.Write a)) n → Needs s x (Operation (Op.Write a)) n (Writes ∷ [])
