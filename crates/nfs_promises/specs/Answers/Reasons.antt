-- Each no has its reason: what an operation is refused with is so, by what the server has and what was asked (RFC 8881 sections 15.1 and 15.2). A table with a row for each
-- status: no row names an operation, or a check of one.
use Rattle.std.specs.Prelude.{◌≡◌, ◌≢◌, ◌⊎◌, ℕ, ◌<◌, ◌≤◌, ◌==◌, ◌+◌, ◌*◌, nat_lt, Bool, true, false, not, List, [], ◌∷◌, length, replicate, Option, Some, None, option_map, Ok, if◌then◌else◌}
use Rattle.nfs_xdr.specs.{Caller.Caller, Limits.most_transfer, Spelling.padding, Tables.In, declared.status.Status.Status}
use Rattle.nfs_xdr.specs.declared.status.Status.TheVariants as S
use Rattle.nfs_compound.specs.{declared.name_args.Rename.Rename, declared.open_args.Open.Open, declared.open_args.OpenClaim.TheVariants.Null}
use Rattle.nfs_compound.specs.{declared.op.Item.Item, declared.op.{Op.Op, Item.TheVariants.{Operation, Fault}}}
use Rattle.nfs_compound.specs.{declared.session_args.Sequence.Sequence, declared.attributes.Attributes.Attributes, declared.file_args.{SetAttr.SetAttr, Write.Write}, declared.lock_args.Lock.Lock, declared.stateid.Stateid.Stateid, declared.name_args.{ReadDir.ReadDir, CreateType.CreateType, CreateType.TheVariants.{Symlink, Other}}}
use Rattle.nfs_compound.specs.declared.name_args.Create as args
use Rattle.nfs_attrs.specs.{declared.handle.Handle.Handle, declared.wanted.Wanted.Wanted, Handle.handle_of}
use Rattle.nfs_tree.specs.{declared.object.FileType.FileType, declared.object.Object.Object, declared.row.Row.Row, declared.profile.Profile.{Profile, TheVariants.Unix}, Object.{is_directory, is_link}, Profile.is_unix}
use Rattle.nfs_tree.specs.Files.{Files, links_in, most_links, most_name, most_text, object_at, object_named, is_directory_at}
use Rattle.nfs_opens.specs.{declared.judging.Sort.Sort, declared.judging.Sort.TheVariants.{Either, OpenOnly, LockOnly}, declared.stateid.StateId.StateId}
use Rattle.nfs_opens.specs.{declared.records.OpenState.OpenState, declared.records.LockState.LockState, declared.share.Share.Share, Share.meets, Table.{Table, open_at, lock_at}}
use Rattle.nfs_opens.specs.declared.stateid.CurrentSeqid.TheVariants.{Any}
use Rattle.nfs_ranges.specs.Facts.{HoldsAny}
use Rattle.nfs_names.specs.{declared.{start.Start.Start, context.Context.Context, context.Saved.Saved}, Create.attributes_in, Outcome.is_ok, State.{State, is_used}}
use Rattle.nfs_files.specs.{Open.{access_of, deny_of}, OpenTold.claimed, Ranges.kind_of, StateIds.state_id}
use Rattle.nfs_clients.specs.Marks.{has_reclaimed}
use Rattle.nfs_exec.specs.{Runs.Ops.RanOp, Step.Delayed.lacks_at}
use Rattle.nfs_promises.specs.{Network.Endpoint.Arrival, Runs.Points.{reached, ops_of}, Names.FileStays.{is_on_current, is_on_saved}}
use Rattle.nfs_promises.specs.Permission.Permitted.{Right, Reads, Writes, Grants, GrantsBytes, Rights, has_right, rights_at}
use Rattle.nfs_promises.specs.Answers.Asked.{LooksAt, DirectoryOf, NoDirectoryOf, NoLinkOf, NamedOf, Seeks, Gives, made, makes_by, reclaims, is_delegated, Needs}
use Rattle.nfs_promises.specs.Answers.Asked.{Owns, MaySet, Sets, Touches, adds, attributes_of, size_in, used, Range, locked, InRange, LiesBeside, IsAskers}
use Rattle.nfs_promises.specs.Answers.Asked.{StateGiven, by_state, IsCurrent, IsNone, IsSpecial, StandsFor}
use Rattle.nfs_promises.specs.Answers.Invalid.{given_in, values_in, NamesNobody, IsUnknown, AreValues, IsInvalid, IsTooDeep, shortest, LeavesNoEntry, IsSpent}

-- Of names and objects.

abbrev pub HasKind : State → ℕ → (FileType → Bool) → Type 0
HasKind s n will = (o : Object) × (object_at s.tree n ≡ Some o) × (will o.kind ≡ true)

abbrev pub HasEntry : Files → ℕ → Type 0
HasEntry t n = (r : Row) × In r t.rows × (r.directory ≡ n)

-- a name that has to be there is not
pub record IsMissing (s : State) (x : Context) (i : Item) : Type 0 where
  pub directory : ℕ
  pub name : List ℕ
  pub seeks : Seeks x i directory name
  pub gone : object_named s.tree directory name ≡ None

-- a file is to be made, and one is there that was not made with the verifier that is given
pub record IsTaken (s : State) (x : Context) (i : Item) : Type 0 where
  pub asked : Open
  pub is : i ≡ Operation (Op.Open asked)
  pub verifier : Option (List ℕ)
  pub makes : makes_by asked.openhow ≡ Some verifier
  pub file : ℕ
  pub object : Object
  pub at : claimed s.tree x asked.claim ≡ Some file
  pub there : object_at s.tree file ≡ Some object
  pub other : (v : List ℕ) → verifier ≡ Some v → object.verifier ≢ Some v

-- a name that has to be free is there
pub record IsThere (s : State) (x : Context) (i : Item) : Type 0 where
  pub name : List ℕ
  pub is : made i ≡ Some name
  pub directory : ℕ
  pub object : ℕ
  pub at : x.current ≡ Some directory
  pub there : object_named s.tree directory name ≡ Some object

-- an object that has to have a name has none
pub record IsNameless (s : State) (x : Context) (i : Item) : Type 0 where
  pub number : ℕ
  pub of : NamedOf x i number
  pub none : (r : Row) → In r s.tree.rows → r.object ≢ number

-- RENAME's new name is of another object, and one of the two alone is a directory or that other one has entries
pub record IsInTheWay (s : State) (x : Context) (i : Item) : Type 0 where
  pub asked : Rename
  pub is : i ≡ Operation (Op.Rename asked)
  pub saved : Saved
  pub directory : ℕ
  pub source : x.saved ≡ Some saved
  pub target : x.current ≡ Some directory
  pub moved : ℕ
  pub other : ℕ
  pub old : object_named s.tree saved.object asked.oldname ≡ Some moved
  pub new : object_named s.tree directory asked.newname ≡ Some other
  pub two : moved ≢ other
  pub blocks : (is_directory_at s.tree moved ≢ is_directory_at s.tree other) ⊎ HasEntry s.tree other

-- in `unix`, RENAME's new name is of a directory with entries
pub record IsFilledWay (s : State) (x : Context) (i : Item) : Type 0 where
  pub way : IsInTheWay s x i
  pub unix : s.tree.profile ≡ Unix
  pub has : HasEntry s.tree way.other

-- what is to be removed has entries
pub record IsFilled (s : State) (x : Context) (i : Item) : Type 0 where
  pub name : List ℕ
  pub is : i ≡ Operation (Op.Remove name)
  pub directory : ℕ
  pub object : ℕ
  pub at : x.current ≡ Some directory
  pub there : object_named s.tree directory name ≡ Some object
  pub has : HasEntry s.tree object

-- What gives an operation a right to an object: that the object grants it; and to the bytes of a file what lets them be read in the profile.
abbrev pub MayDo : Right → Item → Profile → Rights → Caller → Type 0
MayDo Reads (Operation (Op.Open a)) p r who = GrantsBytes p r who
MayDo Reads (Operation (Op.Read a)) p r who = GrantsBytes p r who
MayDo right i p r who = Grants r who right

-- not all rights that are needed are given
pub record IsDenied (s : State) (x : Context) (i : Item) : Type 0 where
  pub number : ℕ
  pub rights : List Right
  pub needs : Needs s x i number rights
  pub denies : ((right : Right) → In right rights → (r : Rights) → rights_at s.tree number ≡ Some r → MayDo right i s.tree.profile r x.who) → ⊥

-- what is set is not the caller's to set
pub record IsForbidden (s : State) (x : Context) (i : Item) : Type 0 where
  pub rights : Rights
  pub wanted : Wanted
  pub sets : Sets s x i rights wanted
  pub forbids : MaySet s.tree.profile x.who rights wanted → ⊥

-- a filehandle that is put is of another start of the server, or its object is gone
pub record IsStalePut (s : State) (i : Item) : Type 0 where
  pub given : List ℕ
  pub is : i ≡ Operation (Op.PutFh given)
  pub handle : Handle
  pub says : handle_of given ≡ Some handle
  pub stale : (handle.instance ≢ s.opens.instance) ⊎ (is_used s handle.number ≡ false)

-- what stands alone in a compound stands behind no SEQUENCE
abbrev pub stands_alone : Op → Bool
stands_alone (Op.ExchangeId a) = true
stands_alone (Op.CreateSession a) = true
stands_alone (Op.DestroySession id) = true
stands_alone (Op.DestroyClientId client) = true
stands_alone op = false

-- CREATE makes directories and links
abbrev pub is_type : CreateType → Bool
is_type (Symlink text) = true
is_type (Other type) = type == 2
is_type device = false

-- Of stateids.

-- an open or a lock state that stands
pub record StateTold : Type 0 where
  pub sort : Sort
  pub client : ℕ
  pub file : ℕ
  pub seqid : ℕ

abbrev pub one_of : Option OpenState → Option LockState → Option StateTold
one_of (Some o) l = Some (record { sort = OpenOnly; client = o.client; file = o.file; seqid = o.seqid })
one_of None (Some l) = Some (record { sort = LockOnly; client = l.client; file = l.file; seqid = l.seqid })
one_of None None = None

-- the one that has this number, of this start of the server
abbrev pub state_of : Table → StateId → Option StateTold
state_of t id = if id.instance == t.instance then one_of (open_at t id.number) (lock_at t id.number) else None

abbrev pub fits : Sort → Sort → Bool
fits Either sort = true
fits OpenOnly OpenOnly = true
fits LockOnly LockOnly = true
fits wanted sort = false

-- it is the caller's, of the current file if it has to be, and of the sort that is wanted
pub record IsOwn (x : Context) (k : StateGiven) (m : StateTold) : Type 0 where
  pub client : m.client ≡ x.client
  pub file : k.here ≡ true → x.current ≡ Some m.file
  pub sort : fits k.sort m.sort ≡ true

-- the state that is named has a later seqid
pub record IsOld (s : State) (x : Context) (i : Item) : Type 0 where
  pub given : StateGiven
  pub is : by_state i ≡ Some given
  pub id : StateId
  pub means : StandsFor x given id
  pub state : StateTold
  pub names : state_of s.opens id ≡ Some state
  pub own : IsOwn x given state
  pub some : id.seqid ≢ 0
  pub old : id.seqid < state.seqid

-- There is no current stateid; or a special one is given where a state is wanted; or none is named whose seqid is not lower.
pub data IsBad (s : State) (x : Context) (i : Item) : Type 0 where
  NoCurrent : (k : StateGiven) → by_state i ≡ Some k → IsCurrent (state_id k.given) → IsNone (state_id x.stateid) → IsBad s x i
  Special : (k : StateGiven) (id : StateId) → by_state i ≡ Some k → StandsFor x k id → IsSpecial id → (k.sort ≡ Either → k.here ≡ false) → IsBad s x i
  NoState : (k : StateGiven) (id : StateId) → by_state i ≡ Some k → StandsFor x k id → (IsSpecial id → ⊥)
      → ((m : StateTold) → state_of s.opens id ≡ Some m → IsOwn x k m → id.seqid ≤ m.seqid → ⊥) → IsBad s x i

-- a special stateid asks for what an open denies to others, which the one of all ones reads past
pub record IsLockedOut (s : State) (x : Context) (i : Item) : Type 0 where
  pub given : StateGiven
  pub is : by_state i ≡ Some given
  pub id : StateId
  pub means : StandsFor x given id
  pub special : IsSpecial id
  pub right : Right
  pub uses : used i ≡ Some right
  pub state : OpenState
  pub there : In state s.opens.opens
  pub at : x.current ≡ Some state.file
  pub denies : has_right state.deny right ≡ true
  pub bypasses : right ≡ Reads → id.seqid ≡ 0

-- the access of the open of this number, or of the open under which the lock state of the number was made
abbrev pub access_with : Table → Option OpenState → Option LockState → Option Share
access_with t (Some o) l = Some o.access
access_with t None (Some l) = option_map (λ (o : OpenState). o.access) (open_at t l.opened)
access_with t None None = None

abbrev pub access_under : Table → ℕ → Option Share
access_under t n = access_with t (open_at t n) (lock_at t n)

-- the open that the stateid is of lacks the access
pub record LacksMode (s : State) (x : Context) (i : Item) : Type 0 where
  pub given : StateGiven
  pub is : by_state i ≡ Some given
  pub id : StateId
  pub means : StandsFor x given id
  pub right : Right
  pub uses : used i ≡ Some right
  pub access : Share
  pub has : access_under s.opens id.number ≡ Some access
  pub lacks : has_right access right ≡ false

-- a byte of the range is held by a lock state on the file, not the asker's own, so that the two clash
pub record IsHeld (s : State) (x : Context) (i : Item) : Type 0 where
  pub range : Range
  pub is : locked i ≡ Some range
  pub holder : LockState
  pub there : In holder s.opens.locks
  pub at : x.current ≡ Some holder.file
  pub other : IsAskers x i holder → ⊥
  pub byte : ℕ
  pub within : InRange range.offset range.size byte
  pub clash : LiesBeside (kind_of range.type) (s.opens.held holder.file holder.number byte) → ⊥

-- an open of the file by another owner denies what is asked for, or has what is to be denied
pub record IsShareDenied (s : State) (x : Context) (i : Item) : Type 0 where
  pub asked : Open
  pub is : i ≡ Operation (Op.Open asked)
  pub state : OpenState
  pub there : In state s.opens.opens
  pub at : claimed s.tree x asked.claim ≡ Some state.file
  pub other : (state.client ≡ x.client) × (state.owner ≡ asked.owner.owner) → ⊥
  pub clash : (meets (access_of asked) state.deny ≡ true) ⊎ (meets (deny_of asked) state.access ≡ true)

-- the file would be longer than files may be: a size that is set, or where a WRITE ends
pub data IsTooLong (t : Files) (i : Item) : Type 0 where
  BySize : (a : SetAttr) (size : ℕ) → i ≡ Operation (Op.SetAttr a) → size_in (attributes_in a.obj_attributes) ≡ Some size → t.limits.bytes < size → IsTooLong t i
  Made : (a : Open) (size : ℕ) → i ≡ Operation (Op.Open a) → size_in (attributes_in (attributes_of a.openhow)) ≡ Some size → t.limits.bytes < size → IsTooLong t i
  Written : (a : Write) → i ≡ Operation (Op.Write a) → (t.limits.bytes < a.offset + length a.bytes) ⊎ (0xffff_ffff < length a.bytes) → IsTooLong t i

-- FREE_STATEID: what is named is an open, or a lock state that holds a byte
pub record IsInUse (s : State) (x : Context) (i : Item) : Type 0 where
  pub given : Stateid
  pub is : i ≡ Operation (Op.FreeStateid given)
  pub id : StateId
  pub means : StandsFor x (record { given = given; sort = Either; form = Any; here = false }) id
  pub holds : ((o : OpenState) × In o s.opens.opens × (o.number ≡ id.number))
      ⊎ ((l : LockState) × In l s.opens.locks × (l.number ≡ id.number) × HoldsAny (s.opens.held l.file) l.number)

-- The table. What has no row is not answered.
abbrev pub Reason : State → Context → Item → Status → Type 0
Reason s x i S.NoFileHandle = ((is_on_current i ≡ true) × (x.current ≡ None)) ⊎ ((is_on_saved i ≡ true) × (x.saved ≡ None))
Reason s x i S.BadHandle = (given : List ℕ) × (i ≡ Operation (Op.PutFh given)) × (handle_of given ≡ None)
Reason s x i S.Stale = ((n : ℕ) × LooksAt x i n × (is_used s n ≡ false)) ⊎ IsStalePut s i
Reason s x i S.NotDir = (n : ℕ) × DirectoryOf x i n × HasKind s n (λ k. not (is_directory k))
Reason s x i S.IsDir = (n : ℕ) × NoDirectoryOf s x i n × HasKind s n is_directory
Reason s x i S.Symlink = (n : ℕ) × NoLinkOf s x i n × HasKind s n is_link
Reason s x i S.WrongType = (n : ℕ) × (i ≡ Operation Op.ReadLink) × (x.current ≡ Some n) × HasKind s n (λ k. not (is_link k))
Reason s x i S.BadType = (c : args.Create) × (i ≡ Operation (Op.Create c)) × (is_type c.objtype ≡ false)
Reason s x i S.NoEnt = IsMissing s x i ⊎ IsNameless s x i
Reason s x i S.Exist = IsTaken s x i ⊎ (IsInTheWay s x i ⊎ IsThere s x i)
Reason s x i S.NotEmpty = IsFilled s x i ⊎ IsFilledWay s x i
Reason s x i S.NameTooLong = ((name : List ℕ) × Gives i name × (most_name < length name))
    ⊎ (((c : args.Create) × (i ≡ Operation (Op.Create c)) × (text : List ℕ) × (c.objtype ≡ Symlink text) × (most_text < length text)) ⊎ IsTooDeep s x i)
Reason s x i S.BadChar = (name : List ℕ) × Gives i name × (byte : ℕ) × In byte name × ((byte ≡ 0x2f) ⊎ (byte ≡ 0))
Reason s x i S.BadName = (name : List ℕ) × Gives i name × ((name ≡ 0x2e ∷ []) ⊎ (name ≡ 0x2e ∷ 0x2e ∷ []))
Reason s x i S.BadCookie = (a : ReadDir) × (i ≡ Operation (Op.ReadDir a)) × ((a.cookie ≡ 1) ⊎ (a.cookie ≡ 2))
Reason s x i S.Access = IsDenied s x i
Reason s x i S.Perm = IsForbidden s x i
Reason s x i S.OldStateId = IsOld s x i
Reason s x i S.BadStateId = IsBad s x i
Reason s x i S.LocksHeld = IsInUse s x i
Reason s x i S.Locked = IsLockedOut s x i
Reason s x i S.OpenMode = LacksMode s x i
Reason s x i S.ShareDenied = IsShareDenied s x i
Reason s x i S.Denied = IsHeld s x i
Reason s x i S.FBig = IsTooLong s.tree i
Reason s x i S.NoSpc = (adds i ≡ true) × (s.tree.limits.objects ≤ length s.tree.objects)
Reason s x i S.MLink = (name : List ℕ) × (i ≡ Operation (Op.Link name)) × (saved : Saved) × (x.saved ≡ Some saved) × (most_links ≤ links_in s.tree.rows saved.object)
Reason s x i S.NoGrace = ((a : Open) × (i ≡ Operation (Op.Open a)) × (reclaims a.claim ≡ true)) ⊎ ((a : Lock) × (i ≡ Operation (Op.Lock a)) × (a.reclaim ≡ true))
Reason s x i S.NotSupp = ((a : Open) × (i ≡ Operation (Op.Open a)) × (is_delegated a.claim ≡ true)) ⊎ ((op : Op) × (i ≡ Operation op) × (stands_alone op ≡ true))
Reason s x i S.NotSame = ((a : Attributes) × (i ≡ Operation (Op.Verify a)) × (has : List ℕ) × AreValues s x a has × (a.attr_vals ≢ has))
    ⊎ ((a : ReadDir) × (i ≡ Operation (Op.ReadDir a)) × (a.cookieverf ≢ replicate 8 0))
Reason s x i S.Same = (a : Attributes) × (i ≡ Operation (Op.NVerify a)) × AreValues s x a a.attr_vals
Reason s x i S.SequencePos = (a : Sequence) × (i ≡ Operation (Op.Sequence a))
Reason s x i S.CompleteAlready = i ≡ Operation (Op.ReclaimComplete false)
Reason s x i S.Inval = IsInvalid s x i
Reason s x i S.ServerFault = IsSpent s
Reason s x i S.AttrNotSupp = IsUnknown s i
Reason s x i S.BadOwner = NamesNobody i
Reason s x i S.BadXdr = (a : Attributes) × (given_in i ≡ Some a) × (values_in a ≡ None)
Reason s x i S.TooSmall = ((a : ReadDir) × (i ≡ Operation (Op.ReadDir a)) × (a.maxcount < shortest)) ⊎ LeavesNoEntry s x i
Reason s x i status = ⊥

-- What NFS4_OK says.

-- all rights that are needed are granted
abbrev pub IsGranted : State → Context → Item → Type 0
IsGranted s x i = (n : ℕ) (rights : List Right) → Needs s x i n rights → (right : Right) → In right rights → (r : Rights) → rights_at s.tree n ≡ Some r → Grants r x.who right

-- what is set is the caller's to set, and for the server's own time the caller may write or owns
abbrev pub IsSet : State → Context → SetAttr → Type 0
IsSet s x a = (n : ℕ) (r : Rights) (w : Wanted) → x.current ≡ Some n → rights_at s.tree n ≡ Some r → attributes_in a.obj_attributes ≡ Ok w
    → MaySet s.tree.profile x.who r w × (Touches w → Owns x.who r ⊎ Grants r x.who Writes)

-- a guarded create found the name free
abbrev pub WasFree : State → Context → Open → Type 0
WasFree s x a = (n : ℕ) (name : List ℕ) → a.claim ≡ Null name → makes_by a.openhow ≡ Some None → x.current ≡ Some n → object_named s.tree n name ≡ None

abbrev pub Granted : State → Context → Item → Type 0
Granted s x (Operation (Op.Lookup name)) = IsGranted s x (Operation (Op.Lookup name))
Granted s x (Operation (Op.Remove name)) = IsGranted s x (Operation (Op.Remove name))
Granted s x (Operation (Op.Rename a)) = IsGranted s x (Operation (Op.Rename a))
Granted s x (Operation (Op.Open a)) = WasFree s x a
Granted s x (Operation (Op.SetAttr a)) = IsSet s x a
Granted s x item = Unit {0}

-- A refusal has its reason, and what is answered NFS4_OK was granted.
pub record IsAnswered (s : State) (x : Context) (i : Item) (status : Status) : Type 0 where
  pub refused : is_ok status ≡ false → Reason s x i status
  pub granted : is_ok status ≡ true → Granted s x i

-- How many bytes a result may have at most: those that are asked for, or as many as the longest link, lock owner or attributes have.
abbrev pub shorter : ℕ → ℕ
shorter count = if nat_lt most_transfer count then most_transfer else count

abbrev pub room_of : Item → ℕ
room_of (Operation (Op.GetAttr words)) = 640
room_of (Operation (Op.Lock a)) = 1064
room_of (Operation (Op.LockT a)) = 1064
room_of (Operation (Op.Read a)) = 16 + (shorter a.count + padding (shorter a.count))
room_of (Operation (Op.ReadDir a)) = 8 + shorter a.maxcount
room_of (Operation Op.ReadLink) = 1036
room_of (Operation (Op.TestStateid given)) = 12 + 4 * length given
room_of item = 128

-- It was not tried: the reply has no room for its result and the 12 bytes of a refusal behind it, or memory was refused to it. The bytes of a
-- WRITE are refused with NFS4ERR_NOSPC then in the profile `unix`, all else with NFS4ERR_DELAY.
abbrev pub is_full : State → Item → Bool
is_full s (Operation (Op.Write a)) = is_unix s.tree.profile
is_full s item = false

abbrev pub is_cut : State → Item → Status → Bool
is_cut s i S.RepTooBig = true
is_cut s i S.Delay = not (is_full s i)
is_cut s i S.NoSpc = is_full s i
is_cut s i status = false

abbrev pub LacksRoom : RanOp → Type 0
LacksRoom d = d.limit < d.sofar + room_of d.item + 12

pub record IsSaid (d : RanOp) (op : Op) : Type 0 where
  pub room : d.status ≡ S.RepTooBig → LacksRoom d
  pub memory : d.status ≡ lacks_at d.before.store (Operation op) → d.refused ≡ true
  -- the client's record says that its reclaim is complete
  pub reclaimed : (one : Bool) → op ≡ Op.ReclaimComplete one → d.status ≡ S.CompleteAlready → has_reclaimed d.before.clients d.context.client ≡ true
  pub answered : is_cut d.before.store (Operation op) d.status ≡ false → IsAnswered d.before.store d.context (Operation op) d.status

-- An operation that ran, or what could not be read, whose fault is the status.
abbrev pub SaysSo : RanOp → Item → Type 0
SaysSo d (Operation op) = IsSaid d op
SaysSo d (Fault n status) = (d.status ≡ status) ⊎ ((d.status ≡ S.RepTooBig) × LacksRoom d)

abbrev pub AnswersSo : RanOp → Type 0
AnswersSo d = SaysSo d d.item

-- In every run of a server.
abbrev pub EachNoHasItsReason : Type 0
EachNoHasItsReason = (start : Start) (records : List Arrival) (c : Arrival) (d : RanOp) → In d (ops_of (reached start records) c) → AnswersSo d
