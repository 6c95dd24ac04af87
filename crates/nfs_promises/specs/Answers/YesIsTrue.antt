-- Each yes is true: what an operation that is answered NFS4_OK answers is so, by what the server has (RFC 8881 sections 5, 6.2.4, 8.2, 18.1, 18.2, 18.7, 18.8, 18.10 to 18.13,
-- 18.16, 18.18, 18.24 and 18.48). A table with a row for each kind of answer.
use Rattle.std.specs.Prelude.{◌≡◌, ◌≢◌, ◌⊎◌, ℕ, ◌+◌, ◌-◌, ◌==◌, ◌&&◌, ◌||◌, Bool, true, bit_and, List, [], ◌∷◌, ◌++◌, length, take, replicate, Option, Some, None, option_map, if◌then◌else◌}
use Rattle.std.specs.{List.flat_map, Fmt.decimal}
use Rattle.nfs_xdr.specs.{Limits.fhsize, Tables.In, Spelling.{number, hyper}, Text.{uint32, uint64, opaque, most}, Wire.nfstime4}
use Rattle.nfs_compound.specs.{declared.lock_args.LockT.LockT, declared.stateid.Stateid.Stateid, declared.op.Item.Item, declared.op.Item.TheVariants.Operation}
use Rattle.nfs_compound.specs.declared.op.Op.TheVariants as Op
use Rattle.nfs_compound.specs.{declared.file_args.{StableHow.TheVariants.FileSync}, declared.lock_args.{Lock.Lock, LockU.LockU}, declared.open_args.{Close.Close, Open.Open, OpenDowngrade.OpenDowngrade}}
use Rattle.nfs_compound.specs.declared.name_args.ReadDir.{ReadDir}
use Rattle.nfs_results.specs.{declared.res.Entry.Entry, declared.res.Fattr.Fattr, declared.res.OpenOk.OpenOk, declared.res.ReadDirOk.ReadDirOk, ResultCodec.FitsResult, Results.spell_result}
use Rattle.nfs_results.specs.declared.res.Res.TheVariants as Res
use Rattle.nfs_tree.specs.{declared.object.FileType.FileType, declared.object.FileType.TheVariants.{Directory}, declared.object.Object.Object, declared.row.Row.Row}
use Rattle.nfs_tree.specs.{Profile.is_unix, Object.{is_directory, is_link}, Files.{most_text, data_at, size_at, links_in, object_at, object_named}}
use Rattle.nfs_attrs.specs.{declared.mask.Mask.Mask, Mask.{has, mask_of, trimmed_words, common}, Attributes.{readable, attributes, value_at, type_number}, Wire.nfs_fh4}
use Rattle.nfs_opens.specs.{declared.records.{LockState.LockState, OpenState.OpenState}, declared.stateid.StateId.StateId, Share.{joined, share_of}, StateId.next_seqid, Table.{open_at, lock_at}}
use Rattle.nfs_names.specs.{declared.{start.Start.Start, context.Context.Context}, Attributes.{about, taken_by, space_of, space_used}, Outcome.is_ok, State.State}
use Rattle.nfs_files.specs.{Open.{access_of, deny_of}, OpenTold.claimed, Ranges.kind_of, StateIds.state_id}
use Rattle.nfs_exec.specs.Runs.Ops.{RanOp}
use Rattle.nfs_promises.specs.{Network.Endpoint.Arrival, Runs.Points.{reached, ops_of}, Permission.Permitted.{Reads, Writes, Executes, Grants, rights_of}}
use Rattle.nfs_promises.specs.Answers.{Asked.{InRange, LiesBeside, StateGiven, by_state, StandsFor, IsGiven, IsAskers, IsCurrent, IsSpecial}, Reasons.{StateTold, state_of}}

-- Locks.

-- LOCKT: no other lock owner's state holds a byte of the range so that the two clash
pub record IsFree (s : State) (x : Context) (a : LockT) : Type 0 where
  pub file : ℕ
  pub at : x.current ≡ Some file
  pub free : (l : LockState) (b : ℕ) → In l s.opens.locks → (IsAskers x (Operation (Op.LockT a)) l → ⊥) → InRange a.offset a.length b
      → LiesBeside (kind_of a.locktype) (s.opens.held file l.number b)

-- Objects.

-- the current filehandle's
pub record IsHere (s : State) (x : Context) (n : ℕ) (o : Object) : Type 0 where
  pub at : x.current ≡ Some n
  pub is : object_at s.tree n ≡ Some o

-- the filehandle of an object: GETFH gives it
abbrev pub handle_text : State → ℕ → List ℕ
handle_text s n = (nfs_fh4 (record { instance = s.opens.instance; number = n })).bytes

-- as many links as there are names; a directory has one
abbrev pub names_of : State → ℕ → Object → ℕ
names_of s n o = if is_directory o.kind then 1 else links_in s.tree.rows n

-- what the profile `unix` alone tells
abbrev pub in_unix : State → List ℕ → List ℕ
in_unix s text = if is_unix s.tree.profile then text else []

-- What an attribute of an object is. Of the others, which are the same of all objects, and of the lease, the table of attributes says it.
abbrev pub value : State → ℕ → Object → ℕ → List ℕ
value s n o k =
    if k == 1 then (uint32 (type_number o.kind)).bytes
    else if k == 3 then (uint64 o.change).bytes
    else if k == 4 then (uint64 (length (data_at s.tree n))).bytes
    else if k == 19 then (opaque fhsize (handle_text s n)).bytes
    else if k == 20 then (uint64 n).bytes
    else if k == 21 || k == 22 then in_unix s (uint64 (s.tree.limits.objects - length s.tree.objects)).bytes
    else if k == 23 then in_unix s (uint64 s.tree.limits.objects).bytes
    else if k == 33 then (uint32 o.mode).bytes
    else if k == 35 then (uint32 (names_of s n o)).bytes
    else if k == 36 then (opaque most (decimal o.owner)).bytes
    else if k == 37 then (opaque most (decimal o.group)).bytes
    else if k == 42 || k == 43 then in_unix s (uint64 (space_of s.tree.limits - space_used s.tree)).bytes
    else if k == 44 then in_unix s (uint64 (space_of s.tree.limits)).bytes
    else if k == 45 then (uint64 (taken_by s.tree.profile (size_at s.tree n))).bytes
    else if k == 47 then (nfstime4 o.access).bytes
    else if k == 52 then (nfstime4 o.metadata).bytes
    else if k == 53 then (nfstime4 o.modify).bytes
    else if k == 55 then (uint64 n).bytes
    else value_at attributes k (about s (record { number = n; object = o })) o

-- attributes in rising order of their numbers
abbrev pub numbers : List ℕ
numbers = 0 ∷ 1 ∷ 2 ∷ 3 ∷ 4 ∷ 5 ∷ 6 ∷ 7 ∷ 8 ∷ 9 ∷ 10 ∷ 11 ∷ 19 ∷ 20 ∷ 21 ∷ 22 ∷ 23 ∷ 27 ∷ 28 ∷ 29 ∷ 30 ∷ 31 ∷ 33 ∷ 35 ∷ 36 ∷ 37 ∷ 42 ∷ 43 ∷ 44 ∷ 45 ∷ 47 ∷ 48 ∷ 51 ∷ 52 ∷ 53 ∷ 54 ∷ 55 ∷ 75 ∷ []

-- those that are asked for, each with its value, one behind the other
abbrev pub attributes_told : State → ℕ → Object → Mask → Fattr
attributes_told s n o asked = record {
  attrmask = trimmed_words (common asked (readable s.tree.profile));
  attr_vals = flat_map (λ k. if has asked k then value s n o k else []) numbers;
}

-- GETATTR: the current object's
pub record AreTold (s : State) (x : Context) (asked : Mask) (result : List ℕ) : Type 0 where
  pub number : ℕ
  pub object : Object
  pub here : IsHere s x number object
  pub told : result ≡ spell_result (Res.GetAttr (attributes_told s number object asked))

-- READDIR: each entry is of a row of the directory, and has the attributes of the row's object
pub record IsEntry (s : State) (directory : ℕ) (asked : Mask) (e : Entry) : Type 0 where
  pub row : Row
  pub there : In row s.tree.rows
  pub within : row.directory ≡ directory
  pub name : e.name ≡ row.name
  pub cookie : e.cookie ≡ row.cookie
  pub object : Object
  pub is : object_at s.tree row.object ≡ Some object
  pub attrs : e.attrs ≡ attributes_told s row.object object asked

abbrev pub ListsTruly : State → Context → ReadDir → List ℕ → Type 0
ListsTruly s x a result = (told : ReadDirOk) (n : ℕ) → FitsResult (Res.ReadDir told) → result ≡ spell_result (Res.ReadDir told) → x.current ≡ Some n
    → (e : Entry) → In e told.entries → IsEntry s n (mask_of a.attr_request) e

-- READLINK: the bytes of the link, of which there are no more
pub record IsText (s : State) (x : Context) (result : List ℕ) : Type 0 where
  pub number : ℕ
  pub object : Object
  pub here : IsHere s x number object
  pub link : is_link object.kind ≡ true
  pub told : result ≡ spell_result (Res.ReadLink (take most_text (data_at s.tree number)))

-- ACCESS: READ is 1, LOOKUP 2, MODIFY 4, EXTEND 8, DELETE 16 and EXECUTE 32. A directory's entries are changed by whoever may write and execute.
abbrev pub bits : FileType → (reads writes executes : Bool) → ℕ
bits Directory reads writes executes = (if reads then 1 else 0) + (if executes then 2 else 0) + (if writes && executes then 0x1c else 0)
bits kind reads writes executes = (if reads then 1 else 0) + (if writes then 0xc else 0) + (if executes then 0x20 else 0)

abbrev pub Decides : Bool → Type 0 → Type 0
Decides b P = (b ≡ true → P) × (P → b ≡ true)

pub record IsJudged (s : State) (x : Context) (asked : ℕ) (result : List ℕ) : Type 0 where
  pub number : ℕ
  pub object : Object
  pub here : IsHere s x number object
  pub reads : Bool
  pub writes : Bool
  pub executes : Bool
  pub may_read : Decides reads (Grants (rights_of object) x.who Reads)
  pub may_write : Decides writes (Grants (rights_of object) x.who Writes)
  pub may_execute : Decides executes (Grants (rights_of object) x.who Executes)
  pub told : result ≡ spell_result (Res.Access (record {
    supported = bit_and asked (bits object.kind true true true);
    access = bit_and asked (bits object.kind reads writes executes);
  }))

-- Stateids.

-- it names a state of the client, with any seqid or with the state's
pub record Stands (s : State) (x : Context) (given : Stateid) : Type 0 where
  pub current : IsCurrent (state_id given) → ⊥
  pub special : IsSpecial (state_id given) → ⊥
  pub state : StateTold
  pub names : state_of s.opens (state_id given) ≡ Some state
  pub client : state.client ≡ x.client
  pub seqid : (given.seqid ≡ 0) ⊎ (given.seqid ≡ state.seqid)

-- TEST_STATEID: a code for each stateid, which is 0 just where it stands
abbrev pub AreTested : State → Context → List Stateid → List ℕ → Type 0
AreTested s x [] [] = Unit {0}
AreTested s x (given ∷ more) (code ∷ codes) = (code ≡ 0 → Stands s x given) × (Stands s x given → code ≡ 0) × AreTested s x more codes
AreTested s x given codes = ⊥

-- What was done, in the state behind the operation, and the stateid that tells it.

-- the stateid of a state: its seqid, the start of the server and the state's number
abbrev pub stateid_of : State → (seqid n : ℕ) → Stateid
stateid_of t seqid n = record { seqid = seqid; other = number t.opens.instance ++ hyper n }

-- the seqid that a change gives a state: the one behind what it had, or 1
abbrev pub risen : Option ℕ → ℕ
risen None = 1
risen (Some seqid) = next_seqid seqid

abbrev pub open_risen : State → ℕ → ℕ
open_risen s n = risen (option_map (λ (o : OpenState). o.seqid) (open_at s.opens n))

abbrev pub lock_risen : State → ℕ → ℕ
lock_risen s n = risen (option_map (λ (l : LockState). l.seqid) (lock_at s.opens n))

-- what is asked for is joined to what the owner had of the file, under the same number
pub data HasJoined (s : State) (a : Open) (o : OpenState) : Type 0 where
  First : ((p : OpenState) → In p s.opens.opens → p.client ≡ o.client → p.owner ≡ o.owner → p.file ≡ o.file → ⊥) → o.access ≡ access_of a → o.deny ≡ deny_of a → HasJoined s a o
  More : (p : OpenState) → In p s.opens.opens → p.number ≡ o.number → o.access ≡ joined p.access (access_of a) → o.deny ≡ joined p.deny (deny_of a) → HasJoined s a o

-- OPEN: an open of the client and the owner, of the file that the claim then leads to
pub record OpensTruly (s : State) (x : Context) (a : Open) (result : List ℕ) (t : State) : Type 0 where
  pub state : OpenState
  pub there : In state t.opens.opens
  pub client : state.client ≡ x.client
  pub owner : state.owner ≡ a.owner.owner
  pub file : claimed t.tree x a.claim ≡ Some state.file
  pub bits : HasJoined s a state
  pub seqid : state.seqid ≡ open_risen s state.number
  pub answer : OpenOk
  pub told : result ≡ spell_result (Res.Open answer)
  pub stateid : answer.stateid ≡ stateid_of t state.seqid state.number

-- OPEN_DOWNGRADE: the open that is given has what is asked for, and no more
pub record NarrowsTruly (s : State) (x : Context) (a : OpenDowngrade) (result : List ℕ) (t : State) : Type 0 where
  pub state : OpenState
  pub there : In state t.opens.opens
  pub client : state.client ≡ x.client
  pub file : x.current ≡ Some state.file
  pub given : IsGiven x (Operation (Op.OpenDowngrade a)) state.number
  pub access : share_of a.share_access ≡ Some state.access
  pub deny : share_of a.share_deny ≡ Some state.deny
  pub seqid : state.seqid ≡ open_risen s state.number
  pub told : result ≡ spell_result (Res.OpenDowngrade (stateid_of t state.seqid state.number))

-- CLOSE: the open that is given does not stand, and what is told names none
abbrev pub IsClosed : Context → Close → State → Type 0
IsClosed x a t = (k : StateGiven) (id : StateId) → by_state (Operation (Op.Close a)) ≡ Some k → StandsFor x k id → (o : OpenState) → In o t.opens.opens → o.number ≢ id.number

abbrev pub ClosesTruly : Context → Close → List ℕ → State → Type 0
ClosesTruly x a result t = IsClosed x a t × (result ≡ spell_result (Res.Close (record { seqid = 0xffff_ffff; other = replicate 12 0 })))

-- LOCK: the asker's lock state on the current file holds each byte of the range in the way that is asked for
pub record LocksTruly (s : State) (x : Context) (a : Lock) (result : List ℕ) (t : State) : Type 0 where
  pub state : LockState
  pub there : In state t.opens.locks
  pub own : IsAskers x (Operation (Op.Lock a)) state
  pub file : x.current ≡ Some state.file
  pub holds : (b : ℕ) → InRange a.offset a.length b → t.opens.held state.file state.number b ≡ Some (kind_of a.locktype)
  pub seqid : state.seqid ≡ lock_risen s state.number
  pub told : result ≡ spell_result (Res.Lock (stateid_of t state.seqid state.number))

-- LOCKU: the lock state that is given holds no byte of the range
abbrev pub HoldsNone : Context → LockU → State → Type 0
HoldsNone x a t = (k : StateGiven) (id : StateId) (file b : ℕ) → by_state (Operation (Op.LockU a)) ≡ Some k → StandsFor x k id → x.current ≡ Some file → InRange a.offset a.length b
    → t.opens.held file id.number b ≡ None

pub record UnlocksTruly (s : State) (x : Context) (a : LockU) (result : List ℕ) (t : State) : Type 0 where
  pub state : LockState
  pub there : In state t.opens.locks
  pub client : state.client ≡ x.client
  pub file : x.current ≡ Some state.file
  pub given : IsGiven x (Operation (Op.LockU a)) state.number
  pub free : HoldsNone x a t
  pub seqid : state.seqid ≡ lock_risen s state.number
  pub told : result ≡ spell_result (Res.LockU (stateid_of t state.seqid state.number))

-- what marks a start of the server off from others, in WRITE and in COMMIT
abbrev pub verifier : State → List ℕ
verifier s = number s.opens.instance ++ replicate 4 0

-- The table of answers: by the state before the operation and the one behind it.
abbrev pub IsTrueOf : State → Context → Item → List ℕ → State → Type 0
IsTrueOf s x (Operation (Op.Access asked)) result t = IsJudged s x asked result
IsTrueOf s x (Operation (Op.Close a)) result t = ClosesTruly x a result t
IsTrueOf s x (Operation (Op.Commit a)) result t = result ≡ spell_result (Res.Commit (verifier s))
IsTrueOf s x (Operation (Op.GetAttr words)) result t = AreTold s x (mask_of words) result
IsTrueOf s x (Operation Op.GetFh) result t = (n : ℕ) × (x.current ≡ Some n) × (result ≡ spell_result (Res.GetFh (handle_text s n)))
IsTrueOf s x (Operation (Op.Lock a)) result t = LocksTruly s x a result t
IsTrueOf s x (Operation (Op.LockT a)) result t = IsFree s x a
IsTrueOf s x (Operation (Op.LockU a)) result t = UnlocksTruly s x a result t
IsTrueOf s x (Operation (Op.Lookup name)) result t = (directory : ℕ) × (n : ℕ) × (x.current ≡ Some directory) × (object_named s.tree directory name ≡ Some n)
IsTrueOf s x (Operation (Op.Open a)) result t = OpensTruly s x a result t
IsTrueOf s x (Operation (Op.OpenDowngrade a)) result t = NarrowsTruly s x a result t
IsTrueOf s x (Operation (Op.ReadDir a)) result t = ListsTruly s x a result
IsTrueOf s x (Operation Op.ReadLink) result t = IsText s x result
IsTrueOf s x (Operation (Op.TestStateid given)) result t = (codes : List ℕ) × AreTested s x given codes × (result ≡ spell_result (Res.TestStateid codes))
IsTrueOf s x (Operation (Op.Write a)) result t = result ≡ spell_result (Res.Write (record { count = length a.bytes; committed = FileSync; writeverf = verifier s }))
IsTrueOf s x item result t = Unit {0}

-- an operation that ran
abbrev pub TellsSo : RanOp → Type 0
TellsSo d = is_ok d.status ≡ true → IsTrueOf d.before.store d.context d.item d.result d.behind.store

-- In every run of a server.
abbrev pub EachYesIsTrue : Type 0
EachYesIsTrue = (start : Start) (records : List Arrival) (c : Arrival) (d : RanOp) → In d (ops_of (reached start records) c) → TellsSo d

-- A LOOKUP makes the object of the name the current one, for the operation behind it.
abbrev pub LookupLeads : Type 0
LookupLeads = (start : Start) (records : List Arrival) (c : Arrival) (front back : List RanOp) (d e : RanOp) (name : List ℕ) (directory : ℕ)
    → ops_of (reached start records) c ≡ front ++ d ∷ e ∷ back → d.item ≡ Operation (Op.Lookup name) → d.context.current ≡ Some directory
    → e.context.current ≡ object_named d.before.store.tree directory name
