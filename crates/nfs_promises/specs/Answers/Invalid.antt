-- What can be done of nothing that is there: names of no bytes, ranges that end behind the last byte, shares of no access, attributes that the server does not have, that
-- cannot be set or have no such values; and counters that are at their end (RFC 8881 sections 5.5, 5.6, 15.1, 18.10, 18.16, 18.18, 18.23, 18.26 and 18.31).
use Rattle.std.specs.Prelude.{◌≡◌, ◌≢◌, ◌⊎◌, ℕ, ◌+◌, ◌%◌, ◌<◌, ◌≤◌, true, false, List, [], ◌∷◌, length, Option, Some, None, is_some}
use Rattle.nfs_xdr.specs.{Limits.most_transfer, declared.time.Time.Time}
use Rattle.nfs_compound.specs.{declared.attributes.Attributes.Attributes, declared.op.{Item.Item, Item.TheVariants.Operation}}
use Rattle.nfs_compound.specs.declared.op.Op.TheVariants as Op
use Rattle.nfs_compound.specs.declared.name_args.{ReadDir.ReadDir, Rename.Rename, CreateType.TheVariants.Symlink}
use Rattle.nfs_compound.specs.declared.name_args.Create as args
use Rattle.nfs_compound.specs.declared.open_args.{Open.Open, OpenDowngrade.OpenDowngrade, OpenClaim.TheVariants.Fh}
use Rattle.nfs_results.specs.{declared.res.Entry.Entry, Straight.entry_text}
use Rattle.nfs_tree.specs.{declared.object.Object.Object, declared.profile.Profile.TheVariants.{Exact, Unix}, Files.{root, last_count, is_directory_at, object_at, object_named}, Walks.walk}
use Rattle.nfs_attrs.specs.{declared.set_time.SetTime.TheVariants.Given, Attributes.{Settings, settable, supported, values}, Mask.{has, mask_of, within}, Owner.owner_of, SettingsCodec.settings_of}
use Rattle.nfs_opens.specs.{declared.records.OpenState.OpenState, declared.stateid.StateId.StateId, Share.{is_neither, is_part}, StateId.last_number, Table.open_at}
use Rattle.nfs_names.specs.{declared.{context.Context.Context, context.Saved.Saved, node.Node.Node}, Attributes.about, Create.attributes_in, ReadDir.left, State.State}
use Rattle.nfs_files.specs.OpenDowngrade.{bits}
use Rattle.nfs_promises.specs.Answers.Asked.{Gives, Range, locked, StateGiven, by_state, StandsFor, attributes_of, creates, size_in}

-- Bytes and shares.

-- the bytes that are to be locked, asked for or unlocked
abbrev pub ranged : Item → Option Range
ranged (Operation (Op.LockU a)) = Some (record { type = a.locktype; offset = a.offset; size = a.length })
ranged item = locked item

-- there are none, or there is none so far behind
pub record IsNoRange (i : Item) : Type 0 where
  pub range : Range
  pub is : ranged i ≡ Some range
  pub none : (range.size ≡ 0) ⊎ ((range.size ≢ 0xffff_ffff_ffff_ffff) × (0xffff_ffff_ffff_ffff < range.offset + range.size))

-- An OPEN for neither reading nor writing, or with another deny than the four; an OPEN_DOWNGRADE to no access, to other bits, or to some that the open lacks.
pub data IsNoShare (s : State) (x : Context) (i : Item) : Type 0 where
  ToOpen : (a : Open) → i ≡ Operation (Op.Open a) → (a.share_access % 4 ≡ 0) ⊎ (3 < a.share_deny) → IsNoShare s x i
  ToNarrow : (a : OpenDowngrade) → i ≡ Operation (Op.OpenDowngrade a) → (3 < a.share_access) ⊎ (3 < a.share_deny) → IsNoShare s x i
  Widens : (a : OpenDowngrade) (k : StateGiven) (id : StateId) (o : OpenState) → i ≡ Operation (Op.OpenDowngrade a) → by_state i ≡ Some k → StandsFor x k id
      → open_at s.opens id.number ≡ Some o
      → (is_neither (bits a.share_access) ≡ true) ⊎ ((is_part (bits a.share_access) o.access ≡ false) ⊎ (is_part (bits a.share_deny) o.deny ≡ false)) → IsNoShare s x i

-- Attributes.

-- those that are given to be set, those that are to be compared, and those that are asked for
abbrev pub given_in : Item → Option Attributes
given_in (Operation (Op.Create c)) = Some c.createattrs
given_in (Operation (Op.Open a)) = Some (attributes_of a.openhow)
given_in (Operation (Op.SetAttr a)) = Some a.obj_attributes
given_in item = None

abbrev pub compared : Item → Option Attributes
compared (Operation (Op.Verify a)) = Some a
compared (Operation (Op.NVerify a)) = Some a
compared item = None

abbrev pub asked_for : Item → Option (List ℕ)
asked_for (Operation (Op.GetAttr words)) = Some words
asked_for (Operation (Op.ReadDir a)) = Some a.attr_request
asked_for item = None

-- the values that the bytes are, if they are any
abbrev pub values_in : Attributes → Option Settings
values_in a = settings_of (mask_of a.attrmask) a.attr_vals

-- one that no attribute has: a time with more nanoseconds than a second has, or a mode of more than twelve bits
pub data IsNoValue (v : Settings) : Type 0 where
  Accessed : (t : Time) → v.access ≡ Some (Given t) → 999999999 < t.nanoseconds → IsNoValue v
  Modified : (t : Time) → v.modify ≡ Some (Given t) → 999999999 < t.nanoseconds → IsNoValue v
  Mode : (mode : ℕ) → v.mode ≡ Some mode → 4095 < mode → IsNoValue v

-- an owner or a group that is no number
pub record NamesNobody (i : Item) : Type 0 where
  pub given : Attributes
  pub is : given_in i ≡ Some given
  pub set : Settings
  pub read : values_in given ≡ Some set
  pub text : List ℕ
  pub of : (set.owner ≡ Some text) ⊎ (set.group ≡ Some text)
  pub nobody : owner_of text ≡ None

-- an attribute that the server has in no profile is given, or one is compared that it does not have
abbrev pub IsUnknown : State → Item → Type 0
IsUnknown s i = ((a : Attributes) × (given_in i ≡ Some a) × (within (mask_of a.attrmask) (supported Exact) ≡ false))
    ⊎ ((a : Attributes) × (compared i ≡ Some a) × (within (mask_of a.attrmask) (supported s.tree.profile) ≡ false))

-- the values of the current object under a mask
pub record AreValues (s : State) (x : Context) (a : Attributes) (text : List ℕ) : Type 0 where
  pub node : Node
  pub at : x.current ≡ Some node.number
  pub there : object_at s.tree node.number ≡ Some node.object
  pub are : text ≡ values (mask_of a.attrmask) (about s node) node.object

-- What is invalid.

-- RENAME would move a directory ..
pub record MovesDirectory (s : State) (x : Context) (i : Item) : Type 0 where
  pub asked : Rename
  pub is : i ≡ Operation (Op.Rename asked)
  pub saved : Saved
  pub directory : ℕ
  pub source : x.saved ≡ Some saved
  pub target : x.current ≡ Some directory
  pub moved : ℕ
  pub old : object_named s.tree saved.object asked.oldname ≡ Some moved
  pub kind : is_directory_at s.tree moved ≡ true

-- .. to a place that is reached from it
pub record IsBelow (s : State) (x : Context) (i : Item) : Type 0 where
  pub moves : MovesDirectory s x i
  pub names : List (List ℕ)
  pub leads : walk s.tree.rows moves.moved names ≡ Some moves.directory

-- .. in unix from elsewhere to a place that takes more than 2,048 names to reach
pub record IsTooDeep (s : State) (x : Context) (i : Item) : Type 0 where
  pub moves : MovesDirectory s x i
  pub unix : s.tree.profile ≡ Unix
  pub other : moves.saved.object ≢ moves.directory
  pub far : (names : List (List ℕ)) → walk s.tree.rows root names ≡ Some moves.directory → 2048 < length names

pub data IsInvalid (s : State) (x : Context) (i : Item) : Type 0 where
  NoName : Gives i [] → IsInvalid s x i
  NoText : (c : args.Create) → i ≡ Operation (Op.Create c) → c.objtype ≡ Symlink [] → IsInvalid s x i
  NoRange : IsNoRange i → IsInvalid s x i
  NoShare : IsNoShare s x i → IsInvalid s x i
  -- the file of a filehandle would be made, and the size of what is no file be set
  ByHandle : (a : Open) → i ≡ Operation (Op.Open a) → a.claim ≡ Fh → creates a.openhow ≡ true → IsInvalid s x i
  Sized : (c : args.Create) → i ≡ Operation (Op.Create c) → is_some (size_in (attributes_in c.createattrs)) ≡ true → IsInvalid s x i
  Below : IsBelow s x i → IsInvalid s x i
  -- an attribute cannot be set, or has no such value
  Fixed : (a : Attributes) → given_in i ≡ Some a → within (mask_of a.attrmask) settable ≡ false → IsInvalid s x i
  NoValue : (a : Attributes) (v : Settings) → given_in i ≡ Some a → values_in a ≡ Some v → IsNoValue v → IsInvalid s x i
  -- one that can only be set is asked for or compared, or the error of a listing's entry is compared
  Unreadable : (words : List ℕ) → asked_for i ≡ Some words → (has (mask_of words) 48 ≡ true) ⊎ (has (mask_of words) 54 ≡ true) → IsInvalid s x i
  Uncompared : (a : Attributes) → compared i ≡ Some a
      → (has (mask_of a.attrmask) 11 ≡ true) ⊎ ((has (mask_of a.attrmask) 48 ≡ true) ⊎ (has (mask_of a.attrmask) 54 ≡ true)) → IsInvalid s x i

-- READDIR: the largest size has no room for a page, or not for the first entry that is left
abbrev pub shortest : ℕ
shortest = 16

pub record LeavesNoEntry (s : State) (x : Context) (i : Item) : Type 0 where
  pub asked : ReadDir
  pub is : i ≡ Operation (Op.ReadDir asked)
  pub node : Node
  pub at : x.current ≡ Some node.number
  pub there : object_at s.tree node.number ≡ Some node.object
  pub first : Entry
  pub more : List Entry
  pub are : left s asked node ≡ first ∷ more
  pub long : (asked.maxcount < length (entry_text first) + shortest) ⊎ (most_transfer < length (entry_text first) + shortest)

-- A counter is at its end: the change attribute of an object, the numbers of objects, cookies or states.
pub data IsSpent (s : State) : Type 0 where
  Change : (n : ℕ) (o : Object) → object_at s.tree n ≡ Some o → last_count ≤ o.change → IsSpent s
  Objects : last_count ≤ s.tree.last_object → IsSpent s
  Cookies : last_count ≤ s.tree.last_cookie → IsSpent s
  States : s.opens.last ≡ last_number → IsSpent s
