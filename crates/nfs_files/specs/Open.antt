-- OPEN (RFC 8881 section 18.16): a file is opened, and is made where that is asked for and the name is free.
use Rattle.std.specs.Prelude.{ℕ, ◌+◌, ◌==◌, ◌%◌, ◌&&◌, Bool, true, false, not, List, [], ◌∷◌, ◌++◌, bytes_eq, Option, Some, None, is_none}
use Rattle.std.specs.{Prelude.{nat_lt, unwrap_or, Result, Ok, Err, if◌then◌else◌}, List.list_any, Option.option_map_or}
use Rattle.nfs_xdr.specs.{declared.time.Time.Time, declared.status.Status.Status}
use Rattle.nfs_xdr.specs.declared.status.Status.TheVariants.{Inval, NoGrace, NotSupp, NoEnt, Exist, FBig, ShareDenied, ServerFault}
use Rattle.nfs_compound.specs.declared.op_num.OpNum.TheVariants as Num
use Rattle.nfs_compound.specs.{declared.attributes.Attributes.Attributes, declared.open_args.Open.Open, declared.open_args.OpenHow.OpenHow}
use Rattle.nfs_compound.specs.declared.open_args.OpenHow.TheVariants.{NoCreate, Create}
use Rattle.nfs_compound.specs.{declared.open_args.CreateHow.TheVariants.{Unchecked, Guarded, Exclusive, Exclusive41}, declared.open_args.OpenClaim.OpenClaim}
use Rattle.nfs_compound.specs.declared.open_args.OpenClaim.TheVariants.{Null, Previous, Fh}
use Rattle.nfs_results.specs.declared.res.ChangeInfo.{ChangeInfo}
use Rattle.nfs_results.specs.declared.res.Res.TheVariants as Res
use Rattle.nfs_tree.specs.{declared.sets.Sets.Sets, declared.profile.Profile.Profile, declared.profile.Profile.TheVariants.{Exact, Unix}}
use Rattle.nfs_tree.specs.{Files.{Files, object_named, can_change, raised, unraised}, Create.{New, new_file, with_new}, Bytes.with_resized}
use Rattle.nfs_attrs.specs.{declared.wanted.Wanted.Wanted, Mask.{mask_of, trimmed_words}, SetId.made_in, Setting.make_checks, Permissions.{execute, write}}
use Rattle.nfs_opens.specs.{declared.share.Share.Share, Share.{neither, share_of}, StateId.last_number, Table.{Asked, clashes_with}, Opening.{own_open, opens}}
use Rattle.nfs_opens.specs.Steps.{require, in_order, ◌>>=◌, ◌>>◌}
use Rattle.nfs_names.specs.{declared.context.Context.Context, declared.node.Node.Node, declared.making.Making.Making, State.State}
use Rattle.nfs_names.specs.{Outcome.{Outcome, or_refusal}, Checks.{node_at, current, no_directory, no_access, name_checks}}
use Rattle.nfs_names.specs.Create.{attributes_in, change_info}
use Rattle.nfs_names.specs.Create as create
use Rattle.nfs_files.specs.{declared.opening.Found.Found, declared.opening.Found.TheVariants.{There, Absent}, StateIds.wire_id, Bytes.{file_checks, no_use, behind_sets}}

-- The two low bits of the access asked for: those above them wish for delegations, and none is given.
abbrev pub access_of : Open → Share
access_of o = unwrap_or (share_of (o.share_access % 4)) neither

abbrev pub deny_of : Open → Share
deny_of o = unwrap_or (share_of o.share_deny) neither

-- What is asked for (openflag4, createhow4): whether a file is made where the name is free, whether one that is there is opened, by the verifier
-- that it was made with, and whether it may be cut; and with what verifier and which attributes it is made.
pub record Makes : Type 0 where
  pub creates : Bool
  pub opens : Option (List ℕ) → Bool
  pub cuts : Bool
  pub verifier : Option (List ℕ)
  pub attributes : Attributes

abbrev pub no_attributes : Attributes
no_attributes = record { attrmask = []; attr_vals = [] }

-- an exclusive create opens the file that it made before
abbrev pub is_made_by : List ℕ → Option (List ℕ) → Bool
is_made_by verifier made = option_map_or (bytes_eq verifier) made false

abbrev pub makes : OpenHow → Makes
makes NoCreate = record { creates = false; opens = λ made. true; cuts = false; verifier = None; attributes = no_attributes }
makes (Create (Unchecked a)) = record { creates = true; opens = λ made. true; cuts = true; verifier = None; attributes = a }
makes (Create (Guarded a)) = record { creates = true; opens = λ made. false; cuts = false; verifier = None; attributes = a }
makes (Create (Exclusive v)) = record { creates = true; opens = is_made_by v; cuts = false; verifier = Some v; attributes = no_attributes }
makes (Create (Exclusive41 v a)) = record { creates = true; opens = is_made_by v; cuts = false; verifier = Some v; attributes = a }

-- the name of the file, which a claim by filehandle does not have
abbrev pub name_of : OpenClaim → List ℕ
name_of (Null file) = file
name_of claim = []

-- whether an object that is there may be opened
abbrev pub there_checks : Files → Context → Open → Node → List (Bool × Status)
there_checks t x o f =
    (not ((makes o.openhow).opens f.object.verifier), Exist)
    ∷ file_checks f
    ++ no_use t x f (access_of o)
    ∷ []

-- Size 0 cuts a file that is opened for writing, and nothing else is set of a file that is there.
abbrev pub cuts : Open → Wanted → Bool
cuts o wanted = (makes o.openhow).cuts && (option_map_or (λ n. n == 0) wanted.size false && (access_of o).writes)

-- what is to be opened: where the name is free a file that may be made, else the one that is there, and the object of which the change is reported
abbrev pub found_by : State → Context → Open → Making → Option ℕ → Result Found Status
found_by s x o m None = do
  in_order ((not (makes o.openhow).creates, NoEnt) ∷ no_access x m.place write ∷ make_checks m.wanted x.who)
  Ok (Absent m)
found_by s x o m (Some n) = do
  f ← node_at s (Some n)
  in_order (there_checks s.tree x o f)
  Ok (There m.place.number f (cuts o m.wanted))

-- The claims (open_claim4): the file of a filehandle is not made, nothing is there to be reclaimed, and nothing is delegated.
abbrev pub by_claim : State → Context → Open → OpenClaim → Node → Result Found Status
by_claim s x o (Null name) d = do
  in_order (no_directory d ∷ no_access x d execute ∷ name_checks name)
  wanted ← attributes_in (makes o.openhow).attributes
  found_by s x o (record { place = d; wanted = wanted }) (object_named s.tree d.number name)
by_claim s x o Fh d = do
  require (not (makes o.openhow).creates) Inval
  in_order (there_checks s.tree x o d)
  Ok (There d.number d false)
by_claim s x o (Previous type) d = Err NoGrace
by_claim s x o claim d = Err NotSupp

-- the number of the file: the next one, if it is to be made
abbrev pub file_of : Files → Found → ℕ
file_of t (There place f cut) = f.number
file_of t (Absent m) = t.last_object + 1

abbrev pub asking : Context → Open → ℕ → Asked
asking x o file = record { client = x.client; owner = o.owner.owner; file = file; access = access_of o; deny = deny_of o }

-- what a new file is, with the verifier for good: rw-r--r-- where no mode is given (profile), and the caller's own
abbrev pub new_of : Open → Wanted → New
new_of o wanted = new_file (unwrap_or wanted.size 0) (makes o.openhow).verifier

abbrev pub sets_of : Context → Time → Open → Wanted → Sets
sets_of x now o wanted = record (create.sets_of x now (new_of o wanted) wanted) { mode = Some (unwrap_or wanted.mode 420) }

-- the same of a file that is made in a directory, by the profile
abbrev pub made_sets : Files → Context → Time → Open → Making → Sets
made_sets t x now o m = sets_of x now o (made_in t.profile m.place.object.mode m.place.object.group x.who false 420 m.wanted)

-- last the share reservations, whether there is room and what changes can be counted, and whether a number is left for a new open
abbrev pub room_checks : Files → Found → List (Bool × Status)
room_checks t (There place f cut) = (cut && not (can_change t f.number), ServerFault) ∷ []
room_checks t (Absent m) = (nat_lt t.limits.bytes (unwrap_or m.wanted.size 0), FBig) ∷ create.room_checks t m.place.number

abbrev pub last_checks : State → Context → Open → Found → List (Bool × Status)
last_checks s x o found =
    (list_any (clashes_with (asking x o (file_of s.tree found))) s.opens.opens, ShareDenied)
    ∷ room_checks s.tree found
    ++ (is_none (own_open s.opens (asking x o (file_of s.tree found))) && (s.opens.last == last_number), ServerFault)
    ∷ []

abbrev pub tree_of : Files → Context → Time → Open → Found → Files
tree_of t x now o (There place f cut) = if cut then with_resized t f.number 0 (behind_sets t x f) now else t
tree_of t x now o (Absent m) = with_new t m.place.number (name_of o.claim) (new_of o m.wanted) (made_sets t x now o m) now

abbrev pub info_of : Files → Found → ChangeInfo
info_of t (There place f cut) = change_info (unraised t place)
info_of t (Absent m) = change_info (raised t m.place.number)

-- the attributes that were set, of which 4 is the size
abbrev pub set_of : Open → Found → List ℕ
set_of o (There place f cut) = if cut then 0x10 ∷ [] else []
set_of o (Absent m) = trimmed_words (mask_of (makes o.openhow).attributes.attrmask)

-- OPEN4_RESULT_LOCKTYPE_POSIX (4), and in `exact` OPEN4_RESULT_PRESERVE_UNLINKED (8). In `unix` nothing is promised of a file without a name, which goes with
-- the opens of a lease that has run out: so a client keeps a name of its own for it.
abbrev pub result_flags : Profile → ℕ
result_flags Exact = 12
result_flags Unix = 4

abbrev pub opened : State → Context → Time → Open → Found → Outcome
opened s x now o found =
    let file = file_of s.tree found in
    let did = opens s.opens (asking x o file) in
    record {
      result = Res.Open (record { stateid = wire_id did.id; cinfo = info_of s.tree found; rflags = result_flags s.tree.profile; attrset = set_of o found });
      state = record s { tree = tree_of s.tree x now o found; opens = did.after };
      context = record x { current = Some file; stateid = wire_id did.id };
    }

unfoldable pub open_file : State → Context → Time → Open → Outcome
open_file s x now o = or_refusal s x Num.Open (do
  d ← current s x
  in_order ((o.share_access % 4 == 0, Inval) ∷ (is_none (share_of o.share_deny), Inval) ∷ [])
  found ← by_claim s x o o.claim d
  in_order (last_checks s x o found)
  Ok (opened s x now o found))
