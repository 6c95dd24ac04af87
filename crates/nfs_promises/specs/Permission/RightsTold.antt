-- The mode, owner and group of an object are those that a CREATE or an OPEN made it with, and SETATTRs set since; and in `unix` its bits set-user-ID and
-- set-group-ID are what changes of its bytes, its owner and its group have left (RFC 8881 sections 18.4, 18.16, 18.30 and 18.32).
use Rattle.std.specs.Prelude.{◌≡◌, ◌&&◌, ℕ, Bool, false, true, List, ◌∷◌, ◌++◌, Some, Result, Ok, Err, unwrap_or, if◌then◌else◌}
use Rattle.nfs_xdr.specs.{Caller.Caller, declared.status.Status.Status}
use Rattle.nfs_compound.specs.{declared.name_args.Create.Create, declared.op.Item.Item, declared.op.Item.TheVariants.Operation, declared.open_args.Open.Open}
use Rattle.nfs_compound.specs.declared.op.Op.TheVariants as Op
use Rattle.nfs_tree.specs.{Files.{Files, root, is_there}, Object.is_directory, Bytes.has_bytes, declared.profile.Profile.Profile}
use Rattle.nfs_attrs.specs.{declared.wanted.Wanted.Wanted, SetId.{settled, mode_behind, made_in}}
use Rattle.nfs_names.specs.{declared.start.Start.Start, declared.context.Context.Context, Create.{attributes_in, new_of, plain_mode}, Outcome.is_ok}
use Rattle.nfs_files.specs.{FileImage.{is_number, claimed, asks_empty}, Open.makes}
use Rattle.nfs_exec.specs.{Runs.Kept.after_all, Runs.Ops.RanOp}
use Rattle.nfs_serve.specs.Step.{new_state}
use Rattle.nfs_promises.specs.{Network.Endpoint.Arrival, Permission.Permitted.{Rights, rights_at}, Runs.{Points.{reached, ops_of}, Followed.TellsThrough}}
use Rattle.nfs_promises.specs.Runs.Followed.{TellsFrom}

-- what is given is taken over, and the rest stays
abbrev pub with_given : Rights → Wanted → Rights
with_given r w = record { mode = unwrap_or w.mode r.mode; owner = unwrap_or w.owner r.owner; group = unwrap_or w.group r.group }

-- an object, whether it is a regular file, and the profile of its server
pub record Subject : Type 0 where
  pub number : ℕ
  pub regular : Bool
  pub profile : Profile

abbrev pub with_wanted : Subject → Caller → Rights → Result Wanted Status → Rights
with_wanted k who r (Ok w) = with_given r (settled k.profile k.regular r.mode r.group who w)
with_wanted k who r (Err status) = r

-- behind a change of the object's bytes
abbrev pub with_cleared : Subject → Caller → Rights → Rights
with_cleared k who r = record r { mode = unwrap_or (mode_behind k.profile r.mode who) r.mode }

-- What an operation that was answered NFS4_OK leaves of those of an object: a SETATTR of it sets them; in `unix` a WRITE of bytes and an OPEN that empties it
-- clear bits of the mode.
abbrev pub rights_left : Subject → Rights → Files → Context → Item → Rights
rights_left k r t x (Operation (Op.SetAttr a)) = if is_number k.number x.current then with_wanted k x.who r (attributes_in a.obj_attributes) else r
rights_left k r t x (Operation (Op.Write a)) = if is_number k.number x.current && has_bytes a.bytes then with_cleared k x.who r else r
rights_left k r t x (Operation (Op.Open a)) = if is_number k.number (claimed t x.current a.claim) && asks_empty a then with_cleared k x.who r else r
rights_left k r t x item = r

abbrev pub rights_after : Subject → Rights → RanOp → Rights
rights_after k r d = if is_ok d.status then rights_left k r d.before.store.tree d.context d.item else r

abbrev pub rights_after_all : Subject → Rights → List RanOp → Rights
rights_after_all k r ds = after_all (rights_after k) r ds

-- while the object is there before an operation, it has these
abbrev pub HasRights : ℕ → Rights → RanOp → Type 0
HasRights n r d = (q : Rights) → rights_at d.before.store.tree n ≡ Some q → q ≡ r

-- with a mode where none is given, and the user's own number and first group
abbrev pub user_rights : ℕ → Caller → Rights
user_rights mode who = record { mode = mode; owner = who.uid; group = who.gid }

-- A CREATE or an OPEN made the object: with what it gave, else with rwxr-xr-x for a directory, rwxrwxrwx for a link and rw-r--r-- for a file; and in `unix` with
-- the group of a directory that has set-group-ID, which a directory then has too.
pub data MakesWith (k : Subject) (r : Rights) (d : RanOp) : Type 0 where
  ByCreate : (a : Create) (w : Wanted) (place : ℕ) (q : Rights) → d.item ≡ Operation (Op.Create a) → attributes_in a.createattrs ≡ Ok w
      → d.context.current ≡ Some place → rights_at d.before.store.tree place ≡ Some q → k.regular ≡ false
      → (let plain = plain_mode (new_of a.objtype) in let who = d.context.who in
      r ≡ with_given (user_rights plain who) (made_in k.profile q.mode q.group who (is_directory (new_of a.objtype).kind) plain w)) → MakesWith k r d
  ByOpen : (a : Open) (w : Wanted) (place : ℕ) (q : Rights) → d.item ≡ Operation (Op.Open a) → attributes_in (makes a.openhow).attributes ≡ Ok w
      → d.context.current ≡ Some place → rights_at d.before.store.tree place ≡ Some q → k.regular ≡ true
      → (let who = d.context.who in r ≡ with_given (user_rights 420 who) (made_in k.profile q.mode q.group who false 420 w)) → MakesWith k r d

-- In every run of a server, from its start on: what made the object gave it these, and it has them before each later operation, with what operations that were answered
-- NFS4_OK left of them since.
abbrev pub RightsAreTold : Type 0
RightsAreTold = (start : Start) (earlier : List Arrival) (c : Arrival) (front : List RanOp) (d : RanOp) (back : List RanOp) (k : Subject) (r : Rights)
    → (let s = reached start earlier in
    let n = k.number in
    ops_of s c ≡ front ++ d ∷ back → k.profile ≡ start.profile → MakesWith k r d → is_there d.before.store.tree n ≡ false → is_there d.behind.store.tree n ≡ true
    → TellsFrom (HasRights n) (rights_after k) r s c back)

-- The root is user 0's and group 0's, and has the mode that the settings give it.
abbrev pub RootIsTold : Type 0
RootIsTold = (start : Start) (records : List Arrival)
    → TellsThrough (HasRights root) (rights_after (record { number = root; regular = false; profile = start.profile })) (record { mode = start.mode; owner = 0; group = 0 }) (new_state start) records
