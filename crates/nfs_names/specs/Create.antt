-- CREATE (RFC 8881 section 18.4): a directory or a symbolic link is made, and becomes the current filehandle's object.
use Rattle.std.specs.Prelude.{ℕ, ◌+◌, ◌==◌, nat_lt, nat_le, Bool, true, false, not, ◌&&◌, if◌then◌else◌, List, [], ◌∷◌, length}
use Rattle.std.specs.Prelude.{Some, Result, Ok, is_some, unwrap_or, option_map}
use Rattle.nfs_xdr.specs.{declared.time.Time.Time, declared.status.Status.Status}
use Rattle.nfs_xdr.specs.declared.status.Status.TheVariants.{Inval, NameTooLong, BadType, Exist, NoSpc, ServerFault}
use Rattle.nfs_compound.specs.declared.op_num.OpNum.TheVariants as Num
use Rattle.nfs_compound.specs.{declared.attributes.Attributes.Attributes, declared.name_args.Create.Create, declared.name_args.CreateType.CreateType}
use Rattle.nfs_compound.specs.declared.name_args.CreateType.TheVariants.{Symlink, Other}
use Rattle.nfs_results.specs.declared.res.ChangeInfo.{ChangeInfo}
use Rattle.nfs_results.specs.declared.res.Res.TheVariants as Res
use Rattle.nfs_tree.specs.{declared.done.Change.Change, declared.sets.Sets.Sets, Object.{is_directory, is_link}}
use Rattle.nfs_tree.specs.Files.{Files, last_count, most_text, can_change, has_name, raised}
use Rattle.nfs_tree.specs.Create.{New, new_directory, new_link, with_new}
use Rattle.nfs_attrs.specs.{declared.set_time.SetTime.SetTime, declared.set_time.SetTime.TheVariants.{Now, Given}, declared.wanted.Wanted.Wanted}
use Rattle.nfs_attrs.specs.{Mask.{mask_of, trimmed_words}, Permissions.change_entries, Reading.read_attrs, SetId.made_in, Setting.make_checks}
use Rattle.nfs_opens.specs.Steps.{◌>>=◌, in_order, require, ◌>>◌}
use Rattle.nfs_names.specs.{declared.context.Context.Context, declared.node.Node.Node, State.{State, with_tree}, Context.at_object}
use Rattle.nfs_names.specs.{Outcome.{Outcome, or_refusal}, Checks.{current, no_directory, no_access, name_checks}}

-- Directories and links are made; a number that is no type's is read like one that has nothing behind it.
abbrev pub is_made : CreateType → Bool
is_made (Symlink text) = true
is_made (Other type) = type == 2
is_made device = false

abbrev pub text_is : (ℕ → Bool) → CreateType → Bool
text_is test (Symlink text) = test (length text)
text_is test type = false

abbrev pub new_of : CreateType → New
new_of (Symlink text) = new_link text
new_of type = new_directory

-- what its mode is where none is given: rwxr-xr-x for a directory, rwxrwxrwx for a link (profile)
abbrev pub plain_mode : New → ℕ
plain_mode new = if is_link new.kind then 511 else 493

-- what is looked at of the place, the type and the name
abbrev pub place_checks : Context → Create → Node → List (Bool × Status)
place_checks x c d =
    no_directory d
    ∷ no_access x d change_entries
    ∷ (not (is_made c.objtype), BadType)
    ∷ (text_is (λ n. n == 0) c.objtype, Inval)
    ∷ (text_is (nat_lt most_text) c.objtype, NameTooLong)
    ∷ name_checks c.objname

-- whether a directory can get one more object: there is room for it, and neither a counter nor `change` has its last value
abbrev pub room_checks : Files → ℕ → List (Bool × Status)
room_checks t d =
    (nat_le t.limits.objects (length t.objects), NoSpc)
    ∷ (not (can_change t d && (nat_lt t.last_object last_count && nat_lt t.last_cookie last_count)), ServerFault)
    ∷ []

-- the attributes that are given, or why they cannot be read
unfoldable pub attributes_in : Attributes → Result Wanted Status
attributes_in a = read_attrs (mask_of a.attrmask) a.attr_vals

abbrev pub time_of : Time → SetTime → Time
time_of now Now = now
time_of now (Given t) = t

-- what is set: what is given ..
abbrev pub given_sets : Time → Wanted → Sets
given_sets now w =
    record { mode = w.mode; owner = w.owner; group = w.group; access = option_map (time_of now) w.access; modify = option_map (time_of now) w.modify }

-- .. and of a new object else the plain mode, and the caller's user and group
abbrev pub sets_of : Context → Time → New → Wanted → Sets
sets_of x now new wanted = record (given_sets now wanted) {
  mode = Some (unwrap_or wanted.mode (plain_mode new));
  owner = Some (unwrap_or wanted.owner x.who.uid);
  group = Some (unwrap_or wanted.group x.who.gid);
}

-- the same of an object that is made in a directory, by the profile
abbrev pub made_sets : State → Context → Time → Node → New → Wanted → Sets
made_sets s x now d new wanted = sets_of x now new (made_in s.tree.profile d.object.mode d.object.group x.who (is_directory new.kind) (plain_mode new) wanted)

-- how a directory changed, with nothing else in between
abbrev pub change_info : Change → ChangeInfo
change_info c = record { atomic = true; before = c.before; after = c.after }

unfoldable pub create : State → Context → Time → Create → Outcome
create s x now c = or_refusal s x Num.Create (do
  d ← current s x
  in_order (place_checks x c d)
  wanted ← attributes_in c.createattrs
  in_order (make_checks wanted x.who)
  require (not (is_some wanted.size)) Inval
  in_order ((has_name s.tree d.number c.objname, Exist) ∷ room_checks s.tree d.number)
  Ok (record {
    result = Res.Create (record { cinfo = change_info (raised s.tree d.number); attrset = trimmed_words (mask_of c.createattrs.attrmask) });
    state = with_tree s (with_new s.tree d.number c.objname (new_of c.objtype) (made_sets s x now d (new_of c.objtype) wanted) now);
    context = at_object x (s.tree.last_object + 1);
  }))
