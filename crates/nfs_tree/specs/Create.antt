-- A new tree, and a new object in a directory (RFC 8881 sections 18.4 and 18.16).
use Rattle.std.specs.Prelude.{ℕ, ◌+◌, nat_lt, nat_le, Bool, not, ◌&&◌, List, [], ◌∷◌, ◌++◌, length, Option, Some, None, unwrap_or, replicate}
use Rattle.nfs_xdr.specs.declared.time.Time.{Time}
use Rattle.nfs_pages.specs.Bytes.{Content, text_of}
use Rattle.nfs_tree.specs.{declared.object.FileType.FileType, declared.object.Object.Object, declared.sets.Sets.Sets, declared.fault.TreeFault.TreeFault}
use Rattle.nfs_tree.specs.{declared.fault.TreeFault.TheVariants.{NoEnt, Exist, NotDir, Inval, Fbig, NoSpc, Counter}, Object.{is_link, no_sets}}
use Rattle.nfs_tree.specs.Files.{Files, next_count, root, last_count, most_text, most_of, is_name, is_there, is_directory_at, has_name, can_change}
use Rattle.nfs_tree.specs.Files.{with_entries_changed}
use Rattle.nfs_tree.specs.{declared.limits.Limits.Limits, declared.profile.Profile.Profile, Limits.bounded}
use Rattle.nfs_tree.specs.declared.object.FileType.TheVariants.{Regular, Directory, Link}

-- What is made: its type, the bytes that it begins with, their pages, and the verifier of an exclusive create.
pub record New : Type 0 where
  pub kind : FileType
  pub bytes : List ℕ
  pub pages : List ℕ
  pub verifier : Option (List ℕ)

-- a file of so many zeros, a directory, and a symbolic link with its text
abbrev pub new_file : ℕ → Option (List ℕ) → New
new_file size verifier = record { kind = Regular; bytes = replicate size 0; pages = []; verifier = verifier }

abbrev pub new_directory : New
new_directory = record { kind = Directory; bytes = []; pages = []; verifier = None }

abbrev pub new_link : List ℕ → New
new_link text = record { kind = Link; bytes = text; pages = (text_of text).pages; verifier = None }

abbrev pub new_content : New → Content
new_content new = record { bytes = new.bytes; pages = new.pages }

-- a new object: mode, owner and group are 0 and the times now where they are not set
abbrev pub new_object : Time → New → Sets → Object
new_object now new sets = record {
  kind = new.kind;
  mode = unwrap_or sets.mode 0;
  owner = unwrap_or sets.owner 0;
  group = unwrap_or sets.group 0;
  change = 1;
  access = unwrap_or sets.access now;
  metadata = now;
  modify = unwrap_or sets.modify now;
  verifier = new.verifier;
}

-- a tree of nothing but the root
abbrev pub new_tree : ℕ → Time → Limits → Profile → Files
new_tree mode now limits profile = record {
  objects = record { number = root; object = new_object now new_directory (record no_sets { mode = Some mode }); bytes = []; pages = [] } ∷ [];
  rows = [];
  last_object = root;
  last_cookie = 2;
  limits = bounded limits;
  profile = profile;
  changes = 0;
}

-- a symbolic link's text that is empty or too long
abbrev pub is_bad_text : New → Bool
is_bad_text new = is_link new.kind && not (nat_lt 0 (length new.bytes) && nat_le (length new.bytes) most_text)

-- more bytes than an object of the type may have
abbrev pub is_too_big : Limits → New → Bool
is_too_big limits new = nat_lt (most_of limits new.kind) (length new.bytes)

-- whether a directory can get one more object
abbrev pub room_checks : Files → ℕ → List (Bool × TreeFault)
room_checks t d =
    (nat_le t.limits.objects (length t.objects), NoSpc)
    ∷ (not (can_change t d && (nat_lt t.last_object last_count && nat_lt t.last_cookie last_count)), Counter)
    ∷ []

abbrev pub create_checks : Files → ℕ → List ℕ → New → List (Bool × TreeFault)
create_checks t d name new =
    (not (is_there t d), NoEnt)
    ∷ (not (is_directory_at t d), NotDir)
    ∷ (not (is_name name), Inval)
    ∷ (is_bad_text new, Inval)
    ∷ (has_name t d name, Exist)
    ∷ (is_too_big t.limits new, Fbig)
    ∷ room_checks t d

-- the directory changes, and the new object and its row get the next number and cookie
abbrev pub with_new : Files → ℕ → List ℕ → New → Sets → Time → Files
with_new t d name new sets now = record t {
  objects = with_entries_changed d now t.objects ++ record { number = t.last_object + 1; object = new_object now new sets; bytes = new.bytes; pages = new.pages } ∷ [];
  rows = t.rows ++ record { directory = d; name = name; object = t.last_object + 1; cookie = t.last_cookie + 1 } ∷ [];
  last_object = t.last_object + 1;
  last_cookie = t.last_cookie + 1;
  changes = next_count t.changes;
}
