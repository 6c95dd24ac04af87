-- The table of attributes (RFC 8881 section 5): all that this server has, a line each, in rising order of their numbers.
use Rattle.std.specs.{Prelude.{◌≡◌, ℕ, ◌==◌, List, [], ◌∷◌, ◌++◌, Bool, true, false, Option, Some, None, is_some, pos, if◌then◌else◌}, Fmt.decimal, List.flat_map}
use Rattle.nfs_xdr.specs.Spelling as spelling
use Rattle.nfs_xdr.specs.{Text.{Text, ◌then◌, void, uint32, uint64, bool, opaque, most}, Wire.nfstime4, Limits.{fhsize, most_transfer}}
use Rattle.nfs_tree.specs.{Files.{most_links, most_name}, Profile.is_unix, declared.profile.Profile.Profile, declared.profile.Profile.TheVariants.{Exact, Unix}}
use Rattle.nfs_tree.specs.{declared.object.FileType.FileType}
use Rattle.nfs_tree.specs.{declared.object.FileType.TheVariants.{Regular, Directory, Link}, declared.object.Object.Object}
use Rattle.nfs_attrs.specs.{Mask.{has, trimmed_words, common, spell_mask}, Wire.{nfs_fh4, settime4, bitmap4, fsid4}, declared.about.About.About}
use Rattle.nfs_attrs.specs.{declared.mask.Mask.Mask, declared.set_time.SetTime.SetTime}

-- the number of a type (nfs_ftype4, RFC 8881 section 3.2)
abbrev pub type_number : FileType → ℕ
type_number Regular = 1
type_number Directory = 2
type_number Link = 5

-- the values that a request sets, each where its mask has it
pub record Settings : Type 0 where
  pub size : Option ℕ
  pub mode : Option ℕ
  pub owner : Option (List ℕ)
  pub group : Option (List ℕ)
  pub access : Option SetTime
  pub modify : Option SetTime

-- An attribute: its value, where it can be read; whether it is among those that a request sets, where it can be set; and whether the profile `unix` alone has it.
pub record Attribute : Type 0 where
  pub number : ℕ
  pub value : Option (About → Object → List ℕ)
  pub set : Option (Settings → Bool)
  pub unix : Bool

abbrev pub read_only : {A : Type 0} → ℕ → (A → Text) → (About → Object → A) → Attribute
read_only n text value = record { number = n; value = Some (λ a o. (text (value a o)).bytes); set = None; unix = false }

abbrev pub read_write : {A : Type 0} → ℕ → (A → Text) → (About → Object → A) → (Settings → Bool) → Attribute
read_write n text value set = record { number = n; value = Some (λ a o. (text (value a o)).bytes); set = Some set; unix = false }

abbrev pub write_only : ℕ → (Settings → Bool) → Attribute
write_only n set = record { number = n; value = None; set = Some set; unix = false }

-- one that the profile `exact` does not have: there it has no value
abbrev pub in_unix : {A : Type 0} → ℕ → (A → Text) → (About → A) → Attribute
in_unix n text value = record { number = n; value = Some (λ a o. if is_unix a.profile then (text (value a)).bytes else []); set = None; unix = true }

-- the masks of all attributes and of those that can be set, as attributes 0 and 75 report them
abbrev pub supported : Profile → Mask
supported Exact = record { words = 0xf8180fff ∷ 0x00f1a03a ∷ 0x00000800 ∷ []; beyond = false }
supported Unix = record { words = 0xf8f80fff ∷ 0x00f9bc3a ∷ 0x00000800 ∷ []; beyond = false }

abbrev pub settable : Mask
settable = record { words = 0x00000010 ∷ 0x00410032 ∷ 0x00000000 ∷ []; beyond = false }

unfoldable pub attributes : List Attribute
attributes =
    read_only 0 bitmap4 (λ a o. trimmed_words (supported a.profile))  -- supported_attrs
    ∷ read_only 1 uint32 (λ a o. type_number o.kind)  -- type
    ∷ read_only 2 uint32 (λ a o. 0)  -- fh_expire_type: never
    ∷ read_only 3 uint64 (λ a o. o.change)  -- change
    ∷ read_write 4 uint64 (λ a o. a.size) (λ s. is_some s.size)  -- size
    ∷ read_only 5 bool (λ a o. true)  -- link_support
    ∷ read_only 6 bool (λ a o. true)  -- symlink_support
    ∷ read_only 7 bool (λ a o. false)  -- named_attr
    ∷ read_only 8 fsid4 (λ a o. (0, 1))  -- fsid
    ∷ read_only 9 bool (λ a o. true)  -- unique_handles
    ∷ read_only 10 uint32 (λ a o. a.lease)  -- lease_time
    ∷ read_only 11 uint32 (λ a o. 0)  -- rdattr_error
    ∷ read_only 19 (opaque fhsize) (λ a o. (nfs_fh4 (record { instance = a.instance; number = a.number })).bytes)  -- filehandle
    ∷ read_only 20 uint64 (λ a o. a.number)  -- fileid
    ∷ in_unix 21 uint64 (λ a. a.files_free)  -- files_avail
    ∷ in_unix 22 uint64 (λ a. a.files_free)  -- files_free
    ∷ in_unix 23 uint64 (λ a. a.files_total)  -- files_total
    ∷ read_only 27 uint64 (λ a o. a.most_bytes)  -- maxfilesize
    ∷ read_only 28 uint32 (λ a o. most_links)  -- maxlink
    ∷ read_only 29 uint32 (λ a o. most_name)  -- maxname
    ∷ read_only 30 uint64 (λ a o. most_transfer)  -- maxread
    ∷ read_only 31 uint64 (λ a o. most_transfer)  -- maxwrite
    ∷ read_write 33 uint32 (λ a o. o.mode) (λ s. is_some s.mode)  -- mode
    ∷ read_only 35 uint32 (λ a o. a.links)  -- numlinks
    ∷ read_write 36 (opaque most) (λ a o. decimal o.owner) (λ s. is_some s.owner)  -- owner
    ∷ read_write 37 (opaque most) (λ a o. decimal o.group) (λ s. is_some s.group)  -- owner_group
    ∷ in_unix 42 uint64 (λ a. a.space_free)  -- space_avail
    ∷ in_unix 43 uint64 (λ a. a.space_free)  -- space_free
    ∷ in_unix 44 uint64 (λ a. a.space_total)  -- space_total
    ∷ read_only 45 uint64 (λ a o. a.used)  -- space_used
    ∷ read_only 47 nfstime4 (λ a o. o.access)  -- time_access
    ∷ write_only 48 (λ s. is_some s.access)  -- time_access_set
    ∷ in_unix 51 nfstime4 (λ a. record { seconds = pos 0; nanoseconds = 1 })  -- time_delta
    ∷ read_only 52 nfstime4 (λ a o. o.metadata)  -- time_metadata
    ∷ read_only 53 nfstime4 (λ a o. o.modify)  -- time_modify
    ∷ write_only 54 (λ s. is_some s.modify)  -- time_modify_set
    ∷ read_only 55 uint64 (λ a o. a.number)  -- mounted_on_fileid
    ∷ read_only 75 bitmap4 (λ a o. trimmed_words settable)  -- suppattr_exclcreat
    ∷ []

-- the attributes that can be read
abbrev pub readable : Profile → Mask
readable Exact = record { words = 0xf8180fff ∷ 0x00b0a03a ∷ 0x00000800 ∷ []; beyond = false }
readable Unix = record { words = 0xf8f80fff ∷ 0x00b8bc3a ∷ 0x00000800 ∷ []; beyond = false }

abbrev pub value_of : Option (About → Object → List ℕ) → About → Object → List ℕ
value_of None a o = []
value_of (Some value) a o = value a o

-- the value of the attribute of a number
abbrev pub value_at : List Attribute → ℕ → About → Object → List ℕ
value_at [] n a o = []
value_at (line ∷ lines) n a o = if n == line.number then value_of line.value a o else value_at lines n a o

-- the values that a mask asks for, one behind the other; nothing for what cannot be read
unfoldable pub values : Mask → About → Object → List ℕ
values asked a o = flat_map (λ line. if has asked line.number then value_of line.value a o else []) attributes

-- What GETATTR and READDIR report (fattr4): the mask of the attributes that are asked for and can be read, and their values.
abbrev pub spell_attrs : Mask → About → Object → List ℕ
spell_attrs asked a o = spell_mask (common asked (readable a.profile)) ++ spelling.opaque (values asked a o)

-- The values that a request sets, one behind the other, each where it is there ..
abbrev pub if_there : {A : Type 0} → (A → Text) → Option A → Text
if_there text None = void
if_there text (Some x) = text x

abbrev pub set_values : Settings → Text
set_values s = if_there uint64 s.size then if_there uint32 s.mode then if_there (opaque most) s.owner then if_there (opaque most) s.group
    then if_there settime4 s.access then if_there settime4 s.modify

-- .. and each is there just where a mask has its attribute.
abbrev pub IsAsGiven : Option (Settings → Bool) → Settings → Bool → Type 0
IsAsGiven None s given = Unit {0}
IsAsGiven (Some set) s given = set s ≡ given

abbrev pub AreAsGiven : List Attribute → Mask → Settings → Type 0
AreAsGiven [] given s = Unit {0}
AreAsGiven (line ∷ lines) given s = IsAsGiven line.set s (has given line.number) × AreAsGiven lines given s

abbrev pub settings4 : Mask → Settings → Text
settings4 given s = record { bytes = (set_values s).bytes; Fits = AreAsGiven attributes given s × (set_values s).Fits }
