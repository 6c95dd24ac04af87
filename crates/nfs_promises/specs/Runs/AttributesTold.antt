-- An attribute as GETATTR and READDIR tell it, whatever else is asked for: its value stands behind those of the attributes before it (RFC 8881 sections 5, 18.7 and
-- 18.23).
use Rattle.std.specs.Prelude.{◌≡◌, ℕ, ◌+◌, List, [], ◌∷◌, ◌++◌, length, take, if◌then◌else◌}
use Rattle.nfs_xdr.specs.Tables.{In}
use Rattle.nfs_results.specs.{declared.res.Entry.Entry, declared.res.Fattr.Fattr, declared.res.ReadDirOk.ReadDirOk, Results.spell_result}
use Rattle.nfs_results.specs.declared.res.Res.TheVariants as Res
use Rattle.nfs_tree.specs.declared.profile.Profile.{Profile}
use Rattle.nfs_attrs.specs.{declared.mask.Mask.Mask, Mask.{has, trimmed_words, common}, Attributes.readable}

-- The bytes of attributes 0 to 9: the three words of supported_attrs and their count; type; fh_expire_type; change; size; link_support; symlink_support; named_attr; the
-- two numbers of fsid; unique_handles.
abbrev pub sizes : List ℕ
sizes = 16 ∷ 4 ∷ 4 ∷ 8 ∷ 8 ∷ 4 ∷ 4 ∷ 4 ∷ 16 ∷ 4 ∷ []

-- how many of these bytes are asked for, from an attribute on
abbrev pub asked_from : Mask → ℕ → List ℕ → ℕ
asked_from asked n [] = 0
asked_from asked n (bytes ∷ more) = (if has asked n then bytes else 0) + asked_from asked (n + 1) more

-- the result of a GETATTR that was answered NFS4_OK, of what was asked for and can be read in a profile: attribute n, of the first eleven, has this value in its place
pub record TellsValue (p : Profile) (n : ℕ) (value : List ℕ) (asked : Mask) (result : List ℕ) : Type 0 where
  pub front : List ℕ
  pub behind : List ℕ
  pub long : length front ≡ asked_from asked 0 (take n sizes)
  pub answers : result ≡ spell_result (Res.GetAttr (record { attrmask = trimmed_words (common asked (readable p)); attr_vals = front ++ (value ++ behind) }))

-- of what was asked for and can be read, attribute n, of the first eleven, has this value in its place
pub record HasValue (p : Profile) (n : ℕ) (value : List ℕ) (asked : Mask) (told : Fattr) : Type 0 where
  pub front : List ℕ
  pub behind : List ℕ
  pub long : length front ≡ asked_from asked 0 (take n sizes)
  pub mask : told.attrmask ≡ trimmed_words (common asked (readable p))
  pub values : told.attr_vals ≡ front ++ (value ++ behind)

-- the result of a READDIR that was answered NFS4_OK: each of its entries has it
pub record EntriesTell (p : Profile) (n : ℕ) (value : List ℕ) (asked : Mask) (result : List ℕ) : Type 0 where
  pub listed : ReadDirOk
  pub answers : result ≡ spell_result (Res.ReadDir listed)
  pub verifier : length listed.cookieverf ≡ 8
  pub each : (e : Entry) → In e listed.entries → HasValue p n value asked e.attrs
