-- What a filehandle of this server, a time that is set and the values of attributes are on the wire (RFC 8881 sections 3.3, 4 and 5), each field
-- under its type.
use Rattle.std.specs.Prelude.{ℕ, List}
use Rattle.nfs_xdr.specs.{Text.{Text, ◌then◌, uint32, uint64, enum, array, most}, Wire.nfstime4}
use Rattle.nfs_attrs.specs.{declared.handle.Handle.Handle, declared.set_time.SetTime.SetTime, declared.set_time.SetTime.TheVariants.{Now, Given}}

-- the instance that gave it, four zero bytes, the object's number
abbrev pub nfs_fh4 : Handle → Text
nfs_fh4 h = uint32 h.instance then uint32 0 then uint64 h.number

-- the server's own time, or one that is given
abbrev pub settime4 : SetTime → Text
settime4 Now = enum 0
settime4 (Given t) = enum 1 then nfstime4 t

abbrev pub bitmap4 : List ℕ → Text
bitmap4 words = array most uint32 words

abbrev pub fsid4 : ℕ × ℕ → Text
fsid4 (major, minor) = uint64 major then uint64 minor
