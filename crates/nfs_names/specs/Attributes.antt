-- The attributes of an object as operations report them (RFC 8881 section 5).
use Rattle.std.specs.Prelude.{ℕ, ◌-◌, ◌*◌, ◌==◌, length, min, if◌then◌else◌}
use Rattle.nfs_tree.specs.{Object.is_directory, Files.{Files, last_count, data_at, size_at, links_in}, Limits.any_pages, Stored.pages_used}
use Rattle.nfs_tree.specs.{declared.limits.Limits.Limits, declared.profile.Profile.Profile, declared.profile.Profile.TheVariants.{Exact, Unix}, declared.stored.Size.Size}
use Rattle.nfs_attrs.specs.{declared.about.About.About, declared.mask.Mask.Mask, Mask.{trimmed_words, common}, Attributes.{readable, values}}
use Rattle.nfs_results.specs.declared.res.Fattr.{Fattr}
use Rattle.nfs_names.specs.{declared.attributes.Room.Room, declared.node.Node.Node, State.State}

-- a directory has one name; any other object has as many as rows name it
abbrev pub links_of : State → Node → ℕ
links_of s d = if is_directory d.object.kind then 1 else links_in s.tree.rows d.number

-- the bytes that an object takes: in `unix` whole pages of 4,096, those in which something was written
abbrev pub taken_by : Profile → Size → ℕ
taken_by Exact size = size.bytes
taken_by Unix size = min (size.pages * 4096) last_count

-- how many bytes there may be: as many as the pages have, or, where only memory bounds these, as many as the largest file may have
abbrev pub space_of : Limits → ℕ
space_of l = if l.pages == any_pages then l.bytes else min (l.pages * 4096) last_count

-- in how many bytes' pages something was written, where the pages are bounded
abbrev pub space_used : Files → ℕ
space_used t = if t.limits.pages == any_pages then 0 else pages_used t.objects * 4096

-- how many objects and bytes there may be, and how many more
abbrev pub room_in : Files → Room
room_in t = record {
  files_free = t.limits.objects - length t.objects;
  files_total = t.limits.objects;
  space_free = space_of t.limits - space_used t;
  space_total = space_of t.limits;
}

abbrev pub about : State → Node → About
about s d = record {
  number = d.number;
  size = length (data_at s.tree d.number);
  links = links_of s d;
  instance = s.opens.instance;
  lease = s.lease;
  most_bytes = s.tree.limits.bytes;
  profile = s.tree.profile;
  used = taken_by s.tree.profile (size_at s.tree d.number);
  files_free = (room_in s.tree).files_free;
  files_total = (room_in s.tree).files_total;
  space_free = (room_in s.tree).space_free;
  space_total = (room_in s.tree).space_total;
}

-- those that are asked for, and their values
abbrev pub attributes_of : State → Mask → Node → Fattr
attributes_of s asked d = record { attrmask = trimmed_words (common asked (readable s.tree.profile)); attr_vals = values asked (about s d) d.object }
