-- What a file has, by what was asked and answered: the bytes that were written, and zero where nobody wrote one (RFC 8881 sections 18.16, 18.22, 18.30 and 18.32).
use Rattle.std.specs.Prelude.{ℕ, ◌+◌, ◌-◌, ◌==◌, ◌&&◌, nat_lt, nat_le, min, max, Bool, false, not, List, ◌++◌, length, map, slice_index_or, if◌then◌else◌}
use Rattle.std.specs.{Prelude.{Option, Some, None, Result, Ok, Err}, List.range_with_len, Option.option_map_or}
use Rattle.nfs_xdr.specs.{Spelling.{flag, opaque}, declared.status.Status.Status}
use Rattle.nfs_compound.specs.{declared.open_args.Open.Open, declared.open_args.OpenHow.OpenHow, declared.open_args.OpenHow.TheVariants.Create}
use Rattle.nfs_compound.specs.{declared.open_args.CreateHow.TheVariants.Unchecked, declared.open_args.OpenClaim.OpenClaim}
use Rattle.nfs_compound.specs.{declared.open_args.OpenClaim.TheVariants.Null, declared.op.Item.Item, declared.op.Item.TheVariants.Operation}
use Rattle.nfs_compound.specs.declared.op.Op.TheVariants as Op
use Rattle.nfs_compound.specs.declared.op_num.OpNum.TheVariants as Num
use Rattle.nfs_results.specs.{Largest.given, Results.done_head}
use Rattle.nfs_tree.specs.Files.{Files, object_named}
use Rattle.nfs_attrs.specs.declared.wanted.Wanted.{Wanted}
use Rattle.nfs_names.specs.{declared.context.Context.Context, Create.attributes_in}
use Rattle.nfs_files.specs.Open.{makes, access_of}

-- how many bytes a file has, and the byte at each place: zero where nobody wrote one, and past the end
pub record Image : Type 0 where
  pub size : ℕ
  pub byte : ℕ → ℕ

-- a file of so many bytes that nobody wrote
abbrev pub unwritten : ℕ → Image
unwritten size = record { size = size; byte = λ p. 0 }

-- Bytes are written from an offset on; a gap before them stays zero. No bytes change nothing.
abbrev pub byte_over : Image → ℕ → List ℕ → ℕ → ℕ
byte_over img offset text p = if not (nat_lt p offset) && nat_lt p (offset + length text) then slice_index_or text (p - offset) 0 else img.byte p

abbrev pub written_over : Image → ℕ → List ℕ → Image
written_over img offset text =
    if nat_lt 0 (length text) then record { size = max img.size (offset + length text); byte = byte_over img offset text } else img

-- The size is set: what is cut off is zero from then on, also where the file grows over it later.
abbrev pub cut_to : Image → Option ℕ → Image
cut_to img None = img
cut_to img (Some size) = record { size = size; byte = λ p. if nat_lt p size then img.byte p else 0 }

-- the size among attributes
abbrev pub size_in : Result Wanted Status → Option ℕ
size_in (Ok wanted) = wanted.size
size_in (Err status) = None

-- the size with which an OPEN makes a file, if it gives one; and the one that it asks for where the file is there
abbrev pub new_size : OpenHow → Option ℕ
new_size how = size_in (attributes_in (makes how).attributes)

abbrev pub old_size : OpenHow → Option ℕ
old_size (Create (Unchecked a)) = size_in (attributes_in a)
old_size how = None

-- an OPEN as UNCHECKED4 for writing empties the file if it asks for size 0
abbrev pub asks_empty : Open → Bool
asks_empty o = option_map_or (λ size. size == 0) (old_size o.openhow) false && (access_of o).writes

-- the object that the claim of an OPEN names in the directory of the current filehandle
abbrev pub claimed : Files → Option ℕ → OpenClaim → Option ℕ
claimed t (Some directory) (Null name) = object_named t directory name
claimed t at claim = None

abbrev pub is_number : ℕ → Option ℕ → Bool
is_number n o = option_map_or (λ k. k == n) o false

-- What an operation that was answered NFS4_OK leaves of file n.
abbrev pub left_of : ℕ → Image → Files → Context → Item → Image
left_of n img t x (Operation (Op.Write w)) = if is_number n x.current then written_over img w.offset w.bytes else img
left_of n img t x (Operation (Op.SetAttr a)) = if is_number n x.current then cut_to img (size_in (attributes_in a.obj_attributes)) else img
left_of n img t x (Operation (Op.Open o)) = if is_number n (claimed t x.current o.claim) && asks_empty o then cut_to img (Some 0) else img
left_of n img t x i = img

-- What a READ of so many bytes from an offset on is given: the file's bytes up to its end, of which no more than 65,536 are given at once; and whether that is
-- the end.
abbrev pub bytes_read : Image → (offset count : ℕ) → List ℕ
bytes_read img offset count = map img.byte (range_with_len offset (min (given count) (img.size - offset)))

abbrev pub read_answer : Image → (offset count : ℕ) → List ℕ
read_answer img offset count =
    let bytes : List ℕ = bytes_read img offset count in done_head Num.Read ++ (flag (nat_le img.size (offset + length bytes)) ++ opaque bytes)
