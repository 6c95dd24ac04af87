-- What a READ of a file answers, whole, through whatever records come: what the last WRITE, SETATTR or OPEN left at each place, and zero where nobody wrote (RFC 8881
-- sections 18.16, 18.22, 18.30 and 18.32).
use Rattle.std.specs.Prelude.{◌≡◌, ℕ, true, false, List, ◌∷◌, ◌++◌, Some, unwrap_or, if◌then◌else◌}
use Rattle.nfs_xdr.specs.Spelling.{hyper}
use Rattle.nfs_compound.specs.{declared.open_args.Open.Open, declared.file_args.Read.Read, declared.op.Item.TheVariants.Operation}
use Rattle.nfs_compound.specs.declared.op.Op.TheVariants as Op
use Rattle.nfs_tree.specs.Files.{is_there}
use Rattle.nfs_attrs.specs.Mask.{mask_of, has}
use Rattle.nfs_names.specs.{declared.start.Start.Start, Outcome.is_ok}
use Rattle.nfs_exec.specs.{Runs.Kept.after_all, Runs.Ops.RanOp}
use Rattle.nfs_files.specs.FileImage.{Image, unwritten, new_size, left_of, read_answer}
use Rattle.nfs_promises.specs.{Network.Endpoint.Arrival, Runs.{AttributesTold.TellsValue, Points.{reached, ops_of}, Followed.TellsFrom}}

-- What it leaves, and what a list of operations does; one that is answered otherwise leaves all.
abbrev pub image_after : ℕ → Image → RanOp → Image
image_after n img d = if is_ok d.status then left_of n img d.before.store.tree d.context d.item else img

abbrev pub image_after_all : ℕ → Image → List RanOp → Image
image_after_all n img ds = after_all (image_after n) img ds

-- Each READ of the file that is answered NFS4_OK is answered this,
abbrev pub ReadsImage : ℕ → Image → RanOp → Type 0
ReadsImage n img d =
    (asked : Read) → d.item ≡ Operation (Op.Read asked) → d.context.current ≡ Some n → is_ok d.status ≡ true → d.result ≡ read_answer img asked.offset asked.count

-- and each GETATTR of its size tells that, whatever else it asks for.
abbrev pub SizeIsTold : ℕ → Image → RanOp → Type 0
SizeIsTold n img d =
    (words : List ℕ) → d.item ≡ Operation (Op.GetAttr words) → d.context.current ≡ Some n → is_ok d.status ≡ true → has (mask_of words) 4 ≡ true
    → TellsValue d.before.store.tree.profile 4 (hyper img.size) (mask_of words) d.result

abbrev pub TellsFile : ℕ → Image → RanOp → Type 0
TellsFile n img d = ReadsImage n img d × SizeIsTold n img d

-- an OPEN made the file, with the size that it gave, or 0
pub record MakesFile (n size : ℕ) (d : RanOp) : Type 0 where
  pub asked : Open
  pub is : d.item ≡ Operation (Op.Open asked)
  pub free : is_there d.before.store.tree n ≡ false
  pub there : is_there d.behind.store.tree n ≡ true
  pub given : unwrap_or (new_size asked.openhow) 0 ≡ size

-- In every run of a server, from its start on: an OPEN in a record's compound made the file. So a READ of it is answered, then and through whatever records come,
-- what the last WRITE, SETATTR or OPEN left at each place.
abbrev pub ReadsAreWhole : Type 0
ReadsAreWhole = (start : Start) (earlier : List Arrival) (c : Arrival) (front : List RanOp) (made : RanOp) (back : List RanOp) (n size : ℕ)
    → (let s = reached start earlier in
    ops_of s c ≡ front ++ made ∷ back → MakesFile n size made
    → TellsFrom (TellsFile n) (image_after n) (unwritten size) s c back)
