-- A byte of a file that was written: by which operation it is told, which reads it, and which changes it, by what was asked and what was answered
-- (RFC 8881 sections 18.16, 18.22, 18.30 and 18.32).
use Rattle.std.specs.{Prelude.{◌≡◌, ◌⊎◌, ℕ, Bool, ◌+◌, ◌-◌, ◌≤◌, ◌<◌, true, List, [], ◌∷◌, ◌++◌, length, take, drop, slice_index_or, Some, Ok}, Option.ForSome}
use Rattle.std.specs.Int.{w32, from_be_bytes}
use Rattle.nfs_xdr.specs.declared.time.Time.{Time}
use Rattle.nfs_compound.specs.{declared.attributes.Attributes.Attributes, declared.open_args.Open.Open, declared.open_args.OpenHow.TheVariants.Create}
use Rattle.nfs_compound.specs.{declared.open_args.CreateHow.TheVariants.Unchecked, declared.open_args.OpenClaim.TheVariants.Null}
use Rattle.nfs_compound.specs.{declared.file_args.Write.Write, declared.file_args.SetAttr.SetAttr, declared.file_args.Read.Read, declared.op.Item.Item}
use Rattle.nfs_compound.specs.declared.op.Item.TheVariants.{Operation}
use Rattle.nfs_compound.specs.declared.op.Op.TheVariants as Op
use Rattle.nfs_compound.specs.declared.op_num.OpNum.TheVariants as Num
use Rattle.nfs_results.specs.{Largest.given, declared.res.OpenOk.OpenOk, Results.{spell_result, done_head}}
use Rattle.nfs_results.specs.declared.res.Res.TheVariants as Res
use Rattle.nfs_tree.specs.{Files.{Files, is_there, data_at, object_named}, TreeInvariants.IsTree}
use Rattle.nfs_attrs.specs.declared.wanted.Wanted.{Wanted}
use Rattle.nfs_names.specs.{declared.context.Context.Context, State.State, Create.attributes_in}
use Rattle.nfs_names.specs.Operation as names
use Rattle.nfs_files.specs.{Open.access_of, Operation.comes_to}

-- a byte at a place of a file
pub record Byte : Type 0 where
  pub file : ℕ
  pub place : ℕ
  pub value : ℕ

-- it is among these bytes
abbrev pub StandsIn : Byte → List ℕ → Type 0
StandsIn b bytes = (b.place < length bytes) × (slice_index_or bytes b.place 0 ≡ b.value)

-- Its file has it, or is gone; and no file that is made later gets its file's number.
pub record Lasts (b : Byte) (t : Files) : Type 0 where
  pub given : b.file ≤ t.last_object
  pub stands : is_there t b.file ≡ true → StandsIn b (data_at t b.file)

-- What follows is of an operation, by its result. The file is the one of the current filehandle.

-- a WRITE over the place answered NFS4_OK: the place is in the range that begins at the offset and has as many bytes as were answered
pub record WritesOver (file place : ℕ) (x : Context) (i : Item) (result : List ℕ) : Type 0 where
  pub asked : Write
  pub is : i ≡ Operation (Op.Write asked)
  pub at : x.current ≡ Some file
  pub count : List ℕ
  pub more : List ℕ
  pub answers : result ≡ done_head Num.Write ++ (count ++ more)
  pub long : length count ≡ 4
  pub from : asked.offset ≤ place
  pub below : place < asked.offset + from_be_bytes w32 count

-- and this is the byte that it brought there
pub record Writes (b : Byte) (x : Context) (i : Item) (result : List ℕ) : Type 0 where
  pub over : WritesOver b.file b.place x i result
  pub value : slice_index_or over.asked.bytes (b.place - over.asked.offset) 0 ≡ b.value

-- a SETATTR of a size that the place is not below answered NFS4_OK
pub record SetsSize (file place : ℕ) (x : Context) (i : Item) (result : List ℕ) : Type 0 where
  pub asked : SetAttr
  pub is : i ≡ Operation (Op.SetAttr asked)
  pub at : x.current ≡ Some file
  pub wanted : Wanted
  pub reads : attributes_in asked.obj_attributes ≡ Ok wanted
  pub size : ℕ
  pub sets : wanted.size ≡ Some size
  pub cuts : size ≤ place
  pub more : List ℕ
  pub answers : result ≡ done_head Num.SetAttr ++ more

-- an OPEN of the file by a name, for writing, as UNCHECKED4 and with size 0, answered NFS4_OK and that it set the size
pub record OpensEmpty (file : ℕ) (s : State) (x : Context) (i : Item) (result : List ℕ) : Type 0 where
  pub asked : Open
  pub is : i ≡ Operation (Op.Open asked)
  pub directory : ℕ
  pub at : x.current ≡ Some directory
  pub name : List ℕ
  pub claim : asked.claim ≡ Null name
  pub names : object_named s.tree directory name ≡ Some file
  pub given : Attributes
  pub how : asked.openhow ≡ Create (Unchecked given)
  pub wanted : Wanted
  pub reads : attributes_in given ≡ Ok wanted
  pub size : wanted.size ≡ Some 0
  pub writes : (access_of asked).writes ≡ true
  pub ok : OpenOk
  pub answers : result ≡ spell_result (Res.Open ok)
  pub sets : ok.attrset ≡ 0x10 ∷ []

-- It is none of these.
pub record Spares (b : Byte) (s : State) (x : Context) (i : Item) (result : List ℕ) : Type 0 where
  pub writes : WritesOver b.file b.place x i result → ⊥
  pub sizes : SetsSize b.file b.place x i result → ⊥
  pub opens : OpensEmpty b.file s x i result → ⊥

-- the bytes in the result of a READ behind its flag eof: as many as the number in front of them says
abbrev pub bytes_in : List ℕ → List ℕ
bytes_in text = take (from_be_bytes w32 (take 4 text)) (drop 4 text)

-- A READ answered NFS4_OK. The place is among the bytes that it asked for, of which no more than 65,536 need be given at once, or among those that it was given.
pub record Reads (file place : ℕ) (x : Context) (i : Item) (result : List ℕ) : Type 0 where
  pub asked : Read
  pub is : i ≡ Operation (Op.Read asked)
  pub at : x.current ≡ Some file
  pub eof : List ℕ
  pub long : length eof ≡ 4
  pub text : List ℕ
  pub answers : result ≡ done_head Num.Read ++ (eof ++ text)
  pub from : asked.offset ≤ place
  pub below : (place < asked.offset + given asked.count) ⊎ (place < asked.offset + length (bytes_in text))

-- it was given the byte
abbrev pub GivesIt : (b : Byte) (x : Context) (i : Item) (result : List ℕ) → Reads b.file b.place x i result → Type 0
GivesIt b x i result r =
    (b.place < r.asked.offset + length (bytes_in r.text)) × (slice_index_or (bytes_in r.text) (b.place - r.asked.offset) 0 ≡ b.value)

-- The laws of one operation.

-- behind a WRITE that answered NFS4_OK its file has the bytes that it brought
abbrev pub WritesLeaveBytes : Type 0
WritesLeaveBytes = (b : Byte) (refused : Bool) (s : State) (x : Context) (now : Time) (i : Item) → IsTree s.tree
    → ForSome (comes_to refused s x now i) (λ o. Writes b x i (spell_result o.result) → Lasts b o.state.tree)

-- what spares a byte leaves it, and what is done to names leaves every one
abbrev pub SparedBytesLast : Type 0
SparedBytesLast = (b : Byte) (refused : Bool) (s : State) (x : Context) (now : Time) (i : Item) → Lasts b s.tree
    → ForSome (comes_to refused s x now i) (λ o. Spares b s x i (spell_result o.result) → Lasts b o.state.tree)

abbrev pub NamesLeaveBytes : Type 0
NamesLeaveBytes = (b : Byte) (refused : Bool) (s : State) (x : Context) (now : Time) (i : Item) → Lasts b s.tree
    → ForSome (names.comes_to refused s x now i) (λ o. Lasts b o.state.tree)

-- a READ that answered NFS4_OK was given what stands
abbrev pub ReadsGiveBytes : Type 0
ReadsGiveBytes = (b : Byte) (refused : Bool) (s : State) (x : Context) (now : Time) (i : Item) → Lasts b s.tree
    → ForSome (comes_to refused s x now i) (λ o. (r : Reads b.file b.place x i (spell_result o.result)) → GivesIt b x i (spell_result o.result) r)
