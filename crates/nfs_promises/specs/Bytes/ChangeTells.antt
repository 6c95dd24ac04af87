-- The change attribute tells: while an object's change is the same, so is all that a client may keep of it (RFC 8881 sections 5.8.1.4 and 10.3.1).
use Rattle.std.specs.Prelude.{◌≡◌, ◌⊎◌, ℕ, ◌≤◌, ◌==◌, true, false, List, [], ◌∷◌, ◌++◌, length, filter, Some}
use Rattle.nfs_compound.specs.{declared.file_args.Read.Read, declared.op.Item.TheVariants.Operation}
use Rattle.nfs_compound.specs.declared.op.Op.TheVariants as Op
use Rattle.nfs_compound.specs.declared.op_num.OpNum.TheVariants as Num
use Rattle.nfs_results.specs.Results.{done_head}
use Rattle.nfs_xdr.specs.{Spelling.hyper, Tables.In}
use Rattle.nfs_tree.specs.{declared.profile.Profile.Profile, declared.profile.Profile.TheVariants.Exact, declared.row.Row.Row, Files.{Files, stored_in, is_there, change_of, links_in}}
use Rattle.nfs_attrs.specs.Mask.{mask_of, has}
use Rattle.nfs_names.specs.{declared.start.Start.Start, Outcome.is_ok}
use Rattle.nfs_promises.specs.Runs.AttributesTold.{TellsValue}
use Rattle.nfs_exec.specs.{Runs.Ops.RanOp}
use Rattle.nfs_serve.specs.{Step.ServerState}
use Rattle.nfs_promises.specs.{Network.Endpoint.Arrival, Runs.Points.{state_after, reached, ops_of}}

-- the entries of a directory
abbrev pub entries_in : List Row → ℕ → List Row
entries_in rows d = filter (λ r. r.directory == d) rows

-- an object has the same bytes and attributes in both trees, the same number of names, and the same entries
pub record IsAlike (n : ℕ) (before behind : Files) : Type 0 where
  pub stored : stored_in behind.objects n ≡ stored_in before.objects n
  pub names : links_in behind.rows n ≡ links_in before.rows n
  pub entries : entries_in behind.rows n ≡ entries_in before.rows n

-- its change does not fall, and where it is the same, so is the object
pub record Tells (n : ℕ) (before behind : Files) : Type 0 where
  pub rises : change_of before n ≤ change_of behind n
  pub same : change_of behind n ≡ change_of before n → IsAlike n before behind

-- an operation that the compound of one of these records runs
abbrev pub RunsIn : ServerState → List Arrival → RanOp → Type 0
RunsIn s [] e = ⊥
RunsIn s (c ∷ more) e = In e (ops_of s c) ⊎ RunsIn (state_after s c) more e

-- In every run of a server, from its start on: an object is there before an operation, and before a later one, in the same compound or in whatever records come
-- behind it, whoever asked for them.
abbrev pub ChangeTells : Type 0
ChangeTells = (start : Start) (earlier : List Arrival) (c : Arrival) (front : List RanOp) (d : RanOp) (back : List RanOp) (more : List Arrival) (e : RanOp) (n : ℕ)
    → (let s = reached start earlier in
    ops_of s c ≡ front ++ d ∷ back → In e back ⊎ RunsIn (state_after s c) more e
    → is_there d.before.store.tree n ≡ true → is_there e.before.store.tree n ≡ true
    → Tells n d.before.store.tree e.before.store.tree)

-- a READ of the object's bytes from an offset on, at most so many, that was answered NFS4_OK
pub record ReadsOf (n offset count : ℕ) (d : RanOp) : Type 0 where
  pub asked : Read
  pub is : d.item ≡ Operation (Op.Read asked)
  pub at : d.context.current ≡ Some n
  pub from : asked.offset ≡ offset
  pub many : asked.count ≡ count
  pub eof : List ℕ
  pub long : length eof ≡ 4
  pub text : List ℕ
  pub answers : d.result ≡ done_head Num.Read ++ (eof ++ text)

-- So two READs of the same bytes are answered the same while the change is the same, whoever asks for them, and by whatever stateid.
abbrev pub ReadsAreAlike : Type 0
ReadsAreAlike = (start : Start) (earlier : List Arrival) (c : Arrival) (front : List RanOp) (d : RanOp) (back : List RanOp) (more : List Arrival) (e : RanOp)
    (n offset count : ℕ)
    → (let s = reached start earlier in
    ops_of s c ≡ front ++ d ∷ back → In e back ⊎ RunsIn (state_after s c) more e
    → is_there d.before.store.tree n ≡ true → is_there e.before.store.tree n ≡ true
    → change_of e.before.store.tree n ≡ change_of d.before.store.tree n → ReadsOf n offset count d → ReadsOf n offset count e → e.result ≡ d.result)

-- a GETATTR of the object, of these attributes, that was answered NFS4_OK
pub record GetsOf (n : ℕ) (words : List ℕ) (d : RanOp) : Type 0 where
  pub is : d.item ≡ Operation (Op.GetAttr words)
  pub at : d.context.current ≡ Some n
  pub ok : is_ok d.status ≡ true

-- nothing of how many more objects and bytes there may be, which changes anywhere change and which `unix` alone tells
pub record LeavesOutFree (words : List ℕ) : Type 0 where
  pub files_avail : has (mask_of words) 21 ≡ false
  pub files_free : has (mask_of words) 22 ≡ false
  pub space_avail : has (mask_of words) 42 ≡ false
  pub space_free : has (mask_of words) 43 ≡ false

abbrev pub AsksNoFree : Profile → List ℕ → Type 0
AsksNoFree profile words = (profile ≡ Exact) ⊎ LeavesOutFree words

-- And two GETATTRs of the same attributes are answered the same: all of the object's, also the number of names.
abbrev pub AttributesAreAlike : Type 0
AttributesAreAlike = (start : Start) (earlier : List Arrival) (c : Arrival) (front : List RanOp) (d : RanOp) (back : List RanOp) (more : List Arrival) (e : RanOp)
    (n : ℕ) (words : List ℕ)
    → (let s = reached start earlier in
    ops_of s c ≡ front ++ d ∷ back → In e back ⊎ RunsIn (state_after s c) more e
    → change_of e.before.store.tree n ≡ change_of d.before.store.tree n → AsksNoFree d.before.store.tree.profile words
    → GetsOf n words d → GetsOf n words e → e.result ≡ d.result)

-- The change is told: a GETATTR of attribute 3 that is answered NFS4_OK gives that of the object, whatever else it asks for. So who is told the same change twice has
-- what the promises above say.
abbrev pub ChangeIsTold : Type 0
ChangeIsTold = (start : Start) (records : List Arrival) (c : Arrival) (d : RanOp) (words : List ℕ) (n : ℕ)
    → In d (ops_of (reached start records) c) → d.item ≡ Operation (Op.GetAttr words) → has (mask_of words) 3 ≡ true → is_ok d.status ≡ true
    → d.context.current ≡ Some n → TellsValue d.before.store.tree.profile 3 (hyper (change_of d.before.store.tree n)) (mask_of words) d.result
