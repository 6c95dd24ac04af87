-- A listing in pages, worked by hand (RFC 8881 section 18.23). The client `A` of `WrittenStaysWorked`, which made the file `f`, makes the files `g` and
-- `h` too. It lists the root in pages into which one entry fits, and removes `f` between the first page and the second.
use Rattle.std.specs.Prelude.{◌≡◌, ℕ, Bool, true, false, List, [], ◌∷◌, ◌++◌}
use Rattle.nfs_xdr.specs.Tables.{In}
use Rattle.nfs_compound.specs.declared.name_args.ReadDir.{ReadDir}
use Rattle.nfs_compound.specs.declared.op.Op.{Op}
use Rattle.nfs_results.specs.{declared.res.Entry.Entry, declared.res.ReadDirOk.ReadDirOk}
use Rattle.nfs_tree.specs.Files.{root}
use Rattle.nfs_names.specs.ReadDir.{zeros}
use Rattle.nfs_exec.specs.Runs.Ops.{RanOp}
use Rattle.nfs_serve.specs.{Step.ServerState}
use Rattle.nfs_promises.specs.{Runs.{Requests.{in_session, unchecked, opening_by, listing_from}, Points.{state_after, ops_of}}, Network.Endpoint.Arrival}
use Rattle.nfs_promises.specs.{Locks.LockKeptWorked.{came, last_of}, Names.{ListsAll.{Page, ArePages, IsListedOnce, IsPart, all_ops}, NameStays.Name}}
use Rattle.nfs_promises.specs.{Names.NameStays.{TakesIt, Says, AllSpare, next_of, row_of}, Bytes.WrittenStaysWorked.made}

abbrev pub opens : (name : List ℕ) → List Op
opens name = Op.PutRootFh ∷ opening_by (0x6f ∷ []) 3 0 unchecked name ∷ []

abbrev pub makes_more : Arrival
makes_more = came 103 4 (in_session 1 2 (opens (0x67 ∷ []) ++ opens (0x68 ∷ [])))

abbrev pub lists : (now number cookie : ℕ) → Arrival
lists now number cookie = came now number (in_session 1 number (Op.PutRootFh ∷ listing_from cookie 44 [] ∷ []))

abbrev pub first : Arrival
first = lists 104 3 0

abbrev pub removes : Arrival
removes = came 105 6 (in_session 1 4 (Op.PutRootFh ∷ Op.Remove (0x66 ∷ []) ∷ []))

abbrev pub second : Arrival
second = lists 106 5 3

abbrev pub third : Arrival
third = lists 107 6 4

abbrev pub later : List Arrival
later = first ∷ removes ∷ second ∷ third ∷ []

abbrev pub more : ServerState
more = state_after made makes_more

abbrev pub begun : ServerState
begun = state_after more first

abbrev pub removed : ServerState
removed = state_after begun removes

abbrev pub gone_on : ServerState
gone_on = state_after removed second

-- what is asked for, and what is told: an entry has a name of one byte
abbrev pub asked : (cookie : ℕ) → ReadDir
asked cookie = record { cookie = cookie; cookieverf = zeros; dircount = 44; maxcount = 44; attr_request = [] }

abbrev pub entry : (cookie name : ℕ) → Entry
entry cookie name = record { cookie = cookie; name = name ∷ []; attrs = record { attrmask = []; attr_vals = [] } }

abbrev pub told : List Entry → (eof : Bool) → ReadDirOk
told entries eof = record { cookieverf = zeros; entries = entries; eof = eof }

abbrev pub page : RanOp → (cookie : ℕ) → ReadDirOk → Page
page d cookie told = record { op = d; asked = asked cookie; told = told }

-- `g` in the root, which leads to object 3
abbrev pub g : Name
g = record { directory = root; name = 0x67 ∷ []; object = 3 }

-- The run meets the premises of the promises, and computes to what they say.
pub record IsListedInPages : Type 0 where
  -- the first OPEN said `g`; no operation behind it takes that away
  pub front : List RanOp
  pub opening : RanOp
  pub back : List RanOp
  pub ops : ops_of made makes_more ≡ front ++ opening ∷ back
  pub says : Says g opening (next_of back)
  pub spared : AllSpare (λ e. TakesIt g.directory g.name e → ⊥) (back ++ all_ops more later)
  -- three pages: `f`, `g` and `h`
  pub one : RanOp
  pub two : RanOp
  pub three : RanOp
  pub run : (p : Page)
      → In p (page one 0 (told (entry 3 0x66 ∷ []) false) ∷ page two 3 (told (entry 4 0x67 ∷ []) false) ∷ page three 4 (told (entry 5 0x68 ∷ []) true) ∷ [])
      → In p.op (back ++ all_ops more later)
  pub pages : ArePages root 0 (page one 0 (told (entry 3 0x66 ∷ []) false))
      (page two 3 (told (entry 4 0x67 ∷ []) false) ∷ page three 4 (told (entry 5 0x68 ∷ []) true) ∷ [])

-- The promises refuse these, under whatever cookie `g` is listed.
pub record ListingsAreRefused : Type 0 where
  -- the second page is without `g`, since it begins behind as many entries as were listed before `f` was removed
  pub skipped : (d e : RanOp) (cookie : ℕ)
      → IsListedOnce (row_of g cookie) (page d 0 (told (entry 3 0x66 ∷ []) false) ∷ page e 3 (told (entry 5 0x68 ∷ []) true) ∷ []) → ⊥
  -- both pages have `g`
  pub twice : (d e : RanOp) (cookie : ℕ)
      → IsListedOnce (row_of g cookie)
      (page d 0 (told (entry 3 0x66 ∷ entry 4 0x67 ∷ []) false) ∷ page e 4 (told (entry 4 0x67 ∷ entry 5 0x68 ∷ []) true) ∷ []) → ⊥
  -- a READDIR lists nothing, and says that the directory ends
  pub none : (d : RanOp) (cookie : ℕ) → IsListedOnce (row_of g cookie) (page d 0 (told [] true) ∷ []) → ⊥
  -- it lists `x`, which nobody made
  pub unmade : (d : RanOp) → IsPart root 0 (page (last_of d (ops_of more first)) 0 (told (entry 6 0x78 ∷ []) false)) → ⊥
  -- it lists nothing, and says that the directory goes on
  pub idle : (d : RanOp) → IsPart root 0 (page d 0 (told [] false)) → ⊥
