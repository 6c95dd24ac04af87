-- A listing in pages is whole: each name that stands all the while is listed once, with its cookie and its object's attributes, and nothing is listed that does not
-- stand, whatever comes between the pages (RFC 8881 section 18.23).
use Rattle.std.specs.{Prelude.{◌≡◌, ℕ, suc, ◌<◌, true, false, List, [], ◌∷◌, ◌++◌, Some, count_by, bytes_eq}, List.flat_map}
use Rattle.nfs_xdr.specs.Tables.{IsRising, In}
use Rattle.nfs_compound.specs.{declared.name_args.ReadDir.ReadDir, declared.op.Item.TheVariants.Operation}
use Rattle.nfs_compound.specs.declared.op.Op.TheVariants as Op
use Rattle.nfs_results.specs.{declared.res.Entry.Entry, declared.res.ReadDirOk.ReadDirOk, ResultCodec.FitsResult, Results.spell_result}
use Rattle.nfs_results.specs.declared.res.Res.TheVariants as Res
use Rattle.nfs_tree.specs.{declared.row.Row.Row, Files.listed}
use Rattle.nfs_attrs.specs.Mask.{mask_of}
use Rattle.nfs_names.specs.{declared.start.Start.Start, ReadDir.entry_of}
use Rattle.nfs_exec.specs.Runs.Ops.{RanOp}
use Rattle.nfs_serve.specs.{Step.{ServerState, new_state}}
use Rattle.nfs_promises.specs.{Bytes.ChangeTells.RunsIn, Network.Endpoint.Arrival, Names.NameStays.{Name, TakesIt, MakesIt, Says, Denies, AllSpare, next_of}}
use Rattle.nfs_promises.specs.{Names.NameStays.row_of, Runs.Points.{state_after, reached, ops_of}}

-- a READDIR that was run, and a page of a listing
pub record Page : Type 0 where
  pub op : RanOp
  pub asked : ReadDir
  pub told : ReadDirOk

-- It was one of this directory from a cookie on, and answered NFS4_OK and that page.
pub record IsPage (directory cookie : ℕ) (p : Page) : Type 0 where
  pub is : p.op.item ≡ Operation (Op.ReadDir p.asked)
  pub at : p.op.context.current ≡ Some directory
  pub from : p.asked.cookie ≡ cookie
  pub valid : FitsResult (Res.ReadDir p.told)
  pub answers : p.op.result ≡ spell_result (Res.ReadDir p.told)

-- the cookie of the last entry, or the one that was asked for where there is none
abbrev pub last_cookie : ℕ → List Entry → ℕ
last_cookie cookie [] = cookie
last_cookie cookie (e ∷ entries) = last_cookie e.cookie entries

-- A listing from a cookie on, by a page and more of them: each begins behind the last entry of the one before it, and the last says that the directory ends.
abbrev pub ArePages : (directory cookie : ℕ) → Page → List Page → Type 0
ArePages directory cookie p [] = IsPage directory cookie p × (p.told.eof ≡ true)
ArePages directory cookie p (q ∷ more) = IsPage directory cookie p × ArePages directory (last_cookie cookie p.told.entries) q more

abbrev pub entries_of : List Page → List Entry
entries_of pages = flat_map (λ (p : Page). p.told.entries) pages

-- what the READDIR of a page has to say of a row: its name, its cookie, and of its object the attributes that are asked for, as they are before that READDIR
abbrev pub entry_in : Page → Row → Entry
entry_in p r = entry_of p.op.before.store (mask_of p.asked.attr_request) (listed r)

-- one entry has the row's name, and it is that of the row
pub record IsListedOnce (r : Row) (pages : List Page) : Type 0 where
  pub once : count_by (λ (e : Entry). bytes_eq e.name r.name) (entries_of pages) ≡ 1
  pub entry : (p : Page) (e : Entry) → In p pages → In e p.told.entries → e.name ≡ r.name → e ≡ entry_in p r

-- In every run of a server, from its start on: a row that stands before each READDIR of a listing is listed once.
abbrev pub RowsAreListed : Type 0
RowsAreListed = (start : Start) (records : List Arrival) (r : Row) (p : Page) (more : List Page)
    → ((q : Page) → In q (p ∷ more) → RunsIn (new_state start) records q.op)
    → ((q : Page) → In q (p ∷ more) → In r q.op.before.store.tree.rows)
    → ArePages r.directory 0 p more → IsListedOnce r (p ∷ more)

-- Each entry of a page is of a row of the directory, behind the cookie that was asked for. The cookies rise. A page that does not say that the directory ends has an
-- entry, and a row of the directory is behind it.
pub record IsPart (directory cookie : ℕ) (p : Page) : Type 0 where
  pub there : (e : Entry) → In e p.told.entries
      → (r : Row) × In r p.op.before.store.tree.rows × (r.directory ≡ directory) × (cookie < r.cookie) × (e ≡ entry_in p r)
  pub last : ℕ
  pub rises : IsRising (λ (e : Entry). e.cookie) (suc cookie) p.told.entries last
  pub some : p.told.eof ≡ false → p.told.entries ≡ [] → ⊥
  pub behind : p.told.eof ≡ false
      → (r : Row) × In r p.op.before.store.tree.rows × (r.directory ≡ directory) × (last_cookie cookie p.told.entries < r.cookie)

abbrev pub PagesAreParts : Type 0
PagesAreParts = (start : Start) (records : List Arrival) (directory cookie : ℕ) (p : Page) → RunsIn (new_state start) records p.op
    → IsPage directory cookie p → IsPart directory cookie p

-- the operations that records run, one after the other
abbrev pub all_ops : ServerState → List Arrival → List RanOp
all_ops s [] = []
all_ops s (c ∷ more) = ops_of s c ++ all_ops (state_after s c) more

-- So by what operations were answered: an operation said that a name leads to an object, and none of those behind it may have taken the name away, up to a point. Then a
-- listing of the directory before that point lists the name once, with that object's attributes; whoever asks for its pages, in whatever records.
abbrev pub NamesAreListed : Type 0
NamesAreListed = (start : Start) (earlier : List Arrival) (c : Arrival) (k : Name) (front : List RanOp) (d : RanOp) (back : List RanOp) (later : List Arrival)
    (until rest : List RanOp) (p : Page) (more : List Page)
    → (let s = reached start earlier in
    ops_of s c ≡ front ++ d ∷ back → Says k d (next_of back) → back ++ all_ops (state_after s c) later ≡ until ++ rest
    → AllSpare (λ e. TakesIt k.directory k.name e → ⊥) until
    → ((q : Page) → In q (p ∷ more) → In q.op until) → ArePages k.directory 0 p more
    → (cookie : ℕ) × IsListedOnce (row_of k cookie) (p ∷ more))

-- And a name that was said to lead nowhere is in no page, up to where an operation may make it.
abbrev pub GoneIsUnlisted : Type 0
GoneIsUnlisted = (start : Start) (earlier : List Arrival) (c : Arrival) (directory : ℕ) (name : List ℕ) (front : List RanOp) (d : RanOp) (back : List RanOp)
    (later : List Arrival) (until rest : List RanOp) (cookie : ℕ) (p : Page) (e : Entry)
    → (let s = reached start earlier in
    ops_of s c ≡ front ++ d ∷ back → Denies directory name d → back ++ all_ops (state_after s c) later ≡ until ++ rest
    → AllSpare (λ o. MakesIt directory name o → ⊥) until
    → In p.op until → IsPage directory cookie p → In e p.told.entries → e.name ≡ name → ⊥)
