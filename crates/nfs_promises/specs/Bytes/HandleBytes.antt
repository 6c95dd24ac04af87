-- Bytes that were written to a filehandle are read from it until they are changed, by what was asked and answered alone (RFC 8881 sections 18.16, 18.19, 18.22, 18.30 and
-- 18.32).
use Rattle.std.specs.Prelude.{◌≡◌, ℕ, ◌<◌, ◌^◌, List, [], ◌∷◌, ◌++◌, Option, Some}
use Rattle.nfs_names.specs.declared.start.Start.{Start}
use Rattle.nfs_files.specs.Written.{Byte, WritesOver, SetsSize, OpensEmpty, Reads, GivesIt}
use Rattle.nfs_exec.specs.Runs.{Ops.RanOp, WrittenRun.WritesIt}
use Rattle.nfs_serve.specs.Step.{ServerState, new_state}
use Rattle.nfs_promises.specs.{Runs.Points.{state_after, reached, ops_of}, Network.Endpoint.Arrival, Names.KnownHandles.{KnownName, Known, starts, behind}}
use Rattle.nfs_promises.specs.Names.KnownHandles.{known_after, known_after_all, names_after, root_of}

-- a byte at a place of a filehandle's file
pub record ByteAt : Type 0 where
  pub handle : List ℕ
  pub place : ℕ
  pub value : ℕ

abbrev pub in_file : ℕ → ByteAt → Byte
in_file n b = record { file = n; place = b.place; value = b.value }

-- what is known rules out no filehandle but others than this
abbrev pub MayBe : List ℕ → Option (List ℕ) → Type 0
MayBe h known = (g : List ℕ) → known ≡ Some g → g ≡ h

-- The operation is no WRITE over the place, no SETATTR of a size at or below it and no OPEN that sets the size 0, of what may be the file, that is answered NFS4_OK.
pub record SparesAt (top : List ℕ) (b : ByteAt) (k : Known) (d : RanOp) : Type 0 where
  pub writes : (n : ℕ) → WritesOver n b.place d.context d.item d.result → MayBe b.handle k.current → ⊥
  pub sizes : (n : ℕ) → SetsSize n b.place d.context d.item d.result → MayBe b.handle k.current → ⊥
  pub opens : (n : ℕ) → OpensEmpty n d.before.store d.context d.item d.result → MayBe b.handle (behind top k d.item d.result).current → ⊥

abbrev pub AllSpareAt : List ℕ → ByteAt → Known → List RanOp → Type 0
AllSpareAt top b k [] = Unit {0}
AllSpareAt top b k (d ∷ more) = SparesAt top b k d × AllSpareAt top b (known_after top k d) more

-- a READ under the filehandle that asks for the place, and is answered NFS4_OK, is given the byte
abbrev pub GivesAt : ByteAt → Known → RanOp → Type 0
GivesAt b k d = k.current ≡ Some b.handle → (n : ℕ) (r : Reads n b.place d.context d.item d.result) → GivesIt (in_file n b) d.context d.item d.result r

-- each such READ among operations, and through records, as long as all before it spared the byte
abbrev pub ReadsBack : List ℕ → ByteAt → Known → List RanOp → Type 0
ReadsBack top b k [] = Unit {0}
ReadsBack top b k (d ∷ more) = GivesAt b k d × (SparesAt top b k d → ReadsBack top b (known_after top k d) more)

abbrev pub ReadsBackThrough : List ℕ → ByteAt → List KnownName → ServerState → List Arrival → Type 0
ReadsBackThrough top b names s [] = Unit {0}
ReadsBackThrough top b names s (c ∷ more) =
    ReadsBack top b (starts names) (ops_of s c)
    × (AllSpareAt top b (starts names) (ops_of s c) → ReadsBackThrough top b (names_after top names s c) (state_after s c) more)

-- the names that are known behind records
abbrev pub names_behind : List ℕ → List KnownName → ServerState → List Arrival → List KnownName
names_behind top names s [] = names
names_behind top names s (c ∷ more) = names_behind top (names_after top names s c) (state_after s c) more

-- In every run of a server, from its start on: a WRITE under a filehandle that was known brought the byte, and was answered NFS4_OK. Whoever reads the place by the
-- filehandle is given it, behind the WRITE in its compound and in whatever records come.
abbrev pub BytesFollow : Type 0
BytesFollow = (start : Start) → start.instance < 2 ^ 32
    → (earlier : List Arrival) (c : Arrival) (b : ByteAt) (n : ℕ) (front : List RanOp) (write : RanOp) (back : List RanOp)
    → (let s = reached start earlier in
    let top = root_of start.instance in
    let names = names_behind top [] (new_state start) earlier in
    let k = known_after_all top (starts names) front in
    ops_of s c ≡ front ++ write ∷ back → k.current ≡ Some b.handle → WritesIt (in_file n b) write
    → ReadsBack top b (known_after top k write) back
    × (AllSpareAt top b (known_after top k write) back → (more : List Arrival) → ReadsBackThrough top b (names_after top names s c) (state_after s c) more))
