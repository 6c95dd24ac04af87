-- Times tell of changes: in `unix` a later change gives a later time, within a second too, to the same object or another (RFC 8881 sections 5.8.2.42 and 5.8.2.43).
use Rattle.std.specs.Prelude.{◌≡◌, ◌≢◌, ◌⊎◌, ℕ, ◌+◌, ◌^◌, ◌<◌, ◌≤◌, pos, true, List, [], ◌∷◌, ◌++◌, length, Option, Some, option_map}
use Rattle.nfs_xdr.specs.{Wire.nfstime4, declared.time.Time.Time, Tables.In}
use Rattle.nfs_compound.specs.{declared.file_args.SetAttr.SetAttr, declared.op.Item.TheVariants.Operation}
use Rattle.nfs_compound.specs.declared.op.Op.TheVariants as Op
use Rattle.nfs_results.specs.Results.{spell_result}
use Rattle.nfs_results.specs.declared.res.Res.TheVariants as Res
use Rattle.nfs_tree.specs.{declared.profile.Profile.TheVariants.Unix, Files.{Files, stored_in, is_there}}
use Rattle.nfs_names.specs.{declared.start.Start.Start, Outcome.is_ok}
use Rattle.nfs_exec.specs.Runs.Ops.{RanOp}
use Rattle.nfs_serve.specs.{Step.ServerState}
use Rattle.nfs_promises.specs.{Network.Endpoint.Arrival, Runs.Points.{state_after, reached, ops_of}, Bytes.{ChangeTells.{RunsIn, GetsOf}, ChangeSeen.Changes}}

-- the time of an object's last change, attribute 52, and that of its bytes or entries, attribute 53
abbrev pub metadata_of : Files → ℕ → Option Time
metadata_of t n = option_map (λ s. s.object.metadata) (stored_in t.objects n)

abbrev pub modify_of : Files → ℕ → Option Time
modify_of t n = option_map (λ s. s.object.modify) (stored_in t.objects n)

-- How the time of a change stands to that of a later one, if so many operations ran behind the first. Their seconds are those of a clock that is not set back. Within one
-- second the later has more nanoseconds, as long as these do not come to 10^9; and other ones, as long as fewer than 10^9 operations ran.
pub record Rises (between : ℕ) (first second : Time) : Type 0 where
  pub was : ℕ
  pub is : ℕ
  pub from : first.seconds ≡ pos was
  pub to : second.seconds ≡ pos is
  pub forward : was ≤ is
  pub later : first.nanoseconds + between < 10 ^ 9 → (was < is) ⊎ (first.nanoseconds < second.nanoseconds)
  pub other : between < 10 ^ 9 → (was < is) ⊎ (second.nanoseconds ≢ first.nanoseconds)

-- the same of what is there
abbrev pub BothRise : ℕ → Option Time → Option Time → Type 0
BothRise between before behind = (first : Time) × (second : Time) × (before ≡ Some first) × (behind ≡ Some second) × Rises between first second

-- no SETATTR, which can set a time
abbrev pub SetsNothing : RanOp → Type 0
SetsNothing d = (a : SetAttr) → d.item ≡ Operation (Op.SetAttr a) → ⊥

-- each change gives its object a time, and what is no SETATTR gives its bytes or entries one
pub record TimesOf (between n m : ℕ) (d e : RanOp) : Type 0 where
  pub metadata : BothRise between (metadata_of d.behind.store.tree n) (metadata_of e.behind.store.tree m)
  pub modify : SetsNothing d → SetsNothing e → BothRise between (modify_of d.behind.store.tree n) (modify_of e.behind.store.tree m)

-- how many operations the compounds of these records run
abbrev pub many : ServerState → List Arrival → ℕ
many s [] = 0
many s (c ∷ more) = length (ops_of s c) + many (state_after s c) more

-- an operation that was answered NFS4_OK changes an object that is there
pub record IsChange (n : ℕ) (d : RanOp) : Type 0 where
  pub there : is_there d.before.store.tree n ≡ true
  pub ok : is_ok d.status ≡ true
  pub changes : Changes n d

-- In every run of a server of the profile `unix`, from its start on: behind two changes, of one object or of two, whoever made them and whatever ran between.
abbrev pub TimesRise : Type 0
TimesRise = (start : Start) (earlier : List Arrival) (c : Arrival) (front : List RanOp) (d : RanOp) (back : List RanOp) (more : List Arrival) (e : RanOp) (n m : ℕ)
    → (let s = reached start earlier in
    ops_of s c ≡ front ++ d ∷ back → In e back ⊎ RunsIn (state_after s c) more e → start.profile ≡ Unix → IsChange n d → IsChange m e
    → TimesOf (length back + many (state_after s c) more) n m d e)

-- attributes 52 and 53, and no other
abbrev pub both_times : List ℕ
both_times = 0 ∷ 0x0030_0000 ∷ []

-- They are told: a GETATTR of both that is answered NFS4_OK gives the object's.
abbrev pub TimesAreTold : Type 0
TimesAreTold = (start : Start) (records : List Arrival) (c : Arrival) (d : RanOp) (n : ℕ) (metadata modify : Time)
    → In d (ops_of (reached start records) c) → GetsOf n both_times d
    → metadata_of d.before.store.tree n ≡ Some metadata → modify_of d.before.store.tree n ≡ Some modify
    → d.result ≡ spell_result (Res.GetAttr (record { attrmask = both_times; attr_vals = (nfstime4 metadata).bytes ++ (nfstime4 modify).bytes }))
