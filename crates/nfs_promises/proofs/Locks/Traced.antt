-- What stands behind operations, or behind a record, back to the operation that granted it, or to what was before them.
use Rattle.std.proofs.Common.{append_assoc, append-nil, ◌≡◌, ◌⊎◌, ℕ, Bool, List, [], ◌∷◌, ◌++◌, Option, Some, None, refl, sym, ◌∙◌, ap, subst, inl, inr}
use Rattle.std.specs.Option.{option_map_or}
use Rattle.nfs_xdr.specs.Tables.{In}
use Rattle.nfs_opens.specs.Table.{Table}
use Rattle.nfs_names.specs.{declared.start.Start.Start, Ending.table_staying, State.State}
use Rattle.nfs_exec.specs.{Runs.Ops.{RanOp, ops_by, left_by, AreChained}, Step.Laws.{MachineEvent, stepped}, Step.Machine.Machine}
use Rattle.nfs_exec.proofs.Runs.{KeptByRuns.Is, OneWalk.{Ran, Idled, event_did, ended, in_back, none_at}}
use Rattle.nfs_serve.specs.Step.{ServerState, new_state}
use Rattle.nfs_promises.specs.{Bytes.ChangeTells.RunsIn, Network.Endpoint.Arrival, Runs.Points.{reached, before, asked_by, ops_of}}
use Rattle.nfs_promises.proofs.Runs.{LaterRecords.{IsDone, asked_done, first_there, reached_more, whole_at, runs_before, runs_last}, Points.{left, next_is}}

-- Something is on a table of opens in some way; some operations grant it, some spare it, and some lead from one way to another.
pub record Trace : Type 1 where
  pub Way : Type 0
  pub On : Way → Table → Type 0
  pub Grants : Way → RanOp → Type 0
  pub Spares : RanOp → Type 0
  pub Leads : Way → List RanOp → Way → Type 0

abbrev pub AllSpare : Trace → List RanOp → Type 0
AllSpare k ds = (d : RanOp) → In d ds → k.Spares d

-- It was there before them, and they spared it; or one of them granted it, and those behind that spared it.
pub data Traced (k : Trace) (w : k.Way) (t : Table) (ds : List RanOp) : Type 0 where
  Stood : (had : k.Way) → k.On had t → AllSpare k ds → k.Leads had ds w → Traced k w t ds
  Given : (front : List RanOp) (first : RanOp) (back : List RanOp) (asked : k.Way) → ds ≡ front ++ first ∷ back → k.Grants asked first → AllSpare k back
      → k.Leads asked back w → Traced k w t ds

-- before an operation that did not grant it
pub record Was (k : Trace) (w : k.Way) (d : RanOp) : Type 0 where
  pub had : k.Way
  pub stood : k.On had d.before.store.opens
  pub spared : k.Spares d
  pub leads : (last : k.Way) (more : List RanOp) → k.Leads w more last → k.Leads had (d ∷ more) last

-- one operation, and what ends clients
pub record IsTrace (k : Trace) : Type 0 where
  pub none : (w : k.Way) → k.Leads w [] w
  pub step : (w : k.Way) (d : RanOp) → IsDone d → k.On w d.behind.store.opens → k.Grants w d ⊎ Was k w d
  pub staying : (w : k.Way) (t : Table) (stays : ℕ → Bool) → k.On w (table_staying stays t) → k.On w t

chained_front : (m : Machine) (front : List RanOp) (d : RanOp) (back : List RanOp) → AreChained m (front ++ d ∷ back) → AreChained m front × (d.before ≡ left_by m front)
chained_front m [] d back chained = (tt, chained.0)
chained_front m (f ∷ front) d back chained = let rest = chained_front f.behind front d back chained.1 in ((chained.0, rest.0), rest.1)

pub in_front : (d : RanOp) (front back : List RanOp) → In d front → In d (front ++ back)
in_front d [] back there = absurd there
in_front d (f ∷ front) back (inl here) = inl here
in_front d (f ∷ front) back (inr later) = inr (in_front d front back later)

module _ (k : Trace) (is : IsTrace k) where
  traced : (w : k.Way) (m : Machine) (ds : List RanOp) → AreChained m ds → ((d : RanOp) → In d ds → IsDone d) → k.On w (left_by m ds).store.opens
      → Traced k w m.store.opens ds
  traced w m [] chained done on = Stood w on (λ d there. absurd there) (is.none w)
  traced w m (d ∷ more) chained done on = elim (traced w d.behind more chained.1 (λ e there. done e (inr there)) on) [
    | Given front first back asked same grants spared leads ↦ Given (d ∷ front) first back asked (ap (λ (ds : List RanOp). d ∷ ds) same) grants spared leads
    | Stood had stood spared leads ↦ elim (is.step had d (done d (inl refl)) stood) [
      | inl grants ↦ Given [] d more had refl grants spared leads
      | inr was ↦ Stood was.had (subst (λ (m : Machine). k.On was.had m.store.opens) chained.0 was.stood) (λ e there. elim there [
        | inl same ↦ subst k.Spares (sym same) was.spared
        | inr later ↦ spared e later
      ]) (was.leads w more leads)
    ]
  ]

  over_ends : (w : k.Way) (s : State) (ends : List (ℕ → Bool)) → k.On w (ended s ends).opens → k.On w s.opens
  over_ends w s [] on = on
  over_ends w s (stays ∷ before) on = over_ends w s before (is.staying w (ended s before).opens stays on)

  -- behind an event
  event_traced : (w : k.Way) (m : Machine) (e : MachineEvent) → Is m → k.On w (stepped m e).store.opens → Traced k w m.store.opens (ops_by m e)
  event_traced w m e whole on = elim (event_did m e) [
    | Ran runs ↦ subst (λ (s : State). Traced k w s.opens (ops_by m e)) runs.same
        (traced w runs.from (ops_by m e) runs.chained (asked_done m (Some e) whole) (subst (λ (s : State). k.On w s.opens) runs.left on))
    | Idled idle ↦ subst (Traced k w m.store.opens) (sym idle.none)
        (Stood w (over_ends w m.store idle.ends (subst (λ (s : State). k.On w s.opens) idle.left on)) (λ d there. absurd there) (is.none w))
  ]

  pub asked_traced : (w : k.Way) (m : Machine) (o : Option MachineEvent) → Is m → k.On w (left m o).store.opens → Traced k w m.store.opens (option_map_or (ops_by m) o [])
  asked_traced w m None whole on = Stood w on (λ d there. absurd there) (is.none w)
  asked_traced w m (Some e) whole on = event_traced w m e whole on

  -- before one of its operations
  event_until : (w : k.Way) (m : Machine) (e : MachineEvent) (until : List RanOp) (d : RanOp) (back : List RanOp) → Is m → ops_by m e ≡ until ++ d ∷ back
      → k.On w d.before.store.opens → Traced k w m.store.opens until
  event_until w m e until d back whole same on = elim (event_did m e) [
    | Ran runs ↦ (let front = chained_front runs.from until d back (subst (AreChained runs.from) same runs.chained) in
        subst (λ (s : State). Traced k w s.opens until) runs.same
        (traced w runs.from until front.0 (λ c there. asked_done m (Some e) whole c (subst (In c) (sym same) (in_front c until (d ∷ back) there)))
        (subst (λ (m : Machine). k.On w m.store.opens) front.1 on)))
    | Idled idle ↦ absurd (none_at until d back (sym idle.none ∙ same))
  ]

  pub asked_until : (w : k.Way) (m : Machine) (o : Option MachineEvent) (until : List RanOp) (d : RanOp) (back : List RanOp) → Is m
      → option_map_or (ops_by m) o [] ≡ until ++ d ∷ back → k.On w d.before.store.opens → Traced k w m.store.opens until
  asked_until w m None until d back whole same on = absurd (none_at until d back same)
  asked_until w m (Some e) until d back whole same on = event_until w m e until d back whole same on

-- Where something is said of what a record granted, and of what stood before a record and was spared by it, it is said of all that stands.
module _ (k : Trace) (is : IsTrace k) (start : Start) (empty : (w : k.Way) → k.On w (new_state start).machine.store.opens → ⊥) (Since : List Arrival → k.Way → Type 0)
    (given : (records : List Arrival) (c : Arrival) (front : List RanOp) (first : RanOp) (back : List RanOp) (asked w : k.Way) → ops_of (reached start records) c ≡ front ++ first ∷ back
    → k.Grants asked first → AllSpare k back → k.Leads asked back w → Since (records ++ c ∷ []) w)
    (stood : (records : List Arrival) (c : Arrival) (had w : k.Way) → Since records had → k.On had (before (reached start records) c).store.opens → AllSpare k (ops_of (reached start records) c)
    → k.Leads had (ops_of (reached start records) c) w → k.On w (left (before (reached start records) c) (asked_by (reached start records) c)).store.opens → Since (records ++ c ∷ []) w) where
  abbrev AreSo : List Arrival → Type 0
  AreSo records = (w : k.Way) → k.On w (reached start records).machine.store.opens → Since records w

  so_next : (records : List Arrival) (c : Arrival) → AreSo records → AreSo (records ++ c ∷ [])
  so_next records c all w on =
      let s = reached start records in
      let here : k.On w (left (before s c) (asked_by s c)).store.opens =
      subst (λ (s : ServerState). k.On w s.machine.store.opens) (reached_more (new_state start) records c ∙ next_is s c) on in
      elim (asked_traced k is w (before s c) (asked_by s c) (whole_at start records c) here) [
        | Given front first back asked same grants spared leads ↦ given records c front first back asked w same grants spared leads
        | Stood had there spared leads ↦ stood records c had w (all had (is.staying had s.machine.store.opens _ there)) there spared leads here
      ]

  so_all : (done more : List Arrival) → AreSo done → AreSo (done ++ more)
  so_all done [] all = subst AreSo (sym (append-nil done)) all
  so_all done (c ∷ more) all = subst AreSo (append_assoc done (c ∷ []) more) (so_all (done ++ c ∷ []) more (so_next done c all))

  pub so_before : (records : List Arrival) (c : Arrival) (w : k.Way) → k.On w (before (reached start records) c).store.opens → Since records w
  so_before records c w on = so_all [] records (λ w on. absurd (empty w on)) w (is.staying w (reached start records).machine.store.opens _ on)

-- Where what grants a way grants what it leads to, and none is there at the start, each was granted in some record, or in the same compound.
module _ (k : Trace) (is : IsTrace k) (carry : (d : RanOp) (had w : k.Way) (ds : List RanOp) → k.Leads had ds w → k.Grants had d → k.Grants w d) (start : Start)
    (empty : (w : k.Way) → k.On w (new_state start).machine.store.opens → ⊥) where
  abbrev WasGranted : List Arrival → k.Way → Type 0
  WasGranted records w = (first : RanOp) × RunsIn (new_state start) records first × k.Grants w first

  granted_before : (records : List Arrival) (c : Arrival) (w : k.Way) → k.On w (before (reached start records) c).store.opens → WasGranted records w
  granted_before = so_before k is start empty WasGranted
      (λ records c front first back asked w same grants spared leads.
      (first, runs_last (new_state start) records c first (first_there (reached start records) c front first back same), carry first asked w back leads grants))
      (λ records c had w b on spared leads here. (b.0, runs_before (new_state start) records (c ∷ []) b.0 b.1, carry b.0 had w (ops_of (reached start records) c) leads b.2))

  pub granted_in : (records : List Arrival) (c : Arrival) (until : List RanOp) (d : RanOp) (behind : List RanOp) → ops_of (reached start records) c ≡ until ++ d ∷ behind
      → (w : k.Way) → k.On w d.before.store.opens → (first : RanOp) × (RunsIn (new_state start) records first ⊎ In first until) × k.Grants w first
  granted_in records c until d behind same w on =
      let s = reached start records in
      elim (asked_until k is w (before s c) (asked_by s c) until d behind (whole_at start records c) same on) [
        | Given front first back asked at grants spared leads ↦
            (first, inr (subst (In first) (sym at) (in_back first front (first ∷ back) (inl refl))), carry first asked w back leads grants)
        | Stood had stood spared leads ↦ (let b = granted_before records c had stood in
            (b.0, inl b.1, carry b.0 had w until leads b.2))
      ]
