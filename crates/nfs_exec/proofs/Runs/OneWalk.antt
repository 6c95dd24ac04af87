-- One walk over the operations of an event, for whatever stays while they spare it.
use Rattle.std.proofs.Common.{◌≡◌, ℕ, Bool, true, eqb, not, List, [], ◌∷◌, ◌++◌, Option, Some, None, refl, sym, ◌∙◌, ap, subst, inl, inr}
use Rattle.nfs_xdr.specs.Tables.{In}
use Rattle.nfs_compound.specs.declared.session_args.Sequence.{Sequence}
use Rattle.nfs_sessions.specs.Id.{id_of}
use Rattle.nfs_lease.specs.Renewals.{has_run_out}
use Rattle.nfs_names.specs.{Context.begins, Ending.staying, State.State}
use Rattle.nfs_exec.specs.Step.{Machine.Machine, Run.{is_here, behind_here}, Compound.{renewed, begun}, Parts.without_any_opens}
use Rattle.nfs_exec.specs.{Runs.Kept.{Kept, While, AreSpared, after_all}, Step.Laws.{MachineEvent, Expires, Asks, stepped, ran}, Runs.LockHeld.renews}
use Rattle.nfs_exec.specs.Runs.Ops.{RanOp, ops_by, left_by, AreChained}
use Rattle.nfs_exec.proofs.{Runs.WhatWasDone.{IsRun, event_run}, Runs.ByEvent.by_compound, Step.AloneKeeps.holds_whoever, Runs.OpsRun.are_run}
use Rattle.nfs_exec.proofs.Runs.KeptByRuns.{Is}

-- What an event did to the store: it ran a chain of operations, from its store to the one behind it; or it ran none, and clients may have ended.

pub record RunsOps (m : Machine) (ds : List RanOp) (behind : Machine) : Type 0 where
  pub from : Machine
  pub same : from.store ≡ m.store
  pub chained : AreChained from ds
  pub left : behind.store ≡ (left_by from ds).store

-- who ended last stands first
abbrev pub ended : State → List (ℕ → Bool) → State
ended s [] = s
ended s (stays ∷ before) = staying stays (ended s before)

pub record IsIdle (m : Machine) (ds : List RanOp) (run : Option Sequence) (behind : Machine) : Type 0 where
  pub none : ds ≡ []
  pub unrun : run ≡ None
  pub ends : List (ℕ → Bool)
  pub left : behind.store ≡ ended m.store ends

pub data EventDid (m : Machine) (ds : List RanOp) (run : Option Sequence) (behind : Machine) : Type 0 where
  Ran : RunsOps m ds behind → EventDid m ds run behind
  Idled : IsIdle m ds run behind → EventDid m ds run behind

idle : (m behind : Machine) (ends : List (ℕ → Bool)) → behind.store ≡ ended m.store ends → EventDid m [] None behind
idle m behind ends left = Idled (record { none = refl; unrun = refl; ends = ends; left = left })

abbrev IsEnded : State → State → Type 0
IsEnded s u = (ends : List (ℕ → Bool)) × (u ≡ ended s ends)

one_more : (s u : State) (o : Option ℕ) → IsEnded s u → IsEnded s (without_any_opens u o)
one_more s u None is = is
one_more s u (Some gone) is = ((λ c. not (eqb c gone)) ∷ is.0, ap (staying (λ c. not (eqb c gone))) is.1)

pub event_did : (m : Machine) (e : MachineEvent) → EventDid m (ops_by m e) (ran m e) (stepped m e)
event_did m (Expires now) = idle m (stepped m (Expires now)) ((λ client. not (has_run_out m.store.lease m.leases now client)) ∷ []) refl
event_did m (Asks r who size now choice) = by_compound (λ left ds run. EventDid m ds run left) m r who size now choice (idle m m [] refl) (λ item.
    (let did = holds_whoever (IsEnded m.store) (one_more m.store) m r.declared who now (is_here choice) item ([], refl) in idle m _ did.0 did.1)) (λ s more c is.
    (let run = are_run c.maxresponsesize (begun r s c) now (behind_here choice) (renewed m now s) (begins (id_of s.sessionid).client who) more in
    Ran (record { from = renewed m now s; same = refl; chained = run.chained; left = ap (λ (n : Machine). n.store) run.machine })))

-- what the end of clients keeps
pub kept_ended : (P : State → Type 0) → ((stays : ℕ → Bool) (s : State) → P s → P (staying stays s)) → (s : State) (ends : List (ℕ → Bool)) → P s → P (ended s ends)
kept_ended P each s [] is = is
kept_ended P each s (stays ∷ before) is = each stays (ended s before) (kept_ended P each s before is)

pub none_at : (front : List RanOp) (d : RanOp) (back : List RanOp) → [] ≡ front ++ d ∷ back → ⊥
none_at [] d back e = (let bad : [] ≡ d ∷ back = e in absurd cc)
none_at (f ∷ front) d back e = (let bad : [] ≡ f ∷ (front ++ d ∷ back) = e in absurd cc)

chained_back : (m : Machine) (front : List RanOp) (d : RanOp) (back : List RanOp) → AreChained m (front ++ d ∷ back) → AreChained d.behind back
chained_back m [] d back chained = chained.1
chained_back m (f ∷ front) d back chained = chained_back f.behind front d back chained.1

left_back : (m : Machine) (front : List RanOp) (d : RanOp) (back : List RanOp) → left_by m (front ++ d ∷ back) ≡ left_by d.behind back
left_back m [] d back = refl
left_back m (f ∷ front) d back = left_back f.behind front d back

pub in_back : (d : RanOp) (front back : List RanOp) → In d back → In d (front ++ back)
in_back d [] back there = there
in_back d (f ∷ front) back there = inr (in_back d front back there)

-- It stays, in the way that it has by then, through each operation that spares it; and through an event that runs none, if that is one of these.
pub record Stays (k : Kept) (Leaves : Machine → MachineEvent → Type 0) : Type 0 where
  pub step : (w : k.Way) (d : RanOp) → IsRun d → k.Stands w d.before.store → k.Before w d × (k.Spares d → k.Stands (k.after w d) d.behind.store)
  pub idle : (w : k.Way) (m : Machine) (e : MachineEvent) → Is m → IsIdle m (ops_by m e) (ran m e) (stepped m e) → Leaves m e → k.Stands w m.store
      → k.Stands w (stepped m e).store

module _ (k : Kept) (Leaves : Machine → MachineEvent → Type 0) (stays : Stays k Leaves) where
  walks : (m : Machine) (ds : List RanOp) → AreChained m ds → ((d : RanOp) → In d ds → IsRun d) → (w : k.Way) → k.Stands w m.store
      → While k w ds × (AreSpared k ds → k.Stands (after_all k.after w ds) (left_by m ds).store)
  walks m [] chained runs w stands = (tt, λ spared. stands)
  walks m (d ∷ more) chained runs w stands =
      let one = stays.step w d (runs d (inl refl)) (subst (λ (m : Machine). k.Stands w m.store) (sym chained.0) stands) in
      let rest : k.Spares d → While k (k.after w d) more × (AreSpared k more → k.Stands (after_all k.after (k.after w d) more) (left_by d.behind more).store) =
      λ spares. walks d.behind more chained.1 (λ e there. runs e (inr there)) (k.after w d) (one.1 spares) in (
        (one.0, λ spares. (one.1 spares, (rest spares).0)),
        λ spared. (rest (spared d (inl refl))).1 (λ e there. spared e (inr there)),
      )

  -- through an event
  pub event_walked : (m : Machine) (e : MachineEvent) → Is m → (w : k.Way) → k.Stands w m.store
      → While k w (ops_by m e) × (AreSpared k (ops_by m e) → Leaves m e → k.Stands (after_all k.after w (ops_by m e)) (stepped m e).store)
  event_walked m e is w stands = elim (event_did m e) [
    | Ran runs ↦
        (let did = walks runs.from (ops_by m e) runs.chained (λ d there. (event_run m e is d there).0) w (subst (k.Stands w) (sym runs.same) stands) in
        (did.0, λ spared leaves. subst (k.Stands (after_all k.after w (ops_by m e))) (sym runs.left) (did.1 spared)))
    | Idled idle ↦ (
      subst (While k w) (sym idle.none) tt,
      λ spared leaves. subst (λ ds. k.Stands (after_all k.after w ds) (stepped m e).store) (sym idle.none) (stays.idle w m e is idle leaves stands),
    )
  ]

  -- and through what is behind an operation of it
  pub back_walked : (m : Machine) (e : MachineEvent) (front : List RanOp) (d : RanOp) (back : List RanOp) → Is m → ops_by m e ≡ front ++ d ∷ back
      → (w : k.Way) → k.Stands w d.behind.store
      → While k w back × (AreSpared k back → k.Stands (after_all k.after w back) (stepped m e).store)
  back_walked m e front d back is same w stands = elim (event_did m e) [
    | Ran runs ↦
        (let did = walks d.behind back (chained_back runs.from front d back (subst (AreChained runs.from) same runs.chained))
        (λ c there. (event_run m e is c (subst (In c) (sym same) (in_back c front (d ∷ back) (inr there)))).0) w stands in (
          did.0,
          λ spared. subst (k.Stands (after_all k.after w back))
              (sym (runs.left ∙ ap (λ (n : Machine). n.store) (ap (left_by runs.from) same ∙ left_back runs.from front d back))) (did.1 spared),
        ))
    | Idled idle ↦ absurd (none_at front d back (sym idle.none ∙ same))
  ]

-- From an operation on that told it, which ran in a session of the client and so renewed its lease.

pub record IsTold (k : Kept) (w : k.Way) (client : ℕ) (m : Machine) (e : MachineEvent) (back : List RanOp) : Type 0 where
  pub within : While k w back
  pub behind : AreSpared k back → k.Stands (after_all k.after w back) (stepped m e).store
  pub renewed : renews client m e ≡ true

pub told_walked : (k : Kept) (Leaves : Machine → MachineEvent → Type 0) → Stays k Leaves → (client : ℕ) (m : Machine) (e : MachineEvent) (front : List RanOp) (d : RanOp)
    (back : List RanOp) → Is m → ops_by m e ≡ front ++ d ∷ back → d.context.client ≡ client → (w : k.Way) → (IsRun d → k.Stands w d.behind.store)
    → IsTold k w client m e back
told_walked k Leaves stays client m e front d back is same mine w told =
    let run = event_run m e is d (subst (In d) (sym same) (in_back d front (d ∷ back) (inl refl))) in
    let kept = back_walked k Leaves stays m e front d back is same w (told run.0) in
    record { within = kept.0; behind = kept.1; renewed = subst (λ client. renews client m e ≡ true) mine run.1 }

-- What each operation keeps, and whoever's end, holds before each operation of an event and behind the event.

pub record IsKept (P : State → Type 0) : Type 0 where
  pub run : (d : RanOp) → IsRun d → P d.before.store → P d.behind.store
  pub end : (stays : ℕ → Bool) (s : State) → P s → P (staying stays s)

abbrev always : (State → Type 0) → Kept
always P = record { Way = Unit {0}; Stands = λ way s. P s; Before = λ way d. P d.before.store; Spares = λ d. Unit {0}; after = λ way d. way }

always_stays : (P : State → Type 0) → IsKept P → Stays (always P) (λ m e. Unit {0})
always_stays P kept = record {
  step = λ way d r is. (is, λ spares. kept.run d r is);
  idle = λ way m e is idle leaves here. subst P (sym idle.left) (kept_ended P kept.end m.store idle.ends here);
}

pub record Throughout (P : State → Type 0) (ds : List RanOp) (left : Machine) : Type 0 where
  pub within : (d : RanOp) → In d ds → P d.before.store
  pub behind : P left.store

each_before : (P : State → Type 0) (way : Unit {0}) (ds : List RanOp) → While (always P) way ds → (d : RanOp) → In d ds → P d.before.store
each_before P way [] all d there = absurd there
each_before P way (e ∷ more) all d there = elim there [
  | inl same ↦ subst (λ (e : RanOp). P e.before.store) (sym same) all.0
  | inr later ↦ each_before P way more (all.1 tt).1 d later
]

pub throughout : (P : State → Type 0) → IsKept P → (m : Machine) (e : MachineEvent) → Is m → P m.store → Throughout P (ops_by m e) (stepped m e)
throughout P kept m e is here =
    let all = event_walked (always P) (λ m e. Unit {0}) (always_stays P kept) m e is tt here in
    record { within = each_before P tt (ops_by m e) all.0; behind = all.1 (λ d there. tt) tt }

-- and behind one of its operations
pub throughout_behind : (P : State → Type 0) → IsKept P → (m : Machine) (e : MachineEvent) (front : List RanOp) (d : RanOp) (back : List RanOp) → Is m
    → ops_by m e ≡ front ++ d ∷ back → P d.behind.store → Throughout P back (stepped m e)
throughout_behind P kept m e front d back is same here =
    let all = back_walked (always P) (λ m e. Unit {0}) (always_stays P kept) m e front d back is same tt here in
    record { within = each_before P tt back all.0; behind = all.1 (λ d there. tt) }
