-- What a state keeps, through whole runs.
use Rattle.std.proofs.Common.{◌≡◌, ℕ, ◌+◌, Bool, true, false, cond, eqb, ltb, List, [], ◌∷◌, length, Option, Some, None, refl, sym, subst, arith, inl, inr}
use Rattle.std.proofs.lemmas.Bool.{cases_Bool}
use Rattle.std.specs.Prelude.{Result, Ok, Err, not}
use Rattle.nfs_xdr.specs.{Tables.In, declared.status.Status.Status}
use Rattle.nfs_compound.specs.{declared.op.Item.Item, declared.op.Item.TheVariants.Operation}
use Rattle.nfs_compound.specs.declared.op.Op.TheVariants as Op
use Rattle.nfs_results.specs.Largest.{largest}
use Rattle.nfs_clients.specs.Marks.{has_reclaimed}
use Rattle.nfs_sessions.specs.Id.{id_of}
use Rattle.nfs_lease.specs.Renewals.{has_run_out}
use Rattle.nfs_opens.specs.TableInvariants.{IsTable}
use Rattle.nfs_opens.proofs.TableLemmas.{table_new}
use Rattle.nfs_names.specs.{declared.start.Start.Start, declared.context.Context.Context, declared.node.Node.Node, Checks.current, Context.begins}
use Rattle.nfs_names.specs.{State.{State, moment, time_at}, Ending.staying, Outcome.is_ok}
use Rattle.nfs_names.proofs.{Untouched.leaves_each, Staying.store_staying, StoreInvariants.store_at_first, Ones.each_of}
use Rattle.nfs_files.proofs.{Outcomes.for_each, TreeFiles.{IsWhole, tree_ended, tree_new}, TableSteps.{table_item, table_staying_is}, Steady.{Few, few_files}}
use Rattle.nfs_names.proofs.Sound as of_names
use Rattle.nfs_files.proofs.Sound as of_files
use Rattle.nfs_exec.specs.Step.{Machine.{Machine, starts, HasNoClashes}, Behind.{step, on_store, otherwise}, Parts.without_any_opens}
use Rattle.nfs_exec.specs.Step.{Run.{run, in_room, reserve, is_here, behind_here}, ReclaimComplete.reclaim_complete}
use Rattle.nfs_exec.specs.Step.{Compound.{renewed, begun}, Laws.{MachineEvent, Expires, Asks, stepped, all_stepped}}
use Rattle.nfs_exec.specs.{Runs.Ops.{RanOp, ops, ops_by}, Runs.NoClashes.NoneInRuns}
use Rattle.nfs_exec.proofs.{Step.{Behind.{by_step, follow_kept}, AloneKeeps.holds_whoever, Terms.{of_one, of_all}}, Runs.ByEvent.by_compound}

abbrev pub Is : Machine → Type 0
Is m = IsWhole m.store

pub none_of : (m : Machine) → Is m → HasNoClashes m
none_of m is = record { bytes = is.table.bytes; shares = is.table.shares }

whole_ended : (stays : ℕ → Bool) (s : State) → IsWhole s → IsWhole (staying stays s)
whole_ended stays s is = record {
  tree = tree_ended stays s is;
  store = store_staying stays s is.store;
  table = table_staying_is stays s.opens is.table;
  few = is.few;
}

of_one_store : (m : Machine) (v : Result Node Status) → (of_one m v).machine.store ≡ m.store
of_one_store m (Ok d) = refl
of_one_store m (Err status) = refl

of_all_store : (m : Machine) (x : Context) → (of_all m x).machine.store ≡ m.store
of_all_store m x = elim (cases_Bool (has_reclaimed m.clients x.client)) [ inl again ↦ rw again refl | inr once ↦ rw once refl ]

reclaim_store : (m : Machine) (x : Context) (one : Bool) → (reclaim_complete m x one).machine.store ≡ m.store
reclaim_store m x true = of_one_store m (current m.store x)
reclaim_store m x false = of_all_store m x

pub otherwise_store : (m : Machine) (x : Context) (i : Item) → (otherwise m x i).outcome.machine.store ≡ m.store
otherwise_store m x (Operation (Op.ReclaimComplete one)) = reclaim_store m x one
otherwise_store m x i = refl

whole_step : (m : Machine) (x : Context) (now : ℕ) (refused : Bool) (i : Item) → Is m → Is (step m x now refused i).outcome.machine
whole_step m x now refused i is =
    by_step (λ s. Is s.outcome.machine) m x now refused i (λ o e.
    (let sound = each_of (λ o. of_names.IsSound o.state) _ (of_names.sound_item refused m.store x (time_at m.store now) i is.tree is.store) o e in
    let leaves = leaves_each refused m.store x (time_at m.store now) i o e in record {
      tree = sound.tree;
      store = sound.store;
      table = subst IsTable (sym leaves.opens) is.table;
      few = subst Few (sym leaves.opens) is.few;
    }))
    (for_each (λ o. Is (on_store m o).outcome.machine) refused m.store x (time_at m.store now) i
    (let sound = of_files.sound_item refused m.store x (time_at m.store now) i is.tree is.table is.store in record {
      tree = sound.tree;
      store = sound.store;
      table = table_item refused m.store x (time_at m.store now) i is.table;
      few = few_files refused m.store x (time_at m.store now) i is.table is.few;
    }))
    (λ none other. subst IsWhole (sym (otherwise_store m x i)) is)

pub whole_room : (limit sofar now : ℕ) (refused : Bool) (m : Machine) (x : Context) (i : Item) → Is m → Is (in_room limit sofar now refused m x i).outcome.machine
whole_room limit sofar now refused m x i is = elim (cases_Bool (ltb limit (sofar + largest i + reserve))) [
  | inl big ↦ rw big is
  | inr fits ↦ rw fits (whole_step m x now refused i is)
]

pub whole_run : (limit sofar now : ℕ) (choice : Option ℕ) (m : Machine) (x : Context) (items : List Item) → Is m
    → Is (run limit sofar now choice m x items).machine
whole_run limit sofar now choice m x [] is = is
whole_run limit sofar now choice m x (i ∷ more) is =
    let s = in_room limit sofar now (is_here choice) m x i in
    let one : Is s.outcome.machine = whole_room limit sofar now (is_here choice) m x i is in
    follow_kept Is s.outcome (run limit (sofar + length s.outcome.result) now (behind_here choice) s.outcome.machine s.context more) one
    (whole_run limit (sofar + length s.outcome.result) now (behind_here choice) s.outcome.machine s.context more one)

abbrev Around : RanOp → Type 0
Around d = Is d.before × Is d.behind

pub in_more : (b : Bool) (d : RanOp) (xs : List RanOp) → In d (cond b xs []) → In d xs
in_more true d xs there = there
in_more false d xs there = absurd there

pub whole_ops : (limit sofar now : ℕ) (choice : Option ℕ) (m : Machine) (x : Context) (items : List Item) → Is m
    → (d : RanOp) → In d (ops limit sofar now choice m x items) → Around d
whole_ops limit sofar now choice m x [] is d there = absurd there
whole_ops limit sofar now choice m x (i ∷ more) is d there =
    let s = in_room limit sofar now (is_here choice) m x i in
    let one : Is s.outcome.machine = whole_room limit sofar now (is_here choice) m x i is in
    let rest = ops limit (sofar + length s.outcome.result) now (behind_here choice) s.outcome.machine s.context more in
    elim there [
      | inl here ↦ subst Around (sym here) (is, one)
      | inr later ↦ whole_ops limit (sofar + length s.outcome.result) now (behind_here choice) s.outcome.machine s.context more one d
          (in_more (is_ok s.outcome.status) d rest later)
    ]

-- outside a session

without_whole : (s : State) (o : Option ℕ) → IsWhole s → IsWhole (without_any_opens s o)
without_whole s None is = is
without_whole s (Some client) is = whole_ended (λ c. not (eqb c client)) s is

-- what holds of the machine behind an event, and around each operation that it ran
record WholeBehind (left : Machine) (ds : List RanOp) : Type 0 where
  whole : Is left
  each : (d : RanOp) → In d ds → Around d

whole_behind : (m : Machine) (e : MachineEvent) → Is m → WholeBehind (stepped m e) (ops_by m e)
whole_behind m (Expires now) is =
    record { whole = whole_ended (λ client. not (has_run_out m.store.lease m.leases now client)) m.store is; each = λ d there. absurd there }
whole_behind m (Asks r who size now choice) is = by_compound (λ left ds run. WholeBehind left ds) m r who size now choice
    (record { whole = is; each = λ d there. absurd there })
    (λ item. record { whole = holds_whoever IsWhole without_whole m r.declared who now (is_here choice) item is; each = λ d there. absurd there })
    (λ s more c same. (let x = begins (id_of s.sessionid).client who in record {
      whole = whole_run c.maxresponsesize (begun r s c) now (behind_here choice) (renewed m now s) x more is;
      each = whole_ops c.maxresponsesize (begun r s c) now (behind_here choice) (renewed m now s) x more is;
    }))

pub event_ops : (m : Machine) (e : MachineEvent) → Is m → (d : RanOp) → In d (ops_by m e) → Around d
event_ops m e is = (whole_behind m e is).each

pub whole_event : (m : Machine) (e : MachineEvent) → Is m → Is (stepped m e)
whole_event m e is = (whole_behind m e is).whole

pub whole_events : (m : Machine) (events : List MachineEvent) → Is m → Is (all_stepped m events)
whole_events m [] is = is
whole_events m (e ∷ more) is = whole_events (stepped m e) more (whole_event m e is)

-- nothing but the root, and nothing is open
pub start_whole : (start : Start) → Is (starts start)
start_whole start = record {
  tree = tree_new start.mode (moment 0) start.limits start.profile;
  store = store_at_first start (moment 0);
  table = table_new start.instance;
  few = omega arith;
}

pub none_in_runs : NoneInRuns
none_in_runs start events e =
    let m = all_stepped (starts start) events in
    let is : Is m = whole_events (starts start) events (start_whole start) in
    record {
      here = none_of m is;
      within = λ d there. none_of d.before (event_ops m e is d there).0;
      behind = λ d there. none_of d.behind (event_ops m e is d there).1;
    }
