-- The operations of a compound leave another client what it has.
use Rattle.std.proofs.Common.{◌≡◌, ◌≢◌, ℕ, ◌+◌, Bool, true, false, ltb, List, [], ◌∷◌, length, Option, refl, sym, ◌∙◌, ap, subst, inl, inr}
use Rattle.std.proofs.lemmas.Bool.{cases_Bool, ne_eqb}
use Rattle.std.specs.Prelude.{Result, Ok, Err}
use Rattle.nfs_xdr.specs.declared.status.Status.{Status}
use Rattle.nfs_xdr.proofs.Tables.{at_with}
use Rattle.nfs_compound.specs.{declared.op.Item.Item, declared.op.Item.TheVariants.Operation}
use Rattle.nfs_compound.specs.declared.op.Op.TheVariants as Op
use Rattle.nfs_clients.specs.{Roster.{ClientRecord, Roster, client_at, with_changed}, Marks.has_reclaimed}
use Rattle.nfs_names.specs.{declared.context.Context.Context, declared.node.Node.Node, Checks.current, State.{State, time_at}}
use Rattle.nfs_names.proofs.Untouched.{leaves_each}
use Rattle.nfs_files.proofs.{Outcomes.for_each, Effected.same_client, OthersTables.{same, both}, OthersOps.{is_other, item_apart}}
use Rattle.nfs_results.specs.Largest.{largest}
use Rattle.nfs_exec.specs.Step.{Machine.Machine, Behind.{step, otherwise}, ReclaimComplete.reclaim_complete, Run.{run, in_room, reserve, is_here, behind_here}}
use Rattle.nfs_files.specs.Own.{HasAsBefore}
use Rattle.nfs_exec.proofs.{Step.{Behind.{by_step, follow_kept, other_context}, Terms.{of_one, of_all}}, Runs.KeptByRuns.{Is, whole_room, otherwise_store}}

-- In a compound: the other has what it had, its record is as it was, and the client that asks is the same.

pub record IsApart (c : ℕ) (before behind : Machine) : Type 0 where
  pub own : HasAsBefore c before.store.opens behind.store.opens
  pub known : client_at behind.clients c ≡ client_at before.clients c

pub still_apart : (c : ℕ) (m : Machine) → IsApart c m m
still_apart c m = record { own = same c m.store.opens; known = refl }

pub both_apart : (c : ℕ) (m n left : Machine) → IsApart c m n → IsApart c n left → IsApart c m left
both_apart c m n left first second = record {
  own = both c m.store.opens n.store.opens left.store.opens first.own second.own;
  known = second.known ∙ first.known;
}

abbrev StepsApart : ℕ → Machine → Context → Machine → Context → Type 0
StepsApart c m x left behind = IsApart c m left × (behind.client ≡ x.client)

-- a client's record behind a change of another's
pub known_apart_from : (t : Roster) (c client : ℕ) (f : ClientRecord → ClientRecord) → ((r : ClientRecord) → (f r).id ≡ r.id) → client ≢ c
    → client_at (with_changed t client f) c ≡ client_at t c
known_apart_from t c client f mild other =
    at_with (λ (r : ClientRecord). r.id) f mild c client t.records ∙ rw (ne_eqb c client (λ here. other (sym here))) refl

of_one_apart : (c : ℕ) (m : Machine) (v : Result Node Status) → client_at (of_one m v).machine.clients c ≡ client_at m.clients c
of_one_apart c m (Ok d) = refl
of_one_apart c m (Err status) = refl

of_all_apart : (c : ℕ) (m : Machine) (x : Context) → x.client ≢ c → client_at (of_all m x).machine.clients c ≡ client_at m.clients c
of_all_apart c m x other = elim (cases_Bool (has_reclaimed m.clients x.client)) [
  | inl again ↦ rw again refl
  | inr once ↦ rw once (known_apart_from m.clients c x.client (λ r. record r { reclaimed = true }) (λ r. refl) other)
]

reclaim_apart : (c : ℕ) (m : Machine) (x : Context) (one : Bool) → x.client ≢ c → client_at (reclaim_complete m x one).machine.clients c ≡ client_at m.clients c
reclaim_apart c m x true other = of_one_apart c m (current m.store x)
reclaim_apart c m x false other = of_all_apart c m x other

otherwise_apart : (c : ℕ) (m : Machine) (x : Context) (i : Item) → x.client ≢ c → client_at (otherwise m x i).outcome.machine.clients c ≡ client_at m.clients c
otherwise_apart c m x (Operation (Op.ReclaimComplete one)) other = reclaim_apart c m x one other
otherwise_apart c m x i other = refl

step_apart : (c : ℕ) (m : Machine) (x : Context) (now : ℕ) (refused : Bool) (i : Item) → Is m → x.client ≢ c
    → StepsApart c m x (step m x now refused i).outcome.machine (step m x now refused i).context
step_apart c m x now refused i is other =
    by_step (λ s. StepsApart c m x s.outcome.machine s.context) m x now refused i
    (λ o e. (let leaves = leaves_each refused m.store x (time_at m.store now) i o e in (
      record { own = subst (HasAsBefore c m.store.opens) (sym leaves.opens) (same c m.store.opens); known = refl },
      leaves.client,
    )))
    (for_each (λ o. StepsApart c m x (record m { store = o.state }) o.context) refused m.store x (time_at m.store now) i
    (record { own = item_apart c refused m.store x (time_at m.store now) i is.table other; known = refl }, same_client refused m.store x (time_at m.store now) i))
    (λ none off. (
      record {
        own = subst (λ (s : State). HasAsBefore c m.store.opens s.opens) (sym (otherwise_store m x i)) (same c m.store.opens);
        known = otherwise_apart c m x i other;
      },
      ap (λ (x : Context). x.client) (sym (other_context m x i)),
    ))

room_apart : (c limit sofar now : ℕ) (refused : Bool) (m : Machine) (x : Context) (i : Item) → Is m → x.client ≢ c
    → StepsApart c m x (in_room limit sofar now refused m x i).outcome.machine (in_room limit sofar now refused m x i).context
room_apart c limit sofar now refused m x i is other = elim (cases_Bool (ltb limit (sofar + largest i + reserve))) [
  | inl big ↦ rw big (still_apart c m, refl)
  | inr fits ↦ rw fits (step_apart c m x now refused i is other)
]

pub run_apart : (c limit sofar now : ℕ) (choice : Option ℕ) (m : Machine) (x : Context) (items : List Item) → Is m → x.client ≢ c
    → IsApart c m (run limit sofar now choice m x items).machine
run_apart c limit sofar now choice m x [] is other = still_apart c m
run_apart c limit sofar now choice m x (i ∷ more) is other =
    let s = in_room limit sofar now (is_here choice) m x i in
    let one = room_apart c limit sofar now (is_here choice) m x i is other in
    let next = sofar + length s.outcome.result in
    let rest = run limit next now (behind_here choice) s.outcome.machine s.context more in
    follow_kept (IsApart c m) s.outcome rest one.0
    (both_apart c m s.outcome.machine rest.machine one.0 (run_apart c limit next now (behind_here choice) s.outcome.machine s.context more
    (whole_room limit sofar now (is_here choice) m x i is) (is_other s.context.client x.client c one.1 other)))
