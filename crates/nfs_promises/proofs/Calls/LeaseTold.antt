-- GETATTR and READDIR tell the lease, in every run.
use Rattle.std.proofs.Common.{◌≡◌, ℕ, true, [], Option, Some, None, refl, List, ◌∷◌, length, sym, subst}
use Rattle.std.specs.Option.{option_map_or}
use Rattle.nfs_xdr.specs.{Spelling.number, Tables.In}
use Rattle.nfs_compound.specs.declared.{name_args.ReadDir.ReadDir, op.Item.TheVariants.Operation}
use Rattle.nfs_attrs.specs.Mask.{mask_of, has}
use Rattle.nfs_names.specs.Outcome.{is_ok}
use Rattle.nfs_exec.proofs.Runs.KeptByRuns.{Is}
use Rattle.nfs_exec.specs.{Step.{Laws.{MachineEvent, Expires, Asks}, Machine.Machine}, Runs.Ops.{RanOp, ops_by}}
use Rattle.nfs_serve.specs.Step.{new_state, ServerState}
use Rattle.nfs_promises.specs.Runs.{AttributesTold.{EntriesTell, TellsValue}, Points.{reached, before, asked_by, state_after, state_after_all, taken}}
use Rattle.nfs_promises.specs.{Calls.LeaseTold.{LeaseIsListed, LeaseIsTold}, Network.Endpoint.Arrival}
use Rattle.nfs_promises.proofs.Runs.{LeaseTold.{Lasts, event_listed, stepped_lasts, event_told}, Points.{IsSound, whole_before, sound_all, sound_new, left}}
use Rattle.nfs_promises.proofs.Runs.Points.{for_asked, next_is, sound_next}
use Rattle.nfs_compound.specs.declared.op.Op.TheVariants as Op

-- What attribute 10 says is how long a lease lasts.

lasts_next : (s : ServerState) (c : Arrival) (lease : ℕ) → IsSound s → Lasts lease s.machine → Lasts lease (state_after s c).machine
lasts_next s c lease sound is =
    let here : Lasts lease (before s c) = stepped_lasts s.machine (Expires (taken s c)) lease sound.whole is in
    subst (λ (s : ServerState). Lasts lease s.machine) (sym (next_is s c))
    (for_asked (λ o. Lasts lease (left (before s c) o)) s c here
    (λ r who. stepped_lasts (before s c) (Asks r who (length c.bytes) (taken s c) c.choice) lease (whole_before s c sound.whole) here))

pub lasts_all : (s : ServerState) (records : List Arrival) (lease : ℕ) → IsSound s → Lasts lease s.machine → Lasts lease (state_after_all s records).machine
lasts_all s [] lease sound is = is
lasts_all s (c ∷ more) lease sound is = lasts_all (state_after s c) more lease (sound_next s c sound) (lasts_next s c lease sound is)

asked_told : (m : Machine) (o : Option MachineEvent) (lease : ℕ) (words : List ℕ) → Is m → Lasts lease m → (d : RanOp) → In d (option_map_or (ops_by m) o [])
    → d.item ≡ Operation (Op.GetAttr words) → has (mask_of words) 10 ≡ true → is_ok d.status ≡ true → TellsValue d.before.store.tree.profile 10 (number lease) (mask_of words) d.result
asked_told m None lease words is lasts d there = absurd there
asked_told m (Some e) lease words is lasts d there = event_told m e lease words is lasts d there

pub lease_is_told : LeaseIsTold
lease_is_told start records c d words there =
    let first = new_state start in
    let s = reached start records in
    let sound : IsSound s = sound_all first records (sound_new start) in
    asked_told (before s c) (asked_by s c) start.lease words (whole_before s c sound.whole) (lasts_all first records start.lease (sound_new start) refl) d there

asked_listed : (m : Machine) (o : Option MachineEvent) (lease : ℕ) (a : ReadDir) → Is m → Lasts lease m → (d : RanOp) → In d (option_map_or (ops_by m) o [])
    → d.item ≡ Operation (Op.ReadDir a) → has (mask_of a.attr_request) 10 ≡ true → is_ok d.status ≡ true
    → EntriesTell d.before.store.tree.profile 10 (number lease) (mask_of a.attr_request) d.result
asked_listed m None lease a is lasts d there = absurd there
asked_listed m (Some e) lease a is lasts d there = event_listed m e lease a is lasts d there

pub lease_is_listed : LeaseIsListed
lease_is_listed start records c d a there =
    let first = new_state start in
    let s = reached start records in
    let sound : IsSound s = sound_all first records (sound_new start) in
    asked_listed (before s c) (asked_by s c) start.lease a (whole_before s c sound.whole) (lasts_all first records start.lease (sound_new start) refl) d there
