-- A filehandle is a file, in every run.
use Rattle.std.proofs.Common.{◌≡◌, ℕ, ◌<◌, ◌^◌, List, [], Option, Some, None, refl, sym, ◌∙◌, ap}
use Rattle.std.specs.Option.{option_map_or}
use Rattle.nfs_xdr.specs.Tables.{In}
use Rattle.nfs_attrs.specs.{declared.handle.Handle.Handle, Handle.handle_of}
use Rattle.nfs_names.specs.declared.start.Start.{Start}
use Rattle.nfs_exec.proofs.{Step.Instances.instance_kept, Runs.KeptByRuns.Is}
use Rattle.nfs_exec.specs.{Step.{Laws.MachineEvent, Machine.Machine}, Runs.Ops.{RanOp, ops_by}}
use Rattle.nfs_serve.specs.Step.{ServerState, new_state}
use Rattle.nfs_promises.specs.Runs.{Handles.{Gives, Leads}, Points.{state_after, state_after_all, reached, before, asked_by, ops_of}}
use Rattle.nfs_promises.specs.{Network.Endpoint.Arrival, Names.Handles.{HandlesLead, HandlesTell}}
use Rattle.nfs_promises.proofs.Runs.{Handles.{given_in, handle_in, handle_read, event_leads}, Points.{IsSound, sound_all, sound_new}}
use Rattle.nfs_promises.proofs.Runs.LaterRecords.{op_done, op_keeps, next_keeps, all_keeps, whole_at}

-- The instance does not change.

abbrev pub Has : ℕ → Machine → Type 0
Has instance m = m.store.opens.instance ≡ instance

pub has_next : (s : ServerState) (c : Arrival) (instance : ℕ) → IsSound s → Has instance s.machine → Has instance (state_after s c).machine
has_next s c instance sound is = next_keeps (λ s. s.opens.instance ≡ instance) (instance_kept instance) s c sound is

pub has_all : (s : ServerState) (records : List Arrival) (instance : ℕ) → IsSound s → Has instance s.machine → Has instance (state_after_all s records).machine
has_all s records instance sound is = all_keeps (λ s. s.opens.instance ≡ instance) (instance_kept instance) s records sound is

leads_by : (m : Machine) (o : Option MachineEvent) (instance n : ℕ) (h : List ℕ) → Is m → Has instance m → h ≡ handle_in instance n → instance < 2 ^ 32 → n < 2 ^ 64
    → Leads n h (option_map_or (ops_by m) o [])
leads_by m None instance n h is own same small low = tt
leads_by m (Some e) instance n h is own same small low = event_leads instance n h same small low m e is own

pub given_at : (start : Start) (records : List Arrival) (c : Arrival) (get : RanOp) (n : ℕ) (h : List ℕ)
    → In get (ops_of (reached start records) c) → Gives n h get → (h ≡ handle_in start.instance n) × (n < 2 ^ 64)
given_at start records c get n h there gives =
    let s = reached start records in
    let sound : IsSound s = sound_all (new_state start) records (sound_new start) in
    let its = given_in get (op_done s c sound get there).run n h gives in
    let own = op_keeps (λ s. s.opens.instance ≡ start.instance) (instance_kept start.instance) s c sound (has_all (new_state start) records start.instance (sound_new start) refl) get there in
    (its.is ∙ ap (λ instance. handle_in instance n) own, its.small)

pub handles_lead : HandlesLead
handles_lead start records c get n h small there gives others d =
    let s = reached start others in
    let its = given_at start records c get n h there gives in
    leads_by (before s d) (asked_by s d) start.instance n h (whole_at start others d) (has_all (new_state start) others start.instance (sound_new start) refl) its.0 small its.1

-- Each object has one filehandle, and each filehandle one object.

pub number_in : (instance n k : ℕ) → ◌≡◌ {A = Option Handle} (Some (record { instance = instance; number = n })) (Some (record { instance = instance; number = k })) → n ≡ k
number_in instance n k e = ap (λ (o : Option Handle). option_map_or (λ (h : Handle). h.number) o n) e

pub handles_tell : HandlesTell
handles_tell start records c get n h others d again k j small there gives later gave =
    let one = given_at start records c get n h there gives in
    let two = given_at start others d again k j later gave in (
      λ same. number_in start.instance n k (sym (handle_read start.instance n small one.1) ∙ (ap handle_of (sym one.0 ∙ (same ∙ two.0)) ∙ handle_read start.instance k small two.1)),
      λ same. one.0 ∙ (ap (handle_in start.instance) same ∙ sym two.0),
    )
