-- How long a lease lasts, by what attribute 10 says, does not change; and GETATTR and READDIR say it.
use Rattle.std.proofs.Common.{◌≡◌, ℕ, true, List, ◌∙◌, subst}
use Rattle.nfs_xdr.specs.{Tables.In, Spelling.number}
use Rattle.nfs_compound.specs.{declared.name_args.ReadDir.ReadDir, declared.op.Item.TheVariants.Operation}
use Rattle.nfs_compound.specs.declared.op.Op.TheVariants as Op
use Rattle.nfs_attrs.specs.Mask.{mask_of, has}
use Rattle.nfs_names.specs.{Outcome.is_ok, State.time_at}
use Rattle.nfs_files.proofs.Steady.{lease_names, lease_files}
use Rattle.nfs_exec.specs.{Step.Machine.Machine, Step.Laws.{MachineEvent, stepped}, Runs.Ops.{RanOp, ops_by}}
use Rattle.nfs_promises.specs.Runs.AttributesTold.{TellsValue, EntriesTell}
use Rattle.nfs_exec.proofs.{Runs.KeptByRuns.Is, Runs.OneRun.{IsRun, by_run}, Runs.OneWalk.{IsKept, Throughout, throughout}, Runs.WhatWasDone.event_run}
use Rattle.nfs_promises.proofs.Runs.{AttributesListed.lease_listed, AttributesTold.lease_in}

abbrev pub Lasts : ℕ → Machine → Type 0
Lasts lease m = m.store.lease ≡ lease

run_lasts : (lease : ℕ) (d : RanOp) → IsRun d → Lasts lease d.before → Lasts lease d.behind
run_lasts lease d r is = by_run (λ status text s. s.lease ≡ lease) d r is
    (λ o e. lease_names r.refused d.before.store d.context (time_at d.before.store r.now) d.item o e ∙ is)
    (lease_files r.refused d.before.store d.context (time_at d.before.store r.now) d.item ∙ is) (λ other. is)

pub lease_kept : (lease : ℕ) → IsKept (λ s. s.lease ≡ lease)
lease_kept lease = record { run = run_lasts lease; end = λ stays s here. here }

event_lasts : (m : Machine) (e : MachineEvent) (lease : ℕ) → Is m → Lasts lease m → Throughout (λ s. s.lease ≡ lease) (ops_by m e) (stepped m e)
event_lasts m e lease is lasts = throughout (λ s. s.lease ≡ lease) (lease_kept lease) m e is lasts

pub stepped_lasts : (m : Machine) (e : MachineEvent) (lease : ℕ) → Is m → Lasts lease m → Lasts lease (stepped m e)
stepped_lasts m e lease is lasts = (event_lasts m e lease is lasts).behind

-- a GETATTR of attribute 10 that answered NFS4_OK
pub event_told : (m : Machine) (e : MachineEvent) (lease : ℕ) (words : List ℕ) → Is m → Lasts lease m → (d : RanOp) → In d (ops_by m e)
    → d.item ≡ Operation (Op.GetAttr words) → has (mask_of words) 10 ≡ true → is_ok d.status ≡ true → TellsValue d.before.store.tree.profile 10 (number lease) (mask_of words) d.result
event_told m e lease words is lasts d there item ten ok =
    subst (λ (n : ℕ). TellsValue d.before.store.tree.profile 10 (number n) (mask_of words) d.result) ((event_lasts m e lease is lasts).within d there) (lease_in d (event_run m e is d there).0 words item ten ok)

-- a READDIR of entries with attribute 10 that answered NFS4_OK
pub event_listed : (m : Machine) (e : MachineEvent) (lease : ℕ) (a : ReadDir) → Is m → Lasts lease m → (d : RanOp) → In d (ops_by m e)
    → d.item ≡ Operation (Op.ReadDir a) → has (mask_of a.attr_request) 10 ≡ true → is_ok d.status ≡ true
    → EntriesTell d.before.store.tree.profile 10 (number lease) (mask_of a.attr_request) d.result
event_listed m e lease a is lasts d there item ten ok =
    subst (λ (n : ℕ). EntriesTell d.before.store.tree.profile 10 (number n) (mask_of a.attr_request) d.result) ((event_lasts m e lease is lasts).within d there)
    (lease_listed d (event_run m e is d there).0 a item ten ok)
