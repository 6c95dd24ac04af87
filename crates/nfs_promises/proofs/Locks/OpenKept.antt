-- An open that was told stays through all records that come in time and do not close it.
use Rattle.std.proofs.Common.{◌≡◌, ℕ, true, [], Option, Some, None}
use Rattle.std.specs.Option.{option_map_or}
use Rattle.nfs_xdr.specs.Tables.{In}
use Rattle.nfs_compound.specs.{declared.open_args.Open.Open, declared.op.Item.TheVariants.Operation}
use Rattle.nfs_compound.specs.declared.op_num.OpNum.TheVariants as Num
use Rattle.nfs_compound.specs.declared.op.Op.TheVariants as Op
use Rattle.nfs_files.specs.OpenTold.{names_open, OpenTold, Bits}
use Rattle.nfs_exec.specs.{Step.Machine.Machine, Step.Laws.MachineEvent, Runs.Ops.{RanOp, ops_by}}
use Rattle.nfs_promises.specs.Runs.OpenHeld.{the_open, bits_left, TellsOpen}
use Rattle.nfs_exec.proofs.{Runs.KeptByRuns.Is}
use Rattle.nfs_promises.proofs.Runs.OpenHeld.{open_stays, told_open, each_tells}
use Rattle.nfs_serve.specs.{Step.new_state}
use Rattle.nfs_promises.specs.{Runs.Points.{state_after, reached, taken, before, asked_by}, Locks.OpenKept.{OpenKept, EachOpenIsTold}}
use Rattle.nfs_promises.proofs.Runs.{Points.{IsSound, whole_before, sound_all, sound_new}, StayingInTime.{told_from, stays_for}}

pub open_kept : OpenKept
open_kept start earlier c k b front told back e tells =
    let s = reached start earlier in
    let kept = told_from (the_open k) b k.client start earlier c front told back
    (λ is event same. told_open k b (before s c) event front told back is same tells) e in (
      kept.0,
      λ spared more. stays_for (the_open k) k.client start.lease (open_stays k) (taken s c) (bits_left k.number b back) (state_after s c) more (kept.1 spared),
    )

tells_by : (m : Machine) (o : Option MachineEvent) (d : RanOp) (a : Open) (n : ℕ) → Is m → In d (option_map_or (ops_by m) o []) → d.item ≡ Operation (Op.Open a)
    → names_open Num.Open d.result n ≡ true → (k : OpenTold) × (b : Bits) × (k.number ≡ n) × TellsOpen k b d
tells_by m None d a n is there item named = absurd there
tells_by m (Some e) d a n is there item named = each_tells m e d a n is there item named

pub each_open_is_told : EachOpenIsTold
each_open_is_told start records c d a n there item named =
    let s = reached start records in
    let sound : IsSound s = sound_all (new_state start) records (sound_new start) in
    tells_by (before s c) (asked_by s c) d a n (whole_before s c sound.whole) there item named
