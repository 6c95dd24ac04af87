-- Of two LOCKs under one filehandle that clash only one is told.
use Rattle.std.proofs.Common.{◌≡◌, ℕ, ◌+◌, ◌<◌, ◌≤◌, ◌^◌, List, [], ◌∷◌, ◌++◌, Option, Some, refl, sym, ◌∙◌, ap, subst}
use Rattle.std.specs.Prelude.{Result, Ok, Err}
use Rattle.nfs_xdr.specs.declared.status.Status.{Status}
use Rattle.nfs_compound.specs.declared.lock_args.LockType.{LockType}
use Rattle.nfs_opens.specs.declared.locking.Wish.{Wish}
use Rattle.nfs_names.proofs.Found.{came, checked_ok}
use Rattle.nfs_names.specs.{declared.{start.Start.Start, context.Context.Context}, Outcome.mapped, Checks.current}
use Rattle.nfs_files.proofs.WrittenOps.{current_number}
use Rattle.nfs_files.specs.{Ranges.{wished, range}, Bytes.file_checks, Target.the_file, Parts.wish}
use Rattle.nfs_exec.specs.Runs.{LockHeld.{LocksFor, AreSpared, the_lock}, Ops.RanOp}
use Rattle.nfs_serve.specs.Step.{ServerState, new_state}
use Rattle.nfs_promises.specs.{Runs.Points.{state_after, state_after_all, reached, taken, ops_of}, Network.Endpoint.Arrival, Bytes.HandleBytes.names_behind}
use Rattle.nfs_promises.specs.{Locks.OneWriterByHandle.{IsKnownAt, OnlyOneByHandle}, Names.KnownHandles.{IsHandleOf, starts, root_of}}
use Rattle.nfs_promises.proofs.{Bytes.HandleBytes.{held_behind, held_back}, Locks.{LockKept.only_one, LockOwners.end_of}, Names.KnownHandles.AllHold}
use Rattle.nfs_promises.proofs.Names.KnownHandles.{one_record, first_holds, same_number}
use Rattle.nfs_names.specs.State as store
use Rattle.nfs_files.proofs.InSteps as in_steps

-- A wish is of the current file.

file_by : (x : Context) (how : LockType) (offset file : ℕ) (v : Result ℕ Status) (w : Wish) → mapped (λ last. wish x how offset last file) v ≡ Ok w → w.file ≡ file
file_by x how offset file (Err status) w e = absurd cc
file_by x how offset file (Ok last) w e = (let same : wish x how offset last file ≡ w = cc in ap (λ (w : Wish). w.file) (sym same))

wished_on : (s : store.State) (x : Context) (how : LockType) (offset size : ℕ) (w : Wish) → wished s x how offset size ≡ Ok w → x.current ≡ Some w.file
wished_on s x how offset size w e =
    let d = came (the_file s x) _ w (sym (in_steps.wished_is s x how offset size) ∙ e) in
    let found = (checked_ok (current s x) file_checks d.found (sym (in_steps.file_is s x) ∙ d.is)).0 in
    current_number s x d.found found ∙ ap (λ n. Some n) (sym (file_by x how offset d.found.number (range offset size) w d.then))

-- the file of a LOCK under a filehandle that is known is the one whose number it bears
lock_on : (start : Start) (low : start.instance < 2 ^ 32) (records : List Arrival) (c : Arrival) (front : List RanOp) (lock : RanOp) (back : List RanOp) (h : List ℕ)
    (n : ℕ) (w : Wish) → ops_of (reached start records) c ≡ front ++ lock ∷ back → IsKnownAt start records front h → LocksFor lock n w
    → IsHandleOf start.instance h w.file
lock_on start low records c front lock back h n w same known locks =
    let s = reached start records in
    let names = names_behind (root_of start.instance) [] (new_state start) records in
    let here = held_behind start.instance low [] (new_state start) records (first_holds start.instance low start refl) in
    let at = held_back start.instance low (starts names) front (lock ∷ back) (subst (AllHold start.instance low (starts names)) same (one_record start.instance low names s c here).0) in
    let seat = at.0.holds.seated.at_current h known in
    let on = wished_on lock.before.store lock.context locks.asked.locktype locks.asked.offset locks.asked.length w locks.wish in
    let is : seat.0 ≡ w.file = (let number : ◌≡◌ {A = Option ℕ} (Some seat.0) (Some w.file) = sym seat.2 ∙ on in cc) in
    subst (IsHandleOf start.instance h) is seat.1

pub after_both : (s : ServerState) (records more : List Arrival) → state_after_all s (records ++ more) ≡ state_after_all (state_after_all s records) more
after_both s [] more = refl
after_both s (c ∷ records) more = after_both (state_after s c) records more

pub only_one_by_handle : OnlyOneByHandle
only_one_by_handle start low earlier c k front first back between d until second behind n w h same known tells spared all later locks over =
    let s = reached start earlier in
    let end = end_of (the_lock k) k.client start.lease (taken s c) tt (state_after s c) between
    (λ way last t. (ops_of t d ≡ until ++ second ∷ behind) × (taken t d ≤ last + start.lease) × AreSpared k until) all in
    let ops : ops_of (reached start (earlier ++ c ∷ between)) d ≡ until ++ second ∷ behind =
    ap (λ t. ops_of t d) (after_both (new_state start) earlier (c ∷ between)) ∙ end.2.0 in
    let one = lock_on start low earlier c front first back h k.state tells.wish same known tells.locks in
    let two = lock_on start low (earlier ++ c ∷ between) d until second behind h n w ops later locks in
    let file = same_number start.instance low h w.file tells.wish.file two one in
    only_one start earlier c k front first back between d until second behind n w same tells spared all locks
    (record { other = over.other; file = file ∙ sym tells.file; before = over.before; behind = over.behind; kinds = over.kinds })
