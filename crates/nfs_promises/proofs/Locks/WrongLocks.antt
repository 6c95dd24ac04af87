-- Wrong steps that the promises of locks refuse, computed.
use Rattle.std.proofs.lemmas.{Bool.{and_parts, eqb-true, false≢true}, List.take_all}
use Rattle.std.proofs.Common.{◌≡◌, ℕ, Bool, true, false, ◌+◌, ◌≤◌, List, [], ◌∷◌, ◌++◌, length, take, get_or, Option, Some, None, refl, sym, ◌∙◌, ap, subst, arith, inl, inr}
use Rattle.std.specs.Prelude.{◌==◌, ◌&&◌, Result, Ok}
use Rattle.nfs_xdr.specs.{Spelling.{number, hyper}, declared.status.Status.Status, Tables.In, Caller.Caller}
use Rattle.nfs_compound.specs.{declared.op.Item.Item, declared.op.Item.TheVariants.Operation, declared.lock_args.Lock.Lock, declared.open_args.Close.Close}
use Rattle.nfs_compound.specs.{declared.lock_args.LockU.LockU, Request.Request, declared.session_args.Sequence.Sequence}
use Rattle.nfs_compound.specs.declared.op.Op.TheVariants as Op
use Rattle.nfs_ranges.specs.declared.Kind.TheVariants.{Write}
use Rattle.nfs_opens.specs.{Table.Table, declared.stateid.StateId.StateId, declared.stateid.CurrentSeqid.TheVariants.Own, declared.records.LockState.LockState}
use Rattle.nfs_names.specs.declared.context.Context.{Context}
use Rattle.nfs_files.specs.{StateIds.meant, LockTold.Stands}
use Rattle.nfs_exec.specs.{Step.Machine.Machine, Step.Compound.{Answered, compound}, Step.Laws.{MachineEvent, Expires, Asks, first_runs}}
use Rattle.nfs_exec.specs.{Step.Delayed.{IsDelayed, kept_by, with_ok}, Runs.Ops.RanOp, Runs.LockHeld.{Spares, AreSpared}}
use Rattle.nfs_promises.specs.{Runs.{Requests.words, Started.usual, Points.{state_after, taken, before, ops_of, asked_by}}, Locks.LockKept.StaysHeld}
use Rattle.nfs_promises.specs.Locks.{LockKept.replaces_by, NoneOutlives.{last_renewal, IsInTime}, LockKeptWorked.{renewal, last_of}, WrongLocks.AreRefused}
use Rattle.nfs_promises.specs.{Locks.WrongLocks.{repeats, ended, NoneDelayed, short_leases, set_back, told_anyway, closes_another}, Network.Endpoint.Arrival}
use Rattle.nfs_serve.specs.{Step.{ServerState, new_state}}
use Rattle.nfs_promises.specs.Locks.LockKeptWorked as worked
use Rattle.nfs_promises.proofs.{Locks.LockKeptWorked.locks_for, Runs.Computing.computing}

late_by : (last : ℕ) → ◌≡◌ {A = _} (Some 102) (Some last) → 193 ≤ last + 90 → ⊥
late_by last e within = let same : 102 ≡ last = cc in absurd (omega arith)

-- a CLOSE of open 3 is none of open 1

other_open : (id : StateId) → ◌≡◌ {A = Result StateId Status} (Ok (record { seqid = 1; instance = 7; number = 3 })) (Ok id) → id.number ≡ 1 → ⊥
other_open id e one =
    let same : record { seqid = 1; instance = 7; number = 3 } ≡ id = cc in
    let three : 3 ≡ id.number = ap (λ (i : StateId). i.number) same in
    absurd (omega arith)

abbrev close : Close
close = record { seqid = 0; open_stateid = record { seqid = 1; other = words (7 ∷ 0 ∷ 3 ∷ []) } }

pub closes_other : (x : Context) (a : Close) (id : StateId) → Operation (Op.Close close) ≡ Operation (Op.Close a) → meant x Own a.open_stateid ≡ Ok id → id.number ≡ 1 → ⊥
unfolding number hyper
closes_other x a id is means one =
    let same : close ≡ a = cc in
    other_open id (subst (λ (a : Close). meant x Own a.open_stateid ≡ Ok id) (sym same) means) one

no_lock : (a : Lock) → Operation (Op.Close close) ≡ Operation (Op.Lock a) → ⊥
no_lock a e = cc

no_unlock : (a : LockU) → Operation (Op.Close close) ≡ Operation (Op.LockU a) → ⊥
no_unlock a e = cc

spared : (d : RanOp) → Spares worked.told (closes_another d)
spared d = record {
  locks = λ w l. absurd (no_lock l.asked l.is);
  unlocks = λ w l. absurd (no_unlock l.asked l.is);
  closes = λ l. closes_other d.context l.asked l.id l.is l.means l.opened;
}

-- what does not hold the byte is no lock kept

unheld : (t : Table) → t.held 2 2 0 ≡ None → Stands worked.told t → ⊥
unheld t none is =
    let some : t.held 2 2 0 ≡ Some Write = is.held 0 (omega arith) (omega arith) in
    let bad : None ≡ Some Write = sym none ∙ some in cc

none_spared : (ds : List RanOp) → ds ≡ [] → AreSpared worked.told ds
none_spared ds none d there = absurd (subst (In d) none there)

gone : (s : ServerState) → (taken s renewal ≤ 102 + 90) → ops_of s renewal ≡ [] → replaces_by worked.told.client s renewal ≡ false
    → (state_after s renewal).machine.store.opens.held 2 2 0 ≡ None → StaysHeld worked.told 90 102 s (renewal ∷ []) → ⊥
gone s low none spares free stays =
    unheld (state_after s renewal).machine.store.opens free
    ((stays.1 low).1 (none_spared (ops_of s renewal) none) spares)

-- where the whole request answers another status than NFS4_OK, its last operation is not delayed

kept_text : (r : Request) (who : Caller) (o : Option Sequence) (a : Answered) → (kept_by r who o a).text ≡ a.text
kept_text r who None a = refl
kept_text r who (Some s) a = refl

ok_byte : (r : Request) (count : ℕ) (results : List ℕ) (left : Machine) → get_or (with_ok r count results left).text 2 0 ≡ 0
unfolding number
ok_byte r count results left = refl

whole : (items : List Item) → length items ≡ 4 → items ≡ take 4 items
whole items e = sym (take_all 4 items (omega arith))

not_delayed : (m : Machine) (r : Request) (who : Caller) (size now : ℕ) → length r.left ≡ 4 → get_or (compound m r who size now None).text 2 0 ≡ 39
    → IsDelayed m r who size now 3 → ⊥
not_delayed m r who size now four status d =
    let same = d.would r size (record { tag = refl; minor = refl; declared = omega arith; left = whole r.left four }) (omega arith) in
    let ok = with_ok r 4 (d.results ++ d.more) d.behind in
    let bad : ◌≡◌ {A = ℕ} 39 0 = sym status
    ∙ (ap (λ (a : Answered). get_or a.text 2 0) same
    ∙ (ap (λ (text : List ℕ). get_or text 2 0) (kept_text r who (first_runs m r who size r.left) ok) ∙ ok_byte r 4 (d.results ++ d.more) d.behind)) in
    absurd (omega arith)

-- four operations, and the third byte of the status of NFS4ERR_DENIED
abbrev denies : Machine → Option MachineEvent → Bool
denies m (Some (Asks r who size now choice)) = (length r.left == 4) && (get_or (compound m r who size now None).text 2 0 == 39)
denies m o = false

none_delayed : (m : Machine) (o : Option MachineEvent) → denies m o ≡ true → NoneDelayed m 3 o
none_delayed m (Some (Asks r who size now choice)) e =
    let tests = and_parts _ _ e in not_delayed m r who size now (eqb-true _ _ tests.0) (eqb-true _ _ tests.1)
none_delayed m (Some (Expires now)) e = absurd (false≢true e)
none_delayed m None e = absurd (false≢true e)

-- A's lock state
abbrev state : LockState
state = record { number = 2; client = worked.told.client; owner = 0x6c ∷ []; file = 2; opened = 1; seqid = 1 }

its : (l : LockState) (locks : List LockState) → locks ≡ state ∷ [] → In l locks → l.client ≡ worked.told.client
its l locks one there = elim (subst (In l) one there) [ inl same ↦ ap (λ (l : LockState). l.client) same | inr none ↦ absurd none ]

no_state : state ∷ [] ≡ [] → ⊥
no_state e = cc

-- the lock stands 91 seconds behind the last renewal
late : (records : List Arrival) → last_renewal worked.told.client None (new_state usual) records ≡ Some 102
    → IsInTime worked.locked.machine.store.opens 2 90 193 (λ client. last_renewal client None (new_state usual) records) → ⊥
unfolding computing
late records renewed is =
    late_by is.last
    (sym renewed ∙ subst (λ client. last_renewal client None (new_state usual) records ≡ Some is.last)
    (its is.lock worked.locked.machine.store.opens.locks refl is.there) is.renewed) is.within

pub are_refused : AreRefused
unfolding computing
are_refused = record {
  delayed = none_delayed (before worked.asked worked.clashes) (asked_by worked.asked worked.clashes) refl;
  denied = λ d is. is.refused 4 (worked.wish 2 0) (locks_for (told_anyway (last_of d (ops_of worked.asked worked.clashes))) 2 0 4 refl refl refl refl refl) (record { other = λ same. absurd (omega arith); file = refl; before = omega arith; behind = omega arith; kinds = refl });
  closed = λ d is.
      unheld (closes_another (last_of d (ops_of worked.asked worked.clashes))).behind.store.opens refl
      (is.1 (spared (last_of d (ops_of worked.asked worked.clashes)))).0;
  short = gone short_leases (omega arith) refl refl refl;
  back = gone set_back (omega arith) refl refl refl;
  anew = refl;
  taken_over = refl;
  exchanged = λ is. unheld ended.machine.store.opens refl is;
  last = refl;
  held = refl;
  late = late (worked.earlier ++ worked.locks ∷ []) refl;
  run_out = refl;
  kept_all = λ none. no_state none.locks;
  repeat = refl;
  lives_on = late (worked.earlier ++ worked.locks ∷ repeats ∷ []) refl;
}
