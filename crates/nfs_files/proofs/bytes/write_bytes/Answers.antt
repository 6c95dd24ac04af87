use Rattle.std.proofs.{Common.{◌≡◌, ℕ, List, false, refl, sym, ap, subst, ◌∙◌}, lemmas.Bool.false≢true}
use Rattle.nfs_tree.specs.declared.fault.TreeFault.TheVariants as F
use Rattle.std.specs.Prelude.{Result, Ok, Err}
use Rattle.nfs_compound.specs.declared.op_num.OpNum.TheVariants as Num
use Rattle.nfs_results.specs.declared.res.Res.TheVariants as Res
use Rattle.nfs_results.specs.Results.{refusal}
use Rattle.nfs_tree.specs.{declared.sets.Sets.Sets, Bytes.has_bytes, Files.Files, declared.fault.TreeFault.TreeFault, Calls.{DoesOrWants, write_fault}}
use Rattle.nfs_xdr.specs.declared.{time.Time.Time, status.Status.Status}
use Rattle.nfs_tree.specs.Calls as tree
use Rattle.nfs_names.specs.{State.{State, state_of, with_tree}, Checks.current, Faults.tree_fault_status, Outcome.{refuses, is_ok, is_delay, lacks}}
use Rattle.nfs_names.proofs.{NameLaws.current_refuses, Faulted.{IsFault, told_done, told_fault, told_error, lacks_fail}}
use Rattle.nfs_files.specs.{Bytes.behind_sets, Write.{write_ok, with_bytes, last_checks, refused_as, write}, Parts.{writable, was_written}}
use Rattle.nfs_files.proofs.{Seats.writable_refuses, WriteRows.{write_goes, write_stops}}
use Rattle.nfs_files.proofs.bytes.write_bytes.Goals as goal
use Rattle.nfs_files.proofs.InSteps.{write_is}

-- what the tree did of a WRITE of bytes
abbrev wrote : (t left : Files) (n offset : ℕ) → Sets → Time → List ℕ → Result (Unit {0}) TreeFault → Type 0
wrote t left n offset sets now bytes r = DoesOrWants t (has_bytes bytes) (tree.write t n offset bytes sets now) r left

-- bytes that find no memory are refused as such; all else that the tree refuses under its own status

is_fault : (s : State) (f : TreeFault) → IsFault s Num.Write f (refused_as (lacks s Num.Write) f)
is_fault s f = record { memory = λ is. ap (refused_as (lacks s Num.Write)) is; fails = fails f }
  where
    fails : (f : TreeFault) → is_ok (refused_as (lacks s Num.Write) f) ≡ false
    fails F.Memory = lacks_fail s Num.Write
    fails f = refl

own_fault : (lack : Status) (f : TreeFault) → is_delay (tree_fault_status f) ≡ false → tree_fault_status f ≡ refused_as lack f
own_fault lack F.Memory off = absurd (false≢true (sym off))
own_fault lack f off = refl

pub returns-in-Ok-write : goal.returns-in-Ok-write
returns-in-Ok-write c =
    let s = state_of c.args.store.now in
    let x = c.args.context.now in
    let w = c.args.asked.now in
    let d = c.in-Ok.node in
    let g = has_bytes w.bytes in
    ap (λ k. record { result = Res.Write k; state = with_tree s c.write.new.self; context = x }) c.write_ok.ensures
    ∙ told_done g g s x Num.Write (write s x c.args.now w) (λ u. Res.Write (write_ok s w)) (λ u. x) (write_fault s.tree d.number w.offset w.bytes)
    tt c.in-Ok-write.field-0 (with_bytes s.tree x w d c.args.now) c.write.new.self
    (write_goes s x c.args.now w d (sym c.to_write.ensures ∙ c.in-Ok.is))
    (subst (λ (b : List ℕ). wrote s.tree c.write.new.self d.number w.offset (behind_sets s.tree x d) c.args.now b (Ok c.in-Ok-write.field-0)) c.bytes.ensures
    (subst (λ (k : Sets). wrote s.tree c.write.new.self d.number w.offset k c.args.now c.bytes.result.now (Ok c.in-Ok-write.field-0)) c.behind_sets-sets.ensures c.in-Ok-write.ensures))

pub returns-in-Err-write : goal.returns-in-Err-write
returns-in-Err-write c =
    let s = state_of c.args.store.now in
    let x = c.args.context.now in
    let w = c.args.asked.now in
    let d = c.in-Ok.node in
    let f = c.in-Err-write.fault in
    let v : writable s x w.stateid (current s x) ≡ Ok d = sym c.to_write.ensures ∙ c.in-Ok.is in
    let g = has_bytes w.bytes in
    told_fault g g s x Num.Write (write s x c.args.now w) (was_written s x c.args.now w d) _ (write_fault s.tree d.number w.offset w.bytes)
    tt (with_bytes s.tree x w d c.args.now) c.write.new.self f (refused_as (lacks s Num.Write) f) refl (is_fault s f)
    (c.refuse.ensures ∙ ap (refusal 38) (c.refused_as.ensures ∙ ap (λ lack. refused_as lack f) c.lack_of-lack.ensures))
    (write_goes s x c.args.now w d v)
    (λ other. write_stops s x c.args.now w d f v other.0 ∙ ap (refuses s x Num.Write) (own_fault (lacks s Num.Write) f other.1)) refl
    (subst (λ (b : List ℕ). wrote s.tree c.write.new.self d.number w.offset (behind_sets s.tree x d) c.args.now b (Err f)) c.bytes.ensures
    (subst (λ (k : Sets). wrote s.tree c.write.new.self d.number w.offset k c.args.now c.bytes.result.now (Err f)) c.behind_sets-sets.ensures c.in-Err-write.ensures))

pub returns-in-Err : goal.returns-in-Err
returns-in-Err c =
    rw (write_is (state_of c.args.store.now) c.args.context.now c.args.now c.args.asked.now)
    (let s = state_of c.args.store.now in
    let x = c.args.context.now in
    let w = c.args.asked.now in
    told_error (has_bytes w.bytes) s x Num.Write (writable s x w.stateid (current s x)) (last_checks s w) (was_written s x c.args.now w) _ c.in-Err.status
    (writable_refuses s x w.stateid (current s x) (current_refuses s x)) (sym c.to_write.ensures ∙ c.in-Err.is) c.refuse-in-Err.ensures)
