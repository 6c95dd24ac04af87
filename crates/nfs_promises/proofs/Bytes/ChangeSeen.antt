-- What is reported of a directory's change is so, and an operation that changes an object raises its change, in whatever run.
use Rattle.std.proofs.{Common.{◌≡◌, ◌⊎◌, inl, inr, ℕ, ◌<◌, ◌≤◌, true, ◌∷◌, length, Some, sym, subst, arith}, lemmas.Bool.{lt-ltb, false≢true}}
use Rattle.std.specs.Prelude.{◌&&◌}
use Rattle.nfs_xdr.specs.Tables.{In}
use Rattle.nfs_compound.specs.declared.op.Item.TheVariants.{Operation}
use Rattle.nfs_compound.specs.declared.op.Op.TheVariants as Op
use Rattle.nfs_compound.specs.declared.op_num.OpNum.TheVariants as Num
use Rattle.nfs_results.specs.{declared.res.{ChangeInfo.ChangeInfo, CreateOk.CreateOk, OpenOk.OpenOk, RenameOk.RenameOk}, Results.spell_result}
use Rattle.nfs_results.specs.declared.res.Res.TheVariants as Res
use Rattle.nfs_tree.specs.Files.{Files, is_there, change_of}
use Rattle.nfs_names.specs.{State.{time_at}, Create.create, Link.link, Outcome.is_ok, Rename.{rename}}
use Rattle.nfs_names.specs.Operation as names
use Rattle.nfs_names.proofs.Ones.{by_delay}
use Rattle.nfs_exec.specs.Runs.Ops.{RanOp}
use Rattle.nfs_exec.proofs.{Runs.OneRun.{IsRun, by_ok}, Runs.OneWalk.in_back}
use Rattle.nfs_serve.specs.{Step.{ServerState, new_state}}
use Rattle.nfs_promises.specs.{Runs.Points.{state_after, reached}, Bytes.{ChangeTells.RunsIn, ChangeSeen.{IsTheirs, ReportsOf, ReportsAreTrue, Changes}}}
use Rattle.nfs_promises.specs.Bytes.ChangeSeen.{Writes, Sets, Empties, Creates, Links, Removes, ChangesAreNew}
use Rattle.nfs_promises.proofs.{Bytes.ChangeTells.change_tells, Runs.{LaterRecords.{op_done, later_done}, Points.{IsSound, sound_all, sound_new}}}
use Rattle.nfs_files.proofs.ChangesTold.{Theirs, Done, CreateTells, LinkTells, RenameTells, Raises, create_tells, remove_tells, link_tells, rename_tells, open_tells, write_raises, set_attr_raises, open_raises}

-- An operation that was run, and answered NFS4_OK.

theirs : (n : ℕ) (d : RanOp) (info : ChangeInfo) → Theirs n d.before.store.tree d.behind.store.tree info → IsTheirs n d info
theirs n d info is = record { atomic = is.atomic; before = is.before; after = is.after }

reports : (n : ℕ) (d : RanOp) → IsRun d → is_ok d.status ≡ true → d.context.current ≡ Some n → ReportsOf n d
reports n d r ok at =
    let s = d.before.store in
    let x = d.context in
    let now = time_at d.before.store r.now in
    let t : Files = s.tree in
    record {
      created = λ a item. (let it = by_ok (λ result left. (k : CreateOk) × (result ≡ spell_result (Res.Create k)) × Theirs n t left.tree k.cinfo × (k.cinfo.before < k.cinfo.after))
          d r (Operation (Op.Create a)) item ok
          (by_delay (Done (CreateTells n t)) (names.grows s x (Op.Create a) && r.refused) s x Num.Create (create s x now a) (λ ok. absurd (false≢true ok)) (create_tells n s x now a at)) in
          (it.0, it.1, theirs n d it.0.cinfo it.2, it.3));
      linked = λ name item. (let it = by_ok (λ result left. (k : ChangeInfo) × (result ≡ spell_result (Res.Link k)) × Theirs n t left.tree k × (k.before < k.after))
          d r (Operation (Op.Link name)) item ok
          (by_delay (Done (LinkTells n t)) (names.grows s x (Op.Link name) && r.refused) s x Num.Link (link s x now name) (λ ok. absurd (false≢true ok)) (link_tells n s x now name at)) in
          (it.0, it.1, theirs n d it.0 it.2, it.3));
      removed = λ name item. (let it = by_ok (λ result left. (k : ChangeInfo) × (result ≡ spell_result (Res.Remove k)) × Theirs n t left.tree k × (k.before < k.after))
          d r (Operation (Op.Remove name)) item ok (remove_tells n s x now name at) in
          (it.0, it.1, theirs n d it.0 it.2, it.3));
      renamed = λ a from item saved. (let it = by_ok (λ result left. (k : RenameOk) × (result ≡ spell_result (Res.Rename k)) × Theirs from.object t left.tree k.source_cinfo
          × Theirs n t left.tree k.target_cinfo) d r (Operation (Op.Rename a)) item ok
          (by_delay (Done (RenameTells from.object n t)) (names.grows s x (Op.Rename a) && r.refused) s x Num.Rename (rename s x now a) (λ ok. absurd (false≢true ok))
          (rename_tells from n s x now a r.whole.tree saved at)) in
          (it.0, it.1, theirs from.object d it.0.source_cinfo it.2, theirs n d it.0.target_cinfo it.3));
      opened = λ a item. (let it = by_ok (λ result left. (k : OpenOk) × (result ≡ spell_result (Res.Open k)) × Theirs n t left.tree k.cinfo)
          d r (Operation (Op.Open a)) item ok (open_tells n r.refused s x now a at) in
          (it.0, it.1, theirs n d it.0.cinfo it.2));
    }

pub reports_are_true : ReportsAreTrue
reports_are_true start records c d n there ok at =
    let s = reached start records in
    let sound : IsSound s = sound_all (new_state start) records (sound_new start) in
    reports n d (op_done s c sound d there).run ok at

by_report : (n : ℕ) (d : RanOp) (info : ChangeInfo) → IsTheirs n d info → info.before < info.after → Raises n d.before.store.tree d.behind.store.tree
by_report n d info is less = subst (λ (k : ℕ). k < change_of d.behind.store.tree n) is.before (subst (λ (k : ℕ). info.before < k) is.after less)

pub changes_raise : (n : ℕ) (d : RanOp) → IsRun d → is_there d.before.store.tree n ≡ true → is_ok d.status ≡ true → Changes n d
    → Raises n d.before.store.tree d.behind.store.tree
changes_raise n d r there ok (Writes a item at some) = by_ok (λ result left. Raises n d.before.store.tree left.tree) d r (Operation (Op.Write a)) item ok
    (write_raises n r.refused d.before.store d.context (time_at d.before.store r.now) a at there (lt-ltb 0 (length a.bytes) some))
changes_raise n d r there ok (Sets a wanted item at reads some) = by_ok (λ result left. Raises n d.before.store.tree left.tree) d r (Operation (Op.SetAttr a)) item ok
    (set_attr_raises n d.before.store d.context (time_at d.before.store r.now) a wanted at there reads some)
changes_raise n d r there ok (Empties a item empties) = by_ok (λ result left. Raises n d.before.store.tree left.tree) d r (Operation (Op.Open a)) item ok
    (open_raises n r.refused d.before.store d.context (time_at d.before.store r.now) a there empties)
changes_raise n d r there ok (Creates a item at) = (let it = (reports n d r ok at).created a item in by_report n d it.0.cinfo it.2 it.3)
changes_raise n d r there ok (Links name item at) = (let it = (reports n d r ok at).linked name item in by_report n d it.0 it.2 it.3)
changes_raise n d r there ok (Removes name item at) = (let it = (reports n d r ok at).removed name item in by_report n d it.0 it.2 it.3)

pub changes_are_new : ChangesAreNew
changes_are_new start earlier c front e back more d n same when here there ok changes = by_place when
  where
    s : ServerState
    s = reached start earlier

    sound : IsSound (reached start earlier)
    sound = sound_all (new_state start) earlier (sound_new start)

    run_here : (b : RanOp) → In b (e ∷ back) → IsRun b
    run_here b within = (op_done s c sound b (subst (In b) (sym same) (in_back b front (e ∷ back) within))).run

    later : In d back ⊎ RunsIn (state_after s c) more d → change_of e.before.store.tree n ≤ change_of d.before.store.tree n
    later behind = (change_tells start earlier c front e back more d n same behind here there).rises

    by_place : In d (e ∷ back) ⊎ RunsIn (state_after s c) more d → change_of e.before.store.tree n < change_of d.behind.store.tree n
    by_place (inl (inl first)) = subst (λ (b : RanOp). change_of b.before.store.tree n < change_of d.behind.store.tree n) first
        (changes_raise n d (run_here d (inl first)) there ok changes)
    by_place (inl (inr within)) =
        (let rises = later (inl within) in
        let more = changes_raise n d (run_here d (inr within)) there ok changes in
        omega arith)
    by_place (inr late) =
        (let rises = later (inr late) in
        let more = changes_raise n d (later_done s c front e back more sound same d (inr late)).run there ok changes in
        omega arith)
