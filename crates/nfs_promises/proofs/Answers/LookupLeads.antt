-- What a LOOKUP makes current.
use Rattle.std.proofs.{Common.{◌≡◌, ℕ, Bool, true, List, ◌∷◌, Some, None, refl, sym, ◌∙◌, ap, inl, inr}, lemmas.Bool.{cases_Bool, false≢true}}
use Rattle.nfs_compound.specs.declared.op.Item.TheVariants.{Operation}
use Rattle.nfs_compound.specs.declared.op.Op.TheVariants as Op
use Rattle.nfs_tree.specs.Files.{object_named}
use Rattle.nfs_names.specs.{declared.context.Context.Context, Outcome.is_ok}
use Rattle.nfs_names.proofs.NameLaws as law
use Rattle.nfs_files.proofs.{ChangesTold.some_same, WrittenOps.current_number}
use Rattle.nfs_exec.specs.{Step.{Machine.Machine, Run.in_room}}
use Rattle.nfs_exec.proofs.Runs.OneRun.{in_room_is}
use Rattle.nfs_results.specs.Results.{status_of_result}
use Rattle.nfs_serve.specs.Step.{new_state}
use Rattle.nfs_promises.specs.{Runs.Points.reached, Answers.YesIsTrue.LookupLeads}
use Rattle.nfs_promises.proofs.{Names.NameStays.{ran_as, runs_at}, Runs.Points.{sound_all, sound_new}, Answers.Placed.status_is}

-- what is current behind one that was answered NFS4_OK
enters : (name : List ℕ) (limit sofar now : ℕ) (refused : Bool) (m : Machine) (x : Context) (directory : ℕ) → x.current ≡ Some directory
    → (let s = in_room limit sofar now refused m x (Operation (Op.Lookup name)) in
    is_ok s.outcome.status ≡ true → s.context.current ≡ object_named m.store.tree directory name)
enters name limit sofar now refused m x directory at =
    in_room_is (λ s. is_ok s.outcome.status ≡ true → s.context.current ≡ object_named m.store.tree directory name)
    limit sofar now refused m x (Operation (Op.Lookup name)) (λ ok. absurd (false≢true ok))
    (law.by_lookup (λ o. is_ok (status_of_result o.result) ≡ true → o.context.current ≡ object_named m.store.tree directory name) m.store x name
    (λ f h ok. absurd (false≢true (sym h.done ∙ ok))) (λ d n here placed named ok.
    sym named ∙ ap (λ d. object_named m.store.tree d name) (some_same x.current d.number directory (current_number m.store x d here) at)))

pub lookup_leads : LookupLeads
lookup_leads start records c front back d e name directory are is at =
    let runs = runs_at (reached start records) c front d (e ∷ back) (sound_all (new_state start) records (sound_new start)) are in
    let r = runs.run in
    let hands : e.context ≡ (ran_as d r d.item).context = runs.hands e.context refl in
    let ok : is_ok d.status ≡ true = elim (cases_Bool (is_ok d.status)) [
      | inl fine ↦ fine
      | inr failed ↦ absurd (let bad : Some e.context ≡ None = runs.stops failed in cc)
    ] in
    ap (λ (x : Context). x.current) hands ∙ (ap (λ i. (ran_as d r i).context.current) is
    ∙ enters name r.limit r.sofar r.now r.refused d.before d.context directory at (ap is_ok (sym (status_is d r (Operation (Op.Lookup name)) is)) ∙ ok))
