-- What a RENAME answers and leaves, by its fault and by whether anything moves.
use Rattle.std.proofs.Common.{◌≡◌, Bool, true, false, not, Some, None, refl, sym, ◌∙◌, ap, subst}
use Rattle.std.specs.Prelude.{Result, Ok, Err, ◌&&◌, if◌then◌else◌}
use Rattle.nfs_xdr.specs.declared.time.Time.{Time}
use Rattle.nfs_tree.specs.{declared.done.Renamed.Renamed, declared.fault.TreeFault.TreeFault, declared.fault.TreeFault.TheVariants.{NotEmpty, Exist}, Files.Files}
use Rattle.nfs_tree.specs.{Calls.{DoesOrWants, rename_fault, rename_unless, moved, unmoved, rename}, Names.{Move, moves, is_unlike, rename_checks}, Profile.is_unix}
use Rattle.nfs_tree.proofs.Refusals.{is_memory, by_fault, fault_of}

way_fault_told : (b : Bool) → is_memory (if b then NotEmpty else Exist) ≡ false
way_fault_told true = refl
way_fault_told false = refl

pub rename_refused : (t : Files) (m : Move) (now : Time) (r : Result Renamed TreeFault) (f : TreeFault)
    → rename_fault t m ≡ Some f → r ≡ Err f → DoesOrWants t (moves t m) (rename t m now) r t
rename_refused t m now r f e is =
    subst (λ r. DoesOrWants t (moves t m) (rename t m now) r t) (sym is)
    (by_fault t (moves t m) (rename t m now) f (fault_of (rename_checks t m) f (refl, (refl, (refl, (refl, (refl, (refl, (way_fault_told (is_unix t.profile && not (is_unlike t m)), (refl, tt)))))))) e)
    (ap (λ o. rename_unless t o (if moves t m then moved t m now else unmoved t m)) e))

pub rename_goes : (t new : Files) (m : Move) (now : Time) (r : Result Renamed TreeFault) → rename_fault t m ≡ None
    → moves t m ≡ true → DoesOrWants t true (moved t m now) r new → DoesOrWants t (moves t m) (rename t m now) r new
rename_goes t new m now r e go done =
    let did : rename t m now ≡ moved t m now = ap (λ o. rename_unless t o (if moves t m then moved t m now else unmoved t m)) e
    ∙ ap (λ b. if b then moved t m now else unmoved t m) go in
    subst (λ did. DoesOrWants t (moves t m) did r new) (sym did) (subst (λ b. DoesOrWants t b (moved t m now) r new) (sym go) done)

pub rename_stays : (t : Files) (m : Move) (now : Time) (told : Renamed) → rename_fault t m ≡ None
    → moves t m ≡ false → Ok told ≡ (unmoved t m).answer → DoesOrWants t (moves t m) (rename t m now) (Ok told) t
rename_stays t m now told e stays is =
    let did : rename t m now ≡ unmoved t m = ap (λ o. rename_unless t o (if moves t m then moved t m now else unmoved t m)) e
    ∙ ap (λ b. if b then moved t m now else unmoved t m) stays in
    (is ∙ ap (λ d. d.answer) (sym did), ap (λ d. d.after) (sym did))
