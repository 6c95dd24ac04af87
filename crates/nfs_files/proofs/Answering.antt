-- What the tree refuses, said of what it would have done otherwise.
use Rattle.std.proofs.{Common.{◌≡◌, ◌⊎◌, true, false, Option, Some, refl, sym, subst, inl, inr}, lemmas.Bool.{false≢true}}
use Rattle.std.specs.Prelude.{Err}
use Rattle.nfs_tree.specs.{declared.fault.TreeFault.TreeFault, Files.Files, Calls.{does_unless, DoesOrWants}}
use Rattle.nfs_tree.specs.declared.fault.TreeFault.TheVariants as F
use Rattle.nfs_names.specs.{Faults.tree_fault_status, Outcome.is_delay}
use Rattle.nfs_names.proofs.Faulted.{Wants, Other}

-- a refusal of the tree leaves it, whatever would have been answered
refused_as : {A : Type 0} (t : Files) (a : A) (after new : Files) (f : TreeFault) → new ≡ t
    → is_delay (tree_fault_status f) ≡ false → DoesOrWants t true (does_unless t (Some f) a after) (Err f) new
refused_as t a after new F.NoEnt same e = (refl, same)
refused_as t a after new F.Exist same e = (refl, same)
refused_as t a after new F.NotDir same e = (refl, same)
refused_as t a after new F.IsDir same e = (refl, same)
refused_as t a after new F.NotEmpty same e = (refl, same)
refused_as t a after new F.Inval same e = (refl, same)
refused_as t a after new F.Fbig same e = (refl, same)
refused_as t a after new F.NoSpc same e = (refl, same)
refused_as t a after new F.Mlink same e = (refl, same)
refused_as t a after new F.Deep same e = (refl, same)
refused_as t a after new F.Counter same e = (refl, same)
refused_as t a after new F.Memory same e = absurd (false≢true (sym e))

pub refused_again : {A : Type 0} (t : Files) (fault : Option TreeFault) (a : A) (after new : Files) (f : TreeFault)
    → new ≡ t → Wants true f fault ⊎ Other f fault → DoesOrWants t true (does_unless t fault a after) (Err f) new
refused_again t fault a after new f same (inl w) = rw (w.0, w.1) (refl, refl, same)
refused_again t fault a after new f same (inr other) =
    subst (λ k. DoesOrWants t true (does_unless t k a after) (Err f) new) (sym other.0) (refused_as t a after new f same other.1)
