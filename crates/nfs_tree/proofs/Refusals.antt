-- What a refused call answers and leaves.
use Rattle.std.proofs.Common.{◌≡◌, Bool, true, false, cond, List, [], ◌∷◌, Option, Some, None, refl, sym, ◌∙◌, ap, subst}
use Rattle.std.specs.{Prelude.{Result, Ok, Err}, List.AllByRecursion}
use Rattle.nfs_xdr.specs.Checks.{first_fault, judged}
use Rattle.nfs_tree.specs.declared.fault.TreeFault.{TreeFault}
use Rattle.nfs_tree.specs.declared.fault.TreeFault.TheVariants.{NoEnt, Exist, NotDir, IsDir, NotEmpty, Inval, Fbig, NoSpc, Mlink, Deep, Counter, Memory}
use Rattle.nfs_tree.specs.{Files.Files, Calls.{Did, does_unless, DoesOrWants}}

abbrev pub is_memory : TreeFault → Bool
is_memory NoEnt = false
is_memory Exist = false
is_memory NotDir = false
is_memory IsDir = false
is_memory NotEmpty = false
is_memory Inval = false
is_memory Fbig = false
is_memory NoSpc = false
is_memory Mlink = false
is_memory Deep = false
is_memory Counter = false
is_memory Memory = true

pub judged_err : (o : Option TreeFault) (f : TreeFault) → judged o ≡ Err f → o ≡ Some f
judged_err None f e = absurd cc
judged_err (Some g) f e = cc

pub judged_ok : (o : Option TreeFault) (u : Unit {0}) → judged o ≡ Ok u → o ≡ None
judged_ok None u e = refl
judged_ok (Some g) u e = absurd cc

fault_by : (b : Bool) (g f : TreeFault) (rest : Option TreeFault) → is_memory g ≡ false
    → (rest ≡ Some f → is_memory f ≡ false) → cond b (Some g) rest ≡ Some f → is_memory f ≡ false
fault_by true g f rest here later e = let same : g ≡ f = cc in ap is_memory (sym same) ∙ here
fault_by false g f rest here later e = later e

-- a check that does not answer want of memory
pub fault_of : (checks : List (Bool × TreeFault)) (f : TreeFault)
    → AllByRecursion (λ check. is_memory check.1 ≡ false) checks → first_fault checks ≡ Some f → is_memory f ≡ false
fault_of [] f all e = absurd cc
fault_of (check ∷ checks) f all e = fault_by check.0 check.1 f (first_fault checks) all.0 (fault_of checks f all.1) e

pub by_fault : {A : Type 0} (t : Files) (grows : Bool) (did : Did A) (f : TreeFault)
    → is_memory f ≡ false → did ≡ record { answer = Err f; after = t } → DoesOrWants t grows did (Err f) t
by_fault t grows did NoEnt n e = (ap (λ d. d.answer) (sym e), ap (λ d. d.after) (sym e))
by_fault t grows did Exist n e = (ap (λ d. d.answer) (sym e), ap (λ d. d.after) (sym e))
by_fault t grows did NotDir n e = (ap (λ d. d.answer) (sym e), ap (λ d. d.after) (sym e))
by_fault t grows did IsDir n e = (ap (λ d. d.answer) (sym e), ap (λ d. d.after) (sym e))
by_fault t grows did NotEmpty n e = (ap (λ d. d.answer) (sym e), ap (λ d. d.after) (sym e))
by_fault t grows did Inval n e = (ap (λ d. d.answer) (sym e), ap (λ d. d.after) (sym e))
by_fault t grows did Fbig n e = (ap (λ d. d.answer) (sym e), ap (λ d. d.after) (sym e))
by_fault t grows did NoSpc n e = (ap (λ d. d.answer) (sym e), ap (λ d. d.after) (sym e))
by_fault t grows did Mlink n e = (ap (λ d. d.answer) (sym e), ap (λ d. d.after) (sym e))
by_fault t grows did Deep n e = (ap (λ d. d.answer) (sym e), ap (λ d. d.after) (sym e))
by_fault t grows did Counter n e = (ap (λ d. d.answer) (sym e), ap (λ d. d.after) (sym e))
by_fault t grows did Memory n e = absurd cc

pub refused : {A : Type 0} (t : Files) (grows : Bool) (checks : List (Bool × TreeFault)) (answer : A) (after : Files) (r : Result A TreeFault) (f : TreeFault)
    → AllByRecursion (λ check. is_memory check.1 ≡ false) checks
    → first_fault checks ≡ Some f → r ≡ Err f → DoesOrWants t grows (does_unless t (first_fault checks) answer after) r t
refused t grows checks answer after r f all e is =
    subst (λ r. DoesOrWants t grows (does_unless t (first_fault checks) answer after) r t) (sym is)
    (by_fault t grows (does_unless t (first_fault checks) answer after) f (fault_of checks f all e) (ap (λ o. does_unless t o answer after) e))
