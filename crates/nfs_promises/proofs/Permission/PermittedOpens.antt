-- An OPEN that was answered NFS4_OK was granted: by the directory to find the name, or to make it, and by a file that is there all that is asked for.
use Rattle.std.proofs.{Common.{◌≡◌, ℕ, true, not, List, ◌∷◌, Some, None, refl, sym, ◌∙◌, ap, subst}, lemmas.Bool.not-false}
use Rattle.std.specs.Prelude.{Ok}
use Rattle.nfs_xdr.specs.declared.status.Status.TheVariants.{Inval, Delay, NoEnt}
use Rattle.nfs_xdr.proofs.Checks.{all_passed}
use Rattle.nfs_compound.specs.{declared.op.Item.TheVariants.Operation, declared.open_args.Open.Open, declared.open_args.OpenClaim.OpenClaim}
use Rattle.nfs_compound.specs.declared.open_args.OpenClaim.TheVariants.{Null, Previous, DelegateCur, DelegatePrev, Fh, DelegCurFh, DelegPrevFh}
use Rattle.nfs_compound.specs.declared.op.Op.TheVariants as Op
use Rattle.nfs_compound.specs.declared.op_num.OpNum.TheVariants as Num
use Rattle.nfs_tree.specs.Files.{object_named}
use Rattle.nfs_attrs.specs.{Setting.make_checks, Permissions.{execute, write}}
use Rattle.nfs_names.specs.{declared.{context.Context.Context, node.Node.Node}, Checks.{node_at, current, name_checks, no_access, no_directory}}
use Rattle.nfs_names.specs.{Create.attributes_in, Outcome.is_ok, State.{State, time_at}}
use Rattle.nfs_names.proofs.{Found.came, Ones.by_delay}
use Rattle.nfs_files.specs.{Open.{access_of, makes, there_checks, open_file, by_claim, found_by}, OpenTold.{named_in, claimed}}
use Rattle.nfs_files.proofs.WrittenOps.{current_number}
use Rattle.nfs_exec.specs.Runs.Ops.{RanOp}
use Rattle.nfs_exec.proofs.Runs.OneRun.{IsRun, by_ok}
use Rattle.nfs_promises.specs.Permission.Permitted.{Rights, Right, Writes, Executes, Grants, GrantsUse, rights_of, rights_at, has_right, IsAt}
use Rattle.nfs_promises.proofs.{Permission.{Granting.{writes, executes, uses, rights_here, current_at}, PermittedNames.gets}, Answers.Blaming.passed_all}
use Rattle.nfs_promises.proofs.Answers.{StatesTold.open_ends, TruthOfAnswers.{Yes, refused_off}}
use Rattle.nfs_opens.specs.Steps.{in_order, require}

-- what is there gives all that is asked for
there_gives : (s : State) (x : Context) (o : Open) (k : Node) → in_order (there_checks s.tree x o k) ≡ Ok tt → (n : ℕ) (r : Rights) → rights_at s.tree n ≡ Some r
    → node_at s (Some n) ≡ Ok k → (right : Right) → has_right (access_of o) right ≡ true → GrantsUse right s.tree.profile r x.who
there_gives s x o k passes n r is at right has =
    let passed = all_passed (there_checks s.tree x o k) (passed_all (there_checks s.tree x o k) passes) in
    subst (λ r. GrantsUse right s.tree.profile r x.who) (rights_here s n r k is at) (uses x k s.tree (access_of o) (not-false _ passed.1.1.1.0) right has)

module _ (s : State) (x : Context) (o : Open) (d : Node) (there : current s x ≡ Ok d) where
  -- by a name: the directory is passed
  enters : (name : List ℕ) (f : _) → by_claim s x o (Null name) d ≡ Ok f → Grants (rights_of d.object) x.who Executes
  enters name f e =
      let checks = no_directory d ∷ no_access x d execute ∷ name_checks name in
      let c = came (in_order checks) _ f e in
      executes x d (not-false _ (all_passed checks (passed_all checks c.is)).1.0)

  -- what is not there is made, if the directory may be written
  makes_it : (name : List ℕ) (f : _) → by_claim s x o (Null name) d ≡ Ok f → object_named s.tree d.number name ≡ None → Grants (rights_of d.object) x.who Writes
  makes_it name f e none =
      let c = came (in_order (no_directory d ∷ no_access x d execute ∷ name_checks name)) _ f e in
      let w = came (attributes_in (makes o.openhow).attributes) _ f c.then in
      let checks = (not (makes o.openhow).creates, NoEnt) ∷ no_access x d write ∷ make_checks w.found x.who in
      let a = came (in_order checks) _ f (subst (λ k. found_by s x o (record { place = d; wanted = w.found }) k ≡ Ok f) none w.then) in
      writes x d (not-false _ (all_passed checks (passed_all checks a.is)).1.0)

  gives : (claim : OpenClaim) (f : _) → by_claim s x o claim d ≡ Ok f → (n : ℕ) (r : Rights) → rights_at s.tree n ≡ Some r → claimed s.tree x claim ≡ Some n
      → (right : Right) → has_right (access_of o) right ≡ true → GrantsUse right s.tree.profile r x.who
  gives (Null name) f e n r is leads =
      let c = came (in_order (no_directory d ∷ no_access x d execute ∷ name_checks name)) _ f e in
      let w = came (attributes_in (makes o.openhow).attributes) _ f c.then in
      let found : object_named s.tree d.number name ≡ Some n = ap (named_in s.tree name) (sym (current_number s x d there)) ∙ leads in
      let k = came (node_at s (Some n)) _ f (subst (λ k. found_by s x o (record { place = d; wanted = w.found }) k ≡ Ok f) found w.then) in
      there_gives s x o k.found (came (in_order (there_checks s.tree x o k.found)) _ f k.then).is n r is k.is
  gives Fh f e n r is leads =
      let q = came (require (not (makes o.openhow).creates) Inval) _ f e in
      there_gives s x o d (came (in_order (there_checks s.tree x o d)) _ f q.then).is n r is (current_at s x n d leads there)
  gives (Previous type) f e n r is leads = absurd cc
  gives (DelegateCur id file) f e n r is leads = absurd cc
  gives (DelegatePrev file) f e n r is leads = absurd cc
  gives (DelegCurFh id) f e n r is leads = absurd cc
  gives DelegPrevFh f e n r is leads = absurd cc

-- Of an OPEN that was run.

open_came : (d : RanOp) (run : IsRun d) (G : Type 0) → is_ok d.status ≡ true → (a : Open) → d.item ≡ Operation (Op.Open a)
    → ((k : Node) (f : _) → current d.before.store d.context ≡ Ok k → by_claim d.before.store d.context a a.claim k ≡ Ok f → G) → G
open_came d run G ok a same then =
    let s = d.before.store in
    let x = d.context in
    let now = time_at s run.now in
    by_ok (λ text t. G) d run (Operation (Op.Open a)) same ok
    (by_delay (Yes (λ text t. G)) run.refused s x Num.Open (open_file s x now a) (refused_off (λ text t. G) s x Num.Open Delay refl)
    (open_ends s run.whole x now a (Yes (λ text t. G)) (refused_off (λ text t. G) s x Num.Open) (λ k f there its fine. then k f there its)))

pub open_granted : (d : RanOp) → IsRun d → (n : ℕ) (r : Rights) → rights_at d.before.store.tree n ≡ Some r → is_ok d.status ≡ true → (a : Open)
    → d.item ≡ Operation (Op.Open a) → claimed d.before.store.tree d.context a.claim ≡ Some n → (right : Right) → has_right (access_of a) right ≡ true
    → GrantsUse right d.before.store.tree.profile r d.context.who
open_granted d run n r is ok a same leads right has = open_came d run (GrantsUse right d.before.store.tree.profile r d.context.who) ok a same (λ k f there its.
    gives d.before.store d.context a k there a.claim f its n r is leads right has)

pub enter_granted : (d : RanOp) → IsRun d → (n : ℕ) (r : Rights) → IsAt n r d → is_ok d.status ≡ true → (a : Open) (name : List ℕ) → d.item ≡ Operation (Op.Open a)
    → a.claim ≡ Null name → Grants r d.context.who Executes × (object_named d.before.store.tree n name ≡ None → Grants r d.context.who Writes)
enter_granted d run n r at ok a name same claim =
    let s = d.before.store in
    let x = d.context in
    open_came d run (Grants r x.who Executes × (object_named s.tree n name ≡ None → Grants r x.who Writes)) ok a same (λ k f there its.
    (let named : by_claim s x a (Null name) k ≡ Ok f = subst (λ claim. by_claim s x a claim k ≡ Ok f) claim its in
    let number : Some n ≡ Some k.number = sym at.at ∙ current_number s x k there in (
      gets s x n r k Executes at.at at.is there (enters s x a k there name f named),
      λ none. gets s x n r k Writes at.at at.is there (makes_it s x a k there name f named (ap (named_in s.tree name) (sym number) ∙ none)),
    )))
