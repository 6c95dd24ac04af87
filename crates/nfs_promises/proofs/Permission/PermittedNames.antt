-- An operation on names that was answered NFS4_OK was granted what it wants of the directory.
use Rattle.std.proofs.{Common.{◌≡◌, ℕ, true, List, [], ◌∷◌, Some, refl, sym, ◌∙◌, ap, subst, inl, inr}, lemmas.Bool.{not-false, false≢true}}
use Rattle.std.specs.Prelude.{Ok}
use Rattle.nfs_xdr.specs.{Tables.In, declared.{time.Time.Time, status.Status.TheVariants.Symlink}}
use Rattle.nfs_xdr.proofs.Checks.{all_passed}
use Rattle.nfs_compound.specs.declared.{name_args.{Create.Create, ReadDir.ReadDir}, op.Item.{Item, TheVariants.Operation}}
use Rattle.nfs_compound.specs.declared.op.Op.TheVariants as Op
use Rattle.nfs_compound.specs.declared.op_num.OpNum.TheVariants as Num
use Rattle.nfs_results.specs.Results.{status_of_result}
use Rattle.nfs_tree.specs.Object.{is_link}
use Rattle.nfs_attrs.specs.Permissions.{execute as to_execute, change_entries as to_change}
use Rattle.nfs_names.specs.{Checks.{node_at, saved_object, no_directory, no_access, permits, name_checks, current, both}, Create.{place_checks, create}}
use Rattle.nfs_names.specs.{Link.link, Lookup.lookup, LookupP.lookup_p, Outcome.{Outcome, is_ok}, ReadDir.{listing_checks, read_dir}, Remove.remove}
use Rattle.nfs_names.specs.{State.{State, time_at}, declared.{context.Context.Context, node.Node.Node}}
use Rattle.nfs_names.proofs.{Found.{came, ok_is}, NameLaws.{by_lookup, by_lookup_p, by_read_dir, by_create, by_link, by_remove, link_places, remove_places}}
use Rattle.nfs_names.proofs.Ones.{by_delay}
use Rattle.nfs_exec.specs.{Runs.Ops.RanOp}
use Rattle.nfs_exec.proofs.Runs.OneRun.{IsRun, by_ok}
use Rattle.nfs_promises.specs.Permission.Permitted.{Rights, Right, Reads, Writes, Executes, Grants, rights_of, rights_at, wants, IsAt}
use Rattle.nfs_promises.proofs.Permission.Granting.{reads, executes, changes, rights_here, current_at}

-- The object of the current filehandle.

pub here : (s : State) (x : Context) (n : ℕ) (r : Rights) (d : Node) → x.current ≡ Some n → rights_at s.tree n ≡ Some r → current s x ≡ Ok d → rights_of d.object ≡ r
here s x n r d at is e = rights_here s n r d is (current_at s x n d at e)

pub gets : (s : State) (x : Context) (n : ℕ) (r : Rights) (d : Node) (right : Right) → x.current ≡ Some n → rights_at s.tree n ≡ Some r → current s x ≡ Ok d
    → Grants (rights_of d.object) x.who right → Grants r x.who right
gets s x n r d right at is e grants = subst (λ r. Grants r x.who right) (here s x n r d at is e) grants

pub picked : {P Q : Type 0} (a b : P) → a ≡ b → (pick : P → Q) → pick a ≡ pick b
picked a b same pick = ap pick same

pub both_current : (s : State) (x : Context) (p : _) → both s x ≡ Ok p → current s x ≡ Ok p.current
unfolding both
both_current s x p e =
    let d = came (current s x) _ p e in
    let k = came (node_at s (saved_object x.saved)) _ p d.then in
    d.is ∙ picked _ p (ok_is refl k.then) (λ q. Ok q.current)

-- What was answered NFS4_OK passed the check.

module _ (s : State) (x : Context) (n : ℕ) (r : Rights) (at : x.current ≡ Some n) (is : rights_at s.tree n ≡ Some r) where
  abbrev IsOk : Outcome → Type 0 → Type 0
  IsOk o G = is_ok (status_of_result o.result) ≡ true → G

  lookup_done : (name : List ℕ) → IsOk (lookup s x name) (Grants r x.who Executes)
  lookup_done name = by_lookup (λ o. IsOk o (Grants r x.who Executes)) s x name (λ f refusal ok. absurd (false≢true (sym refusal.done ∙ ok))) (λ d k there placed named ok.
      (let checks = all_passed ((is_link d.object.kind, Symlink) ∷ no_directory d ∷ no_access x d to_execute ∷ name_checks name) placed in
      gets s x n r d Executes at is there (executes x d (not-false _ checks.1.1.0))))

  lookup_p_done : IsOk (lookup_p s x) (Grants r x.who Executes)
  lookup_p_done = by_lookup_p (λ o. IsOk o (Grants r x.who Executes)) s x (λ f refusal ok. absurd (false≢true (sym refusal.done ∙ ok))) (λ d k there placed stands ok.
      (let checks = all_passed (no_directory d ∷ no_access x d to_execute ∷ []) placed in gets s x n r d Executes at is there (executes x d (not-false _ checks.1.0))))

  read_dir_done : (a : ReadDir) → IsOk (read_dir s x a) (Grants r x.who Reads)
  read_dir_done a = by_read_dir (λ o. IsOk o (Grants r x.who Reads)) s x a (λ f refusal ok. absurd (false≢true (sym refusal.done ∙ ok))) (λ d there placed some ok.
      (let checks = all_passed (listing_checks x a d) placed in gets s x n r d Reads at is there (reads x d (not-false _ checks.1.0))))

  abbrev Changes : Type 0
  Changes = Grants r x.who Writes × Grants r x.who Executes

  changed : (d : Node) → current s x ≡ Ok d → permits x d to_change ≡ true → Changes
  changed d there may = let both = changes x d may in (gets s x n r d Writes at is there both.0, gets s x n r d Executes at is there both.1)

  create_done : (now : Time) (c : Create) → IsOk (create s x now c) Changes
  create_done now c = by_create (λ o. IsOk o Changes) s x now c (λ f refusal ok. absurd (false≢true (sym refusal.done ∙ ok))) (λ d wanted there placed read row ok.
      (let checks = all_passed (place_checks x c d) placed in changed d there (not-false _ checks.1.0)))

  link_done : (now : Time) (name : List ℕ) → IsOk (link s x now name) Changes
  link_done now name = by_link (λ o. IsOk o Changes) s x now name (λ f refusal ok. absurd (false≢true (sym refusal.done ∙ ok))) (λ p there placed row ok.
      (let checks = all_passed (link_places x name p) placed in changed p.current (both_current s x p there) (not-false _ checks.1.1.0)))

  remove_done : (now : Time) (name : List ℕ) → IsOk (remove s x now name) Changes
  remove_done now name = by_remove (λ o. IsOk o Changes) s x now name (λ f refusal ok. absurd (false≢true (sym refusal.done ∙ ok))) (λ d there placed row ok.
      (let checks = all_passed (remove_places x name d) placed in changed d there (not-false _ checks.1.0)))

-- of an operation that was run

pub one_of : (right only : Right) (P : Right → Type 0) → In right (only ∷ []) → P only → P right
one_of right only P (inl same) holds = subst P (sym same) holds
one_of right only P (inr none) holds = absurd none

pub two_of : (right first second : Right) (P : Right → Type 0) → In right (first ∷ second ∷ []) → P first × P second → P right
two_of right first second P (inl same) holds = subst P (sym same) holds.0
two_of right first second P (inr there) holds = one_of right second P there holds.1

named_done : (d : RanOp) → IsRun d → (n : ℕ) (r : Rights) → IsAt n r d → is_ok d.status ≡ true → (i : Item) → d.item ≡ i → (right : Right) → In right (wants i)
    → Grants r d.context.who right
named_done d run n r at ok (Operation (Op.Lookup name)) same right there =
    by_ok (λ text s. Grants r d.context.who right) d run (Operation (Op.Lookup name)) same ok (λ fine.
    one_of right Executes (Grants r d.context.who) there (lookup_done d.before.store d.context n r at.at at.is name fine))
named_done d run n r at ok (Operation Op.LookupP) same right there =
    by_ok (λ text s. Grants r d.context.who right) d run (Operation Op.LookupP) same ok (λ fine.
    one_of right Executes (Grants r d.context.who) there (lookup_p_done d.before.store d.context n r at.at at.is fine))
named_done d run n r at ok (Operation (Op.ReadDir a)) same right there =
    by_ok (λ text s. Grants r d.context.who right) d run (Operation (Op.ReadDir a)) same ok (λ fine.
    one_of right Reads (Grants r d.context.who) there (read_dir_done d.before.store d.context n r at.at at.is a fine))
named_done d run n r at ok (Operation (Op.Create c)) same right there =
    by_ok (λ text s. Grants r d.context.who right) d run (Operation (Op.Create c)) same ok
    (by_delay (λ o. is_ok (status_of_result o.result) ≡ true → Grants r d.context.who right) run.refused d.before.store d.context Num.Create
    (create d.before.store d.context (time_at d.before.store run.now) c) (λ delayed. absurd (false≢true delayed)) (λ fine.
    two_of right Writes Executes (Grants r d.context.who) there (create_done d.before.store d.context n r at.at at.is (time_at d.before.store run.now) c fine)))
named_done d run n r at ok (Operation (Op.Link name)) same right there =
    by_ok (λ text s. Grants r d.context.who right) d run (Operation (Op.Link name)) same ok
    (by_delay (λ o. is_ok (status_of_result o.result) ≡ true → Grants r d.context.who right) run.refused d.before.store d.context Num.Link
    (link d.before.store d.context (time_at d.before.store run.now) name) (λ delayed. absurd (false≢true delayed)) (λ fine.
    two_of right Writes Executes (Grants r d.context.who) there (link_done d.before.store d.context n r at.at at.is (time_at d.before.store run.now) name fine)))
named_done d run n r at ok (Operation (Op.Remove name)) same right there =
    by_ok (λ text s. Grants r d.context.who right) d run (Operation (Op.Remove name)) same ok (λ fine.
    two_of right Writes Executes (Grants r d.context.who) there (remove_done d.before.store d.context n r at.at at.is (time_at d.before.store run.now) name fine))
named_done d run n r at ok i same right there = absurd there

pub named_granted : (d : RanOp) → IsRun d → (n : ℕ) (r : Rights) → IsAt n r d → is_ok d.status ≡ true → (right : Right) → In right (wants d.item)
    → Grants r d.context.who right
named_granted d run n r at ok right there = named_done d run n r at ok d.item refl right there
