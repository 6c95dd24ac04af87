-- What an OPEN leaves of the tree.
use Rattle.std.proofs.Common.{◌≡◌, ◌⊎◌, inl, inr, ℕ, true, false, Option, refl, sym, ◌∙◌, ap}
use Rattle.std.proofs.lemmas.Bool.{and_parts, eqb-true, false≢true}
use Rattle.std.specs.Prelude.{◌==◌, ◌&&◌}
use Rattle.nfs_xdr.specs.declared.time.Time.{Time}
use Rattle.nfs_compound.specs.declared.open_args.Open.{Open}
use Rattle.nfs_tree.specs.{Files.{Files, next_count}, Bytes.with_resized}
use Rattle.nfs_names.specs.{declared.context.Context.Context, declared.node.Node.Node, State.State}
use Rattle.nfs_files.specs.{declared.opening.Found.Found, declared.opening.Found.TheVariants.{There, Absent}, FileImage.{claimed, is_number, asks_empty}, Bytes.behind_sets}
use Rattle.nfs_files.specs.Open as of_open
use Rattle.nfs_files.proofs.FileOps.{Is}

-- it is changed once or not at all
pub opened_once : (t : Files) (x : Context) (now : Time) (a : Open) (f : Found)
    → ((of_open.tree_of t x now a f).changes ≡ t.changes) ⊎ ((of_open.tree_of t x now a f).changes ≡ next_count t.changes)
opened_once t x now a (There place g true) = inr refl
opened_once t x now a (There place g false) = inl refl
opened_once t x now a (Absent m) = inr refl

-- what it empties is cut
pub emptied_is : (n : ℕ) (s : State) (x : Context) (now : Time) (a : Open) (f : Found) → Is s x a f → is_number n (claimed s.tree x.current a.claim) && asks_empty a ≡ true
    → (g : Node) × (of_open.tree_of s.tree x now a f ≡ with_resized s.tree n 0 (behind_sets s.tree x g) now)
emptied_is n s x now a (There place g cut) is empties =
    let both = and_parts cut (g.number == n) (sym (is.empties n) ∙ empties) in
    let same : g.number ≡ n = eqb-true g.number n both.1 in (g, rw (both.0, same) refl)
emptied_is n s x now a (Absent m) is empties = absurd (false≢true (sym (ap (λ (k : Option ℕ). is_number n k && asks_empty a) is.none) ∙ empties))
