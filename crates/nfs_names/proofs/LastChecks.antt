-- Where the places and the names passed, what the tree looks at decides like the checks that are left.
use Rattle.std.proofs.Common.{◌≡◌, ℕ, true, false, not, List, ◌∷◌, None, refl, ◌∙◌, ap}
use Rattle.std.proofs.lemmas.Bool.{not-false}
use Rattle.std.specs.Prelude.{Ok, ◌==◌, nat_lt}
use Rattle.nfs_xdr.specs.{Checks.first_fault, declared.status.Status.TheVariants.{Exist, IsDir}}
use Rattle.nfs_xdr.proofs.Checks.{all_passed}
use Rattle.nfs_compound.specs.{declared.name_args.Create.Create, declared.name_args.CreateType.CreateType, declared.name_args.Rename.Rename}
use Rattle.nfs_compound.specs.declared.name_args.CreateType.TheVariants.{Block, Character, Symlink, Other}
use Rattle.nfs_tree.specs.declared.limits.Limits.{Limits}
use Rattle.nfs_tree.specs.{Files.{most_text, is_name, is_there, is_directory_at, has_name}, Create.{create_checks, is_bad_text, is_too_big}}
use Rattle.nfs_tree.specs.{Names.{link_checks, remove_checks, rename_checks}, Object.is_directory}
use Rattle.nfs_attrs.specs.Permissions.{change_entries}
use Rattle.nfs_names.specs.{declared.context.Context.Context, declared.node.Node.Node, declared.node.Pair.Pair, State.State, Faults.by_tree}
use Rattle.nfs_names.specs.{Checks.{current, both, no_directory, no_access, name_checks}, Create.{new_of, place_checks, room_checks, text_is}, Rename.move_of}
use Rattle.nfs_names.specs.Link as of_link
use Rattle.nfs_names.specs.Remove as of_remove
use Rattle.nfs_names.specs.Rename as of_rename
use Rattle.nfs_names.proofs.Found.{current_is, both_is, short_list, short_name}

-- the text of a link is neither empty nor too long
good_text : (limits : Limits) (type : CreateType) → text_is (λ n. n == 0) type ≡ false → text_is (nat_lt most_text) type ≡ false
    → (is_bad_text (new_of type) ≡ false) × (is_too_big limits (new_of type) ≡ false)
good_text limits (Symlink text) full short = (ap not (short_list most_text text full short), short)
good_text limits (Block device) full short = (refl, refl)
good_text limits (Character device) full short = (refl, refl)
good_text limits (Other type) full short = (refl, refl)

pub create_last : (s : State) (x : Context) (c : Create) (d : Node) → current s x ≡ Ok d → first_fault (place_checks x c d) ≡ None
    → first_fault (by_tree (create_checks s.tree d.number c.objname (new_of c.objtype)))
    ≡ first_fault ((has_name s.tree d.number c.objname, Exist) ∷ room_checks s.tree d.number)
create_last s x c d found placed =
    let is = current_is s x d found in
    let places = all_passed (place_checks x c d) placed in
    let names = places.1.1.1.1.1 in
    let text = good_text s.tree.limits c.objtype places.1.1.1.0 places.1.1.1.1.0 in
    let there : is_there s.tree d.number ≡ true = is.there in
    let directory : is_directory_at s.tree d.number ≡ true = is.directory ∙ not-false _ places.0 in
    let short : is_name c.objname ≡ true = short_name c.objname names.0 names.1.0 in
    rw (there, directory, short, text.0, text.1) refl

pub link_last : (s : State) (x : Context) (name : List ℕ) (p : Pair) → both s x ≡ Ok p
    → first_fault (no_directory p.current ∷ (is_directory p.saved.object.kind, IsDir) ∷ no_access x p.current change_entries ∷ name_checks name) ≡ None
    → first_fault (by_tree (link_checks s.tree p.saved.number p.current.number name))
    ≡ first_fault (of_link.last_checks s.tree p.saved.number p.current.number name)
link_last s x name p found placed =
    let t = s.tree in
    let is = both_is s x p found in
    let places = all_passed
    (no_directory p.current ∷ (is_directory p.saved.object.kind, IsDir) ∷ no_access x p.current change_entries ∷ name_checks name) placed in
    let names = places.1.1.1 in
    let place : is_there t p.current.number ≡ true = is.0.there in
    let object : is_there t p.saved.number ≡ true = is.1.there in
    let directory : is_directory_at t p.current.number ≡ true = is.0.directory ∙ not-false _ places.0 in
    let plain : is_directory_at t p.saved.number ≡ false = is.1.directory ∙ places.1.0 in
    let short : is_name name ≡ true = short_name name names.0 names.1.0 in
    rw (place, object, directory, plain, short) refl

pub remove_last : (s : State) (x : Context) (name : List ℕ) (d : Node) → current s x ≡ Ok d
    → first_fault (no_directory d ∷ no_access x d change_entries ∷ name_checks name) ≡ None
    → first_fault (by_tree (remove_checks s.tree d.number name)) ≡ first_fault (of_remove.last_checks s.tree d.number name)
remove_last s x name d found placed =
    let is = current_is s x d found in
    let places = all_passed (no_directory d ∷ no_access x d change_entries ∷ name_checks name) placed in
    let there : is_there s.tree d.number ≡ true = is.there in
    let directory : is_directory_at s.tree d.number ≡ true = is.directory ∙ not-false _ places.0 in
    rw (there, directory) refl

pub rename_last : (s : State) (x : Context) (a : Rename) (p : Pair) → both s x ≡ Ok p → first_fault (of_rename.place_checks x a p) ≡ None
    → first_fault (by_tree (rename_checks s.tree (move_of a p))) ≡ first_fault (of_rename.last_checks s.tree (move_of a p))
rename_last s x a p found placed =
    let t = s.tree in
    let is = both_is s x p found in
    let places = all_passed (of_rename.place_checks x a p) placed in
    let names = places.1.1.1.1.1.1.1.1 in
    let target : is_there t p.current.number ≡ true = is.0.there in
    let source : is_there t p.saved.number ≡ true = is.1.there in
    let into : is_directory_at t p.current.number ≡ true = is.0.directory ∙ not-false _ places.1.0 in
    let out : is_directory_at t p.saved.number ≡ true = is.1.directory ∙ not-false _ places.0 in
    let short : is_name a.newname ≡ true = short_name a.newname names.0 names.1.0 in
    rw (target, source, into, out, short) refl
