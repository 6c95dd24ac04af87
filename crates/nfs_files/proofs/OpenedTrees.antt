-- What an OPEN leaves of a tree, and what a SETATTR is of, with what was found of it: for laws above, which do not name what an OPEN found.
use Rattle.std.proofs.Common.{◌≡◌, ℕ, true, false, Some, None, refl, subst}
use Rattle.std.specs.Prelude.{◌==◌, ◌&&◌, Ok}
use Rattle.nfs_xdr.specs.declared.time.Time.{Time}
use Rattle.nfs_compound.specs.{declared.open_args.Open.Open, declared.file_args.SetAttr.SetAttr}
use Rattle.nfs_tree.specs.{Files.Files, Create.with_new, Bytes.with_resized}
use Rattle.nfs_names.specs.{declared.context.Context.Context, declared.making.Making.Making, declared.node.Node.Node, State.State}
use Rattle.nfs_names.specs.{Checks.current, Create.attributes_in}
use Rattle.nfs_names.proofs.Found.{IsHeld, came, ok_is, checked_ok, current_is}
use Rattle.nfs_files.specs.{declared.opening.Found.Found, declared.opening.Found.TheVariants.{There, Absent}, declared.setting.Setting.Setting}
use Rattle.nfs_files.specs.{Bytes.behind_sets, FileImage.{claimed, is_number, asks_empty}, Open.{makes, name_of, new_of, made_sets, tree_of}}
use Rattle.nfs_files.specs.OpenParts as open_parts
use Rattle.nfs_files.specs.SetAttrParts as set_parts
use Rattle.nfs_files.proofs.{FileOps.{Is, open_is}, Passing.if_passed_ok}

-- as it was, with an emptied file, or with a new one
pub data LeftBy (s : State) (x : Context) (now : Time) (o : Open) (u : Files) : Type 0 where
  Same : u ≡ s.tree → ((n : ℕ) → is_number n (claimed s.tree x.current o.claim) && asks_empty o ≡ false) → LeftBy s x now o u
  Emptied : (g : Node) → IsHeld s.tree g → ((n : ℕ) → is_number n (claimed s.tree x.current o.claim) && asks_empty o ≡ (g.number == n))
      → u ≡ with_resized s.tree g.number 0 (behind_sets s.tree x g) now → LeftBy s x now o u
  Made : (m : Making) → IsHeld s.tree m.place → x.current ≡ Some m.place.number → claimed s.tree x.current o.claim ≡ None
      → attributes_in (makes o.openhow).attributes ≡ Ok m.wanted
      → u ≡ with_new s.tree m.place.number (name_of o.claim) (new_of o m.wanted) (made_sets s.tree x now o m) now → LeftBy s x now o u

left_by : (s : State) (x : Context) (now : Time) (o : Open) (f : Found) → Is s x o f → LeftBy s x now o (tree_of s.tree x now o f)
left_by s x now o (There place g true) it = Emptied g it.held it.empties refl
left_by s x now o (There place g false) it = Same refl it.empties
left_by s x now o (Absent m) it = Made m it.held it.place it.none it.reads refl

pub opened_tree : (s : State) (x : Context) (now : Time) (o : Open) (f : Found) → open_parts.asked_for s x o ≡ Ok f → LeftBy s x now o (tree_of s.tree x now o f)
opened_tree s x now o f e = left_by s x now o f (open_is s x o f e)

-- the object of a SETATTR is there
pub set_held : (s : State) (x : Context) (a : SetAttr) (m : Setting) → set_parts.asked_for s x a ≡ Ok m → IsHeld s.tree m.node
unfolding set_parts.asked_for
set_held s x a m e =
    let set = (if_passed_ok (set_parts.setting s x a) (set_parts.sized s x a.stateid) m e).0 in
    let d = came (current s x) _ m set in
    let w = came (attributes_in a.obj_attributes) _ m d.then in
    let k : Setting = record { node = d.found; wanted = w.found } in
    let same : k ≡ m = ok_is refl (checked_ok (Ok k) (set_parts.owner_checks s x) m w.then).0 in
    subst (λ (m : Setting). IsHeld s.tree m.node) same (current_is s x d.found d.is)
