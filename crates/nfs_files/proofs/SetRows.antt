-- SETATTR: the tree's own checks are its last ones.
use Rattle.std.proofs.Common.{◌≡◌, ℕ, inl, inr, Bool, true, false, not, List, [], ◌∷◌, Option, Some, None, refl, sym, ◌∙◌, ap, subst}
use Rattle.std.proofs.lemmas.Bool.{cases_Bool, false≢true}
use Rattle.std.specs.{Prelude.{Result, Ok, option_map, nat_lt, ◌&&◌}, Option.option_map_or}
use Rattle.nfs_xdr.specs.{Checks.first_fault, declared.time.Time.Time, declared.status.Status.Status}
use Rattle.nfs_xdr.proofs.Checks.{all_passed}
use Rattle.nfs_compound.specs.declared.op_num.OpNum.TheVariants as Num
use Rattle.nfs_compound.specs.{declared.stateid.Stateid.Stateid, declared.file_args.SetAttr.SetAttr}
use Rattle.nfs_tree.specs.{declared.fault.TreeFault.TreeFault, declared.object.FileType.FileType, declared.object.Object.Object, declared.stored.Stored.Stored}
use Rattle.nfs_tree.specs.{Object.{is_directory, is_regular, is_link}, Files.{Files, stored_in, is_there, is_directory_at, can_change}, Calls.is_regular_at}
use Rattle.nfs_tree.specs.declared.fault.TreeFault.TheVariants as F
use Rattle.nfs_tree.specs.declared.object.FileType.TheVariants as Kind
use Rattle.nfs_attrs.specs.declared.wanted.Wanted.{Wanted}
use Rattle.nfs_names.specs.{declared.context.Context.Context, declared.node.Node.Node, State.State, Faults.tree_fault_status, Outcome.{refuses, checked}}
use Rattle.nfs_names.specs.{Checks.current, Create.attributes_in}
use Rattle.nfs_names.proofs.{Found.{IsHeld, current_is, checked_ok, came, ok_is}, Rows.fault_map, Faulted.{by_last, by_refusal}}
use Rattle.nfs_files.specs.{declared.setting.Setting.Setting, Bytes.{file_checks, writing, may_use}, Parts.writable}
use Rattle.nfs_files.specs.{SetAttr.{gives_some, set_attr}}
use Rattle.nfs_files.specs.SetAttrParts.{tree_fault, setting, owner_checks, sized, sized_by, asked_for, last_checks, was_set}
use Rattle.nfs_files.proofs.Passing.{if_passed_ok}
use Rattle.nfs_files.proofs.InSteps.{set_attr_is}

kind_regular : (k : FileType) → is_directory k ≡ false → is_link k ≡ false → is_regular k ≡ true
kind_regular Kind.Regular e h = refl
kind_regular Kind.Directory e h = absurd (false≢true (sym e))
kind_regular Kind.Link e h = absurd (false≢true (sym h))

stored_kind : (o : Option Stored) (b : Object) → option_map (λ (s : Stored). s.object) o ≡ Some b
    → option_map_or (λ (s : Stored). is_regular s.object.kind) o false ≡ is_regular b.kind
stored_kind None b e = absurd cc
stored_kind (Some s) b e = let same : s.object ≡ b = cc in ap (λ (o : Object). is_regular o.kind) same

-- what is neither a directory nor a link is a file
pub file_regular : (t : Files) (d : Node) → IsHeld t d → first_fault (file_checks d) ≡ None → is_regular_at t d.number ≡ true
file_regular t d is e =
    let checks = all_passed (file_checks d) e in
    stored_kind (stored_in t.objects d.number) d.object is.object ∙ kind_regular d.object.kind checks.0 checks.1.0

pub writable_ok : (s : State) (x : Context) (given : Stateid) (v : Result Node Status) (d : Node)
    → writable s x given v ≡ Ok d → (v ≡ Ok d) × (first_fault (file_checks d) ≡ None)
unfolding writable
writable_ok s x given v d e = checked_ok v file_checks d (if_passed_ok (checked v file_checks) (may_use s x writing given) d e).0

-- the rows of the tree's checks, by whether a size is given
sized_rows : (s : State) (d : Node) (w : Wanted) (size : ℕ) → IsHeld s.tree d
    → is_regular_at s.tree d.number ≡ true → first_fault (file_checks d) ≡ None → gives_some w ≡ true
    → option_map tree_fault_status (tree_fault s.tree d.number w (Some size))
    ≡ first_fault ((nat_lt s.tree.limits.bytes size, tree_fault_status F.Fbig) ∷ (gives_some w && not (can_change s.tree d.number), tree_fault_status F.Counter) ∷ [])
sized_rows s d w size is file e some =
    let t = s.tree in
    let checks = all_passed (file_checks d) e in
    let there : not (is_there t d.number) ≡ false = ap not is.there in
    let directory : is_directory_at t d.number ≡ false = is.directory ∙ checks.0 in
    let regular : not (is_regular_at t d.number) ≡ false = ap not file in
    let tail : List (Bool × TreeFault) = (nat_lt s.tree.limits.bytes size, F.Fbig) ∷ (not (can_change t d.number), F.Counter) ∷ [] in
    let same : tree_fault t d.number w (Some size) ≡ first_fault tail = rw (there, directory, regular) refl in
    ap (option_map tree_fault_status) same ∙ fault_map tree_fault_status tail
    ∙ sym (ap (λ b. first_fault ((nat_lt s.tree.limits.bytes size, tree_fault_status F.Fbig) ∷ (b && not (can_change t d.number), tree_fault_status F.Counter) ∷ [])) some)

plain_rows : (s : State) (d : Node) (w : Wanted) → IsHeld s.tree d
    → option_map tree_fault_status (tree_fault s.tree d.number w None) ≡ first_fault ((gives_some w && not (can_change s.tree d.number), tree_fault_status F.Counter) ∷ [])
plain_rows s d w is =
    let t = s.tree in
    let there : not (is_there t d.number) ≡ false = ap not is.there in
    elim (cases_Bool (gives_some w)) [
      | inl some ↦ rw (some, there) (fault_map tree_fault_status ((not (can_change t d.number), F.Counter) ∷ []))
      | inr none ↦ rw none refl
    ]

given_some : (w : Wanted) (size : ℕ) → w.size ≡ Some size → gives_some w ≡ true
given_some w size e = rw e refl

set_rows : (s : State) (x : Context) (given : Stateid) (m : Setting) (o : Option ℕ) (k : Node)
    → m.wanted.size ≡ o → IsHeld s.tree m.node → sized_by s x given m.node o ≡ Ok k
    → option_map tree_fault_status (tree_fault s.tree m.node.number m.wanted o)
    ≡ first_fault ((option_map_or (nat_lt s.tree.limits.bytes) o false, tree_fault_status F.Fbig) ∷ (gives_some m.wanted && not (can_change s.tree m.node.number), tree_fault_status F.Counter) ∷ [])
set_rows s x given m None k h is e = plain_rows s m.node m.wanted is
set_rows s x given m (Some size) k h is e =
    let found = writable_ok s x given (Ok m.node) k e in
    let same : m.node ≡ k = cc in
    let file : first_fault (file_checks m.node) ≡ None = ap (λ d. first_fault (file_checks d)) same ∙ found.1 in
    sized_rows s m.node m.wanted size is (file_regular s.tree m.node is file) file (given_some m.wanted size h)

-- what is to be set was read, and the caller may set it
record IsSet (s : State) (x : Context) (a : SetAttr) (m : Setting) : Type 0 where
  held : current s x ≡ Ok m.node
  read : attributes_in a.obj_attributes ≡ Ok m.wanted

setting_is : (s : State) (x : Context) (a : SetAttr) (m : Setting) → setting s x a ≡ Ok m → IsSet s x a m
setting_is s x a m e =
    let d = came (current s x) _ m e in
    let w = came (attributes_in a.obj_attributes) _ m d.then in
    let k : Setting = record { node = d.found; wanted = w.found } in
    let same = ok_is refl (checked_ok (Ok k) (owner_checks s x) m w.then).0 in
    subst (IsSet s x a) same (record { held = d.is; read = w.is })

pub set_by : (s : State) (x : Context) (a : SetAttr) (d : Node) (w : Wanted) → current s x ≡ Ok d → attributes_in a.obj_attributes ≡ Ok w
    → setting s x a ≡ checked (Ok (record { node = d; wanted = w })) (owner_checks s x)
set_by s x a d w held read = rw (held, read) refl

pub set_found : (s : State) (x : Context) (a : SetAttr) (m : Setting) → asked_for s x a ≡ Ok m
    → option_map tree_fault_status (tree_fault s.tree m.node.number m.wanted m.wanted.size) ≡ first_fault (last_checks s m)
unfolding asked_for
set_found s x a m v =
    let passed = if_passed_ok (setting s x a) (sized s x a.stateid) m v in
    let found = current_is s x m.node (setting_is s x a m passed.0).held in
    set_rows s x a.stateid m m.wanted.size passed.1.0 refl found passed.1.1

pub set_goes : (s : State) (x : Context) (now : Time) (a : SetAttr) (m : Setting) → asked_for s x a ≡ Ok m
    → tree_fault s.tree m.node.number m.wanted m.wanted.size ≡ None → set_attr s x now a ≡ was_set s x now a m
set_goes s x now a m v none =
    rw (set_attr_is s x now a)
    (by_last s x Num.SetAttr (asked_for s x a) (last_checks s) (was_set s x now a) m v (sym (set_found s x a m v) ∙ ap (option_map tree_fault_status) none))

pub set_stops : (s : State) (x : Context) (now : Time) (a : SetAttr) (m : Setting) (f : TreeFault)
    → asked_for s x a ≡ Ok m → tree_fault s.tree m.node.number m.wanted m.wanted.size ≡ Some f
    → set_attr s x now a ≡ refuses s x Num.SetAttr (tree_fault_status f)
set_stops s x now a m f v some =
    rw (set_attr_is s x now a)
    (by_refusal s x Num.SetAttr (asked_for s x a) (last_checks s) (was_set s x now a) m
    (tree_fault_status f) v (sym (set_found s x a m v) ∙ ap (option_map tree_fault_status) some))
