use Rattle.std.proofs.{Common.{◌≡◌, ◌⊎◌, ◌+◌, true, sym, ap, subst, ◌∙◌}, lemmas.Result.err_from_is_err_and}
use Rattle.std.specs.Prelude.{Err}
use Rattle.nfs_tree.specs.Calls as tree_create
use Rattle.nfs_tree.specs.{Create.with_new, Calls.{create_fault, does_unless, DoesOrWants}, Files.raised}
use Rattle.nfs_files.specs.{declared.opening.Found.Found, declared.opening.Found.TheVariants.Absent, Open.{file_of, tree_of, name_of}, OpenParts.tree_fault}
use Rattle.nfs_files.proofs.Answering.{refused_again}
use Rattle.nfs_names.proofs.Faulted.{Wants, Other, refused_tree}
use Rattle.nfs_files.proofs.entering.enter.Goals as goal

pub returns-in_err-created-in-Absent : goal.returns-in_err-created-in-Absent
returns-in_err-created-in-Absent c =
    let t = c.args.tree.now in
    let x = c.args.context.now in
    let now = c.args.now in
    let o = c.args.asked.now in
    let m = c.in-Absent.making in
    let d = m.place.number in
    let left = c.create.new.self in
    let f = c.in_err-created-in-Absent.field-0.0 in
    let r = err_from_is_err_and c.from_residual-in_err-created-in-Absent.result c.from_residual-in_err-created-in-Absent.ensures.1 in
    let name = c.name_of-name.result.now in
    let new = tree_create.new_of c.new_file-new.result in
    let sets = c.made_sets-sets.result in
    let did = refused_tree t true (create_fault t d name new)
    (record { number = t.last_object + 1; directory = raised t d }) (with_new t d name new sets now) left f
    (subst (λ k. DoesOrWants t true (tree_create.create t d name new sets now) k left) c.in_err-created-in-Absent.was c.create.ensures) in
    let same : create_fault t d name new ≡ tree_fault t o (Absent m) =
    ap (λ name. create_fault t d name new) c.name_of-name.ensures ∙ ap (create_fault t d (name_of o.claim)) c.new_file-new.ensures in
    let why : Wants true f (tree_fault t o (Absent m)) ⊎ Other f (tree_fault t o (Absent m)) = subst (λ k. Wants true f k ⊎ Other f k) same did.1 in
    subst (λ (k : Found). DoesOrWants t true
    (does_unless t (tree_fault t o k) (file_of t k) (tree_of t x now o k)) c.from_residual-in_err-created-in-Absent.result left) (sym c.in-Absent.is)
    (subst (λ k. DoesOrWants t true (does_unless t (tree_fault t o (Absent m)) (file_of t (Absent m)) (tree_of t x now o (Absent m))) k left)
    (sym (r.1 ∙ ap Err r.2))
    (refused_again t (tree_fault t o (Absent m)) (file_of t (Absent m)) (tree_of t x now o (Absent m)) left f did.0 why))
