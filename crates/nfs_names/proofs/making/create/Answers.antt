use Rattle.std.proofs.Common.{◌≡◌, ℕ, List, ◌+◌, true, refl, sym, ap, subst, ◌∙◌}
use Rattle.std.specs.Prelude.{Result, Ok, Err}
use Rattle.nfs_compound.specs.declared.op_num.OpNum.TheVariants as Num
use Rattle.nfs_results.specs.declared.res.CreateOk.{CreateOk}
use Rattle.nfs_results.specs.declared.res.Res.TheVariants as Res
use Rattle.nfs_tree.specs.{Files.raised, Calls.{DoesOrWants, create_fault}, Create.{New, with_new}, declared.sets.Sets.Sets, declared.fault.TreeFault.TreeFault}
use Rattle.nfs_tree.specs.declared.done.Created.{Created}
use Rattle.nfs_tree.specs.Calls as tree_create
use Rattle.nfs_attrs.specs.{declared.mask.Mask.Mask, Mask.{mask_of, trimmed_words}}
use Rattle.nfs_names.specs.{declared.context.Context.Context, State.{state_of, with_tree}, Context.at_object, Outcome.Outcome, Faults.tree_fault_status}
use Rattle.nfs_names.specs.{Create.{new_of, made_sets, change_info, create}, Fronts.creating}
use Rattle.nfs_names.proofs.{NameLaws.created, Changing.{creating_refuses, create_asks, goes, stops, errs}, Faulted.{told_done, told_fault, told_stop, plain_fault}}
use Rattle.nfs_names.proofs.making.create.Goals as goal
use Rattle.nfs_names.proofs.making.create.Goals.{After-create}

-- what the tree does of what was asked
abbrev does : (c : After-create) → List ℕ → New → Sets → Result Created TreeFault → Type 0
does c name new sets r = DoesOrWants c.args.store.now.tree true
    (tree_create.create c.args.store.now.tree c.in-Ok.making.place.number name new sets c.args.now) r c.create.new.self

as_asked : (c : After-create) (r : Result Created TreeFault) → does c c.bytes.result.now (tree_create.new_of c.new_of-new.result) c.made_sets-sets.result r
    → does c c.args.asked.now.objname (new_of c.args.asked.now.objtype)
    (made_sets (state_of c.args.store.now) c.args.context.now c.args.now c.in-Ok.making.place (new_of c.args.asked.now.objtype) c.in-Ok.making.wanted) r
as_asked c r did =
    let sets : New → Sets = λ n. made_sets (state_of c.args.store.now) c.args.context.now c.args.now c.in-Ok.making.place n c.in-Ok.making.wanted in
    let name : List ℕ = c.args.asked.now.objname in
    subst (λ (n : New). does c name n (sets n) r) c.new_of-new.ensures
    (subst (λ (k : Sets). does c name (tree_create.new_of c.new_of-new.result) k r) c.made_sets-sets.ensures
    (subst (λ (b : List ℕ). does c b (tree_create.new_of c.new_of-new.result) c.made_sets-sets.result r) c.bytes.ensures did))

pub returns-in-Ok-create : goal.returns-in-Ok-create
returns-in-Ok-create c =
    let s = state_of c.args.store.now in
    let x = c.args.context.now in
    let a = c.args.asked.now in
    let m = c.in-Ok.making in
    let d = m.place.number in
    let new = new_of a.objtype in
    let made = c.in-Ok-create.created in
    let outcome : CreateOk → Context → Outcome = λ r x. record { result = Res.Create r; state = with_tree s c.create.new.self; context = x } in
    let told_ok : Created → CreateOk = λ k. record { cinfo = change_info k.directory; attrset = trimmed_words (mask_of a.createattrs.attrmask) } in
    let given : Mask → CreateOk = λ mask. record { cinfo = change_info made.directory; attrset = trimmed_words mask } in
    ap (λ r. outcome r c.go_to.new.self) (c.create_ok.ensures ∙ ap given c.mask_in-given.ensures) ∙ ap (outcome (told_ok made)) c.go_to.ensures
    ∙ told_done true true s x Num.Create (create s x c.args.now a) (λ k. Res.Create (told_ok k)) (λ (k : Created). at_object x k.number)
    (create_fault s.tree d a.objname new) (record { number = s.tree.last_object + 1; directory = raised s.tree d }) made
    (with_new s.tree d a.objname new (made_sets s x c.args.now m.place new m.wanted) c.args.now) c.create.new.self
    (λ none. goes (create_asks s x c.args.now a) m (sym c.judge_making.ensures ∙ c.in-Ok.is) none)
    (as_asked (goal.at.returns-in-Ok-create c).After-create (Ok made) c.in-Ok-create.ensures)

pub returns-in-Err-create : goal.returns-in-Err-create
returns-in-Err-create c =
    let s = state_of c.args.store.now in
    let x = c.args.context.now in
    let a = c.args.asked.now in
    let m = c.in-Ok.making in
    let d = m.place.number in
    let new = new_of a.objtype in
    let f = c.in-Err-create.fault in
    let v : creating s x a ≡ Ok m = sym c.judge_making.ensures ∙ c.in-Ok.is in
    told_fault true true s x Num.Create (create s x c.args.now a) (created s x c.args.now a m.place m.wanted) _ (create_fault s.tree d a.objname new)
    (record { number = s.tree.last_object + 1; directory = raised s.tree d }) (with_new s.tree d a.objname new (made_sets s x c.args.now m.place new m.wanted) c.args.now)
    c.create.new.self f (tree_fault_status f) refl (plain_fault s Num.Create f refl) (c.refuse.ensures ∙ ap (Res.Refused 6) c.status_of.ensures)
    (λ none. goes (create_asks s x c.args.now a) m v none)
    (λ other. stops (create_asks s x c.args.now a) m f v other.0) refl
    (as_asked (goal.at.returns-in-Err-create c).After-create (Err f) c.in-Err-create.ensures)

pub returns-in-Err : goal.returns-in-Err
returns-in-Err c =
    let s = state_of c.args.store.now in
    let x = c.args.context.now in
    let a = c.args.asked.now in
    let is : creating s x a ≡ Err c.in-Err.status = sym c.judge_making.ensures ∙ c.in-Err.is in
    told_stop true s x Num.Create (create s x c.args.now a) _ c.in-Err.status ((creating_refuses s x a).each _ is)
    (errs (create_asks s x c.args.now a) _ is) c.refuse-in-Err.ensures
