use Rattle.std.proofs.{Common.{◌≡◌, None, true, refl, sym, ◌∙◌, ◌+◌, ap}, lemmas.Result.err_from_is_err_and}
use Rattle.std.specs.Prelude.{Ok, Err}
use Rattle.nfs_tree.specs.{declared.done.Created.Created, Calls.{does_unless, new_of, create_fault}, Files.raised, Create.{create_checks, with_new}}
use Rattle.nfs_tree.proofs.Refusals.{refused, judged_err, judged_ok}
use Rattle.nfs_tree.proofs.tree.Tree.create.Goals as goal

pub returns-in_err-judge_new : goal.returns-in_err-judge_new
returns-in_err-judge_new c =
    let t = c.args.self.now in
    let d = c.args.directory in
    let new = new_of c.args.new.now in
    let p = err_from_is_err_and c.from_residual.result c.from_residual.ensures.1 in
    refused t true (create_checks t d c.args.name.now new) (record { number = t.last_object + 1; directory = raised t d })
    (with_new t d c.args.name.now new c.args.sets.now c.args.now) _ _
    (refl, (refl, (refl, (refl, (refl, (refl, (refl, (refl, tt)))))))) (judged_err _ _ (sym c.judge_new.ensures ∙ c.in_err-judge_new.was)) (p.1 ∙ ap Err p.2)

pub returns : goal.returns
returns c =
    let t = c.args.self.now in
    let d = c.args.directory in
    let new = new_of c.args.new.now in
    let granted : create_fault t d c.args.name.now new ≡ None = judged_ok _ _ (sym c.judge_new.ensures ∙ c.in_ok-judge_new.was) in
    let made : Created = record { number = t.last_object + 1; directory = raised t d } in
    let after = with_new t d c.args.name.now new c.args.sets.now c.args.now in (
      ap Ok c.made-made.ensures ∙ sym (ap (λ o. (does_unless t o made after).answer) granted),
      c.in_ok-insert.ensures.ok ∙ ap (λ s. with_new s d c.args.name.now new c.args.sets.now c.args.now) c.bytes_of.ensures.same ∙ sym (ap (λ o. (does_unless t o made after).after) granted),
    )
