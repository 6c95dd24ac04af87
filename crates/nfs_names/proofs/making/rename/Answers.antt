use Rattle.std.proofs.{Common.{◌≡◌, false, None, refl, sym, ap, ◌∙◌, inl, inr}, lemmas.Bool.{cases_Bool, and_right}}
use Rattle.std.specs.Prelude.{Ok, Err, ◌&&◌}
use Rattle.nfs_compound.specs.declared.op_num.OpNum.TheVariants as Num
use Rattle.nfs_results.specs.declared.res.RenameOk.{RenameOk}
use Rattle.nfs_results.specs.declared.res.Res.TheVariants as Res
use Rattle.nfs_tree.specs.{Files.{object_named, raised, unraised}, declared.done.Renamed.Renamed, Names.{moves, with_moved}}
use Rattle.nfs_tree.specs.Calls as tree
use Rattle.nfs_names.specs.{State.{State, state_of, with_tree}, Outcome.Outcome, Checks.both, Create.change_info, Faults.tree_fault_status, Operation.moves_in}
use Rattle.nfs_names.specs.{Rename.{move_of, without_replaced, renamed, rename}, Fronts.renaming}
use Rattle.nfs_names.proofs.{Changing.{renaming_refuses, rename_asks, goes, errs}, Faulted.{told_refusal_by, told_stop, not_delayed}}
use Rattle.nfs_names.proofs.Renaming.{as_named, went, went_empty, rename_refused}
use Rattle.nfs_names.proofs.making.rename.Goals as goal

pub drop_replaced-requires : goal.drop_replaced-requires
drop_replaced-requires c =
    let t = c.args.store.now.tree in
    let m = move_of c.args.asked.now c.in-Ok.p in
    went_empty t m c.args.now c.in-Ok-rename.renamed c.rename.new.self (went t m c.args.now c.in-Ok-rename.renamed c.rename.new.self
    (as_named t c.rename.new.self c.args.now c.in-Ok.p c.args.asked.now _ _ (Ok c.in-Ok-rename.renamed) c.bytes.ensures c.bytes-in-Ok.ensures c.in-Ok-rename.ensures))

pub returns-in-Ok-rename : goal.returns-in-Ok-rename
returns-in-Ok-rename c =
    let s = state_of c.args.store.now in
    let x = c.args.context.now in
    let t = s.tree in
    let now = c.args.now in
    let a = c.args.asked.now in
    let p = c.in-Ok.p in
    let m = move_of a p in
    let r = c.in-Ok-rename.renamed in
    let left = c.rename.new.self in
    let v : renaming s x a ≡ Ok p = sym c.judge_rename.ensures ∙ c.in-Ok.is in
    let w = went t m now r left (as_named t left now p a _ _ (Ok r) c.bytes.ensures c.bytes-in-Ok.ensures c.in-Ok-rename.ensures) in
    let outcome : RenameOk → State → Outcome = λ r u. record { result = Res.Rename r; state = u; context = x } in
    let told_ok : Renamed → RenameOk = λ r. record { source_cinfo = change_info r.source; target_cinfo = change_info r.target } in
    let by_code = ap (λ k. outcome k (state_of c.drop_replaced.new.store)) c.rename_ok.ensures ∙ ap (outcome (told_ok r)) c.drop_replaced.ensures in
    let whole : outcome (told_ok r) (without_replaced (with_tree s left) r.replaced) ≡ renamed s x now a p (moves t m) = elim (cases_Bool (moves t m)) [
      | inl go ↦ (let answer : Ok r ≡ (tree.moved t m now).answer = rw go at w.answer in
          let after : left ≡ with_moved t m now = rw go at w.after in
          let same : r ≡ record { source = raised t m.source; target = raised t m.target; replaced = object_named t m.target m.name } = cc in
          ap (λ (k : Renamed). outcome (told_ok k) (without_replaced (with_tree s left) k.replaced)) same
          ∙ ap (λ u. outcome (told_ok (record { source = raised t m.source; target = raised t m.target; replaced = None }))
          (without_replaced (with_tree s u) (object_named t m.target m.name))) after
          ∙ sym (ap (renamed s x now a p) go))
      | inr stay ↦ (let answer : Ok r ≡ (tree.unmoved t m).answer = rw stay at w.answer in
          let after : left ≡ t = rw stay at w.after in
          let same : r ≡ record { source = unraised t m.source; target = unraised t m.target; replaced = None } = cc in
          ap (λ (k : Renamed). outcome (told_ok k) (without_replaced (with_tree s left) k.replaced)) same
          ∙ ap (λ u. outcome (told_ok (record { source = unraised t m.source; target = unraised t m.target; replaced = None })) (with_tree s u)) after
          ∙ sym (ap (renamed s x now a p) stay))
    ] in
    by_code ∙ whole ∙ sym (not_delayed (moves_in s a (both s x) && false) s x Num.Rename (rename s x now a) (and_right (moves_in s a (both s x)) false refl)
    ∙ (goes (rename_asks s x now a) p v w.none))

pub returns-in-Err-rename : goal.returns-in-Err-rename
returns-in-Err-rename c =
    let s = state_of c.args.store.now in
    let x = c.args.context.now in
    let a = c.args.asked.now in
    let p = c.in-Ok.p in
    let f = c.in-Err-rename.fault in
    let v : renaming s x a ≡ Ok p = sym c.judge_rename.ensures ∙ c.in-Ok.is in
    let did = as_named s.tree c.rename.new.self c.args.now p a _ _ (Err f) c.bytes.ensures c.bytes-in-Ok.ensures c.in-Err-rename.ensures in
    let parts = rename_refused s x c.args.now a p f c.rename.new.self v did in
    told_refusal_by (moves_in s a (both s x)) s c.rename.new.self x Num.Rename (rename s x c.args.now a) _
    (tree_fault_status f) (c.refuse.ensures ∙ ap (Res.Refused 29) c.status_of.ensures) parts.0 parts.1

pub returns-in-Err : goal.returns-in-Err
returns-in-Err c =
    let s = state_of c.args.store.now in
    let x = c.args.context.now in
    let a = c.args.asked.now in
    let is : renaming s x a ≡ Err c.in-Err.status = sym c.judge_rename.ensures ∙ c.in-Err.is in
    told_stop (moves_in s a (both s x)) s x Num.Rename (rename s x c.args.now a) _ c.in-Err.status ((renaming_refuses s x a).each _ is)
    (errs (rename_asks s x c.args.now a) _ is) c.refuse-in-Err.ensures
