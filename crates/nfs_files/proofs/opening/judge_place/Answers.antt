use Rattle.std.proofs.{Common.{◌≡◌, false, not, Some, refl, sym, ap, ◌∙◌, arith}, lemmas.Result.err_from_is_err_and}
use Rattle.std.specs.Prelude.{Ok, Err}
use Rattle.nfs_xdr.specs.Checks.{first_fault}
use Rattle.nfs_tree.specs.Object.{is_directory}
use Rattle.nfs_attrs.specs.Permissions.{execute}
use Rattle.nfs_names.specs.Checks.{permits, name_checks}
use Rattle.nfs_names.proofs.Found.{judged_err, stopped}
use Rattle.nfs_files.specs.OpenParts.{place_checks}
use Rattle.nfs_files.proofs.opening.judge_place.Goals as goal

pub returns-in_err-judge_name : goal.returns-in_err-judge_name
returns-in_err-judge_name c =
    let x = c.args.context.now in
    let d = c.args.node in
    let name = c.args.name.now in
    let f = c.in_err-judge_name.field-0.0 in
    let r = err_from_is_err_and c.from_residual.result c.from_residual.ensures.1 in
    let named : first_fault (name_checks name) ≡ Some f = judged_err _ _ (sym c.judge_name.ensures ∙ c.in_err-judge_name.was) in
    let directory : not (is_directory d.object.kind) ≡ false = grind arith in
    let permitted : not (permits x d execute) ≡ false = grind arith in
    let all : first_fault (place_checks x name d) ≡ Some f = rw (directory, permitted) named in
    r.1 ∙ ap Err r.2 ∙ sym (stopped (Ok d) (place_checks x name) d f refl all)
