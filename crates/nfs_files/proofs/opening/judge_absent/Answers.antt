use Rattle.std.proofs.{Common.{◌≡◌, false, not, Some, refl, sym, ap, ◌∙◌, arith}, lemmas.Result.err_from_is_err_and}
use Rattle.std.specs.Prelude.{Ok, Err}
use Rattle.nfs_xdr.specs.Checks.{first_fault, judged}
use Rattle.nfs_attrs.specs.{Permissions.write, Setting.make_checks}
use Rattle.nfs_names.specs.Checks.{permits}
use Rattle.nfs_names.proofs.Found.{judged_err, stopped}
use Rattle.nfs_files.specs.{Open.makes, OpenParts.absent_checks}
use Rattle.nfs_files.proofs.opening.judge_absent.Goals as goal

pub returns-in_err-may_make : goal.returns-in_err-may_make
returns-in_err-may_make c =
    let x = c.args.context.now in
    let o = c.args.asked.now in
    let m = c.args.making in
    let f = c.in_err-may_make.field-0.0 in
    let r = err_from_is_err_and c.from_residual.result c.from_residual.ensures.1 in
    let barred : first_fault (make_checks m.wanted x.who) ≡ Some f =
    judged_err _ _ (ap (λ who. judged (first_fault (make_checks m.wanted who))) (sym c.who.ensures) ∙ sym c.may_make.ensures ∙ c.in_err-may_make.was) in
    let made : not (makes o.openhow).creates ≡ false = grind arith in
    let permitted : not (permits x m.place write) ≡ false = grind arith in
    let all : first_fault (absent_checks x o m) ≡ Some f = rw (made, permitted) barred in
    r.1 ∙ ap Err r.2 ∙ sym (stopped (Ok m) (absent_checks x o) m f refl all)
