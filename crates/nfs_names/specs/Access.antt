-- ACCESS (RFC 8881 section 18.1): which of the rights that are asked for can be judged, and which the caller has.
use Rattle.std.specs.Prelude.{ℕ, Ok}
use Rattle.nfs_compound.specs.declared.op_num.OpNum.TheVariants as Num
use Rattle.nfs_results.specs.declared.res.Res.TheVariants as Res
use Rattle.nfs_attrs.specs.Permissions.{judge_access}
use Rattle.nfs_names.specs.{declared.context.Context.Context, State.State, Outcome.{Outcome, done, or_refusal}, Checks.current}
use Rattle.nfs_opens.specs.Steps.{◌>>=◌}

unfoldable pub access : State → Context → ℕ → Outcome
access s x asked = or_refusal s x Num.Access (do
  d ← current s x
  let a = judge_access d.object x.who asked in Ok (done s x (Res.Access (record { supported = a.supported; access = a.granted }))))
