-- COMMIT (RFC 8881 section 18.3): what was written is as lasting as it gets, and the write verifier marks this start of the server off from others.
use Rattle.std.specs.Prelude.{ℕ, List, ◌++◌, replicate, Ok}
use Rattle.nfs_xdr.specs.Spelling.{number}
use Rattle.nfs_compound.specs.declared.op_num.OpNum.TheVariants as Num
use Rattle.nfs_results.specs.declared.res.Res.TheVariants as Res
use Rattle.nfs_opens.specs.Steps.{in_order, ◌>>=◌, ◌>>◌}
use Rattle.nfs_names.specs.{declared.context.Context.Context, State.State, Outcome.{Outcome, done, or_refusal}, Checks.current}
use Rattle.nfs_files.specs.Bytes.{file_checks}

-- the server's instance and four zero bytes (this server's profile)
abbrev pub write_verifier : State → List ℕ
write_verifier s = number s.opens.instance ++ replicate 4 0

unfoldable pub commit : State → Context → Outcome
commit s x = or_refusal s x Num.Commit (do
  d ← current s x
  in_order (file_checks d)
  Ok (done s x (Res.Commit (write_verifier s))))
