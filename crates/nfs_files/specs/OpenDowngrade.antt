-- OPEN_DOWNGRADE (RFC 8881 section 18.18): an open has less access and denies less from now on.
use Rattle.std.specs.Prelude.{ℕ, [], ◌∷◌, Ok, Some, is_none, unwrap_or}
use Rattle.nfs_xdr.specs.{declared.status.Status.TheVariants.Inval}
use Rattle.nfs_compound.specs.declared.open_args.OpenDowngrade.{OpenDowngrade}
use Rattle.nfs_compound.specs.declared.op_num.OpNum.TheVariants as Num
use Rattle.nfs_results.specs.declared.res.Res.TheVariants as Res
use Rattle.nfs_opens.specs.{declared.share.Share.Share, declared.stateid.CurrentSeqid.TheVariants.Own, Steps.{in_order, ◌>>=◌, ◌>>◌}}
use Rattle.nfs_opens.specs.{declared.judging.Sort.TheVariants.OpenOnly, Share.{neither, share_of}, Judging.judge}
use Rattle.nfs_opens.specs.Opening as opens
use Rattle.nfs_names.specs.{declared.context.Context.Context, State.State, Outcome.{Outcome, or_refusal}, Ending.with_opens}
use Rattle.nfs_files.specs.{StateIds.{meant, wire_id}, Target.{the_file, with_stateid}}

abbrev pub bits : ℕ → Share
bits n = unwrap_or (share_of n) neither

unfoldable pub open_downgrade : State → Context → OpenDowngrade → Outcome
open_downgrade s x a = or_refusal s x Num.OpenDowngrade (do
  d ← the_file s x
  id ← meant x Own a.open_stateid
  judge s.opens id x.client (Some d.number) OpenOnly
  in_order ((is_none (share_of a.share_access), Inval) ∷ (is_none (share_of a.share_deny), Inval) ∷ [])
  did ← opens.downgrade s.opens id x.client d.number (bits a.share_access) (bits a.share_deny)
  Ok (record { result = Res.OpenDowngrade (wire_id did.0); state = with_opens s did.1; context = with_stateid x (wire_id did.0) }))
