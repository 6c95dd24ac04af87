use Rattle.std.proofs.{Common.{ap, arith, length}, lemmas.List.length-append}
use Rattle.nfs_xdr.specs.declared.status.Status.TheVariants.{Nfs4Ok}
use Rattle.nfs_results.specs.Results.{spell_compound_head}
use Rattle.nfs_results.proofs.Heads.{length_head}
use Rattle.nfs_results.proofs.head.OpenHead.put.Goals as goal

pub overflow_sub-result : goal.overflow_sub-result
overflow_sub-result c = omega (
  arith,
  c.len.ensures.value,
  ap length c.write_compound_head.ensures.bytes,
  length-append c.args.out.now.bytes (spell_compound_head Nfs4Ok c.args.tag.now 0),
  length_head Nfs4Ok c.args.tag.now 0,
)

pub returns-clause-places : goal.returns-clause-places
returns-clause-places c = record {
  status = c.len-status_at.ensures.value;
  count = omega (
    arith,
    c.len.ensures.value,
    ap length c.write_compound_head.ensures.bytes,
    length-append c.args.out.now.bytes (spell_compound_head Nfs4Ok c.args.tag.now 0),
    length_head Nfs4Ok c.args.tag.now 0,
  );
}
