use Rattle.std.proofs.{Common.{length, ap, refl, arith}, lemmas.List.length-append}
use Rattle.nfs_results.specs.Straight.{test_stateid_head}
use Rattle.nfs_names.specs.State.{state_of}
use Rattle.nfs_files.specs.TestStateid.{test_stateid}
use Rattle.nfs_files.proofs.Codes.{length_test_head, told_codes}
use Rattle.nfs_files.proofs.stateids.test_stateid.Goals as goal

pub write_test_stateid_head-requires : goal.write_test_stateid_head-requires
write_test_stateid_head-requires c = record { room = let room = c.requires in omega (arith, length_test_head c.count_of.result) }

pub put_codes-requires : goal.put_codes-requires
put_codes-requires c =
    let put = c.write_test_stateid_head.ensures in
    let room = c.requires in
    omega (arith, put.room, ap length put.bytes, length-append c.args.out.now.bytes (test_stateid_head c.count_of.result), length_test_head c.count_of.result)

pub returns : goal.returns
unfolding test_stateid
returns c = record {
  put = told_codes (state_of c.args.store.now) c.args.context.now c.args.out.now c.write_test_stateid_head.new.out c.put_codes.new.out
      c.args.given.now c.count_of.result c.count_of.ensures c.write_test_stateid_head.ensures c.put_codes.ensures;
  status = refl;
  state = refl;
  context = refl;
}
