use Rattle.std.proofs.Common.{arith}
use Rattle.nfs_names.specs.State.{state_of}
use Rattle.nfs_files.proofs.Codes.{room_for_code, all_codes}
use Rattle.nfs_files.proofs.stateids.put_codes.Goals as goal

pub put_u32-requires : goal.put_u32-requires
put_u32-requires c =
    let before = c.loop-place-test.true in
    let end = c.loop-place.auto.place-end in
    let count = c.len-place-end.ensures.value in
    record {
      room = room_for_code (state_of c.args.store.now) c.args.context.now c.args.out.now c.loop-place.out
          c.args.given.now c.loop-place.place c.code.result (omega arith) c.requires c.loop-place.invariant;
    }

pub returns : goal.returns
returns c =
    let behind = c.loop-place-test.false in
    let count = c.len-place-end.ensures.value in
    all_codes (state_of c.args.store.now) c.args.context.now c.args.out.now c.loop-place.out c.args.given.now c.loop-place.place
    (omega arith) c.loop-place.invariant
