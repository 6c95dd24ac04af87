-- The run of a change that tells, and the wrong steps, computed.
use Rattle.std.proofs.Common.{◌≡◌, inl, ℕ, List, [], ◌∷◌, ◌++◌, length, get_or, take, Option, Some, refl, ◌∙◌, ap, arith}
use Rattle.std.specs.{Prelude.◌==◌, Option.option_map_or}
use Rattle.nfs_compound.specs.{declared.file_args.Read.Read, declared.op.Item.TheVariants.Operation}
use Rattle.nfs_compound.specs.declared.op.Op.TheVariants as Op
use Rattle.nfs_compound.specs.declared.op_num.OpNum.TheVariants as Num
use Rattle.nfs_names.specs.{Context.anonymous, GetAttr.get_attr}
use Rattle.nfs_results.specs.Items as results
use Rattle.nfs_results.specs.Results.{done_head}
use Rattle.nfs_attrs.specs.Attributes.{values}
use Rattle.nfs_tree.specs.{declared.row.Row.Row, declared.stored.Stored.Stored, Files.{Files, root}}
use Rattle.nfs_xdr.proofs.Lists.{count_push}
use Rattle.nfs_exec.specs.Runs.Ops.{RanOp}
use Rattle.nfs_promises.specs.{Runs.{Requests.words, Points.ops_of}, Locks.LockKeptWorked.last_of, Bytes.WrittenStaysWorked.{made, writes, closed, reads}}
use Rattle.nfs_promises.specs.Bytes.{ChangeTells.{Tells, ReadsOf}, ChangeTellsWorked.{reads_again, read_once, gets, got_once, ToldByAttributes}}
use Rattle.nfs_promises.specs.Bytes.ChangeTellsWorked.{ToldByChange, with_second_name, as_read, ChangesAreRefused}
use Rattle.nfs_promises.proofs.Runs.{LastOperation.{nothing, three, last_there}, Computing.computing}

abbrev write : RanOp
write = last_of nothing (ops_of made writes)

abbrev read : RanOp
read = last_of nothing (ops_of closed reads)

abbrev again : RanOp
again = last_of nothing (ops_of read_once reads_again)

abbrev asked : Read
asked = record { stateid = anonymous; offset = 0; count = 8 }

answers : (read.result ≡ done_head Num.Read ++ (words (1 ∷ []) ++ words (8 ∷ 0x7365_656e ∷ 0x0000_6d6f ∷ []))) × (again.result ≡ read.result)
unfolding computing
answers = (refl, refl)

abbrev reads_it : (d : RanOp) → d.item ≡ Operation (Op.Read asked) → d.context.current ≡ Some 2 → d.result ≡ read.result → length (words (1 ∷ [])) ≡ 4 → ReadsOf 2 0 8 d
reads_it d is at told long = record {
  asked = asked;
  is = is;
  at = at;
  from = refl;
  many = refl;
  eof = words (1 ∷ []);
  long = long;
  text = _;
  answers = told ∙ answers.0;
}

pub told_by_change : ToldByChange
unfolding computing
told_by_change = record {
  front = take 2 (ops_of made writes);
  write = write;
  ops = three nothing (ops_of made writes) refl;
  until = take 2 (ops_of closed reads);
  read = read;
  last = three nothing (ops_of closed reads) refl;
  again = again;
  late = inl (last_there nothing (ops_of read_once reads_again) 2 refl);
  there = refl;
  stays = refl;
  still = refl;
  raised = omega arith;
  same = refl;
  first = reads_it read refl refl refl refl;
  second = reads_it again refl refl answers.1 refl;
  told = answers.1;
}

-- GETATTR, twice.

abbrev pub got : RanOp
got = last_of nothing (ops_of read_once (gets 107 8 6))

abbrev got_again : RanOp
got_again = last_of nothing (ops_of got_once (gets 108 9 7))

pub got_ops : ops_of read_once (gets 107 8 6) ≡ take 2 (ops_of read_once (gets 107 8 6)) ++ got ∷ []
unfolding computing get_attr values results.fattr
got_ops = three nothing (ops_of read_once (gets 107 8 6)) refl

pub told_by_attributes : ToldByAttributes
unfolding computing get_attr values results.fattr
told_by_attributes = record {
  front = take 2 (ops_of read_once (gets 107 8 6));
  asked = got;
  ops = got_ops;
  again = got_again;
  late = inl (last_there nothing (ops_of got_once (gets 108 9 7)) 2 refl);
  same = refl;
  first = record { is = refl; at = refl; ok = refl };
  second = record { is = refl; at = refl; ok = refl };
  told = refl;
  alike = refl;
}

second_name_refused : (t : Files) → Tells 2 t (with_second_name t) → ⊥
second_name_refused t tells =
    let same = (tells.same refl).names in
    let more = count_push (λ (r : Row). r.object == 2) t.rows (record { directory = root; name = 0x67 ∷ []; object = 2; cookie = 9 }) in
    omega arith

pub changes_are_refused : ChangesAreRefused
unfolding computing
changes_are_refused = record {
  kept = λ d tells.
      let long : 4 ≡ 0 = ap (λ (o : Option Stored). option_map_or (λ (s : Stored). length s.bytes) o 0) (tells.same refl).stored in
      omega arith;
  back = λ d tells. let up = tells.rises in omega arith;
  unlisted = λ d tells. let fewer : 0 ≡ 1 = ap (λ (rows : List Row). length rows) (tells.same refl).entries in omega arith;
  linked = λ d tells. second_name_refused (as_read d) tells;
  zeros = λ d is. let byte : 0 ≡ 0x73 = ap (λ (text : List ℕ). get_or text 16 0) is in omega arith;
}
