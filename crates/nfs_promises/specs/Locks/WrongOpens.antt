-- Wrong steps that the promise of opens refuses, worked by hand over the run of `OpenKeptWorked` (RFC 8881 sections 9.7, 18.2, 18.16 and 18.18). Each is a step that this
-- server does not take: what a server that took it did is no open kept.
use Rattle.std.specs.Prelude.{ℕ, true, false, List, [], ◌∷◌, ◌++◌}
use Rattle.nfs_compound.specs.declared.op_num.OpNum.TheVariants as Num
use Rattle.nfs_compound.specs.{declared.open_args.Open.Open, declared.open_args.OpenHow.TheVariants.Create, declared.open_args.CreateHow.TheVariants.Unchecked}
use Rattle.nfs_compound.specs.{declared.open_args.OpenClaim.TheVariants.Null, declared.op.Item.TheVariants.Operation}
use Rattle.nfs_compound.specs.declared.op.Op.TheVariants as Op
use Rattle.nfs_results.specs.Results.{done_head}
use Rattle.nfs_opens.specs.{declared.share.Share.Share, Share.neither, Table.with_open}
use Rattle.nfs_names.specs.Ending.{with_opens}
use Rattle.nfs_files.specs.Open.{no_attributes}
use Rattle.nfs_exec.specs.{Runs.Ops.RanOp}
use Rattle.nfs_promises.specs.{Runs.{Requests.words, OpenHeld.{IsOpenBefore, OpenWhile}, Points.ops_of}, Locks.LockKeptWorked.last_of}
use Rattle.nfs_promises.specs.Locks.{WrongLocks.closes_another, OpenKeptWorked.{asks, its_open, first_bits, asked}}

-- what A asks for as it opens the file once more: to read
abbrev pub reads_too : Open
reads_too = record {
  seqid = 0;
  share_access = 1;
  share_deny = 0;
  owner = record { clientid = 0; owner = 0x6f ∷ [] };
  openhow = Create (Unchecked no_attributes);
  claim = Null (0x66 ∷ []);
}

abbrev pub reading : Share
reading = record { reads = true; writes = false }

-- the answer of OPEN and of OPEN_DOWNGRADE begins with the stateid: a seqid, the server's instance and the number of the open
abbrev pub stateid_of_open : (number : ℕ) → List ℕ
stateid_of_open number = words (2 ∷ 7 ∷ 0 ∷ number ∷ [])

-- an OPEN of the owner that puts its bits in the place of those of the open, which so denies nothing any more
abbrev pub puts_in_place : RanOp → RanOp
puts_in_place d = record d {
  item = Operation (Op.Open reads_too);
  result = done_head Num.Open ++ stateid_of_open 1;
  behind = record d.before { store = with_opens d.before.store (with_open d.before.store.opens 1 (λ o. record o { access = reading; deny = neither })) };
}

-- an OPEN_DOWNGRADE that answers as it ought to, and changes nothing
abbrev pub keeps_bits : RanOp → RanOp
keeps_bits d = record d {
  item = Operation (Op.OpenDowngrade (record { open_stateid = record { seqid = 1; other = words (7 ∷ 0 ∷ 1 ∷ []) }; seqid = 0; share_access = 1; share_deny = 0 }));
  result = done_head Num.OpenDowngrade ++ stateid_of_open 1;
  behind = d.before;
}

-- B's OPEN, which the open forbids, answered NFS4_OK and the stateid of an open 3
abbrev pub granted_anyway : RanOp → RanOp
granted_anyway d = record d { result = done_head Num.Open ++ stateid_of_open 3 }

pub record OpensAreRefused : Type 0 where
  pub replaced : (d : RanOp) → OpenWhile its_open first_bits (puts_in_place (last_of d (ops_of asked asks)) ∷ []) → ⊥
  pub wide : (d : RanOp) → OpenWhile its_open first_bits (keeps_bits (last_of d (ops_of asked asks)) ∷ []) → ⊥
  -- a CLOSE of open 3 that closes open 1
  pub closed : (d : RanOp) → OpenWhile its_open first_bits (closes_another (last_of d (ops_of asked asks)) ∷ []) → ⊥
  pub granted : (d : RanOp) → IsOpenBefore its_open first_bits (granted_anyway (last_of d (ops_of asked asks))) → ⊥
