-- The table is a codec: each operation is read exactly where it is spelled.
use Rattle.std.proofs.{Common.{◌≡◌, ◌++◌, List, ℕ, Some, refl, append_assoc, arith}, lemmas.List.append-nil}
use Rattle.nfs_xdr.specs.Spelling as spelling
use Rattle.nfs_xdr.specs.{Codec.{number, hyper, flag, opaque, unbounded}, Lawful.IsCodec, Combinators.fixed}
use Rattle.nfs_xdr.proofs.{CodecLaws.{IsArm, is_number, is_hyper, is_flag, is_fixed, is_opaque, is_unbounded, is_arm, is_bare}, WordLaws.is_union_by}
use Rattle.nfs_compound.specs.{declared.op_num.OpNum.OpNum, OpNum.{op_number, op_nums}, Stateid.{stateid, stateids}}
use Rattle.nfs_compound.specs.ArgCodecs.{bitmap, attributes, lock_args, lock_t_args, lock_u_args, commit_args, read_args, write_args, set_attr_args}
use Rattle.nfs_compound.specs.ArgCodecs.{create_args, read_dir_args, rename_args, secinfo_style, exchange_id_args, create_session_args, sequence_args}
use Rattle.nfs_compound.specs.{OpenCodecs.{open_args, open_downgrade_args, close_args}, declared.op.Op.Op, Arguments.arguments, OpCodec.{op_at, op_codec}}
use Rattle.nfs_compound.specs.Request.{spell_op, FitsOp}
use Rattle.nfs_compound.specs.declared.op_num.OpNum.TheVariants as Num
use Rattle.nfs_compound.proofs.{OpNumLaws.is_op_listing, ItemLaws.{is_stateid, is_stateids, is_bitmap, is_attributes}}
use Rattle.nfs_compound.proofs.ArgLaws.{is_close_args, is_commit_args, is_create_args, is_create_session_args, is_exchange_id_args, is_lock_args}
use Rattle.nfs_compound.proofs.ArgLaws.{is_lock_t_args, is_lock_u_args, is_open_args, is_open_downgrade_args, is_read_args, is_read_dir_args, is_rename_args}
use Rattle.nfs_compound.proofs.ArgLaws.{is_sequence_args, is_set_attr_args, is_write_args, is_secinfo_style}

arm_of : (op : OpNum) → IsArm op_codec (op_number op, op_at op)
unfolding op_at
arm_of Num.Access = is_arm op_codec 3 Op.Access number is_number (λ _. refl) (λ _ fits. fits)
arm_of Num.Close = is_arm op_codec 4 Op.Close close_args is_close_args (λ _. refl) (λ _ fits. fits)
arm_of Num.Commit = is_arm op_codec 5 Op.Commit commit_args is_commit_args (λ _. refl) (λ _ fits. fits)
arm_of Num.Create = is_arm op_codec 6 Op.Create create_args is_create_args (λ _. refl) (λ _ fits. fits)
arm_of Num.GetAttr = is_arm op_codec 9 Op.GetAttr bitmap is_bitmap (λ _. refl) (λ _ fits. fits)
arm_of Num.GetFh = is_bare op_codec 10 Op.GetFh (append-nil (spelling.number 10)) refl
arm_of Num.Link = is_arm op_codec 11 Op.Link unbounded is_unbounded (λ _. refl) (λ _ fits. fits)
arm_of Num.Lock = is_arm op_codec 12 Op.Lock lock_args is_lock_args (λ _. refl) (λ _ fits. fits)
arm_of Num.LockT = is_arm op_codec 13 Op.LockT lock_t_args is_lock_t_args (λ _. refl) (λ _ fits. fits)
arm_of Num.LockU = is_arm op_codec 14 Op.LockU lock_u_args is_lock_u_args (λ _. refl) (λ _ fits. fits)
arm_of Num.Lookup = is_arm op_codec 15 Op.Lookup unbounded is_unbounded (λ _. refl) (λ _ fits. fits)
arm_of Num.LookupP = is_bare op_codec 16 Op.LookupP (append-nil (spelling.number 16)) refl
arm_of Num.NVerify = is_arm op_codec 17 Op.NVerify attributes is_attributes (λ _. refl) (λ _ fits. fits)
arm_of Num.Open = is_arm op_codec 18 Op.Open open_args is_open_args (λ _. refl) (λ _ fits. fits)
arm_of Num.OpenDowngrade = is_arm op_codec 21 Op.OpenDowngrade open_downgrade_args is_open_downgrade_args (λ _. refl) (λ _ fits. fits)
arm_of Num.PutFh = is_arm op_codec 22 Op.PutFh (opaque 128) (is_opaque 128 (omega arith)) (λ _. refl) (λ _ fits. fits)
arm_of Num.PutPubFh = is_bare op_codec 23 Op.PutPubFh (append-nil (spelling.number 23)) refl
arm_of Num.PutRootFh = is_bare op_codec 24 Op.PutRootFh (append-nil (spelling.number 24)) refl
arm_of Num.Read = is_arm op_codec 25 Op.Read read_args is_read_args (λ _. refl) (λ _ fits. fits)
arm_of Num.ReadDir = is_arm op_codec 26 Op.ReadDir read_dir_args is_read_dir_args (λ _. refl) (λ _ fits. fits)
arm_of Num.ReadLink = is_bare op_codec 27 Op.ReadLink (append-nil (spelling.number 27)) refl
arm_of Num.Remove = is_arm op_codec 28 Op.Remove unbounded is_unbounded (λ _. refl) (λ _ fits. fits)
arm_of Num.Rename = is_arm op_codec 29 Op.Rename rename_args is_rename_args (λ _. refl) (λ _ fits. fits)
arm_of Num.RestoreFh = is_bare op_codec 31 Op.RestoreFh (append-nil (spelling.number 31)) refl
arm_of Num.SaveFh = is_bare op_codec 32 Op.SaveFh (append-nil (spelling.number 32)) refl
arm_of Num.SetAttr = is_arm op_codec 34 Op.SetAttr set_attr_args is_set_attr_args (λ _. refl) (λ _ fits. fits)
arm_of Num.Verify = is_arm op_codec 37 Op.Verify attributes is_attributes (λ _. refl) (λ _ fits. fits)
arm_of Num.Write = is_arm op_codec 38 Op.Write write_args is_write_args (λ _. refl) (λ _ fits. fits)
arm_of Num.ExchangeId = is_arm op_codec 42 Op.ExchangeId exchange_id_args is_exchange_id_args (λ _. refl) (λ _ fits. fits)
arm_of Num.CreateSession = is_arm op_codec 43 Op.CreateSession create_session_args is_create_session_args (λ _. refl) (λ _ fits. fits)
arm_of Num.DestroySession = is_arm op_codec 44 Op.DestroySession (fixed 16) (is_fixed 16) (λ _. refl) (λ _ fits. fits)
arm_of Num.FreeStateid = is_arm op_codec 45 Op.FreeStateid stateid is_stateid (λ _. refl) (λ _ fits. fits)
arm_of Num.SecinfoNoName = is_arm op_codec 52 Op.SecinfoNoName secinfo_style is_secinfo_style (λ _. refl) (λ _ fits. fits)
arm_of Num.Sequence = is_arm op_codec 53 Op.Sequence sequence_args is_sequence_args (λ _. refl) (λ _ fits. fits)
arm_of Num.TestStateid = is_arm op_codec 55 Op.TestStateid stateids is_stateids (λ _. refl) (λ _ fits. fits)
arm_of Num.DestroyClientId = is_arm op_codec 57 Op.DestroyClientId hyper is_hyper (λ _. refl) (λ _ fits. fits)
arm_of Num.ReclaimComplete = is_arm op_codec 58 Op.ReclaimComplete flag is_flag (λ _. refl) (λ _ fits. fits)

again : (y : Op) (rest : List ℕ) → FitsOp y → op_at (arguments y).op ((arguments y).format.spell (arguments y).value ++ rest) ≡ Some (y, rest)
unfolding op_at
again (Op.Access a) rest fits = rw (is_number.again a rest fits) refl
again (Op.Close a) rest fits = rw (is_close_args.again a rest fits) refl
again (Op.Commit a) rest fits = rw (is_commit_args.again a rest fits) refl
again (Op.Create a) rest fits = rw (is_create_args.again a rest fits) refl
again (Op.GetAttr a) rest fits = rw (is_bitmap.again a rest fits) refl
again Op.GetFh rest fits = refl
again (Op.Link a) rest fits = rw (is_unbounded.again a rest fits) refl
again (Op.Lock a) rest fits = rw (is_lock_args.again a rest fits) refl
again (Op.LockT a) rest fits = rw (is_lock_t_args.again a rest fits) refl
again (Op.LockU a) rest fits = rw (is_lock_u_args.again a rest fits) refl
again (Op.Lookup a) rest fits = rw (is_unbounded.again a rest fits) refl
again Op.LookupP rest fits = refl
again (Op.NVerify a) rest fits = rw (is_attributes.again a rest fits) refl
again (Op.Open a) rest fits = rw (is_open_args.again a rest fits) refl
again (Op.OpenDowngrade a) rest fits = rw (is_open_downgrade_args.again a rest fits) refl
again (Op.PutFh a) rest fits = rw ((is_opaque 128 (omega arith)).again a rest fits) refl
again Op.PutPubFh rest fits = refl
again Op.PutRootFh rest fits = refl
again (Op.Read a) rest fits = rw (is_read_args.again a rest fits) refl
again (Op.ReadDir a) rest fits = rw (is_read_dir_args.again a rest fits) refl
again Op.ReadLink rest fits = refl
again (Op.Remove a) rest fits = rw (is_unbounded.again a rest fits) refl
again (Op.Rename a) rest fits = rw (is_rename_args.again a rest fits) refl
again Op.RestoreFh rest fits = refl
again Op.SaveFh rest fits = refl
again (Op.SetAttr a) rest fits = rw (is_set_attr_args.again a rest fits) refl
again (Op.Verify a) rest fits = rw (is_attributes.again a rest fits) refl
again (Op.Write a) rest fits = rw (is_write_args.again a rest fits) refl
again (Op.ExchangeId a) rest fits = rw (is_exchange_id_args.again a rest fits) refl
again (Op.CreateSession a) rest fits = rw (is_create_session_args.again a rest fits) refl
again (Op.DestroySession a) rest fits = rw ((is_fixed 16).again a rest fits) refl
again (Op.FreeStateid a) rest fits = rw (is_stateid.again a rest fits) refl
again (Op.SecinfoNoName a) rest fits = rw (is_secinfo_style.again a rest fits) refl
again (Op.Sequence a) rest fits = rw (is_sequence_args.again a rest fits) refl
again (Op.TestStateid a) rest fits = rw (is_stateids.again a rest fits) refl
again (Op.DestroyClientId a) rest fits = rw (is_hyper.again a rest fits) refl
again (Op.ReclaimComplete a) rest fits = rw (is_flag.again a rest fits) refl

pub is_op : IsCodec op_codec
is_op = is_union_by op_number op_nums spell_op FitsOp op_at is_op_listing arm_of
    (λ y rest fits. (
      (arguments y).op,
      (arguments y).format.spell (arguments y).value ++ rest,
      append_assoc (spelling.number (op_number (arguments y).op)) ((arguments y).format.spell (arguments y).value) rest,
      again y rest fits,
    ))
