-- What a run that is worked by hand computes with: how calls are read, what their operations do and how results are spelled.
use Rattle.nfs_xdr.specs.{Spelling.{number, hyper}, Reading.{opaque_at, fixed_at, pieces_at, flag_at}, AuthSys.auth_sys}
use Rattle.nfs_rpc.specs.{HeadCodec.{header, opaque_auth}, CallHead.{call_of, behind_header, caller_of}, Reply.spell_head}
use Rattle.nfs_compound.specs.{ReadRequest.{request_at, items_at, item_at}, OpCodec.{op_at, fault_at}, ArgCodecs.{exchange_id_args, create_session_args}}
use Rattle.nfs_compound.specs.ArgCodecs.{sequence_args, sec_parms, protected, impl_id, lock_type, open_to_lock_owner, exist_lock_owner, locker, lock_args}
use Rattle.nfs_compound.specs.{ArgCodecs.{lock_u_args, read_args, write_args, stable_how}, ChannelAttrs.channel_attrs, Stateid.stateid, StateOwner.state_owner}
use Rattle.nfs_compound.specs.OpenCodecs.{create_how, open_how, delegation_type, open_claim, open_args, open_downgrade_args, close_args}
use Rattle.nfs_compound.specs.ArgCodecs as compound_attributes
use Rattle.nfs_results.specs.Items as results
use Rattle.nfs_ranges.specs.Told.{told}
use Rattle.nfs_attrs.specs.{Attributes.attributes, SettingsCodec.{settings, settings_of}, Handle.handle}
use Rattle.nfs_names.specs.{Create.attributes_in, Checks.{current, permits}, PutFh.put_fh, PutRootFh.put_root_fh, Lookup.lookup}
use Rattle.nfs_files.specs.{Open.open_file, Target.the_file, Ranges.{range, wished}, Denied.lock_denied, Lock.lock, LockU.lock_u}
use Rattle.nfs_files.specs.{OpenDowngrade.open_downgrade, Bytes.{seat, may_use, lets_use}, Close.close}
use Rattle.nfs_files.specs.Read as file_read
use Rattle.nfs_files.specs.Write as file_write
use Rattle.nfs_serve.specs.Step.{step}
use Rattle.nfs_promises.proofs.Network.ThisServer.{found}

unfoldable pub computing : Unit {0}
unfolding number hyper step call_of header opaque_auth opaque_at fixed_at behind_header caller_of auth_sys spell_head request_at items_at item_at op_at
    fault_at exchange_id_args create_session_args sequence_args channel_attrs sec_parms protected impl_id pieces_at flag_at stateid state_owner
    compound_attributes.bitmap compound_attributes.attributes create_how open_how delegation_type open_claim open_args lock_type open_to_lock_owner
    exist_lock_owner locker lock_args lock_u_args results.exchange_id results.create_session results.sequence results.open_ok results.change_info
    results.attr_set results.denied told attributes settings settings_of handle attributes_in current permits put_fh put_root_fh open_file the_file
    range wished lock_denied lock lock_u open_downgrade_args open_downgrade read_args write_args stable_how results.read_ok results.write_ok lookup seat may_use lets_use
    file_read.read file_write.write close_args close found
computing = tt
