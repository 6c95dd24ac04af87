-- The OPEN that gets no memory, computed.
use Rattle.std.proofs.Common.{refl}
use Rattle.nfs_xdr.specs.Spelling.{number, hyper}
use Rattle.nfs_compound.specs.Stateid.{stateid}
use Rattle.nfs_results.specs.Items.{sequence, change_info, attr_set, open_ok}
use Rattle.nfs_attrs.specs.{Attributes.attributes, SettingsCodec.{settings, settings_of}}
use Rattle.nfs_names.specs.{Checks.{current, permits}, Create.attributes_in, PutRootFh.put_root_fh}
use Rattle.nfs_files.specs.Open.{open_file}
use Rattle.nfs_exec.specs.Step.DelayedOpen.{IsWorked}

pub is_worked : IsWorked
unfolding number hyper stateid sequence change_info attr_set open_ok attributes settings settings_of current permits attributes_in put_root_fh open_file
is_worked = record { delayed = refl; store = refl; kept = refl; opened = refl }
