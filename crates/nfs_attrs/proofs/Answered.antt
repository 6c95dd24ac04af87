-- With what attributes are refused that cannot be read or compared.
use Rattle.std.proofs.Common.{ℕ, List, Bool, true, false, cond, not, ◌||◌}
use Rattle.std.specs.Prelude.{Option, Some, None, Result, Ok, Err}
use Rattle.nfs_xdr.specs.declared.status.Status.{Status}
use Rattle.nfs_xdr.specs.declared.status.Status.TheVariants as S
use Rattle.nfs_tree.specs.{declared.object.Object.Object, declared.profile.Profile.TheVariants.Exact}
use Rattle.nfs_attrs.specs.{declared.about.About.About, declared.mask.Mask.Mask, declared.wanted.Wanted.Wanted, Attributes.{Settings, settable, supported}}
use Rattle.nfs_attrs.specs.{Comparing.same, Mask.{asks_set_only, has, within}, Reading.{exceeds, judged_settings, names_nobody, overflows, read_attrs}}
use Rattle.nfs_attrs.specs.SettingsCodec.{settings_of}

by_test : {A : Type 0} (P : A → Type 0) (b : Bool) (x y : A) → P x → P y → P (cond b x y)
by_test P true x y held failed = held
by_test P false x y held failed = failed

pub by_read : (P : Result Wanted Status → Type 0) → P (Err S.AttrNotSupp) → P (Err S.Inval) → P (Err S.BadXdr) → P (Err S.BadOwner)
    → ((wanted : Wanted) → P (Ok wanted)) → (given : Mask) (values : List ℕ) → P (read_attrs given values)
by_read P unknown invalid cut nobody read given values =
    by_test P (not (within given (supported Exact))) _ _ unknown (by_test P (not (within given settable)) _ _ invalid (by_settings (settings_of given values)))
  where
    by_settings : (o : Option Settings) → P (judged_settings given o)
    by_settings None = cut
    by_settings (Some s) =
        by_test P (names_nobody s.owner || names_nobody s.group) _ _ nobody
        (by_test P (overflows s.access || overflows s.modify || exceeds s.mode) _ _ invalid (read _))

pub by_compared : (P : Result Bool Status → Type 0) → P (Err S.AttrNotSupp) → P (Err S.Inval) → ((equal : Bool) → P (Ok equal))
    → (asked : Mask) (bytes : List ℕ) (a : About) (o : Object) → P (same asked bytes a o)
by_compared P unknown invalid compared asked bytes a o =
    by_test P (not (within asked (supported a.profile))) _ _ unknown (by_test P (has asked 11 || asks_set_only asked) _ _ invalid (compared _))
