-- The arguments of each operation are read exactly where they are spelled.
use Rattle.std.proofs.{Common.{◌≡◌, ℕ, ◌^◌, ◌<◌, ◌||◌, eqb, ◌++◌, List, Some, refl, append_assoc, arith}, lemmas.Bool.ne_eqb}
use Rattle.nfs_xdr.specs.Spelling as spelling
use Rattle.nfs_xdr.specs.{Codec.{choose, unbounded, number, ◌then◌}, Lawful.{IsCodec, IsListing}, Combinators.{listed_at, choose_or, fixed}}
use Rattle.nfs_xdr.proofs.CodecLaws.{is_number, is_hyper, is_flag, is_fixed, is_opaque, is_unbounded, is_then, is_as_type, is_only, is_optional, is_led_by}
use Rattle.nfs_xdr.proofs.{CodecLaws.{is_union, is_arm, is_bare}, WordLaws.{is_listed, is_union_or, is_time}}
use Rattle.nfs_compound.proofs.ItemLaws.{is_stateid, is_state_owner, is_channel_attrs, is_bitmap, is_attributes, is_all_sec_parms}
use Rattle.nfs_compound.specs.Stateid.{stateid}
use Rattle.nfs_compound.specs.ArgCodecs.{attributes, impl_id, exchange_id_args, protected, create_session_args, sequence_args, lock_types, lock_type}
use Rattle.nfs_compound.specs.ArgCodecs.{open_to_lock_owner, exist_lock_owner, locker, spell_locker, FitsLocker, locker_arms, lock_args, lock_t_args}
use Rattle.nfs_compound.specs.ArgCodecs.{lock_u_args, commit_args, read_args, stable_hows, stable_how, write_args, set_attr_args, spec_data, create_type}
use Rattle.nfs_compound.specs.ArgCodecs.{spell_create_type, FitsCreateType, create_type_arms, create_args, read_dir_args, rename_args, secinfo_styles}
use Rattle.nfs_compound.specs.{ArgCodecs.secinfo_style, declared.open_args.DelegationType.DelegationType, declared.lock_args.LockType.LockType}
use Rattle.nfs_compound.specs.{declared.file_args.StableHow.StableHow, declared.name_args.SecinfoStyle.SecinfoStyle, declared.open_args.CreateHow.CreateHow}
use Rattle.nfs_compound.specs.declared.open_args.CreateHow.TheVariants.{Unchecked, Guarded, Exclusive, Exclusive41}
use Rattle.nfs_compound.specs.OpenCodecs.{create_how, spell_create_how, FitsCreateHow, create_how_arms, open_how, spell_open_how, FitsOpenHow, open_how_arms}
use Rattle.nfs_compound.specs.OpenCodecs.{delegations, delegation_type, open_claim, spell_open_claim, FitsOpenClaim, open_claim_arms, open_args}
use Rattle.nfs_compound.specs.OpenCodecs.{open_downgrade_args, close_args}
use Rattle.nfs_compound.specs.{Enums.{delegation_number, lock_type_number, stable_how_number, secinfo_style_number}, declared.open_args.OpenHow.OpenHow}
use Rattle.nfs_compound.specs.{declared.open_args.OpenHow.TheVariants.{NoCreate, Create}, declared.open_args.OpenClaim.OpenClaim}
use Rattle.nfs_compound.specs.declared.open_args.OpenClaim.TheVariants.{Null, Previous, DelegateCur, DelegatePrev, Fh, DelegCurFh, DelegPrevFh}
use Rattle.nfs_compound.specs.{declared.lock_args.Locker.Locker, declared.lock_args.Locker.TheVariants.{OpenOwner, LockOwner}}
use Rattle.nfs_compound.specs.{declared.name_args.CreateType.CreateType, declared.name_args.CreateType.TheVariants.{Block, Character, Symlink, Other}}
use Rattle.nfs_compound.specs.declared.open_args.DelegationType.TheVariants as Delegations
use Rattle.nfs_compound.specs.declared.lock_args.LockType.TheVariants as LockTypes
use Rattle.nfs_compound.specs.declared.file_args.StableHow.TheVariants as StableHows
use Rattle.nfs_compound.specs.declared.name_args.SecinfoStyle.TheVariants as SecinfoStyles

-- Clients and sessions.

is_impl_id : IsCodec impl_id
unfolding impl_id
is_impl_id = is_as_type _ _ _ (λ _. refl) (is_then _ _ is_unbounded (is_then _ _ is_unbounded is_time))

pub is_exchange_id_args : IsCodec exchange_id_args
unfolding exchange_id_args
is_exchange_id_args = is_as_type _ _ _ (λ _. refl)
    (is_then _ _ (is_fixed 8) (is_then _ _ (is_opaque 1024 (omega arith)) (is_then _ _ is_number (is_led_by 0 _ (omega arith) (is_optional _ is_impl_id)))))

pub is_protected : IsCodec protected
unfolding protected
is_protected = is_then _ _ (is_fixed 8)
    (is_then _ _ (is_opaque 1024 (omega arith)) (is_then _ _ is_number (is_only (λ n. eqb n 1 || eqb n 2) number is_number)))

pub is_create_session_args : IsCodec create_session_args
unfolding create_session_args
is_create_session_args = is_as_type _ _ _ (λ _. refl) (is_then _ _ is_hyper
    (is_then _ _ is_number (is_then _ _ is_number (is_then _ _ is_channel_attrs (is_then _ _ is_channel_attrs (is_then _ _ is_number is_all_sec_parms))))))

pub is_sequence_args : IsCodec sequence_args
unfolding sequence_args
is_sequence_args = is_as_type _ _ _ (λ _. refl) (is_then _ _ (is_fixed 16) (is_then _ _ is_number (is_then _ _ is_number (is_then _ _ is_number is_flag))))

-- Opens.

create_how_again : (y : CreateHow) (rest : List ℕ) → FitsCreateHow y
    → (k : ℕ) × (left : List ℕ) × (k < 2 ^ 32) × (spell_create_how y ++ rest ≡ spelling.number k ++ left) × (choose create_how_arms k left ≡ Some (y, rest))
create_how_again (Unchecked a) rest fits =
    (0, attributes.spell a ++ rest, omega arith, append_assoc (spelling.number 0) (attributes.spell a) rest, rw (is_attributes.again a rest fits) refl)
create_how_again (Guarded a) rest fits =
    (1, attributes.spell a ++ rest, omega arith, append_assoc (spelling.number 1) (attributes.spell a) rest, rw (is_attributes.again a rest fits) refl)
create_how_again (Exclusive v) rest fits =
    (2, (fixed 8).spell v ++ rest, omega arith, append_assoc (spelling.number 2) ((fixed 8).spell v) rest, rw ((is_fixed 8).again v rest fits) refl)
create_how_again (Exclusive41 v a) rest fits = (
  3,
  (fixed 8 then attributes).spell (v, a) ++ rest,
  omega arith,
  append_assoc (spelling.number 3) ((fixed 8 then attributes).spell (v, a)) rest,
  rw ((is_then _ _ (is_fixed 8) is_attributes).again (v, a) rest fits) refl,
)

is_create_how : IsCodec create_how
unfolding create_how
is_create_how = is_union spell_create_how FitsCreateHow create_how_arms (
  is_arm _ 0 Unchecked attributes is_attributes (λ _. refl) (λ _ fits. fits),
  (
    is_arm _ 1 Guarded attributes is_attributes (λ _. refl) (λ _ fits. fits),
    (
      is_arm _ 2 Exclusive (fixed 8) (is_fixed 8) (λ _. refl) (λ _ fits. fits),
      (is_arm _ 3 (λ x. Exclusive41 x.0 x.1) (fixed 8 then attributes) (is_then _ _ (is_fixed 8) is_attributes) (λ _. refl) (λ _ fits. fits), tt),
    ),
  ),
)
    create_how_again

open_how_again : (y : OpenHow) (rest : List ℕ) → FitsOpenHow y
    → (k : ℕ) × (left : List ℕ) × (k < 2 ^ 32) × (spell_open_how y ++ rest ≡ spelling.number k ++ left) × (choose open_how_arms k left ≡ Some (y, rest))
open_how_again NoCreate rest fits = (0, rest, omega arith, refl, refl)
open_how_again (Create how) rest fits =
    (1, create_how.spell how ++ rest, omega arith, append_assoc (spelling.number 1) (create_how.spell how) rest, rw (is_create_how.again how rest fits) refl)

is_open_how : IsCodec open_how
unfolding open_how
is_open_how = is_union spell_open_how FitsOpenHow open_how_arms
    (is_bare _ 0 NoCreate refl tt, (is_arm _ 1 Create create_how is_create_how (λ _. refl) (λ _ fits. fits), tt)) open_how_again

delegation_listing : IsListing delegation_number delegations
delegation_listing = record { found = found; small = small }
  where
    found : (d : DelegationType) → listed_at delegation_number delegations (delegation_number d) ≡ Some d
    found Delegations.NoDelegation = refl
    found Delegations.ReadDelegation = refl
    found Delegations.WriteDelegation = refl
    found Delegations.NoDelegationExt = refl

    small : (d : DelegationType) → delegation_number d < 2 ^ 32
    small Delegations.NoDelegation = omega arith
    small Delegations.ReadDelegation = omega arith
    small Delegations.WriteDelegation = omega arith
    small Delegations.NoDelegationExt = omega arith

is_delegation_type : IsCodec delegation_type
unfolding delegation_type
is_delegation_type = is_listed delegation_number delegations delegation_listing

open_claim_again : (y : OpenClaim) (rest : List ℕ) → FitsOpenClaim y
    → (k : ℕ) × (left : List ℕ) × (k < 2 ^ 32) × (spell_open_claim y ++ rest ≡ spelling.number k ++ left) × (choose open_claim_arms k left ≡ Some (y, rest))
open_claim_again (Null file) rest fits =
    (0, unbounded.spell file ++ rest, omega arith, append_assoc (spelling.number 0) (unbounded.spell file) rest, rw (is_unbounded.again file rest fits) refl)
open_claim_again (Previous d) rest fits = (
  1,
  delegation_type.spell d ++ rest,
  omega arith,
  append_assoc (spelling.number 1) (delegation_type.spell d) rest,
  rw (is_delegation_type.again d rest fits) refl,
)
open_claim_again (DelegateCur s file) rest fits = (
  2,
  (stateid then unbounded).spell (s, file) ++ rest,
  omega arith,
  append_assoc (spelling.number 2) ((stateid then unbounded).spell (s, file)) rest,
  rw ((is_then _ _ is_stateid is_unbounded).again (s, file) rest fits) refl,
)
open_claim_again (DelegatePrev file) rest fits =
    (3, unbounded.spell file ++ rest, omega arith, append_assoc (spelling.number 3) (unbounded.spell file) rest, rw (is_unbounded.again file rest fits) refl)
open_claim_again Fh rest fits = (4, rest, omega arith, refl, refl)
open_claim_again (DelegCurFh s) rest fits =
    (5, stateid.spell s ++ rest, omega arith, append_assoc (spelling.number 5) (stateid.spell s) rest, rw (is_stateid.again s rest fits) refl)
open_claim_again DelegPrevFh rest fits = (6, rest, omega arith, refl, refl)

is_open_claim : IsCodec open_claim
unfolding open_claim
is_open_claim = is_union spell_open_claim FitsOpenClaim open_claim_arms (
  is_arm _ 0 Null unbounded is_unbounded (λ _. refl) (λ _ fits. fits),
  (
    is_arm _ 1 Previous delegation_type is_delegation_type (λ _. refl) (λ _ fits. fits),
    (
      is_arm _ 2 (λ x. DelegateCur x.0 x.1) (stateid then unbounded) (is_then _ _ is_stateid is_unbounded) (λ _. refl) (λ _ fits. fits),
      (
        is_arm _ 3 DelegatePrev unbounded is_unbounded (λ _. refl) (λ _ fits. fits),
        (
          is_bare _ 4 Fh refl tt,
          (
            is_arm _ 5 DelegCurFh stateid is_stateid (λ _. refl) (λ _ fits. fits),
            (is_bare _ 6 DelegPrevFh refl tt, tt),
          ),
        ),
      ),
    ),
  ),
)
    open_claim_again

pub is_open_args : IsCodec open_args
unfolding open_args
is_open_args = is_as_type _ _ _ (λ _. refl)
    (is_then _ _ is_number (is_then _ _ is_number (is_then _ _ is_number (is_then _ _ is_state_owner (is_then _ _ is_open_how is_open_claim)))))

pub is_open_downgrade_args : IsCodec open_downgrade_args
unfolding open_downgrade_args
is_open_downgrade_args = is_as_type _ _ _ (λ _. refl) (is_then _ _ is_stateid (is_then _ _ is_number (is_then _ _ is_number is_number)))

pub is_close_args : IsCodec close_args
unfolding close_args
is_close_args = is_as_type _ _ _ (λ _. refl) (is_then _ _ is_number is_stateid)

-- Locks.

lock_type_listing : IsListing lock_type_number lock_types
lock_type_listing = record { found = found; small = small }
  where
    found : (k : LockType) → listed_at lock_type_number lock_types (lock_type_number k) ≡ Some k
    found LockTypes.Read = refl
    found LockTypes.Write = refl
    found LockTypes.ReadW = refl
    found LockTypes.WriteW = refl

    small : (k : LockType) → lock_type_number k < 2 ^ 32
    small LockTypes.Read = omega arith
    small LockTypes.Write = omega arith
    small LockTypes.ReadW = omega arith
    small LockTypes.WriteW = omega arith

pub is_lock_type : IsCodec lock_type
unfolding lock_type
is_lock_type = is_listed lock_type_number lock_types lock_type_listing

is_open_to_lock_owner : IsCodec open_to_lock_owner
unfolding open_to_lock_owner
is_open_to_lock_owner = is_as_type _ _ _ (λ _. refl) (is_then _ _ is_number (is_then _ _ is_stateid (is_then _ _ is_number is_state_owner)))

is_exist_lock_owner : IsCodec exist_lock_owner
unfolding exist_lock_owner
is_exist_lock_owner = is_as_type _ _ _ (λ _. refl) (is_then _ _ is_stateid is_number)

locker_again : (y : Locker) (rest : List ℕ) → FitsLocker y
    → (k : ℕ) × (left : List ℕ) × (k < 2 ^ 32) × (spell_locker y ++ rest ≡ spelling.number k ++ left) × (choose locker_arms k left ≡ Some (y, rest))
locker_again (OpenOwner o) rest fits = (
  1,
  open_to_lock_owner.spell o ++ rest,
  omega arith,
  append_assoc (spelling.number 1) (open_to_lock_owner.spell o) rest,
  rw (is_open_to_lock_owner.again o rest fits) refl,
)
locker_again (LockOwner o) rest fits = (
  0,
  exist_lock_owner.spell o ++ rest,
  omega arith,
  append_assoc (spelling.number 0) (exist_lock_owner.spell o) rest,
  rw (is_exist_lock_owner.again o rest fits) refl,
)

is_locker : IsCodec locker
unfolding locker
is_locker = is_union spell_locker FitsLocker locker_arms (
  is_arm _ 1 OpenOwner open_to_lock_owner is_open_to_lock_owner (λ _. refl) (λ _ fits. fits),
  (is_arm _ 0 LockOwner exist_lock_owner is_exist_lock_owner (λ _. refl) (λ _ fits. fits), tt),
)
    locker_again

pub is_lock_args : IsCodec lock_args
unfolding lock_args
is_lock_args = is_as_type _ _ _ (λ _. refl) (is_then _ _ is_lock_type (is_then _ _ is_flag (is_then _ _ is_hyper (is_then _ _ is_hyper is_locker))))

pub is_lock_t_args : IsCodec lock_t_args
unfolding lock_t_args
is_lock_t_args = is_as_type _ _ _ (λ _. refl) (is_then _ _ is_lock_type (is_then _ _ is_hyper (is_then _ _ is_hyper is_state_owner)))

pub is_lock_u_args : IsCodec lock_u_args
unfolding lock_u_args
is_lock_u_args = is_as_type _ _ _ (λ _. refl) (is_then _ _ is_lock_type (is_then _ _ is_number (is_then _ _ is_stateid (is_then _ _ is_hyper is_hyper))))

-- Bytes and attributes of files.

pub is_commit_args : IsCodec commit_args
unfolding commit_args
is_commit_args = is_as_type _ _ _ (λ _. refl) (is_then _ _ is_hyper is_number)

pub is_read_args : IsCodec read_args
unfolding read_args
is_read_args = is_as_type _ _ _ (λ _. refl) (is_then _ _ is_stateid (is_then _ _ is_hyper is_number))

stable_how_listing : IsListing stable_how_number stable_hows
stable_how_listing = record { found = found; small = small }
  where
    found : (h : StableHow) → listed_at stable_how_number stable_hows (stable_how_number h) ≡ Some h
    found StableHows.Unstable = refl
    found StableHows.DataSync = refl
    found StableHows.FileSync = refl

    small : (h : StableHow) → stable_how_number h < 2 ^ 32
    small StableHows.Unstable = omega arith
    small StableHows.DataSync = omega arith
    small StableHows.FileSync = omega arith

pub is_stable_how : IsCodec stable_how
unfolding stable_how
is_stable_how = is_listed stable_how_number stable_hows stable_how_listing

pub is_write_args : IsCodec write_args
unfolding write_args
is_write_args = is_as_type _ _ _ (λ _. refl) (is_then _ _ is_stateid (is_then _ _ is_hyper (is_then _ _ is_stable_how is_unbounded)))

pub is_set_attr_args : IsCodec set_attr_args
unfolding set_attr_args
is_set_attr_args = is_as_type _ _ _ (λ _. refl) (is_then _ _ is_stateid is_attributes)

-- Names.

is_spec_data : IsCodec spec_data
unfolding spec_data
is_spec_data = is_as_type _ _ _ (λ _. refl) (is_then _ _ is_number is_number)

create_type_again : (y : CreateType) (rest : List ℕ) → FitsCreateType y → (k : ℕ) × (left : List ℕ) × (k < 2 ^ 32)
    × (spell_create_type y ++ rest ≡ spelling.number k ++ left) × (choose_or create_type_arms Other k left ≡ Some (y, rest))
create_type_again (Block d) rest fits =
    (3, spec_data.spell d ++ rest, omega arith, append_assoc (spelling.number 3) (spec_data.spell d) rest, rw (is_spec_data.again d rest fits) refl)
create_type_again (Character d) rest fits =
    (4, spec_data.spell d ++ rest, omega arith, append_assoc (spelling.number 4) (spec_data.spell d) rest, rw (is_spec_data.again d rest fits) refl)
create_type_again (Symlink linkdata) rest fits = (
  5,
  unbounded.spell linkdata ++ rest,
  omega arith,
  append_assoc (spelling.number 5) (unbounded.spell linkdata) rest,
  rw (is_unbounded.again linkdata rest fits) refl,
)
create_type_again (Other n) rest fits = (n, rest, fits.0, refl, rw (ne_eqb n 3 fits.1, ne_eqb n 4 fits.2, ne_eqb n 5 fits.3) refl)

is_create_type : IsCodec create_type
unfolding create_type
is_create_type = is_union_or spell_create_type FitsCreateType create_type_arms Other (
  is_arm _ 3 Block spec_data is_spec_data (λ _. refl) (λ _ fits. fits),
  (
    is_arm _ 4 Character spec_data is_spec_data (λ _. refl) (λ _ fits. fits),
    (is_arm _ 5 Symlink unbounded is_unbounded (λ _. refl) (λ _ fits. fits), tt),
  ),
)
    (λ n small others. (refl, (small, others.0, others.1.0, others.1.1.0)))
    create_type_again

pub is_create_args : IsCodec create_args
unfolding create_args
is_create_args = is_as_type _ _ _ (λ _. refl) (is_then _ _ is_create_type (is_then _ _ is_unbounded is_attributes))

pub is_read_dir_args : IsCodec read_dir_args
unfolding read_dir_args
is_read_dir_args = is_as_type _ _ _ (λ _. refl) (is_then _ _ is_hyper (is_then _ _ (is_fixed 8) (is_then _ _ is_number (is_then _ _ is_number is_bitmap))))

pub is_rename_args : IsCodec rename_args
unfolding rename_args
is_rename_args = is_as_type _ _ _ (λ _. refl) (is_then _ _ is_unbounded is_unbounded)

secinfo_style_listing : IsListing secinfo_style_number secinfo_styles
secinfo_style_listing = record { found = found; small = small }
  where
    found : (s : SecinfoStyle) → listed_at secinfo_style_number secinfo_styles (secinfo_style_number s) ≡ Some s
    found SecinfoStyles.CurrentFh = refl
    found SecinfoStyles.Parent = refl

    small : (s : SecinfoStyle) → secinfo_style_number s < 2 ^ 32
    small SecinfoStyles.CurrentFh = omega arith
    small SecinfoStyles.Parent = omega arith

pub is_secinfo_style : IsCodec secinfo_style
unfolding secinfo_style
is_secinfo_style = is_listed secinfo_style_number secinfo_styles secinfo_style_listing
