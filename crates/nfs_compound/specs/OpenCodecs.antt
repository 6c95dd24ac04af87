-- How the arguments of OPEN, OPEN_DOWNGRADE and CLOSE are spelled and read (RFC 5662).
use Rattle.std.specs.Prelude.{ℕ, List, [], ◌∷◌, ◌++◌, Option}
use Rattle.nfs_xdr.specs.Spelling as spelling
use Rattle.nfs_xdr.specs.{Codec.{Codec, ◌then◌, union, arm, bare, number, unbounded, as_type}, Combinators.{fixed, listed}}
use Rattle.nfs_compound.specs.{Enums.delegation_number, declared.open_args.CreateHow.CreateHow}
use Rattle.nfs_compound.specs.{declared.open_args.CreateHow.TheVariants.{Unchecked, Guarded, Exclusive, Exclusive41}, declared.open_args.OpenHow.OpenHow}
use Rattle.nfs_compound.specs.{declared.open_args.OpenHow.TheVariants.{NoCreate, Create}, declared.open_args.OpenClaim.OpenClaim}
use Rattle.nfs_compound.specs.declared.open_args.OpenClaim.TheVariants.{Null, Previous, DelegateCur, DelegatePrev, Fh, DelegCurFh, DelegPrevFh}
use Rattle.nfs_compound.specs.{declared.open_args.Open.Open, ArgCodecs.attributes, declared.open_args.DelegationType.DelegationType, Stateid.stateid}
use Rattle.nfs_compound.specs.{StateOwner.state_owner, declared.open_args.OpenDowngrade.OpenDowngrade, declared.open_args.Close.Close}
use Rattle.nfs_compound.specs.declared.open_args.DelegationType.TheVariants as Delegations

abbrev pub spell_create_how : CreateHow → List ℕ
spell_create_how (Unchecked a) = spelling.number 0 ++ attributes.spell a
spell_create_how (Guarded a) = spelling.number 1 ++ attributes.spell a
spell_create_how (Exclusive v) = spelling.number 2 ++ (fixed 8).spell v
spell_create_how (Exclusive41 v a) = spelling.number 3 ++ (fixed 8 then attributes).spell (v, a)

abbrev pub FitsCreateHow : CreateHow → Type 0
FitsCreateHow (Unchecked a) = attributes.Fits a
FitsCreateHow (Guarded a) = attributes.Fits a
FitsCreateHow (Exclusive v) = (fixed 8).Fits v
FitsCreateHow (Exclusive41 v a) = (fixed 8 then attributes).Fits (v, a)

abbrev pub create_how_arms : List (ℕ × (List ℕ → Option (CreateHow × List ℕ)))
create_how_arms =
    (0, arm Unchecked attributes)
    ∷ (1, arm Guarded attributes)
    ∷ (2, arm Exclusive (fixed 8))
    ∷ (3, arm (λ (v, a). Exclusive41 v a) (fixed 8 then attributes))
    ∷ []

unfoldable pub create_how : Codec CreateHow
create_how = union spell_create_how FitsCreateHow create_how_arms

abbrev pub spell_open_how : OpenHow → List ℕ
spell_open_how NoCreate = spelling.number 0
spell_open_how (Create how) = spelling.number 1 ++ create_how.spell how

abbrev pub FitsOpenHow : OpenHow → Type 0
FitsOpenHow NoCreate = Unit {0}
FitsOpenHow (Create how) = create_how.Fits how

abbrev pub open_how_arms : List (ℕ × (List ℕ → Option (OpenHow × List ℕ)))
open_how_arms = (0, bare NoCreate) ∷ (1, arm Create create_how) ∷ []

unfoldable pub open_how : Codec OpenHow
open_how = union spell_open_how FitsOpenHow open_how_arms

abbrev pub delegations : List DelegationType
delegations = Delegations.NoDelegation ∷ Delegations.ReadDelegation ∷ Delegations.WriteDelegation ∷ Delegations.NoDelegationExt ∷ []

unfoldable pub delegation_type : Codec DelegationType
delegation_type = listed delegation_number delegations

abbrev pub spell_open_claim : OpenClaim → List ℕ
spell_open_claim (Null file) = spelling.number 0 ++ unbounded.spell file
spell_open_claim (Previous delegate_type) = spelling.number 1 ++ delegation_type.spell delegate_type
spell_open_claim (DelegateCur s file) = spelling.number 2 ++ (stateid then unbounded).spell (s, file)
spell_open_claim (DelegatePrev file) = spelling.number 3 ++ unbounded.spell file
spell_open_claim Fh = spelling.number 4
spell_open_claim (DelegCurFh s) = spelling.number 5 ++ stateid.spell s
spell_open_claim DelegPrevFh = spelling.number 6

abbrev pub FitsOpenClaim : OpenClaim → Type 0
FitsOpenClaim (Null file) = unbounded.Fits file
FitsOpenClaim (Previous delegate_type) = delegation_type.Fits delegate_type
FitsOpenClaim (DelegateCur s file) = (stateid then unbounded).Fits (s, file)
FitsOpenClaim (DelegatePrev file) = unbounded.Fits file
FitsOpenClaim Fh = Unit {0}
FitsOpenClaim (DelegCurFh s) = stateid.Fits s
FitsOpenClaim DelegPrevFh = Unit {0}

abbrev pub open_claim_arms : List (ℕ × (List ℕ → Option (OpenClaim × List ℕ)))
open_claim_arms =
    (0, arm Null unbounded)
    ∷ (1, arm Previous delegation_type)
    ∷ (2, arm (λ (s, file). DelegateCur s file) (stateid then unbounded))
    ∷ (3, arm DelegatePrev unbounded)
    ∷ (4, bare Fh)
    ∷ (5, arm DelegCurFh stateid)
    ∷ (6, bare DelegPrevFh)
    ∷ []

unfoldable pub open_claim : Codec OpenClaim
open_claim = union spell_open_claim FitsOpenClaim open_claim_arms

unfoldable pub open_args : Codec Open
open_args = as_type
    (λ (seqid, (share_access, (share_deny, (owner, (openhow, claim))))). record {
      seqid = seqid;
      share_access = share_access;
      share_deny = share_deny;
      owner = owner;
      openhow = openhow;
      claim = claim;
    })
    (λ o. (o.seqid, (o.share_access, (o.share_deny, (o.owner, (o.openhow, o.claim))))))
    (number then number then number then state_owner then open_how then open_claim)

unfoldable pub open_downgrade_args : Codec OpenDowngrade
open_downgrade_args = as_type
    (λ (open_stateid, (seqid, (share_access, share_deny))). record {
      open_stateid = open_stateid;
      seqid = seqid;
      share_access = share_access;
      share_deny = share_deny;
    })
    (λ o. (o.open_stateid, (o.seqid, (o.share_access, o.share_deny))))
    (stateid then number then number then number)

unfoldable pub close_args : Codec Close
close_args = as_type (λ (seqid, open_stateid). record { seqid = seqid; open_stateid = open_stateid }) (λ c. (c.seqid, c.open_stateid)) (number then stateid)
