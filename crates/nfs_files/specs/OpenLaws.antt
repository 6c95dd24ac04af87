-- Laws of one OPEN: what it tells by its answer, and what it does not tell while an open forbids it (RFC 8881 sections 9.7 and 18.16).
use Rattle.std.specs.Prelude.{◌≡◌, ℕ, ◌≤◌, Bool, true, Some}
use Rattle.nfs_xdr.specs.declared.time.Time.{Time}
use Rattle.nfs_compound.specs.declared.open_args.Open.{Open}
use Rattle.nfs_compound.specs.declared.op_num.OpNum.TheVariants as Num
use Rattle.nfs_results.specs.Results.{spell_result}
use Rattle.nfs_opens.specs.{TableInvariants.IsTable, Opening.own_open, StateId.last_number}
use Rattle.nfs_names.specs.{declared.context.Context.Context, Outcome.or_lack, State.State}
use Rattle.nfs_files.specs.{Open.{asking, open_file}, OpenTold.{names_open, OpenTold, Bits, bits_with, bits_had, IsOpenWith, claimed, forbids}}

-- the claim leads to the file, and the open stands, with the bits that were asked for, joined to what its owner had of the file
pub record IsToldOpen (s : State) (x : Context) (a : Open) (n : ℕ) (left : State) (file : ℕ) : Type 0 where
  pub leads : claimed left.tree x a.claim ≡ Some file
  pub stands : IsOpenWith (record { number = n; client = x.client; owner = a.owner.owner; file = file })
      (bits_with (bits_had (own_open s.opens (asking x a file))) a) left.opens

-- Behind an OPEN that answers NFS4_OK and the stateid of an open, this stands.
abbrev pub ToldOpensStand : Type 0
ToldOpensStand = (refused : Bool) (s : State) (x : Context) (now : Time) (a : Open) (n : ℕ) → IsTable s.opens → s.opens.last ≤ last_number
    → names_open Num.Open (spell_result (or_lack refused s x Num.Open (open_file s x now a)).result) n ≡ true
    → (file : ℕ) × IsToldOpen s x a n (or_lack refused s x Num.Open (open_file s x now a)).state file

-- While an open stands, no OPEN of its file that it forbids answers NFS4_OK and a stateid.
abbrev pub ForbiddenOpensAreRefused : Type 0
ForbiddenOpensAreRefused = (k : OpenTold) (b : Bits) (refused : Bool) (s : State) (x : Context) (now : Time) (a : Open) (n : ℕ)
    → IsTable s.opens → s.opens.last ≤ last_number → IsOpenWith k b s.opens
    → names_open Num.Open (spell_result (or_lack refused s x Num.Open (open_file s x now a)).result) n ≡ true
    → claimed (or_lack refused s x Num.Open (open_file s x now a)).state.tree x a.claim ≡ Some k.file → forbids k b x a ≡ true → ⊥
