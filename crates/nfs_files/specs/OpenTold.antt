-- An open that was told to its owner, and what becomes of its bits (RFC 8881 sections 8.2, 9.7, 18.16 and 18.18).
use Rattle.std.specs.Prelude.{◌≡◌, ℕ, ◌==◌, nat_le, Bool, not, ◌&&◌, ◌||◌, List, length, take, drop, bytes_eq, Option, Some, None, if◌then◌else◌}
use Rattle.std.specs.Int.{w64, from_be_bytes}
use Rattle.nfs_xdr.specs.Tables.{In}
use Rattle.nfs_compound.specs.{declared.op_num.OpNum.OpNum, declared.open_args.Open.Open, declared.open_args.OpenClaim.OpenClaim}
use Rattle.nfs_compound.specs.{declared.open_args.OpenClaim.TheVariants.Null, declared.op.Item.Item, declared.op.Item.TheVariants.Operation}
use Rattle.nfs_compound.specs.declared.op_num.OpNum.TheVariants as Num
use Rattle.nfs_compound.specs.declared.op.Op.TheVariants as Op
use Rattle.nfs_results.specs.Results.{done_head}
use Rattle.nfs_tree.specs.Files.{Files, object_named}
use Rattle.nfs_opens.specs.{declared.share.Share.Share, declared.records.OpenState.OpenState, Share.{neither, meets, joined}, Table.Table}
use Rattle.nfs_names.specs.declared.context.Context.{Context}
use Rattle.nfs_files.specs.{Open.{access_of, deny_of}, OpenDowngrade.bits}

-- An operation's result says NFS4_OK, and the stateid that stands first in it names the open of this number.
abbrev pub names_open : OpNum → List ℕ → ℕ → Bool
names_open op result n = nat_le 24 (length result) && (bytes_eq (take 8 result) (done_head op) && (from_be_bytes w64 (take 8 (drop 16 result)) == n))

-- an open: its number, its client, the string of its owner and its file
pub record OpenTold : Type 0 where
  pub number : ℕ
  pub client : ℕ
  pub owner : List ℕ
  pub file : ℕ

-- what an open has: its access, and the access that it denies to others
pub record Bits : Type 0 where
  pub access : Share
  pub deny : Share

-- what an OPEN asks for, joined to what the owner had of the file, if it had it open
abbrev pub bits_with : Bits → Open → Bits
bits_with b a = record { access = joined b.access (access_of a); deny = joined b.deny (deny_of a) }

abbrev pub bits_had : Option OpenState → Bits
bits_had None = record { access = neither; deny = neither }
bits_had (Some o) = record { access = o.access; deny = o.deny }

-- The bits of open n behind an operation: an OPEN that answered its stateid joins what it asks for to them, and an OPEN_DOWNGRADE that did puts what it
-- asks for in their place.
abbrev pub bits_behind : ℕ → Item → (result : List ℕ) → Bits → Bits
bits_behind n (Operation (Op.Open a)) result b = if names_open Num.Open result n then bits_with b a else b
bits_behind n (Operation (Op.OpenDowngrade a)) result b =
    if names_open Num.OpenDowngrade result n then record { access = bits a.share_access; deny = bits a.share_deny } else b
bits_behind n item result b = b

-- the open stands, with these bits
pub record IsOpenWith (k : OpenTold) (b : Bits) (t : Table) : Type 0 where
  pub state : OpenState
  pub there : In state t.opens
  pub number : state.number ≡ k.number
  pub client : state.client ≡ k.client
  pub owner : state.owner ≡ k.owner
  pub file : state.file ≡ k.file
  pub access : state.access ≡ b.access
  pub deny : state.deny ≡ b.deny

-- the file that the name leads to, or the one of the current filehandle
abbrev pub named_in : Files → List ℕ → Option ℕ → Option ℕ
named_in t name None = None
named_in t name (Some directory) = object_named t directory name

abbrev pub claimed : Files → Context → OpenClaim → Option ℕ
claimed t x (Null name) = named_in t name x.current
claimed t x claim = x.current

-- another owner asks for access that the open denies, or denies access that it has (section 9.7)
abbrev pub forbids : OpenTold → Bits → Context → Open → Bool
forbids k b x a = not ((k.client == x.client) && bytes_eq k.owner a.owner.owner) && (meets (access_of a) b.deny || meets (deny_of a) b.access)
