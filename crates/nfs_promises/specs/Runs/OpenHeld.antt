-- An open that was told, what ends it and what changes its bits: what a client asked and was answered (RFC 8881 sections 8.3, 9.7, 18.2, 18.16 and 18.18).
-- A CLOSE of it that answers NFS4_OK ends it, and so does the end of its client.
use Rattle.std.specs.Prelude.{◌≡◌, ℕ, true, List, Some}
use Rattle.nfs_compound.specs.{declared.open_args.Open.Open, declared.op.Item.TheVariants.Operation}
use Rattle.nfs_compound.specs.declared.op_num.OpNum.TheVariants as Num
use Rattle.nfs_compound.specs.declared.op.Op.TheVariants as Op
use Rattle.nfs_opens.specs.Opening.{own_open}
use Rattle.nfs_files.specs.{Open.asking, OpenTold.{names_open, OpenTold, Bits, bits_with, bits_had, bits_behind, IsOpenWith, claimed, forbids}}
use Rattle.nfs_exec.specs.{Runs.Kept.{Kept, While, AreSpared, after_all}, Runs.Ops.RanOp, Runs.LockHeld.ClosesOf}

-- an OPEN of a file that answered NFS4_OK and the stateid of open n; behind it the claim leads to the file
pub record OpensAs (d : RanOp) (n file : ℕ) : Type 0 where
  pub asked : Open
  pub is : d.item ≡ Operation (Op.Open asked)
  pub names : names_open Num.Open d.result n ≡ true
  pub leads : claimed d.behind.store.tree d.context asked.claim ≡ Some file

-- it stands before the operation, which is no OPEN of its file that it forbids and that answered NFS4_OK
pub record IsOpenBefore (k : OpenTold) (b : Bits) (d : RanOp) : Type 0 where
  pub stands : IsOpenWith k b d.before.store.opens
  pub refused : (n : ℕ) (o : OpensAs d n k.file) → forbids k b d.context o.asked ≡ true → ⊥

abbrev pub the_open : OpenTold → Kept
the_open k = record {
  Way = Bits;
  Stands = λ b s. IsOpenWith k b s.opens;
  Before = IsOpenBefore k;
  Spares = λ d. ClosesOf d k.number → ⊥;
  after = λ b d. bits_behind k.number d.item d.result b;
}

-- before each operation, as long as none before it closed it, with the bits that it has by then
abbrev pub OpenWhile : OpenTold → Bits → List RanOp → Type 0
OpenWhile k b ds = While (the_open k) b ds

abbrev pub NoneCloses : OpenTold → List RanOp → Type 0
NoneCloses k ds = AreSpared (the_open k) ds

abbrev pub bits_left : ℕ → Bits → List RanOp → Bits
bits_left n b ds = after_all (λ b d. bits_behind n d.item d.result b) b ds

-- An OPEN told the open: it answered its stateid, and the bits are those that it asked for, joined to what its owner had of the file before it.
pub record TellsOpen (k : OpenTold) (b : Bits) (d : RanOp) : Type 0 where
  pub opens : OpensAs d k.number k.file
  pub client : k.client ≡ d.context.client
  pub owner : k.owner ≡ opens.asked.owner.owner
  pub bits : b ≡ bits_with (bits_had (own_open d.before.store.opens (asking d.context opens.asked k.file))) opens.asked
