-- An open that an OPEN granted and that nothing has ended since, with the bits that it has by then: what clients asked and were answered (RFC 8881 sections 8.3, 9.7,
-- 18.2, 18.16 and 18.18).
use Rattle.std.specs.Prelude.{◌≡◌, ◌⊎◌, ℕ, false, List, [], ◌∷◌, ◌++◌}
use Rattle.nfs_names.specs.{declared.start.Start.Start}
use Rattle.nfs_files.specs.{Open.{access_of, deny_of}, OpenTold.{OpenTold, Bits}}
use Rattle.nfs_promises.specs.Runs.OpenHeld.{OpensAs, NoneCloses, bits_left}
use Rattle.nfs_exec.specs.{Runs.Ops.RanOp}
use Rattle.nfs_serve.specs.{Step.ServerState}
use Rattle.nfs_promises.specs.{Network.Endpoint.Arrival, Locks.{LockKept.replaces_by, NoIsTrue.IsInLease}, Runs.Points.{state_after, reached, before, ops_of}}

-- An OPEN granted it: it answered NFS4_OK and the stateid of the open, which is of the client in whose session it ran, of the owner that it names and of the file that its
-- claim leads to. Of the bits only those are told that it asks for: where the owner had the file open, the open has more.
pub record GrantsOpen (k : OpenTold) (b : Bits) (d : RanOp) : Type 0 where
  pub opens : OpensAs d k.number k.file
  pub client : k.client ≡ d.context.client
  pub owner : k.owner ≡ opens.asked.owner.owner
  pub bits : b ≡ record { access = access_of opens.asked; deny = deny_of opens.asked }

-- A record behind others ends it neither by a CLOSE of it, nor by coming late, nor by a CREATE_SESSION that puts another id in its client's place and changes something.
pub record LeavesOpen (start : Start) (k : OpenTold) (records : List Arrival) (c : Arrival) : Type 0 where
  pub lasts : IsInLease start k.client records c
  pub unclosed : NoneCloses k (ops_of (reached start records) c)
  pub alone : (replaces_by k.client (reached start records) c ≡ false)
      ⊎ ((state_after (reached start records) c).machine ≡ before (reached start records) c)

abbrev pub AllLeaveOpen : (start : Start) → OpenTold → List Arrival → List Arrival → Type 0
AllLeaveOpen start k records [] = Unit {0}
AllLeaveOpen start k records (c ∷ more) = LeavesOpen start k records c × AllLeaveOpen start k (records ++ c ∷ []) more

-- the bits that open n has behind these records: each OPEN that answered its stateid joined to them what it asked for, and each OPEN_DOWNGRADE that did put what it asked
-- for in their place
abbrev pub bits_through : ℕ → Bits → ServerState → List Arrival → Bits
bits_through n b s [] = b
bits_through n b s (c ∷ more) = bits_through n (bits_left n b (ops_of s c)) (state_after s c) more

-- An OPEN in one of the records granted it, and nothing behind that has ended it.
pub record IsOpenSince (start : Start) (k : OpenTold) (b : Bits) (records : List Arrival) : Type 0 where
  pub earlier : List Arrival
  pub arrival : Arrival
  pub between : List Arrival
  pub all : records ≡ earlier ++ arrival ∷ between
  pub front : List RanOp
  pub first : RanOp
  pub back : List RanOp
  pub ops : ops_of (reached start earlier) arrival ≡ front ++ first ∷ back
  pub asked : Bits
  pub grants : GrantsOpen k asked first
  pub unclosed : NoneCloses k back
  pub left : AllLeaveOpen start k (earlier ++ arrival ∷ []) between
  pub bits : bits_through k.number (bits_left k.number asked back) (reached start (earlier ++ arrival ∷ [])) between ≡ b

-- One in a record before, or in the same compound, granted it, and nothing has ended it before this operation.
pub data IsGrantedOpen (start : Start) (k : OpenTold) (b : Bits) (records : List Arrival) (c : Arrival) (until : List RanOp) : Type 0 where
  Before : (had : Bits) → IsOpenSince start k had records → IsInLease start k.client records c → NoneCloses k until
      → bits_left k.number had until ≡ b → IsGrantedOpen start k b records c until
  Within : (front : List RanOp) (first : RanOp) (back : List RanOp) (asked : Bits) → until ≡ front ++ first ∷ back → GrantsOpen k asked first → NoneCloses k back
      → bits_left k.number asked back ≡ b → IsGrantedOpen start k b records c until
