-- In `unix` whoever may write a program makes none that runs as its owner: a file whose bytes another user than 0 changed has no set-user-ID bit, until a SETATTR
-- sets one (POSIX, write; RFC 8881 sections 6.2.4 and 18.32).
use Rattle.std.specs.{Prelude.{◌≡◌, ◌≢◌, ℕ, ◌≤◌, true, List, ◌∷◌, ◌++◌, Some, Ok}, Int.bit_at}
use Rattle.nfs_compound.specs.{declared.file_args.SetAttr.SetAttr, declared.file_args.Write.Write, declared.op.Item.TheVariants.Operation}
use Rattle.nfs_compound.specs.declared.op.Op.TheVariants as Op
use Rattle.nfs_tree.specs.{Files.{Files, is_there}, Bytes.has_bytes, declared.profile.Profile.TheVariants.Unix}
use Rattle.nfs_attrs.specs.declared.wanted.Wanted.{Wanted}
use Rattle.nfs_names.specs.{declared.start.Start.Start, Create.attributes_in, Outcome.is_ok}
use Rattle.nfs_exec.specs.{Runs.Kept.Kept, Runs.Ops.RanOp}
use Rattle.nfs_promises.specs.{Network.Endpoint.Arrival, Permission.Permitted.{Rights, rights_at}, Runs.{Points.{reached, ops_of}, Followed.StaysFrom}}

-- the bit 04000 of a mode
abbrev pub set_uid : ℕ → ℕ
set_uid mode = bit_at mode 11

-- another user than 0 wrote bytes of the object
pub record IsWrittenByOther (n : ℕ) (d : RanOp) : Type 0 where
  pub asked : Write
  pub is : d.item ≡ Operation (Op.Write asked)
  pub at : d.context.current ≡ Some n
  pub some : has_bytes asked.bytes ≡ true
  pub other : d.context.who.uid ≢ 0
  pub ok : is_ok d.status ≡ true
  pub there : is_there d.before.store.tree n ≡ true

-- a SETATTR of the object that gives a mode gives one without the bit
abbrev pub GivesNone : ℕ → RanOp → Type 0
GivesNone n d = (a : SetAttr) (w : Wanted) (mode : ℕ) → d.item ≡ Operation (Op.SetAttr a) → d.context.current ≡ Some n
    → attributes_in a.obj_attributes ≡ Ok w → w.mode ≡ Some mode → set_uid mode ≡ 0

-- the object, if it is there, is without the bit; and its number was given, in a tree of this profile
pub record IsWithout (n : ℕ) (t : Files) : Type 0 where
  pub given : n ≤ t.last_object
  pub profile : t.profile ≡ Unix
  pub mode : (r : Rights) → rights_at t n ≡ Some r → set_uid r.mode ≡ 0

abbrev pub without_bit : ℕ → Kept
without_bit n = record {
  Way = Unit {0};
  Stands = λ way s. IsWithout n s.tree;
  Before = λ way d. IsWithout n d.before.store.tree;
  Spares = GivesNone n;
  after = λ way d. way;
}

-- In every run of a server of the profile `unix`, from its start on: behind such a WRITE, whatever comes, while no SETATTR gives the bit.
abbrev pub NoneRunsAsOwner : Type 0
NoneRunsAsOwner = (start : Start) (earlier : List Arrival) (c : Arrival) (front : List RanOp) (d : RanOp) (back : List RanOp) (n : ℕ)
    → (let s = reached start earlier in
    ops_of s c ≡ front ++ d ∷ back → start.profile ≡ Unix → IsWrittenByOther n d → StaysFrom (without_bit n) tt s c back)
