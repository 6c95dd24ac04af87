-- What stays while operations spare it, whatever that is: a lock, an open, a byte.
use Rattle.std.specs.Prelude.{List, [], ◌∷◌}
use Rattle.nfs_xdr.specs.Tables.{In}
use Rattle.nfs_names.specs.State.{State}
use Rattle.nfs_exec.specs.Runs.Ops.{RanOp}

-- It stands in a store in some way, which operations may change; something holds before each operation while it does; and some operations spare it.
pub record Kept : Type 1 where
  pub Way : Type 0
  pub Stands : Way → State → Type 0
  pub Before : Way → RanOp → Type 0
  pub Spares : RanOp → Type 0
  pub after : Way → RanOp → Way

-- before each operation, as long as all before it spared it
abbrev pub While : (k : Kept) → k.Way → List RanOp → Type 0
While k w [] = Unit {0}
While k w (d ∷ more) = k.Before w d × (k.Spares d → k.Stands (k.after w d) d.behind.store × While k (k.after w d) more)

abbrev pub AreSpared : Kept → List RanOp → Type 0
AreSpared k ds = (d : RanOp) → In d ds → k.Spares d

-- in which way it stands behind these
abbrev pub after_all : {W : Type 0} → (W → RanOp → W) → W → List RanOp → W
after_all f w [] = w
after_all f w (d ∷ more) = after_all f (f w d) more
