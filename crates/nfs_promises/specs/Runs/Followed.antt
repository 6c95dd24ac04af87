-- What is followed through a run, whoever asks: the bytes of a file, or an object's mode; and what stays in it while operations spare it.
use Rattle.std.specs.Prelude.{List, [], ◌∷◌}
use Rattle.nfs_exec.specs.{Runs.Kept.{Kept, While, AreSpared, after_all}, Runs.Ops.RanOp}
use Rattle.nfs_serve.specs.Step.{ServerState}
use Rattle.nfs_promises.specs.{Network.Endpoint.Arrival, Runs.Points.{state_after, ops_of}}

-- before each operation, as the operations before it left it
abbrev pub TellsWhile : {W : Type 0} → (W → RanOp → Type 0) → (W → RanOp → W) → W → List RanOp → Type 0
TellsWhile Tells after w [] = Unit {0}
TellsWhile Tells after w (d ∷ more) = Tells w d × TellsWhile Tells after (after w d) more

-- through records
abbrev pub TellsThrough : {W : Type 0} → (W → RanOp → Type 0) → (W → RanOp → W) → W → ServerState → List Arrival → Type 0
TellsThrough Tells after w s [] = Unit {0}
TellsThrough Tells after w s (c ∷ more) =
    TellsWhile Tells after w (ops_of s c) × TellsThrough Tells after (after_all after w (ops_of s c)) (state_after s c) more

-- from an operation of a record's compound on: these are behind it there, and then come whatever records
abbrev pub TellsFrom : {W : Type 0} → (W → RanOp → Type 0) → (W → RanOp → W) → W → ServerState → Arrival → List RanOp → Type 0
TellsFrom Tells after w s c back =
    TellsWhile Tells after w back × ((more : List Arrival) → TellsThrough Tells after (after_all after w back) (state_after s c) more)

-- The same of what stays while operations spare it.
abbrev pub StaysThrough : (k : Kept) → k.Way → ServerState → List Arrival → Type 0
StaysThrough k w s [] = Unit {0}
StaysThrough k w s (c ∷ more) = While k w (ops_of s c) × (AreSpared k (ops_of s c) → StaysThrough k (after_all k.after w (ops_of s c)) (state_after s c) more)

abbrev pub StaysFrom : (k : Kept) → k.Way → ServerState → Arrival → List RanOp → Type 0
StaysFrom k w s c back = While k w back × (AreSpared k back → (more : List Arrival) → StaysThrough k (after_all k.after w back) (state_after s c) more)
