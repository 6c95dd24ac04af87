-- What a reader of the wire answers, by a codec and by what reading the bytes gives.
use Rattle.std.specs.Prelude.{◌≡◌, ℕ, List, ◌++◌, Result, Ok, Err, Option, Some, None}
use Rattle.nfs_xdr.specs.Codec.{Codec}

-- nothing that has a spelling stands at the front of the bytes
abbrev pub Unspelled : {A : Type 0} → Codec A → List ℕ → Type 0
Unspelled c bytes = (y : _) (rest : List ℕ) → c.Fits y → bytes ≡ c.spell y ++ rest → ⊥

-- What a reader returned, seen by view, stood spelled at the front of the old bytes, and the new ones stood behind it.
-- Where it refused, nothing that has a spelling stood there, and nothing has moved.
abbrev pub ReadsAs : {X Y E : Type 0} → Codec Y → (X → Y) → Result X E → List ℕ → List ℕ → Type 0
ReadsAs c view (Ok x) old new = (old ≡ c.spell (view x) ++ new) × c.Fits (view x)
ReadsAs c view (Err e) old new = (new ≡ old) × Unspelled c old

-- What a reader returned, seen by view, is what reading the old bytes gives. Where it refuses, nothing has moved.
abbrev pub ReadsBy : {X Y E : Type 0} → (X → Y) → Result X E → Option (Y × List ℕ) → List ℕ → List ℕ → Type 0
ReadsBy view (Ok x) read old new = read ≡ Some (view x, new)
ReadsBy view (Err e) read old new = (read ≡ None) × (new ≡ old)

-- The same of the reader of a part: where it refuses, the bytes are left anywhere.
abbrev pub ReadsPartBy : {X Y E : Type 0} → (X → Y) → Result X E → Option (Y × List ℕ) → List ℕ → Type 0
ReadsPartBy view (Ok x) read new = read ≡ Some (view x, new)
ReadsPartBy view (Err e) read new = read ≡ None
