-- What is read of the system's clock.
use Rattle.std.specs.Prelude.{◌≡◌, ◌-◌, ℕ, Bool, List, [], ◌∷◌, ◌++◌, Option, Some, None, unwrap_or, max}
use Rattle.nfs_pace.specs.{Paced.{is_late, takes}, declared.paced.Paced.Paced}

-- known readings grow by this one
abbrev pub Reads : Option (List (Option ℕ)) → Option (List (Option ℕ)) → Option ℕ → Type 0
Reads None new read = Unit {0}
Reads (Some xs) None read = ⊥
Reads (Some xs) (Some ys) read = ys ≡ xs ++ read ∷ []

-- one reading is taken; where none can be, the one before is taken again
abbrev pub Takes : Option (List (Option ℕ)) → Option (List (Option ℕ)) → Paced → ℕ → Type 0
Takes before after p taken = (read : Option ℕ) × Reads before after read × (taken ≡ unwrap_or read p.read)

-- behind a record: what was read is kept, the turn is late or not, and the longest time from one reading to the next is kept too
abbrev pub Looks : Paced → (longest read : ℕ) → Paced → (longer : ℕ) → (late : Bool) → Type 0
Looks p longest read after longer late = (after ≡ takes p read) × (longer ≡ max longest (read - p.read)) × (late ≡ is_late p read)
