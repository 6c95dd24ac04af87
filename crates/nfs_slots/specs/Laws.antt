-- What holds of every list of requests that a table of slots keeps.
use Rattle.std.specs.Prelude.{◌≡◌, ℕ, ◌-◌, ◌^◌, ◌≤◌, ◌==◌, Bool, List, [], ◌∷◌, count_by}
use Rattle.nfs_slots.specs.{declared.slot.Verdict.TheVariants.{Fresh, Again}, Slot.{SlotState, judge, keep, kept}}

-- a request that ran, and its reply
pub record Request : Type 0 where
  pub slot : ℕ
  pub number : ℕ
  pub uid : ℕ
  pub args : List ℕ
  pub reply : List ℕ

abbrev pub is_on : ℕ → Request → Bool
is_on slot r = r.slot == slot

-- each of the requests in turn is fresh, and is kept
abbrev pub Keeps : List SlotState → List Request → List SlotState → Type 0
Keeps old [] new = old ≡ new
Keeps old (r ∷ more) new = (judge old r.slot r.number r.uid r.args ≡ Fresh) × Keeps (keep old r.slot r.number r.uid r.args r.reply) more new

-- a number that was kept on a slot is fresh there again, whoever sends it, only after 2^32 - 1 further numbers were kept there
abbrev pub OnePlace : Type 0
OnePlace =
    (old new : List SlotState) (r : Request) (more : List Request) (uid : ℕ) (args : List ℕ)
    → Keeps old (r ∷ more) new → judge new r.slot r.number uid args ≡ Fresh → 2 ^ 32 - 1 ≤ count_by (is_on r.slot) more

-- until a further number is kept on its slot, a request is answered with its own reply
abbrev pub RepeatsAreAnswered : Type 0
RepeatsAreAnswered =
    (old new : List SlotState) (r : Request) (more : List Request)
    → Keeps old (r ∷ more) new → count_by (is_on r.slot) more ≡ 0
    → (judge new r.slot r.number r.uid r.args ≡ Again) × (kept new r.slot ≡ r.reply)
