-- Reading the arguments of a compound step by step from the front. That it gives the requests, and nothing for garbage,
-- is a law (Laws).
use Rattle.std.specs.Prelude.{ℕ, zero, suc, ◌==◌, List, [], ◌∷◌, length, Option, Some, None, Bool, true, false, if◌then◌else◌}
use Rattle.nfs_xdr.specs.{Reading.{◌>>=◌, number_at, opaque_at}, Limits.opaque_limit}
use Rattle.nfs_compound.specs.{declared.op.Op.Op, declared.op.Item.Item, declared.op.Item.TheVariants.{Operation, Fault}, OpNum.op_num}
use Rattle.nfs_compound.specs.{OpCodec.{op_at, fault_at}, Request.Request}

abbrev pub is_fault : Item → Bool
is_fault (Operation op) = false
is_fault (Fault n status) = true

-- the operation that was read, or the fault, behind which nothing is read
abbrev pub op_or_fault : Item → Option (Op × List ℕ) → Item × List ℕ
op_or_fault fault None = (fault, [])
op_or_fault fault (Some x) = (Operation x.0, x.1)

unfoldable pub item_at : List ℕ → Option (Item × List ℕ)
item_at bytes = number_at bytes >>= λ n. Some (op_or_fault (fault_at n.0 n.1) (op_num n.0 >>= λ op. op_at op n.1))

abbrev pub in_front : Item → Option (List Item) → Option (List Item)
in_front (Operation op) items = items >>= λ xs. Some (Operation op ∷ xs)
in_front (Fault n status) items = Some (Fault n status ∷ [])

unfoldable pub items_at : ℕ → List ℕ → Option (List Item)
items_at zero bytes = if length bytes == 0 then Some [] else None
items_at (suc n) bytes = item_at bytes >>= λ x. in_front x.0 (items_at n x.1)

unfoldable pub request_at : List ℕ → Option Request
request_at bytes = do
  tag ← opaque_at opaque_limit bytes
  minor ← number_at tag.1
  declared ← number_at minor.1
  items ← if minor.0 == 1 then items_at declared.0 declared.1 else Some []
  Some (record { bytes = bytes; tag = tag.0; minor = minor.0; declared = declared.0; left = items })

-- what is left of a list that was read, of at most n places
abbrev pub first_of : Option (Item × List ℕ) → (List ℕ → List Item) → List Item
first_of None others = []
first_of (Some x) others = x.0 ∷ others x.1

unfoldable pub items_left : ℕ → List ℕ → List Item
items_left zero bytes = []
items_left (suc n) bytes = first_of (item_at bytes) (λ rest. items_left n rest)
