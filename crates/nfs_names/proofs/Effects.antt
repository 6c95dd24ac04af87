-- What operations on names do to a store, as data: the effects, where each fits, and what is left behind it. What is proved of each effect
-- holds behind each operation.
use Rattle.std.proofs.Common.{◌≡◌, ℕ, true, List, None}
use Rattle.nfs_xdr.specs.declared.time.Time.{Time}
use Rattle.nfs_tree.specs.{declared.sets.Sets.Sets, Files.{object_named, number_named}, Create.{New, with_new}}
use Rattle.nfs_tree.specs.Names.{Move, moves, with_link, without_name, with_moved}
use Rattle.nfs_tree.specs.Calls.{create_fault, link_fault, remove_fault, rename_fault}
use Rattle.nfs_names.specs.{declared.context.Context.Context, State.{State, with_tree, without_unused}, Rename.without_replaced}

-- an object is made under a name; one gets a further name; a name goes, and what it named if nothing else uses it; an entry moves likewise
pub data Effect : Type 0 where
  Makes : ℕ → List ℕ → New → Sets → Time → Effect
  Links : ℕ → ℕ → List ℕ → Time → Effect
  Removes : ℕ → List ℕ → Time → Effect
  Moves : Move → Time → Effect

abbrev pub behind : State → Effect → State
behind s (Makes d name new sets now) = with_tree s (with_new s.tree d name new sets now)
behind s (Links n d name now) = with_tree s (with_link s.tree n d name now)
behind s (Removes d name now) = without_unused (with_tree s (without_name s.tree d name now)) (number_named s.tree d name)
behind s (Moves m now) = without_replaced (with_tree s (with_moved s.tree m now)) (object_named s.tree m.target m.name)

-- the tree refuses nothing of it
abbrev pub Fits : State → Effect → Type 0
Fits s (Makes d name new sets now) = create_fault s.tree d name new ≡ None
Fits s (Links n d name now) = link_fault s.tree n d name ≡ None
Fits s (Removes d name now) = remove_fault s.tree d name ≡ None
Fits s (Moves m now) = (rename_fault s.tree m ≡ None) × (moves s.tree m ≡ true)

-- What each effect keeps, and what the context's move from one filehandle to another does not touch.
pub record Kept (P : State → Context → Type 0) : Type 0 where
  pub effects : (s : State) (x : Context) (e : Effect) → Fits s e → P s x → P (behind s e) x
  pub handles : (s : State) (x y : Context) → y.client ≡ x.client → P s x → P s y

-- the same of a state alone
abbrev pub Each : (State → Type 0) → Type 0
Each P = (s : State) (e : Effect) → Fits s e → P s → P (behind s e)

pub of_states : (P : State → Type 0) → Each P → Kept (λ s x. P s)
of_states P each = record { effects = λ s x e fits is. each s e fits is; handles = λ s x y same is. is }
