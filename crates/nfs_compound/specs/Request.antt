-- The arguments of a compound (RFC 8881 section 16.2): which bytes are a request, and which are garbage.
use Rattle.std.specs.Prelude.{◌≡◌, ◌≢◌, ℕ, zero, suc, ◌<◌, ◌≤◌, ◌^◌, ◌⊎◌, List, [], ◌∷◌, ◌++◌}
use Rattle.nfs_xdr.specs.Spelling as spelling
use Rattle.nfs_xdr.specs.{Limits.opaque_limit, declared.status.Status.TheVariants.{Inval, NotSupp, BadXdr, OpIllegal}, Text.{uint32, opaque, Begins, Lacks}}
use Rattle.nfs_compound.specs.{declared.op_num.OpNum.OpNum, declared.op_num.OpNum.TheVariants.ExchangeId, OpNum.{op_number, first_op, last_op, op_illegal}}
use Rattle.nfs_compound.specs.{declared.op.Op.Op, declared.op.Item.Item, declared.op.Item.TheVariants.{Operation, Fault}, Wire.{protected4, nfs_argop4}}
use Rattle.nfs_compound.specs.Arguments.{arguments}

-- A request: the bytes that it is spelled by, its tag, minor version and declared count, and what is left of its list.
pub record Request : Type 0 where
  pub bytes : List ℕ
  pub tag : List ℕ
  pub minor : ℕ
  pub declared : ℕ
  pub left : List Item

-- The tag of at most 1,024 bytes, the minor version and the count stand in front of the body.
pub record IsHead (bytes tag : List ℕ) (minor declared : ℕ) (body : List ℕ) : Type 0 where
  pub spelled : bytes ≡ spelling.opaque tag ++ (spelling.number minor ++ (spelling.number declared ++ body))
  pub tag_fits : (opaque opaque_limit tag).Fits
  pub minor_fits : minor < 2 ^ 32
  pub declared_fits : declared < 2 ^ 32

-- The number and the status of the fault where a number stands and no operation that is supported, by what is behind the number: EXCHANGE_ID may want a
-- state protection that is not served, RFC 8881 has the numbers first_op to last_op, and any other is answered under that of OP_ILLEGAL.
pub data Answers (number : ℕ) (behind : List ℕ) (fault : Item) : Type 0 where
  Unserved : number ≡ op_number ExchangeId → Begins protected4 behind → fault ≡ Fault number Inval → Answers number behind fault
  Unreadable : (op : OpNum) → number ≡ op_number op → (op ≡ ExchangeId → Lacks protected4 behind) → fault ≡ Fault number BadXdr → Answers number behind fault
  Unsupported : ((op : OpNum) → number ≢ op_number op) → first_op ≤ number → number ≤ last_op → fault ≡ Fault number NotSupp → Answers number behind fault
  Illegal : ((op : OpNum) → number ≢ op_number op) → (number < first_op) ⊎ (last_op < number) → fault ≡ Fault op_illegal OpIllegal → Answers number behind fault

-- A number stands here and no supported operation does, whatever stands behind.
pub record IsFault (bytes : List ℕ) (fault : Item) : Type 0 where
  pub number : ℕ
  pub behind : List ℕ
  pub number_fits : number < 2 ^ 32
  pub stands : bytes ≡ spelling.number number ++ behind
  pub none : Lacks nfs_argop4 bytes
  pub answers : Answers number behind fault

-- n operations one after the other with nothing behind, or fewer and a fault
abbrev pub Lists : ℕ → List ℕ → List Item → Type 0
Lists zero bytes [] = bytes ≡ []
Lists zero bytes (item ∷ items) = ⊥
Lists (suc n) bytes [] = ⊥
Lists (suc n) bytes (Operation op ∷ items) = (rest : List ℕ) × (bytes ≡ (nfs_argop4 op).bytes ++ rest) × (nfs_argop4 op).Fits × Lists n rest items
Lists (suc n) bytes (Fault k status ∷ []) = IsFault bytes (Fault k status)
Lists (suc n) bytes (Fault k status ∷ item ∷ items) = ⊥

-- Fewer than n operations, and then no operation number; or all n, and bytes behind them.
abbrev pub Spoils : ℕ → List ℕ → Type 0
Spoils zero bytes = bytes ≢ []
Spoils (suc n) bytes = Lacks uint32 bytes ⊎ ((op : Op) × (rest : List ℕ) × (bytes ≡ (nfs_argop4 op).bytes ++ rest) × (nfs_argop4 op).Fits × Spoils n rest)

-- The body of a minor version other than 1 is not looked at, and its list is empty.
abbrev pub HasBody : ℕ → ℕ → List ℕ → List Item → Type 0
HasBody (suc zero) declared body items = Lists declared body items
HasBody minor declared body items = items ≡ []

pub record IsRequest (bytes : List ℕ) (r : Request) : Type 0 where
  pub whole : r.bytes ≡ bytes
  pub body : List ℕ
  pub head : IsHead bytes r.tag r.minor r.declared body
  pub items : HasBody r.minor r.declared body r.left

-- What makes arguments garbage.
pub data IsGarbage (bytes : List ℕ) : Type 0 where
  LacksTag : Lacks (opaque opaque_limit) bytes → IsGarbage bytes
  LacksMinor : (tag rest : List ℕ) → (opaque opaque_limit tag).Fits
      → bytes ≡ spelling.opaque tag ++ rest
      → Lacks uint32 rest → IsGarbage bytes
  LacksCount : (tag : List ℕ) (minor : ℕ) (rest : List ℕ) → (opaque opaque_limit tag).Fits → minor < 2 ^ 32
      → bytes ≡ spelling.opaque tag ++ (spelling.number minor ++ rest)
      → Lacks uint32 rest → IsGarbage bytes
  SpoilsBody : (tag : List ℕ) (declared : ℕ) (body : List ℕ) → IsHead bytes tag 1 declared body
      → Spoils declared body → IsGarbage bytes

abbrev pub spell_op : Op → List ℕ
spell_op op = spelling.number (op_number (arguments op).op) ++ (arguments op).format.spell (arguments op).value

abbrev pub FitsOp : Op → Type 0
FitsOp op = (arguments op).format.Fits (arguments op).value

-- the operation number under which what stands at a place is answered
abbrev pub item_number : Item → ℕ
item_number (Operation op) = op_number (arguments op).op
item_number (Fault n status) = n
