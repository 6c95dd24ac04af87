-- What a WRITE leaves of its own, and what a READ is given.
use Rattle.std.proofs.Common.{◌≡◌, ◌⊎◌, ℕ, ◌+◌, ◌-◌, ◌≤◌, ◌<◌, ◌^◌, Bool, true, false, List, ◌++◌, length, take, drop, get_or, Some, None, refl, sym, ◌∙◌, ap}
use Rattle.std.proofs.Common.{subst, arith, inl, inr}
use Rattle.std.proofs.{lemmas.Bool.{cases_Bool, ltb-false}, lemmas.List.{take_at, drop_at, length-append, length-take, length-drop, get_or-take, get_or-drop}}
use Rattle.std.specs.{Prelude.{◌&&◌, nat_lt, Ok}, Int.{w32, from_be_bytes}}
use Rattle.nfs_xdr.specs.{Checks.first_fault, Spelling.{number, flag, fixed, opaque}, declared.time.Time.Time, declared.status.Status.Status}
use Rattle.nfs_xdr.specs.declared.status.Status.TheVariants.{Nfs4Ok}
use Rattle.nfs_xdr.proofs.Putting.{length_number}
use Rattle.nfs_compound.specs.{declared.file_args.Write.Write, declared.file_args.Read.Read, declared.op_num.OpNum.OpNum, OpNum.op_number}
use Rattle.nfs_compound.specs.declared.op.Item.{Item}
use Rattle.nfs_compound.specs.declared.op_num.OpNum.TheVariants as Num
use Rattle.nfs_compound.specs.declared.op.Op.TheVariants as Op
use Rattle.nfs_results.specs.Items as item
use Rattle.nfs_results.specs.{Largest.given, declared.res.Res.Res, declared.res.ReadOk.ReadOk, Results.{spell_result, done_head}}
use Rattle.nfs_results.proofs.Lengths.{length_head, length_spelled}
use Rattle.nfs_tree.specs.{Files.{root, is_there, data_at}, TreeInvariants.IsTree, Bytes.has_bytes}
use Rattle.nfs_tree.proofs.Objects.{stored_within}
use Rattle.nfs_names.specs.{declared.context.Context.Context, declared.node.Node.Node, State.State, Outcome.{Outcome, checked, lacks}, Checks.current}
use Rattle.nfs_names.proofs.{Found.{checked_ok, current_is}, Ones.by_delay}
use Rattle.nfs_files.specs.{Bytes.{file_checks, reading, may_use, behind_sets}, Written.{Byte, StandsIn, Lasts, Writes, bytes_in, Reads, GivesIt}}
use Rattle.nfs_files.specs.Parts.{readable, writable}
use Rattle.nfs_files.proofs.{Outcomes.{one_or_delay, comes_to}, Passing.if_passed_ok, ReadBytes.few_given, WrittenImages.lasts_over}
use Rattle.nfs_files.proofs.WrittenOps.{by_found, current_number, writable_at, number_back, write_spelled, few_written}
use Rattle.nfs_files.specs.Read as of_read
use Rattle.nfs_files.specs.Parts as parts
use Rattle.nfs_files.specs.Write as of_write
use Rattle.nfs_files.proofs.InSteps.{write_is, read_is}
use Rattle.nfs_files.proofs.Terms.{bytes_of}
use Rattle.nfs_files.proofs.ChangesTold.{some_same}

-- a refusal ends behind its status
pub short : (op : OpNum) (status : Status) (first more : List ℕ) → length first ≡ 4
    → spell_result (Res.Refused (op_number op) status) ≡ done_head op ++ (first ++ more) → ⊥
short op status first more four e =
    let whole = ap length e in
    let spelled = length_spelled (Res.Refused (op_number op) status) in
    let head = length_head (op_number op) Nfs4Ok in
    let both = length-append (done_head op) (first ++ more) in
    let rest = length-append first more in absurd (omega arith)

-- what stands behind the head, and its first four bytes
behind_head : (op : OpNum) (a b c d : List ℕ) → length a ≡ 4 → length c ≡ 4 → done_head op ++ (a ++ b) ≡ done_head op ++ (c ++ d) → (a ≡ c) × (b ≡ d)
behind_head op a b c d four also e =
    let head = length_head (op_number op) Nfs4Ok in
    let same : a ++ b ≡ c ++ d = sym (drop_at (done_head op) (a ++ b) 8 head) ∙ (ap (drop 8) e ∙ drop_at (done_head op) (c ++ d) 8 head) in
    (sym (take_at a b 4 four) ∙ (ap (take 4) same ∙ take_at c d 4 also), sym (drop_at a b 4 four) ∙ (ap (drop 4) same ∙ drop_at c d 4 also))

-- WRITE

-- what is told of a WRITE that answered so
record TellsWrite (b : Byte) (x : Context) (w : Write) (count more text : List ℕ) : Type 0 where
  pub at : x.current ≡ Some b.file
  pub answers : text ≡ done_head Num.Write ++ (count ++ more)
  pub long : length count ≡ 4
  pub from : w.offset ≤ b.place
  pub below : b.place < w.offset + from_be_bytes w32 count
  pub value : get_or w.bytes (b.place - w.offset) 0 ≡ b.value

abbrev LeavesTold : Byte → Context → Write → List ℕ → List ℕ → Outcome → Type 0
LeavesTold b x w count more o = TellsWrite b x w count more (spell_result o.result) → Lasts b o.state.tree

-- no more bytes are told than were brought
few_told : (s : State) (w : Write) (d : Node) (place : ℕ) (count : List ℕ) → first_fault (of_write.last_checks s w d) ≡ None → number (length w.bytes) ≡ count
    → w.offset ≤ place → place < w.offset + from_be_bytes w32 count → (has_bytes w.bytes ≡ true) × (place < w.offset + length w.bytes)
few_told s w d place count none same from below = elim (cases_Bool (has_bytes w.bytes)) [
  | inl some ↦ (some, subst (λ n. place < w.offset + n) (ap (from_be_bytes w32) (sym same) ∙ number_back (length w.bytes) (few_written s w d none some)) below)
  | inr empty ↦ (let no = ltb-false 0 (length w.bytes) empty in
      let zero : from_be_bytes w32 count ≡ length w.bytes = ap (from_be_bytes w32) (sym same) ∙ number_back (length w.bytes) (omega arith) in
      absurd (omega arith))
]

there_given : (s : State) (x : Context) (d : Node) → IsTree s.tree → current s x ≡ Ok d → d.number ≤ s.tree.last_object
there_given s x d tree e =
    let within = stored_within root (s.tree.last_object + 1) s.tree.objects d.number tree.objects (current_is s x d e).there in
    let high = within.1 in omega arith

written_lasts : (b : Byte) (s : State) (x : Context) (now : Time) (w : Write) (d : Node) → d.number ≡ b.file → b.file ≤ s.tree.last_object → has_bytes w.bytes ≡ true
    → w.offset ≤ b.place → b.place < w.offset + length w.bytes → get_or w.bytes (b.place - w.offset) 0 ≡ b.value
    → Lasts b (of_write.with_bytes s.tree x w d now)
written_lasts b s x now w d same given some from below value =
    rw (some, same) (lasts_over b s.tree w.offset w.bytes (behind_sets s.tree x d) now given from below value)

write_told : (b : Byte) (s : State) (x : Context) (now : Time) (w : Write) (d : Node) (count more : List ℕ) → IsTree s.tree
    → writable s x w.stateid (current s x) ≡ Ok d → first_fault (of_write.last_checks s w d) ≡ None
    → LeavesTold b x w count more (parts.was_written s x now w d)
write_told b s x now w d count more tree e none told =
    let at = writable_at s x w.stateid d e in
    let same : d.number ≡ b.file = some_same x.current d.number b.file (current_number s x d at) told.at in
    let spelled = write_spelled (of_write.write_ok s w) in
    let counts = behind_head Num.Write (number (length w.bytes)) spelled.0 count more (length_number (length w.bytes)) told.long (sym spelled.1 ∙ told.answers) in
    let few = few_told s w d b.place count none counts.0 told.from told.below in
    written_lasts b s x now w d same (subst (λ n. n ≤ s.tree.last_object) same (there_given s x d tree at)) few.0 told.from few.1 told.value

write_leaves : (b : Byte) (refused : Bool) (s : State) (x : Context) (now : Time) (w : Write) (count more : List ℕ) → IsTree s.tree
    → LeavesTold b x w count more (one_or_delay refused s x now (Op.Write w))
write_leaves b refused s x now w count more tree =
    by_delay (LeavesTold b x w count more) (has_bytes w.bytes && refused) s x Num.Write (of_write.write s x now w)
    (λ told. absurd (short Num.Write (lacks s Num.Write) count more told.long told.answers))
    (rw (write_is s x now w) (by_found (LeavesTold b x w count more) s x Num.Write (checked (writable s x w.stateid (current s x)) (of_write.last_checks s w)) (parts.was_written s x now w)
    (λ status told. absurd (short Num.Write status count more told.long told.answers))
    (λ d granted. (let p = checked_ok (writable s x w.stateid (current s x)) (of_write.last_checks s w) d granted in
    write_told b s x now w d count more tree p.0 p.1))))

pub writes_leave_bytes : (b : Byte) (refused : Bool) (s : State) (x : Context) (now : Time) (i : Item) → IsTree s.tree
    → (let o = comes_to refused s x now i in Writes b x i (spell_result o.result) → Lasts b o.state.tree)
writes_leave_bytes b refused s x now i tree writes =
    let over = writes.over in
    let same = over.is in
    subst (λ j. Lasts b (comes_to refused s x now j).state.tree) (sym same)
    (write_leaves b refused s x now over.asked over.count over.more tree (record {
      at = over.at;
      answers = ap (λ j. spell_result (comes_to refused s x now j).result) (sym same) ∙ over.answers;
      long = over.long;
      from = over.from;
      below = over.below;
      value = writes.value;
    }))

-- READ

read_spelled : (r : ReadOk) → spell_result (Res.Read r) ≡ done_head Num.Read ++ (flag r.eof ++ opaque r.bytes)
unfolding item.read_ok
read_spelled r = refl

length_flag : (b : Bool) → length (flag b) ≡ 4
length_flag true = length_number 1
length_flag false = length_number 0

-- what stands behind a number that counts it
counted : (bytes : List ℕ) → length bytes < 2 ^ 32 → bytes_in (opaque bytes) ≡ bytes
counted bytes small =
    let first : take 4 (opaque bytes) ≡ number (length bytes) = take_at (number (length bytes)) (fixed bytes) 4 (length_number (length bytes)) in
    let rest : drop 4 (opaque bytes) ≡ fixed bytes = drop_at (number (length bytes)) (fixed bytes) 4 (length_number (length bytes)) in
    ap (λ n. take n (drop 4 (opaque bytes))) (ap (from_be_bytes w32) first ∙ number_back (length bytes) small)
    ∙ (ap (take (length bytes)) rest ∙ take_at bytes _ (length bytes) refl)

given_most : (count : ℕ) → given count ≤ 65536
given_most count = elim (cases_Bool (nat_lt 65536 count)) [ inl most ↦ rw most (omega arith) | inr few ↦ rw few (ltb-false _ _ few) ]

-- what is told of a READ that answered so
record TellsRead (b : Byte) (x : Context) (r : Read) (eof text result : List ℕ) : Type 0 where
  pub at : x.current ≡ Some b.file
  pub long : length eof ≡ 4
  pub answers : result ≡ done_head Num.Read ++ (eof ++ text)
  pub from : r.offset ≤ b.place
  pub below : (b.place < r.offset + given r.count) ⊎ (b.place < r.offset + length (bytes_in text))

abbrev Given : Byte → Read → List ℕ → Type 0
Given b r bytes = (b.place < r.offset + length bytes) × (get_or bytes (b.place - r.offset) 0 ≡ b.value)

abbrev GivesTold : Byte → Context → Read → List ℕ → List ℕ → Outcome → Type 0
GivesTold b x r eof text o = TellsRead b x r eof text (spell_result o.result) → Given b r (bytes_in text)

-- a byte of a part
part_gives : (b : Byte) (r : Read) (count : ℕ) (all : List ℕ) → StandsIn b all → r.offset ≤ b.place → b.place < r.offset + count
    → Given b r (take count (drop r.offset all))
part_gives b r count all stands from below =
    let taken = length-take count (drop r.offset all) in
    let left = length-drop r.offset all in
    let within = stands.0 in
    let here : r.offset + (b.place - r.offset) ≡ b.place = omega arith in (
      grind arith,
      get_or-take count (drop r.offset all) (b.place - r.offset) 0 (omega arith)
          ∙ (get_or-drop r.offset all (b.place - r.offset) 0 ∙ (ap (λ n. get_or all n 0) here ∙ stands.1)),
    )

readable_at : (s : State) (x : Context) (r : Read) (d : Node) → readable s x r.stateid (current s x) ≡ Ok d → current s x ≡ Ok d
unfolding readable
readable_at s x r d e =
    (checked_ok (current s x) file_checks d (if_passed_ok (checked (current s x) file_checks) (may_use s x reading r.stateid) d e).0).0

in_given : (place offset count : ℕ) (bytes told : List ℕ) → told ≡ bytes → length bytes ≤ count
    → (place < offset + count) ⊎ (place < offset + length told) → place < offset + count
in_given place offset count bytes told same few (inl within) = within
in_given place offset count bytes told same few (inr within) =
    (let less : place < offset + length bytes = subst (λ (t : List ℕ). place < offset + length t) same within in omega arith)

read_told : (b : Byte) (s : State) (x : Context) (r : Read) (d : Node) (eof text : List ℕ) → Lasts b s.tree → current s x ≡ Ok d
    → TellsRead b x r eof text (spell_result (Res.Read (of_read.was_read s r d))) → Given b r (bytes_in text)
read_told b s x r d eof text lasts e told =
    let bytes = bytes_of s r d in
    let k = of_read.was_read s r d in
    let same : d.number ≡ b.file = some_same x.current d.number b.file (current_number s x d e) told.at in
    let parts = behind_head Num.Read (flag k.eof) (opaque bytes) eof text (length_flag k.eof) told.long (sym (read_spelled k) ∙ told.answers) in
    let few : length bytes ≤ given r.count = few_given s r d in
    let most = given_most r.count in
    let told_bytes : bytes_in text ≡ bytes = ap bytes_in (sym parts.1) ∙ counted bytes (omega arith) in
    let stands : StandsIn b (data_at s.tree d.number) = subst (λ n. StandsIn b (data_at s.tree n)) (sym same)
    (lasts.stands (subst (λ n. is_there s.tree n ≡ true) same (current_is s x d e).there)) in
    subst (Given b r) (sym told_bytes)
    (part_gives b r (given r.count) (data_at s.tree d.number) stands told.from (in_given b.place r.offset (given r.count) bytes (bytes_in text) told_bytes few told.below))

read_gives : (b : Byte) (refused : Bool) (s : State) (x : Context) (now : Time) (r : Read) (eof text : List ℕ) → Lasts b s.tree
    → GivesTold b x r eof text (one_or_delay refused s x now (Op.Read r))
read_gives b refused s x now r eof text lasts =
    rw (read_is s x r)
    (by_found (GivesTold b x r eof text) s x Num.Read (readable s x r.stateid (current s x)) _
    (λ status told. absurd (short Num.Read status eof text told.long told.answers))
    (λ d granted told. read_told b s x r d eof text lasts (readable_at s x r d granted) told))

pub reads_give_bytes : (b : Byte) (refused : Bool) (s : State) (x : Context) (now : Time) (i : Item) → Lasts b s.tree
    → (let o = comes_to refused s x now i in (r : Reads b.file b.place x i (spell_result o.result)) → GivesIt b x i (spell_result o.result) r)
reads_give_bytes b refused s x now i lasts r =
    let same = r.is in
    read_gives b refused s x now r.asked r.eof r.text lasts (record {
      at = r.at;
      long = r.long;
      answers = ap (λ j. spell_result (comes_to refused s x now j).result) (sym same) ∙ r.answers;
      from = r.from;
      below = r.below;
    })
