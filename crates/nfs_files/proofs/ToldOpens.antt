-- What an operation leaves of an open that was told, and what an OPEN that answers its stateid did.
use Rattle.std.proofs.Common.{◌≡◌, ◌≢◌, ℕ, suc, ◌+◌, ◌≤◌, Bool, true, false, cond, not, List, [], ◌∷◌, ◌++◌, length, take, drop, map, Option, Some, None, refl, sym, ◌∙◌, ap, subst, arith, inl, inr}
use Rattle.std.proofs.{lemmas.Bool.{cases_Bool, cases_eq, eq-eqb, ne_eqb, eqb-true, eqb-false, and_parts, le-leb, true≢false}, lemmas.Slice.Eq.bytes_eq-Decides}
use Rattle.std.proofs.lemmas.Nat.{from_be_bytes-to_be_bytes_8}
use Rattle.std.specs.{Prelude.{◌==◌, ◌&&◌, ◌||◌, nat_le, option_map, is_none, bytes_eq, Result, Ok, Err, if◌then◌else◌}, List.list_any}
use Rattle.std.specs.Int.{w64, from_be_bytes}
use Rattle.nfs_xdr.specs.{Spelling.{number, hyper}, Tables.In, declared.time.Time.Time, declared.status.Status.Status}
use Rattle.nfs_xdr.specs.declared.status.Status.TheVariants.{Inval, Delay}
use Rattle.nfs_xdr.proofs.{Checks.all_passed, Lists.{find_in, none_any, map_in, push_in, last_in, stays_in, find_push_none}, Tables.in_bounds}
use Rattle.nfs_compound.specs.{declared.open_args.Open.Open, declared.open_args.OpenClaim.OpenClaim, declared.open_args.OpenClaim.TheVariants.{Null, Fh}}
use Rattle.nfs_compound.specs.{Stateid.stateid, declared.op_num.OpNum.OpNum, OpNum.op_number, declared.open_args.OpenDowngrade.OpenDowngrade, declared.op.Op.Op}
use Rattle.nfs_compound.specs.{declared.op.Item.Item, declared.op.Item.TheVariants.Operation}
use Rattle.nfs_compound.specs.declared.op_num.OpNum.TheVariants as Num
use Rattle.nfs_results.specs.{declared.res.ChangeInfo.ChangeInfo, Items.open_ok, declared.res.Res.Res, Results.{spell_result, done_head, status_of_result}}
use Rattle.nfs_results.proofs.Lengths.{length_spelled}
use Rattle.nfs_tree.specs.{declared.object.Object.Object, declared.row.Row.Row, declared.sets.Sets.Sets, Create.{New, with_new}}
use Rattle.nfs_tree.specs.Files.{Files, object_at, is_entry, entry, object_named}
use Rattle.nfs_tree.proofs.RowsKept.{entry_self}
use Rattle.nfs_opens.specs.{declared.share.Share.Share, declared.stateid.StateId.StateId, declared.records.OpenState.OpenState, Share.{meets, joined}}
use Rattle.nfs_opens.specs.{StateId.last_number, Table.{Table, Asked, is_own, is_owners, clashes_with, with_open}, Calls.{open_fault, open_checks}}
use Rattle.nfs_opens.specs.TableInvariants.{IsTable}
use Rattle.nfs_opens.specs.Closing as closing
use Rattle.nfs_opens.specs.Opening as opening
use Rattle.nfs_names.specs.{declared.context.Context.Context, declared.node.Node.Node, declared.making.Making.Making, State.State}
use Rattle.nfs_names.specs.{Checks.{node_as, node_at, current}, Create.attributes_in, Outcome.{Outcome, refuses, checked, mapped, or_lack, is_ok}}
use Rattle.nfs_names.proofs.Found.{came, checked_ok, ok_is}
use Rattle.nfs_files.specs.{declared.target.Target.Target, declared.opening.Found.Found, declared.opening.Found.TheVariants.{There, Absent}, StateIds.wire_id}
use Rattle.nfs_files.specs.{Open.{access_of, deny_of}, OpenDowngrade.{bits, open_downgrade}, Parts.narrowed}
use Rattle.nfs_files.specs.OpenTold.{names_open, OpenTold, Bits, bits_with, bits_had, bits_behind, IsOpenWith, named_in, claimed, forbids}
use Rattle.nfs_files.specs.OpenLaws.{IsToldOpen, ToldOpensStand, ForbiddenOpensAreRefused}
use Rattle.nfs_files.proofs.{Outcomes.{one_or_delay, comes_to}, Inside.Closes, OpensMoved.{answered, by_downgrade}, Effects.{Effect, Caused, table_behind}}
use Rattle.nfs_files.proofs.{Effected.caused_opens, Opened.shared_free, Steady.Few}
use Rattle.nfs_files.specs.OpenParts as open_parts
use Rattle.nfs_files.specs.Open as of_open
use Rattle.nfs_opens.proofs.CallLaws.{IsNarrowed}
use Rattle.nfs_files.proofs.Effects as effects
use Rattle.nfs_files.proofs.InSteps as in_steps

-- What moves no bits.

abbrev moves_bits : Item → Bool
moves_bits (Operation (Op.Open a)) = true
moves_bits (Operation (Op.OpenDowngrade a)) = true
moves_bits i = false

pub same_opens : (k : OpenTold) (b : Bits) (t u : Table) → u.opens ≡ t.opens → IsOpenWith k b t → IsOpenWith k b u
same_opens k b t u same is = record {
  state = is.state;
  there = subst (In is.state) (sym same) is.there;
  number = is.number;
  client = is.client;
  owner = is.owner;
  file = is.file;
  access = is.access;
  deny = is.deny;
}

-- The stateid in a result.

pub short_names_none : (op : OpNum) (operation : ℕ) (status : Status) (n : ℕ) → names_open op (spell_result (Res.Refused operation status)) n ≡ false
short_names_none op operation status n = rw short refl
  where
    short : nat_le 24 (length (spell_result (Res.Refused operation status))) ≡ false
    short = (let long : length (spell_result (Res.Refused operation status)) ≡ 8 = length_spelled (Res.Refused operation status) in rw long refl)

abbrev text_of : StateId → List ℕ → List ℕ
text_of id rest = number id.seqid ++ (number id.instance ++ (hyper id.number ++ rest))

open_head : (id : StateId) (rest : List ℕ) → bytes_eq (take 8 (done_head Num.Open ++ text_of id rest)) (done_head Num.Open) ≡ true
unfolding number hyper
open_head id rest = refl

downgrade_head : (id : StateId) (rest : List ℕ) → bytes_eq (take 8 (done_head Num.OpenDowngrade ++ text_of id rest)) (done_head Num.OpenDowngrade) ≡ true
unfolding number hyper
downgrade_head id rest = refl

number_behind : (op : OpNum) (id : StateId) (rest : List ℕ) → take 8 (drop 16 (done_head op ++ text_of id rest)) ≡ hyper id.number
unfolding number hyper
number_behind op id rest = refl

long_enough : (op : OpNum) (id : StateId) (rest : List ℕ) → 24 ≤ length (done_head op ++ text_of id rest)
unfolding number hyper
long_enough op id rest = omega arith

pub hyper_read : (n : ℕ) → n ≤ last_number → from_be_bytes w64 (hyper n) ≡ n
unfolding hyper
hyper_read n small = from_be_bytes-to_be_bytes_8 n (omega arith)

names_text : (op : OpNum) (id : StateId) (rest : List ℕ) (n : ℕ) → bytes_eq (take 8 (done_head op ++ text_of id rest)) (done_head op) ≡ true → id.number ≤ last_number
    → names_open op (done_head op ++ text_of id rest) n ≡ (id.number == n)
names_text op id rest n head small =
    let long : nat_le 24 (length (done_head op ++ text_of id rest)) ≡ true = le-leb _ _ (long_enough op id rest) in
    let read : from_be_bytes w64 (take 8 (drop 16 (done_head op ++ text_of id rest))) ≡ id.number =
    ap (from_be_bytes w64) (number_behind op id rest) ∙ hyper_read id.number small in
    rw (long, head) (ap (λ (m : ℕ). m == n) read)

open_spelled : (id : StateId) (cinfo : ChangeInfo) (rflags : ℕ) (attrset : List ℕ)
    → (rest : List ℕ) × (spell_result (Res.Open (record { stateid = wire_id id; cinfo = cinfo; rflags = rflags; attrset = attrset })) ≡ done_head Num.Open ++ text_of id rest)
unfolding number hyper stateid open_ok
open_spelled id cinfo rflags attrset = (_, refl)

downgrade_spelled : (id : StateId) → spell_result (Res.OpenDowngrade (wire_id id)) ≡ done_head Num.OpenDowngrade ++ text_of id []
unfolding number hyper stateid
downgrade_spelled id = refl

names_of_open : (id : StateId) (cinfo : ChangeInfo) (rflags : ℕ) (attrset : List ℕ) (n : ℕ) → id.number ≤ last_number
    → names_open Num.Open (spell_result (Res.Open (record { stateid = wire_id id; cinfo = cinfo; rflags = rflags; attrset = attrset }))) n ≡ (id.number == n)
names_of_open id cinfo rflags attrset n small =
    let (rest, is) = open_spelled id cinfo rflags attrset in
    ap (λ (text : List ℕ). names_open Num.Open text n) is ∙ names_text Num.Open id rest n (open_head id rest) small

names_of_downgrade : (id : StateId) (n : ℕ) → id.number ≤ last_number
    → names_open Num.OpenDowngrade (spell_result (Res.OpenDowngrade (wire_id id))) n ≡ (id.number == n)
names_of_downgrade id n small =
    ap (λ (text : List ℕ). names_open Num.OpenDowngrade text n) (downgrade_spelled id)
    ∙ names_text Num.OpenDowngrade id [] n (downgrade_head id []) small

-- The changes of a table.

closed_left : (k : OpenTold) (b : Bits) (t : Table) (n : ℕ) → n ≢ k.number → IsOpenWith k b t → IsOpenWith k b (closing.without_open t n)
closed_left k b t n other is = record {
  state = is.state;
  there = stays_in (λ (o : OpenState). not (o.number == n)) t.opens is.state is.there (ap not (ne_eqb is.state.number n (λ same. other (sym same ∙ is.number))));
  number = is.number;
  client = is.client;
  owner = is.owner;
  file = is.file;
  access = is.access;
  deny = is.deny;
}

-- a change of an open that is no other open
record IsMild (f : OpenState → OpenState) : Type 0 where
  pub number : (o : OpenState) → (f o).number ≡ o.number
  pub client : (o : OpenState) → (f o).client ≡ o.client
  pub owner : (o : OpenState) → (f o).owner ≡ o.owner
  pub file : (o : OpenState) → (f o).file ≡ o.file

changed_left : (k : OpenTold) (b c : Bits) (t : Table) (n : ℕ) (f : OpenState → OpenState) (its : Bool) → (n == k.number) ≡ its → IsMild f
    → ((o : OpenState) → o.access ≡ b.access → o.deny ≡ b.deny → ((f o).access ≡ c.access) × ((f o).deny ≡ c.deny))
    → IsOpenWith k b t → IsOpenWith k (cond its c b) (with_open t n f)
changed_left k b c t n f true same mild moves is =
    let named : n ≡ k.number = eqb-true _ _ same in
    let change : OpenState → OpenState = λ o. if o.number == n then f o else o in
    let here : change is.state ≡ f is.state = rw (eq-eqb is.state.number n (is.number ∙ sym named)) refl in
    let bits = moves is.state is.access is.deny in
    record {
      state = f is.state;
      there = subst (λ (o : OpenState). In o (map change t.opens)) here (map_in change t.opens is.state is.there);
      number = mild.number is.state ∙ is.number;
      client = mild.client is.state ∙ is.client;
      owner = mild.owner is.state ∙ is.owner;
      file = mild.file is.state ∙ is.file;
      access = bits.0;
      deny = bits.1;
    }
changed_left k b c t n f false other mild moves is =
    let change : OpenState → OpenState = λ o. if o.number == n then f o else o in
    let apart : n ≢ k.number = eqb-false _ _ other in
    let here : change is.state ≡ is.state = rw (ne_eqb is.state.number n (λ same. apart (sym same ∙ is.number))) refl in
    record {
      state = is.state;
      there = subst (λ (o : OpenState). In o (map change t.opens)) here (map_in change t.opens is.state is.there);
      number = is.number;
      client = is.client;
      owner = is.owner;
      file = is.file;
      access = is.access;
      deny = is.deny;
    }

pushed_left : (k : OpenTold) (b : Bits) (t : Table) (new : OpenState) (last : ℕ) → IsOpenWith k b t → IsOpenWith k b (record t { opens = t.opens ++ new ∷ []; last = last })
pushed_left k b t new last is = record {
  state = is.state;
  there = push_in t.opens new is.state is.there;
  number = is.number;
  client = is.client;
  owner = is.owner;
  file = is.file;
  access = is.access;
  deny = is.deny;
}

-- What moves no bits leaves it, unless it closed it.

effect_left : (k : OpenTold) (b : Bits) (s : State) (x : Context) (op : Op) (r : Res) (t : State) (e : Effect) → moves_bits (Operation op) ≡ false
    → ((n : ℕ) → Closes s x op n → n ≢ k.number) → Caused s x op r t e → IsOpenWith k b t.opens → IsOpenWith k b (table_behind t.opens e)
effect_left k b s x op r t (effects.Opens a) other spares caused is =
    let (f, opens) = caused.cause in absurd (true≢false (sym (ap (λ op. moves_bits (Operation op)) opens.is) ∙ other))
effect_left k b s x op r t (effects.Narrows n access deny) other spares caused is =
    absurd (true≢false (sym (ap (λ op. moves_bits (Operation op)) caused.cause.1) ∙ other))
effect_left k b s x op r t (effects.Closes n file) other spares caused is = closed_left k b t.opens n (spares n caused.cause) is
effect_left k b s x op r t e other spares caused is = same_opens k b t.opens (table_behind t.opens e) refl is

abbrev pub ClosesNot : OpenTold → State → Context → Item → Outcome → Type 0
ClosesNot k s x i o = is_ok (status_of_result o.result) ≡ true → (op : Op) → i ≡ Operation op → (n : ℕ) → Closes s x op n → n ≢ k.number

unmoved_left : (k : OpenTold) (b : Bits) (refused : Bool) (s : State) (x : Context) (now : Time) (i : Item) → moves_bits i ≡ false
    → ClosesNot k s x i (comes_to refused s x now i) → IsOpenWith k b s.opens → IsOpenWith k b (comes_to refused s x now i).state.opens
unmoved_left k b refused s x now i stays spares is = caused_opens (IsOpenWith k b) refused s x now i (λ op same t e caused is.
    effect_left k b s x op (comes_to refused s x now i).result t e (sym (ap moves_bits same) ∙ stays) (spares caused.ok op same) caused is) is

-- OPEN_DOWNGRADE

abbrev pub LeftBy : OpenTold → Bits → Item → Outcome → Type 0
LeftBy k b i o = IsOpenWith k (bits_behind k.number i (spell_result o.result) b) o.state.opens

downgrade_refused : (k : OpenTold) (b : Bits) (s : State) (x : Context) (a : OpenDowngrade) → IsOpenWith k b s.opens
    → (status : Status) → LeftBy k b (Operation (Op.OpenDowngrade a)) (refuses s x Num.OpenDowngrade status)
downgrade_refused k b s x a is status =
    subst (λ v. IsOpenWith k (cond v (record { access = bits a.share_access; deny = bits a.share_deny }) b) s.opens)
    (sym (short_names_none Num.OpenDowngrade (op_number Num.OpenDowngrade) status k.number)) is

narrow_mild : (access deny : Share) → IsMild (opening.narrows access deny)
narrow_mild access deny = record { number = λ o. refl; client = λ o. refl; owner = λ o. refl; file = λ o. refl }

narrowed_left : (k : OpenTold) (b : Bits) (s : State) (x : Context) (a : OpenDowngrade) (t : Target) (did : StateId × Table) → IsTable s.opens → Few s.opens
    → IsOpenWith k b s.opens → IsNarrowed s.opens t.id x.client t.file (bits a.share_access) (bits a.share_deny) did
    → LeftBy k b (Operation (Op.OpenDowngrade a)) (narrowed s x did.0 (with_open s.opens t.id.number (opening.narrows (bits a.share_access) (bits a.share_deny))))
narrowed_left k b s x a t did table few is its =
    let n = t.id.number in
    let access = bits a.share_access in
    let deny = bits a.share_deny in
    let there = find_in (λ (o : OpenState). o.number == n) s.opens.opens its.state its.found in
    let below = (in_bounds (λ (o : OpenState). o.number) 1 (suc s.opens.last) s.opens.opens its.state table.opens there.0).1 in
    let named = eqb-true _ _ there.1 in
    let number : did.0.number ≡ n = ap (λ (i : StateId). i.number) its.answer in
    let small : did.0.number ≤ last_number = omega arith in
    subst (λ v. IsOpenWith k (cond v (record { access = access; deny = deny }) b) (with_open s.opens n (opening.narrows access deny)))
    (sym (names_of_downgrade did.0 k.number small ∙ ap (λ (m : ℕ). m == k.number) number))
    (changed_left k b (record { access = access; deny = deny }) s.opens n (opening.narrows access deny)
    (n == k.number) refl (narrow_mild access deny) (λ o access deny. (refl, refl)) is)

downgrade_left : (k : OpenTold) (b : Bits) (s : State) (x : Context) (a : OpenDowngrade) → IsTable s.opens → Few s.opens → IsOpenWith k b s.opens
    → LeftBy k b (Operation (Op.OpenDowngrade a)) (open_downgrade s x a)
downgrade_left k b s x a table few is = by_downgrade (LeftBy k b (Operation (Op.OpenDowngrade a))) s x a (downgrade_refused k b s x a is)
    (λ t did its. narrowed_left k b s x a t did table few is its)

-- OPEN

open_refused : (k : OpenTold) (b : Bits) (s : State) (x : Context) (a : Open) → IsOpenWith k b s.opens
    → (status : Status) → LeftBy k b (Operation (Op.Open a)) (refuses s x Num.Open status)
open_refused k b s x a is status =
    subst (λ v. IsOpenWith k (cond v (bits_with b a) b) s.opens) (sym (short_names_none Num.Open (op_number Num.Open) status k.number)) is

joins_mild : (a : Asked) → IsMild (opening.joins a)
joins_mild a = record { number = λ o. refl; client = λ o. refl; owner = λ o. refl; file = λ o. refl }

-- a number is left for a new open, and no open of another owner clashes
pub record IsFree (t : Table) (a : Asked) : Type 0 where
  pub none : list_any (clashes_with a) t.opens ≡ false
  pub left : (opening.own_open t a ≡ None) → (t.last == last_number) ≡ false

free_of : (t : Table) (a : Asked) → open_fault t a ≡ None → IsFree t a
free_of t a e =
    let passed = all_passed (open_checks t a) e in
    record { none = passed.0; left = λ own. ap (λ (o : Option OpenState). is_none o && (t.last == last_number)) (sym own) ∙ passed.1.0 }

small_id : (t : Table) (a : Asked) (o : Option OpenState) → IsTable t → Few t → opening.own_open t a ≡ o → IsFree t a
    → (opening.opens_by t a o).id.number ≤ last_number
small_id t a (Some o) table few own free =
    let there = find_in (is_own a) t.opens o own in
    let bounds = in_bounds (λ (o : OpenState). o.number) 1 (suc t.last) t.opens o table.opens there.0 in
    let below = bounds.1 in omega arith
small_id t a None table few own free =
    let other : t.last ≢ last_number = eqb-false _ _ (free.left own) in
    elim (cases_eq t.last last_number) [ inl same ↦ absurd (other same) | inr apart ↦ omega arith ]

opens_left : (k : OpenTold) (b : Bits) (t : Table) (a : Asked) (o : Option OpenState) → IsTable t → opening.own_open t a ≡ o → IsOpenWith k b t
    → IsOpenWith k (cond ((opening.opens_by t a o).id.number == k.number) (record { access = joined b.access a.access; deny = joined b.deny a.deny }) b)
    (opening.opens_by t a o).after
opens_left k b t a (Some o) table own is =
    changed_left k b (record { access = joined b.access a.access; deny = joined b.deny a.deny }) t o.number (opening.joins a) (o.number == k.number) refl (joins_mild a)
    (λ o access deny. (ap (λ (s : Share). joined s a.access) access, ap (λ (s : Share). joined s a.deny) deny)) is
opens_left k b t a None table own is =
    let bounds = in_bounds (λ (o : OpenState). o.number) 1 (suc t.last) t.opens is.state table.opens is.there in
    let below = bounds.1 in let named = is.number in
    let other : t.last + 1 ≢ k.number = λ same. absurd (omega arith) in
    subst (λ v. IsOpenWith k (cond v (record { access = joined b.access a.access; deny = joined b.deny a.deny }) b)
    (record t { opens = t.opens ++ opening.new_open t a ∷ []; last = t.last + 1 })) (sym (ne_eqb (t.last + 1) k.number other))
    (pushed_left k b t (opening.new_open t a) (t.last + 1) is)

abbrev pub asking : State → Context → Open → Found → Asked
asking s x a f = of_open.asking x a (of_open.file_of s.tree f)

opened_left : (k : OpenTold) (b : Bits) (s : State) (x : Context) (now : Time) (a : Open) (f : Found) → IsTable s.opens → Few s.opens
    → IsFree s.opens (asking s x a f) → IsOpenWith k b s.opens → LeftBy k b (Operation (Op.Open a)) (of_open.opened s x now a f)
opened_left k b s x now a f table few free is =
    let asked = asking s x a f in
    let did = opening.opens s.opens asked in
    subst (λ v. IsOpenWith k (cond v (bits_with b a) b) did.after)
    (sym (names_of_open did.id (of_open.info_of s.tree f) (of_open.result_flags s.tree.profile) (of_open.set_of a f) k.number (small_id s.opens asked (opening.own_open s.opens asked) table few refl free)))
    (opens_left k b s.opens asked (opening.own_open s.opens asked) table refl is)

open_left : (k : OpenTold) (b : Bits) (s : State) (x : Context) (now : Time) (a : Open) → IsTable s.opens → Few s.opens → IsOpenWith k b s.opens
    → LeftBy k b (Operation (Op.Open a)) (of_open.open_file s x now a)
open_left k b s x now a table few is =
    rw (in_steps.open_is s x now a)
    (answered (LeftBy k b (Operation (Op.Open a))) s x Num.Open (checked (open_parts.asked_for s x a) (of_open.last_checks s x a)) (of_open.opened s x now a)
    (open_refused k b s x a is) (λ f granted.
    (let p = checked_ok (open_parts.asked_for s x a) (of_open.last_checks s x a) f granted in
    opened_left k b s x now a f table few (free_of s.opens (asking s x a f) (shared_free s x a f p.1)) is)))

delayed_left : (k : OpenTold) (b : Bits) (v : Bool) (s : State) (x : Context) (a : Open) (o : Outcome) → IsOpenWith k b s.opens → LeftBy k b (Operation (Op.Open a)) o
    → LeftBy k b (Operation (Op.Open a)) (or_lack v s x Num.Open o)
delayed_left k b v s x a o is left = elim (cases_Bool (v && is_ok (status_of_result o.result))) [
  | inl delayed ↦ rw delayed (open_refused k b s x a is Delay)
  | inr other ↦ rw other left
]

-- By the operation: an open stands behind it, with the bits that it has then, unless it closed it.
pub told_open_left : (k : OpenTold) (b : Bits) (refused : Bool) (s : State) (x : Context) (now : Time) (i : Item) → IsTable s.opens → Few s.opens
    → ClosesNot k s x i (comes_to refused s x now i) → IsOpenWith k b s.opens → LeftBy k b i (comes_to refused s x now i)
told_open_left k b refused s x now (Operation (Op.OpenDowngrade a)) table few spares is = downgrade_left k b s x a table few is
told_open_left k b refused s x now (Operation (Op.Open a)) table few spares is =
    delayed_left k b refused s x a (of_open.open_file s x now a) is (open_left k b s x now a table few is)
told_open_left k b refused s x now i table few spares is = unmoved_left k b refused s x now i refl spares is

-- What an OPEN that answers a stateid did.

pub record IsOpened (s : State) (x : Context) (now : Time) (a : Open) (n : ℕ) (o : Outcome) : Type 0 where
  pub found : Found
  pub judged : open_parts.asked_for s x a ≡ Ok found
  pub free : IsFree s.opens (asking s x a found)
  pub number : (opening.opens s.opens (asking s x a found)).id.number ≡ n
  pub state : o.state ≡ (of_open.opened s x now a found).state

never_named : (op : OpNum) (operation : ℕ) (status : Status) (n : ℕ) → names_open op (spell_result (Res.Refused operation status)) n ≡ true → ⊥
never_named op operation status n e = true≢false (sym e ∙ short_names_none op operation status n)

abbrev DidIf : State → Context → Time → Open → ℕ → Outcome → Type 0
DidIf s x now a n o = names_open Num.Open (spell_result o.result) n ≡ true → IsOpened s x now a n o

pub did_open : (refused : Bool) (s : State) (x : Context) (now : Time) (a : Open) (n : ℕ) → IsTable s.opens → Few s.opens
    → names_open Num.Open (spell_result (one_or_delay refused s x now (Op.Open a)).result) n ≡ true → IsOpened s x now a n (one_or_delay refused s x now (Op.Open a))
did_open refused s x now a n table few = by_delayed (of_open.open_file s x now a) (rw (in_steps.open_is s x now a) (answered (DidIf s x now a n) s x Num.Open
    (checked (open_parts.asked_for s x a) (of_open.last_checks s x a)) (of_open.opened s x now a)
    (λ status named. absurd (never_named Num.Open (op_number Num.Open) status n named)) (λ f granted named.
    (let p = checked_ok (open_parts.asked_for s x a) (of_open.last_checks s x a) f granted in
    let asked = asking s x a f in
    let free = free_of s.opens asked (shared_free s x a f p.1) in
    let did = opening.opens s.opens asked in
    let small = small_id s.opens asked (opening.own_open s.opens asked) table few refl free in
    record {
      found = f;
      judged = p.0;
      free = free;
      number = eqb-true _ _ (sym (names_of_open did.id (of_open.info_of s.tree f) (of_open.result_flags s.tree.profile) (of_open.set_of a f) n small) ∙ named);
      state = refl;
    }))))
  where
    by_delayed : (o : Outcome) → DidIf s x now a n o → DidIf s x now a n (or_lack refused s x Num.Open o)
    by_delayed o did = elim (cases_Bool (refused && is_ok (status_of_result o.result))) [
      | inl delayed ↦ rw delayed (λ named. absurd (never_named Num.Open (op_number Num.Open) Delay n named))
      | inr other ↦ rw other did
    ]

-- The file that its claim leads to.

node_of : (n : ℕ) (o : Option Object) (d : Node) → node_as n o ≡ Ok d → Some n ≡ Some d.number
node_of n None d e = absurd cc
node_of n (Some o) d e = let same : record { number = n; object = o } ≡ d = cc in ap (λ (d : Node). Some d.number) same

node_number : (s : State) (o : Option ℕ) (d : Node) → node_at s o ≡ Ok d → o ≡ Some d.number
node_number s None d e = absurd cc
node_number s (Some n) d e = node_of n (object_at s.tree n) d e

current_number : (s : State) (x : Context) (d : Node) → current s x ≡ Ok d → x.current ≡ Some d.number
unfolding current
current_number s x d e = node_number s x.current d e

record IsMapped {A B : Type 0} (f : A → B) (v : Result A Status) (b : B) : Type 0 where
  pub from : A
  pub is : v ≡ Ok from
  pub to : f from ≡ b

mapped_ok : {A B : Type 0} (f : A → B) (v : Result A Status) (b : B) → mapped f v ≡ Ok b → IsMapped f v b
mapped_ok f (Err status) b e = absurd cc
mapped_ok f (Ok a) b e = record { from = a; is = refl; to = cc }

no_row : (o : Option Row) → option_map (λ (r : Row). r.object) o ≡ None → o ≡ None
no_row None e = refl
no_row (Some r) e = absurd cc

made_found : (t : Files) (d : ℕ) (name called : List ℕ) (new : New) (sets : Sets) (now : Time) → called ≡ name → object_named t d name ≡ None
    → object_named (with_new t d called new sets now) d name ≡ Some (t.last_object + 1)
made_found t d name called new sets now same none =
    let to : Row = record { directory = d; name = name; object = t.last_object + 1; cookie = t.last_cookie + 1 } in
    ap (λ (n : List ℕ). object_named (with_new t d n new sets now) d name) same
    ∙ ap (λ (o : Option Row). option_map (λ (r : Row). r.object) o)
    (find_push_none (is_entry d name) t.rows to (no_row (entry t.rows d name) none) (entry_self to))

there_found : (t : Files) (x : Context) (now : Time) (a : Open) (d : ℕ) (name : List ℕ) (place : ℕ) (f : Node) (cut : Bool)
    → object_named (of_open.tree_of t x now a (There place f cut)) d name ≡ object_named t d name
there_found t x now a d name place f true = refl
there_found t x now a d name place f false = refl

abbrev Leads : State → Context → Time → Open → ℕ → List ℕ → Found → Type 0
Leads s x now a d name f = object_named (of_open.tree_of s.tree x now a f) d name ≡ Some (of_open.file_of s.tree f)

name_leads : (s : State) (x : Context) (now : Time) (a : Open) (name : List ℕ) (m : Making) (o : Option ℕ) (f : Found) → of_open.name_of a.claim ≡ name
    → object_named s.tree m.place.number name ≡ o → open_parts.found_by s x a m o ≡ Ok f → Leads s x now a m.place.number name f
name_leads s x now a name m None f called none e =
    let made = mapped_ok Absent (checked (Ok m) (open_parts.absent_checks x a)) f e in
    let one : m ≡ made.from = ok_is refl (checked_ok (Ok m) (open_parts.absent_checks x a) made.from made.is).0 in
    subst (Leads s x now a m.place.number name) (ap Absent one ∙ made.to)
    (made_found s.tree m.place.number name (of_open.name_of a.claim) (of_open.new_of a m.wanted) (of_open.made_sets s.tree x now a m) now called none)
name_leads s x now a name m (Some n) f called at e =
    let is = mapped_ok (λ g. There m.place.number g (of_open.cuts a m.wanted)) (checked (node_at s (Some n)) (of_open.there_checks s.tree x a)) f e in
    let node = (checked_ok (node_at s (Some n)) (of_open.there_checks s.tree x a) is.from is.is).0 in
    subst (Leads s x now a m.place.number name) is.to
    (there_found s.tree x now a m.place.number name m.place.number is.from (of_open.cuts a m.wanted) ∙ (at ∙ node_number s (Some n) is.from node))

claim_leads : (s : State) (x : Context) (now : Time) (a : Open) (claim : OpenClaim) (d : Node) (f : Found) → a.claim ≡ claim → x.current ≡ Some d.number
    → open_parts.by_claim s x a claim d ≡ Ok f → claimed (of_open.tree_of s.tree x now a f) x claim ≡ Some (of_open.file_of s.tree f)
claim_leads s x now a (Null name) d f same at e =
    let place = came (checked (Ok d) (open_parts.place_checks x name)) _ f e in
    let wanted = came (attributes_in (of_open.makes a.openhow).attributes) _ f place.then in
    let one : d ≡ place.found = ok_is refl (checked_ok (Ok d) (open_parts.place_checks x name) place.found place.is).0 in
    let leads = name_leads s x now a name (record { place = place.found; wanted = wanted.found }) (object_named s.tree place.found.number name) f
    (ap of_open.name_of same) refl wanted.then in
    ap (named_in (of_open.tree_of s.tree x now a f) name) (at ∙ ap (λ (d : Node). Some d.number) one) ∙ leads
claim_leads s x now a Fh d f same at e = by_creates (of_open.makes a.openhow).creates e
  where
    by_creates : (b : Bool) → cond b (Err Inval) (open_parts.by_handle s.tree x a d) ≡ Ok f → x.current ≡ Some (of_open.file_of s.tree f)
    by_creates true e = absurd cc
    by_creates false e =
        (let is = mapped_ok (λ g. There g.number g false) (checked (Ok d) (of_open.there_checks s.tree x a)) f e in
        let one : d ≡ is.from = ok_is refl (checked_ok (Ok d) (of_open.there_checks s.tree x a) is.from is.is).0 in
        at ∙ (ap (λ (d : Node). Some d.number) one ∙ ap (λ (f : Found). Some (of_open.file_of s.tree f)) is.to))
claim_leads s x now a claim d f same at e = absurd cc

pub asked_leads : (s : State) (x : Context) (now : Time) (a : Open) (f : Found) → open_parts.asked_for s x a ≡ Ok f
    → claimed (of_open.tree_of s.tree x now a f) x a.claim ≡ Some (of_open.file_of s.tree f)
unfolding open_parts.asked_for
asked_leads s x now a f e =
    let d = came (checked (current s x) (open_parts.argument_checks a)) _ f e in
    let node = (checked_ok (current s x) (open_parts.argument_checks a) d.found d.is).0 in
    claim_leads s x now a a.claim d.found f refl (current_number s x d.found node) d.then

-- So an OPEN that answers a stateid told an open, which stands behind it ..

opened_stands : (t : Table) (a : Asked) (o : Option OpenState) → opening.own_open t a ≡ o
    → IsOpenWith (record { number = (opening.opens_by t a o).id.number; client = a.client; owner = a.owner; file = a.file })
    (record { access = joined (bits_had o).access a.access; deny = joined (bits_had o).deny a.deny }) (opening.opens_by t a o).after
opened_stands t a (Some o) own =
    let there = find_in (is_own a) t.opens o own in
    let tests = and_parts _ _ there.1 in
    let owns = and_parts _ _ tests.1 in
    let change : OpenState → OpenState = λ p. if p.number == o.number then opening.joins a p else p in
    let here : change o ≡ opening.joins a o = rw (eq-eqb o.number o.number refl) refl in
    record {
      state = opening.joins a o;
      there = subst (λ (p : OpenState). In p (map change t.opens)) here (map_in change t.opens o there.0);
      number = refl;
      client = eqb-true _ _ owns.0;
      owner = (bytes_eq-Decides o.owner a.owner).0 owns.1;
      file = eqb-true _ _ tests.0;
      access = refl;
      deny = refl;
    }
opened_stands t a None own = record {
  state = opening.new_open t a;
  there = last_in t.opens (opening.new_open t a);
  number = refl;
  client = refl;
  owner = refl;
  file = refl;
  access = refl;
  deny = refl;
}

pub told_opens : ToldOpensStand
told_opens refused s x now a n table few named =
    let did = did_open refused s x now a n table few named in
    let f = did.found in
    let asked = asking s x a f in (
      of_open.file_of s.tree f,
      subst (λ (u : State). IsToldOpen s x a n u (of_open.file_of s.tree f)) (sym did.state) (record {
        leads = asked_leads s x now a f did.judged;
        stands = subst (λ m. IsOpenWith (record { number = m; client = x.client; owner = a.owner.owner; file = of_open.file_of s.tree f })
            (bits_with (bits_had (opening.own_open s.opens asked)) a) (opening.opens s.opens asked).after) did.number
            (opened_stands s.opens asked (opening.own_open s.opens asked) refl);
      }),
    )

-- .. and no open that stands forbids it.

clash_is : (k : OpenTold) (b : Bits) (x : Context) (a : Open) (o : OpenState) → o.client ≡ k.client → o.owner ≡ k.owner → o.file ≡ k.file
    → o.access ≡ b.access → o.deny ≡ b.deny → forbids k b x a ≡ true → clashes_with (of_open.asking x a k.file) o ≡ true
clash_is k b x a o client owner file access deny e =
    let same : (o.file == k.file) ≡ true = eq-eqb o.file k.file file in
    let owns : is_owners (of_open.asking x a k.file) o ≡ ((k.client == x.client) && bytes_eq k.owner a.owner.owner) =
    ap (λ c. (c == x.client) && bytes_eq o.owner a.owner.owner) client ∙ ap (λ w. (k.client == x.client) && bytes_eq w a.owner.owner) owner in
    let bits : (meets (access_of a) o.deny || meets (deny_of a) o.access) ≡ (meets (access_of a) b.deny || meets (deny_of a) b.access) =
    ap (λ d. meets (access_of a) d || meets (deny_of a) o.access) deny ∙ ap (λ d. meets (access_of a) b.deny || meets (deny_of a) d) access in
    rw (same, owns, bits) e

pub opens_refused : ForbiddenOpensAreRefused
opens_refused k b refused s x now a n table few is named leads e =
    let did = did_open refused s x now a n table few named in
    let f = did.found in
    let there : Some k.file ≡ Some (of_open.file_of s.tree f) =
    sym leads ∙ (ap (λ (u : State). claimed u.tree x a.claim) did.state ∙ asked_leads s x now a f did.judged) in
    let file : k.file ≡ of_open.file_of s.tree f = cc in
    let none = none_any (clashes_with (asking s x a f)) s.opens.opens is.state did.free.none is.there in
    let clash = clash_is k b x a is.state is.client is.owner is.file is.access is.deny e in
    true≢false (sym (ap (λ n. clashes_with (of_open.asking x a n) is.state) (sym file) ∙ clash) ∙ none)
