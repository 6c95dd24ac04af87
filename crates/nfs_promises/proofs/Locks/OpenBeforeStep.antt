-- An open that stands behind an operation stood before it, with the bits that it had then, and was not closed; or the operation is the OPEN that granted it.
use Rattle.std.proofs.Common.{◌≡◌, ◌⊎◌, ℕ, suc, ◌+◌, ◌≤◌, Bool, true, false, cond, not, List, ◌++◌, length, take, drop, map, Option, Some, None, refl, sym, ◌∙◌, ap, subst, arith, inl, inr}
use Rattle.std.proofs.lemmas.Bool.{cases_eq, eq-eqb, eqb-false, le-leb, true≢false}
use Rattle.std.specs.{Prelude.{◌==◌, ◌&&◌, Ok, nat_le, is_none, bytes_eq, filter, if◌then◌else◌}, Int.{w64, from_be_bytes}}
use Rattle.nfs_xdr.specs.{Spelling.{number, hyper}, Tables.In, declared.time.Time.Time}
use Rattle.nfs_xdr.proofs.{Checks.all_passed, Lists.{in_filter, in_map, in_push}, Tables.in_once}
use Rattle.nfs_compound.specs.{Stateid.stateid, declared.open_args.Open.Open, declared.op.Op.Op, declared.op.Item.Item, declared.op.Item.TheVariants.Operation}
use Rattle.nfs_compound.specs.declared.op_num.OpNum.TheVariants as Num
use Rattle.nfs_results.specs.{declared.res.ChangeInfo.ChangeInfo, declared.res.Res.Res, Items.open_ok, Results.{spell_result, done_head}}
use Rattle.nfs_opens.specs.{declared.records.OpenState.OpenState, declared.stateid.StateId.StateId, StateId.last_number, Table.{Table, Asked}, TableInvariants.IsTable}
use Rattle.nfs_opens.specs.Calls.{open_fault, open_checks}
use Rattle.nfs_opens.specs.Opening as opening
use Rattle.nfs_names.specs.{declared.context.Context.Context, Outcome.{Outcome, checked}, State.{State, time_at}}
use Rattle.nfs_names.proofs.{Found.checked_ok, Ones.by_delay, Untouched.leaves_each}
use Rattle.nfs_files.specs.{Open.{access_of, deny_of}, OpenTold.{names_open, OpenTold, Bits, bits_behind, IsOpenWith, claimed}, StateIds.wire_id}
use Rattle.nfs_files.specs.OpenParts as open_parts
use Rattle.nfs_files.specs.Open as of_open
use Rattle.nfs_files.proofs.{Effected.caused_opens, OpensMoved.answered, Opened.shared_free, Outcomes.{one_or_delay, comes_to}, Steady.Few}
use Rattle.nfs_files.proofs.{Effects.{Effect, Opens, Narrows, Closes, Caused, table_behind}, ToldOpens.{same_opens, asked_leads, hyper_read}}
use Rattle.nfs_files.proofs.InSteps as in_steps
use Rattle.nfs_exec.specs.{Runs.LockHeld.ClosesOf, Runs.Ops.RanOp}
use Rattle.nfs_exec.proofs.{Runs.KeptByRuns.Is, Runs.OneRun.{IsRun, by_item, by_run}}
use Rattle.nfs_promises.proofs.{Runs.OpenHeld.open_stays, Locks.LockNotEnded.closes_leave_no_open}
use Rattle.nfs_promises.specs.Locks.OpenGranted.{GrantsOpen}

-- The number in what OPEN answers.

abbrev text_of : StateId → List ℕ → List ℕ
text_of id rest = number id.seqid ++ (number id.instance ++ (hyper id.number ++ rest))

open_spelled : (id : StateId) (cinfo : ChangeInfo) (rflags : ℕ) (attrset : List ℕ)
    → (rest : List ℕ) × (spell_result (Res.Open (record { stateid = wire_id id; cinfo = cinfo; rflags = rflags; attrset = attrset })) ≡ done_head Num.Open ++ text_of id rest)
unfolding number hyper stateid open_ok
open_spelled id cinfo rflags attrset = (_, refl)

open_head : (id : StateId) (rest : List ℕ) → bytes_eq (take 8 (done_head Num.Open ++ text_of id rest)) (done_head Num.Open) ≡ true
unfolding number hyper
open_head id rest = refl

number_behind : (id : StateId) (rest : List ℕ) → take 8 (drop 16 (done_head Num.Open ++ text_of id rest)) ≡ hyper id.number
unfolding number hyper
number_behind id rest = refl

long_enough : (id : StateId) (rest : List ℕ) → 24 ≤ length (done_head Num.Open ++ text_of id rest)
unfolding number hyper
long_enough id rest = omega arith

open_named : (id : StateId) (cinfo : ChangeInfo) (rflags : ℕ) (attrset : List ℕ) (n : ℕ) → id.number ≤ last_number → id.number ≡ n
    → names_open Num.Open (spell_result (Res.Open (record { stateid = wire_id id; cinfo = cinfo; rflags = rflags; attrset = attrset }))) n ≡ true
open_named id cinfo rflags attrset n small same =
    let (rest, is) = open_spelled id cinfo rflags attrset in
    let long : nat_le 24 (length (done_head Num.Open ++ text_of id rest)) ≡ true = le-leb _ _ (long_enough id rest) in
    let read : from_be_bytes w64 (take 8 (drop 16 (done_head Num.Open ++ text_of id rest))) ≡ id.number =
    ap (from_be_bytes w64) (number_behind id rest) ∙ hyper_read id.number small in
    ap (λ (text : List ℕ). names_open Num.Open text n) is ∙ rw (long, open_head id rest) (ap (λ (m : ℕ). m == n) read ∙ eq-eqb id.number n same)

-- Tables.

-- the open stood, with some bits
abbrev pub Stood : OpenTold → Table → Type 0
Stood k t = (had : Bits) × IsOpenWith k had t

as_state : (k : OpenTold) (b : Bits) (t u : Table) (is : IsOpenWith k b u) (o : OpenState) → In o t.opens → o.number ≡ is.state.number → o.client ≡ is.state.client
    → o.owner ≡ is.state.owner → o.file ≡ is.state.file → Stood k t
as_state k b t u is o there number client owner file = (
  record { access = o.access; deny = o.deny },
  record {
    state = o;
    there = there;
    number = number ∙ is.number;
    client = client ∙ is.client;
    owner = owner ∙ is.owner;
    file = file ∙ is.file;
    access = refl;
    deny = refl;
  },
)

fewer : (k : OpenTold) (b : Bits) (t u : Table) (p : OpenState → Bool) → u.opens ≡ filter p t.opens → IsOpenWith k b u → Stood k t
fewer k b t u p opens is = as_state k b t u is is.state (in_filter p t.opens is.state (subst (In is.state) opens is.there)).0 refl refl refl refl

-- a change of an open that is no other open
record IsMild (f : OpenState → OpenState) : Type 0 where
  pub number : (o : OpenState) → (f o).number ≡ o.number
  pub client : (o : OpenState) → (f o).client ≡ o.client
  pub owner : (o : OpenState) → (f o).owner ≡ o.owner
  pub file : (o : OpenState) → (f o).file ≡ o.file

if_mild : (b : Bool) (f : OpenState → OpenState) → IsMild f → IsMild (λ o. cond b (f o) o)
if_mild true f mild = mild
if_mild false f mild = record { number = λ o. refl; client = λ o. refl; owner = λ o. refl; file = λ o. refl }

changed : (k : OpenTold) (b : Bits) (t u : Table) (n : ℕ) (f : OpenState → OpenState) → IsMild f → u.opens ≡ map (λ o. if o.number == n then f o else o) t.opens
    → IsOpenWith k b u → Stood k t
changed k b t u n f mild opens is =
    let was = in_map (λ (o : OpenState). if o.number == n then f o else o) t.opens is.state (subst (In is.state) opens is.there) in
    let o = was.0 in
    let like = if_mild (o.number == n) f mild in
    as_state k b t u is o was.1
    (sym (ap (λ (o : OpenState). o.number) was.2 ∙ like.number o)) (sym (ap (λ (o : OpenState). o.client) was.2 ∙ like.client o))
    (sym (ap (λ (o : OpenState). o.owner) was.2 ∙ like.owner o)) (sym (ap (λ (o : OpenState). o.file) was.2 ∙ like.file o))

same_table : (k : OpenTold) (b : Bits) (t u : Table) → u.opens ≡ t.opens → IsOpenWith k b u → Stood k t
same_table k b t u opens is = (b, same_opens k b u t (sym opens) is)

-- Operations that are no OPEN.

abbrev is_open : Item → Bool
is_open (Operation (Op.Open a)) = true
is_open i = false

stood_effect : (k : OpenTold) (b : Bits) (s : State) (x : Context) (op : Op) (r : Res) → is_open (Operation op) ≡ false → (t : State) (e : Effect) → Caused s x op r t e
    → IsOpenWith k b (table_behind t.opens e) → Stood k t.opens
stood_effect k b s x op r other t (Opens a) caused is =
    let (f, opens) = caused.cause in absurd (true≢false (sym (ap (λ op. is_open (Operation op)) opens.is) ∙ other))
stood_effect k b s x op r other t (Narrows n access deny) caused is =
    changed k b t.opens (table_behind t.opens (Narrows n access deny)) n (opening.narrows access deny)
    (record { number = λ o. refl; client = λ o. refl; owner = λ o. refl; file = λ o. refl }) refl is
stood_effect k b s x op r other t (Closes n file) caused is =
    fewer k b t.opens (table_behind t.opens (Closes n file)) (λ (o : OpenState). not (o.number == n)) refl is
stood_effect k b s x op r other t e caused is = same_table k b t.opens (table_behind t.opens e) refl is

stood_item : (k : OpenTold) (b : Bits) (s : State) (x : Context) (now : Time) (refused : Bool) (i : Item) → is_open i ≡ false
    → IsOpenWith k b (comes_to refused s x now i).state.opens → Stood k s.opens
stood_item k b s x now refused i other is =
    caused_opens (λ t. (c : Bits) → IsOpenWith k c t → Stood k s.opens) refused s x now i
    (λ op same t e caused before c behind.
    (let stood = stood_effect k c s x op (comes_to refused s x now i).result (ap is_open (sym same) ∙ other) t e caused behind in before stood.0 stood.1))
    (λ c is. (c, is)) b is

stood_run : (k : OpenTold) (b : Bits) (d : RanOp) → IsRun d → is_open d.item ≡ false → IsOpenWith k b d.behind.store.opens → Stood k d.before.store.opens
stood_run k b d r other =
    by_run (λ status text s. IsOpenWith k b s.opens → Stood k d.before.store.opens) d r
    (λ is. (b, is))
    (λ o e is. (b, subst (IsOpenWith k b) (leaves_each r.refused d.before.store d.context (time_at d.before.store r.now) d.item o e).opens is))
    (stood_item k b d.before.store d.context (time_at d.before.store r.now) r.refused d.item other)
    (λ off is. (b, is))

-- OPEN.

-- it answered the open's stateid, and the bits are those that it asks for
record IsNew (k : OpenTold) (b : Bits) (s : State) (x : Context) (a : Open) (text : List ℕ) (left : State) : Type 0 where
  pub names : names_open Num.Open text k.number ≡ true
  pub leads : claimed left.tree x a.claim ≡ Some k.file
  pub client : k.client ≡ x.client
  pub owner : k.owner ≡ a.owner.owner
  pub bits : b ≡ record { access = access_of a; deny = deny_of a }

abbrev NewOr : OpenTold → Bits → State → Context → Open → Outcome → Type 0
NewOr k b s x a o = IsOpenWith k b o.state.opens → IsNew k b s x a (spell_result o.result) o.state ⊎ Stood k s.opens

joins_mild : (a : Asked) → IsMild (opening.joins a)
joins_mild a = record { number = λ o. refl; client = λ o. refl; owner = λ o. refl; file = λ o. refl }

new_small : (t : Table) (a : Asked) → Few t → opening.own_open t a ≡ None → open_fault t a ≡ None → t.last + 1 ≤ last_number
new_small t a few own free =
    let passed = all_passed (open_checks t a) free in
    let left : (t.last == last_number) ≡ false = ap (λ (o : Option OpenState). is_none o && (t.last == last_number)) (sym own) ∙ passed.1.0 in
    elim (cases_eq t.last last_number) [ inl same ↦ absurd (eqb-false _ _ left same) | inr apart ↦ omega arith ]

opened_from : (k : OpenTold) (b : Bits) (s : State) (x : Context) (now : Time) (a : Open) (f : _) → Few s.opens → open_parts.asked_for s x a ≡ Ok f
    → open_fault s.opens (of_open.asking x a (of_open.file_of s.tree f)) ≡ None → (o : Option OpenState)
    → opening.own_open s.opens (of_open.asking x a (of_open.file_of s.tree f)) ≡ o → NewOr k b s x a (of_open.opened s x now a f)
opened_from k b s x now a f few asked free (Some p) own is =
    let its = of_open.asking x a (of_open.file_of s.tree f) in
    let behind = ap (λ o. (opening.opens_by s.opens its o).after) own in
    inr (changed k b s.opens (opening.opens_by s.opens its (Some p)).after p.number (opening.joins its) (joins_mild its) refl (subst (IsOpenWith k b) behind is))
opened_from k b s x now a f few asked free None own is =
    let its = of_open.asking x a (of_open.file_of s.tree f) in
    let behind = ap (λ o. (opening.opens_by s.opens its o).after) own in
    let here : IsOpenWith k b (opening.opens_by s.opens its None).after = subst (IsOpenWith k b) behind is in
    let id = (opening.opens s.opens its).id in
    let number : id.number ≡ s.opens.last + 1 = ap (λ o. (opening.opens_by s.opens its o).id.number) own in
    let new = opening.new_open s.opens its in
    elim (in_push s.opens.opens new here.state here.there) [
      | inr old ↦ inr (as_state k b s.opens (opening.opens_by s.opens its None).after here here.state old refl refl refl refl)
      | inl same ↦ inl (record {
        names = open_named id (of_open.info_of s.tree f) (of_open.result_flags s.tree.profile) (of_open.set_of a f) k.number
            (let small = new_small s.opens its few own free in omega (arith, number, small))
            (number ∙ (sym (ap (λ (o : OpenState). o.number) same) ∙ here.number));
        leads = asked_leads s x now a f asked ∙ ap Some (sym (ap (λ (o : OpenState). o.file) same) ∙ here.file);
        client = sym here.client ∙ ap (λ (o : OpenState). o.client) same;
        owner = sym here.owner ∙ ap (λ (o : OpenState). o.owner) same;
        bits = bits_are b (access_of a) (deny_of a) (sym here.access ∙ ap (λ (o : OpenState). o.access) same) (sym here.deny ∙ ap (λ (o : OpenState). o.deny) same);
      })
    ]
  where
    bits_are : (b : Bits) (access deny : _) → b.access ≡ access → b.deny ≡ deny → b ≡ record { access = access; deny = deny }
    bits_are b access deny one two = ap (λ access. record { access = access; deny = b.deny }) one ∙ ap (λ deny. record { access = access; deny = deny }) two

open_from : (k : OpenTold) (b : Bits) (s : State) (x : Context) (now : Time) (refused : Bool) (a : Open) → Few s.opens
    → NewOr k b s x a (one_or_delay refused s x now (Op.Open a))
open_from k b s x now refused a few =
    by_delay (NewOr k b s x a) refused s x Num.Open (of_open.open_file s x now a) (λ is. inr (b, is))
    (rw (in_steps.open_is s x now a)
    (answered (NewOr k b s x a) s x Num.Open (checked (open_parts.asked_for s x a) (of_open.last_checks s x a)) (of_open.opened s x now a) (λ status is. inr (b, is))
    (λ f granted. (let p = checked_ok (open_parts.asked_for s x a) (of_open.last_checks s x a) f granted in
    opened_from k b s x now a f few p.0 (shared_free s x a f p.1) (opening.own_open s.opens (of_open.asking x a (of_open.file_of s.tree f))) refl))))

open_run : (k : OpenTold) (b : Bits) (d : RanOp) → IsRun d → (a : Open) → d.item ≡ Operation (Op.Open a) → IsOpenWith k b d.behind.store.opens
    → GrantsOpen k b d ⊎ Stood k d.before.store.opens
open_run k b d r a item is =
    let s = d.before.store in
    elim (by_item (λ status text u. IsOpenWith k b u.opens → IsNew k b s d.context a text u ⊎ Stood k s.opens) d r (Operation (Op.Open a)) item (λ is. inr (b, is))
    (open_from k b s d.context (time_at s r.now) r.refused a r.whole.few) is) [
      | inr stood ↦ inr stood
      | inl new ↦ inl (record {
        opens = record { asked = a; is = item; names = new.names; leads = new.leads };
        client = new.client;
        owner = new.owner;
        bits = new.bits;
      })
    ]

stood_or : (k : OpenTold) (b : Bits) (d : RanOp) → IsRun d → (i : Item) → d.item ≡ i → IsOpenWith k b d.behind.store.opens → GrantsOpen k b d ⊎ Stood k d.before.store.opens
stood_or k b d r (Operation (Op.Open a)) item is = open_run k b d r a item is
stood_or k b d r i item is = inr (stood_run k b d r (ap is_open item) is)

-- With which bits it stood.

bits_once : (k : OpenTold) (b c : Bits) (t : Table) → IsTable t → IsOpenWith k b t → IsOpenWith k c t → b ≡ c
bits_once k b c t table one two =
    let same : one.state ≡ two.state = in_once (λ (o : OpenState). o.number) 1 (suc t.last) t.opens one.state two.state table.opens one.there two.there
    (one.number ∙ sym two.number) in
    let access = sym one.access ∙ (ap (λ (o : OpenState). o.access) same ∙ two.access) in
    let deny = sym one.deny ∙ (ap (λ (o : OpenState). o.deny) same ∙ two.deny) in
    ap (λ access. record { access = access; deny = b.deny }) access ∙ ap (λ deny. record { access = c.access; deny = deny }) deny

-- it stood, and the operation left it, with the bits that it has behind it
pub record WasOpen (k : OpenTold) (b : Bits) (d : RanOp) : Type 0 where
  pub had : Bits
  pub stood : IsOpenWith k had d.before.store.opens
  pub unclosed : ClosesOf d k.number → ⊥
  pub bits : bits_behind k.number d.item d.result had ≡ b

pub open_before : (k : OpenTold) (b : Bits) (d : RanOp) → IsRun d → Is d.behind → IsOpenWith k b d.behind.store.opens → GrantsOpen k b d ⊎ WasOpen k b d
open_before k b d r behind is = elim (stood_or k b d r d.item refl is) [
  | inl grants ↦ inl grants
  | inr stood ↦ (let unclosed : ClosesOf d k.number → ⊥ = λ c. closes_leave_no_open d r k.number c is.state is.there is.number in inr (record {
    had = stood.0;
    stood = stood.1;
    unclosed = unclosed;
    bits = bits_once k (bits_behind k.number d.item d.result stood.0) b d.behind.store.opens behind.table (((open_stays k).step stood.0 d r stood.1).1 unclosed) is;
  }))
]
