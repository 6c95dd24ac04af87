-- Memory refused at a place makes no difference, or cuts the compound there.
use Rattle.std.proofs.Common.{◌≡◌, ◌⊎◌, ℕ, zero, suc, ◌+◌, ◌≤◌, Bool, true, false, cond, eqb, ltb, List, [], ◌∷◌, ◌++◌, length, take, Option, Some, None}
use Rattle.std.proofs.{Common.{refl, sym, ◌∙◌, ap, subst₂, arith, inl, inr}, lemmas.Bool.{cases_Bool, eqb-true, eq-eqb, le-ltb, ltb-false}}
use Rattle.std.proofs.lemmas.List.{append_assoc}
use Rattle.std.specs.{Prelude.{◌&&◌, ◌||◌, not, nat_lt, slice_get, Result}, Option.{option_map, option_map_or}}
use Rattle.nfs_xdr.specs.{Caller.Caller, Checks.first_fault, Spelling.{number, opaque}, declared.status.Status.Status}
use Rattle.nfs_xdr.specs.declared.status.Status.TheVariants.{Nfs4Ok, MinorVersMismatch, Delay, NotOnlyOp, OpNotInSession}
use Rattle.nfs_xdr.specs.Numbers.{next_number}
use Rattle.nfs_compound.specs.{declared.channel_attrs.ChannelAttrs.ChannelAttrs, Arguments.arguments, declared.op.Op.Op, declared.op.Item.Item, declared.op.Item.TheVariants.{Operation, Fault}}
use Rattle.nfs_compound.specs.{Request.{Request, item_number}, declared.session_args.CreateSession.CreateSession, declared.op_num.OpNum.OpNum}
use Rattle.nfs_compound.specs.declared.session_args.Sequence.{Sequence}
use Rattle.nfs_results.specs.{Largest.largest, Results.{refusal, spell_result, spell_compound_head, status_of_result}}
use Rattle.nfs_results.specs.declared.res.Res.TheVariants as Res
use Rattle.nfs_clients.specs.CreateSession as clients
use Rattle.nfs_slots.specs.{declared.slot.Verdict.TheVariants.{Fresh, NoSlot}, Slot.{SlotState, judge, judge_slot}}
use Rattle.nfs_slots.proofs.TableLemmas.{fresh_number}
use Rattle.nfs_sessions.specs.{Id.id_of, Sessions.{Session, session_at, create}}
use Rattle.nfs_names.specs.{declared.context.Context.Context, Context.begins, State.{State, time_at}, Outcome.{Outcome as OfStore, is_ok}}
use Rattle.nfs_names.specs.Outcome as of_store
use Rattle.nfs_names.specs.Operation as names
use Rattle.nfs_names.proofs.Faulted.{status_of_refusal, lacks_fail}
use Rattle.nfs_files.specs.Operation as files
use Rattle.nfs_exec.specs.Step.{Machine.{Machine, MachineOutcome, or_with_delay, with_refusal, with_result}, Parts.wish_of}
use Rattle.nfs_exec.specs.Step.{Place.{place_fault, stands_alone, is_sequence}, ExchangeId.exchange_id}
use Rattle.nfs_exec.specs.Step.Sequence.{compared, Sequenced, sequenced, sequence_ok}
use Rattle.nfs_exec.specs.{Step.Behind.{Step, refused_step, step, on_store, otherwise}, Step.Run.{Ran, run, in_room, reserve, follow, only}}
use Rattle.nfs_exec.specs.Step.Compound.{Answered, answers, carried_out, first_item, renewed, begun, runs_behind, keeps, in_session, by_first, bare}
use Rattle.nfs_exec.specs.{Step.Laws.{if_runs, first_runs}, Step.Delayed.{grows, lacks_at, kept_by, with_ok, DelayIsACut}}
use Rattle.nfs_exec.specs.Step.Sequence as sequence
use Rattle.nfs_exec.specs.Step.Parts.{past, by_session, slot_fault, by_number, creates}
use Rattle.nfs_exec.proofs.Step.{InSteps.create_session_is, Terms.{by_fault, or_refuses}}
use Rattle.nfs_exec.proofs.Step.RepliesKept.{runs_means}
use Rattle.nfs_files.proofs.Storing.{or_left}

-- One operation: memory refused makes no difference, or it is refused and nothing changes.

-- it is refused, where it may want memory and would have answered NFS4_OK
record IsRefused (i : Item) (m : Machine) (x : Context) (refused plenty : Step) : Type 0 where
  is : refused ≡ refused_step m x i (lacks_at m.store i)
  wants : grows m.store x i ≡ true
  ok : is_ok plenty.outcome.status ≡ true

abbrev Delays : Item → Machine → Context → (refused plenty : Step) → Type 0
Delays i m x refused plenty = (refused ≡ plenty) ⊎ IsRefused i m x refused plenty

record IsWant (g : Bool) (s : State) (x : Context) (n : OpNum) (o : OfStore) : Type 0 where
  is : of_store.or_lack (g && true) s x n o ≡ of_store.refuses s x n (of_store.lacks s n)
  wants : g ≡ true
  ok : of_store.is_ok (status_of_result (of_store.or_lack (g && false) s x n o).result) ≡ true

delay_or_not : (g : Bool) (s : State) (x : Context) (n : OpNum) (o : OfStore)
    → (of_store.or_lack (g && true) s x n o ≡ of_store.or_lack (g && false) s x n o) ⊎ IsWant g s x n o
delay_or_not true s x n o = elim (cases_Bool (of_store.is_ok (status_of_result o.result))) [
  | inl ok ↦ inr (record { is = rw ok refl; wants = refl; ok = ok })
  | inr bad ↦ inl (rw bad refl)
]
delay_or_not false s x n o = inl refl

pub or_right : (a b : Bool) → b ≡ true → a || b ≡ true
or_right true b e = refl
or_right false b e = e

names_grow : (s : State) (x : Context) (op : Op) → names.grows s x op ≡ true → grows s x (Operation op) ≡ true
names_grow s x (Op.ExchangeId a) e = refl
names_grow s x (Op.CreateSession a) e = refl
names_grow s x op e = or_left (names.grows s x op) (files.grows s x op) e

files_grow : (s : State) (x : Context) (op : Op) → files.grows s x op ≡ true → grows s x (Operation op) ≡ true
files_grow s x (Op.ExchangeId a) e = refl
files_grow s x (Op.CreateSession a) e = refl
files_grow s x op e = or_right (names.grows s x op) (files.grows s x op) e

abbrev named_by : Machine → Context → Op → OfStore → Bool → Step
named_by m x op o b = on_store m (of_store.or_lack (names.grows m.store x op && b) m.store x (arguments op).op o)

names_delay : (m : Machine) (x : Context) (op : Op) (o : OfStore) → Delays (Operation op) m x (named_by m x op o true) (named_by m x op o false)
names_delay m x op o = elim (delay_or_not (names.grows m.store x op) m.store x (arguments op).op o) [
  | inl same ↦ inl (ap (on_store m) same)
  | inr want ↦ inr (record { is = ap (on_store m) want.is; wants = names_grow m.store x op want.wants; ok = want.ok })
]

abbrev filed_by : Machine → Context → Op → OfStore → Bool → Step
filed_by m x op o b = on_store m (of_store.or_lack (files.grows m.store x op && b) m.store x (arguments op).op o)

files_delay : (m : Machine) (x : Context) (op : Op) (o : OfStore) → Delays (Operation op) m x (filed_by m x op o true) (filed_by m x op o false)
files_delay m x op o = elim (delay_or_not (files.grows m.store x op) m.store x (arguments op).op o) [
  | inl same ↦ inl (ap (on_store m) same)
  | inr want ↦ inr (record { is = ap (on_store m) want.is; wants = files_grow m.store x op want.wants; ok = want.ok })
]

step_delays : (m : Machine) (x : Context) (now : ℕ) (i : Item) → Delays i m x (step m x now true i) (step m x now false i)
step_delays m x now (Fault n status) = inl refl
step_delays m x now (Operation op) = by_whom (names.one m.store x (time_at m.store now) op) (files.one m.store x (time_at m.store now) op)
  where
    stepped_by : (v w : Option OfStore) (b : Bool) → Step
    stepped_by v w b =
        option_map_or (on_store m) (option_map (of_store.or_lack (names.grows m.store x op && b) m.store x (arguments op).op) v)
        (option_map_or (on_store m) (option_map (of_store.or_lack (files.grows m.store x op && b) m.store x (arguments op).op) w)
        (otherwise m x (Operation op)))

    by_whom : (v w : Option OfStore) → Delays (Operation op) m x (stepped_by v w true) (stepped_by v w false)
    by_whom (Some o) w = names_delay m x op o
    by_whom None (Some o) = files_delay m x op o
    by_whom None None = inl refl

room_delays : (limit sofar now : ℕ) (m : Machine) (x : Context) (i : Item)
    → Delays i m x (in_room limit sofar now true m x i) (in_room limit sofar now false m x i)
room_delays limit sofar now m x i = elim (cases_Bool (ltb limit (sofar + largest i + reserve))) [
  | inl big ↦ rw big (inl refl)
  | inr fits ↦ rw fits (step_delays m x now i)
]

-- The operations behind a SEQUENCE.

record IsCutRun (limit sofar now place : ℕ) (m : Machine) (x : Context) (items : List Item) : Type 0 where
  item : Item
  stands : slice_get items place ≡ Some item
  left : Ran
  context : Context
  wants : grows left.machine.store context item ≡ true
  cut : run limit sofar now None m x (take place items) ≡ left
  ok : left.status ≡ Nfs4Ok
  count : left.count ≡ place
  delayed : run limit sofar now (Some place) m x items
      ≡ (let status = lacks_at left.machine.store item in
      record { status = status; count = suc place; results = left.results ++ spell_result (refusal (item_number item) status); machine = left.machine })
  more : List ℕ
  behind : Machine
  would : run limit sofar now None m x (take (suc place) items)
      ≡ record { status = Nfs4Ok; count = suc place; results = left.results ++ more; machine = behind }

-- a refusal ends the run
refused_ends : (m : Machine) (n : ℕ) (f : Status) (rest : Ran) → is_ok f ≡ false
    → follow (with_refusal m n f) rest ≡ record { status = f; count = 1; results = spell_result (refusal n f); machine = m }
refused_ends m n f rest fails =
    let status = status_of_refusal n f in
    rw (ap is_ok status ∙ fails) (ap (λ (s : Status). record (only (with_refusal m n f)) { status = s }) status)

pub lack_fails : (s : State) (i : Item) → is_ok (lacks_at s i) ≡ false
lack_fails s (Operation op) = lacks_fail s (arguments op).op
lack_fails s (Fault n status) = refl

run_delays : (limit sofar now place : ℕ) (m : Machine) (x : Context) (items : List Item)
    → (run limit sofar now (Some place) m x items ≡ run limit sofar now None m x items) ⊎ IsCutRun limit sofar now place m x items
run_delays limit sofar now place m x [] = inl refl
run_delays limit sofar now zero m x (i ∷ more) =
    let goes : Step → Ran = λ s. follow s.outcome (run limit (sofar + length s.outcome.result) now None s.outcome.machine s.context more) in
    elim (room_delays limit sofar now m x i) [
      | inl same ↦ inl (ap goes same)
      | inr delayed ↦ inr (record {
        item = i;
        stands = refl;
        left = record { status = Nfs4Ok; count = 0; results = []; machine = m };
        context = x;
        wants = delayed.wants;
        cut = refl;
        ok = refl;
        count = refl;
        delayed = ap goes delayed.is ∙ refused_ends m (item_number i) (lacks_at m.store i) _ (lack_fails m.store i);
        more = (in_room limit sofar now false m x i).outcome.result ++ [];
        behind = (in_room limit sofar now false m x i).outcome.machine;
        would = rw delayed.ok refl;
      })
    ]
run_delays limit sofar now (suc place) m x (i ∷ more) =
    let s = in_room limit sofar now false m x i in
    let next = sofar + length s.outcome.result in
    let ran : Ran → Ran = λ rest. record { status = rest.status; count = suc rest.count; results = s.outcome.result ++ rest.results; machine = rest.machine } in
    elim (cases_Bool (is_ok s.outcome.status)) [
      | inr bad ↦ inl (rw bad refl)
      | inl ok ↦ elim (run_delays limit next now place s.outcome.machine s.context more) [
        | inl same ↦ inl (ap (follow s.outcome) same)
        | inr later ↦ inr (record {
          item = later.item;
          stands = later.stands;
          left = ran later.left;
          context = later.context;
          wants = later.wants;
          cut = ap (follow s.outcome) later.cut ∙ rw ok refl;
          ok = later.ok;
          count = ap suc later.count;
          delayed = ap (follow s.outcome) later.delayed ∙ rw ok (ap (λ (text : List ℕ). record {
            status = lacks_at later.left.machine.store later.item;
            count = suc (suc place);
            results = text;
            machine = later.left.machine;
          }) (sym (append_assoc s.outcome.result later.left.results (spell_result (refusal (item_number later.item) (lacks_at later.left.machine.store later.item))))));
          more = later.more;
          behind = later.behind;
          would = ap (follow s.outcome) later.would ∙ rw ok (ap (λ (text : List ℕ). record {
            status = Nfs4Ok;
            count = suc (suc place);
            results = text;
            machine = later.behind;
          }) (sym (append_assoc s.outcome.result later.left.results later.more)));
        })
      ]
    ]

-- A request that is cut runs where the whole one does.

fresh_again : (o : Option SlotState) (number uid : ℕ) (args other : List ℕ) → option_map_or (λ s. judge_slot s number uid args) o NoSlot ≡ Fresh
    → option_map_or (λ s. judge_slot s number uid other) o NoSlot ≡ Fresh
fresh_again None number uid args other e = absurd cc
fresh_again (Some s) number uid args other e = rw (eq-eqb number (next_number s.number) (fresh_number s number uid args e)) refl

cut_runs : (r c : Request) (who : Caller) (size shorter : ℕ) (s : Sequence) (o : Option Session) (channel : ChannelAttrs)
    → by_session r who size s o ≡ sequence.Runs channel → c.declared ≤ r.declared → shorter ≤ size → by_session c who shorter s o ≡ sequence.Runs channel
cut_runs r c who size shorter s None channel e few short = absurd cc
cut_runs r c who size shorter s (Some session) channel e few short =
    let means = runs_means r who size s (Some session) channel e in
    let found : Some session ≡ Some means.session = means.found in
    let same : session ≡ means.session = cc in
    let is : session.channel ≡ channel = ap (λ (x : Session). x.channel) same ∙ means.channel in
    let fresh : judge session.slots s.slotid s.sequenceid who.uid (compared r) ≡ Fresh =
    ap (λ (x : Session). judge x.slots s.slotid s.sequenceid who.uid (compared r)) same ∙ means.fresh in
    let again : judge session.slots s.slotid s.sequenceid who.uid (compared c) ≡ Fresh = fresh_again (slice_get session.slots s.slotid) s.sequenceid who.uid (compared r) (compared c) fresh in
    let fits : shorter ≤ session.channel.maxrequestsize = (let whole = means.fits in let request = ap (λ (k : ChannelAttrs). k.maxrequestsize) is in omega arith) in
    let within : c.declared ≤ session.channel.maxoperations = (let whole = means.few in let operations = ap (λ (k : ChannelAttrs). k.maxoperations) is in omega arith) in
    by_fault_of (slot_fault s session.channel) (sequence.by_slot r size s session (judge session.slots s.slotid s.sequenceid who.uid (compared r)))
    (sequence.by_slot c shorter s session (judge session.slots s.slotid s.sequenceid who.uid (compared c)))
    (rw (again, le-ltb session.channel.maxrequestsize shorter fits, le-ltb session.channel.maxoperations c.declared within) (ap (λ (k : ChannelAttrs). sequence.Runs k) is)) e
  where
    by_fault_of : (f : Option Status) (v w : Result Sequenced Status) → or_refuses w ≡ sequence.Runs channel → past f v ≡ sequence.Runs channel → past f w ≡ sequence.Runs channel
    by_fault_of None v w runs e = runs
    by_fault_of (Some status) v w runs e = absurd cc

-- A compound, by its operations.

abbrev delayed_at : Request → Machine → (place : ℕ) → List ℕ → Item → Answered
delayed_at r m place results item = record {
  text = spell_compound_head (lacks_at m.store item) r.tag (suc place) ++ (results ++ spell_result (refusal (item_number item) (lacks_at m.store item)));
  machine = m;
}

record IsDelayedBy (m : Machine) (r : Request) (who : Caller) (size now place : ℕ) (items : List Item) : Type 0 where
  item : Item
  stands : slice_get items place ≡ Some item
  results : List ℕ
  left : Machine
  context : Context
  wants : grows left.store context item ≡ true
  answer : by_first m r who size now (Some place) items ≡ kept_by r who (first_runs m r who size items) (delayed_at r left place results item)
  cut : (c : Request) (shorter : ℕ) → c.tag ≡ r.tag → c.declared ≤ r.declared → shorter ≤ size
      → by_first m c who shorter now None (take place items) ≡ kept_by c who (first_runs m r who size items) (with_ok r place results left)
  more : List ℕ
  behind : Machine
  would : (c : Request) (shorter : ℕ) → c.tag ≡ r.tag → c.declared ≤ r.declared → shorter ≤ size
      → by_first m c who shorter now None (take (suc place) items)
      ≡ kept_by c who (first_runs m r who size items) (with_ok r (suc place) (results ++ more) behind)
  alone : first_runs m r who size items ≡ None → left ≡ m

abbrev IsEither : Machine → Request → Caller → (size now place : ℕ) → List Item → Type 0
IsEither m r who size now place items =
    (by_first m r who size now (Some place) items ≡ by_first m r who size now None items) ⊎ IsDelayedBy m r who size now place items

-- SEQUENCE in front answers NFS4_OK
abbrev behind_it : Machine → Request → Caller → Sequence → ChannelAttrs → Ran → Answered
behind_it m r who s channel rest = keeps r who s (answers r (follow (with_result m (Res.Sequence (sequence_ok s channel))) rest))

abbrev front : Sequence → ChannelAttrs → List ℕ
front s channel = spell_result (Res.Sequence (sequence_ok s channel))

cut_in_run : (m : Machine) (r c : Request) (who : Caller) (shorter now place : ℕ) (s : Sequence) (more : List Item) (channel : ChannelAttrs) (left : Ran)
    → sequenced m c who shorter s ≡ sequence.Runs channel → c.tag ≡ r.tag
    → run channel.maxresponsesize (begun r s channel) now None (renewed m now s) (begins (id_of s.sessionid).client who) (take place more) ≡ left
    → left.status ≡ Nfs4Ok → left.count ≡ place
    → by_first m c who shorter now None (Operation (Op.Sequence s) ∷ take place more)
    ≡ keeps c who s (with_ok r (suc place) (front s channel ++ left.results) left.machine)
cut_in_run m r c who shorter now place s more channel left runs tag is ok count =
    let k = renewed m now s in
    let tagged : List ℕ → Request = λ t. record c { tag = t } in
    let texts : Status → ℕ → Answered = λ status n. record {
      text = spell_compound_head status r.tag (suc n) ++ (front s channel ++ left.results);
      machine = left.machine;
    } in
    ap (in_session m c who now None s (take place more)) runs
    ∙ ap (λ (t : List ℕ). keeps c who s (answers (tagged t) (runs_behind k (tagged t) who now None s channel (take place more)))) tag
    ∙ ap (λ (rest : Ran). keeps c who s (answers (tagged r.tag) (follow (with_result k (Res.Sequence (sequence_ok s channel))) rest))) is
    ∙ ap (λ (status : Status). keeps c who s (texts status left.count)) ok
    ∙ ap (λ (n : ℕ). keeps c who s (texts Nfs4Ok n)) count

in_run : (m : Machine) (r : Request) (who : Caller) (size now place : ℕ) (s : Sequence) (more : List Item) (channel : ChannelAttrs)
    → sequenced m r who size s ≡ sequence.Runs channel → IsEither m r who size now (suc place) (Operation (Op.Sequence s) ∷ more)
in_run m r who size now place s more channel runs =
    let k = renewed m now s in
    let client = (id_of s.sessionid).client in
    let plenty = ap (in_session m r who now None s more) runs in
    let refused = ap (in_session m r who now (Some (suc place)) s more) runs in
    elim (run_delays channel.maxresponsesize (begun r s channel) now place k (begins client who) more) [
      | inl same ↦ inl (refused ∙ ap (behind_it k r who s channel) same ∙ sym plenty)
      | inr d ↦ (let results = front s channel ++ d.left.results in inr (record {
        item = d.item;
        stands = d.stands;
        results = results;
        left = d.left.machine;
        context = d.context;
        wants = d.wants;
        answer = refused ∙ ap (behind_it k r who s channel) d.delayed
            ∙ ap (λ (text : List ℕ). keeps r who s (record { text = spell_compound_head (lacks_at d.left.machine.store d.item) r.tag (suc (suc place)) ++ text; machine = d.left.machine }))
            (sym (append_assoc (front s channel) d.left.results (spell_result (refusal (item_number d.item) (lacks_at d.left.machine.store d.item)))))
            ∙ sym (ap (λ (v : Sequenced). kept_by r who (if_runs s v) (delayed_at r d.left.machine (suc place) results d.item)) runs);
        cut = λ c shorter tag few short.
            cut_in_run m r c who shorter now place s more channel d.left
            (cut_runs r c who size shorter s (session_at m.sessions (id_of s.sessionid)) channel runs few short) tag d.cut d.ok d.count
            ∙ sym (ap (λ (v : Sequenced). kept_by c who (if_runs s v) (with_ok r (suc place) results d.left.machine)) runs);
        more = d.more;
        behind = d.behind;
        would = λ c shorter tag few short.
            cut_in_run m r c who shorter now (suc place) s more channel
            (record { status = Nfs4Ok; count = suc place; results = d.left.results ++ d.more; machine = d.behind })
            (cut_runs r c who size shorter s (session_at m.sessions (id_of s.sessionid)) channel runs few short) tag d.would refl refl
            ∙ ap (λ (text : List ℕ). keeps c who s (with_ok r (suc (suc place)) text d.behind)) (sym (append_assoc (front s channel) d.left.results d.more))
            ∙ sym (ap (λ (v : Sequenced). kept_by c who (if_runs s v) (with_ok r (suc (suc place)) (results ++ d.more) d.behind)) runs);
        alone = λ none. absurd (let bad : Some s ≡ None = sym (ap (if_runs s) runs) ∙ none in cc);
      }))
    ]

-- a refusal and a repeat run nothing, and SEQUENCE itself wants nothing
in_session_either : (m : Machine) (r : Request) (who : Caller) (size now place : ℕ) (s : Sequence) (more : List Item) (v : Sequenced)
    → sequenced m r who size s ≡ v → IsEither m r who size now place (Operation (Op.Sequence s) ∷ more)
in_session_either m r who size now place s more (sequence.Refuses status) e =
    inl (ap (in_session m r who now (Some place) s more) e ∙ sym (ap (in_session m r who now None s more) e))
in_session_either m r who size now place s more (sequence.Repeats reply) e =
    inl (ap (in_session m r who now (Some place) s more) e ∙ sym (ap (in_session m r who now None s more) e))
in_session_either m r who size now zero s more (sequence.Runs channel) e =
    inl (ap (in_session m r who now (Some zero) s more) e ∙ sym (ap (in_session m r who now None s more) e))
in_session_either m r who size now (suc place) s more (sequence.Runs channel) e = in_run m r who size now place s more channel e

-- Outside a session.

record IsLoneRefused (m : Machine) (i : Item) (refused plenty : MachineOutcome) : Type 0 where
  is : refused ≡ with_refusal m (item_number i) Delay
  again : lacks_at m.store i ≡ Delay
  wants : (x : Context) → grows m.store x i ≡ true
  ok : is_ok plenty.status ≡ true

abbrev IsLone : Machine → Item → (refused plenty : MachineOutcome) → Type 0
IsLone m i refused plenty = (refused ≡ plenty) ⊎ IsLoneRefused m i refused plenty

lone : (m : Machine) (n : ℕ) (o : MachineOutcome) → (or_with_delay true m n o ≡ o) ⊎ ((or_with_delay true m n o ≡ with_refusal m n Delay) × (is_ok o.status ≡ true))
lone m n o = elim (cases_Bool (is_ok o.status)) [ inl ok ↦ inr (rw ok refl, ok) | inr bad ↦ inl (rw bad refl) ]

created_delays : (m : Machine) (now : ℕ) (c : CreateSession) (v : clients.Verdict)
    → IsLone m (Operation (Op.CreateSession c)) (by_number m now true c v) (by_number m now false c v)
created_delays m now c clients.Runs = elim (lone m 43 (creates m now c (create m.sessions c.clientid (wish_of m c)))) [
  | inl same ↦ inl same
  | inr delayed ↦ inr (record { is = delayed.0; again = refl; wants = λ x. refl; ok = delayed.1 })
]
created_delays m now c v = inl refl

carried_delays : (m : Machine) (who : Caller) (now : ℕ) (i : Item) → IsLone m i (carried_out m who now true i) (carried_out m who now false i)
carried_delays m who now (Operation (Op.ExchangeId e)) = elim (lone m 42 (exchange_id m who now e)) [
  | inl same ↦ inl same
  | inr delayed ↦ inr (record { is = delayed.0; again = refl; wants = λ x. refl; ok = delayed.1 })
]
carried_delays m who now (Operation (Op.CreateSession c)) =
    subst₂ (IsLone m (Operation (Op.CreateSession c))) (sym (create_session_is m who now true c)) (sym (create_session_is m who now false c))
    (created_delays m now c (clients.create_verdict m.clients c.clientid c.sequence who.uid))
carried_delays m who now i = inl refl

-- an operation that may stand where so many are declared may stand where fewer are
place_fewer : (op : Op) (declared few : ℕ) → few ≤ declared → place_fault declared (Operation op) ≡ None → place_fault few (Operation op) ≡ None
place_fewer op declared few low = go (stands_alone op) (is_sequence op)
  where
    go : (alone sequence : Bool) → first_fault ((alone && nat_lt 1 declared, NotOnlyOp) ∷ (not (alone || sequence), OpNotInSession) ∷ []) ≡ None
        → first_fault ((alone && nat_lt 1 few, NotOnlyOp) ∷ (not (alone || sequence), OpNotInSession) ∷ []) ≡ None
    go false sequence e = e
    go true sequence e = elim (cases_Bool (nat_lt 1 declared)) [
      | inl many ↦ absurd (let bad = (rw many at e) in cc)
      | inr one ↦ (let most = ltb-false 1 declared one in rw (le-ltb 1 few (omega arith)) refl)
    ]

item_fewer : (i : Item) (declared few : ℕ) → few ≤ declared → place_fault declared i ≡ None → place_fault few i ≡ None
item_fewer (Operation op) declared few low e = place_fewer op declared few low e
item_fewer (Fault n status) declared few low e = e

record IsFirstRefused (m : Machine) (declared : ℕ) (who : Caller) (now : ℕ) (i : Item) : Type 0 where
  is : first_item m declared who now true i ≡ with_refusal m (item_number i) Delay
  again : lacks_at m.store i ≡ Delay
  wants : (x : Context) → grows m.store x i ≡ true
  ok : is_ok (carried_out m who now false i).status ≡ true
  would : (few : ℕ) → few ≤ declared → first_item m few who now false i ≡ carried_out m who now false i

first_delays : (m : Machine) (declared : ℕ) (who : Caller) (now : ℕ) (i : Item)
    → (first_item m declared who now true i ≡ first_item m declared who now false i) ⊎ IsFirstRefused m declared who now i
first_delays m declared who now i = go (place_fault declared i) refl
  where
    go : (f : Option Status) → place_fault declared i ≡ f
        → (first_item m declared who now true i ≡ first_item m declared who now false i) ⊎ IsFirstRefused m declared who now i
    go (Some status) e = inl (ap (λ f. by_fault m (item_number i) f (carried_out m who now true i)) e
        ∙ sym (ap (λ f. by_fault m (item_number i) f (carried_out m who now false i)) e))
    go None e = elim (carried_delays m who now i) [
      | inl same ↦ inl (ap (λ o. by_fault m (item_number i) (place_fault declared i) o) same)
      | inr delayed ↦ inr (record {
        is = ap (λ f. by_fault m (item_number i) f (carried_out m who now true i)) e ∙ delayed.is;
        again = delayed.again;
        wants = delayed.wants;
        ok = delayed.ok;
        would = λ few low. ap (λ f. by_fault m (item_number i) f (carried_out m who now false i)) (item_fewer i declared few low e);
      })
    ]

items_either : (m : Machine) (r : Request) (who : Caller) (size now place : ℕ) (items : List Item) → IsEither m r who size now place items
items_either m r who size now place [] = inl refl
items_either m r who size now place (Operation (Op.Sequence s) ∷ more) = in_session_either m r who size now place s more (sequenced m r who size s) refl
items_either m r who size now zero (item ∷ more) = elim (first_delays m r.declared who now item) [
  | inl same ↦ inl (ap (λ (o : MachineOutcome). answers r (only o)) same)
  | inr delayed ↦ inr (record {
    item = item;
    stands = refl;
    results = [];
    left = m;
    context = begins 0 who;
    wants = delayed.wants (begins 0 who);
    answer = ap (λ (o : MachineOutcome). answers r (only o)) delayed.is
        ∙ ap (λ (status : Status). answers r (record (only (with_refusal m (item_number item) Delay)) { status = status })) (status_of_refusal (item_number item) Delay)
        ∙ ap (λ (status : Status). answers r (record (only (with_refusal m (item_number item) status)) { status = status })) (sym delayed.again);
    cut = λ c shorter tag few short. ap (λ (t : List ℕ). record { text = spell_compound_head Nfs4Ok t 0 ++ []; machine = m }) tag;
    more = (carried_out m who now false item).result;
    behind = (carried_out m who now false item).machine;
    would = λ c shorter tag few short. (let o = carried_out m who now false item in
        ap (λ (o : MachineOutcome). answers c (only o)) (delayed.would c.declared few)
        ∙ ap (λ n. record { text = (number n ++ (opaque c.tag ++ number 1)) ++ o.result; machine = o.machine }) (eqb-true _ _ delayed.ok)
        ∙ ap (λ (t : List ℕ). record { text = spell_compound_head Nfs4Ok t 1 ++ o.result; machine = o.machine }) tag);
    alone = λ none. refl;
  })
]
items_either m r who size now (suc place) (item ∷ more) = inl refl

pub is_a_cut : DelayIsACut
is_a_cut = λ m r who size now place. elim (cases_Bool (eqb r.minor 1)) [
  | inl one ↦ elim (items_either m r who size now place r.left) [
    | inl same ↦ inl (rw one same)
    | inr d ↦ inr (record {
      item = d.item;
      stands = d.stands;
      results = d.results;
      left = d.left;
      context = d.context;
      wants = d.wants;
      answer = rw one d.answer;
      cut = λ c shorter cut short.
          ap (λ (n : ℕ). cond (eqb n 1) (by_first m c who shorter now None c.left) (bare c MinorVersMismatch m)) cut.minor
          ∙ ap (λ (b : Bool). cond b (by_first m c who shorter now None c.left) (bare c MinorVersMismatch m)) one
          ∙ ap (by_first m c who shorter now None) cut.left
          ∙ d.cut c shorter cut.tag cut.declared short;
      more = d.more;
      behind = d.behind;
      would = λ c shorter cut short.
          ap (λ (n : ℕ). cond (eqb n 1) (by_first m c who shorter now None c.left) (bare c MinorVersMismatch m)) cut.minor
          ∙ ap (λ (b : Bool). cond b (by_first m c who shorter now None c.left) (bare c MinorVersMismatch m)) one
          ∙ ap (by_first m c who shorter now None) cut.left
          ∙ d.would c shorter cut.tag cut.declared short;
      alone = d.alone;
    })
  ]
  | inr other ↦ inl (rw other refl)
]
