-- What a GETFH gave leads back to its object.
use Rattle.std.proofs.Common.{◌≡◌, ℕ, ◌+◌, ◌<◌, ◌≤◌, ◌^◌, Bool, true, false, cond, eqb, List, [], ◌∷◌, length, take, drop, Option, Some, None, refl, sym, ◌∙◌, ap, arith}
use Rattle.std.proofs.{lemmas.Bool.eqb-true, lemmas.Option.same_Some, lemmas.List.{drop_at, take_at, append-nil, length-append}, lemmas.Nat.from_be_bytes-to_be_bytes_4}
use Rattle.std.specs.{Prelude.{◌==◌, is_some, option_map, Ok}, Int.{w32, from_be_bytes}}
use Rattle.nfs_xdr.specs.{Caller.Caller, Limits.fhsize, Reading.◌>>=◌, Spelling.{number, fixed, opaque}, declared.status.Status.Status}
use Rattle.nfs_xdr.specs.declared.status.Status.TheVariants.{Nfs4Ok, BadHandle, Stale, RepTooBig}
use Rattle.nfs_xdr.proofs.{Lists.find_in, Putting.length_number, Tables.in_bounds}
use Rattle.nfs_compound.specs.{declared.op.Item.Item, declared.op.Item.TheVariants.Operation, OpNum.op_number, Request.Request}
use Rattle.nfs_compound.specs.declared.session_args.Sequence.{Sequence}
use Rattle.nfs_compound.specs.declared.op.Op.TheVariants as Op
use Rattle.nfs_compound.specs.declared.op_num.OpNum.TheVariants as Num
use Rattle.nfs_results.specs.declared.res.Res.TheVariants as Res
use Rattle.nfs_results.specs.Results.{spell_result, done_head, status_of_result}
use Rattle.nfs_results.proofs.Lengths.{length_head, length_spelled}
use Rattle.nfs_tree.specs.{declared.stored.Stored.Stored, Files.{stored_in, object_at}, TreeInvariants.IsTree}
use Rattle.nfs_attrs.specs.{declared.handle.Handle.Handle, Handle.{handle, handle_of}, Wire.nfs_fh4}
use Rattle.nfs_attrs.proofs.{Lengths.length_handle, Texts.{is_handle, handles}}
use Rattle.nfs_sessions.specs.Id.{id_of}
use Rattle.nfs_names.specs.{declared.context.Context.Context, declared.node.Node.Node, Checks.{current, node_at, node_as}, Context.begins, Outcome.is_ok}
use Rattle.nfs_names.specs.{PutFh.put_fh, State.State}
use Rattle.nfs_names.proofs.NameLaws.{by_get_fh}
use Rattle.nfs_exec.specs.{Step.Compound.{renewed, begun}, Step.Laws.{MachineEvent, Expires, Asks}, Step.Machine.Machine}
use Rattle.nfs_promises.specs.Runs.Handles.{Gives, Leads}
use Rattle.nfs_promises.proofs.Runs.{Seats.{ran_as, did}, StatusTold.is_told}
use Rattle.nfs_exec.specs.{Runs.Ops.{RanOp, done, ops, ops_in, ops_of, ops_by}, Step.Run.{in_room, is_here, behind_here}}
use Rattle.nfs_exec.specs.Step.Sequence.{Sequenced, sequenced}
use Rattle.nfs_exec.specs.Step.Sequence as sequence
use Rattle.nfs_exec.proofs.{Step.Instances.instance_kept, Runs.OneRun.{IsRun, by_item}, Runs.KeptByRuns.{Is, whole_room}}
use Rattle.nfs_exec.proofs.Runs.WrittenRun.{used_there, put_run}

-- Two opaques of few bytes that are spelled alike are alike.

length_of : (n m : ℕ) → n ≤ fhsize → m ≤ fhsize → number n ≡ number m → n ≡ m
unfolding number
length_of n m few less e =
    sym (from_be_bytes-to_be_bytes_4 n (omega arith)) ∙ (ap (from_be_bytes w32) e ∙ from_be_bytes-to_be_bytes_4 m (omega arith))

opaque_same : (a b : List ℕ) → length a ≤ fhsize → length b ≤ fhsize → opaque a ≡ opaque b → a ≡ b
opaque_same a b few less e =
    let counts : number (length a) ≡ number (length b) =
    sym (take_at (number (length a)) (fixed a) 4 (length_number (length a))) ∙ (ap (take 4) e ∙ take_at (number (length b)) (fixed b) 4 (length_number (length b))) in
    let long : length a ≡ length b = length_of (length a) (length b) few less counts in
    let texts : fixed a ≡ fixed b =
    sym (drop_at (number (length a)) (fixed a) 4 (length_number (length a))) ∙ (ap (drop 4) e ∙ drop_at (number (length b)) (fixed b) 4 (length_number (length b))) in
    sym (take_at a _ (length a) refl) ∙ (ap (take (length a)) texts ∙ take_at b _ (length a) (sym long))

handle_same : (a b : List ℕ) → length a ≤ fhsize → length b ≤ fhsize → spell_result (Res.GetFh a) ≡ spell_result (Res.GetFh b) → a ≡ b
handle_same a b few less e = opaque_same a b few less
    (sym (drop_at (done_head Num.GetFh) (opaque a) 8 (length_head (op_number Num.GetFh) Nfs4Ok))
    ∙ (ap (drop 8) e ∙ drop_at (done_head Num.GetFh) (opaque b) 8 (length_head (op_number Num.GetFh) Nfs4Ok)))

-- What GETFH gave.

abbrev pub handle_in : (instance n : ℕ) → List ℕ
handle_in instance n = (nfs_fh4 (record { instance = instance; number = n })).bytes

-- an object that was found has the number that was asked for, which is below 2^64
found_number : (s : State) (x : Context) (n : ℕ) (d : Node) → IsTree s.tree → x.current ≡ Some n → current s x ≡ Ok d → (d.number ≡ n) × (n < 2 ^ 64)
unfolding current
found_number s x n d tree at there = by (stored_in s.tree.objects n) refl (sym (ap (node_at s) at) ∙ there)
  where
    by : (o : Option Stored) → stored_in s.tree.objects n ≡ o → node_as n (option_map (λ (k : Stored). k.object) o) ≡ Ok d → (d.number ≡ n) × (n < 2 ^ 64)
    by None e bad = absurd cc
    by (Some k) e same =
        let one : record { number = n; object = k.object } ≡ d = cc in
        let its = find_in (λ (k : Stored). k.number == n) s.tree.objects k e in
        let named : k.number ≡ n = eqb-true _ _ its.1 in
        let below = in_bounds (λ (k : Stored). k.number) _ (s.tree.last_object + 1) s.tree.objects k tree.objects its.0 in
        let last = tree.counters in
        (ap (λ (d : Node). d.number) (sym one), omega (arith, below.1, last.0, named))

pub record IsGiven (s : State) (n : ℕ) (h : List ℕ) : Type 0 where
  pub is : h ≡ handle_in s.opens.instance n
  pub small : n < 2 ^ 64

given_by : (s : State) (x : Context) (n : ℕ) (h : List ℕ) → IsTree s.tree → x.current ≡ Some n → length h ≤ fhsize → (d : Node) → current s x ≡ Ok d
    → spell_result (Res.GetFh (handle_in s.opens.instance d.number)) ≡ spell_result (Res.GetFh h) → IsGiven s n h
given_by s x n h tree at short d there told =
    let its = found_number s x n d tree at there in
    let few = length_handle (record { instance = s.opens.instance; number = d.number }) in
    let same : handle_in s.opens.instance d.number ≡ h = handle_same (handle_in s.opens.instance d.number) h (omega (arith, few)) short told in
    record { is = sym same ∙ ap (handle_in s.opens.instance) its.0; small = its.1 }

-- a refusal is too short to give one
refused_short : (operation : ℕ) (status : Status) (h : List ℕ) → spell_result (Res.Refused operation status) ≡ spell_result (Res.GetFh h) → ⊥
refused_short operation status h e =
    let short = length_spelled (Res.Refused operation status) in
    let long = length_spelled (Res.GetFh h) in
    let count = length-append (number (length h)) (fixed h) in
    let head = length_number (length h) in
    let same = ap length e in
    absurd (omega (arith, short, long, count, head, same))

pub given_in : (d : RanOp) → IsRun d → (n : ℕ) (h : List ℕ) → Gives n h d → IsGiven d.before.store n h
given_in d r n h gives =
    let s = d.before.store in
    by_item (λ status text u. text ≡ spell_result (Res.GetFh h) → IsGiven s n h) d r (Operation Op.GetFh) gives.is
    (λ told. absurd (refused_short (op_number Num.GetFh) RepTooBig h told))
    (by_get_fh (λ o. spell_result o.result ≡ spell_result (Res.GetFh h) → IsGiven s n h) s d.context
    (λ f refusal told. absurd (refused_short (op_number Num.GetFh) f h told))
    (λ k there told. given_by s d.context n h r.whole.tree gives.at gives.short k there told)) gives.answers

-- Where it leads.

pub handle_read : (instance n : ℕ) → instance < 2 ^ 32 → n < 2 ^ 64 → handle_of (handle_in instance n) ≡ Some (record { instance = instance; number = n })
handle_read instance n small low =
    let k : Handle = record { instance = instance; number = n } in
    let read : handle.read (handle_in instance n) ≡ Some (k, []) =
    ap handle.read (sym (handles.same k) ∙ sym (append-nil (handle.spell k))) ∙ is_handle.again k [] (handles.from k (small, (omega arith, low))) in
    ap (λ (v : Option (Handle × List ℕ)). v >>= λ x. cond (eqb (length x.1) 0) (Some x.0) None) read

put_known : (s : State) (x : Context) (h : List ℕ) (k : Handle) → handle_of h ≡ Some k → status_of_result (put_fh s x h).result ≡ BadHandle → ⊥
unfolding put_fh
put_known s x h k is told = go (k.instance == s.opens.instance) (is_some (object_at s.tree k.number)) refl refl
  where
    go : (own there : Bool) → (k.instance == s.opens.instance) ≡ own → is_some (object_at s.tree k.number) ≡ there → ⊥
    go true true own there = (let bad : Nfs4Ok ≡ BadHandle = rw (is, own, there) at told in absurd cc)
    go true false own there = (let bad : Stale ≡ BadHandle = rw (is, own, there) at told in absurd cc)
    go false there own held = (let bad : Stale ≡ BadHandle = rw (is, own) at told in absurd cc)

known : (d : RanOp) → IsRun d → (h : List ℕ) (k : Handle) → handle_of h ≡ Some k → d.item ≡ Operation (Op.PutFh h)
    → d.result ≡ spell_result (Res.Refused 22 BadHandle) → ⊥
known d r h k read item told =
    by_item (λ status text t. status ≡ BadHandle → ⊥) d r (Operation (Op.PutFh h)) item (λ e. (let bad : RepTooBig ≡ BadHandle = e in absurd cc))
    (put_known d.before.store d.context h k read) (is_told d r 22 BadHandle told)

-- One operation behind another.

first_behind : (limit sofar now : ℕ) (choice : Option ℕ) (m : Machine) (x : Context) (items : List Item) (e : RanOp) (more : List RanOp)
    → ops limit sofar now choice m x items ≡ e ∷ more → e.context ≡ x
first_behind limit sofar now choice m x [] e more is = absurd cc
first_behind limit sofar now choice m x (i ∷ items) e more is =
    let one : done limit sofar (is_here choice) m x i (in_room limit sofar now (is_here choice) m x i) ≡ e = cc in ap (λ (d : RanOp). d.context) (sym one)

in_follow : (b : Bool) (ds : List RanOp) (e : RanOp) (more : List RanOp) → cond b ds [] ≡ e ∷ more → (b ≡ true) × (ds ≡ e ∷ more)
in_follow true ds e more is = (refl, is)
in_follow false ds e more is = absurd cc

leads_on : (instance n : ℕ) (h : List ℕ) → h ≡ handle_in instance n → instance < 2 ^ 32 → n < 2 ^ 64
    → (limit sofar now : ℕ) (choice : Option ℕ) (m : Machine) (x : Context) (items : List Item) → Is m → m.store.opens.instance ≡ instance
    → Leads n h (ops limit sofar now choice m x items)
leads_on instance n h is small low limit sofar now choice m x [] whole own = tt
leads_on instance n h is small low limit sofar now choice m x (i ∷ more) whole own =
    let s = in_room limit sofar now (is_here choice) m x i in
    let next = sofar + length s.outcome.result in
    let rest = ops limit next now (behind_here choice) s.outcome.machine s.context more in
    let k : Handle = record { instance = instance; number = n } in
    let read : handle_of h ≡ Some k = ap handle_of is ∙ handle_read instance n small low in
    let ran : RanOp = done limit sofar (is_here choice) m x i s in
    let run : IsRun ran = record { limit = limit; sofar = sofar; now = now; refused = is_here choice; whole = whole; is = refl } in (
      record {
        leads = λ asked e behind same.
            (let there = in_follow (is_ok s.outcome.status) rest e behind same in
            let at = first_behind limit next now (behind_here choice) s.outcome.machine s.context more e behind there.1 in
            let put = did ran run (Operation (Op.PutFh h)) asked there.0 in
            ap (λ (y : Context). y.current) at
            ∙ (ap (λ i. (ran_as ran run i).context.current) asked ∙ (put.current ∙ ap (λ (k : Handle). Some k.number) (same_Some put.handle k (sym put.read ∙ read)))));
        found = λ put used told. put_run ran run n (used_there m.store n whole used) h put
            (read ∙ ap (λ instance. Some (record { instance = instance; number = n })) (sym own)) told;
        known = λ put told. known ran run h k read put told;
      },
      follow_leads (is_ok s.outcome.status) rest (leads_on instance n h is small low limit next now (behind_here choice) s.outcome.machine s.context more
          (whole_room limit sofar now (is_here choice) m x i whole)
          ((instance_kept instance).run ran run own)),
    )
  where
    follow_leads : (b : Bool) (ds : List RanOp) → Leads n h ds → Leads n h (cond b ds [])
    follow_leads true ds leads = leads
    follow_leads false ds leads = tt

session_leads : (instance n : ℕ) (h : List ℕ) → h ≡ handle_in instance n → instance < 2 ^ 32 → n < 2 ^ 64
    → (m : Machine) (r : Request) (who : Caller) (now : ℕ) (choice : Option ℕ) (s : Sequence) (more : List Item) (v : Sequenced) → Is m → m.store.opens.instance ≡ instance
    → Leads n h (ops_in m r who now choice s more v)
session_leads instance n h is small low m r who now choice s more (sequence.Refuses status) whole own = tt
session_leads instance n h is small low m r who now choice s more (sequence.Repeats reply) whole own = tt
session_leads instance n h is small low m r who now choice s more (sequence.Runs c) whole own =
    leads_on instance n h is small low c.maxresponsesize (begun r s c) now (behind_here choice) (renewed m now s) (begins (id_of s.sessionid).client who) more whole own

first_leads : (instance n : ℕ) (h : List ℕ) → h ≡ handle_in instance n → instance < 2 ^ 32 → n < 2 ^ 64
    → (m : Machine) (r : Request) (who : Caller) (size now : ℕ) (choice : Option ℕ) (items : List Item) → Is m → m.store.opens.instance ≡ instance
    → Leads n h (ops_of m r who size now choice items)
first_leads instance n h is small low m r who size now choice [] whole own = tt
first_leads instance n h is small low m r who size now choice (Operation (Op.Sequence s) ∷ more) whole own =
    session_leads instance n h is small low m r who now choice s more (sequenced m r who size s) whole own
first_leads instance n h is small low m r who size now choice (item ∷ more) whole own = tt

pub event_leads : (instance n : ℕ) (h : List ℕ) → h ≡ handle_in instance n → instance < 2 ^ 32 → n < 2 ^ 64 → (m : Machine) (e : MachineEvent) → Is m
    → m.store.opens.instance ≡ instance → Leads n h (ops_by m e)
event_leads instance n h is small low m (Expires now) whole own = tt
event_leads instance n h is small low m (Asks r who size now choice) whole own = go (eqb r.minor 1)
  where
    go : (b : Bool) → Leads n h (cond b (ops_of m r who size now choice r.left) [])
    go true = first_leads instance n h is small low m r who size now choice r.left whole own
    go false = tt
