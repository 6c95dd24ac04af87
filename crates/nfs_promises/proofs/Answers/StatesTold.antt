-- OPEN, OPEN_DOWNGRADE and LOCK did what they answer, and tell the stateid of the state that they leave.
use Rattle.std.proofs.Common.{◌≡◌, ℕ, ◌≤◌, suc, ◌+◌, true, false, not, List, [], ◌∷◌, map, Option, Some, None, refl, sym, ◌∙◌, ap, subst, arith, inl, inr}
use Rattle.std.proofs.lemmas.{Bool.{and_parts, false≢true, eq-eqb, eqb-true}, Slice.Eq.bytes_eq-Decides}
use Rattle.std.specs.Prelude.{◌==◌, ◌%◌, is_none, option_map, unwrap_or, Result, Ok, Err, ok_or, if◌then◌else◌}
use Rattle.nfs_xdr.specs.{Tables.In, declared.status.Status.Status, declared.time.Time.Time}
use Rattle.nfs_xdr.specs.declared.status.Status.TheVariants as S
use Rattle.nfs_xdr.proofs.{Checks.all_passed, Lists.{find_in, last_in, map_in, none_in}, Tables.{at_above, at_of_in}}
use Rattle.nfs_compound.specs.{declared.lock_args.{Lock.Lock, Locker.{Locker, TheVariants.{OpenOwner, LockOwner}}}}
use Rattle.nfs_compound.specs.{declared.open_args.{Open.Open, OpenDowngrade.OpenDowngrade}, declared.op.{Item.{Item, TheVariants.Operation}}}
use Rattle.nfs_compound.specs.declared.op.Op.TheVariants as Op
use Rattle.nfs_compound.specs.declared.op_num.OpNum.TheVariants as Num
use Rattle.nfs_results.specs.{declared.res.OpenOk.OpenOk, Results.spell_result}
use Rattle.nfs_results.specs.declared.res.Res.TheVariants as Res
use Rattle.nfs_opens.specs.{declared.judging.Sort.TheVariants.{OpenOnly, LockOnly}, declared.locking.{OpenFault.{OpenFault, TheVariants.{Refused, Denied, Memory}}, Wish.Wish}}
use Rattle.nfs_opens.specs.{declared.records.{LockState.LockState, OpenState.OpenState}, declared.share.Share.Share, declared.stateid.{CurrentSeqid.TheVariants.{Any, Own}, StateId.StateId}}
use Rattle.nfs_opens.specs.{Judging.judge, Locking.{raised, access_in, lock_judged, lock_known}, Share.{neither, share_of}, Steps.{in_order, map_err, require}, TableInvariants.IsTable}
use Rattle.nfs_opens.specs.Table.{Table, is_own, lock_at, open_at, with_lock, with_open}
use Rattle.nfs_opens.specs.Opening as opening
use Rattle.nfs_opens.proofs.CallLaws.{IsLocked, came, ok_is, first_state, narrowed_is}
use Rattle.nfs_names.specs.{declared.{context.Context.Context, node.Node.Node}, Checks.current, Ending.with_opens, Outcome.{Outcome, refuses}, State.State}
use Rattle.nfs_names.proofs.Found.{checked_ok}
use Rattle.nfs_files.specs.{Lock.{lock, locked, locks_as, stateid_in}, OpenDowngrade.{bits, open_downgrade}, OpenTold.claimed, Ranges.{kind_of, wished}}
use Rattle.nfs_files.specs.{Open.{asking, by_claim, file_of, open_file, opened}, StateIds.{meant, wire_id}, Target.the_file}
use Rattle.nfs_files.specs.Open as of_open
use Rattle.nfs_files.specs.OpenParts as open_parts
use Rattle.nfs_files.proofs.{LockOwners.under_owner, OpensMoved.{answered, lock_is}, ToldLocks.granted_held, ToldOpens.asked_leads, TreeFiles.IsWhole, Wishes.wish_is, WrittenOps.current_number}
use Rattle.nfs_files.proofs.InSteps as in_steps
use Rattle.nfs_promises.specs.Answers.Asked.{StateGiven, StandsFor, IsOf, of_locker}
use Rattle.nfs_promises.specs.Answers.{Reasons.Reason, YesIsTrue.{IsTrueOf, stateid_of, risen, HasJoined, First, More, OpensTruly, NarrowsTruly, LocksTruly}}
use Rattle.nfs_promises.proofs.Answers.{Blaming.{Blames, checks_blame, held_blames, ends_then, ends_checks, answers_blame, passed_all, Ends}, Placed.no_reason}
use Rattle.nfs_promises.proofs.Answers.{FileReasons.{file_blames, the_file_is, wished_blames, wished_is}, OpenReasons.{claim_blames, last_all}}
use Rattle.nfs_promises.proofs.Answers.{HoldReasons.{Faults, lock_faults, meant_so, narrow_blames}, StateReasons.{stands_for, meant_blames, state_blames}}
use Rattle.nfs_promises.proofs.{Answers.TruthOfAnswers.{Off, Yes, refused_off, current_off, all_off, up_to}, Locks.OneStateEach.HasOneEach}
use Rattle.nfs_opens.specs.Steps.{◌>>=◌}

-- a refusal that has a reason is none of NFS4_OK
pub off_of : (s : State) (x : Context) (i : Item) {A : Type 0} (v : Result A Status) → Blames (Reason s x i) v → Blames Off v
off_of s x i (Err f) why = no_reason s x i f why
off_of s x i (Ok a) why = tt

-- a step whose refusals have their reasons
pub ends_off : {A : Type 0} (s : State) (x : Context) (i : Item) (Y : Outcome → Type 0) (v : Result A Status) (next : A → Result Outcome Status) → Blames (Reason s x i) v
    → ((a : A) → v ≡ Ok a → Ends Off Y (next a)) → Ends Off Y (v >>= next)
ends_off s x i Y v next why each = ends_then Off Y v next (off_of s x i v why) each

-- what is told is the stateid of the state that was left
pub told_id : (d : StateId) (seqid i n : ℕ) → d ≡ record { seqid = seqid; instance = i; number = n } → (t : State) → t.opens.instance ≡ i → (m : ℕ) → m ≡ n
    → wire_id d ≡ stateid_of t seqid m
told_id d seqid i n is t own m same =
    ap wire_id is ∙ (ap (λ i. wire_id (record { seqid = seqid; instance = i; number = n })) (sym own) ∙ ap (stateid_of t seqid) (sym same))

-- What is changed stands, under its number.

pub raised_in : (t : Table) (n : ℕ) (l : LockState) → lock_at t n ≡ Some l → In (raised l) (with_lock t n raised).locks × (l.number ≡ n)
raised_in t n l found =
    let of = find_in (λ (l : LockState). l.number == n) t.locks l found in
    let change : LockState → LockState = λ l. if l.number == n then raised l else l in
    let here : change l ≡ raised l = rw of.1 refl in
    (subst (λ (k : LockState). In k (map change t.locks)) here (map_in change t.locks l of.0), eqb-true _ _ of.1)

changed_in : (t : Table) (n : ℕ) (f : OpenState → OpenState) (o : OpenState) → open_at t n ≡ Some o → In (f o) (with_open t n f).opens × (o.number ≡ n)
changed_in t n f o found =
    let of = find_in (λ (o : OpenState). o.number == n) t.opens o found in
    let change : OpenState → OpenState = λ o. if o.number == n then f o else o in
    let here : change o ≡ f o = rw of.1 refl in
    (subst (λ (p : OpenState). In p (map change t.opens)) here (map_in change t.opens o of.0), eqb-true _ _ of.1)

pub lock_rises : (t : Table) (n : ℕ) (l : LockState) → lock_at t n ≡ Some l → l.number ≡ n → (raised l).seqid ≡ risen (option_map (λ (l : LockState). l.seqid) (lock_at t l.number))
lock_rises t n l found same = sym (ap (λ o. risen (option_map (λ (l : LockState). l.seqid) o)) (ap (lock_at t) same ∙ found))

-- LOCK

-- the lock state that it names
record IsLeft (t : Table) (w : Wish) (did : StateId × Table) : Type 0 where
  pub state : LockState
  pub there : In state did.1.locks
  pub client : state.client ≡ w.client
  pub file : state.file ≡ w.file
  pub seqid : state.seqid ≡ risen (option_map (λ (l : LockState). l.seqid) (lock_at t state.number))
  pub id : did.0 ≡ record { seqid = state.seqid; instance = t.instance; number = state.number }
  pub instance : did.1.instance ≡ t.instance

lock_left : (t : Table) → IsTable t → (w : Wish) (did : StateId × Table) → IsLocked t w did → IsLeft t w did
lock_left t table w did (inl more) =
    let n = raised_in t more.number more.state more.found in
    let named : ℕ → StateId = λ m. record { seqid = (raised more.state).seqid; instance = t.instance; number = m } in
    record {
      state = raised more.state;
      there = subst (λ (u : Table). In (raised more.state) u.locks) (sym more.left) n.0;
      client = (more.own table).0;
      file = (more.own table).1;
      seqid = lock_rises t more.number more.state more.found n.1;
      id = more.answer ∙ ap named (sym n.1);
      instance = ap (λ (u : Table). u.instance) more.left;
    }
lock_left t table w did (inr first) =
    let new = first_state t w first.owner first.opened in
    let none : lock_at t (t.last + 1) ≡ None = at_above (λ (l : LockState). l.number) 1 (suc t.last) (t.last + 1) t.locks table.locks (omega arith) in
    record {
      state = new;
      there = subst (λ (u : Table). In new u.locks) (sym first.left) (last_in t.locks new);
      client = refl;
      file = refl;
      seqid = sym (ap (λ o. risen (option_map (λ (l : LockState). l.seqid) o)) none);
      id = first.answer;
      instance = ap (λ (u : Table). u.instance) first.left;
    }

known_number : (t : Table) (id : StateId) (w : Wish) (did : StateId × Table) → lock_known t id w ≡ Ok did → did.0.number ≡ id.number
known_number t id w did e =
    let seat = came (map_err Refused (judge t id w.client (Some w.file) LockOnly)) _ did e in
    let u = came (lock_judged t id.number (access_in seat.found) w) _ did seat.then in
    let l = came (ok_or (lock_at t id.number) (Refused S.BadStateId)) _ did u.then in
    sym (ap (λ (d : StateId × Table). d.0.number) (ok_is refl l.then))

module _ (s : State) (whole : IsWhole s) (x : Context) where
  module _ (a : Lock) (id : StateId) (w : Wish) (did : StateId × Table) where
    -- it is the owner's that is given, or the one whose stateid is
    whose : (k : Locker) → a.locker ≡ k → meant x Any (stateid_in k) ≡ Ok id → locks_as s.opens k id w ≡ Ok did → (l : LockState) → In l did.1.locks → l.number ≡ did.0.number
        → IsOf x (Operation (Op.Lock a)) k l
    whose (OpenOwner o) is means granted l there number = under_owner s.opens id o.lock_owner.owner w did whole.table granted l there number
    whose (LockOwner o) is means granted l there number = record {
      given = of_locker (LockOwner o);
      is = ap (λ k. Some (of_locker k)) is;
      id = id;
      means = stands_for x (of_locker (LockOwner o)) id means;
      names = sym (number ∙ known_number s.opens id w did granted);
    }

    locks : wished s x a.locktype a.offset a.length ≡ Ok w → meant x Any (stateid_in a.locker) ≡ Ok id → locks_as s.opens a.locker id w ≡ Ok did
        → LocksTruly s x a (spell_result (Res.Lock (wire_id did.0))) (with_opens s did.1)
    locks e means granted =
        let its = wish_is s x a.locktype a.offset a.length w e in
        let at = wished_is s x a.locktype a.offset a.length w e in
        let is = lock_is s.opens a.locker id w did granted in
        let l = lock_left s.opens whole.table w did is in
        let named : l.state.number ≡ did.0.number = sym (ap (λ (i : StateId). i.number) l.id) in
        record {
          state = l.state;
          there = l.there;
          own = (l.client ∙ at.0, whose a.locker refl means granted l.state l.there named);
          file = at.1 ∙ ap Some (sym l.file);
          holds = λ b within. granted_held (record { state = l.state.number; client = x.client; opened = 0; file = l.state.file; kind = kind_of a.locktype; first = b; last = b })
              s.opens w did is (sym named) l.file (sym at.2) (subst (λ first. first ≤ b) (sym its.first) within.0) (up_to a.offset a.length w.last b its.last within) b (omega arith) (omega arith);
          seqid = l.seqid;
          told = ap (λ i. spell_result (Res.Lock i)) (told_id did.0 l.state.seqid s.opens.instance l.state.number l.id (with_opens s did.1) l.instance l.state.number refl);
        }

  pub lock_true : HasOneEach s.opens → (a : Lock) → Yes (IsTrueOf s x (Operation (Op.Lock a))) (lock s x a)
  unfolding lock
  lock_true each a =
      let i : Item = Operation (Op.Lock a) in
      let P : List ℕ → State → Type 0 = IsTrueOf s x i in
      answers_blame Off (Yes P) s x Num.Lock _ (refused_off P s x Num.Lock) (
      ends_off s x i (Yes P) (wished s x a.locktype a.offset a.length) _ (wished_blames s whole x i refl refl a.locktype a.offset a.length refl) (λ w asks.
      ends_then Off (Yes P) (require (not a.reclaim) S.NoGrace) _ (held_blames Off (not a.reclaim) S.NoGrace (λ off. refl)) (λ u e.
      ends_off s x i (Yes P) (meant x Any (stateid_in a.locker)) _ (meant_so s whole x a a.locker refl) (λ id means.
      came_to a w id asks means (locks_as s.opens a.locker id w) refl (lock_faults s whole x each a w asks id means)))))
    where
      came_to : (a : Lock) (w : Wish) (id : StateId) → wished s x a.locktype a.offset a.length ≡ Ok w → meant x Any (stateid_in a.locker) ≡ Ok id
          → (v : Result (StateId × Table) OpenFault) → locks_as s.opens a.locker id w ≡ v → Faults (Reason s x (Operation (Op.Lock a))) (λ h. Reason s x (Operation (Op.Lock a)) S.Denied) v
          → Yes (IsTrueOf s x (Operation (Op.Lock a))) (locked s x v)
      came_to a w id asks means (Ok did) e why ok = locks a id w did asks means e
      came_to a w id asks means (Err (Refused f)) e why ok = refused_off (IsTrueOf s x (Operation (Op.Lock a))) s x Num.Lock f (no_reason s x (Operation (Op.Lock a)) f why) ok
      came_to a w id asks means (Err (Denied h)) e why ok = absurd (false≢true ok)
      came_to a w id asks means (Err Memory) e why ok = absurd why

  -- OPEN_DOWNGRADE

  some_share : (o : Option Share) → is_none o ≡ false → o ≡ Some (unwrap_or o neither)
  some_share None e = absurd (false≢true (sym e))
  some_share (Some share) e = refl

  narrows : (a : OpenDowngrade) (id : StateId) (file : ℕ) (did : StateId × Table) → x.current ≡ Some file
      → StandsFor x (record { given = a.open_stateid; sort = OpenOnly; form = Own; here = true }) id → is_none (share_of a.share_access) ≡ false → is_none (share_of a.share_deny) ≡ false
      → opening.downgrade s.opens id x.client file (bits a.share_access) (bits a.share_deny) ≡ Ok did
      → NarrowsTruly s x a (spell_result (Res.OpenDowngrade (wire_id did.0))) (with_opens s did.1)
  narrows a id file did at means access deny e =
      let change = opening.narrows (bits a.share_access) (bits a.share_deny) in
      let u = narrowed_is s.opens id x.client file (bits a.share_access) (bits a.share_deny) did e in
      let n = changed_in s.opens id.number change u.state u.found in
      record {
        state = change u.state;
        there = subst (λ (t : Table). In (change u.state) t.opens) (sym u.left) n.0;
        client = u.mine;
        file = at ∙ ap Some (sym u.there);
        given = record { given = _; is = refl; id = id; means = means; names = sym n.1 };
        access = some_share (share_of a.share_access) access;
        deny = some_share (share_of a.share_deny) deny;
        seqid = sym (ap (λ o. risen (option_map (λ (o : OpenState). o.seqid) o)) (ap (open_at s.opens) n.1 ∙ u.found));
        told = ap (λ i. spell_result (Res.OpenDowngrade i)) (told_id did.0 (change u.state).seqid s.opens.instance id.number u.answer (with_opens s did.1)
            (ap (λ (t : Table). t.instance) u.left) u.state.number n.1);
      }

  pub downgrade_true : (a : OpenDowngrade) → Yes (IsTrueOf s x (Operation (Op.OpenDowngrade a))) (open_downgrade s x a)
  unfolding open_downgrade
  downgrade_true a =
      let i : Item = Operation (Op.OpenDowngrade a) in
      let k : StateGiven = record { given = a.open_stateid; sort = OpenOnly; form = Own; here = true } in
      let P : List ℕ → State → Type 0 = IsTrueOf s x i in
      let checks = (is_none (share_of a.share_access), S.Inval) ∷ (is_none (share_of a.share_deny), S.Inval) ∷ [] in
      answers_blame Off (Yes P) s x Num.OpenDowngrade _ (refused_off P s x Num.OpenDowngrade) (
      ends_off s x i (Yes P) (the_file s x) _ (file_blames s whole x i refl refl) (λ d e.
      (let at = current_number s x d (the_file_is s x d e) in
      ends_off s x i (Yes P) (meant x Own a.open_stateid) _ (meant_blames s x i k refl) (λ id means.
      (let stands = stands_for x k id means in
      ends_off s x i (Yes P) (judge s.opens id x.client (Some d.number) OpenOnly) _ (state_blames s x i k refl id stands x.client (Some d.number) refl (refl, at)) (λ n e.
      ends_checks Off (Yes P) checks _ (all_off checks refl) (λ u.
      (let passed = all_passed checks (passed_all checks u) in
      ends_off s x i (Yes P) (opening.downgrade s.opens id x.client d.number (bits a.share_access) (bits a.share_deny)) _ (narrow_blames s whole x a id d.number stands at) (λ did e ok.
      narrows a id d.number did at stands passed.0 passed.1.0 e)))))))))

-- OPEN

-- an OPEN that answers a stateid makes the file the current one to which its claim then leads
abbrev Leads : Context → Open → Outcome → Type 0
Leads x a o = (k : OpenOk) → o.result ≡ Res.Open k → claimed o.state.tree x a.claim ≡ o.context.current

leads : (s : State) (x : Context) (now : Time) (a : Open) → Leads x a (open_file s x now a)
leads s x now a = subst (Leads x a) (sym (in_steps.open_is s x now a))
    (answered (Leads x a) s x Num.Open _ (opened s x now a) (λ status k e. absurd cc)
    (λ f granted k e. asked_leads s x now a f (checked_ok (open_parts.asked_for s x a) (of_open.last_checks s x a) f granted).0))

-- the open that is told, by what the owner had of the file
record IsJoined (s : State) (x : Context) (a : Open) (file : ℕ) (did : opening.Opened) : Type 0 where
  pub state : OpenState
  pub there : In state did.after.opens
  pub client : state.client ≡ x.client
  pub owner : state.owner ≡ a.owner.owner
  pub file_is : state.file ≡ file
  pub bits_are : HasJoined s a state
  pub seqid : state.seqid ≡ risen (option_map (λ (o : OpenState). o.seqid) (open_at s.opens state.number))
  pub id : did.id ≡ record { seqid = state.seqid; instance = did.after.instance; number = state.number }

joined_as : (s : State) → IsWhole s → (x : Context) (a : Open) (file : ℕ) (o : Option OpenState) → opening.own_open s.opens (asking x a file) ≡ o
    → IsJoined s x a file (opening.opens_by s.opens (asking x a file) o)
joined_as s whole x a file (Some p) own =
    let of = find_in (is_own (asking x a file)) s.opens.opens p own in
    let tests = and_parts _ _ of.1 in
    let owns = and_parts _ _ tests.1 in
    let change = opening.joins (asking x a file) in
    let found : open_at s.opens p.number ≡ Some p = at_of_in (λ (o : OpenState). o.number) 1 (suc s.opens.last) s.opens.opens p whole.table.opens of.0 in
    record {
      state = change p;
      there = (changed_in s.opens p.number change p found).0;
      client = eqb-true _ _ owns.0;
      owner = (bytes_eq-Decides p.owner a.owner.owner).0 owns.1;
      file_is = eqb-true _ _ tests.0;
      bits_are = More p of.0 refl refl refl;
      seqid = sym (ap (λ o. risen (option_map (λ (o : OpenState). o.seqid) o)) found);
      id = refl;
    }
joined_as s whole x a file None own =
    let asked = asking x a file in
    let new = opening.new_open s.opens asked in
    let none : open_at s.opens (s.opens.last + 1) ≡ None = at_above (λ (o : OpenState). o.number) 1 (suc s.opens.last) (s.opens.last + 1) s.opens.opens whole.table.opens (omega arith) in
    record {
      state = new;
      there = last_in s.opens.opens new;
      client = refl;
      owner = refl;
      file_is = refl;
      bits_are = First (λ p there mine its here. false≢true (sym (none_in (is_own asked) s.opens.opens p own there) ∙ own_is p mine its here)) refl refl;
      seqid = sym (ap (λ o. risen (option_map (λ (o : OpenState). o.seqid) o)) none);
      id = refl;
    }
  where
    own_is : (p : OpenState) → p.client ≡ x.client → p.owner ≡ a.owner.owner → p.file ≡ file → is_own (asking x a file) p ≡ true
    own_is p mine its here = rw (eq-eqb p.file file here, eq-eqb p.client x.client mine, (bytes_eq-Decides p.owner a.owner.owner).1 its) refl

module _ (s : State) (whole : IsWhole s) (x : Context) (now : Time) (a : Open) where
  abbrev opening_item : Item
  opening_item = Operation (Op.Open a)

  opens : (f : _) → Leads x a (opened s x now a f) → (let o = opened s x now a f in OpensTruly s x a (spell_result o.result) o.state)
  opens f led =
      let file = file_of s.tree f in
      let j = joined_as s whole x a file (opening.own_open s.opens (asking x a file)) refl in
      record {
        state = j.state;
        there = j.there;
        client = j.client;
        owner = j.owner;
        file = led _ refl ∙ ap Some (sym j.file_is);
        bits = j.bits_are;
        seqid = j.seqid;
        answer = _;
        told = refl;
        stateid = ap wire_id j.id;
      }

  -- it is refused, or opens what its claim came to
  pub open_ends : (Y : Outcome → Type 0) → ((f : Status) → Off f → Y (refuses s x Num.Open f))
      → ((d : Node) (f : _) → current s x ≡ Ok d → by_claim s x a a.claim d ≡ Ok f → Y (opened s x now a f)) → Y (open_file s x now a)
  unfolding open_file
  open_ends Y refused done =
      let checks = (a.share_access % 4 == 0, S.Inval) ∷ (is_none (share_of a.share_deny), S.Inval) ∷ [] in
      answers_blame Off Y s x Num.Open _ refused (ends_then Off Y (current s x) _ (current_off s x) (λ d e.
      ends_checks Off Y checks _ (all_off checks refl) (λ u.
      ends_off s x opening_item Y (by_claim s x a a.claim d) _ (claim_blames s whole x a a.claim refl d e) (λ f its.
      ends_off s x opening_item Y (in_order (of_open.last_checks s x a f)) _
      (checks_blame (Reason s x opening_item) (of_open.last_checks s x a f) (last_all s whole x a d f e its)) (λ u passed. done d f e its)))))

  -- where the claim leads to the current file
  abbrev Tells : Outcome → Type 0
  Tells o = Leads x a o → Yes (IsTrueOf s x opening_item) o

  pub open_true : Yes (IsTrueOf s x opening_item) (open_file s x now a)
  open_true =
      open_ends Tells (λ f off led. refused_off (IsTrueOf s x opening_item) s x Num.Open f off) (λ d f e its led ok. opens f led) (leads s x now a)
