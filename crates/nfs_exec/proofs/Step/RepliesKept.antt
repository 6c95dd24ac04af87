-- A request that runs in a session: its room, the head that is closed over its results, and the reply that its slot keeps.
use Rattle.std.proofs.Common.{◌≡◌, ℕ, suc, ◌+◌, ◌-◌, ◌≤◌, ◌<◌, Bool, true, false, cond, ltb, List, [], ◌∷◌, ◌++◌, length, take, drop, Option, Some, None, refl}
use Rattle.std.proofs.{Common.{Result, Ok, sym, ◌∙◌, ap, subst, arith, inl, inr}, lemmas.Bool.{cases_Bool, ltb-false}}
use Rattle.std.proofs.{lemmas.List.{length-append, length-take, length-drop, append_assoc}, Math.Seq.drop-append_seam}
use Rattle.nfs_xdr.specs.{Caller.Caller, SheetState.{SheetState, HasRoom, Puts}, declared.status.Status.Status, declared.status.Status.TheVariants.Nfs4Ok}
use Rattle.nfs_compound.specs.{declared.channel_attrs.ChannelAttrs.ChannelAttrs, declared.op.Item.Item, declared.op.Item.TheVariants.Operation, Request.Request, declared.session_args.Sequence.Sequence}
use Rattle.nfs_compound.specs.declared.op.Op.TheVariants as Op
use Rattle.nfs_slots.specs.{Slot.judge, declared.slot.Verdict.Verdict, declared.slot.Verdict.TheVariants.{Fresh, Again, FalseRetry, Misordered, NoSlot}}
use Rattle.nfs_results.specs.{declared.res.Res.Res, Results.{spell_result, refusal, spell_compound_head}, OpenHead.{HeadsAt, HasHead, SetsHead}}
use Rattle.nfs_exec.proofs.Step.{RefusalsFit.refusal_short, Creating.the_rest, Terms.or_refuses}
use Rattle.nfs_results.proofs.Lengths.{length_result, length_head_within}
use Rattle.nfs_results.proofs.Heads.{length_head}
use Rattle.nfs_sessions.specs.{Sessions.{session_at, Session, SessionTable, keep}}
use Rattle.nfs_sessions.specs.{declared.id.SessionId.SessionId, Id.id_of, SessionTables.MayKeep}
use Rattle.nfs_names.specs.{Outcome.is_ok, declared.context.Context.Context}
use Rattle.nfs_exec.specs.Step.Machine.{Machine, MachineOutcome}
use Rattle.nfs_exec.specs.Step.Sequence.{highest_at, compared, Sequenced, Runs, by_slot, sequence_ok}
use Rattle.nfs_exec.specs.Step.Parts.{past, slot_says, by_session, slot_fault, fresh_fault}
use Rattle.nfs_exec.specs.{Step.Run.{Ran, run, in_room, follow, is_here, behind_here}, Step.Compound.renewed, declared.run.Ran.{Ran as Told}}
use Rattle.nfs_exec.specs.Step.View.{RunsTo, HasReplyRoom}
use Rattle.nfs_lease.specs.Renewals.{Book, with_renewal}
use Rattle.std.specs.Option.{IsSomeAnd}

-- what it means that a request runs
pub record IsFresh (r : Request) (who : Caller) (size : ℕ) (s : Sequence) (o : Option Session) (c : ChannelAttrs) : Type 0 where
  pub session : Session
  pub found : o ≡ Some session
  pub channel : session.channel ≡ c
  pub fresh : judge session.slots s.slotid s.sequenceid who.uid (compared r) ≡ Fresh
  pub fits : size ≤ c.maxrequestsize
  pub few : r.declared ≤ c.maxoperations

past_runs : (f : Option Status) (v : Result Sequenced Status) (c : ChannelAttrs) → past f v ≡ Runs c → (f ≡ None) × (or_refuses v ≡ Runs c)
past_runs None v c e = (refl, e)
past_runs (Some s) v c e = absurd cc

fresh_runs : (r : Request) (size : ℕ) (s : Sequence) (x : Session) (v : Verdict) (c : ChannelAttrs)
    → slot_says r size s x v ≡ Runs c → (v ≡ Fresh) × (fresh_fault r size x.channel ≡ None) × (x.channel ≡ c)
fresh_runs r size s x NoSlot c e = absurd cc
fresh_runs r size s x Misordered c e = absurd cc
fresh_runs r size s x FalseRetry c e = absurd cc
fresh_runs r size s x Again c e = absurd cc
fresh_runs r size s x Fresh c e = (let parts = past_runs (fresh_fault r size x.channel) (Ok (Runs x.channel)) c e in (refl, parts.0, cc))

passed : (a b : Bool) (x y : Status) → cond a (Some x) (cond b (Some y) None) ≡ None → (a ≡ false) × (b ≡ false)
passed true b x y e = absurd cc
passed false true x y e = absurd cc
passed false false x y e = (refl, refl)

pub runs_means : (r : Request) (who : Caller) (size : ℕ) (s : Sequence) (o : Option Session) (c : ChannelAttrs)
    → by_session r who size s o ≡ Runs c → IsFresh r who size s o c
runs_means r who size s None c e = absurd cc
runs_means r who size s (Some session) c e =
    let at = past_runs (slot_fault s session.channel) (by_slot r size s session (judge session.slots s.slotid s.sequenceid who.uid (compared r))) c e in
    let means = fresh_runs r size s session (judge session.slots s.slotid s.sequenceid who.uid (compared r)) c at.1 in
    let tests = passed (ltb session.channel.maxrequestsize size) (ltb session.channel.maxoperations r.declared) _ _ means.1 in
    let request : size ≤ session.channel.maxrequestsize = ltb-false session.channel.maxrequestsize size tests.0 in
    let operations : r.declared ≤ session.channel.maxoperations = ltb-false session.channel.maxoperations r.declared tests.1 in
    record {
      session = session;
      found = refl;
      channel = means.2;
      fresh = means.0;
      fits = subst (λ (c : ChannelAttrs). size ≤ c.maxrequestsize) means.2 request;
      few = subst (λ (c : ChannelAttrs). r.declared ≤ c.maxoperations) means.2 operations;
    }

-- the bytes of SEQUENCE's result
pub accepted_long : (s : Sequence) (c : ChannelAttrs) → length s.sessionid ≡ 16 → length (spell_result (Res.Sequence (sequence_ok s c))) ≤ 44
accepted_long s c long = length_result (Operation (Op.Sequence s)) (Res.Sequence (sequence_ok s c)) long (refl, tt, tt)

-- The head that is closed over the results.

spelled_whole : (a h s r : List ℕ) → ((a ++ h) ++ s) ++ r ≡ (a ++ h) ++ (s ++ r)
spelled_whole a h s r = append_assoc (a ++ h) s r

put_thrice : (before first second third : SheetState) (h s r : List ℕ) → Puts before first h
    → Puts first second s → Puts second third r → third.bytes ≡ (before.bytes ++ h) ++ (s ++ r)
put_thrice before first second third h s r one two three =
    three.bytes ∙ ap (λ xs. xs ++ r) (two.bytes ∙ ap (λ xs. xs ++ s) one.bytes) ∙ spelled_whole before.bytes h s r

pub has_head : (before first second third : SheetState) (status_at count_at : ℕ) (tag s r : List ℕ) → HeadsAt status_at count_at before.bytes tag →
    Puts before first (spell_compound_head Nfs4Ok tag 0) → Puts first second s → Puts second third r →
    HasHead status_at count_at third.bytes
has_head before first second third status_at count_at tag s r places one two three = record {
  before = before.bytes;
  status = Nfs4Ok;
  tag = tag;
  count = 0;
  behind = s ++ r;
  places = places;
  spelled = put_thrice before first second third (spell_compound_head Nfs4Ok tag 0) s r one two three;
}

pub closed : (before first second third last : SheetState) (status_at count_at : ℕ) (status : Status) (count : ℕ) (tag s r : List ℕ) →
    HeadsAt status_at count_at before.bytes tag → Puts before first (spell_compound_head Nfs4Ok tag 0) → Puts first second s → Puts second third r →
    SetsHead status_at count_at status count third last → Puts before last (spell_compound_head status tag count ++ (s ++ r))
closed before first second third last status_at count_at status count tag s r places one two three sets = record {
  bytes = sets.bytes before.bytes Nfs4Ok tag 0 (s ++ r) places (put_thrice before first second third (spell_compound_head Nfs4Ok tag 0) s r one two three)
      ∙ append_assoc before.bytes (spell_compound_head status tag count) (s ++ r);
  room = sets.room ∙ three.room ∙ two.room ∙ one.room;
}

-- what stands behind the place where a text was put is that text
pub text_of : (old new : SheetState) (text : List ℕ) (start : ℕ) → Puts old new text
    → start ≡ length old.bytes → take (length new.bytes - start) (drop start new.bytes) ≡ text
text_of old new text start put at = the_rest start new.bytes ∙ ap (λ n. drop n new.bytes) at
    ∙ ap (drop (length old.bytes)) put.bytes ∙ drop-append_seam old.bytes text

pub starts_within : (old new : SheetState) (text : List ℕ) (start : ℕ) → Puts old new text → start ≡ length old.bytes → start ≤ length new.bytes
starts_within old new text start put at = (let whole = ap length put.bytes ∙ length-append old.bytes text in omega (arith, whole, at))

-- no more are run than stand in the list

follow_few : (o : MachineOutcome) (rest : Ran) (n : ℕ) → rest.count ≤ n → (follow o rest).count ≤ suc n
follow_few o rest n few = elim (cases_Bool (is_ok o.status)) [
  | inl e ↦ rw e (omega (arith, few))
  | inr e ↦ rw e (omega arith)
]

pub run_few : (limit sofar now : ℕ) (choice : Option ℕ) (m : Machine) (x : Context) (items : List Item)
    → (run limit sofar now choice m x items).count ≤ length items
run_few limit sofar now choice m x [] = omega arith
run_few limit sofar now choice m x (item ∷ more) =
    let s = in_room limit sofar now (is_here choice) m x item in
    let next = sofar + length s.outcome.result in
    follow_few s.outcome (run limit next now (behind_here choice) s.outcome.machine s.context more)
    (length more) (run_few limit next now (behind_here choice) s.outcome.machine s.context more)

pub head_fits : (sheet : SheetState) (tag : List ℕ) → length tag ≤ 1024 → HasReplyRoom sheet → HasRoom sheet (spell_compound_head Nfs4Ok tag 0)
head_fits sheet tag short room = (let h = length_head_within Nfs4Ok tag 0 short in omega (arith, h, room))

-- SEQUENCE's result behind the head: it fits, and so does the refusal of what follows
pub first_long : (old mid : SheetState) (tag text : List ℕ) → length tag ≤ 1024
    → Puts old mid (spell_compound_head Nfs4Ok tag 0) → length mid.bytes ≤ length old.bytes + 1036
first_long old mid tag text short put =
    let h = length_head_within Nfs4Ok tag 0 short in
    let long = ap length put.bytes ∙ length-append old.bytes (spell_compound_head Nfs4Ok tag 0) in
    omega (arith, h, long)

pub second_fits : (old mid : SheetState) (tag text : List ℕ) → length tag ≤ 1024 → HasReplyRoom old
    → Puts old mid (spell_compound_head Nfs4Ok tag 0) → length text ≤ 44 → HasRoom mid text
second_fits old mid tag text short room put long =
    let h = first_long old mid tag text short put in
    let same = put.room in
    omega (arith, h, room, long, same)

pub run_fits : (old mid new : SheetState) (tag text : List ℕ) (start limit : ℕ) → length tag ≤ 1024 →
    Puts old mid (spell_compound_head Nfs4Ok tag 0) → Puts mid new text → length text ≤ 44 → start ≡ length old.bytes → 2048 ≤ limit →
    length new.bytes + 36 ≤ start + limit
run_fits old mid new tag text start limit short one two long at large =
    let h = first_long old mid tag text short one in
    let more = ap length two.bytes ∙ length-append mid.bytes text in
    omega (arith, h, more, long, at, large)

pub within_64 : (count limit sofar now : ℕ) (choice : Option ℕ) (m : Machine) (x : Context) (items : List Item)
    → count ≡ (run limit sofar now choice m x items).count → length items ≤ 64 → count + 1 < 4294967296
within_64 count limit sofar now choice m x items is few = (let h = run_few limit sofar now choice m x items in omega (arith, is, few, h))

-- the reply so far, when the run begins
pub begun_is : (before first second : SheetState) (tag text : List ℕ) (start : ℕ) →
    Puts before first (spell_compound_head Nfs4Ok tag 0) → Puts first second text → start ≡ length before.bytes →
    24 + (length second.bytes - start) ≡ 24 + length (spell_compound_head Nfs4Ok tag 0) + length text
begun_is before first second tag text start one two at =
    let h = ap length one.bytes ∙ length-append before.bytes (spell_compound_head Nfs4Ok tag 0) in
    let more = ap length two.bytes ∙ length-append first.bytes text in
    omega (arith, h, more, at)

pub put_closed : (before first second third last : SheetState) (status_at count_at : ℕ) (tag s : List ℕ) (ran : Ran) (told : Told) (m : Machine) →
    HeadsAt status_at count_at before.bytes tag → Puts before first (spell_compound_head Nfs4Ok tag 0) → Puts first second s →
    RunsTo ran told m second third → SetsHead status_at count_at told.status (told.count + 1) third last →
    Puts before last (spell_compound_head ran.status tag (suc ran.count) ++ (s ++ ran.results))
put_closed before first second third last status_at count_at tag s ran told m places one two runs sets =
    let put = closed before first second third last status_at count_at told.status (told.count + 1) tag s ran.results places one two runs.put sets in
    let more : told.count + 1 ≡ suc ran.count = (let same = runs.count in omega (arith, same)) in
    subst (λ (t : Status). Puts before last (spell_compound_head t tag (suc ran.count) ++ (s ++ ran.results))) runs.status
    (subst (λ n. Puts before last (spell_compound_head told.status tag n ++ (s ++ ran.results))) more put)

pub last_fits : (before first second third last : SheetState) (status_at count_at limit start : ℕ) (tag s : List ℕ) (ran : Ran) (told : Told) (m : Machine) →
    HeadsAt status_at count_at before.bytes tag → Puts before first (spell_compound_head Nfs4Ok tag 0) → Puts first second s →
    RunsTo ran told m second third → SetsHead status_at count_at told.status (told.count + 1) third last →
    length third.bytes + 24 ≤ start + limit → start ≡ length before.bytes → length last.bytes + 24 ≤ length before.bytes + limit
last_fits before first second third last status_at count_at limit start tag s ran told m places one two runs sets fits at =
    let put = closed before first second third last status_at count_at told.status (told.count + 1) tag s ran.results places one two runs.put sets in
    let text = s ++ ran.results in
    let here = ap length (put_thrice before first second third (spell_compound_head Nfs4Ok tag 0) s ran.results one two runs.put)
    ∙ length-append (before.bytes ++ spell_compound_head Nfs4Ok tag 0) text in
    let front = length-append before.bytes (spell_compound_head Nfs4Ok tag 0) in
    let there = ap length put.bytes ∙ length-append before.bytes (spell_compound_head told.status tag (told.count + 1) ++ text) in
    let back = length-append (spell_compound_head told.status tag (told.count + 1)) text in
    let one_head = length_head Nfs4Ok tag 0 in
    let other_head = length_head told.status tag (told.count + 1) in
    omega (arith, fits, at, here, front, there, back, one_head, other_head)

-- the machine behind a request that ran: its lease is renewed, and its slot keeps the reply
pub renewed_machine : (m : Machine) (s : Sequence) (now : ℕ) (id : SessionId) (b : Book)
    → id ≡ id_of s.sessionid → b ≡ with_renewal m.leases id.client now → record m { leases = b } ≡ renewed m now s
renewed_machine m s now id b read book = ap (λ (b : Book). record m { leases = b }) (book ∙ ap (λ (i : SessionId). with_renewal m.leases i.client now) read)

pub kept_machine : (was left : Machine) (r : Request) (who : Caller) (s : Sequence) (text : List ℕ) (id : SessionId) (t : SessionTable) (args reply : List ℕ) →
    id ≡ id_of s.sessionid → t ≡ keep was.sessions id s.slotid s.sequenceid who.uid args reply → args ≡ compared r → reply ≡ text → was ≡ left →
    record was { sessions = t } ≡ record left { sessions = keep left.sessions (id_of s.sessionid) s.slotid s.sequenceid who.uid (compared r) text }
kept_machine was left r who s text id t args reply read table same whole is =
    ap (λ (t : SessionTable). record was { sessions = t }) (table ∙ ap (λ (i : SessionId). keep was.sessions i s.slotid s.sequenceid who.uid args reply) read
    ∙ ap (λ a. keep was.sessions (id_of s.sessionid) s.slotid s.sequenceid who.uid a reply) same
    ∙ ap (λ a. keep was.sessions (id_of s.sessionid) s.slotid s.sequenceid who.uid (compared r) a) whole)
    ∙ ap (λ (k : Machine). record k { sessions = keep k.sessions (id_of s.sessionid) s.slotid s.sequenceid who.uid (compared r) text }) is

-- what is compared is no longer than the arguments
compared_within : (n : ℕ) (xs : List ℕ) → length (take n xs ++ drop (n + 4) xs) ≤ length xs
compared_within n xs =
    let both = length-append (take n xs) (drop (n + 4) xs) in
    let front = length-take n xs in
    let rest = length-drop (n + 4) xs in
    omega (arith, both, front, rest)

-- the slot of a request that runs may keep what it came to
pub may_keep : (now was : SessionTable) (r : Request) (who : Caller) (size : ℕ) (s : Sequence) (c : ChannelAttrs) (id : SessionId) (args reply text : List ℕ)
    (old new : SheetState) → now ≡ was → id ≡ id_of s.sessionid → length r.bytes ≤ size →
    by_session r who size s (session_at was (id_of s.sessionid)) ≡ Runs c → args ≡ compared r →
    reply ≡ text → Puts old new text → length new.bytes + 24 ≤ length old.bytes + c.maxresponsesize →
    IsSomeAnd (session_at now id) (λ x. MayKeep x s.slotid s.sequenceid who.uid args reply)
may_keep now was r who size s c id args reply text old new table read short runs same whole put fits =
    let is = runs_means r who size s (session_at was (id_of s.sessionid)) c runs in
    let found : session_at now id ≡ Some is.session = ap (λ (t : SessionTable). session_at t id) table ∙ ap (session_at was) read ∙ is.found in
    let request = is.fits in
    let long = ap length put.bytes ∙ length-append old.bytes text in
    let channel = is.channel in
    subst (λ (o : Option Session). IsSomeAnd o (λ x. MayKeep x s.slotid s.sequenceid who.uid args reply)) (sym found)
    (subst (λ a. MayKeep is.session s.slotid s.sequenceid who.uid a reply) (sym same)
    (subst (λ t. MayKeep is.session s.slotid s.sequenceid who.uid (compared r) t) (sym whole) (record {
      fresh = is.fresh;
      args_fit =
          let within = compared_within (highest_at r) r.bytes in
          subst (λ (g : ChannelAttrs). length (compared r) ≤ g.maxrequestsize) (sym channel) (omega (arith, within, short, request));
      reply_fits = subst (λ (g : ChannelAttrs). 24 + length text ≤ g.maxresponsesize) (sym channel) (omega (arith, long, fits));
    })))

pub any_head_fits : (sheet : SheetState) (status : Status) (tag : List ℕ) (count : ℕ)
    → length tag ≤ 1024 → HasReplyRoom sheet → HasRoom sheet (spell_compound_head status tag count)
any_head_fits sheet status tag count short room = (let h = length_head_within status tag count short in omega (arith, h, room))

-- a refusal behind the head
pub refusal_fits : (old mid : SheetState) (status : Status) (tag : List ℕ) (count : ℕ) (n : ℕ) (s : Status) (r : Res) → length tag ≤ 1024
    → HasReplyRoom old → Puts old mid (spell_compound_head status tag count) → r ≡ refusal n s → HasRoom mid (spell_result r)
refusal_fits old mid status tag count n s r short room put is =
    let h = length_head_within status tag count short in
    let long = ap length put.bytes ∙ length-append old.bytes (spell_compound_head status tag count) in
    let same = put.room in
    let few : length (spell_result r) ≤ 12 = subst (λ (r : Res). length (spell_result r) ≤ 12) (sym is) (refusal_short n s) in
    omega (arith, h, long, same, few, room)

-- room for the result of an operation that stands alone
pub alone_fits : (old mid : SheetState) (tag : List ℕ) → length tag ≤ 1024 → HasReplyRoom old
    → Puts old mid (spell_compound_head Nfs4Ok tag 0) → length mid.bytes + 2096 ≤ mid.room
alone_fits old mid tag short room put =
    let h = first_long old mid tag [] short put in
    let same = put.room in
    omega (arith, h, room, same)

-- the head that is closed over one result
pub closed_one : (before first second last : SheetState) (status_at count_at : ℕ) (status : Status) (count : ℕ) (tag s : List ℕ) →
    HeadsAt status_at count_at before.bytes tag → Puts before first (spell_compound_head Nfs4Ok tag 0) → Puts first second s →
    SetsHead status_at count_at status count second last → Puts before last (spell_compound_head status tag count ++ s)
closed_one before first second last status_at count_at status count tag s places one two sets = record {
  bytes = sets.bytes before.bytes Nfs4Ok tag 0 s places (two.bytes ∙ ap (λ xs. xs ++ s) one.bytes)
      ∙ append_assoc before.bytes (spell_compound_head status tag count) s;
  room = sets.room ∙ two.room ∙ one.room;
}

pub has_one : (before first second : SheetState) (status_at count_at : ℕ) (tag s : List ℕ) → HeadsAt status_at count_at before.bytes tag
    → Puts before first (spell_compound_head Nfs4Ok tag 0) → Puts first second s → HasHead status_at count_at second.bytes
has_one before first second status_at count_at tag s places one two = record {
  before = before.bytes;
  status = Nfs4Ok;
  tag = tag;
  count = 0;
  behind = s;
  places = places;
  spelled = two.bytes ∙ ap (λ xs. xs ++ s) one.bytes;
}
