-- The number of a slot's last request: each request that runs on the slot moves it on by one, and nothing else changes it.
use Rattle.std.proofs.Common.{◌≡◌, ℕ, ◌+◌, ◌%◌, ◌^◌, ◌-◌, ◌<◌, ◌≤◌, suc, zero, Bool, true, false, cond, List, [], ◌∷◌, set, Option}
use Rattle.std.proofs.{Common.{Some, None, refl, sym, ◌∙◌, ap, subst, arith, inl, inr}, lemmas.Bool.{cases_Bool, eqb-true, eq-eqb, and_parts, false≢true}}
use Rattle.std.specs.{Prelude.{◌==◌, filter, slice_get}, Option.option_map_or}
use Rattle.nfs_xdr.specs.Tables.{In}
use Rattle.nfs_xdr.proofs.Lists.{in_filter, in_push, in_map, find_in}
use Rattle.nfs_xdr.specs.Numbers.{next_number}
use Rattle.nfs_compound.specs.declared.session_args.Sequence.{Sequence}
use Rattle.nfs_slots.specs.{declared.slot.Verdict.TheVariants.{Fresh, NoSlot}, Slot.{SlotState, judge, judge_slot}}
use Rattle.nfs_slots.proofs.TableLemmas.{fresh_number, next_small, slice_get-set_other}
use Rattle.nfs_sessions.specs.{declared.channel.Wish.Wish, declared.id.SessionId.SessionId, Id.id_of, Laws.is_id}
use Rattle.nfs_sessions.specs.Sessions.{Session, SessionTable, is_session, session_at, with_session, keep}
use Rattle.nfs_slots.specs.Slot as slots
use Rattle.nfs_exec.specs.Step.Laws.{is_on}

-- What holds of a table whatever session is made, and whatever sessions end.
pub record IsHeld (P : SessionTable → Type 0) : Type 0 where
  pub fewer : (t : SessionTable) (p : Session → Bool) → P t → P (record t { sessions = filter p t.sessions })
  pub made : (t : SessionTable) (client : ℕ) (wish : Wish) → P t → P (with_session t client wish.fore)

-- A SEQUENCE was fresh on its slot, which has its number behind it.
pub record KeepsReply (t after : SessionTable) (s : Sequence) : Type 0 where
  pub session : Session
  pub there : session_at t (id_of s.sessionid) ≡ Some session
  pub uid : ℕ
  pub args : List ℕ
  pub reply : List ℕ
  pub fresh : judge session.slots s.slotid s.sequenceid uid args ≡ Fresh
  pub kept : after ≡ keep t (id_of s.sessionid) s.slotid s.sequenceid uid args reply

-- no counter is above the last that was given
abbrev pub IsCounted : SessionTable → Type 0
IsCounted t = (s : Session) → In s t.sessions → s.counter ≤ t.last

-- the session id was given, and where a session has it, the last number on this slot is this one
abbrev pub IsLast : SessionId → ℕ → ℕ → SessionTable → Type 0
IsLast id slot n t = (id.counter ≤ t.last)
    × ((s : Session) → In s t.sessions → is_session id s ≡ true → (x : SlotState) → slice_get s.slots slot ≡ Some x → x.number ≡ n % 2 ^ 32)

pub held_counted : IsHeld IsCounted
held_counted = record {
  fewer = λ t p is s there. is s (in_filter p t.sessions s there).0;
  made = λ t client wish is s there. elim (in_push t.sessions _ s there) [
    | inl new ↦ omega (arith, ap (λ (s : Session). s.counter) new)
    | inr old ↦ (let below = is s old in omega arith)
  ];
}

session_is : (id : SessionId) (s : Session) → is_session id s ≡ true → (s.counter ≡ id.counter) × (s.client ≡ id.client)
session_is id s e =
    let parts = and_parts (s.counter == id.counter) (s.client == id.client) e in
    (eqb-true s.counter id.counter parts.0, eqb-true s.client id.client parts.1)

pub held_last : (id : SessionId) (slot n : ℕ) → IsHeld (IsLast id slot n)
held_last id slot n = record {
  fewer = λ t p is. (is.0, λ s there. is.1 s (in_filter p t.sessions s there).0);
  made = λ t client wish is. (
    omega (arith, is.0),
    λ s there this. elim (in_push t.sessions _ s there) [
      | inl new ↦ (let counter = ap (λ (s : Session). s.counter) new in let given = is.0 in let same = (session_is id s this).0 in absurd (omega arith))
      | inr old ↦ is.1 s old this
    ],
  );
}

-- Behind a request that ran.

taken : (s : Sequence) (uid : ℕ) (args reply : List ℕ) → SlotState
taken s uid args reply = record { number = s.sequenceid; used = true; uid = uid; args = args; reply = reply }

-- a session behind it is one of before, under its id; its slots are as they were, or one of them took the request
record WasThere (t : SessionTable) (s : Sequence) (taken : SlotState) (x : Session) : Type 0 where
  before : Session
  there : In before t.sessions
  counter : x.counter ≡ before.counter
  client : x.client ≡ before.client
  slots : x.slots ≡ cond (is_session (id_of s.sessionid) before) (set before.slots s.slotid taken) before.slots

was_changed : (change : List SlotState → List SlotState) (b : Bool) (x : Session) → let y = cond b (record x { slots = change x.slots }) x in
    (y.counter ≡ x.counter) × (y.client ≡ x.client) × (y.slots ≡ cond b (change x.slots) x.slots)
was_changed change true x = (refl, refl, refl)
was_changed change false x = (refl, refl, refl)

was_there : (t after : SessionTable) (s : Sequence) → (is : KeepsReply t after s) → (x : Session) → In x after.sessions
    → WasThere t s (taken s is.uid is.args is.reply) x
unfolding taken
was_there t after s is x there =
    let id = id_of s.sessionid in
    let change : List SlotState → List SlotState = λ was. slots.keep was s.slotid s.sequenceid is.uid is.args is.reply in
    let changed : Session → Session = λ x. cond (is_session id x) (record x { slots = change x.slots }) x in
    let was = in_map changed t.sessions x (subst (λ (t : SessionTable). In x t.sessions) is.kept there) in
    let fields = was_changed change (is_session id was.0) was.0 in
    record {
      before = was.0;
      there = was.1;
      counter = ap (λ (s : Session). s.counter) was.2 ∙ fields.0;
      client = ap (λ (s : Session). s.client) was.2 ∙ fields.1;
      slots = ap (λ (s : Session). s.slots) was.2 ∙ fields.2;
    }

same_last : (t after : SessionTable) (s : Sequence) → KeepsReply t after s → after.last ≡ t.last
same_last t after s is = ap (λ (t : SessionTable). t.last) is.kept

pub counted_kept : (t after : SessionTable) (s : Sequence) → KeepsReply t after s → IsCounted t → IsCounted after
counted_kept t after s is counted x there =
    let was = was_there t after s is x there in
    let below = counted was.before was.there in let same = was.counter in let last = same_last t after s is in omega arith

-- the number of a fresh request stands behind that of its slot, where the slot is
fresh_found : (found : Option SlotState) (number uid : ℕ) (args : List ℕ) → option_map_or (λ s. judge_slot s number uid args) found NoSlot ≡ Fresh
    → (x : SlotState) × (found ≡ Some x) × (number ≡ next_number x.number)
fresh_found None number uid args e = absurd cc
fresh_found (Some x) number uid args e = (x, refl, fresh_number x number uid args e)

-- its session stood, with its slot, and the slot's number came before its own
record RanOn (t : SessionTable) (s : Sequence) : Type 0 where
  session : Session
  there : In session t.sessions
  named : is_session (id_of s.sessionid) session ≡ true
  slot : SlotState
  at : slice_get session.slots s.slotid ≡ Some slot
  number : s.sequenceid ≡ next_number slot.number

ran_on : (t after : SessionTable) (s : Sequence) → KeepsReply t after s → RanOn t s
ran_on t after s is =
    let found = find_in (is_session (id_of s.sessionid)) t.sessions is.session is.there in
    let fresh = fresh_found (slice_get is.session.slots s.slotid) s.sequenceid is.uid is.args is.fresh in
    record { session = is.session; there = found.0; named = found.1; slot = fresh.0; at = fresh.1; number = fresh.2 }

set_there : (xs : List SlotState) (slot : ℕ) (y x : SlotState) → slice_get (set xs slot y) slot ≡ Some x → x ≡ y
set_there [] slot y x e = absurd cc
set_there (z ∷ zs) zero y x e = (let same : y ≡ x = cc in sym same)
set_there (z ∷ zs) (suc slot) y x e = set_there zs slot y x e

named_as : (id : SessionId) (s x : Session) → s.counter ≡ x.counter → s.client ≡ x.client → is_session id s ≡ is_session id x
named_as id s x counter client = rw (counter, client) refl

number_of : (s : Sequence) (uid : ℕ) (args reply : List ℕ) (y : SlotState) → y ≡ taken s uid args reply → s.sequenceid < 2 ^ 32
    → y.number ≡ s.sequenceid % 2 ^ 32
unfolding taken
number_of s uid args reply y same small = ap (λ (y : SlotState). y.number) same ∙ omega arith

-- Its session's slot has its number ..
last_here : (t after : SessionTable) (s : Sequence) → KeepsReply t after s → (id_of s.sessionid).counter ≤ t.last
    → IsLast (id_of s.sessionid) s.slotid s.sequenceid after
last_here t after s is given =
    let id = id_of s.sessionid in
    let ran = ran_on t after s is in
    let small : s.sequenceid < 2 ^ 32 = omega (arith, next_small ran.slot.number, ran.number) in
    let last = same_last t after s is in (
      omega arith,
      λ x there this y at. (
          let was = was_there t after s is x there in
          let here : is_session id was.before ≡ true = sym (named_as id x was.before was.counter was.client) ∙ this in
          let took = taken s is.uid is.args is.reply in
          let old = was.before.slots in
          let slots : x.slots ≡ set old s.slotid took = was.slots ∙ ap (λ (b : Bool). cond b (set old s.slotid took) old) here in
          let same = set_there old s.slotid took y (ap (λ (xs : List SlotState). slice_get xs s.slotid) (sym slots) ∙ at) in
          number_of s is.uid is.args is.reply y same small),
    )

pub last_first : (t after : SessionTable) (s : Sequence) → KeepsReply t after s → IsCounted t
    → IsLast (id_of s.sessionid) s.slotid s.sequenceid after
last_first t after s is counted =
    let ran = ran_on t after s is in
    let below = counted ran.session ran.there in
    let counter = (session_is (id_of s.sessionid) ran.session ran.named).0 in
    last_here t after s is (omega arith)

pub same_id : (id other : SessionId) → is_id id other ≡ true → id ≡ other
same_id id other e =
    let parts = and_parts (id.counter == other.counter) (id.client == other.client) e in
    let counter = eqb-true id.counter other.counter parts.0 in
    let client = eqb-true id.client other.client parts.1 in
    ap (λ (n : ℕ). record { client = n; counter = id.counter }) client ∙ ap (λ (n : ℕ). record { client = other.client; counter = n }) counter

moved_on : (n number q : ℕ) → number ≡ n % 2 ^ 32 → q ≡ next_number number → q % 2 ^ 32 ≡ (n + 1) % 2 ^ 32
moved_on n number q is next = omega arith

-- .. which is the next
next_is : (t after : SessionTable) (s : Sequence) (n : ℕ) → KeepsReply t after s → IsLast (id_of s.sessionid) s.slotid n t
    → s.sequenceid % 2 ^ 32 ≡ (n + 1) % 2 ^ 32
next_is t after s n is last =
    let ran = ran_on t after s is in
    moved_on n ran.slot.number s.sequenceid (last.1 ran.session ran.there ran.named ran.slot ran.at) ran.number

-- on another slot nothing changes
last_apart : (id : SessionId) (slot n : ℕ) (t after : SessionTable) (s : Sequence) → KeepsReply t after s
    → is_on id slot s ≡ false → IsLast id slot n t → IsLast id slot n after
last_apart id slot n t after s is apart last =
    let same = same_last t after s is in
    let given = last.0 in (
      omega arith,
      λ x there this y at. (
          let was = was_there t after s is x there in
          let here : is_session id was.before ≡ true = sym (named_as id x was.before was.counter was.client) ∙ this in
          let took = taken s is.uid is.args is.reply in
          let old = was.before.slots in
          elim (cases_Bool (is_session (id_of s.sessionid) was.before)) [
            | inl changed ↦ (
                let slots : x.slots ≡ set old s.slotid took = was.slots ∙ ap (λ (b : Bool). cond b (set old s.slotid took) old) changed in
                let same = slice_get-set_other old s.slotid slot took (other_slot was.before here changed) in
                last.1 was.before was.there here y (sym same ∙ ap (λ (xs : List SlotState). slice_get xs slot) (sym slots) ∙ at))
            | inr left ↦ (
                let slots : x.slots ≡ old = was.slots ∙ ap (λ (b : Bool). cond b (set old s.slotid took) old) left in
                last.1 was.before was.there here y (ap (λ (xs : List SlotState). slice_get xs slot) (sym slots) ∙ at))
          ]),
    )
  where
    other_slot : (x : Session) → is_session id x ≡ true → is_session (id_of s.sessionid) x ≡ true → slot ≡ s.slotid → ⊥
    other_slot x this that same =
        let a = session_is id x this in
        let b = session_is (id_of s.sessionid) x that in
        let counter = eq-eqb id.counter (id_of s.sessionid).counter (sym a.0 ∙ b.0) in
        let client = eq-eqb id.client (id_of s.sessionid).client (sym a.1 ∙ b.1) in
        let both : is_on id slot s ≡ true = rw (counter, client, eq-eqb s.slotid slot (sym same)) refl in
        false≢true (sym apart ∙ both)

-- The slot's number moves on by one where the request is on it.
pub last_kept : (id : SessionId) (slot n : ℕ) (t after : SessionTable) (s : Sequence) → KeepsReply t after s → IsLast id slot n t
    → IsLast id slot (n + cond (is_on id slot s) 1 0) after
last_kept id slot n t after s is last = elim (cases_Bool (is_on id slot s)) [
  | inl here ↦ rw here (
      let parts = and_parts (is_id id (id_of s.sessionid)) (s.slotid == slot) here in
      let same = same_id id (id_of s.sessionid) parts.0 in
      let at = eqb-true s.slotid slot parts.1 in
      let moved_id : IsLast (id_of s.sessionid) slot n t = subst (λ i. IsLast i slot n t) same last in
      let old : IsLast (id_of s.sessionid) s.slotid n t = subst (λ k. IsLast (id_of s.sessionid) k n t) (sym at) moved_id in
      let q = last_here t after s is old.0 in
      let moved = next_is t after s n is old in
      let new : IsLast (id_of s.sessionid) s.slotid (n + 1) after = (q.0, λ x there this y at. q.1 x there this y at ∙ moved) in
      subst (λ k. IsLast id k (n + 1) after) at (subst (λ i. IsLast i s.slotid (n + 1) after) (sym same) new))
  | inr apart ↦ rw apart (subst (λ k. IsLast id slot k after) (omega arith) (last_apart id slot n t after s is apart last))
]

-- A number that is the next again: a whole round was run.
full_round : (q n : ℕ) → q % 2 ^ 32 ≡ (q + n + 1) % 2 ^ 32 → 2 ^ 32 - 1 ≤ n
full_round q n e = omega arith

pub runs_again : (t after : SessionTable) (s : Sequence) (q n : ℕ) → KeepsReply t after s → IsLast (id_of s.sessionid) s.slotid (q + n) t
    → s.sequenceid ≡ q → 2 ^ 32 - 1 ≤ n
runs_again t after s q n is last same = full_round q n (ap (λ (k : ℕ). k % 2 ^ 32) (sym same) ∙ next_is t after s (q + n) is last)
