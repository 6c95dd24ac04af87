-- What the changes of a table of sessions leave of one slot.
use Rattle.std.proofs.Common.{◌≡◌, ◌⊎◌, inl, inr, ℕ, ◌+◌, ◌≤◌, suc, Bool, true, false, List, Option, Some, None, refl, sym, ◌∙◌, ap, arith}
use Rattle.std.proofs.lemmas.Bool.{cases_Bool, false≢true}
use Rattle.std.specs.{Prelude.{find, filter, if◌then◌else◌}, Option.option_map}
use Rattle.nfs_xdr.specs.Tables.{IsRising}
use Rattle.nfs_xdr.proofs.{Tables.{in_bounds, in_once}, Lists.{in_filter, find_in, find_none, find_kept, find_none_kept, some_or_none}}
use Rattle.nfs_slots.specs.Slot.{SlotState}
use Rattle.nfs_slots.specs.Slot as slots
use Rattle.nfs_slots.proofs.TableLemmas.{slice_get-set_same, slice_get-set_other}
use Rattle.nfs_sessions.specs.{declared.id.SessionId.SessionId, declared.channel.Wish.Wish, Channel.granted}
use Rattle.nfs_sessions.specs.{Sessions.{Session, SessionTable, new_session, is_session, session_at, with_session, keep}, SessionTables.IsSessions, Laws.is_id}
use Rattle.nfs_sessions.proofs.{LawLemmas.sessions_are_a_map, TableLemmas.{sessions_filtered, sessions_with, slots_changed, is_counter}}
use Rattle.nfs_exec.proofs.Runs.SlotNumbers.{IsHeld, same_id}
use Rattle.nfs_promises.specs.Network.ThisServer.{slot_in}
use Rattle.nfs_promises.proofs.Network.SlotLines.{is_id_self}

-- In a rising list, what is found of one number is found behind a filter too, or nothing is.

pub found_fewer : {X : Type 0} (number : X → ℕ) (n low high : ℕ) (p q : X → Bool) (xs : List X) → ((x : X) → p x ≡ true → number x ≡ n)
    → IsRising number low xs high → (find p (filter q xs) ≡ find p xs) ⊎ (find p (filter q xs) ≡ None)
found_fewer {X} number n low high p q xs only rising = elim (some_or_none (find p xs)) [
  | inr none ↦ inr (find_none_kept p q xs none)
  | inl some ↦ by some.0 some.1
]
  where
    by : (x : X) → find p xs ≡ Some x → (find p (filter q xs) ≡ find p xs) ⊎ (find p (filter q xs) ≡ None)
    by x e = elim (cases_Bool (q x)) [
      | inl stays ↦ inl (find_kept p q xs x e stays ∙ sym e)
      | inr goes ↦ inr (find_none p (filter q xs) (λ y there. elim (cases_Bool (p y)) [
        | inl here ↦ (
            let was = in_filter q xs y there in
            let found = find_in p xs x e in
            let same : x ≡ y = in_once number low high xs x y rising found.0 was.0 (only x found.1 ∙ sym (only y here)) in
            absurd (false≢true (sym goes ∙ (ap q same ∙ was.1))))
        | inr other ↦ other
      ]))
    ]

-- A slot in the table.

abbrev pub slot_at : SessionTable → SessionId → ℕ → Option SlotState
slot_at t id k = slot_in k (session_at t id)

abbrev taken : ℕ → ℕ → List ℕ → List ℕ → SlotState
taken number uid args reply = record { number = number; used = true; uid = uid; args = args; reply = reply }

kept_in : (found : Option Session) (k number uid : ℕ) (args reply : List ℕ) (x : SlotState) → slot_in k found ≡ Some x
    → slot_in k (option_map (λ (s : Session). record s { slots = slots.keep s.slots k number uid args reply }) found) ≡ Some (taken number uid args reply)
kept_in None k number uid args reply x e = absurd cc
kept_in (Some s) k number uid args reply x e = slice_get-set_same s.slots k x _ e

kept_out : (found : Option Session) (k j number uid : ℕ) (args reply : List ℕ) → (j ≡ k → ⊥)
    → slot_in j (option_map (λ (s : Session). record s { slots = slots.keep s.slots k number uid args reply }) found) ≡ slot_in j found
kept_out None k j number uid args reply ne = refl
kept_out (Some s) k j number uid args reply ne = slice_get-set_other s.slots k j _ ne

pub keep_there : (t : SessionTable) (id : SessionId) (k number uid : ℕ) (args reply : List ℕ) (x : SlotState) → IsSessions t → slot_at t id k ≡ Some x
    → slot_at (keep t id k number uid args reply) id k ≡ Some (taken number uid args reply)
keep_there t id k number uid args reply x is e =
    let change : List SlotState → List SlotState = λ was. slots.keep was k number uid args reply in
    let changed = (sessions_are_a_map t is).changed_at id id change in
    ap (slot_in k) changed
    ∙ (ap (λ (b : Bool). slot_in k (if b then option_map (λ (s : Session). record s { slots = change s.slots }) (session_at t id) else session_at t id)) (is_id_self id)
    ∙ kept_in (session_at t id) k number uid args reply x e)

pub keep_elsewhere : (t : SessionTable) (id other : SessionId) (k j number uid : ℕ) (args reply : List ℕ) → IsSessions t → ((other ≡ id) × (j ≡ k) → ⊥)
    → slot_at (keep t id k number uid args reply) other j ≡ slot_at t other j
keep_elsewhere t id other k j number uid args reply is ne =
    let change : List SlotState → List SlotState = λ was. slots.keep was k number uid args reply in
    let changed = (sessions_are_a_map t is).changed_at id other change in
    ap (slot_in j) changed
    ∙ by (is_id other id) (option_map (λ (s : Session). record s { slots = change s.slots }) (session_at t other)) refl
    (λ t'. kept_out (session_at t other) k j number uid args reply (λ e. ne (same_id other id t', e)))
  where
    by : (b : Bool) (y : Option Session) → is_id other id ≡ b → (is_id other id ≡ true → slot_in j y ≡ slot_in j (session_at t other))
        → slot_in j (if b then y else session_at t other) ≡ slot_in j (session_at t other)
    by true y e new = new e
    by false y e new = refl

-- an id was given where its counter is no later than the last
abbrev pub IsGiven : SessionId → SessionTable → Type 0
IsGiven id t = id.counter ≤ t.last

created_leaves : (t : SessionTable) (client : ℕ) (wish : Wish) (id : SessionId) (k : ℕ) → IsSessions t → IsGiven id t
    → slot_at (with_session t client wish.fore) id k ≡ slot_at t id k
created_leaves t client wish id k is given =
    let new : SessionId = record { client = client; counter = t.last + 1 } in
    ap (slot_in k) ((sessions_are_a_map t is).created client wish id) ∙ by (is_id id new) refl
  where
    by : (b : Bool) → is_id id (record { client = client; counter = t.last + 1 }) ≡ b
        → slot_in k (if b then Some (new_session (t.last + 1) client (granted wish.fore)) else session_at t id) ≡ slot_in k (session_at t id)
    by true e =
        let counter : id.counter ≡ t.last + 1 = ap (λ (y : SessionId). y.counter) (same_id id (record { client = client; counter = t.last + 1 }) e) in
        absurd (omega (arith, counter, given))
    by false e = refl

in_slot : (k : ℕ) (found : Option Session) (x : SlotState) → slot_in k found ≡ Some x → (s : Session) × (found ≡ Some s)
in_slot k None x e = absurd cc
in_slot k (Some s) x e = (s, refl)

pub stands_given : (t : SessionTable) (id : SessionId) (k : ℕ) (x : SlotState) → IsSessions t → slot_at t id k ≡ Some x → IsGiven id t
stands_given t id k x is e =
    let s = in_slot k (session_at t id) x e in
    let found = find_in (is_session id) t.sessions s.0 s.1 in
    let within = in_bounds (λ (s : Session). s.counter) 1 (suc t.last) t.sessions s.0 is.rising found.0 in
    let same = is_counter id s.0 found.1 in
    omega arith

-- What is held whatever sessions are made and end.

pub held_sessions : IsHeld IsSessions
held_sessions = record { fewer = sessions_filtered; made = sessions_with }

pub held_given : (id : SessionId) → IsHeld (IsGiven id)
held_given id = record { fewer = λ t p is. is; made = λ t client wish is. omega arith }

-- a slot is as it was, or its session has ended
abbrev pub IsLeft : SessionId → ℕ → Option SlotState → SessionTable → Type 0
IsLeft id k x t = (slot_at t id k ≡ x) ⊎ (slot_at t id k ≡ None)

pub fewer_leaves : (t : SessionTable) (p : Session → Bool) (id : SessionId) (k : ℕ) (x : Option SlotState) → IsSessions t → IsLeft id k x t
    → IsLeft id k x (record t { sessions = filter p t.sessions })
fewer_leaves t p id k x is before =
    elim (found_fewer (λ (s : Session). s.counter) id.counter 1 (suc t.last) (is_session id) p t.sessions (is_counter id) is.rising) [
      | inr gone ↦ inr (ap (slot_in k) gone)
      | inl same ↦ elim before [ inl e ↦ inl (ap (slot_in k) same ∙ e) | inr e ↦ inr (ap (slot_in k) same ∙ e) ]
    ]

pub record Stays (id : SessionId) (k : ℕ) (x : Option SlotState) (t : SessionTable) : Type 0 where
  pub sound : IsSessions t
  pub given : IsGiven id t
  pub left : IsLeft id k x t

pub held_slot : (id : SessionId) (k : ℕ) (x : Option SlotState) → IsHeld (Stays id k x)
held_slot id k x = record {
  fewer = λ t p is. record { sound = sessions_filtered t p is.sound; given = is.given; left = fewer_leaves t p id k x is.sound is.left };
  made = λ t client wish is.
      let same = created_leaves t client wish id k is.sound is.given in
      record {
        sound = sessions_with t client wish is.sound;
        given = omega (arith, is.given);
        left = elim is.left [ inl e ↦ inl (same ∙ e) | inr e ↦ inr (same ∙ e) ];
      };
}

pub kept_slot : (id : SessionId) (k : ℕ) (x : Option SlotState) (t : SessionTable) (at : SessionId) (slot number uid : ℕ) (args reply : List ℕ)
    → ((id ≡ at) × (k ≡ slot) → ⊥) → Stays id k x t → Stays id k x (keep t at slot number uid args reply)
kept_slot id k x t at slot number uid args reply apart is =
    let same = keep_elsewhere t at id slot k number uid args reply is.sound apart in
    record {
      sound = slots_changed t at (λ was. slots.keep was slot number uid args reply) is.sound;
      given = is.given;
      left = elim is.left [ inl e ↦ inl (same ∙ e) | inr e ↦ inr (same ∙ e) ];
    }
