-- What keeps a table of sessions in order.
use Rattle.std.proofs.Common.{◌≡◌, ℕ, ◌+◌, suc, Bool, true, false, List, set, Some, refl, sym, ◌∙◌, ap, arith, get_or}
use Rattle.std.proofs.{lemmas.Bool.{eqb-true, and_parts}, lemmas.Option.slice_get-get_or, lemmas.List.Quantifiers.position-Some}
use Rattle.std.specs.Prelude.{◌==◌, if◌then◌else◌, filter, position, slice_get}
use Rattle.nfs_xdr.proofs.Tables.{IsRising-push, IsRising-map, IsRising-filter, one_changed}
use Rattle.nfs_sessions.specs.{declared.{channel.Wish.Wish, id.SessionId.SessionId}, Channel.granted, Laws.with_slots}
use Rattle.nfs_slots.specs.Slot.{SlotState}
use Rattle.nfs_sessions.specs.{Sessions.{Session, SessionTable, new_session, is_session, with_session}, SessionTables.IsSessions}

pub sessions_filtered : (t : SessionTable) (p : Session → Bool) → IsSessions t → IsSessions (record t { sessions = filter p t.sessions })
sessions_filtered t p is = record { rising = IsRising-filter (λ (s : Session). s.counter) p 1 (suc t.last) t.sessions is.rising }

pub sessions_with : (t : SessionTable) (client : ℕ) (wish : Wish) → IsSessions t → IsSessions (with_session t client wish.fore)
sessions_with t client wish is =
    let new = new_session (t.last + 1) client (granted wish.fore) in
    record { rising = IsRising-push (λ (s : Session). s.counter) 1 (suc t.last) (suc (t.last + 1)) t.sessions new (omega arith) (omega arith) is.rising }

pub is_counter : (id : SessionId) (s : Session) → is_session id s ≡ true → s.counter ≡ id.counter
is_counter id s e = eqb-true s.counter id.counter (and_parts (s.counter == id.counter) (s.client == id.client) e).0

same_counter : (id : SessionId) (s : Session) (change : List SlotState → List SlotState)
    → (if is_session id s then record s { slots = change s.slots } else s).counter ≡ s.counter
same_counter id s change =
    elim (is_session id s) as (λ b. (if b then record s { slots = change s.slots } else s).counter ≡ s.counter)
    [ true ↦ refl | false ↦ refl ]

pub slots_changed : (t : SessionTable) (id : SessionId) (change : List SlotState → List SlotState) → IsSessions t → IsSessions (with_slots t id change)
slots_changed t id change is =
    record {
      rising = IsRising-map (λ (s : Session). s.counter) (λ s. if is_session id s then record s { slots = change s.slots } else s)
          (λ s. same_counter id s change) 1 (suc t.last) t.sessions is.rising;
    }

-- what is read at the place of an id is the session of that id
stands_at : (t : SessionTable) (id : SessionId) (xs : List Session) (place : ℕ) (s : Session) → xs ≡ t.sessions
    → position (is_session id) xs ≡ Some place → s ≡ get_or xs place s → (position (is_session id) t.sessions ≡ Some place) × (s ≡ get_or t.sessions place s)
stands_at t id xs place s same at read =
    (ap (position (is_session id)) (sym same) ∙ at, read ∙ ap (λ (xs : List Session). get_or xs place s) same)

written : (t : SessionTable) (id : SessionId) (place : ℕ) (s : Session) (change : List SlotState → List SlotState)
    → IsSessions t → position (is_session id) t.sessions ≡ Some place → s ≡ get_or t.sessions place s
    → set t.sessions place (record s { slots = change s.slots }) ≡ (with_slots t id change).sessions
written t id place s change is at read =
    let first = position-Some (is_session id) t.sessions place s at in
    let there : slice_get t.sessions place ≡ Some s = slice_get-get_or t.sessions place s first.0 ∙ ap (λ (x : Session). Some x) (sym read) in
    one_changed (λ (s : Session). s.counter) id.counter (is_session id) (λ s. record s { slots = change s.slots })
    (is_counter id) 1 (suc t.last) t.sessions place s there (ap (is_session id) read ∙ first.1) is.rising

-- a session with other slots, written at its place, makes the table with those slots
pub table_written : (t : SessionTable) (id : SessionId) (xs : List Session) (last most place : ℕ) (s new : Session) (change : List SlotState → List SlotState)
    → IsSessions t → record { sessions = xs; last = last; most = most } ≡ t → position (is_session id) xs ≡ Some place → s ≡ get_or xs place s
    → new ≡ record s { slots = change s.slots } → record { sessions = set xs place new; last = last; most = most } ≡ with_slots t id change
table_written t id xs last most place s new change is same at read changed =
    let same_sessions : xs ≡ t.sessions = ap (λ (t : SessionTable). t.sessions) same in
    let same_last : last ≡ t.last = ap (λ (t : SessionTable). t.last) same in
    let (placed, there) = stands_at t id xs place s same_sessions at read in
    let sessions : set xs place new ≡ (with_slots t id change).sessions =
    ap (λ (ys : List Session). set ys place new) same_sessions
    ∙ (ap (λ (s : Session). set t.sessions place s) changed ∙ written t id place s change is placed there) in
    let same_most : most ≡ t.most = ap (λ (t : SessionTable). t.most) same in
    let P : List Session → SessionTable = λ ys. record { sessions = ys; last = last; most = most } in
    let Q : ℕ → SessionTable = λ l. record { sessions = (with_slots t id change).sessions; last = l; most = most } in
    let R : ℕ → SessionTable = λ m. record { sessions = (with_slots t id change).sessions; last = t.last; most = m } in
    ap P sessions ∙ (ap Q same_last ∙ ap R same_most)
