-- The sessions as a map, and the ids that are given.
use Rattle.std.proofs.Common.{◌≡◌, inl, inr, ℕ, ◌+◌, suc, Bool, true, false, not, List, [], ◌∷◌, ◌++◌, Option, Some, None, refl, sym, ◌∙◌, ap, arith, subst}
use Rattle.std.proofs.lemmas.Bool.{cases_Bool, eqb-true, eq-eqb, and_parts, cond-true, cond-false}
use Rattle.std.specs.{Prelude.{◌==◌, if◌then◌else◌, find, option_map, option_to_list}, Result.result_ok}
use Rattle.nfs_xdr.specs.Tables.{IsRising}
use Rattle.nfs_xdr.proofs.{Tables.{IsRising-from, in_bounds}, Lists.{find_none, find_out, find_past, find_map_as, find_push, find_push_other}}
use Rattle.nfs_sessions.specs.{declared.{channel.Wish.Wish, id.SessionId.SessionId, sessions.SessionFault.SessionFault}, Channel.granted, Laws.with_slots}
use Rattle.nfs_slots.specs.Slot.{SlotState}
use Rattle.nfs_sessions.specs.Sessions.{Session, SessionTable, new_session, is_session, session_at, create_fault, create_unless, with_session, destroyed}
use Rattle.nfs_sessions.specs.{SessionTables.IsSessions, Sessions.without_client}
use Rattle.nfs_sessions.specs.Laws.{is_id, SessionsAreAMap, Call, Create, Destroy, DropClient, Change, all_after, all_given, IdsRise}

-- no number of a table is its bound
find_above : {X : Type 0} (number : X → ℕ) (n : ℕ) (p : X → Bool) → ((x : X) → p x ≡ true → number x ≡ n)
    → (low : ℕ) (xs : List X) → IsRising number low xs n → find p xs ≡ None
find_above {X} number n p only low xs rising =
    find_none p xs (λ x there. elim (cases_Bool (p x)) [
      | inl here ↦ (let bounds = in_bounds number low n xs x rising there in let is = only x here in absurd (omega arith))
      | inr other ↦ other
    ])

same_id : (a b : SessionId) → is_id a b ≡ true → (a.counter ≡ b.counter) × (a.client ≡ b.client)
same_id a b e =
    let parts = and_parts (a.counter == b.counter) (a.client == b.client) e in
    (eqb-true a.counter b.counter parts.0, eqb-true a.client b.client parts.1)

session_is : (id : SessionId) (s : Session) → is_session id s ≡ true → (s.counter ≡ id.counter) × (s.client ≡ id.client)
session_is id s e =
    let parts = and_parts (s.counter == id.counter) (s.client == id.client) e in
    (eqb-true s.counter id.counter parts.0, eqb-true s.client id.client parts.1)

is_session_from : (id : SessionId) (s : Session) → s.counter ≡ id.counter → s.client ≡ id.client → is_session id s ≡ true
is_session_from id s counter client = simp (eq-eqb s.counter id.counter counter, eq-eqb s.client id.client client)

is_id_from : (a b : SessionId) → a.counter ≡ b.counter → a.client ≡ b.client → is_id a b ≡ true
is_id_from a b counter client = simp (eq-eqb a.counter b.counter counter, eq-eqb a.client b.client client)

session_of_same : (id other : SessionId) (s : Session) → is_id id other ≡ true → is_session id s ≡ true → is_session other s ≡ true
session_of_same id other s same is =
    let (counters, clients) = same_id id other same in
    let (counter, client) = session_is id s is in
    is_session_from other s (counter ∙ counters) (client ∙ clients)

session_of_other : (id other : SessionId) (s : Session) → is_id id other ≡ false → is_session id s ≡ true → is_session other s ≡ false
session_of_other id other s apart is =
    elim (cases_Bool (is_session other s)) [
      | inl both ↦ (
          let (counter, client) = session_is id s is in
          let (counter_too, client_too) = session_is other s both in
          let same : is_id id other ≡ true = is_id_from id other (sym counter ∙ counter_too) (sym client ∙ client_too) in
          let clash : true ≡ false = sym same ∙ apart in
          absurd (cc))
      | inr not_other ↦ not_other
    ]

destroyed_at : (t : SessionTable) (gone id : SessionId) → session_at (destroyed t gone) id ≡ (if is_id id gone then None else session_at t id)
destroyed_at t gone id =
    elim (cases_Bool (is_id id gone)) [
      | inl same ↦ simp (same, find_out (is_session id) (λ s. not (is_session gone s)) t.sessions (λ s is. ap not (session_of_same id gone s same is)))
      | inr apart ↦
          simp (apart, find_past (is_session id) (λ s. not (is_session gone s)) t.sessions (λ s is. ap not (session_of_other id gone s apart is)))
    ]

dropped_at : (t : SessionTable) (client : ℕ) (id : SessionId)
    → session_at (without_client t client) id ≡ (if id.client == client then None else session_at t id)
dropped_at t client id =
    elim (cases_Bool (id.client == client)) [
      | inl same ↦ simp (
        same,
        find_out (is_session id) (λ s. not (s.client == client)) t.sessions
            (λ s is. ap (λ (n : ℕ). not (n == client)) (session_is id s is).1 ∙ ap not same),
      )
      | inr apart ↦ simp (
        apart,
        find_past (is_session id) (λ s. not (s.client == client)) t.sessions
            (λ s is. ap (λ (n : ℕ). not (n == client)) (session_is id s is).1 ∙ ap not apart),
      )
    ]

same_session : (at id : SessionId) (change : List SlotState → List SlotState) (s : Session)
    → is_session id (if is_session at s then record s { slots = change s.slots } else s) ≡ is_session id s
same_session at id change s =
    elim (is_session at s) as (λ b. is_session id (if b then record s { slots = change s.slots } else s) ≡ is_session id s)
    [ true ↦ refl | false ↦ refl ]

option_map_same : {X : Type 0} (o : Option X) → option_map (λ (x : X). x) o ≡ o
option_map_same None = refl
option_map_same (Some x) = refl

changed_at : (t : SessionTable) (at id : SessionId) (change : List SlotState → List SlotState) → session_at (with_slots t at change) id
    ≡ (if is_id id at then option_map (λ (s : Session). record s { slots = change s.slots }) (session_at t id) else session_at t id)
changed_at t at id change =
    let p = is_session id in
    let f : Session → Session = λ s. if is_session at s then record s { slots = change s.slots } else s in
    elim (cases_Bool (is_id id at)) [
      | inl same ↦ simp (
        same,
        find_map_as p f (λ (s : Session). record s { slots = change s.slots }) t.sessions
            (same_session at id change) (λ s is. cond-true (is_session at s) _ _ (session_of_same id at s same is)),
      )
      | inr apart ↦ simp (
        apart,
        find_map_as p f (λ (s : Session). s) t.sessions (same_session at id change)
            (λ s is. cond-false (is_session at s) _ _ (session_of_other id at s apart is)),
        option_map_same (find p t.sessions),
      )
    ]

created : (t : SessionTable) → IsSessions t → (client : ℕ) (wish : Wish) (id : SessionId)
    → session_at (with_session t client wish.fore) id ≡ (if is_id id (record { client = client; counter = t.last + 1 })
    then Some (new_session (t.last + 1) client (granted wish.fore)) else session_at t id)
created t is client wish id =
    let p = is_session id in
    let new = new_session (t.last + 1) client (granted wish.fore) in
    let new_id : SessionId = record { client = client; counter = t.last + 1 } in
    elim (cases_Bool (is_id id new_id)) [
      | inl same ↦ (
          let (counters, clients) = same_id id new_id same in
          let here : is_session id new ≡ true = is_session_from id new (sym counters) (sym clients) in
          let rising : IsRising (λ (s : Session). s.counter) 1 t.sessions (t.last + 1) =
          subst (IsRising (λ (s : Session). s.counter) 1 t.sessions) (omega arith) is.rising in
          let none : find p t.sessions ≡ None =
          find_above (λ (s : Session). s.counter) (t.last + 1) p (λ s e. (session_is id s e).0 ∙ counters) 1 t.sessions rising in
          simp (same, here, find_push p t.sessions new none))
      | inr apart ↦ (
          let not_here : is_session id new ≡ false = elim (cases_Bool (is_session id new)) [
            | inl here ↦ (let (counter, client_is) = session_is id new here in
                let same : is_id id new_id ≡ true = is_id_from id new_id (sym counter) (sym client_is) in
                let clash : true ≡ false = sym same ∙ apart in absurd (cc))
            | inr other ↦ other
          ] in
          simp (apart, find_push_other p t.sessions new not_here))
    ]

pub sessions_are_a_map : SessionsAreAMap
sessions_are_a_map t is = record {
  created = created t is;
  destroyed_at = destroyed_at t;
  dropped_at = dropped_at t;
  changed_at = changed_at t;
}

created_rise : (t : SessionTable) (client : ℕ) (wish : Wish) (calls : List Call) (fault : Option SessionFault)
    → ((u : SessionTable) → IsRising (λ (id : SessionId). id.counter) (u.last + 1) (all_given u calls) (suc (all_after u calls).last))
    → IsRising (λ (id : SessionId). id.counter) (t.last + 1)
    (option_to_list (result_ok (create_unless t client wish fault).answer) ++ all_given (create_unless t client wish fault).after calls)
    (suc (all_after (create_unless t client wish fault).after calls).last)
created_rise t client wish calls (Some fault) rest = rest t
created_rise t client wish calls None rest =
    let new = with_session t client wish.fore in (
      omega arith,
      IsRising-from (λ (id : SessionId). id.counter) (suc (t.last + 1))
          (new.last + 1) (suc (all_after new calls).last) (all_given new calls) (omega arith) (rest new),
    )

pub ids_rise : IdsRise
ids_rise t [] = omega arith
ids_rise t (Create client wish ∷ calls) = created_rise t client wish calls (create_fault t wish) (λ u. ids_rise u calls)
ids_rise t (Destroy id ∷ calls) = ids_rise (destroyed t id) calls
ids_rise t (DropClient client ∷ calls) = ids_rise (without_client t client) calls
ids_rise t (Change id change ∷ calls) = ids_rise (with_slots t id change) calls
