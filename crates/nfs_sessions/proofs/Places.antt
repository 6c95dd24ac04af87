-- The place of a session by its id: the counter names one session, and the client is compared there.
use Rattle.std.proofs.Common.{◌≡◌, ◌<◌, ℕ, suc, Bool, true, false, cond, not, List, [], ◌∷◌, Option}
use Rattle.std.proofs.Common.{Some, None, Result, refl, sym, ◌∙◌, ap, subst, arith, inl, inr, get_or, length}
use Rattle.std.proofs.{lemmas.Bool.{cases_Bool, eqb-true, eq-eqb, lt-ltb, false≢true}, lemmas.Option.none-some, lemmas.List.Quantifiers.position-Some}
use Rattle.std.proofs.lemmas.List.Sums.{position_or_len_is}
use Rattle.std.specs.{Prelude.{◌==◌, filter, find, position, nat_lt}, List.{position_or_len, remove}, Result.result_ok, Ordering.nat_cmp}
use Rattle.std.specs.List.Sorted.{IsSearchInRange, IsBinarySearchResult}
use Rattle.nfs_xdr.specs.Tables.{IsRising, In}
use Rattle.nfs_xdr.proofs.Lists.{find_none, none_in, filter_in, filter_all, some_or_none, position_finds, position_nowhere, in_at}
use Rattle.nfs_xdr.proofs.Tables.{position_is, in_once, removed, searched}
use Rattle.nfs_sessions.specs.{declared.id.SessionId.SessionId, Sessions.{Session, SessionTable, is_session, session_at, destroyed}, SessionTables.IsSessions}
use Rattle.nfs_sessions.proofs.TableLemmas.{is_counter, sessions_filtered}

nowhere_of : {X : Type 0} (p : X → Bool) (xs : List X) → find p xs ≡ None → position p xs ≡ None
nowhere_of p [] none = refl
nowhere_of p (x ∷ xs) none =
    elim (some_or_none (position p (x ∷ xs))) [
      | inl (i, at) ↦ absurd (none-some _ (sym none ∙ position_finds p (x ∷ xs) i x at))
      | inr nowhere ↦ nowhere
    ]

-- A test that asks for more than the number.
module _ {X : Type 0} (number : X → ℕ) (p : X → Bool) (n : ℕ) (only : (x : X) → p x ≡ true → number x ≡ n) where
  fails_with : (x : X) → number x == n ≡ false → p x ≡ false
  fails_with x other =
      elim (cases_Bool (p x)) [
        | inl passes ↦ absurd (false≢true (sym other ∙ eq-eqb (number x) n (only x passes)))
        | inr fails ↦ fails
      ]

  only_at : (low high : ℕ) (xs : List X) (i : ℕ) (d x : X) → IsRising number low xs high → i < length xs → number (get_or xs i d) ≡ n
      → In x xs → number x ≡ n → x ≡ get_or xs i d
  only_at low high xs i d x r within here there same = in_once number low high xs x (get_or xs i d) r there (in_at xs i d within) (same ∙ sym here)

  pub narrowed : (xs : List X) (i : ℕ) (d : X) → position (λ x. number x == n) xs ≡ Some i → p (get_or xs i d) ≡ true → position p xs ≡ Some i
  narrowed xs i d at passes =
      let first = position-Some (λ (x : X). number x == n) xs i d at in
      let place : position_or_len p xs ≡ i = position_or_len_is p xs i d (omega arith) (λ k less. fails_with (get_or xs k d) (first.2 k less)) (λ _. passes) in
      ap (λ (k : ℕ). cond (nat_lt k (length xs)) (Some k) None) place ∙ ap (λ (b : Bool). cond b (Some i) None) (lt-ltb i (length xs) first.0)

  pub narrowed_nowhere : (xs : List X) → position (λ x. number x == n) xs ≡ None → position p xs ≡ None
  narrowed_nowhere xs nowhere =
      let none = position_nowhere (λ (x : X). number x == n) xs nowhere in
      nowhere_of p xs (find_none p xs (λ x there. fails_with x (none_in (λ (x : X). number x == n) xs x none there)))

  pub narrowed_other : (low high : ℕ) (xs : List X) (i : ℕ) (d : X) → IsRising number low xs high → position (λ x. number x == n) xs ≡ Some i
      → p (get_or xs i d) ≡ false → position p xs ≡ None
  narrowed_other low high xs i d r at fails =
      let first = position-Some (λ (x : X). number x == n) xs i d at in
      nowhere_of p xs (find_none p xs (λ x there. elim (cases_Bool (p x)) [
        | inl passes ↦ (let same = only_at low high xs i d x r first.0 (eqb-true _ n first.1) there (only x passes) in
            absurd (false≢true (sym fails ∙ (ap p (sym same) ∙ passes))))
        | inr other ↦ other
      ]))

  -- what stands at the place is the only one that passes
  pub cut : (low high : ℕ) (xs : List X) (i : ℕ) (d : X) → IsRising number low xs high → position p xs ≡ Some i → remove xs i ≡ filter (λ x. not (p x)) xs
  cut low high xs i d r at =
      let first = position-Some p xs i d at in
      let here = only (get_or xs i d) first.1 in
      removed number low high n xs i r (position_is number low high n xs i d r first.0 here)
      ∙ filter_in (λ x. not (number x == n)) (λ x. not (p x)) xs (λ x there. ap not (elim (cases_Bool (number x == n)) [
        | inl same ↦ (let is = only_at low high xs i d x r first.0 here there (eqb-true (number x) n same) in
            same ∙ sym (ap p is ∙ first.1))
        | inr other ↦ other ∙ sym (fails_with x other)
      ]))

pub uncut : {X : Type 0} (p : X → Bool) (xs : List X) → position p xs ≡ None → xs ≡ filter (λ x. not (p x)) xs
uncut p xs nowhere = sym (filter_all (λ x. not (p x)) xs (λ x there. ap not (none_in p xs x (position_nowhere p xs nowhere) there)))

-- The same of a table of sessions, in the value that was opened.

abbrev pub the_counter : Session → ℕ
the_counter s = s.counter

abbrev pub has_counter : SessionId → Session → Bool
has_counter id s = s.counter == id.counter

abbrev pub place_in : SessionTable → SessionId → Option ℕ
place_in t id = position (is_session id) t.sessions

pub by_counter : (t u : SessionTable) (id : SessionId) (xs : List Session) (r : Result ℕ ℕ) (o : Option ℕ) → t ≡ u → IsSessions t → xs ≡ t.sessions
    → IsSearchInRange r (length xs) → IsBinarySearchResult (λ s. nat_cmp (the_counter s) id.counter) xs r → o ≡ result_ok r
    → o ≡ position (has_counter id) u.sessions
by_counter t u id xs r o e is same within found given =
    given ∙ searched the_counter 1 (suc t.last) id.counter xs r (rw same is.rising) within found ∙ ap (position (has_counter id)) same
    ∙ ap (λ (t : SessionTable). position (has_counter id) t.sessions) e

pub placed : (t u : SessionTable) (id : SessionId) (i : ℕ) (s : Session) → t ≡ u → Some i ≡ position (has_counter id) u.sessions → s ≡ get_or t.sessions i s
    → is_session id s ≡ true → Some i ≡ place_in u id
placed t u id i s e at read passes =
    let here : s ≡ get_or u.sessions i s = read ∙ ap (λ (t : SessionTable). get_or t.sessions i s) e in
    sym (narrowed the_counter (is_session id) id.counter (is_counter id) u.sessions i s (sym at) (ap (is_session id) (sym here) ∙ passes))

pub placed_other : (t u : SessionTable) (id : SessionId) (i : ℕ) (s : Session) → t ≡ u → IsSessions t → Some i ≡ position (has_counter id) u.sessions
    → s ≡ get_or t.sessions i s → is_session id s ≡ false → None ≡ place_in u id
placed_other t u id i s e is at read fails =
    let here : s ≡ get_or u.sessions i s = read ∙ ap (λ (t : SessionTable). get_or t.sessions i s) e in
    sym (narrowed_other the_counter (is_session id) id.counter (is_counter id) 1 (suc u.last) u.sessions i s (subst IsSessions e is).rising (sym at)
    (ap (is_session id) (sym here) ∙ fails))

pub placed_nowhere : (u : SessionTable) (id : SessionId) → None ≡ position (has_counter id) u.sessions → None ≡ place_in u id
placed_nowhere u id at = sym (narrowed_nowhere the_counter (is_session id) id.counter (is_counter id) u.sessions (sym at))

-- what stands there
pub session_there : (t u : SessionTable) (id : SessionId) (i : ℕ) (s : Session) → t ≡ u → Some i ≡ place_in u id → s ≡ get_or t.sessions i s
    → Some s ≡ session_at u id
session_there t u id i s e at read =
    ap (λ (x : Session). Some x) (read ∙ ap (λ (t : SessionTable). get_or t.sessions i s) e) ∙ sym (position_finds (is_session id) u.sessions i s (sym at))

pub no_session : (u : SessionTable) (id : SessionId) → None ≡ place_in u id → None ≡ session_at u id
no_session u id at = sym (position_nowhere (is_session id) u.sessions (sym at))

-- a session that was taken out at its place
pub destroyed_view : (t u : SessionTable) (id : SessionId) (i : ℕ) (s : Session) (ys : List Session) → t ≡ u → IsSessions t → Some i ≡ place_in u id
    → s ≡ get_or t.sessions i s → ys ≡ remove t.sessions i → record t { sessions = ys } ≡ destroyed u id
destroyed_view t u id i s ys e is at read left =
    ap (λ (zs : List Session). record t { sessions = zs })
    (left ∙ cut the_counter (is_session id) id.counter (is_counter id) 1 (suc t.last) t.sessions i s is.rising
    (ap (λ (t : SessionTable). place_in t id) e ∙ sym at))
    ∙ ap (λ (t : SessionTable). destroyed t id) e

pub destroyed_table : (t u : SessionTable) (id : SessionId) (i : ℕ) (s : Session) (ys : List Session) → t ≡ u → IsSessions t → Some i ≡ place_in u id
    → s ≡ get_or t.sessions i s → ys ≡ remove t.sessions i → IsSessions (record t { sessions = ys })
destroyed_table t u id i s ys e is at read left =
    subst IsSessions (sym (destroyed_view t u id i s ys e is at read left)) (sessions_filtered u (λ s. not (is_session id s)) (subst IsSessions e is))

pub undestroyed : (u : SessionTable) (id : SessionId) → None ≡ place_in u id → u ≡ destroyed u id
undestroyed u id at = ap (λ (zs : List Session). record u { sessions = zs }) (uncut (is_session id) u.sessions (sym at))
