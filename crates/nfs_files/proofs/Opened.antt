-- OPEN: which opens there are of which file, and what they refuse.
use Rattle.std.proofs.Common.{◌≡◌, ℕ, ◌+◌, ◌<◌, ◌≤◌, Bool, true, false, List, [], ◌∷◌, ◌++◌, Option, Some, None, refl, sym, ◌∙◌, ap, inl, inr, arith}
use Rattle.std.proofs.lemmas.Bool.{cases_Bool, or_parts, false≢true}
use Rattle.std.specs.{Prelude.{Result, Ok, Err, ◌==◌, ◌&&◌, is_some, is_none, find}, List.list_any, Option.option_map_or}
use Rattle.nfs_xdr.specs.{Checks.{first_fault, judged}, declared.status.Status.Status, declared.status.Status.TheVariants.{ShareDenied, ServerFault}}
use Rattle.nfs_compound.specs.declared.open_args.Open.{Open}
use Rattle.nfs_tree.specs.{declared.stored.Stored.Stored, Object.is_regular, Files.{Files, root, stored_in, is_there}, TreeInvariants.IsTree}
use Rattle.nfs_tree.proofs.Objects.{stored_within}
use Rattle.nfs_opens.specs.{declared.records.OpenState.OpenState, StateId.last_number, Table.{Asked, is_own, clashes_with}, Opening.own_open, Calls.open_fault}
use Rattle.nfs_names.specs.{declared.context.Context.Context, State.{State, is_open}, StoreInvariants.IsStore}
use Rattle.nfs_names.proofs.Found.{or_fault, first_append}
use Rattle.nfs_files.specs.{declared.opening.Found.Found, declared.opening.Found.TheVariants.{There, Absent}, Open.{asking, file_of, room_checks, last_checks}}
use Rattle.nfs_files.specs.OpenParts.{number_of}
use Rattle.nfs_files.specs.OpenParts as part

regular_there : (o : Option Stored) → option_map_or (λ (s : Stored). is_regular s.object.kind) o false ≡ true → is_some o ≡ true
regular_there None e = absurd (false≢true e)
regular_there (Some s) e = refl

-- what is not there is not open
unopened : (s : State) (n : ℕ) → IsStore s → is_there s.tree n ≡ false → is_open s n ≡ false
unopened s n is gone = elim (cases_Bool (is_open s n)) [
  | inl some ↦ absurd (false≢true (sym gone ∙ regular_there (stored_in s.tree.objects n) (is.files n some)))
  | inr shut ↦ shut
]

no_object : (t : Files) (n : ℕ) → IsTree t → ((root ≤ n) × (n < t.last_object + 1) → ⊥) → is_there t n ≡ false
no_object t n is out = elim (cases_Bool (is_there t n)) [
  | inl there ↦ absurd (out (stored_within root (t.last_object + 1) t.objects n is.objects there))
  | inr gone ↦ gone
]

-- no object has the number 0, nor the next one
pub none_at_zero : (s : State) → IsTree s.tree → IsStore s → is_open s 0 ≡ false
none_at_zero s tree is = unopened s 0 is (no_object s.tree 0 tree (λ within. (let low = within.0 in absurd (omega arith))))

pub none_at_next : (s : State) → IsTree s.tree → IsStore s → is_open s (s.tree.last_object + 1) ≡ false
none_at_next s tree is = unopened s (s.tree.last_object + 1) is
    (no_object s.tree (s.tree.last_object + 1) tree (λ within. (let high = within.1 in absurd (omega arith))))

none_clash : (a : Asked) (xs : List OpenState) → list_any (λ o. o.file == a.file) xs ≡ false → list_any (clashes_with a) xs ≡ false
none_clash a [] e = refl
none_clash a (o ∷ os) e = let parts = or_parts (o.file == a.file) _ e in rw parts.0 (none_clash a os parts.1)

none_own : (a : Asked) (xs : List OpenState) → list_any (λ o. o.file == a.file) xs ≡ false → find (is_own a) xs ≡ None
none_own a [] e = refl
none_own a (o ∷ os) e = let parts = or_parts (o.file == a.file) _ e in rw parts.0 (none_own a os parts.1)

-- what the opens say of a file under which nothing is open
free_checks : (s : State) (a : Asked) → is_open s a.file ≡ false → (list_any (clashes_with a) s.opens.opens ≡ false) × (is_none (own_open s.opens a) ≡ true)
free_checks s a e = (none_clash a s.opens.opens e, ap is_none (none_own a s.opens.opens e))

-- a file that is made has no opens, whatever its number will be
free_at : (s : State) (x : Context) (o : Open) (n : ℕ) → is_open s n ≡ false
    → (list_any (clashes_with (asking x o n)) s.opens.opens ≡ false) × (is_none (own_open s.opens (asking x o n)) ≡ true)
free_at s x o n e = free_checks s (asking x o n) e

pub shared_same : (s : State) (x : Context) (o : Open) (found : Found) → IsTree s.tree → IsStore s
    → (list_any (clashes_with (asking x o (file_of s.tree found))) s.opens.opens ≡ list_any (clashes_with (asking x o (number_of found))) s.opens.opens)
    × (is_none (own_open s.opens (asking x o (file_of s.tree found))) ≡ is_none (own_open s.opens (asking x o (number_of found))))
shared_same s x o (There place f cut) tree is = (refl, refl)
shared_same s x o (Absent m) tree is =
    let next = free_at s x o (s.tree.last_object + 1) (none_at_next s tree is) in
    let zero = free_at s x o 0 (none_at_zero s tree is) in
    (next.0 ∙ sym zero.0, next.1 ∙ sym zero.1)

-- where nothing is shared wrongly and no number is wanted, the room decides
last_ok : (k u : Bool) (rooms : List (Bool × Status)) → Ok tt ≡ judged (first_fault ((k, ShareDenied) ∷ (u, ServerFault) ∷ []))
    → judged (first_fault rooms) ≡ judged (first_fault ((k, ShareDenied) ∷ rooms ++ (u, ServerFault) ∷ []))
last_ok true u rooms e = absurd cc
last_ok false true rooms e = absurd cc
last_ok false false rooms e = ap judged (sym (first_append rooms ((false, ServerFault) ∷ []) ∙ or_none (first_fault rooms)))
  where
    or_none : (o : Option Status) → or_fault o None ≡ o
    or_none None = refl
    or_none (Some f) = refl

last_denied : (k u : Bool) (rooms : List (Bool × Status)) (status : Status)
    → Err status ≡ judged (first_fault ((k, ShareDenied) ∷ (u, ServerFault) ∷ [])) → status ≡ ShareDenied
    → Err status ≡ judged (first_fault ((k, ShareDenied) ∷ rooms ++ (u, ServerFault) ∷ []))
last_denied true u rooms status e n = e
last_denied false true rooms status e n = let same : status ≡ ServerFault = cc in
    absurd (let bad : ServerFault ≡ ShareDenied = sym same ∙ n in cc)
last_denied false false rooms status e n = absurd cc

last_spent : (k u : Bool) (rooms : List (Bool × Status)) (status : Status)
    → Err status ≡ judged (first_fault ((k, ShareDenied) ∷ (u, ServerFault) ∷ [])) → (status ≡ ShareDenied → ⊥)
    → (r : Result (Unit {0}) Status) → r ≡ judged (first_fault rooms)
    → (Ok tt ≡ r → Err status ≡ judged (first_fault ((k, ShareDenied) ∷ rooms ++ (u, ServerFault) ∷ [])))
    × ((other : Status) → Err other ≡ r → Err other ≡ judged (first_fault ((k, ShareDenied) ∷ rooms ++ (u, ServerFault) ∷ [])))
last_spent true u rooms status e n r is = let same : status ≡ ShareDenied = cc in absurd (n same)
last_spent false false rooms status e n r is = absurd cc
last_spent false true rooms status e n r is = (
  λ ok. by_room (first_fault rooms) refl (ok ∙ is),
  λ other er. by_other (first_fault rooms) refl other (er ∙ is),
)
  where
    by_room : (o : Option Status) → first_fault rooms ≡ o → Ok tt ≡ judged (first_fault rooms)
        → Err status ≡ judged (first_fault (rooms ++ (true, ServerFault) ∷ []))
    by_room None h ok = e ∙ sym (ap judged (first_append rooms ((true, ServerFault) ∷ []) ∙ ap (λ o. or_fault o (Some ServerFault)) h))
    by_room (Some f) h ok = absurd (let bad : Ok tt ≡ Err f = ok ∙ ap judged h in cc)

    by_other : (o : Option Status) → first_fault rooms ≡ o → (other : Status)
        → Err other ≡ judged (first_fault rooms) → Err other ≡ judged (first_fault (rooms ++ (true, ServerFault) ∷ []))
    by_other None h other er = absurd (let bad : Err other ≡ Ok tt = er ∙ ap judged h in cc)
    by_other (Some f) h other er = er ∙ ap judged (h ∙ sym (first_append rooms ((true, ServerFault) ∷ []) ∙ ap (λ o. or_fault o (Some ServerFault)) h))

pub room_decides : (s : State) (x : Context) (o : Open) (found : Found) (shared : Result (Unit {0}) Status)
    → shared ≡ judged (open_fault s.opens (asking x o (number_of found))) → shared ≡ Ok tt
    → judged (first_fault (room_checks s.tree found)) ≡ judged (first_fault (part.last_checks s x o found))
room_decides s x o found shared is ok =
    let a = asking x o (number_of found) in
    last_ok (list_any (clashes_with a) s.opens.opens) (is_none (own_open s.opens a) && (s.opens.last == last_number)) (room_checks s.tree found) (sym ok ∙ is)

pub denied_decides : (s : State) (x : Context) (o : Open) (found : Found) (status : Status)
    → Err status ≡ judged (open_fault s.opens (asking x o (number_of found))) → status ≡ ShareDenied
    → Err status ≡ judged (first_fault (part.last_checks s x o found))
denied_decides s x o found status is n =
    let a = asking x o (number_of found) in
    last_denied (list_any (clashes_with a) s.opens.opens) (is_none (own_open s.opens a) && (s.opens.last == last_number)) (room_checks s.tree found) status is n

pub spent_decides : (s : State) (x : Context) (o : Open) (found : Found) (status : Status)
    → Err status ≡ judged (open_fault s.opens (asking x o (number_of found))) → (status ≡ ShareDenied → ⊥)
    → (r : Result (Unit {0}) Status) → r ≡ judged (first_fault (room_checks s.tree found))
    → (Ok tt ≡ r → Err status ≡ judged (first_fault (part.last_checks s x o found)))
    × ((other : Status) → Err other ≡ r → Err other ≡ judged (first_fault (part.last_checks s x o found)))
spent_decides s x o found status is n r room =
    let a = asking x o (number_of found) in
    last_spent (list_any (clashes_with a) s.opens.opens) (is_none (own_open s.opens a) && (s.opens.last == last_number)) (room_checks s.tree found) status is n r room

-- where all passed, nothing is shared wrongly, the tree refuses nothing and a number is left
ends_free : (k u : Bool) (rooms : List (Bool × Status)) → first_fault ((k, ShareDenied) ∷ rooms ++ (u, ServerFault) ∷ []) ≡ None
    → (k ≡ false) × (first_fault rooms ≡ None) × (u ≡ false)
ends_free true u rooms e = absurd cc
ends_free false u rooms e = by_rooms (first_fault rooms) refl (sym (first_append rooms ((u, ServerFault) ∷ [])) ∙ e)
  where
    by_last : (u : Bool) → first_fault ((u, ServerFault) ∷ []) ≡ None → u ≡ false
    by_last true e = absurd cc
    by_last false e = refl

    by_rooms : (o : Option Status) → first_fault rooms ≡ o → or_fault (first_fault rooms) (first_fault ((u, ServerFault) ∷ [])) ≡ None
        → (false ≡ false) × (first_fault rooms ≡ None) × (u ≡ false)
    by_rooms None h e = (refl, h, by_last u (ap (λ o. or_fault o (first_fault ((u, ServerFault) ∷ []))) (sym h) ∙ e))
    by_rooms (Some f) h e = absurd (let bad : Some f ≡ None = ap (λ o. or_fault o (first_fault ((u, ServerFault) ∷ []))) (sym h) ∙ e in cc)

pub shared_free : (s : State) (x : Context) (o : Open) (found : Found)
    → first_fault (last_checks s x o found) ≡ None → open_fault s.opens (asking x o (file_of s.tree found)) ≡ None
shared_free s x o found e =
    let a = asking x o (file_of s.tree found) in
    let free = ends_free (list_any (clashes_with a) s.opens.opens) (is_none (own_open s.opens a) && (s.opens.last == last_number))
    (room_checks s.tree found) e in
    rw (free.0, free.2) refl

pub rooms_free : (s : State) (x : Context) (o : Open) (found : Found)
    → first_fault (last_checks s x o found) ≡ None → first_fault (room_checks s.tree found) ≡ None
rooms_free s x o found e =
    let a = asking x o (file_of s.tree found) in
    (ends_free (list_any (clashes_with a) s.opens.opens) (is_none (own_open s.opens a) && (s.opens.last == last_number)) (room_checks s.tree found) e).1
