-- The lock states of one key, and which files stay listed.
use Rattle.std.proofs.Common.{◌≡◌, ℕ, suc, ◌⊎◌, Bool, true, false, not, List, [], ◌∷◌, ◌++◌, map, Some, refl, sym, ◌∙◌, ap, subst, inl, inr}
use Rattle.std.proofs.lemmas.Bool.{cases_Bool, cases_eq, and_parts, eqb-true, eq-eqb, false≢true}
use Rattle.std.specs.{Prelude.{◌==◌, find, filter, bytes_eq, IfSome, if◌then◌else◌}, List.list_any}
use Rattle.nfs_xdr.proofs.{Lists.{find_in, any_in, in_any, any_filter, any_map, push_in, last_in}, Tables.{at_of_in, in_once}}
use Rattle.nfs_xdr.specs.Tables.{In}
use Rattle.nfs_ranges.specs.Holders.{LockedBytes}
use Rattle.nfs_opens.specs.{declared.records.OpenState.OpenState, declared.records.LockState.LockState, Holding.{is_listed, ListsNoMore}}
use Rattle.nfs_opens.specs.{Locking.{is_locker, raised}, Table.{Table, open_at, lock_at}, TableInvariants.{IsTable, AreListed}, Keys.{owner_key, lock_key}}
use Rattle.nfs_opens.proofs.{ShareLemmas.owner_bytes, StepLemmas.{all_some, if_some}}

abbrev number_of : LockState → ℕ
number_of l = l.number

pub locker_file : (client : ℕ) (owner : List ℕ) (file : ℕ) (l : LockState) → is_locker client owner file l ≡ true → l.file ≡ file
locker_file client owner file l e = eqb-true l.file file (and_parts (l.file == file) _ e).0

pub locker_key : (client : ℕ) (owner : List ℕ) (file k : ℕ) → k ≡ owner_key file client owner → (l : LockState) → is_locker client owner file l ≡ true
    → lock_key l ≡ k
locker_key client owner file k is l e =
    let owns = and_parts (l.client == client) (bytes_eq l.owner owner) (and_parts (l.file == file) _ e).1 in
    ap (λ (n : ℕ). owner_key n l.client l.owner) (locker_file client owner file l e)
    ∙ (ap (λ (n : ℕ). owner_key file n l.owner) (eqb-true l.client client owns.0)
    ∙ (ap (λ (xs : List ℕ). owner_key file client xs) (owner_bytes l.owner owner owns.1) ∙ sym is))

-- an open that is found is the one of its number
pub its_file : (t : Table) (p : OpenState → Bool) (o : OpenState) → IsTable t → find p t.opens ≡ Some o → IfSome (open_at t o.number) (λ x. x.file ≡ o.file)
its_file t p o is found = all_some (open_at t o.number) o (λ x. x.file ≡ o.file)
    (at_of_in (λ (o : OpenState). o.number) 1 (suc t.last) t.opens o is.opens (find_in p t.opens o found).0) refl

-- lock states leave, all of one file, which is listed no longer where none is left
pub listed_left : (leaves : LockState → Bool) (file : ℕ) (locks locks' : List LockState) (files files' : List (ℕ × LockedBytes)) → AreListed locks files
    → ((l : LockState) → In l locks → leaves l ≡ true → l.file ≡ file) → locks' ≡ filter (λ l. not (leaves l)) locks → ListsNoMore files files'
    → (list_any (λ l. l.file == file) locks' ≡ false → is_listed file files' ≡ false) → AreListed locks' files'
listed_left leaves file locks locks' files files' listed of_file made lists gone f some =
    elim (cases_eq f file) [
      | inl here ↦ elim (cases_Bool (list_any (λ (l : LockState). l.file == f) locks')) [
        | inl stands ↦ stands
        | inr none ↦ absurd (false≢true
            (sym (gone (ap (λ (k : ℕ). list_any (λ (l : LockState). l.file == k) locks') (sym here) ∙ none)) ∙ (ap (λ (k : ℕ). is_listed k files') (sym here) ∙ some)))
      ]
      | inr other ↦ ap (list_any (λ (l : LockState). l.file == f)) made
          ∙ (any_filter (λ (l : LockState). l.file == f) (λ l. not (leaves l)) locks
          (λ l there on. elim (cases_Bool (leaves l)) [
            | inl goes ↦ absurd (other (sym (eqb-true l.file f on) ∙ of_file l there goes))
            | inr stays ↦ ap not stays
          ])
          ∙ listed f (lists f some))
    ]

-- a lock state's file is listed, if it was not
pub listed_set : (locks : List LockState) (file : ℕ) (l : LockState) (files files' : List (ℕ × LockedBytes)) → AreListed locks files
    → ((f : ℕ) → is_listed f files' ≡ true → (f ≡ file) ⊎ (is_listed f files ≡ true)) → In l locks → l.file ≡ file → AreListed locks files'
listed_set locks file l files files' listed lists there of_file f some = elim (lists f some) [
  | inl here ↦ any_in (λ (k : LockState). k.file == f) locks l there (eq-eqb l.file f (of_file ∙ sym here))
  | inr before ↦ listed f before
]

-- a seqid rises
pub listed_raised : (n : ℕ) (locks locks' : List LockState) (files : List (ℕ × LockedBytes)) → AreListed locks files
    → locks' ≡ map (λ l. if l.number == n then raised l else l) locks → AreListed locks' files
listed_raised n locks locks' files listed made f some =
    ap (list_any (λ (l : LockState). l.file == f)) made
    ∙ (any_map (λ (l : LockState). l.file == f) (λ l. if l.number == n then raised l else l)
    (λ l. elim (cases_Bool (l.number == n)) [ inl here ↦ rw here refl | inr other ↦ rw other refl ]) locks
    ∙ listed f some)

-- a lock state comes, and its file is listed
pub listed_pushed : (locks locks' : List LockState) (l : LockState) (files files' : List (ℕ × LockedBytes)) → AreListed locks files → locks' ≡ locks ++ l ∷ []
    → ((f : ℕ) → is_listed f files' ≡ true → (f ≡ l.file) ⊎ (is_listed f files ≡ true)) → AreListed locks' files'
listed_pushed locks locks' l files files' listed made lists =
    subst (λ (ls : List LockState). AreListed ls files') (sym made)
    (listed_set (locks ++ l ∷ []) l.file l files files'
    (λ f some. (let (k, there, on) = in_any (λ (k : LockState). k.file == f) locks (listed f some) in
    any_in (λ (k : LockState). k.file == f) (locks ++ l ∷ []) k (push_in locks l k there) on))
    lists (last_in locks l) refl)

-- the lock states under an open are of its file, and so is the one of a number
pub under_file : (t : Table) (n file : ℕ) → IsTable t → IfSome (open_at t n) (λ o. o.file ≡ file) → (l : LockState) → In l t.locks → (l.opened == n) ≡ true → l.file ≡ file
under_file t n file is of_file l there on =
    let (o, under) = is.under l there in
    let found : open_at t n ≡ Some o = ap (open_at t) (sym (eqb-true l.opened n on) ∙ sym under.number)
    ∙ at_of_in (λ (o : OpenState). o.number) 1 (suc t.last) t.opens o is.opens under.stands in
    sym under.file ∙ if_some (open_at t n) o (λ (o : OpenState). o.file ≡ file) found of_file

pub one_file : (t : Table) (n : ℕ) (lock : LockState) → IsTable t → lock_at t n ≡ Some lock → (l : LockState) → In l t.locks → (l.number == n) ≡ true → l.file ≡ lock.file
one_file t n lock is found l there on =
    let of = find_in (λ (l : LockState). l.number == n) t.locks lock found in
    ap (λ (l : LockState). l.file) (in_once number_of 1 (suc t.last) t.locks l lock is.locks there of.0 (eqb-true l.number n on ∙ sym (eqb-true lock.number n of.1)))
