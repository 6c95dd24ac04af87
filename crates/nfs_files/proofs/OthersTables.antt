-- What a change to the opens and lock states of one client leaves to another client.
use Rattle.std.proofs.Common.{◌≡◌, ◌≢◌, ℕ, suc, ◌+◌, Bool, true, false, cond, not, List, [], ◌∷◌, ◌++◌, map, refl, sym, ◌∙◌, ap, subst, arith, inl, inr}
use Rattle.std.proofs.lemmas.Bool.{cases_Bool, eq-eqb, eqb-true, ne_eqb}
use Rattle.std.specs.Prelude.{◌==◌, filter, if◌then◌else◌}
use Rattle.nfs_xdr.specs.Tables.{In}
use Rattle.nfs_xdr.proofs.{Lists.{in_filter, stays_in, any_in, filter_past}, Tables.{in_bounds, in_once}}
use Rattle.nfs_opens.specs.{declared.records.OpenState.OpenState, declared.records.LockState.LockState, Holding.FileHolders}
use Rattle.nfs_opens.specs.{Table.{Table, with_open, with_lock}, TableInvariants.IsTable, Closing.{without_open, without_lock}}
use Rattle.nfs_names.specs.Ending.{table_staying}
use Rattle.nfs_files.specs.Own.{HasAsBefore}
use Rattle.nfs_opens.proofs.Terms.{not_under, stands}

module _ {X : Type 0} where
  pub filter_changed : (p q : X → Bool) (f : X → X) (xs : List X) → ((x : X) → In x xs → q x ≡ true → (p (f x) ≡ false) × (p x ≡ false))
      → filter p (map (λ x. if q x then f x else x) xs) ≡ filter p xs
  filter_changed p q f [] none = refl
  filter_changed p q f (x ∷ xs) none =
      let rest = filter_changed p q f xs (λ y there. none y (inr there)) in
      elim (cases_Bool (q x)) [
        | inl here ↦ (let fails = none x (inl refl) here in rw (here, fails.0, fails.1) rest)
        | inr other ↦ rw other (ap (λ (ys : List X). cond (p x) (x ∷ ys) ys) rest)
      ]

  pub filter_pushed : (p : X → Bool) (xs : List X) (new : X) → p new ≡ false → filter p (xs ++ new ∷ []) ≡ filter p xs
  filter_pushed p [] new fails = rw fails refl
  filter_pushed p (x ∷ xs) new fails = ap (λ (ys : List X). cond (p x) (x ∷ ys) ys) (filter_pushed p xs new fails)

pub same : (c : ℕ) (t : Table) → HasAsBefore c t t
same c t = record { opens = refl; locks = refl; bytes = λ l there mine file b. refl; instance = refl }

pub both : (c : ℕ) (t u v : Table) → HasAsBefore c t u → HasAsBefore c u v → HasAsBefore c t v
both c t u v first second = record {
  opens = second.opens ∙ first.opens;
  locks = second.locks ∙ first.locks;
  bytes = λ l there mine file b. second.bytes l (still l there mine) mine file b ∙ first.bytes l there mine file b;
  instance = second.instance ∙ first.instance;
}
  where
    still : (l : LockState) → In l t.locks → l.client ≡ c → In l u.locks
    still l there mine =
        (in_filter (λ (l : LockState). l.client == c) u.locks l
        (subst (In l) (sym first.locks) (stays_in (λ (l : LockState). l.client == c) t.locks l there (eq-eqb l.client c mine)))).0

-- whose the lock states and the opens of a number are
abbrev pub LocksAreOf : Table → ℕ → ℕ → Type 0
LocksAreOf t n client = (l : LockState) → In l t.locks → l.number ≡ n → l.client ≡ client

abbrev pub OpensAreOf : Table → ℕ → ℕ → Type 0
OpensAreOf t n client = (o : OpenState) → In o t.opens → o.number ≡ n → o.client ≡ client

pub lock_is_of : (t : Table) (n client : ℕ) (l : LockState) → IsTable t → In l t.locks → l.number ≡ n → l.client ≡ client → LocksAreOf t n client
lock_is_of t n client l is there number mine k here named =
    let one : k ≡ l = in_once (λ (l : LockState). l.number) 1 (suc t.last) t.locks k l is.locks here there (named ∙ sym number) in
    ap (λ (l : LockState). l.client) one ∙ mine

pub open_is_of : (t : Table) (n client : ℕ) (o : OpenState) → IsTable t → In o t.opens → o.number ≡ n → o.client ≡ client → OpensAreOf t n client
open_is_of t n client o is there number mine p here named =
    let one : p ≡ o = in_once (λ (o : OpenState). o.number) 1 (suc t.last) t.opens p o is.opens here there (named ∙ sym number) in
    ap (λ (o : OpenState). o.client) one ∙ mine

not_it : (c client n : ℕ) → client ≢ c → n ≡ client → n ≢ c
not_it c client n other mine same = other (sym mine ∙ same)

-- an open changes, or a lock state with the bytes that it holds
pub open_changed : (c client : ℕ) (t : Table) (n : ℕ) (f : OpenState → OpenState) → client ≢ c → ((o : OpenState) → (f o).client ≡ o.client) → OpensAreOf t n client
    → HasAsBefore c t (with_open t n f)
open_changed c client t n f other mild mine = record {
  opens = filter_changed (λ (o : OpenState). o.client == c) (λ (o : OpenState). o.number == n) f t.opens (λ o there named. (
    ne_eqb (f o).client c (not_it c client (f o).client other (mild o ∙ mine o there (eqb-true _ _ named))),
    ne_eqb o.client c (not_it c client o.client other (mine o there (eqb-true _ _ named))),
  ));
  locks = refl;
  bytes = λ l there own file b. refl;
  instance = refl;
}

pub lock_changed : (c client : ℕ) (t : Table) (n : ℕ) (f : LockState → LockState) (held : FileHolders) → client ≢ c → ((l : LockState) → (f l).client ≡ l.client)
    → LocksAreOf t n client → ((file s b : ℕ) → s ≢ n → held file s b ≡ t.held file s b) → HasAsBefore c t (record (with_lock t n f) { held = held })
lock_changed c client t n f held other mild mine beside = record {
  opens = refl;
  locks = filter_changed (λ (l : LockState). l.client == c) (λ (l : LockState). l.number == n) f t.locks (λ l there named. (
    ne_eqb (f l).client c (not_it c client (f l).client other (mild l ∙ mine l there (eqb-true _ _ named))),
    ne_eqb l.client c (not_it c client l.client other (mine l there (eqb-true _ _ named))),
  ));
  bytes = λ l there own file b. beside file l.number b (λ named. other (sym (mine l there named) ∙ own));
  instance = refl;
}

-- an open comes, or a lock state
pub open_new : (c : ℕ) (t : Table) (new : OpenState) (last : ℕ) → new.client ≢ c → HasAsBefore c t (record t { opens = t.opens ++ new ∷ []; last = last })
open_new c t new last other = record {
  opens = filter_pushed (λ (o : OpenState). o.client == c) t.opens new (ne_eqb new.client c other);
  locks = refl;
  bytes = λ l there own file b. refl;
  instance = refl;
}

pub lock_new : (c : ℕ) (t : Table) (new : LockState) (held : FileHolders) → IsTable t → new.client ≢ c
    → ((file s b : ℕ) → s ≢ t.last + 1 → held file s b ≡ t.held file s b)
    → HasAsBefore c t (record t { locks = t.locks ++ new ∷ []; held = held; last = t.last + 1 })
lock_new c t new held is other beside = record {
  opens = refl;
  locks = filter_pushed (λ (l : LockState). l.client == c) t.locks new (ne_eqb new.client c other);
  bytes = λ l there own file b. beside file l.number b (λ named.
      (let below = in_bounds (λ (l : LockState). l.number) 1 (suc t.last) t.locks l is.locks there in absurd (omega arith)));
  instance = refl;
}

-- an open goes with its lock states, or a lock state that holds nothing
pub open_gone : (c client : ℕ) (t : Table) (n : ℕ) → IsTable t → client ≢ c → OpensAreOf t n client → HasAsBefore c t (without_open t n)
open_gone c client t n is other mine = record {
  opens = filter_past (λ (o : OpenState). o.client == c) (λ (o : OpenState). not (o.number == n)) t.opens (λ o there own.
      ap not (ne_eqb o.number n (λ named. other (sym (mine o there named) ∙ eqb-true _ _ own))));
  locks = filter_past (λ (l : LockState). l.client == c) (not_under n) t.locks (λ l there own. beside l there (eqb-true _ _ own));
  bytes = λ l there own file b. (let still : stands (filter (not_under n) t.locks) l.number ≡ true =
      any_in (λ (k : LockState). k.number == l.number) (filter (not_under n) t.locks) l (stays_in (not_under n) t.locks l there (beside l there own))
      (eq-eqb l.number l.number refl) in rw still refl);
  instance = refl;
}
  where
    beside : (l : LockState) → In l t.locks → l.client ≡ c → not_under n l ≡ true
    beside l there own =
        let (o, under) = is.under l there in
        ap not (ne_eqb l.opened n (λ named. other (sym (mine o under.stands (under.number ∙ named)) ∙ under.client ∙ own)))

pub lock_gone : (c client : ℕ) (t : Table) (n : ℕ) → client ≢ c → LocksAreOf t n client → HasAsBefore c t (without_lock t n)
lock_gone c client t n other mine = record {
  opens = refl;
  locks = filter_past (λ (l : LockState). l.client == c) (λ (l : LockState). not (l.number == n)) t.locks (λ l there own.
      ap not (ne_eqb l.number n (λ named. other (sym (mine l there named) ∙ eqb-true _ _ own))));
  bytes = λ l there own file b. refl;
  instance = refl;
}

-- clients end, but not this one
pub clients_gone : (c : ℕ) (t : Table) (stays : ℕ → Bool) → stays c ≡ true → HasAsBefore c t (table_staying stays t)
clients_gone c t stays here = record {
  opens = filter_past (λ (o : OpenState). o.client == c) (λ (o : OpenState). stays o.client) t.opens (λ o there own. ap stays (eqb-true _ _ own) ∙ here);
  locks = filter_past (λ (l : LockState). l.client == c) (λ (l : LockState). stays l.client) t.locks (λ l there own. ap stays (eqb-true _ _ own) ∙ here);
  bytes = λ l there own file b. (let left : In l (filter (λ (l : LockState). stays l.client) t.locks) =
      stays_in (λ (l : LockState). stays l.client) t.locks l there (ap stays own ∙ here) in
      let still : stands (filter (λ (l : LockState). stays l.client) t.locks) l.number ≡ true =
      any_in (λ (k : LockState). k.number == l.number) (filter (λ (l : LockState). stays l.client) t.locks) l left (eq-eqb l.number l.number refl) in
      rw still refl);
  instance = refl;
}
