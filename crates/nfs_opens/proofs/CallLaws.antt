-- What a call that was granted found, and what it answers and leaves. A refused one leaves the table as it was.
use Rattle.std.proofs.Common.{◌≡◌, ◌⊎◌, inl, inr, ℕ, suc, ◌+◌, Bool, true, false, eqb, not, List, [], ◌∷◌, ◌++◌, Option, Some, None, refl, sym, ◌∙◌, ap}
use Rattle.std.proofs.lemmas.Bool.{eqb-true, and_parts}
use Rattle.std.specs.Prelude.{◌==◌, Result, Ok, Err, ok_or}
use Rattle.nfs_xdr.specs.declared.status.Status.TheVariants.{BadStateId, LocksHeld, Inval, ServerFault}
use Rattle.nfs_xdr.proofs.{Lists.find_in, Tables.at_of_in}
use Rattle.nfs_ranges.specs.Holders.{holding, cleared, holds_any}
use Rattle.nfs_opens.specs.{declared.share.Share.Share, declared.stateid.StateId.StateId, declared.records.OpenState.OpenState}
use Rattle.nfs_opens.specs.{declared.records.LockState.LockState, declared.judging.Sort.TheVariants.{OpenOnly, LockOnly, Either}, declared.locking.Wish.Wish}
use Rattle.nfs_opens.specs.{declared.locking.OpenFault.TheVariants.Refused, Holding.on_file, StateId.{next_seqid, last_number}, Steps.{◌>>=◌, require, map_err}}
use Rattle.nfs_opens.specs.{Table.{Table, answer_of, table_after, open_at, lock_at, with_open, with_lock}, TableInvariants.IsTable, Judging.judge}
use Rattle.nfs_opens.specs.{Opening.{is_narrower, narrows, downgrade}, Closing.{without_open, close, lock_in, without_lock, free}}
use Rattle.nfs_opens.specs.Locking.{raised, lock_judged, access_in, is_locker, state_of, lock_as, lock_first, lock_under, lock_known, unlock}
use Rattle.nfs_opens.proofs.{LockLemmas.{judged_open, judged_lock, judged_freed}, Terms.lock_by_owner}

-- Steps.

-- what came of something was found by way of it
pub record Came {A B F : Type 0} (v : Result A F) (next : A → Result B F) (b : B) : Type 0 where
  pub found : A
  pub is : v ≡ Ok found
  pub then : next found ≡ Ok b

pub came : {A B F : Type 0} (v : Result A F) (next : A → Result B F) (b : B) → (v >>= next) ≡ Ok b → Came v next b
came (Err f) next b e = absurd cc
came (Ok a) next b e = record { found = a; is = refl; then = e }

ok_of : {A F : Type 0} (v : Result A F) (a b : A) → v ≡ Ok a → v ≡ Ok b → a ≡ b
ok_of (Err f) a b e h = absurd cc
ok_of (Ok c) a b e h = let here : c ≡ a = cc in let there : c ≡ b = cc in sym here ∙ there

pub ok_is : {A F : Type 0} {v : Result A F} {a b : A} → v ≡ Ok a → v ≡ Ok b → a ≡ b
ok_is {v = v} {a = a} {b = b} e h = ok_of v a b e h

pub goes_on : {A B F : Type 0} (v : Result A F) (next : A → Result B F) (a : A) → v ≡ Ok a → (v >>= next) ≡ next a
goes_on {A} {B} {F} v next a e = ap (λ (v : Result A F). v >>= next) e

pub stops : {A B F : Type 0} (v : Result A F) (next : A → Result B F) (f : F) → v ≡ Err f → (v >>= next) ≡ Err f
stops {A} {B} {F} v next f e = ap (λ (v : Result A F). v >>= next) e

holds : {F : Type 0} (b : Bool) (f : F) (u : Unit {0}) → require b f ≡ Ok u → b ≡ true
holds true f u e = refl
holds false f u e = absurd cc

pub is_there : {A F : Type 0} (o : Option A) (f : F) (a : A) → ok_or o f ≡ Ok a → o ≡ Some a
is_there None f a e = absurd cc
is_there (Some b) f a e = let same : b ≡ a = cc in ap Some same

pub unmapped : {A F G : Type 0} (g : F → G) (v : Result A F) (a : A) → map_err g v ≡ Ok a → v ≡ Ok a
unmapped g (Err f) a e = absurd cc
unmapped g (Ok b) a e = let same : b ≡ a = cc in ap Ok same

not_true : (b : Bool) → not b ≡ true → b ≡ false
not_true true e = absurd cc
not_true false e = refl

-- What a call did.

pub did_is : {A F : Type 0} (t : Table) (did : Result (A × Table) F) (a : A) → answer_of did ≡ Ok a → did ≡ Ok (a, table_after t did)
did_is t (Err f) a e = absurd cc
did_is t (Ok d) a e = let same : d.0 ≡ a = cc in ap (λ a. Ok (a, d.1)) same

pub refused_is : {A F : Type 0} (t : Table) (did : Result (A × Table) F) (f : F) → Err f ≡ answer_of did → (did ≡ Err f) × (table_after t did ≡ t)
refused_is t (Err g) f e = (let same : g ≡ f = cc in ap Err same, refl)
refused_is t (Ok d) f e = absurd cc

-- CLOSE

pub record IsClosed (t : Table) (id : StateId) (client file : ℕ) (did : Unit {0} × Table) : Type 0 where
  pub state : OpenState
  pub found : open_at t id.number ≡ Some state
  pub mine : state.client ≡ client
  pub there : state.file ≡ file
  pub left : did.1 ≡ without_open t id.number

pub closed_is : (t : Table) (id : StateId) (client file : ℕ) (did : Unit {0} × Table) → close t id client file ≡ Ok did → IsClosed t id client file did
closed_is t id client file did e =
    let seat = came (judge t id client (Some file) OpenOnly) _ did e in
    let (o, found, mine, there) = judged_open t id client file seat.found seat.is in
    record { state = o; found = found; mine = mine; there = there; left = sym (ap (λ (d : Unit {0} × Table). d.1) (ok_is refl seat.then)) }

-- FREE_STATEID

pub record IsFreed (t : Table) (id : StateId) (client : ℕ) (did : Unit {0} × Table) : Type 0 where
  pub state : LockState
  pub found : lock_at t id.number ≡ Some state
  pub mine : state.client ≡ client
  pub empty : holds_any (t.held state.file) id.number ≡ false
  pub left : did.1 ≡ without_lock t id.number

freed_by : (t : Table) (id : StateId) (client n : ℕ) (l k : LockState) (did : Unit {0} × Table)
    → lock_at t id.number ≡ Some l → l.client ≡ client → n ≡ id.number → lock_at t n ≡ Some k
    → holds_any (t.held k.file) n ≡ false → did.1 ≡ without_lock t n → IsFreed t id client did
freed_by t id client n l k did found mine number at empty left =
    let here : Some l ≡ Some k = sym found ∙ (ap (lock_at t) (sym number) ∙ at) in
    let same : l ≡ k = cc in
    record {
      state = l;
      found = found;
      mine = mine;
      empty = ap (λ (l : LockState). holds_any (t.held l.file) id.number) same ∙ (ap (holds_any (t.held k.file)) (sym number) ∙ empty);
      left = left ∙ ap (without_lock t) number;
    }

pub freed_is : (t : Table) (id : StateId) (client : ℕ) (did : Unit {0} × Table) → free t id client ≡ Ok did → IsFreed t id client did
freed_is t id client did e =
    let seat = came (judge t id client None Either) _ did e in
    let number = came (lock_in seat.found) _ did seat.then in
    let l = came (ok_or (lock_at t number.found) BadStateId) _ did number.then in
    let u = came (require (not (holds_any (t.held l.found.file) number.found)) LocksHeld) _ did l.then in
    let (k, found, mine, same) = judged_freed t id client seat.found number.found seat.is number.is in
    freed_by t id client number.found k l.found did found mine same (is_there _ _ l.found l.is)
    (not_true _ (holds _ _ u.found u.is)) (sym (ap (λ (d : Unit {0} × Table). d.1) (ok_is refl u.then)))

-- OPEN_DOWNGRADE

pub record IsNarrowed (t : Table) (id : StateId) (client file : ℕ) (access deny : Share) (did : StateId × Table) : Type 0 where
  pub state : OpenState
  pub found : open_at t id.number ≡ Some state
  pub mine : state.client ≡ client
  pub there : state.file ≡ file
  pub narrower : is_narrower access deny state ≡ true
  pub answer : did.0 ≡ record { seqid = next_seqid state.seqid; instance = t.instance; number = id.number }
  pub left : did.1 ≡ with_open t id.number (narrows access deny)

pub narrowed_is : (t : Table) (id : StateId) (client file : ℕ) (access deny : Share) (did : StateId × Table)
    → downgrade t id client file access deny ≡ Ok did → IsNarrowed t id client file access deny did
narrowed_is t id client file access deny did e =
    let seat = came (judge t id client (Some file) OpenOnly) _ did e in
    let o = came (ok_or (open_at t id.number) BadStateId) _ did seat.then in
    let u = came (require (is_narrower access deny o.found) Inval) _ did o.then in
    let (k, found, mine, there) = judged_open t id client file seat.found seat.is in
    let at = is_there _ _ o.found o.is in
    let here : Some k ≡ Some o.found = sym found ∙ at in
    let same : k ≡ o.found = cc in
    let is = ok_is refl u.then in
    record {
      state = o.found;
      found = at;
      mine = sym (ap (λ (o : OpenState). o.client) same) ∙ mine;
      there = sym (ap (λ (o : OpenState). o.file) same) ∙ there;
      narrower = holds _ _ u.found u.is;
      answer = sym (ap (λ (d : StateId × Table). d.0) is);
      left = sym (ap (λ (d : StateId × Table). d.1) is);
    }

-- LOCK

-- a lock state that stood has more: in a table it is the client's, on that file
pub record IsMore (t : Table) (w : Wish) (did : StateId × Table) : Type 0 where
  pub number : ℕ
  pub access : Share
  pub state : LockState
  pub found : lock_at t number ≡ Some state
  pub own : IsTable t → (state.client ≡ w.client) × (state.file ≡ w.file)
  pub judged : lock_judged t number access w ≡ Ok tt
  pub answer : did.0 ≡ record { seqid = next_seqid state.seqid; instance = t.instance; number = number }
  pub left : did.1 ≡ record (with_lock t number raised) { held = on_file t.held w.file (λ h. holding h number w.kind w.first w.last) }

abbrev pub first_state : Table → Wish → List ℕ → ℕ → LockState
first_state t w owner opened = record { number = t.last + 1; client = w.client; owner = owner; file = w.file; opened = opened; seqid = 1 }

-- or a new one has its first bytes
pub record IsFirst (t : Table) (w : Wish) (did : StateId × Table) : Type 0 where
  pub opened : ℕ
  pub owner : List ℕ
  pub access : Share
  pub state : OpenState
  pub found : open_at t opened ≡ Some state
  pub mine : state.client ≡ w.client
  pub there : state.file ≡ w.file
  pub judged : lock_judged t 0 access w ≡ Ok tt
  pub room : eqb t.last last_number ≡ false
  pub answer : did.0 ≡ record { seqid = 1; instance = t.instance; number = t.last + 1 }
  pub left : did.1 ≡ record t {
    locks = t.locks ++ first_state t w owner opened ∷ [];
    held = on_file t.held w.file (λ h. holding h (t.last + 1) w.kind w.first w.last);
    last = t.last + 1;
  }

abbrev pub IsLocked : Table → Wish → StateId × Table → Type 0
IsLocked t w did = IsMore t w did ⊎ IsFirst t w did

more_is : (t : Table) (w : Wish) (n : ℕ) (access : Share) (did : StateId × Table)
    → ((l : LockState) → lock_at t n ≡ Some l → IsTable t → (l.client ≡ w.client) × (l.file ≡ w.file))
    → lock_as t w n access ≡ Ok did → IsMore t w did
more_is t w n access did own e =
    let u = came (lock_judged t n access w) _ did e in
    let k = came (ok_or (lock_at t n) (Refused BadStateId)) _ did u.then in
    let found = is_there _ _ k.found k.is in
    let is = ok_is refl k.then in
    record {
      number = n;
      access = access;
      state = k.found;
      found = found;
      own = own k.found found;
      judged = u.is;
      answer = sym (ap (λ (d : StateId × Table). d.0) is);
      left = sym (ap (λ (d : StateId × Table). d.1) is);
    }

-- the lock state that is found under a number is the only one of that number
same_lock : (t : Table) (n : ℕ) (l k : LockState) → lock_at t n ≡ Some l → lock_at t n ≡ Some k → l ≡ k
same_lock t n l k here there = let same : Some l ≡ Some k = sym here ∙ there in cc

first_is : (t : Table) (w : Wish) (opened : ℕ) (owner : List ℕ) (access : Share) (o : OpenState) (did : StateId × Table)
    → open_at t opened ≡ Some o → o.client ≡ w.client → o.file ≡ w.file → lock_first t w opened owner access ≡ Ok did → IsFirst t w did
first_is t w opened owner access o did found mine there e =
    let u = came (lock_judged t 0 access w) _ did e in
    let room = came (require (not (t.last == last_number)) (Refused ServerFault)) _ did u.then in
    let is = ok_is refl room.then in
    record {
      opened = opened;
      owner = owner;
      access = access;
      state = o;
      found = found;
      mine = mine;
      there = there;
      judged = u.is;
      room = not_true _ (holds _ _ room.found room.is);
      answer = sym (ap (λ (d : StateId × Table). d.0) is);
      left = sym (ap (λ (d : StateId × Table). d.1) is);
    }

by_owner_is : (t : Table) (w : Wish) (opened : ℕ) (owner : List ℕ) (access : Share) (l : Option LockState) (o : OpenState) (did : StateId × Table)
    → state_of t w.client owner w.file ≡ l → open_at t opened ≡ Some o → o.client ≡ w.client → o.file ≡ w.file
    → lock_by_owner t w opened owner access l ≡ Ok did → IsLocked t w did
by_owner_is t w opened owner access (Some l) o did is found mine there e =
    let its = find_in (is_locker w.client owner w.file) t.locks l is in
    let tests = and_parts _ _ its.1 in
    inl (more_is t w l.number access did (λ k at table.
    (let same = same_lock t l.number l k (at_of_in (λ (l : LockState). l.number) 1 (suc t.last) t.locks l table.locks its.0) at in (
      ap (λ (l : LockState). l.client) (sym same) ∙ eqb-true _ _ (and_parts _ _ tests.1).0,
      ap (λ (l : LockState). l.file) (sym same) ∙ eqb-true _ _ tests.0,
    ))) e)
by_owner_is t w opened owner access None o did is found mine there e = inr (first_is t w opened owner access o did found mine there e)

pub under_is : (t : Table) (id : StateId) (owner : List ℕ) (w : Wish) (did : StateId × Table) → lock_under t id owner w ≡ Ok did → IsLocked t w did
under_is t id owner w did e =
    let seat = came (map_err Refused (judge t id w.client (Some w.file) OpenOnly)) _ did e in
    let (o, found, mine, there) = judged_open t id w.client w.file seat.found (unmapped _ _ seat.found seat.is) in
    by_owner_is t w id.number owner (access_in seat.found) (state_of t w.client owner w.file) o did refl found mine there seat.then

pub known_is : (t : Table) (id : StateId) (w : Wish) (did : StateId × Table) → lock_known t id w ≡ Ok did → IsLocked t w did
known_is t id w did e =
    let seat = came (map_err Refused (judge t id w.client (Some w.file) LockOnly)) _ did e in
    let (l, found, mine, there) = judged_lock t id w.client w.file seat.found (unmapped _ _ seat.found seat.is) in
    inl (more_is t w id.number (access_in seat.found) did (λ k at table.
    (let same = same_lock t id.number l k found at in (
      ap (λ (l : LockState). l.client) (sym same) ∙ mine,
      ap (λ (l : LockState). l.file) (sym same) ∙ there,
    ))) seat.then)

-- LOCKU

pub record IsUnlocked (t : Table) (id : StateId) (client file first last : ℕ) (did : StateId × Table) : Type 0 where
  pub state : LockState
  pub found : lock_at t id.number ≡ Some state
  pub mine : state.client ≡ client
  pub there : state.file ≡ file
  pub answer : did.0 ≡ record { seqid = next_seqid state.seqid; instance = t.instance; number = id.number }
  pub left : did.1 ≡ record (with_lock t id.number raised) { held = on_file t.held file (λ h. cleared h id.number first last) }

pub unlocked_is : (t : Table) (id : StateId) (client file first last : ℕ) (did : StateId × Table)
    → unlock t id client file first last ≡ Ok did → IsUnlocked t id client file first last did
unlocked_is t id client file first last did e =
    let seat = came (judge t id client (Some file) LockOnly) _ did e in
    let l = came (ok_or (lock_at t id.number) BadStateId) _ did seat.then in
    let (k, found, mine, there) = judged_lock t id client file seat.found seat.is in
    let at = is_there _ _ l.found l.is in
    let here : Some k ≡ Some l.found = sym found ∙ at in
    let same : k ≡ l.found = cc in
    let is = ok_is refl l.then in
    record {
      state = l.found;
      found = at;
      mine = sym (ap (λ (l : LockState). l.client) same) ∙ mine;
      there = sym (ap (λ (l : LockState). l.file) same) ∙ there;
      answer = sym (ap (λ (d : StateId × Table). d.0) is);
      left = sym (ap (λ (d : StateId × Table). d.1) is);
    }
