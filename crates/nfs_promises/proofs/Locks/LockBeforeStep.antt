-- A byte that a lock state holds behind an operation it held before it, or the operation is a LOCK that granted it; and what the operation did spared it.
use Rattle.std.proofs.Common.{◌≡◌, ◌⊎◌, ℕ, suc, ◌+◌, ◌≤◌, Bool, true, false, cond, eqb, not, List, map, Option, Some, None, refl, sym, ◌∙◌, ap, subst, arith, inl, inr}
use Rattle.std.proofs.lemmas.Bool.{eqb-true, leb-true, and_parts}
use Rattle.std.specs.Prelude.{◌==◌, ◌&&◌, if◌then◌else◌, filter, option_map}
use Rattle.nfs_xdr.specs.{Tables.In, declared.time.Time.Time}
use Rattle.nfs_xdr.proofs.{Lists.{in_filter, in_push}, Tables.at_of_in}
use Rattle.nfs_compound.specs.declared.op_num.OpNum.TheVariants as Num
use Rattle.nfs_compound.specs.{declared.op.Item.Item, declared.op.Item.TheVariants.Operation, declared.op.Op.Op}
use Rattle.nfs_results.specs.{declared.res.Res.Res, Results.status_of_result}
use Rattle.nfs_ranges.specs.{declared.Kind.Kind, Holders.{holding, cleared, is_within}}
use Rattle.nfs_opens.specs.{declared.records.LockState.LockState, declared.records.OpenState.OpenState, declared.stateid.StateId.StateId}
use Rattle.nfs_opens.specs.{declared.locking.Wish.Wish, Holding.{FileHolders, on_file}, Table.{Table, Asked, lock_at, with_open}, TableInvariants.IsTable}
use Rattle.nfs_opens.specs.{Closing.{held_within, without_open, without_lock}, Locking.raised}
use Rattle.nfs_opens.specs.Opening as opening
use Rattle.nfs_opens.proofs.{CallLaws.{IsLocked, first_state}, Terms.{not_under, stands}}
use Rattle.nfs_names.specs.{declared.context.Context.Context, Outcome.is_ok, State.{State, time_at}}
use Rattle.nfs_names.proofs.Untouched.{leaves_each}
use Rattle.nfs_files.specs.LockTold.{LockTold}
use Rattle.nfs_files.proofs.Inside as inside
use Rattle.nfs_files.proofs.{Effects.{Effect, Opens, Narrows, Closes, Locks, Begins, Unlocks, Frees, Caused, table_behind}, Effected.caused_opens}
use Rattle.nfs_files.proofs.{OpensMoved.lock_is, Outcomes.comes_to, ToldGrants.{IsTold, lock_tells}, ToldLocks.left_by}
use Rattle.nfs_exec.specs.{Runs.LockHeld.LocksFor, Runs.Ops.RanOp}
use Rattle.nfs_exec.proofs.Runs.{KeptByRuns.Is, OneRun.{IsRun, by_ok, by_run}, WhatWasDone.did_lock}
use Rattle.nfs_promises.proofs.Runs.{LockOwners.owned_behind, LockStates.changed_from}
use Rattle.nfs_promises.specs.Locks.Denials.{Grants}

-- The lock state stands, with its client, its owner and its open, and holds the first byte.
pub record Holds (k : LockTold) (name : List ℕ) (t : Table) : Type 0 where
  pub lock : LockState
  pub there : In lock t.locks
  pub number : lock.number ≡ k.state
  pub client : lock.client ≡ k.client
  pub opened : lock.opened ≡ k.opened
  pub owner : lock.owner ≡ name
  pub held : t.held k.file k.state k.first ≡ Some k.kind

-- Tables.

module _ (k : LockTold) (owner : List ℕ) where
  held_as : (t u : Table) → u.locks ≡ t.locks → t.held k.file k.state k.first ≡ Some k.kind → Holds k owner u → Holds k owner t
  held_as t u locks held is = record {
    lock = is.lock;
    there = subst (In is.lock) locks is.there;
    number = is.number;
    client = is.client;
    opened = is.opened;
    owner = is.owner;
    held = held;
  }

  held_same : (t u : Table) → u.locks ≡ t.locks → u.held ≡ t.held → Holds k owner u → Holds k owner t
  held_same t u locks held is = held_as t u locks (ap (λ (h : FileHolders). h k.file k.state k.first) (sym held) ∙ is.held) is

  -- lock states went
  pub held_fewer : (t u : Table) (p : LockState → Bool) → u.locks ≡ filter p t.locks → t.held k.file k.state k.first ≡ Some k.kind → Holds k owner u → Holds k owner t
  held_fewer t u p locks held is = record {
    lock = is.lock;
    there = (in_filter p t.locks is.lock (subst (In is.lock) locks is.there)).0;
    number = is.number;
    client = is.client;
    opened = is.opened;
    owner = is.owner;
    held = held;
  }

  -- a seqid rose
  held_raised : (t u : Table) (n : ℕ) → u.locks ≡ map (λ l. if l.number == n then raised l else l) t.locks → t.held k.file k.state k.first ≡ Some k.kind
      → Holds k owner u → Holds k owner t
  held_raised t u n locks held is =
      let was = changed_from n t.locks is.lock (subst (In is.lock) locks is.there) in
      record {
        lock = was.0;
        there = was.1;
        number = was.2.number ∙ is.number;
        client = was.2.client ∙ is.client;
        opened = was.2.opened ∙ is.opened;
        owner = was.2.owner ∙ is.owner;
        held = held;
      }

if_held : (v : Bool) (o : Option Kind) (how : Kind) → cond v o None ≡ Some how → o ≡ Some how
if_held true o how e = e
if_held false o how e = absurd (let bad : None ≡ Some how = e in cc)

-- the bytes of lock states that stand
pub within_held : (locks : List LockState) (held : FileHolders) (f s b : ℕ) (how : Kind) → held_within locks held f s b ≡ Some how → held f s b ≡ Some how
within_held locks held f s b how e = if_held (stands locks s) (held f s b) how e

if_not : (out : Bool) (o : Option Kind) (how : Kind) → cond out None o ≡ Some how → o ≡ Some how
if_not true o how e = absurd (let bad : None ≡ Some how = e in cc)
if_not false o how e = e

cleared_held : (held : FileHolders) (file n first last f s b : ℕ) (how : Kind) → on_file held file (λ h. cleared h n first last) f s b ≡ Some how → held f s b ≡ Some how
cleared_held held file n first last f s b how e = go (eqb f file) e
  where
    go : (here : Bool) → (cond here (cleared (held f) n first last) (held f)) s b ≡ Some how → held f s b ≡ Some how
    go true e = if_not ((n == s) && is_within first last b) (held f s b) how e
    go false e = e

-- what holds a byte behind a LOCK has it by the LOCK, or had it
record IsNew (file n : ℕ) (kind how : Kind) (first last f s b : ℕ) : Type 0 where
  pub here : f ≡ file
  pub number : n ≡ s
  pub within : is_within first last b ≡ true
  pub alike : kind ≡ how

held_from : (held : FileHolders) (file n : ℕ) (kind how : Kind) (first last f s b : ℕ) → on_file held file (λ h. holding h n kind first last) f s b ≡ Some how
    → IsNew file n kind how first last f s b ⊎ (held f s b ≡ Some how)
held_from held file n kind how first last f s b e = by_file (eqb f file) refl e
  where
    by_range : (v : Bool) → eqb f file ≡ true → (n == s) && is_within first last b ≡ v → cond v (Some kind) (held f s b) ≡ Some how
        → IsNew file n kind how first last f s b ⊎ (held f s b ≡ Some how)
    by_range true here both e =
        (let parts = and_parts _ _ both in let same : Some kind ≡ Some how = e in
        inl (record { here = eqb-true f file here; number = eqb-true n s parts.0; within = parts.1; alike = cc }))
    by_range false here out e = inr e

    by_file : (v : Bool) → eqb f file ≡ v → (cond v (holding (held f) n kind first last) (held f)) s b ≡ Some how
        → IsNew file n kind how first last f s b ⊎ (held f s b ≡ Some how)
    by_file true here e = by_range ((n == s) && is_within first last b) here refl e
    by_file false there e = inr e

-- a LOCK that was granted gave the byte
record IsBy (k : LockTold) (w : Wish) (n : ℕ) : Type 0 where
  pub number : n ≡ k.state
  pub file : k.file ≡ w.file
  pub kind : k.kind ≡ w.kind
  pub within : is_within w.first w.last k.first ≡ true

locked_from : (k : LockTold) (owner : List ℕ) (t : Table) (w : Wish) (did : StateId × Table) → IsTable t → IsLocked t w did → Holds k owner did.1
    → IsBy k w did.0.number ⊎ Holds k owner t
locked_from k owner t w did table (inl more) is =
    let held = ap (λ (u : Table). u.held k.file k.state k.first) (sym more.left) ∙ is.held in
    elim (held_from t.held w.file more.number w.kind k.kind w.first w.last k.file k.state k.first held) [
      | inl new ↦ inl (record { number = ap (λ (i : StateId). i.number) more.answer ∙ new.number; file = new.here; kind = sym new.alike; within = new.within })
      | inr was ↦ inr (held_raised k owner t did.1 more.number (ap (λ (u : Table). u.locks) more.left) was is)
    ]
locked_from k owner t w did table (inr first) is =
    let held = ap (λ (u : Table). u.held k.file k.state k.first) (sym first.left) ∙ is.held in
    elim (held_from t.held w.file (t.last + 1) w.kind k.kind w.first w.last k.file k.state k.first held) [
      | inl new ↦ inl (record { number = ap (λ (i : StateId). i.number) first.answer ∙ new.number; file = new.here; kind = sym new.alike; within = new.within })
      | inr was ↦ elim (in_push t.locks (first_state t w first.owner first.opened) is.lock (subst (λ (u : Table). In is.lock u.locks) first.left is.there)) [
        | inl new ↦ absurd (let number : t.last + 1 ≡ k.state = sym (ap (λ (l : LockState). l.number) new) ∙ is.number in
            let none : t.held k.file k.state k.first ≡ None = table.below k.file k.state k.first (omega (arith, number)) in
            let bad : Some k.kind ≡ None = sym was ∙ none in cc)
        | inr old ↦ inr (record {
          lock = is.lock;
          there = old;
          number = is.number;
          client = is.client;
          opened = is.opened;
          owner = is.owner;
          held = was;
        })
      ]
    ]

-- One operation.

-- it is a LOCK that was granted
pub record IsGranting (s : State) (x : Context) (i : Item) : Type 0 where
  pub op : Op
  pub is : i ≡ Operation op
  pub number : ℕ
  pub wish : Wish
  pub locks : inside.Locks s x op number wish

held_opened : (k : LockTold) (owner : List ℕ) (t : Table) (a : Asked) (o : Option OpenState) → Holds k owner (opening.opens_by t a o).after → Holds k owner t
held_opened k owner t a (Some o) is = held_same k owner t (opening.opens_by t a (Some o)).after refl refl is
held_opened k owner t a None is = held_same k owner t (opening.opens_by t a None).after refl refl is

held_effect : (k : LockTold) (owner : List ℕ) (s : State) (x : Context) (op : Op) (r : Res) (i : Item) → i ≡ Operation op → (t : State) (e : Effect) → Caused s x op r t e
    → Holds k owner (table_behind t.opens e) → IsGranting s x i ⊎ Holds k owner t.opens
held_effect k owner s x op r i same t (Opens a) caused is = inr (held_opened k owner t.opens a (opening.own_open t.opens a) is)
held_effect k owner s x op r i same t (Narrows n access deny) caused is =
    inr (held_same k owner t.opens (with_open t.opens n (opening.narrows access deny)) refl refl is)
held_effect k owner s x op r i same t (Closes n file) caused is = inr (held_fewer k owner t.opens (without_open t.opens n) (not_under n) refl
    (within_held (filter (not_under n) t.opens.locks) t.opens.held k.file k.state k.first k.kind is.held) is)
held_effect k owner s x op r i same t (Locks n w) caused is = inl (record { op = op; is = same; number = n; wish = w; locks = caused.cause })
held_effect k owner s x op r i same t (Begins opened name w) caused is =
    inl (record { op = op; is = same; number = s.opens.last + 1; wish = w; locks = caused.cause })
held_effect k owner s x op r i same t (Unlocks n w) caused is = inr (held_raised k owner t.opens (table_behind t.opens (Unlocks n w)) n refl
    (cleared_held t.opens.held w.file n w.first w.last k.file k.state k.first k.kind is.held) is)
held_effect k owner s x op r i same t (Frees n) caused is =
    inr (held_fewer k owner t.opens (without_lock t.opens n) (λ (l : LockState). not (l.number == n)) refl is.held is)
held_effect k owner s x op r i same t e caused is = inr is

-- granted, and answered NFS4_OK
abbrev pub Granting : State → Context → Item → Bool → Type 0
Granting s x i ok = IsGranting s x i × (ok ≡ true)

held_item : (k : LockTold) (owner : List ℕ) (s : State) (x : Context) (now : Time) (refused : Bool) (i : Item) → Holds k owner (comes_to refused s x now i).state.opens
    → Granting s x i (is_ok (status_of_result (comes_to refused s x now i).result)) ⊎ Holds k owner s.opens
held_item k owner s x now refused i =
    let r = (comes_to refused s x now i).result in
    caused_opens (λ t. Holds k owner t → Granting s x i (is_ok (status_of_result r)) ⊎ Holds k owner s.opens) refused s x now i
    (λ op same t e caused before behind. elim (held_effect k owner s x op r i same t e caused behind) [
      | inl granting ↦ inl (granting, caused.ok)
      | inr was ↦ before was
    ]) (λ is. inr is)

held_run : (k : LockTold) (owner : List ℕ) (d : RanOp) → IsRun d → Holds k owner d.behind.store.opens
    → Granting d.before.store d.context d.item (is_ok d.status) ⊎ Holds k owner d.before.store.opens
held_run k owner d r =
    by_run (λ status text s. Holds k owner s.opens → Granting d.before.store d.context d.item (is_ok status) ⊎ Holds k owner d.before.store.opens) d r
    (λ is. inr is)
    (λ o e is. inr (subst (Holds k owner) (leaves_each r.refused d.before.store d.context (time_at d.before.store r.now) d.item o e).opens is))
    (held_item k owner d.before.store d.context (time_at d.before.store r.now) r.refused d.item)
    (λ other is. inr is)

-- what was granted was told
pub granted_told : (d : RanOp) → IsRun d → (op : Op) (n : ℕ) (w : Wish) → d.item ≡ Operation op → is_ok d.status ≡ true → inside.Locks d.before.store d.context op n w → LocksFor d n w
granted_told d r op n w item ok locks =
    let a = locks.asked in
    let is : d.item ≡ Operation (Op.Lock a) = item ∙ ap Operation locks.is in
    let told = by_ok (λ text s. IsTold Num.Lock d.before.store d.context a.locktype a.offset a.length text n w) d r (Operation (Op.Lock a)) is ok
    (λ ok. lock_tells d.before.store d.context (time_at d.before.store r.now) r.refused a n w r.whole.table r.whole.few
    (subst (λ op. inside.Locks d.before.store d.context op n w) locks.is locks) ok) in
    record { asked = a; is = is; wish = told.wish; names = told.names }

within_parts : (first last b : ℕ) → is_within first last b ≡ true → (first ≤ b) × (b ≤ last)
within_parts first last b e = let range = and_parts _ _ e in (leb-true _ _ range.0, leb-true _ _ range.1)

pub found_at : (t : Table) (l : LockState) (n : ℕ) → IsTable t → In l t.locks → l.number ≡ n → lock_at t n ≡ Some l
found_at t l n table there number =
    ap (lock_at t) (sym number) ∙ at_of_in (λ (l : LockState). l.number) 1 (suc t.last) t.locks l table.locks there

pub held_before : (k : LockTold) (owner : List ℕ) (d : RanOp) → IsRun d → Is d.behind → k.last ≡ k.first → Holds k owner d.behind.store.opens
    → Grants k owner d ⊎ Holds k owner d.before.store.opens
held_before k owner d r behind one is = elim (held_run k owner d r is) [
  | inr was ↦ inr was
  | inl granting ↦
      (let g = granting.0 in
      let s = d.before.store in
      let x = d.context in
      let locks = g.locks in
      let a = locks.asked in
      let did = locks.did in
      let item : d.item ≡ Operation (Op.Lock a) = g.is ∙ ap Operation locks.is in
      let left = by_ok (λ text u. u.opens ≡ did.1) d r (Operation (Op.Lock a)) item granting.1
      (left_by s x (time_at s r.now) r.refused a (record { wish = g.wish; id = locks.id }) did locks.judged locks.granted) in
      elim (locked_from k owner s.opens g.wish did r.whole.table (lock_is s.opens a.locker locks.id g.wish did locks.granted) (subst (Holds k owner) left is)) [
        | inr was ↦ inr was
        | inl by ↦ inl (by_lock g.wish (subst (λ n. LocksFor d n g.wish) (sym locks.state ∙ by.number) (granted_told d r g.op g.number g.wish g.is granting.1 locks))
            by.file by.kind (within_parts g.wish.first g.wish.last k.first by.within))
      ])
]
  where
    by_lock : (w : Wish) → LocksFor d k.state w → k.file ≡ w.file → k.kind ≡ w.kind → (w.first ≤ k.first) × (k.first ≤ w.last) → Grants k owner d
    by_lock w l file kind within = record {
      tells = record {
        wish = w;
        locks = l;
        range = (within.0, omega (arith, one), let low = within.1 in omega (arith, one, low));
        kind = kind;
        file = file;
        client = sym is.client ∙ (did_lock d r k.state w l).client is.lock is.there is.number;
        opened = ap (option_map (λ (l : LockState). l.opened)) (found_at d.behind.store.opens is.lock k.state behind.table is.there is.number) ∙ ap Some is.opened;
      };
      named = λ o new. sym (owned_behind d r k.state w l o new is.lock is.there is.number) ∙ is.owner;
    }
