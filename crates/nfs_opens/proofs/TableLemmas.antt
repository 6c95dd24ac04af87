-- What each change keeps of what holds of every table.
use Rattle.std.proofs.Common.{◌≡◌, ◌≢◌, ◌⊎◌, inl, inr, ℕ, suc, ◌+◌, ◌≤◌, Bool, true, false, cond, eqb, not, List, [], ◌∷◌, ◌++◌, Option, None}
use Rattle.std.proofs.{Common.{refl, sym, ◌∙◌, ap, subst, arith}, lemmas.Bool.{cases_eq, eq-eqb, ne_eqb, eqb-true}}
use Rattle.std.specs.{Prelude.{◌==◌, ◌^◌, if◌then◌else◌, filter}, List.list_any}
use Rattle.nfs_xdr.specs.Tables.{In}
use Rattle.nfs_xdr.proofs.Lists.{in_filter, stays_in, in_push, push_in, in_map, map_in, none_any, in_any}
use Rattle.nfs_xdr.proofs.Tables.{IsRising-push, IsRising-map, IsRising-filter, in_once, IsRising-upto}
use Rattle.nfs_ranges.specs.{declared.Kind.Kind, Holders.{Holders, cleared, HasNoClash}, Facts.IsBelow}
use Rattle.nfs_opens.specs.{declared.share.Share.Share, declared.records.OpenState.OpenState, declared.records.LockState.LockState}
use Rattle.nfs_opens.specs.{Holding.{FileHolders, on_file}, Table.{Table, Asked, clashes_with, as_asked, with_open, with_lock, no_opens}}
use Rattle.nfs_opens.specs.{TableInvariants.{IsTable, IsHolder, AreHolders}, Opening.{new_open, joins, narrows, is_narrower}}
use Rattle.nfs_opens.specs.{Closing.{held_within, without_open, without_lock}, Locking.raised}
use Rattle.nfs_opens.proofs.{FileLemmas.{file_here, file_other}, HolderLemmas.{IsFewer, fewer_keeps}}
use Rattle.nfs_opens.proofs.ShareLemmas.{peace_back, peace_self, joins_apart, narrows_apart}
use Rattle.nfs_opens.proofs.Terms.{not_under, stands}

-- a new table
pub table_new : (instance : ℕ) → IsTable (no_opens instance)
table_new instance = record {
  opens = omega arith;
  locks = omega arith;
  shares = λ a b there. absurd there;
  under = λ l there. absurd there;
  holders = λ f s b holds. absurd (holds refl);
  bytes = λ f s t b other writes. refl;
  within = λ f s b past. refl;
  below = λ f t b past. refl;
}

-- a new open
pub table_opened : (t : Table) (a : Asked) → IsTable t → list_any (clashes_with a) t.opens ≡ false
    → IsTable (record t { opens = t.opens ++ new_open t a ∷ []; last = t.last + 1 })
table_opened t a is free = record {
  opens = IsRising-push (λ (o : OpenState). o.number) 1 (suc t.last) (suc (t.last + 1)) t.opens (new_open t a) (omega arith) (omega arith) is.opens;
  locks = IsRising-upto (λ (l : LockState). l.number) 1 (suc t.last) (suc (t.last + 1)) t.locks (omega arith) is.locks;
  shares = λ x y in_x in_y. elim (in_push t.opens (new_open t a) x in_x) [
    | inl new_x ↦ elim (in_push t.opens (new_open t a) y in_y) [
      | inl new_y ↦ peace_self (as_asked x) y (ap (λ (o : OpenState). o.client) (new_y ∙ sym new_x)) (ap (λ (o : OpenState). o.owner) (new_y ∙ sym new_x))
      | inr old_y ↦ subst (λ (o : OpenState). clashes_with (as_asked o) y ≡ false) (sym new_x) (none_any (clashes_with a) t.opens y free old_y)
    ]
    | inr old_x ↦ elim (in_push t.opens (new_open t a) y in_y) [
      | inl new_y ↦ subst (λ (o : OpenState). clashes_with (as_asked x) o ≡ false) (sym new_y)
          (peace_back x (new_open t a) (none_any (clashes_with a) t.opens x free old_x))
      | inr old_y ↦ is.shares x y old_x old_y
    ]
  ];
  under = λ l there. let (o, under) = is.under l there in
      (o, record { stands = push_in t.opens (new_open t a) o under.stands; number = under.number; client = under.client; file = under.file });
  holders = is.holders;
  bytes = is.bytes;
  within = is.within;
  below = λ f s b past. is.below f s b (omega arith);
}

-- what a change of the open of a number has to keep
pub record KeepsOpen (t : Table) (n : ℕ) (f : OpenState → OpenState) : Type 0 where
  pub number : (o : OpenState) → (f o).number ≡ o.number
  pub client : (o : OpenState) → (f o).client ≡ o.client
  pub owner : (o : OpenState) → (f o).owner ≡ o.owner
  pub file : (o : OpenState) → (f o).file ≡ o.file
  pub apart : (o b : OpenState) → In o t.opens → o.number ≡ n → In b t.opens → clashes_with (as_asked (f o)) b ≡ false

at_number : (n : ℕ) (f : OpenState → OpenState) (P : OpenState → OpenState → Type 0) (o : OpenState) → (o.number ≡ n → P o (f o)) → (o.number ≢ n → P o o)
    → P o (if o.number == n then f o else o)
at_number n f P o changed same =
    elim (cases_eq o.number n) [
      | inl here ↦ rw (eq-eqb o.number n here) (changed here)
      | inr other ↦ rw (ne_eqb o.number n other) (same other)
    ]

-- one open changes
pub table_open_changed : (t : Table) (n : ℕ) (f : OpenState → OpenState) → IsTable t → KeepsOpen t n f → IsTable (with_open t n f)
table_open_changed t n f is keeps =
    let change : OpenState → OpenState = λ o. if o.number == n then f o else o in
    let number : (o : OpenState) → (change o).number ≡ o.number = λ o. at_number n f (λ o x. x.number ≡ o.number) o (λ _. keeps.number o) (λ _. refl) in
    let client : (o : OpenState) → (change o).client ≡ o.client = λ o. at_number n f (λ o x. x.client ≡ o.client) o (λ _. keeps.client o) (λ _. refl) in
    let file : (o : OpenState) → (change o).file ≡ o.file = λ o. at_number n f (λ o x. x.file ≡ o.file) o (λ _. keeps.file o) (λ _. refl) in
    record {
      opens = IsRising-map (λ (o : OpenState). o.number) change number 1 (suc t.last) t.opens is.opens;
      locks = is.locks;
      shares = λ x y in_x in_y.
          let (a, in_a, is_a) = in_map change t.opens x in_x in
          let (b, in_b, is_b) = in_map change t.opens y in_y in
          subst (λ (o : OpenState). clashes_with (as_asked o) y ≡ false) (sym is_a)
          (subst (λ (o : OpenState). clashes_with (as_asked (change a)) o ≡ false) (sym is_b) (pair a b in_a in_b));
      under = λ l there. let (o, under) = is.under l there in (
        change o,
        record {
          stands = map_in change t.opens o under.stands;
          number = number o ∙ under.number;
          client = client o
              ∙ under.client;
          file = file o ∙ under.file;
        },
      );
      holders = is.holders;
      bytes = is.bytes;
      within = is.within;
      below = is.below;
    }
  where
    pair : (a b : OpenState) → In a t.opens → In b t.opens
        → clashes_with (as_asked (if a.number == n then f a else a)) (if b.number == n then f b else b) ≡ false
    pair a b in_a in_b =
        at_number n f (λ b y. clashes_with (as_asked (if a.number == n then f a else a)) y ≡ false) b
        (λ b_is. at_number n f (λ a x. clashes_with (as_asked x) (f b) ≡ false) a
        (λ a_is. let same : b ≡ a = in_once (λ (o : OpenState). o.number) 1 (suc t.last) t.opens b a is.opens in_b in_a (b_is ∙ sym a_is) in
        peace_self (as_asked (f a)) (f b) (ap (λ (o : OpenState). (f o).client) same) (ap (λ (o : OpenState). (f o).owner) same))
        (λ _. peace_back a (f b) (keeps.apart b a in_b b_is in_a)))
        (λ _. at_number n f (λ a x. clashes_with (as_asked x) b ≡ false) a (λ a_is. keeps.apart a b in_a a_is in_b) (λ _. is.shares a b in_a in_b))

-- an owner's second open
pub table_joined : (t : Table) (a : Asked) (o : OpenState) → IsTable t → In o t.opens → o.file ≡ a.file → o.client ≡ a.client → o.owner ≡ a.owner
    → list_any (clashes_with a) t.opens ≡ false
    → IsTable (with_open t o.number (joins a))
table_joined t a o is there file client owner free = table_open_changed t o.number (joins a) is (record {
  number = λ x. refl;
  client = λ x. refl;
  owner = λ x. refl;
  file = λ x. refl;
  apart = λ x b in_x x_is in_b.
      let same : o ≡ x = in_once (λ (o : OpenState). o.number) 1 (suc t.last) t.opens o x is.opens there in_x (sym x_is) in
      subst (λ (x : OpenState). clashes_with (as_asked (joins a x)) b ≡ false) same
      (joins_apart a o b file client owner (is.shares o b there in_b) (none_any (clashes_with a) t.opens b free in_b));
})

-- a downgrade
pub table_narrowed : (t : Table) (access deny : Share) (o : OpenState) → IsTable t → In o t.opens → is_narrower access deny o ≡ true
    → IsTable (with_open t o.number (narrows access deny))
table_narrowed t access deny o is there narrower = table_open_changed t o.number (narrows access deny) is (record {
  number = λ x. refl;
  client = λ x. refl;
  owner = λ x. refl;
  file = λ x. refl;
  apart = λ x b in_x x_is in_b.
      let same : o ≡ x = in_once (λ (o : OpenState). o.number) 1 (suc t.last) t.opens o x is.opens there in_x (sym x_is) in
      subst (λ (x : OpenState). clashes_with (as_asked (narrows access deny x)) b ≡ false) same
      (narrows_apart access deny o b narrower (is.shares o b there in_b));
})

none_of : (b : Bool) (o : Option Kind) → cond b o None ≢ None → (b ≡ true) × (o ≢ None)
none_of true o holds = (refl, holds)
none_of false o holds = absurd (holds refl)

fewer_within : (locks : List LockState) (held : FileHolders) (f : ℕ) → IsFewer (held_within locks held f) (held f)
fewer_within locks held f s b = go (stands locks s) (held f s b)
  where
    go : (v : Bool) (o : Option Kind) → (cond v o None ≡ None) ⊎ (cond v o None ≡ o)
    go true o = inr refl
    go false o = inl refl

within_none : (v : Bool) (o : Option Kind) → o ≡ None → cond v o None ≡ None
within_none true o e = e
within_none false o e = refl

-- the lock states that are left hold what is left
pub holders_left : (t : Table) (p : LockState → Bool) → IsTable t → AreHolders (filter p t.locks) (held_within (filter p t.locks) t.held)
holders_left t p is f s b holds =
    let (left, held) = none_of _ _ holds in
    let (l, holder) = is.holders f s b held in
    let (k, in_k, k_is) = in_any (λ (l : LockState). l.number == s) (filter p t.locks) left in
    let was = in_filter p t.locks k in_k in
    let same : k ≡ l = in_once (λ (l : LockState). l.number) 1 (suc t.last) t.locks k l is.locks was.0 holder.stands (eqb-true _ _ k_is ∙ sym holder.number) in
    (l, record { stands = subst (λ (l : LockState). In l (filter p t.locks)) same in_k; number = holder.number; file = holder.file })

-- an open is closed
pub table_closed : (t : Table) (n : ℕ) → IsTable t → IsTable (without_open t n)
table_closed t n is = record {
  opens = IsRising-filter (λ (o : OpenState). o.number) (λ o. not (o.number == n)) 1 (suc t.last) t.opens is.opens;
  locks = IsRising-filter (λ (l : LockState). l.number) (not_under n) 1 (suc t.last) t.locks is.locks;
  shares = λ a b in_a in_b. is.shares a b (in_filter (λ (o : OpenState). not (o.number == n)) t.opens a in_a).0
      (in_filter (λ (o : OpenState). not (o.number == n)) t.opens b in_b).0;
  under = λ l there.
      let was = in_filter (not_under n) t.locks l there in
      let (o, under) = is.under l was.0 in (
        o,
        record {
          stands = stays_in (λ (o : OpenState). not (o.number == n)) t.opens o under.stands (ap (λ k. not (eqb k n)) under.number
              ∙ was.1);
          number = under.number;
          client = under.client;
          file = under.file;
        },
      );
  holders = holders_left t (not_under n) is;
  bytes = λ f. fewer_keeps (t.held f) (held_within (filter (not_under n) t.locks) t.held f) (fewer_within (filter (not_under n) t.locks) t.held f) (is.bytes f);
  within = λ f s b past. within_none _ _ (is.within f s b past);
  below = λ f s b past. within_none _ _ (is.below f s b past);
}

-- a lock state that holds no byte goes
pub table_freed : (t : Table) (n : ℕ) → IsTable t → ((f b : ℕ) → t.held f n b ≡ None) → IsTable (without_lock t n)
table_freed t n is empty = record {
  opens = is.opens;
  locks = IsRising-filter (λ (l : LockState). l.number) (λ l. not (l.number == n)) 1 (suc t.last) t.locks is.locks;
  shares = is.shares;
  under = λ l there. is.under l (in_filter (λ (l : LockState). not (l.number == n)) t.locks l there).0;
  holders = λ f s b holds.
      let (l, holder) = is.holders f s b holds in
      let other : l.number ≢ n = λ same. holds (ap (λ k. t.held f k b) (sym holder.number ∙ same) ∙ empty f b) in (
        l,
        record {
          stands = stays_in (λ (l : LockState). not (l.number == n)) t.locks l holder.stands
              (ap not (ne_eqb l.number n other));
          number = holder.number;
          file = holder.file;
        },
      );
  bytes = is.bytes;
  within = is.within;
  below = is.below;
}

lock_change : (n : ℕ) (P : LockState → LockState → Type 0) (l : LockState) → P l (raised l) → P l l → P l (if l.number == n then raised l else l)
lock_change n P l changed same = elim (l.number == n) as (λ b. P l (cond b (raised l) l)) [ true ↦ changed | false ↦ same ]

-- who holds what after a change on one file
pub record KeepsBytes (t : Table) (file : ℕ) (h : Holders) : Type 0 where
  pub holders : (s b : ℕ) → h s b ≢ None → (l : LockState) × IsHolder t.locks file s l
  pub bytes : HasNoClash h
  pub within : (s b : ℕ) → 2 ^ 64 ≤ b → h s b ≡ None
  pub below : IsBelow h (suc t.last)

-- what holds of each file's holders, holds behind a change on one file
pub on_each : (P : ℕ → Holders → Type 0) (held : FileHolders) (file : ℕ) (g : Holders → Holders) → P file (g (held file)) → ((f : ℕ) → P f (held f))
    → (f : ℕ) → P f (on_file held file g f)
on_each P held file g changed same f =
    elim (cases_eq f file) [
      | inl here ↦ subst (P f) (sym (file_here held file g f here)) (subst (λ k. P k (g (held file))) (sym here) changed)
      | inr other ↦ subst (P f) (sym (file_other held file g f other)) (same f)
    ]

-- a lock state's seqid rises and bytes of a file change
pub table_raised : (t : Table) (n file : ℕ) (g : Holders → Holders) → IsTable t → KeepsBytes t file (g (t.held file))
    → IsTable (record (with_lock t n raised) { held = on_file t.held file g })
table_raised t n file g is keeps =
    let change : LockState → LockState = λ l. if l.number == n then raised l else l in
    let number : (l : LockState) → (change l).number ≡ l.number = λ l. lock_change n (λ l x. x.number ≡ l.number) l refl refl in
    let client : (l : LockState) → (change l).client ≡ l.client = λ l. lock_change n (λ l x. x.client ≡ l.client) l refl refl in
    let of_file : (l : LockState) → (change l).file ≡ l.file = λ l. lock_change n (λ l x. x.file ≡ l.file) l refl refl in
    let opened : (l : LockState) → (change l).opened ≡ l.opened = λ l. lock_change n (λ l x. x.opened ≡ l.opened) l refl refl in
    let holds : (f : ℕ) → (s b : ℕ) → on_file t.held file g f s b ≢ None → (l : LockState) × IsHolder t.locks f s l =
    on_each (λ f h. (s b : ℕ) → h s b ≢ None → (l : LockState) × IsHolder t.locks f s l) t.held file g keeps.holders is.holders in
    record {
      opens = is.opens;
      locks = IsRising-map (λ (l : LockState). l.number) change number 1 (suc t.last) t.locks is.locks;
      shares = is.shares;
      under = λ l there.
          let (k, in_k, l_is) = in_map change t.locks l there in
          let (o, under) = is.under k in_k in (
            o,
            record {
              stands = under.stands;
              number = under.number ∙ sym (ap (λ (l : LockState). l.opened) l_is ∙ opened k);
              client = under.client ∙ sym (ap (λ (l : LockState). l.client) l_is ∙ client k);
              file = under.file ∙ sym (ap (λ (l : LockState). l.file) l_is ∙ of_file k);
            },
          );
      holders = λ f s b some.
          let (l, holder) = holds f s b some in
          (change l, record { stands = map_in change t.locks l holder.stands; number = number l ∙ holder.number; file = of_file l ∙ holder.file });
      bytes = on_each (λ f h. HasNoClash h) t.held file g keeps.bytes is.bytes;
      within = on_each (λ f h. (s b : ℕ) → 2 ^ 64 ≤ b → h s b ≡ None) t.held file g keeps.within is.within;
      below = on_each (λ f h. IsBelow h (suc t.last)) t.held file g keeps.below is.below;
    }

-- a lock state gives up bytes
pub clears_bytes : (t : Table) (n file first last : ℕ) → IsTable t → KeepsBytes t file (cleared (t.held file) n first last)
clears_bytes t n file first last is = record {
  holders = λ s b some. is.holders file s b (λ none. some (less _ _ none));
  bytes = fewer_keeps (t.held file) (cleared (t.held file) n first last) (λ s b. either _ _) (is.bytes file);
  within = λ s b past. less _ _ (is.within file s b past);
  below = λ s b past. less _ _ (is.below file s b past);
}
  where
    less : (v : Bool) (o : Option Kind) → o ≡ None → cond v None o ≡ None
    less true o e = refl
    less false o e = e

    either : (v : Bool) (o : Option Kind) → (cond v None o ≡ None) ⊎ (cond v None o ≡ o)
    either true o = inl refl
    either false o = inr refl
