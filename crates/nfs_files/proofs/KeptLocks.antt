-- A lock that was told stays through each operation that spares it, and whoever clashes with it is refused.
use Rattle.std.proofs.Common.{◌≡◌, ◌≢◌, ℕ, suc, ◌+◌, ◌<◌, ◌≤◌, true, false, cond, eqb, not, [], ◌∷◌, ◌++◌, Option, Some, None, refl, sym, ◌∙◌, ap, subst, arith, inl, inr}
use Rattle.std.proofs.lemmas.Bool.{cases_Bool, cases_eq, cases_lt, eq-eqb, ne_eqb, eqb-true, leb-true, and_parts}
use Rattle.std.specs.Prelude.{◌==◌, ◌^◌, if◌then◌else◌, filter}
use Rattle.nfs_xdr.specs.Tables.{In}
use Rattle.nfs_xdr.proofs.{Lists.{stays_in, push_in, map_in, any_in, find_in}, Tables.{in_once, in_bounds}}
use Rattle.nfs_ranges.specs.{declared.Kind.Kind, Holders.{Holders, holding, cleared, holds_any, is_within}, Told.meets, Facts.Tells}
use Rattle.nfs_ranges.proofs.{CanonicalLemmas.within_is, HolderLemmas.unmet}
use Rattle.nfs_opens.specs.{declared.records.LockState.LockState, declared.stateid.StateId.StateId, declared.locking.Wish.Wish, Holding.{FileHolders, on_file}}
use Rattle.nfs_opens.specs.{Table.{Table, lock_at, with_lock}, TableInvariants.IsTable, Closing.{without_open, without_lock}, Locking.raised}
use Rattle.nfs_opens.proofs.{LockLemmas.holds_none, StepLemmas.judged_tells, CallLaws.IsLocked}
use Rattle.nfs_files.specs.LockTold.{LockTold, IsBeside, IsAlike, Stands, Clashes}
use Rattle.nfs_opens.proofs.Terms.{not_under, stands}

-- bytes

pub within_not : (first last b : ℕ) → ((first ≤ b) → (b ≤ last) → ⊥) → is_within first last b ≡ false
within_not first last b out = elim (cases_Bool (is_within first last b)) [
  | inl inside ↦ (let range = and_parts _ _ inside in absurd (out (leb-true _ _ range.0) (leb-true _ _ range.1)))
  | inr outside ↦ outside
]

-- a byte of the lock lies in no wish beside it
pub outside : (k : LockTold) (w : Wish) (b : ℕ) → IsBeside w k → k.first ≤ b → b ≤ k.last → is_within w.first w.last b ≡ false
outside k w b beside lo hi = within_not w.first w.last b (λ a z. elim beside [ inl below ↦ absurd (omega arith) | inr above ↦ absurd (omega arith) ])

pub held_other : (h : Holders) (n : ℕ) (kind : Kind) (first last s b : ℕ) → (n ≡ s → is_within first last b ≡ false) → holding h n kind first last s b ≡ h s b
held_other h n kind first last s b apart =
    elim (cases_eq n s) [ inl same ↦ rw (eq-eqb n s same, apart same) refl | inr other ↦ rw (ne_eqb n s other) refl ]

pub cleared_other : (h : Holders) (n first last s b : ℕ) → (n ≡ s → is_within first last b ≡ false) → cleared h n first last s b ≡ h s b
cleared_other h n first last s b apart =
    elim (cases_eq n s) [ inl same ↦ rw (eq-eqb n s same, apart same) refl | inr other ↦ rw (ne_eqb n s other) refl ]

on_file_same : (held : FileHolders) (file : ℕ) (g : Holders → Holders) (f s b : ℕ) → ((h : Holders) → g h s b ≡ h s b) → on_file held file g f s b ≡ held f s b
on_file_same held file g f s b same = elim (cases_Bool (eqb f file)) [ inl here ↦ rw here (same (held f)) | inr there ↦ rw there refl ]

on_file_keeps : (held : FileHolders) (file : ℕ) (g : Holders → Holders) (f s b : ℕ) (o : Option Kind) → ((h : Holders) → h s b ≡ o → g h s b ≡ o)
    → held f s b ≡ o → on_file held file g f s b ≡ o
on_file_keeps held file g f s b o keeps is = elim (cases_Bool (eqb f file)) [ inl here ↦ rw here (keeps (held f) is) | inr there ↦ rw there is ]

-- a lock state that takes bytes beside the lock, or in the lock's kind, holds it as before
pub held_alike : (k : LockTold) (w : Wish) (h : Holders) (n b : ℕ) → (n ≡ k.state → IsAlike w k) → k.first ≤ b → b ≤ k.last
    → h k.state b ≡ Some k.kind → holding h n w.kind w.first w.last k.state b ≡ Some k.kind
held_alike k w h n b spares lo hi is = elim (cases_eq n k.state) [
  | inl same ↦ by_wish same (spares same)
  | inr other ↦ held_other h n w.kind w.first w.last k.state b (λ same. absurd (other same)) ∙ is
]
  where
    by_wish : n ≡ k.state → IsAlike w k → holding h n w.kind w.first w.last k.state b ≡ Some k.kind
    by_wish same (inl beside) = held_other h n w.kind w.first w.last k.state b (λ same. outside k w b beside lo hi) ∙ is
    by_wish same (inr kind) = elim (cases_Bool (is_within w.first w.last b)) [
      | inl inside ↦ rw (eq-eqb n k.state same, inside) (ap Some kind)
      | inr out ↦ held_other h n w.kind w.first w.last k.state b (λ same. out) ∙ is
    ]

-- the table's changes

-- neither lock states nor bytes move
pub stands_by : (k : LockTold) (t u : Table) → u.locks ≡ t.locks → u.held ≡ t.held → Stands k t → Stands k u
stands_by k t u locks held is = record {
  lock = is.lock;
  there = subst (In is.lock) (sym locks) is.there;
  number = is.number;
  client = is.client;
  opened = is.opened;
  held = λ b lo hi. ap (λ (h : FileHolders). h k.file k.state b) held ∙ is.held b lo hi;
}

-- another open is closed
pub stands_closed : (k : LockTold) (t : Table) (n : ℕ) → n ≢ k.opened → Stands k t → Stands k (without_open t n)
stands_closed k t n other is =
    let passes : not_under n is.lock ≡ true = ap not (ne_eqb is.lock.opened n (λ same. other (sym same ∙ is.opened))) in
    let left : In is.lock (filter (not_under n) t.locks) = stays_in (not_under n) t.locks is.lock is.there passes in
    let still : stands (filter (not_under n) t.locks) k.state ≡ true = any_in (λ (l : LockState). l.number == k.state)
    (filter (not_under n) t.locks) is.lock left (eq-eqb is.lock.number k.state is.number) in
    record {
      lock = is.lock;
      there = left;
      number = is.number;
      client = is.client;
      opened = is.opened;
      held = λ b lo hi. rw still (is.held b lo hi);
    }

-- a lock state that holds nothing is freed
pub stands_freed : (k : LockTold) (t : Table) (n : ℕ) (l : LockState) → IsTable t → k.first ≤ k.last → lock_at t n ≡ Some l
    → holds_any (t.held l.file) n ≡ false → Stands k t → Stands k (without_lock t n)
stands_freed k t n l table some found none is =
    let at = find_in (λ (l : LockState). l.number == n) t.locks l found in
    let other : is.lock.number ≢ n = λ same. (
    let holds : t.held k.file k.state k.first ≡ Some k.kind = is.held k.first (omega arith) some in
    let (h, holder) = table.holders k.file k.state k.first (λ e. let bad : Some k.kind ≡ None = sym holds ∙ e in cc) in
    let named : k.state ≡ n = sym is.number ∙ same in
    let one : h ≡ l = in_once (λ (l : LockState). l.number) 1 (suc t.last) t.locks h l table.locks holder.stands at.0
    (holder.number ∙ named ∙ sym (eqb-true _ _ at.1)) in
    let file : k.file ≡ l.file = sym holder.file ∙ ap (λ (l : LockState). l.file) one in
    let gone : t.held l.file n k.first ≡ None = holds_none (t.held l.file) n (table.within l.file n) none k.first in
    let bad : Some k.kind ≡ None = sym holds ∙ ap (λ f. t.held f k.state k.first) file ∙ ap (λ s. t.held l.file s k.first) named ∙ gone in cc) in
    record {
      lock = is.lock;
      there = stays_in (λ (l : LockState). not (l.number == n)) t.locks is.lock is.there (ap not (ne_eqb is.lock.number n other));
      number = is.number;
      client = is.client;
      opened = is.opened;
      held = is.held;
    }

change : ℕ → LockState → LockState
change n l = if l.number == n then raised l else l

-- a seqid rises, and bytes of a file move, but these are held as before
pub stands_raised : (k : LockTold) (t : Table) (n file : ℕ) (g : Holders → Holders)
    → ((h : Holders) (b : ℕ) → k.first ≤ b → b ≤ k.last → h k.state b ≡ Some k.kind → g h k.state b ≡ Some k.kind)
    → Stands k t → Stands k (record (with_lock t n raised) { held = on_file t.held file g })
unfolding change
stands_raised k t n file g keeps is = record {
  lock = change n is.lock;
  there = map_in (change n) t.locks is.lock is.there;
  number = elim (is.lock.number == n) as (λ v. (cond v (raised is.lock) is.lock).number ≡ k.state) [ true ↦ is.number | false ↦ is.number ];
  client = elim (is.lock.number == n) as (λ v. (cond v (raised is.lock) is.lock).client ≡ k.client) [ true ↦ is.client | false ↦ is.client ];
  opened = elim (is.lock.number == n) as (λ v. (cond v (raised is.lock) is.lock).opened ≡ k.opened) [ true ↦ is.opened | false ↦ is.opened ];
  held = λ b lo hi. on_file_keeps t.held file g k.file k.state b (Some k.kind) (λ h. keeps h b lo hi) (is.held b lo hi);
}

-- a new lock state takes other bytes, or the same ones beside it
pub stands_first : (k : LockTold) (t : Table) (w : Wish) (new : LockState) → IsTable t → Stands k t
    → Stands k (record t {
      locks = t.locks ++ new ∷ [];
      held = on_file t.held w.file (λ h. holding h (t.last + 1) w.kind w.first w.last);
      last = t.last + 1;
    })
stands_first k t w new table is =
    let below = in_bounds (λ (l : LockState). l.number) 1 (suc t.last) t.locks is.lock table.locks is.there in
    let other : t.last + 1 ≢ k.state = λ same. (let number = is.number in absurd (omega arith)) in
    record {
      lock = is.lock;
      there = push_in t.locks new is.lock is.there;
      number = is.number;
      client = is.client;
      opened = is.opened;
      held = λ b lo hi. on_file_same t.held w.file (λ h. holding h (t.last + 1) w.kind w.first w.last) k.file k.state b
          (λ h. held_other h (t.last + 1) w.kind w.first w.last k.state b (λ same. absurd (other same))) ∙ is.held b lo hi;
    }

-- no lock state has number 0
no_zero : (t : Table) (file b : ℕ) (kind : Kind) → IsTable t → t.held file 0 b ≡ Some kind → ⊥
no_zero t file b kind table holds =
    let (l, holder) = table.holders file 0 b (λ e. let bad : Some kind ≡ None = sym holds ∙ e in cc) in
    let above = in_bounds (λ (l : LockState). l.number) 1 (suc t.last) t.locks l table.locks holder.stands in
    let zero = holder.number in absurd (omega arith)

-- and whoever clashes with it is not granted
no_byte : (k : LockTold) (t : Table) (w : Wish) (n b : ℕ) → Tells (t.held w.file) n w.kind w.first w.last None → n ≢ k.state → Stands k t
    → w.file ≡ k.file → meets w.kind (Some k.kind) ≡ true → k.first ≤ b → b ≤ k.last → w.first ≤ b → b ≤ w.last → ⊥
no_byte k t w n b tells other is file kinds lo hi a z =
    let free : meets w.kind (t.held w.file k.state b) ≡ false =
    unmet (t.held w.file) n w.kind w.first w.last b k.state tells (within_is w.first w.last b a z) (λ same. other (sym same)) in
    let there : t.held w.file k.state b ≡ Some k.kind = ap (λ f. t.held f k.state b) file ∙ is.held b lo hi in
    let bad : true ≡ false = sym kinds ∙ ap (meets w.kind) (sym there) ∙ free in cc

clash_byte : (k : LockTold) (t : Table) (w : Wish) (m n : ℕ) → Tells (t.held w.file) n w.kind w.first w.last None → n ≢ k.state → Stands k t
    → k.first ≤ k.last → w.first ≤ w.last → Clashes k m w → ⊥
clash_byte k t w m n tells other is some range clash =
    let before = clash.before in let behind = clash.behind in
    elim (cases_lt w.first k.first) [
      | inl below ↦ no_byte k t w n k.first tells other is clash.file clash.kinds (omega arith) some (omega arith) behind
      | inr above ↦ no_byte k t w n w.first tells other is clash.file clash.kinds above before (omega arith) range
    ]

pub refused : (k : LockTold) (t : Table) (w : Wish) (did : StateId × Table) → IsTable t → IsLocked t w did
    → k.first ≤ k.last → w.first ≤ w.last → w.last < 2 ^ 64 → Stands k t → Clashes k did.0.number w → ⊥
refused k t w did table (inl more) some range fits is clash =
    clash_byte k t w did.0.number more.number (judged_tells t more.number more.access w table range fits more.judged)
    (λ same. clash.other (ap (λ (i : StateId). i.number) more.answer ∙ same)) is some range clash
refused k t w did table (inr first) some range fits is clash =
    clash_byte k t w did.0.number 0 (judged_tells t 0 first.access w table range fits first.judged)
    (λ zero. no_zero t k.file k.first k.kind table (ap (λ s. t.held k.file s k.first) zero ∙ is.held k.first (omega arith) some)) is some range clash
