-- What a call answers where nothing refuses it, and that its table is one.
use Rattle.std.proofs.Common.{◌≡◌, ◌≢◌, inl, inr, ℕ, suc, ◌+◌, ◌<◌, ◌≤◌, Bool, true, false, cond, eqb, not, List, [], ◌∷◌, ◌++◌, Option, Some, None, refl, sym}
use Rattle.std.proofs.{Common.{◌∙◌, ap, subst, arith}, Math.Path.fun_ext, lemmas.Bool.{eqb-true, cases_eq, cases_lt, eq-eqb, ne_eqb, le-leb}}
use Rattle.std.specs.{Prelude.{◌==◌, ◌^◌, Ok, Err, ok_or, IfSome, nat_le, ◌&&◌}, List.list_any}
use Rattle.nfs_ranges.specs.{declared.Held.Held, Holders.{Holders, holding, cleared, dropped, holds_any, HasNoClash}, declared.Kind.Kind, Told.meets}
use Rattle.nfs_ranges.specs.Facts.{Tells, IsBelow}
use Rattle.nfs_opens.specs.{declared.share.Share.Share, declared.records.OpenState.OpenState, declared.records.LockState.LockState, declared.locking.Wish.Wish}
use Rattle.nfs_opens.specs.{declared.locking.OpenFault.TheVariants.Refused, Holding.{FileHolders, on_file}}
use Rattle.nfs_opens.specs.{TableInvariants.{HasNoByteBehind, IsTable, IsHolder}, StateId.{next_seqid, last_number}}
use Rattle.nfs_opens.specs.{Table.{Table, open_at, lock_at, with_open, with_lock, Asked, is_own, clashes_with}, Closing.without_lock}
use Rattle.nfs_opens.specs.{Locking.{permits, clash, lock_judged, lock_as, lock_first, raised}, Steps.require}
use Rattle.nfs_opens.specs.Opening.{narrows, is_narrower, joins, own_open}
use Rattle.nfs_xdr.specs.{declared.status.Status.TheVariants.{BadStateId, OpenMode, ShareDenied, ServerFault}, declared.status.Status.Status}
use Rattle.nfs_xdr.proofs.{Lists.{find_in, in_push, push_in, last_in}, Tables.{IsRising-push, in_once, IsRising-upto, in_bounds}}
use Rattle.nfs_opens.proofs.CallLaws.{first_state, goes_on}
use Rattle.nfs_opens.proofs.TableLemmas.{KeepsBytes, table_raised, clears_bytes, table_freed, table_narrowed, table_joined, on_each}
use Rattle.nfs_opens.proofs.{FileLemmas.{file_here, file_other}, ShareLemmas.own_is, LockLemmas.{sets_bytes, clash_tells, holds_none, some_or_none}, Terms.unless_told}

pub if_some : {X : Type 0} (o : Option X) (x : X) (P : X → Type 0) → o ≡ Some x → IfSome o P → P x
if_some {X} o x P e is = let at : IfSome (Some x) P = subst (λ (o : Option X). IfSome o P) e is in at

pub all_some : {X : Type 0} (o : Option X) (x : X) (P : X → Type 0) → o ≡ Some x → P x → IfSome o P
all_some {X} o x P e is = subst (λ (o : Option X). IfSome o P) (sym e) is

judged_free : (v : Bool) (o : Option Held) → cond v (unless_told o) (Err (Refused OpenMode)) ≡ Ok tt → o ≡ None
judged_free true None e = refl
judged_free true (Some h) e = absurd cc
judged_free false o e = absurd cc

-- no clash is reported where a LOCK is not refused
pub judged_tells : (t : Table) (n : ℕ) (access : Share) (w : Wish) → IsTable t → w.first ≤ w.last → w.last < 2 ^ 64 → lock_judged t n access w ≡ Ok tt
    → Tells (t.held w.file) n w.kind w.first w.last None
judged_tells t n access w is range fits e = clash_tells t w.file n w.kind w.first w.last None is range fits
    (judged_free (permits access w.kind) (clash t n w) e)

-- a lock state that is found under a number stands
pub found_holder : (t : Table) (n file : ℕ) (l : LockState) → lock_at t n ≡ Some l → l.file ≡ file → IsHolder t.locks file n l
found_holder t n file l e of_file = let there = find_in
    (λ (l : LockState). l.number == n) t.locks l e in record { stands = there.0; number = eqb-true _ _ there.1; file = of_file }

pub lock_as_is : (t : Table) (w : Wish) (n : ℕ) (access : Share) (l : LockState) → lock_judged t n access w ≡ Ok tt → lock_at t n ≡ Some l
    → lock_as t w n access ≡ Ok (
      record { seqid = next_seqid l.seqid; instance = t.instance; number = n },
      record (with_lock t n raised) { held = on_file t.held w.file (λ h. holding h n w.kind w.first w.last) },
    )
lock_as_is t w n access l e f =
    goes_on (lock_judged t n access w) _ tt e
    ∙ goes_on (ok_or (lock_at t n) (Refused BadStateId)) _ l (ap (λ o. ok_or o (Refused BadStateId)) f)

-- a LOCK by a lock state that stands keeps the table
pub table_locked : (t : Table) (w : Wish) (n : ℕ) (access : Share) (l : LockState) → IsTable t → w.first ≤ w.last → w.last < 2 ^ 64
    → lock_judged t n access w ≡ Ok tt → lock_at t n ≡ Some l → l.file ≡ w.file
    → IsTable (record (with_lock t n raised) { held = on_file t.held w.file (λ h. holding h n w.kind w.first w.last) })
table_locked t w n access l is range fits e f of_file =
    let holder = found_holder t n w.file l f of_file in
    let above = in_bounds (λ (l : LockState). l.number) 1 (suc t.last) t.locks l is.locks holder.stands in
    let low : n < suc t.last = let same = holder.number in omega arith in
    table_raised t n w.file (λ h. holding h n w.kind w.first w.last) is
    (sets_bytes t t.locks n w.file w.first w.last t.last w.kind l is (λ k there. there) holder low (omega arith) fits
    (judged_tells t n access w is range fits e))

-- a LOCKU keeps the table
pub table_unlocked : (t : Table) (n file first last : ℕ) → IsTable t
    → IsTable (record (with_lock t n raised) { held = on_file t.held file (λ h. cleared h n first last) })
table_unlocked t n file first last is = table_raised t n file (λ h. cleared h n first last) is (clears_bytes t n file first last is)

-- FREE_STATEID of a lock state that holds no byte keeps the table
pub free_keeps : (t : Table) (n : ℕ) (l : LockState) → IsTable t → lock_at t n ≡ Some l → holds_any (t.held l.file) n ≡ false → IsTable (without_lock t n)
free_keeps t n l is found none =
    let here = found_holder t n l.file l found refl in
    table_freed t n is (λ f b. elim (some_or_none (t.held f n b)) [
      | inr e ↦ e
      | inl some ↦
          (let (k, holder) = is.holders f n b some in
          let same : k ≡ l = in_once (λ (l : LockState). l.number) 1 (suc t.last) t.locks k l is.locks holder.stands here.stands
          (holder.number ∙ sym here.number) in
          let file : f ≡ l.file = sym holder.file ∙ ap (λ (l : LockState). l.file) same in
          ap (λ j. t.held j n b) file ∙ holds_none (t.held l.file) n (is.within l.file n) none b)
    ])

and_none : (v : Bool) → (v && false) ≡ false
and_none true = refl
and_none false = refl

-- what is reported to a number that holds nothing is reported to any such
tells_any : (h : Holders) (s u : ℕ) (kind : Kind) (first last : ℕ) → Tells h s kind first last None → ((b : ℕ) → h s b ≡ None) → Tells h u kind first last None
tells_any h s u kind first last tells empty b t lo hi =
    let quiet : meets kind (h t b) ≡ false = elim (cases_eq t s) [
      | inl same ↦ ap (meets kind) (ap (λ k. h k b) same ∙ empty b)
      | inr other ↦ rw (ne_eqb t s other) at (tells b t lo hi)
    ] in
    ap (λ (v : Bool). not (t == u) && v) quiet ∙ and_none _

-- no lock state has number 0
no_zero : (t : Table) (file b : ℕ) → IsTable t → t.held file 0 b ≡ None
no_zero t file b is = elim (some_or_none (t.held file 0 b)) [
  | inr e ↦ e
  | inl some ↦ (let (l, holder) = is.holders file 0 b some in
      let above = in_bounds (λ (l : LockState). l.number) 1 (suc t.last) t.locks l is.locks holder.stands in
      let zero = holder.number in absurd (omega arith))
]

-- a LOCK by a new lock state keeps the table
pub table_first : (t : Table) (w : Wish) (owner : List ℕ) (opened : ℕ) (o : OpenState) → IsTable t → w.first ≤ w.last → w.last < 2 ^ 64
    → Tells (t.held w.file) 0 w.kind w.first w.last None
    → open_at t opened ≡ Some o → o.client ≡ w.client → o.file ≡ w.file
    → IsTable (record t {
      locks = t.locks ++ first_state t w owner opened ∷ [];
      held = on_file t.held w.file
          (λ h. holding h (t.last + 1) w.kind w.first w.last);
      last = t.last + 1;
    })
table_first t w owner opened o is range fits tells e client of_file =
    let new : LockState = first_state t w owner opened in
    let ls : List LockState = t.locks ++ new ∷ [] in
    let g : Holders → Holders = λ h. holding h (t.last + 1) w.kind w.first w.last in
    let keeps : KeepsBytes (record t { locks = ls; last = t.last + 1 }) w.file (g (t.held w.file)) =
    sets_bytes t ls (t.last + 1) w.file w.first w.last (t.last + 1) w.kind new is (λ k there. push_in t.locks new k there)
    (record { stands = last_in t.locks new; number = refl; file = refl }) (omega arith) (omega arith) fits
    (tells_any (t.held w.file) 0 (t.last + 1) w.kind w.first w.last tells (λ b. no_zero t w.file b is)) in
    let found = find_in (λ (o : OpenState). o.number == opened) t.opens o e in
    record {
      opens = IsRising-upto (λ (o : OpenState). o.number) 1 (suc t.last) (suc (t.last + 1)) t.opens (omega arith) is.opens;
      locks = IsRising-push (λ (l : LockState). l.number) 1 (suc t.last) (suc (t.last + 1)) t.locks new (omega arith) (omega arith) is.locks;
      shares = is.shares;
      under = λ l there. elim (in_push t.locks new l there) [
        | inl here ↦ (
          o,
          record {
            stands = found.0;
            number = eqb-true _ _ found.1 ∙ sym (ap (λ (l : LockState). l.opened) here);
            client = client ∙ sym (ap (λ (l : LockState). l.client) here);
            file = of_file ∙ sym (ap (λ (l : LockState). l.file) here);
          },
        )
        | inr old ↦ is.under l old
      ];
      holders = on_each (λ f h. (s b : ℕ) → h s b ≢ None → (l : LockState) × IsHolder ls f s l) t.held w.file g keeps.holders
          (λ f s b some. let (l, holder) = is.holders f s b some in
          (l, record { stands = push_in t.locks new l holder.stands; number = holder.number; file = holder.file }));
      bytes = on_each (λ f h. HasNoClash h) t.held w.file g keeps.bytes is.bytes;
      within = on_each (λ f h. HasNoByteBehind h) t.held w.file g keeps.within is.within;
      below = on_each (λ f h. IsBelow h (suc (t.last + 1))) t.held w.file g keeps.below (λ f s b past. is.below f s b (omega arith));
    }

pub lock_first_is : (t : Table) (w : Wish) (opened : ℕ) (owner : List ℕ) (access : Share) → lock_judged t 0 access w ≡ Ok tt → eqb t.last last_number ≡ false
    → lock_first t w opened owner access ≡ Ok (
      record { seqid = 1; instance = t.instance; number = t.last + 1 },
      record t {
        locks = t.locks ++ first_state t w owner opened ∷ [];
        held = on_file t.held w.file (λ h. holding h (t.last + 1) w.kind w.first w.last);
        last = t.last + 1;
      },
    )
lock_first_is t w opened owner access e f =
    goes_on (lock_judged t 0 access w) _ tt e
    ∙ goes_on (require (not (t.last == last_number)) (Refused ServerFault)) _ tt (ap (λ b. require (not b) (Refused ServerFault)) f)

all_true : (a b c : Bool) → a ≡ true → b ≡ true → c ≡ true → (a && (b && c)) ≡ true
all_true true b c e f g = rw (f, g) refl
all_true false b c e f g = e

-- whole bytes given up are bytes cleared
pub whole_cleared : (h : Holders) (n : ℕ) → HasNoByteBehind h → dropped h n ≡ cleared h n 0 0xffff_ffff_ffff_ffff
whole_cleared h n within = fun_ext (λ s. fun_ext (λ b. elim (cases_eq n s) [
  | inr other ↦ ap (λ (v : Bool). cond v None (h s b)) (ne_eqb n s other)
      ∙ sym (ap (λ (v : Bool). cond (v && (nat_le 0 b && nat_le b 0xffff_ffff_ffff_ffff)) None (h s b)) (ne_eqb n s other))
  | inl same ↦ ap (λ (v : Bool). cond v None (h s b)) (eq-eqb n s same) ∙ sym (elim (cases_lt b (2 ^ 64)) [
    | inl fits ↦ ap (λ (v : Bool). cond v None (h s b))
        (all_true (n == s) (nat_le 0 b) (nat_le b 0xffff_ffff_ffff_ffff) (eq-eqb n s same) (le-leb 0 b (omega arith))
        (le-leb b 0xffff_ffff_ffff_ffff (omega arith)))
    | inr past ↦ gone _ _ (within s b past)
  ])
]))
  where
    gone : (v : Bool) (o : Option Kind) → o ≡ None → cond v None o ≡ None
    gone true o e = refl
    gone false o e = e

pub whole_on_file : (held : FileHolders) (file n first last : ℕ) → HasNoByteBehind (held file) → first ≡ 0 → last ≡ 0xffff_ffff_ffff_ffff
    → on_file held file (λ h. dropped h n) ≡ on_file held file (λ h. cleared h n first last)
whole_on_file held file n first last within from to = fun_ext (λ f. elim (cases_eq f file) [
  | inr other ↦ file_other held file (λ h. dropped h n) f other ∙ sym (file_other held file (λ h. cleared h n first last) f other)
  | inl here ↦ file_here held file (λ h. dropped h n) f here
      ∙ (whole_cleared (held file) n within ∙ (ap (λ k. cleared (held file) n k 0xffff_ffff_ffff_ffff) (sym from) ∙ (ap (cleared (held file) n first) (sym to)
      ∙ sym (file_here held file (λ h. cleared h n first last) f here))))
])

pub no_clash_asked : (v : Bool) (rest : Option Status) → cond v (Some ShareDenied) rest ≡ None → v ≡ false
no_clash_asked true rest e = absurd cc
no_clash_asked false rest e = refl

pub number_left : (v none last : Bool) → cond v (Some ShareDenied) (cond (none && last) (Some ServerFault) None) ≡ None → none ≡ true → last ≡ false
number_left true none last e f = absurd cc
number_left false true true e f = absurd cc
number_left false true false e f = refl
number_left false false last e f = absurd cc

-- an open that is found under a number is narrowed
pub table_narrow : (t : Table) (n : ℕ) (access deny : Share) (o : OpenState) → IsTable t → open_at t n ≡ Some o → is_narrower access deny o ≡ true
    → IsTable (with_open t n (narrows access deny))
table_narrow t n access deny o is e narrower =
    let found = find_in (λ (o : OpenState). o.number == n) t.opens o e in
    subst (λ k. IsTable (with_open t k (narrows access deny))) (eqb-true _ _ found.1) (table_narrowed t access deny o is found.0 narrower)

-- an owner's own open is joined
pub table_join : (t : Table) (a : Asked) (o : OpenState) → IsTable t → own_open t a ≡ Some o → list_any (clashes_with a) t.opens ≡ false
    → IsTable (with_open t o.number (joins a))
table_join t a o is e free =
    let found = find_in (is_own a) t.opens o e in
    let own = own_is a o found.1 in
    table_joined t a o is found.0 own.0 own.1 own.2 free
