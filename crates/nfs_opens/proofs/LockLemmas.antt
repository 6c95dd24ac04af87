-- What a lock, a judged stateid and a closed open come to.
use Rattle.std.proofs.Common.{◌≡◌, ◌≢◌, ◌⊎◌, inl, inr, ℕ, suc, ◌<◌, ◌≤◌, Bool, true, false, cond, not, List, [], ◌∷◌, Option, Some}
use Rattle.std.proofs.{Common.{None, refl, sym, ◌∙◌, ap, subst, arith}, Math.Path.fun_ext}
use Rattle.std.proofs.lemmas.Bool.{cases_Bool, cases_eq, cases_lt, eq-eqb, ne_eqb, eqb-true, and_parts, leb-true, false≢true}
use Rattle.std.specs.{Prelude.{◌==◌, ◌^◌, ◌&&◌, filter, Result, Ok, Err, IsSome, nat_lt, if◌then◌else◌}, List.list_any}
use Rattle.nfs_xdr.specs.{declared.status.Status.Status, declared.status.Status.TheVariants.{BadStateId, OldStateId}, Tables.In}
use Rattle.nfs_ranges.specs.{declared.Kind.Kind, Holders.{Holders, holding, dropped, nobody, holds_any, is_within}, declared.Held.Held, Told.told, Facts.Tells}
use Rattle.nfs_ranges.proofs.{ToldLemmas.{told_is_unique, any_is_decided}, HolderLemmas.set_keeps}
use Rattle.nfs_opens.specs.{declared.stateid.StateId.StateId, declared.judging.Seat.Seat, declared.judging.Seat.TheVariants.{Anonymous, ReadBypass, Open, Lock}}
use Rattle.nfs_opens.specs.{declared.judging.Sort.TheVariants.{OpenOnly, LockOnly, Either}, StateId.{is_anonymous, is_bypass}}
use Rattle.nfs_opens.specs.{Judging.{judge, named_by}, declared.records.OpenState.OpenState}
use Rattle.nfs_opens.specs.{declared.records.LockState.LockState, Holding.{FileHolders, on_file}, Table.{Table, open_at, lock_at}}
use Rattle.nfs_opens.specs.{TableInvariants.{IsTable, IsHolder, AreHolders}, Closing.{held_within, lock_in}, Calls.held_without}
use Rattle.nfs_xdr.proofs.{Lists.{any_in, in_filter, stays_in, none_any, in_any, find_in}, Tables.in_once}
use Rattle.nfs_opens.proofs.{FileLemmas.{file_here, file_other, on_file_same}, TableLemmas.{KeepsBytes, holders_left}}
use Rattle.nfs_opens.proofs.Terms.{access_of, judge_named, seated, stands}

-- who holds a byte behind a lock: the lock state that locks, in the range, or whoever held it
held_then : (h : Holders) (n : ℕ) (kind : Kind) (first last s b : ℕ) → ((n ≡ s) × (first ≤ b) × (b ≤ last)) ⊎ (holding h n kind first last s b ≡ h s b)
held_then h n kind first last s b =
    elim (cases_Bool ((n == s) && is_within first last b)) [
      | inl here ↦ (let parts = and_parts _ _ here in let range = and_parts _ _ parts.1 in inl
          (eqb-true _ _ parts.0, leb-true _ _ range.0, leb-true _ _ range.1))
      | inr other ↦ inr (ap (λ (v : Bool). cond v (Some kind) (h s b)) other)
    ]

-- a lock state that stands on the file, or is to stand there, holds bytes that nobody clashes on
pub sets_bytes : (t : Table) (locks : List LockState) (n file first last next : ℕ) (kind : Kind) (l : LockState) → IsTable t
    → ((k : LockState) → In k t.locks → In k locks) → IsHolder locks file n l → n < suc next → t.last ≤ next → last < 2 ^ 64
    → Tells (t.held file) n kind first last None
    → KeepsBytes (record t { locks = locks; last = next }) file (holding (t.held file) n kind first last)
sets_bytes t locks n file first last next kind l is more holder below_next le fits tells = record {
  holders = λ s b some. elim (held_then (t.held file) n kind first last s b) [
    | inl here ↦ (l, record { stands = holder.stands; number = holder.number ∙ here.0; file = holder.file })
    | inr same ↦ (let (k, was) = is.holders file s b (λ none. some (same ∙ none)) in
        (k, record { stands = more k was.stands; number = was.number; file = was.file }))
  ];
  bytes = set_keeps (t.held file) n kind first last tells (is.bytes file);
  within = λ s b past. elim (held_then (t.held file) n kind first last s b) [
    | inl here ↦ absurd (omega arith)
    | inr same ↦ same ∙ is.within file s b past
  ];
  below = λ s b past. elim (held_then (t.held file) n kind first last s b) [
    | inl here ↦ absurd (omega arith)
    | inr same ↦ same ∙ is.below file s b (omega arith)
  ];
}

-- a lock state among those that leave
abbrev goes : (LockState → Bool) → ℕ → ℕ → LockState → Type 0
goes w f s l = (w l ≡ true) × (l.file ≡ f) × (l.number ≡ s)

abbrev drops : (LockState → Bool) → LockState → FileHolders → FileHolders
drops w l held = if w l then on_file held l.file (λ h. dropped h l.number) else held

-- one of them gives up its bytes, or nothing changes
drop_one : (w : LockState → Bool) (l : LockState) (held : FileHolders) (f s b : ℕ)
    → (goes w f s l × (drops w l held f s b ≡ None)) ⊎ ((goes w f s l → ⊥) × (drops w l held f s b ≡ held f s b))
drop_one w l held f s b =
    let after : FileHolders = on_file held l.file (λ h. dropped h l.number) in
    elim (cases_Bool (w l)) [
      | inr other ↦ inr (λ g. absurd (false≢true (sym other ∙ g.0)), ap (λ (v : Bool). (cond v after held) f s b) other)
      | inl under ↦ (let first : drops w l held f s b ≡ after f s b = ap (λ (v : Bool). (cond v after held) f s b) under in
          elim (cases_eq f l.file) [
            | inr other ↦ inr (λ g. other (sym g.1), first ∙ ap (λ (h : Holders). h s b) (file_other held l.file (λ h. dropped h l.number) f other))
            | inl here ↦ (let there : after f s b ≡ dropped (held l.file) l.number s b = ap (λ (h : Holders). h s b)
                (file_here held l.file (λ h. dropped h l.number) f here) in
                elim (cases_eq l.number s) [
                  | inl same ↦ inl ((under, sym here, same), first ∙ (there ∙ ap (λ (v : Bool). cond v None (held l.file s b)) (eq-eqb l.number s same)))
                  | inr other ↦ inr (
                    λ g. other g.2,
                    first
                        ∙ (there ∙ (ap (λ (v : Bool). cond v None (held l.file s b)) (ne_eqb l.number s other) ∙ ap (λ k. held k s b) (sym here))),
                  )
                ])
          ])
    ]

without_none : (w : LockState → Bool) (locks : List LockState) (held : FileHolders) (f s b : ℕ) → held f s b ≡ None → held_without w locks held f s b ≡ None
without_none w [] held f s b e = e
without_none w (l ∷ locks) held f s b e =
    without_none w locks (drops w l held) f s b (elim (drop_one w l held f s b) [ inl gone ↦ gone.1 | inr same ↦ same.1 ∙ e ])

without_gone : (w : LockState → Bool) (locks : List LockState) (held : FileHolders) (f s b : ℕ) (k : LockState) → In k locks → goes w f s k
    → held_without w locks held f s b ≡ None
without_gone w [] held f s b k there g = absurd there
without_gone w (l ∷ locks) held f s b k (inl is) g =
    without_none w locks (drops w l held) f s b (elim (drop_one w l held f s b) [ inl gone ↦ gone.1 | inr same ↦ absurd (same.0 (subst (goes w f s) is g)) ])
without_gone w (l ∷ locks) held f s b k (inr more) g = without_gone w locks (drops w l held) f s b k more g

without_kept : (w : LockState → Bool) (locks : List LockState) (held : FileHolders) (f s b : ℕ) → ((k : LockState) → In k locks → goes w f s k → ⊥)
    → held_without w locks held f s b ≡ held f s b
without_kept w [] held f s b none = refl
without_kept w (l ∷ locks) held f s b none =
    without_kept w locks (drops w l held) f s b (λ k more. none k (inr more))
    ∙ elim (drop_one w l held f s b) [ inl gone ↦ absurd (none l (inl refl) gone.0) | inr same ↦ same.1 ]

-- where none leaves, nothing changes
pub without_none_leaves : (w : LockState → Bool) (locks : List LockState) (held : FileHolders) → ((k : LockState) → In k locks → w k ≡ false)
    → held_without w locks held ≡ held
without_none_leaves w locks held none = fun_ext (λ f. fun_ext (λ s. fun_ext (λ b.
    without_kept w locks held f s b (λ k there g. absurd (false≢true (sym (none k there) ∙ g.0))))))

pub some_or_none : (o : Option Kind) → (o ≢ None) ⊎ (o ≡ None)
some_or_none None = inr refl
some_or_none (Some k) = inl (λ e. absurd cc)

-- of the bytes of a table, those go whose lock state goes
pub without_is_within : (t : Table) (w : LockState → Bool) → IsTable t → held_without w t.locks t.held ≡ held_within (filter (λ l. not (w l)) t.locks) t.held
without_is_within t w is = fun_ext (λ f. fun_ext (λ s. fun_ext (λ b. elim (some_or_none (t.held f s b)) [
  | inr none ↦ without_none w t.locks t.held f s b none ∙ sym (within _ _ none)
  | inl some ↦ (let (l, holder) = is.holders f s b some in elim (cases_Bool (w l)) [
    | inl under ↦ without_gone w t.locks t.held f s b l holder.stands (under, holder.file, holder.number)
        ∙ sym (ap (λ (v : Bool). cond v (t.held f s b) None) (left_out f s l holder under))
    | inr other ↦ without_kept w t.locks t.held f s b
        (λ k there g. absurd (false≢true (sym other
        ∙ (ap w (sym (same k l there holder.stands (g.2 ∙ sym holder.number))) ∙ g.0))))
        ∙ sym (ap (λ (v : Bool). cond v (t.held f s b) None)
        (any_in (λ (l : LockState). l.number == s) (filter (λ l. not (w l)) t.locks) l
        (stays_in (λ (l : LockState). not (w l)) t.locks l holder.stands (ap not other)) (eq-eqb l.number s holder.number)))
  ])
])))
  where
    within : (v : Bool) (o : Option Kind) → o ≡ None → cond v o None ≡ None
    within true o e = e
    within false o e = refl

    same : (k l : LockState) → In k t.locks → In l t.locks → k.number ≡ l.number → k ≡ l
    same k l a b e = in_once (λ (l : LockState). l.number) 1 (suc t.last) t.locks k l is.locks a b e

    left_out : (f s : ℕ) (l : LockState) → IsHolder t.locks f s l → w l ≡ true → stands (filter (λ l. not (w l)) t.locks) s ≡ false
    left_out f s l holder under = elim (cases_Bool (stands (filter (λ l. not (w l)) t.locks) s)) [
      | inr never ↦ never
      | inl stood ↦
          (let (k, in_k, k_is) = in_any (λ (l : LockState). l.number == s) (filter (λ l. not (w l)) t.locks) stood in
          let was = in_filter (λ (l : LockState). not (w l)) t.locks k in_k in
          let is_l : k ≡ l = same k l was.0 holder.stands (eqb-true _ _ k_is ∙ sym holder.number) in
          absurd (false≢true (sym (ap not (ap w is_l ∙ under)) ∙ was.1)))
    ]

-- a file on which no lock state stands has no holders
pub forgotten : (locks : List LockState) (held : FileHolders) (f : ℕ) → AreHolders locks held → list_any (λ l. l.file == f) locks ≡ false
    → on_file held f (λ h. nobody) ≡ held
forgotten locks held f holders none = sym (on_file_same held f (λ h. nobody) (fun_ext (λ s. fun_ext (λ b. sym (elim (some_or_none (held f s b)) [
  | inr e ↦ e
  | inl some ↦ (let (l, holder) = holders f s b some in absurd
      (false≢true (sym (none_any (λ (l : LockState). l.file == f) locks l none holder.stands) ∙ eq-eqb l.file f holder.file)))
])))))

-- reported, as a function and as a fact
pub clash_told : (t : Table) (file state : ℕ) (kind : Kind) (first last : ℕ) (r : Option Held) → IsTable t → first ≤ last → last < 2 ^ 64
    → Tells (t.held file) state kind first last r → told (t.held file) (suc t.last) state kind first last ≡ r
clash_told t file state kind first last r is range fits tells =
    (told_is_unique (t.held file) (suc t.last) state kind first last r range fits (is.below file)).0 tells

pub clash_tells : (t : Table) (file state : ℕ) (kind : Kind) (first last : ℕ) (r : Option Held) → IsTable t → first ≤ last → last < 2 ^ 64
    → told (t.held file) (suc t.last) state kind first last ≡ r → Tells (t.held file) state kind first last r
clash_tells t file state kind first last r is range fits e = (told_is_unique (t.held file) (suc t.last) state kind first last r range fits (is.below file)).1 e

-- a lock state that holds no byte of a file that it may hold
pub holds_none : (h : Holders) (s : ℕ) → ((b : ℕ) → 2 ^ 64 ≤ b → h s b ≡ None) → holds_any h s ≡ false → (b : ℕ) → h s b ≡ None
holds_none h s within none b = elim (some_or_none (h s b)) [
  | inr e ↦ e
  | inl some ↦ elim (cases_lt b (2 ^ 64)) [
    | inl fits ↦ absurd (false≢true (sym none ∙ (any_is_decided h s).0 (b, fits, is_some_of (h s b) some)))
    | inr past ↦ within b past
  ]
]
  where
    is_some_of : (o : Option Kind) → o ≢ None → IsSome o
    is_some_of None e = absurd (e refl)
    is_some_of (Some k) e = refl

-- WHAT A JUDGED STATEID IS

passed : (a b c : Bool) (seat given : Seat) (rest : Option Status)
    → seated seat (cond a (Some BadStateId) (cond b (Some BadStateId) (cond c (Some BadStateId) rest))) ≡ Ok given → (a ≡ false) × (b ≡ false) × (c ≡ false)
passed false false false seat given rest e = (refl, refl, refl)
passed false false true seat given rest e = absurd cc
passed false true c seat given rest e = absurd cc
passed true b c seat given rest e = absurd cc

no_special : (a b : Bool) (r : Result Seat Status) (seat : Seat) → cond a (Err BadStateId) (cond b (Err BadStateId) r) ≡ Ok seat → r ≡ Ok seat
no_special false false r seat e = e
no_special false true r seat e = absurd cc
no_special true b r seat e = absurd cc

not_not : (v : Bool) → not v ≡ false → v ≡ true
not_not true e = refl
not_not false e = absurd cc

open_judged : (t : Table) (client file seqid : ℕ) (seat : Seat) (same : Bool) (o : Option OpenState) (l : Option LockState)
    → judge_named client (Some file) OpenOnly seqid (cond same (named_by t o l) None) ≡ Ok seat
    → (x : OpenState) × (o ≡ Some x) × (x.client ≡ client) × (x.file ≡ file)
open_judged t client file seqid seat false o l e = absurd cc
open_judged t client file seqid seat true (Some x) l e =
    let p = passed (not (x.client == client)) (not (x.file == file)) false (Open x.number x.access) seat
    (cond (not (seqid == 0) && nat_lt seqid x.seqid) (Some OldStateId) (cond (nat_lt x.seqid seqid) (Some BadStateId) None)) e in
    (x, refl, eqb-true _ _ (not_not _ p.0), eqb-true _ _ (not_not _ p.1))
open_judged t client file seqid seat true None (Some x) e =
    let p = passed (not (x.client == client)) (not (x.file == file)) true (Lock x.number (access_of (open_at t x.opened))) seat
    (cond (not (seqid == 0) && nat_lt seqid x.seqid) (Some OldStateId) (cond (nat_lt x.seqid seqid) (Some BadStateId) None)) e in absurd
    (let bad : true ≡ false = p.2 in cc)
open_judged t client file seqid seat true None None e = absurd cc

lock_judged_as : (t : Table) (client file seqid : ℕ) (seat : Seat) (same : Bool) (o : Option OpenState) (l : Option LockState)
    → judge_named client (Some file) LockOnly seqid (cond same (named_by t o l) None) ≡ Ok seat
    → (x : LockState) × (l ≡ Some x) × (x.client ≡ client) × (x.file ≡ file)
lock_judged_as t client file seqid seat false o l e = absurd cc
lock_judged_as t client file seqid seat true (Some x) l e =
    let p = passed (not (x.client == client)) (not (x.file == file)) true (Open x.number x.access) seat
    (cond (not (seqid == 0) && nat_lt seqid x.seqid) (Some OldStateId) (cond (nat_lt x.seqid seqid) (Some BadStateId) None)) e in absurd
    (let bad : true ≡ false = p.2 in cc)
lock_judged_as t client file seqid seat true None (Some x) e =
    let p = passed (not (x.client == client)) (not (x.file == file)) false (Lock x.number (access_of (open_at t x.opened))) seat
    (cond (not (seqid == 0) && nat_lt seqid x.seqid) (Some OldStateId) (cond (nat_lt x.seqid seqid) (Some BadStateId) None)) e in
    (x, refl, eqb-true _ _ (not_not _ p.0), eqb-true _ _ (not_not _ p.1))
lock_judged_as t client file seqid seat true None None e = absurd cc

-- an open's stateid that was judged well names an open of that client and file
pub judged_open : (t : Table) (id : StateId) (client file : ℕ) (seat : Seat) → judge t id client (Some file) OpenOnly ≡ Ok seat
    → (x : OpenState) × (open_at t id.number ≡ Some x) × (x.client ≡ client) × (x.file ≡ file)
judged_open t id client file seat e = open_judged t client file id.seqid seat (id.instance == t.instance) (open_at t id.number) (lock_at t id.number)
    (no_special (is_anonymous id) (is_bypass id) _ seat e)

-- a lock state's likewise
pub judged_lock : (t : Table) (id : StateId) (client file : ℕ) (seat : Seat) → judge t id client (Some file) LockOnly ≡ Ok seat
    → (x : LockState) × (lock_at t id.number ≡ Some x) × (x.client ≡ client) × (x.file ≡ file)
judged_lock t id client file seat e = lock_judged_as t client file id.seqid seat (id.instance == t.instance) (open_at t id.number) (lock_at t id.number)
    (no_special (is_anonymous id) (is_bypass id) _ seat e)

is_seated : (seat given : Seat) (f : Option Status) → seated seat f ≡ Ok given → (f ≡ None) × (seat ≡ given)
is_seated seat given None e = (refl, cc)
is_seated seat given (Some status) e = absurd cc

freed_judged : (t : Table) (client seqid n : ℕ) (given : Seat) (same : Bool) (o : Option OpenState) (l : Option LockState)
    → judge_named client None Either seqid (cond same (named_by t o l) None) ≡ Ok given → lock_in given ≡ Ok n
    → (x : LockState) × (l ≡ Some x) × (x.client ≡ client) × (x.number ≡ n)
freed_judged t client seqid n given false o l e h = absurd cc
freed_judged t client seqid n given true (Some x) l e h =
    let seat = is_seated (Open x.number x.access) given _ e in
    absurd (let bad : lock_in (Open x.number x.access) ≡ Ok n = ap lock_in seat.1 ∙ h in cc)
freed_judged t client seqid n given true None (Some x) e h =
    let access = access_of (open_at t x.opened) in
    let seat = is_seated (Lock x.number access) given _ e in
    let named : lock_in (Lock x.number access) ≡ Ok n = ap lock_in seat.1 ∙ h in
    let p = passed (not (x.client == client)) false false (Lock x.number access) given
    (cond (not (seqid == 0) && nat_lt seqid x.seqid) (Some OldStateId) (cond (nat_lt x.seqid seqid) (Some BadStateId) None)) e in
    (x, refl, eqb-true _ _ (not_not _ p.0), cc)
freed_judged t client seqid n given true None None e h = absurd cc

any_special : (a b : Bool) (r : Result Seat Status) (given : Seat) (n : ℕ) → cond a (Ok Anonymous) (cond b (Ok ReadBypass) r) ≡ Ok given → lock_in given ≡ Ok n
    → r ≡ Ok given
any_special false false r given n e h = e
any_special false true r given n e h = absurd (let same : ReadBypass ≡ given = cc in let bad : lock_in ReadBypass ≡ Ok n = ap lock_in same ∙ h in cc)
any_special true b r given n e h = absurd (let same : Anonymous ≡ given = cc in let bad : lock_in Anonymous ≡ Ok n = ap lock_in same ∙ h in cc)

-- and the lock state of a stateid that any sort may have
pub judged_freed : (t : Table) (id : StateId) (client : ℕ) (given : Seat) (n : ℕ) → judge t id client None Either ≡ Ok given → lock_in given ≡ Ok n
    → (x : LockState) × (lock_at t id.number ≡ Some x) × (x.client ≡ client) × (n ≡ id.number)
judged_freed t id client given n e h =
    let (x, found, mine, named) = freed_judged t client id.seqid n given (id.instance == t.instance) (open_at t id.number) (lock_at t id.number)
    (any_special (is_anonymous id) (is_bypass id) _ given n e h) h in
    (x, found, mine, sym named ∙ eqb-true _ _ (find_in (λ (l : LockState). l.number == id.number) t.locks x found).1)

-- TABLES MADE OF PARTS

pub same_table : (opens opens' : List OpenState) (locks locks' : List LockState) (held held' : FileHolders) (last instance : ℕ) → opens ≡ opens'
    → locks ≡ locks' → held ≡ held'
    → ◌≡◌ {A = Table} (record { opens = opens; locks = locks; held = held; last = last; instance = instance })
    (record { opens = opens'; locks = locks'; held = held'; last = last; instance = instance })
same_table opens opens' locks locks' held held' last instance o l h =
    let A : List OpenState → Table = λ x. record { opens = x; locks = locks; held = held; last = last; instance = instance } in
    let B : List LockState → Table = λ x. record { opens = opens'; locks = x; held = held; last = last; instance = instance } in
    let C : FileHolders → Table = λ x. record { opens = opens'; locks = locks'; held = x; last = last; instance = instance } in
    ap A o ∙ (ap B l ∙ ap C h)

-- what is left when lock states leave
pub left_held : (t : Table) (w : LockState → Bool) (held : FileHolders) → IsTable t → held ≡ held_without w t.locks t.held
    → held ≡ held_within (filter (λ l. not (w l)) t.locks) t.held
left_held t w held is h = h ∙ without_is_within t w is

pub left_holders : (t : Table) (w : LockState → Bool) (after : List LockState) (held : FileHolders) → IsTable t
    → after ≡ filter (λ l. not (w l)) t.locks → held ≡ held_without w t.locks t.held → AreHolders after held
left_holders t w after held is a h =
    subst (λ (ls : List LockState). AreHolders ls held) (sym a)
    (subst (λ (k : FileHolders). AreHolders (filter (λ l. not (w l)) t.locks) k) (sym (left_held t w held is h)) (holders_left t (λ l. not (w l)) is))
