-- An operation behind which a lock state holds a byte did not end that: neither by what it unlocked or locked, nor by the open that it closed.
use Rattle.std.proofs.Common.{◌≡◌, ◌⊎◌, ℕ, suc, ◌≤◌, Bool, true, false, not, List, length, drop, Some, None, refl, sym, ◌∙◌, ap, subst, arith, inl, inr}
use Rattle.std.proofs.{lemmas.Bool.{cases_lt, eqb-true, eq-eqb}, lemmas.List.{drop_at, length-append}}
use Rattle.std.specs.{Prelude.{◌==◌, ◌&&◌, Result, Ok}, Int.{w64, from_be_bytes}}
use Rattle.nfs_xdr.specs.{Tables.In, declared.time.Time.Time, declared.status.Status.Status, declared.status.Status.TheVariants.{Nfs4Ok, RepTooBig, Delay}}
use Rattle.nfs_xdr.proofs.{Lists.{find_in, in_filter}, Tables.in_once}
use Rattle.nfs_compound.specs.{declared.{lock_args.LockU.LockU, open_args.Close.Close, op_num.OpNum.OpNum, op.Item.TheVariants.Operation}, OpNum.op_number}
use Rattle.nfs_compound.specs.declared.op_num.OpNum.TheVariants as Num
use Rattle.nfs_compound.specs.declared.op.Op.TheVariants as Op
use Rattle.nfs_results.specs.{declared.res.Res.Res, Results.{spell_result, done_head, status_of_result}}
use Rattle.nfs_results.proofs.Lengths.{length_head, length_spelled}
use Rattle.nfs_ranges.specs.{declared.Kind.Kind, Holders.{cleared, is_within}}
use Rattle.nfs_ranges.proofs.CanonicalLemmas.{within_is}
use Rattle.nfs_opens.specs.declared.{records.{LockState.LockState, OpenState.OpenState}, stateid.{StateId.StateId, CurrentSeqid.TheVariants.Own}}
use Rattle.nfs_opens.specs.{declared.locking.Wish.Wish, Holding.{FileHolders, on_file}, Table.Table, TableInvariants.IsTable, Closing.without_open}
use Rattle.nfs_opens.specs.Locking.{unlock}
use Rattle.nfs_opens.specs.Closing as closing
use Rattle.nfs_opens.proofs.{CallLaws.IsUnlocked, Terms.not_under}
use Rattle.nfs_names.specs.{declared.context.Context.Context, Ending.with_opens, Outcome.{Outcome, is_ok}, State.{State, time_at}}
use Rattle.nfs_names.proofs.{Ones.by_delay, Untouched.unused_opens}
use Rattle.nfs_files.specs.{Close.close, LockTold.{Names, LockTold, IsBeside}, LockU.lock_u, Operation.grows, Ranges.wished, StateIds.meant, Parts.unlocking}
use Rattle.nfs_files.specs.Parts.{target}
use Rattle.nfs_files.proofs.{OpensMoved.{by_close, by_unlock}, Outcomes.one_or_delay, Steady.Few}
use Rattle.nfs_files.proofs.ToldGrants.{lock_refused, told_held, unlock_tells, close_tells}
use Rattle.nfs_exec.specs.{Runs.LockHeld.{LocksFor, UnlocksFor, ClosesOf, Spares}, Runs.Ops.RanOp}
use Rattle.nfs_exec.proofs.{Runs.KeptByRuns.Is, Runs.OneRun.{IsRun, by_item}}
use Rattle.nfs_promises.proofs.{Runs.LockStates.changed_from, Locks.LockBeforeStep.Holds}

-- A lock state holds bytes of one file.

file_once : (t : Table) → IsTable t → (n f g b c : ℕ) (p q : Kind) → t.held f n b ≡ Some p → t.held g n c ≡ Some q → f ≡ g
file_once t table n f g b c p q one two =
    let (l, here) = table.holders f n b (λ none. let bad : Some p ≡ None = sym one ∙ none in cc) in
    let (m, there) = table.holders g n c (λ none. let bad : Some q ≡ None = sym two ∙ none in cc) in
    let same : l ≡ m = in_once (λ (l : LockState). l.number) 1 (suc t.last) t.locks l m table.locks here.stands there.stands (here.number ∙ sym there.number) in
    sym here.file ∙ ap (λ (l : LockState). l.file) same ∙ there.file

holder_file : (t : Table) → IsTable t → (n f b : ℕ) (p : Kind) → t.held f n b ≡ Some p → (l : LockState) × In l t.locks × (l.number ≡ n) × (l.file ≡ f)
holder_file t table n f b p one =
    let (l, here) = table.holders f n b (λ none. let bad : Some p ≡ None = sym one ∙ none in cc) in (l, here.stands, here.number, here.file)

-- A result that says NFS4_OK and a stateid names one number, and is no refusal.

short : (op : OpNum) (r : Res) (m : ℕ) → length (spell_result r) ≡ 8 → Names op (spell_result r) m → ⊥
short op r m few names =
    let head = length_head (op_number op) Nfs4Ok in
    let whole = ap length names.answers in
    let both = length-append (done_head op) names.id in
    let long = names.long in absurd (omega (arith, head, whole, both, long, few))

unlock_refused : (status : Status) (m : ℕ) → Names Num.LockU (spell_result (Res.Refused (op_number Num.LockU) status)) m → ⊥
unlock_refused status m names = short Num.LockU (Res.Refused (op_number Num.LockU) status) m (length_spelled (Res.Refused (op_number Num.LockU) status)) names

close_refused : (status : Status) (m : ℕ) → Names Num.Close (spell_result (Res.Refused (op_number Num.Close) status)) m → ⊥
close_refused status m names = short Num.Close (Res.Refused (op_number Num.Close) status) m (length_spelled (Res.Refused (op_number Num.Close) status)) names

names_once : (op : OpNum) (text : List ℕ) (m n : ℕ) → Names op text m → Names op text n → m ≡ n
names_once op text m n one two =
    let head = length_head (op_number op) Nfs4Ok in
    let same : one.id ≡ two.id =
    sym (drop_at (done_head op) one.id 8 head) ∙ (ap (drop 8) (sym one.answers ∙ two.answers) ∙ drop_at (done_head op) two.id 8 head) in
    sym one.number ∙ (ap (λ (id : List ℕ). from_be_bytes w64 (drop 8 id)) same ∙ two.number)

-- LOCKU

record DidUnlock (s : State) (x : Context) (a : LockU) (o : Outcome) : Type 0 where
  pub wish : Wish
  pub id : StateId
  pub did : StateId × Table
  pub judged : unlocking s x a ≡ Ok (record { wish = wish; id = id })
  pub granted : unlock s.opens id wish.client wish.file wish.first wish.last ≡ Ok did
  pub law : IsUnlocked s.opens id wish.client wish.file wish.first wish.last did
  pub left : o.state.opens ≡ did.1
  pub ok : is_ok (status_of_result o.result) ≡ true

did_unlock : (s : State) (x : Context) (now : Time) (refused : Bool) (a : LockU) (n : ℕ) → Names Num.LockU (spell_result (one_or_delay refused s x now (Op.LockU a)).result) n
    → DidUnlock s x a (one_or_delay refused s x now (Op.LockU a))
did_unlock s x now refused a n =
    by_delay (λ o. Names Num.LockU (spell_result o.result) n → DidUnlock s x a o) (grows s x (Op.LockU a) && refused) s x Num.LockU (lock_u s x a)
    (λ told. absurd (unlock_refused Delay n told))
    (by_unlock (λ o. Names Num.LockU (spell_result o.result) n → DidUnlock s x a o) s x a (λ status told. absurd (unlock_refused status n told))
    (λ m did judged granted law told. record { wish = m.wish; id = m.id; did = did; judged = judged; granted = granted; law = law; left = refl; ok = refl }))

-- the lock state holds none of the bytes, and is of the file
record IsCleared (t : Table) (n : ℕ) (w : Wish) : Type 0 where
  pub none : (b : ℕ) → w.first ≤ b → b ≤ w.last → t.held w.file n b ≡ None
  pub file : (l : LockState) → In l t.locks → l.number ≡ n → l.file ≡ w.file

cleared_now : (held : FileHolders) (f n first last b : ℕ) → is_within first last b ≡ true → on_file held f (λ h. cleared h n first last) f n b ≡ None
cleared_now held f n first last b within = rw (eq-eqb f f refl, eq-eqb n n refl, within) refl

unlocked_clears : (t : Table) (id : StateId) (w : Wish) (did : StateId × Table) → IsTable t → IsUnlocked t id w.client w.file w.first w.last did → IsCleared did.1 id.number w
unlocked_clears t id w did table law = record {
  none = λ b lo hi. ap (λ (u : Table). u.held w.file id.number b) law.left ∙ cleared_now t.held w.file id.number w.first w.last b (within_is w.first w.last b lo hi);
  file = λ l there number.
      (let was = changed_from id.number t.locks l (subst (λ (u : Table). In l u.locks) law.left there) in
      let found = find_in (λ (l : LockState). l.number == id.number) t.locks law.state law.found in
      let one : was.0 ≡ law.state = in_once (λ (l : LockState). l.number) 1 (suc t.last) t.locks was.0 law.state table.locks was.1 found.0
      (was.2.number ∙ (number ∙ sym (eqb-true _ _ found.1))) in
      sym was.2.file ∙ (ap (λ (l : LockState). l.file) one ∙ law.there));
}

wish_once : (v : Result Wish Status) (w u : Wish) → v ≡ Ok w → v ≡ Ok u → u ≡ w
wish_once v w u one two = let same : Ok w ≡ Ok u = sym one ∙ two in cc

clears : (s : State) (x : Context) (now : Time) (refused : Bool) (a : LockU) (n : ℕ) (w : Wish) → IsTable s.opens → Few s.opens
    → wished s x a.locktype a.offset a.length ≡ Ok w → Names Num.LockU (spell_result (one_or_delay refused s x now (Op.LockU a)).result) n
    → IsCleared (one_or_delay refused s x now (Op.LockU a)).state.opens n w
clears s x now refused a n w table few wish names =
    let did = did_unlock s x now refused a n names in
    let told = unlock_tells s x now refused a did.id.number did.wish table few
    (record { asked = a; id = did.id; did = did.did; is = refl; judged = did.judged; granted = did.granted; state = refl }) did.ok in
    let number : did.id.number ≡ n = names_once Num.LockU _ did.id.number n told.names names in
    let same : did.wish ≡ w = wish_once (wished s x a.locktype a.offset a.length) w did.wish wish told.wish in
    subst (λ (t : Table). IsCleared t n w) (sym did.left) (subst (λ n. IsCleared did.did.1 n w) number (subst (IsCleared did.did.1 did.id.number) same
    (unlocked_clears s.opens did.id did.wish did.did table did.law)))

unlocks_clear : (d : RanOp) (r : IsRun d) (n : ℕ) (w : Wish) → UnlocksFor d n w → IsCleared d.behind.store.opens n w
unlocks_clear d r n w u =
    by_item (λ status text s. Names Num.LockU text n → IsCleared s.opens n w) d r (Operation (Op.LockU u.asked)) u.is
    (λ told. absurd (unlock_refused RepTooBig n told))
    (λ told. clears d.before.store d.context (time_at d.before.store r.now) r.refused u.asked n w r.whole.table r.whole.few u.wish told) u.names

-- CLOSE

record DidClose (s : State) (x : Context) (a : Close) (o : Outcome) : Type 0 where
  pub file : ℕ
  pub id : StateId
  pub did : Unit {0} × Table
  pub judged : target s x Own a.open_stateid ≡ Ok (record { file = file; id = id })
  pub granted : closing.close s.opens id x.client file ≡ Ok did
  pub left : o.state.opens ≡ without_open s.opens id.number
  pub ok : is_ok (status_of_result o.result) ≡ true

did_close : (s : State) (x : Context) (now : Time) (refused : Bool) (a : Close) → Names Num.Close (spell_result (one_or_delay refused s x now (Op.Close a)).result) 0
    → DidClose s x a (one_or_delay refused s x now (Op.Close a))
did_close s x now refused a =
    by_delay (λ o. Names Num.Close (spell_result o.result) 0 → DidClose s x a o) (grows s x (Op.Close a) && refused) s x Num.Close (close s x a)
    (λ told. absurd (close_refused Delay 0 told))
    (by_close (λ o. Names Num.Close (spell_result o.result) 0 → DidClose s x a o) s x a (λ status told. absurd (close_refused status 0 told))
    (λ t did judged granted law told. record {
      file = t.file;
      id = t.id;
      did = did;
      judged = judged;
      granted = granted;
      left = unused_opens (with_opens s (without_open s.opens t.id.number)) t.file;
      ok = refl;
    }))

id_once : (v : Result StateId Status) (m n : StateId) → v ≡ Ok m → v ≡ Ok n → m.number ≡ n.number
id_once v m n one two = let same : Ok m ≡ Ok n = sym one ∙ two in let is : m ≡ n = cc in ap (λ (i : StateId). i.number) is

-- no lock state is left under the open
leaves_none : (s : State) (x : Context) (now : Time) (refused : Bool) (a : Close) (id : StateId) → meant x Own a.open_stateid ≡ Ok id
    → Names Num.Close (spell_result (one_or_delay refused s x now (Op.Close a)).result) 0
    → (l : LockState) → In l (one_or_delay refused s x now (Op.Close a)).state.opens.locks → l.opened ≡ id.number → ⊥
leaves_none s x now refused a id means names l there under =
    let did = did_close s x now refused a names in
    let told = close_tells s x now refused a did.id.number
    (record { asked = a; file = did.file; id = did.id; did = did.did; is = refl; judged = did.judged; granted = did.granted; opened = refl }) did.ok in
    let number : l.opened ≡ did.id.number = under ∙ (id_once (meant x Own a.open_stateid) id told.id means told.meant ∙ told.opened) in
    let passes : not_under did.id.number l ≡ true = (in_filter (not_under did.id.number) s.opens.locks l (subst (λ (u : Table). In l u.locks) did.left there)).1 in
    let bad : false ≡ true = sym (ap not (eq-eqb l.opened did.id.number number)) ∙ passes in cc

closes_leave_none : (d : RanOp) (r : IsRun d) (n : ℕ) → ClosesOf d n → (l : LockState) → In l d.behind.store.opens.locks → l.opened ≡ n → ⊥
closes_leave_none d r n c l there under =
    by_item (λ status text s. Names Num.Close text 0 → In l s.opens.locks → ⊥) d r (Operation (Op.Close c.asked)) c.is
    (λ told there. absurd (close_refused RepTooBig 0 told))
    (λ told there. leaves_none d.before.store d.context (time_at d.before.store r.now) r.refused c.asked c.id c.means told l there (under ∙ sym c.opened)) c.names there

-- nor the open
leaves_no_open : (s : State) (x : Context) (now : Time) (refused : Bool) (a : Close) (id : StateId) → meant x Own a.open_stateid ≡ Ok id
    → Names Num.Close (spell_result (one_or_delay refused s x now (Op.Close a)).result) 0
    → (o : OpenState) → In o (one_or_delay refused s x now (Op.Close a)).state.opens.opens → o.number ≡ id.number → ⊥
leaves_no_open s x now refused a id means names o there its =
    let did = did_close s x now refused a names in
    let told = close_tells s x now refused a did.id.number
    (record { asked = a; file = did.file; id = did.id; did = did.did; is = refl; judged = did.judged; granted = did.granted; opened = refl }) did.ok in
    let number : o.number ≡ did.id.number = its ∙ (id_once (meant x Own a.open_stateid) id told.id means told.meant ∙ told.opened) in
    let passes = (in_filter (λ (o : OpenState). not (o.number == did.id.number)) s.opens.opens o (subst (λ (u : Table). In o u.opens) did.left there)).1 in
    let bad : false ≡ true = sym (ap not (eq-eqb o.number did.id.number number)) ∙ passes in cc

pub closes_leave_no_open : (d : RanOp) (r : IsRun d) (n : ℕ) → ClosesOf d n → (o : OpenState) → In o d.behind.store.opens.opens → o.number ≡ n → ⊥
closes_leave_no_open d r n c o there its =
    by_item (λ status text s. Names Num.Close text 0 → In o s.opens.opens → ⊥) d r (Operation (Op.Close c.asked)) c.is
    (λ told there. absurd (close_refused RepTooBig 0 told))
    (λ told there. leaves_no_open d.before.store d.context (time_at d.before.store r.now) r.refused c.asked c.id c.means told o there (its ∙ sym c.opened)) c.names there

-- All three.

locks_now : (d : RanOp) (r : IsRun d) (n : ℕ) (w : Wish) (b : ℕ) → LocksFor d n w → w.first ≤ b → b ≤ w.last → d.behind.store.opens.held w.file n b ≡ Some w.kind
locks_now d r n w b l lo hi =
    by_item (λ status text s. Names Num.Lock text n → s.opens.held w.file n b ≡ Some w.kind) d r (Operation (Op.Lock l.asked)) l.is
    (λ told. absurd (lock_refused RepTooBig n told))
    (λ told. told_held d.before.store d.context (time_at d.before.store r.now) r.refused l.asked n w r.whole.table r.whole.few l.wish told b lo hi) l.names

beside_or : (k : LockTold) (w : Wish) → k.last ≡ k.first → IsBeside w k ⊎ ((w.first ≤ k.first) × (k.first ≤ w.last))
beside_or k w one = elim (cases_lt k.first w.first) [
  | inl below ↦ inl (inr (omega (arith, one, below)))
  | inr from ↦ elim (cases_lt w.last k.first) [ inl above ↦ inl (inl above) | inr to ↦ inr (from, to) ]
]

pub spared_by : (k : LockTold) (owner : List ℕ) (d : RanOp) → IsRun d → Is d.behind → k.last ≡ k.first → Holds k owner d.behind.store.opens → Spares k d
spared_by k owner d r behind one is = record {
  locks = λ w l. elim (beside_or k w one) [
    | inl beside ↦ inl beside
    | inr within ↦ (let now = locks_now d r k.state w k.first l within.0 within.1 in
        let file : w.file ≡ k.file = file_once t behind.table k.state w.file k.file k.first k.first w.kind k.kind now is.held in
        let same : Some w.kind ≡ Some k.kind = sym now ∙ (ap (λ f. t.held f k.state k.first) file ∙ is.held) in inr cc)
  ];
  unlocks = λ w u. elim (beside_or k w one) [
    | inl beside ↦ beside
    | inr within ↦ absurd (let gone = unlocks_clear d r k.state w u in
        let (l, there, number, file) = holder_file t behind.table k.state k.file k.first k.kind is.held in
        let same : k.file ≡ w.file = sym file ∙ gone.file l there number in
        let bad : Some k.kind ≡ None = sym is.held ∙ (ap (λ f. t.held f k.state k.first) same ∙ gone.none k.first within.0 within.1) in cc)
  ];
  closes = λ c. closes_leave_none d r k.opened c is.lock is.there is.opened;
}
  where
    t : Table
    t = d.behind.store.opens
