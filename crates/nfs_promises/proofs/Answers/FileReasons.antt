-- Operations on open files: what they are refused with has its reason.
use Rattle.std.proofs.Common.{◌≡◌, ◌⊎◌, ◌<◌, ℕ, Bool, true, false, not, [], ◌∷◌, Option, Some, None, refl, sym, ◌∙◌, ap, subst, inl, inr}
use Rattle.std.proofs.lemmas.Bool.{and_parts, eqb-true, false≢true, ltb-true, not-true, or_cases}
use Rattle.std.specs.{Prelude.{◌==◌, ◌&&◌, ◌+◌, length, nat_lt, Ok, ok_or}, Option.option_map_or}
use Rattle.nfs_xdr.specs.{Tables.In, declared.status.Status.Status, declared.time.Time.Time}
use Rattle.nfs_xdr.proofs.Lists.{in_any}
use Rattle.nfs_xdr.specs.declared.status.Status.TheVariants as S
use Rattle.nfs_compound.specs.{declared.file_args.{Read.Read, Write.Write}, declared.lock_args.{LockT.LockT, LockU.LockU, LockType.LockType}}
use Rattle.nfs_compound.specs.{declared.op.Item.Item, declared.op.Item.TheVariants.Operation}
use Rattle.nfs_compound.specs.declared.op.Op.TheVariants as Op
use Rattle.nfs_compound.specs.declared.op_num.OpNum.TheVariants as Num
use Rattle.nfs_results.specs.declared.res.Res.TheVariants as Res
use Rattle.nfs_ranges.specs.declared.Held.{Held}
use Rattle.nfs_tree.specs.{Bytes.{has_bytes, is_too_long}, Files.{Files, can_change}, Object.{is_directory, is_link}}
use Rattle.nfs_opens.specs.{Judging.judge, Locking.{unlock, test_lock, access_in, state_of as lock_state_of}, Share.{is_part, meets, neither}, Steps.◌>>=◌}
use Rattle.nfs_opens.specs.{Table.{Table, denials, lock_at}, declared.judging.Seat.{Seat, TheVariants.{Anonymous, ReadBypass, Open as AnOpen, Lock as ALock}}}
use Rattle.nfs_opens.specs.declared.{judging.Sort.TheVariants.{Either, LockOnly}, locking.Wish.Wish, records.{LockState.LockState, OpenState.OpenState}}
use Rattle.nfs_opens.specs.declared.{share.Share.Share, stateid.{CurrentSeqid.TheVariants.Any, StateId.StateId}}
use Rattle.nfs_opens.proofs.LockLemmas.{judged_lock}
use Rattle.nfs_names.specs.{declared.context.Context.Context, declared.node.Node.Node, State.State, Outcome.{Outcome, done}, Checks.current}
use Rattle.nfs_names.proofs.Found.{came}
use Rattle.nfs_files.specs.{Bytes.{file_checks, reading, writing, lets_use, seat, seat_checks, may_use}, Commit.commit, LockT.lock_t, Denied.lock_denied}
use Rattle.nfs_files.specs.{LockU.lock_u, Ranges.{range, wished, all_ones}, Read.read, StateIds.meant, Target.the_file, Write.{write, last_checks as write_lasts}}
use Rattle.nfs_files.proofs.{TreeFiles.IsWhole, WrittenOps.current_number}
use Rattle.nfs_promises.specs.Answers.Asked.{Range, is_of_file, used, StandsFor, AFile, TheFile, Used, StateGiven, by_state, IsSpecial, Needs, ToRead, ToWrite}
use Rattle.nfs_promises.specs.{Answers.{Invalid.{ranged, NoRange}, Reasons.{IsDenied, MayDo, Written, Reason}}, Names.FileStays.is_on_current}
use Rattle.nfs_promises.specs.Permission.Permitted.{Right, Reads, Writes, Executes, has_right, rights_of}
use Rattle.nfs_promises.proofs.Answers.Blaming.{Blames, AllBlame, then_blames, there_blames, then_checks, ends_then, ends_checks, answers_blame}
use Rattle.nfs_promises.proofs.Answers.{Placed.{Answers, of_refusal, refused_so, done_so, found_now, current_blames, has_kind, denied_by}, HeldReasons.held_so, InvalidReasons.{no_range, beyond_last, spent_there}, StateReasons.{IsSeated, access_there, seated, stands_for, meant_blames, state_blames}}
pub use Rattle.nfs_promises.proofs.Answers.HeldReasons.{the_file_is, wished_is}
use Rattle.nfs_promises.proofs.Locks.OneStateEach.{HasOneEach, found_one}
use Rattle.nfs_promises.proofs.Permission.Granting.{may_read_bytes, may_write_bytes}
use Rattle.nfs_promises.proofs.Answers.StateReasons.{is_state}

-- The current file.

module _ (s : State) (whole : IsWhole s) (x : Context) (i : Item) (on : is_on_current i ≡ true) (wants : is_of_file i ≡ true) where
  pub file_all : (d : Node) → current s x ≡ Ok d → AllBlame (Reason s x i) (file_checks d)
  file_all d e = (
    λ dir. (d.number, AFile (Used wants (current_number s x d e)), has_kind s x i d is_directory e dir),
    λ u. (λ link. (d.number, TheFile (Used wants (current_number s x d e)), has_kind s x i d is_link e link), λ u. tt),
  )

  pub file_blames : Blames (Reason s x i) (the_file s x)
  unfolding the_file
  file_blames = then_blames (Reason s x i) (current s x) _ (current_blames s whole x i on) (λ d e. then_checks (Reason s x i) (file_checks d) (Ok d) (file_all d e) (λ u. tt))

  range_blames : (a : Range) → ranged i ≡ Some a → Blames (Reason s x i) (range a.offset a.size)
  unfolding range
  range_blames a is = then_checks (Reason s x i) ((a.size == 0, S.Inval) ∷ (not (a.size == all_ones) && nat_lt all_ones (a.offset + a.size), S.Inval) ∷ []) _
      (λ none. NoRange (no_range i a is none), λ u. (λ past. NoRange (beyond_last i a is past), λ u. tt)) (λ u. tt)

  pub wished_blames : (how : LockType) (offset size : ℕ) → ranged i ≡ Some (record { type = how; offset = offset; size = size }) → Blames (Reason s x i) (wished s x how offset size)
  unfolding wished
  wished_blames how offset size is = then_blames (Reason s x i) (the_file s x) _ file_blames (λ d e.
      then_blames (Reason s x i) (range offset size) _ (range_blames (record { type = how; offset = offset; size = size }) is) (λ n e. tt))

-- a WRITE that ends beyond the limit
beyond : (t : Files) (a : Write) → is_too_long t a.offset a.bytes ≡ true → (t.limits.bytes < a.offset + length a.bytes) ⊎ (0xffff_ffff < length a.bytes)
beyond t a long = elim (or_cases (nat_lt t.limits.bytes (a.offset + length a.bytes)) (nat_lt 4294967295 (length a.bytes)) long) [
  | inl past ↦ inl (ltb-true _ _ past)
  | inr many ↦ inr (ltb-true _ _ many)
]

-- What the opens of a file deny, and what an open lacks.

abbrev pub as_share : Right → Share
as_share Reads = reading
as_share Writes = writing
as_share Executes = neither

denying : (t : Table) (n : ℕ) (right : Right) → meets (as_share right) (denials t n) ≡ true → (o : OpenState) × In o t.opens × (o.file ≡ n) × (has_right o.deny right ≡ true)
denying t n Reads some =
    let o = in_any (λ (o : OpenState). (o.file == n) && o.deny.reads) t.opens (elim (or_cases (denials t n).reads false some) [ inl is ↦ is | inr off ↦ absurd (false≢true off) ]) in
    let p = and_parts (o.0.file == n) o.0.deny.reads o.2 in
    (o.0, o.1, eqb-true _ _ p.0, p.1)
denying t n Writes some =
    let o = in_any (λ (o : OpenState). (o.file == n) && o.deny.writes) t.opens some in
    let p = and_parts (o.0.file == n) o.0.deny.writes o.2 in
    (o.0, o.1, eqb-true _ _ p.0, p.1)
denying t n Executes some = absurd (false≢true some)

writing_denied : (t : Table) (n : ℕ) (right : Right) → (as_share right).writes && (denials t n).writes ≡ true
    → (o : OpenState) × In o t.opens × (o.file ≡ n) × (has_right o.deny right ≡ true) × (right ≡ Reads → ⊥)
writing_denied t n Reads some = absurd (false≢true some)
writing_denied t n Writes some = (let o = denying t n Writes some in (o.0, o.1, o.2, o.3, λ same. cc))
writing_denied t n Executes some = absurd (false≢true some)

not_part : (right : Right) (a : Share) → not (is_part (as_share right) a) ≡ true → has_right a right ≡ false
not_part Reads a off = by a.reads off
  where
    by : (b : Bool) → not (b && true) ≡ true → b ≡ false
    by true off = absurd (false≢true off)
    by false off = refl
not_part Writes a off = not-true a.writes off
not_part Executes a off = refl

module _ (s : State) (whole : IsWhole s) (x : Context) where
  -- READ and WRITE
  module _ (i : Item) (k : StateGiven) (is : by_state i ≡ Some k) (either : k.sort ≡ Either) (any : k.form ≡ Any) (on : k.here ≡ true) (right : Right) (uses : used i ≡ Some right) (d : Node) (e : current s x ≡ Ok d)
      (may : MayDo right i s.tree.profile (rights_of d.object) x.who → lets_use s.tree x d (as_share right) ≡ true)
      (needs : (id : StateId) → meant x Any k.given ≡ Ok id → IsSpecial id → Needs s x i d.number (right ∷ [])) where
    stood : (id : StateId) → meant x Any k.given ≡ Ok id → StandsFor x k id
    stood id means = stands_for x k id (subst (λ form. meant x form k.given ≡ Ok id) (sym any) means)

    locked_out : (id : StateId) → meant x Any k.given ≡ Ok id → IsSpecial id → (o : OpenState) → In o s.opens.opens → o.file ≡ d.number → has_right o.deny right ≡ true
        → (right ≡ Reads → id.seqid ≡ 0) → Reason s x i S.Locked
    locked_out id means special o there file denies bypasses = record {
      given = k;
      is = is;
      id = id;
      means = stood id means;
      special = special;
      right = right;
      uses = uses;
      state = o;
      there = there;
      at = current_number s x d e ∙ ap Some (sym file);
      denies = denies;
      bypasses = bypasses;
    }

    seat_blames : (id : StateId) → meant x Any k.given ≡ Ok id → (n : Seat) → IsSeated s.opens id Either n → AllBlame (Reason s x i) (seat_checks s x (as_share right) d n)
    seat_blames id means n judged = by n judged
      where
        lacks : lets_use s.tree x d (as_share right) ≡ false → IsSpecial id → IsDenied s x i
        lacks bits some = denied_by s x i d (right ∷ []) e (needs id means some) (λ all. false≢true (sym bits ∙ may (all right (inl refl))))

        mode : (n : Seat) → is_state n ≡ true → IsSeated s.opens id Either n → not (is_part (as_share right) (access_in n)) ≡ true → Reason s x i S.OpenMode
        mode n state seat off = record {
          given = k;
          is = is;
          id = id;
          means = stood id means;
          right = right;
          uses = uses;
          access = access_in n;
          has = access_there s.opens whole.table id Either n (inr state) seat;
          lacks = not_part right (access_in n) off;
        }

        by : (n : Seat) → IsSeated s.opens id Either n → AllBlame (Reason s x i) (seat_checks s x (as_share right) d n)
        by Anonymous (sort, some, zero) = (
          λ denied. (let o = denying s.opens d.number right denied in locked_out id means some o.0 o.1 o.2 o.3 (λ reads. zero)),
          λ u. (λ bits. lacks (not-true _ bits) some, λ u. tt),
        )
        by ReadBypass (sort, some) = (
          λ denied. (let o = writing_denied s.opens d.number right denied in locked_out id means some o.0 o.1 o.2 o.3 (λ reads. absurd (o.4 reads))),
          λ u. (λ bits. lacks (not-true _ bits) some, λ u. tt),
        )
        by (AnOpen n access) seated = (mode (AnOpen n access) refl seated, λ u. tt)
        by (ALock n access) seated = (mode (ALock n access) refl seated, λ u. tt)

    judge_blames : (id : StateId) → meant x Any k.given ≡ Ok id → Blames (Reason s x i) (judge s.opens id x.client (Some d.number) Either)
    judge_blames id means =
        subst (λ sort. Blames (Reason s x i) (judge s.opens id x.client (Some d.number) sort)) either
        (state_blames s x i k is id (stood id means) x.client (Some d.number) refl (on, current_number s x d e))

    pub may_use_blames : Blames (Reason s x i) (may_use s x (as_share right) k.given d)
    unfolding may_use seat
    may_use_blames =
        let B : Status → Type 0 = Reason s x i in
        then_blames B (meant x Any k.given >>= λ id. judge s.opens id x.client (Some d.number) Either) _
        (then_blames B (meant x Any k.given) _ (subst (λ form. Blames B (meant x form k.given)) any (meant_blames s x i k is)) judge_blames) (λ n came_by.
        (let its = came (meant x Any k.given) _ n came_by in
        then_checks B (seat_checks s x (as_share right) d n) (Ok n) (seat_blames its.found its.is n (seated s.opens its.found x.client (Some d.number) Either n its.then)) (λ u. tt)))

  pub read_blames : (a : Read) → Answers s x (Operation (Op.Read a)) (read s x a)
  unfolding read
  read_blames a =
      let i : Item = Operation (Op.Read a) in
      let k : StateGiven = record { given = a.stateid; sort = Either; form = Any; here = true } in
      let B : Status → Type 0 = Reason s x i in
      let Y : Outcome → Type 0 = Answers s x i in
      answers_blame B Y s x Num.Read _ (refused_so s x i Num.Read) (ends_then B Y (the_file s x) _ (file_blames s whole x i refl refl) (λ d e.
      (let now = the_file_is s x d e in
      ends_then B Y (may_use s x reading a.stateid d) _ (may_use_blames i k refl refl refl refl Reads refl d now (may_read_bytes x d s.tree) (λ id means some.
      ToRead d.number a (record { state = k; is = refl; id = id; means = stands_for x k id means; special = some; at = current_number s x d now }))) (λ n e. done_so s x i tt))))

  pub write_blames : (now : Time) (a : Write) → Answers s x (Operation (Op.Write a)) (write s x now a)
  unfolding write
  write_blames moment a =
      let i : Item = Operation (Op.Write a) in
      let k : StateGiven = record { given = a.stateid; sort = Either; form = Any; here = true } in
      let B : Status → Type 0 = Reason s x i in
      let Y : Outcome → Type 0 = Answers s x i in
      answers_blame B Y s x Num.Write _ (refused_so s x i Num.Write) (ends_then B Y (the_file s x) _ (file_blames s whole x i refl refl) (λ d e.
      (let now = the_file_is s x d e in
      ends_then B Y (may_use s x writing a.stateid d) _ (may_use_blames i k refl refl refl refl Writes refl d now (may_write_bytes x d s.tree) (λ id means some.
      ToWrite d.number a (record { state = k; is = refl; id = id; means = stands_for x k id means; special = some; at = current_number s x d now }))) (λ n e.
      ends_checks B Y (write_lasts s a d) _ (
        λ long. Written a refl (beyond s.tree a (and_parts (has_bytes a.bytes) (is_too_long s.tree a.offset a.bytes) long).1),
        λ u. (
          λ spent. spent_there s d (found_now s x d now).1 (not-true _ (and_parts (has_bytes a.bytes) (not (can_change s.tree d.number)) spent).1),
          λ u. tt,
        ),
      ) (λ u. done_so s x i tt)))))

  pub commit_blames : (a : _) → Answers s x (Operation (Op.Commit a)) (commit s x)
  unfolding commit
  commit_blames a =
      let i : Item = Operation (Op.Commit a) in
      answers_blame (Reason s x i) (Answers s x i) s x Num.Commit _ (refused_so s x i Num.Commit) (ends_then (Reason s x i) (Answers s x i) (current s x) _
      (current_blames s whole x i refl) (λ d e. ends_checks (Reason s x i) (Answers s x i) (file_checks d) _ (file_all s whole x i refl refl d e) (λ u. done_so s x i tt)))

  -- LOCKT
  tested_so : HasOneEach s.opens → (a : LockT) (w : Wish) (o : Option Held) → wished s x a.locktype a.offset a.length ≡ Ok w → test_lock s.opens a.owner.owner w ≡ o
      → Answers s x (Operation (Op.LockT a)) (done s x (option_map_or (λ h. Res.LockTDenied (lock_denied s.opens h)) o Res.LockT))
  tested_so each a w None e none = done_so s x (Operation (Op.LockT a)) tt
  tested_so each a w (Some h) e some = of_refusal s x (Operation (Op.LockT a)) S.Denied (held_so s whole x (Operation (Op.LockT a)) (record { type = a.locktype; offset = a.offset; size = a.length }) refl w e
      (option_map_or (λ (l : LockState). l.number) (lock_state_of s.opens w.client a.owner.owner w.file) 0)
      (λ l there file mine. found_one s.opens each w.client a.owner.owner w.file l there (mine.0 ∙ sym (wished_is s x a.locktype a.offset a.length w e).0) mine.1 file) h some)

  pub test_blames : HasOneEach s.opens → (a : LockT) → Answers s x (Operation (Op.LockT a)) (lock_t s x a)
  unfolding lock_t
  test_blames each a =
      let i : Item = Operation (Op.LockT a) in
      answers_blame (Reason s x i) (Answers s x i) s x Num.LockT _ (refused_so s x i Num.LockT) (ends_then (Reason s x i) (Answers s x i) (wished s x a.locktype a.offset a.length) _
      (wished_blames s whole x i refl refl a.locktype a.offset a.length refl) (λ w e. tested_so each a w (test_lock s.opens a.owner.owner w) e refl))

  -- LOCKU
  pub unlock_blames : (a : LockU) → Answers s x (Operation (Op.LockU a)) (lock_u s x a)
  unfolding lock_u
  unlock_blames a =
      let i : Item = Operation (Op.LockU a) in
      let k : StateGiven = record { given = a.lock_stateid; sort = LockOnly; form = Any; here = true } in
      let B : Status → Type 0 = Reason s x i in
      let Y : Outcome → Type 0 = Answers s x i in
      answers_blame B Y s x Num.LockU _ (refused_so s x i Num.LockU) (ends_then B Y (wished s x a.locktype a.offset a.length) _ (wished_blames s whole x i refl refl a.locktype a.offset a.length refl) (λ w e.
      (let at = wished_is s x a.locktype a.offset a.length w e in
      ends_then B Y (meant x Any a.lock_stateid) _ (meant_blames s x i k refl) (λ id means.
      ends_then B Y (unlock s.opens id w.client w.file w.first w.last) _
      (then_blames B (judge s.opens id w.client (Some w.file) LockOnly) _ (state_blames s x i k refl id (stands_for x k id means) w.client (Some w.file) at.0 (refl, at.1)) (λ n judged.
      then_blames B (ok_or (lock_at s.opens id.number) S.BadStateId) _ (there_blames B (lock_at s.opens id.number) S.BadStateId (λ none.
      (let its = judged_lock s.opens id w.client w.file n judged in let bad : None ≡ Some its.0 = sym none ∙ its.1 in cc))) (λ l e. tt)))
      (λ did e. done_so s x i tt)))))
