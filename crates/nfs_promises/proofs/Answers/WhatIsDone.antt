-- CLOSE, LOCKU, WRITE and COMMIT did what they answer.
use Rattle.std.proofs.Common.{◌≡◌, ◌≢◌, ℕ, ◌≤◌, true, not, List, Some, None, refl, sym, ◌∙◌, ap, subst}
use Rattle.std.proofs.lemmas.{Bool.{false≢true, eq-eqb, not-true, le-leb}, Option.same_Some}
use Rattle.std.specs.Prelude.{◌==◌, nat_le, Ok, ok_or}
use Rattle.nfs_xdr.specs.{Tables.In, declared.time.Time.Time}
use Rattle.nfs_xdr.specs.declared.status.Status.TheVariants as S
use Rattle.nfs_xdr.proofs.Lists.{in_filter}
use Rattle.nfs_compound.specs.declared.{file_args.Write.Write, lock_args.LockU.LockU, open_args.Close.Close, op.Item.{Item, TheVariants.Operation}}
use Rattle.nfs_compound.specs.declared.op.Op.TheVariants as Op
use Rattle.nfs_compound.specs.declared.op_num.OpNum.TheVariants as Num
use Rattle.nfs_results.specs.Results.{spell_result}
use Rattle.nfs_results.specs.declared.res.Res.TheVariants as Res
use Rattle.nfs_opens.specs.{declared.judging.Sort.TheVariants.{Either, OpenOnly, LockOnly}, declared.locking.Wish.Wish, declared.records.OpenState.OpenState, declared.stateid.StateId.StateId}
use Rattle.nfs_opens.specs.{declared.stateid.CurrentSeqid.TheVariants.{Any, Own}, Judging.judge, Locking.{raised, unlock}, Table.{Table, lock_at}}
use Rattle.nfs_opens.specs.Closing as closing
use Rattle.nfs_names.specs.{declared.context.Context.Context, declared.node.Node.Node, Checks.current, State.{State, without_unused}, Ending.with_opens}
use Rattle.nfs_opens.proofs.CallLaws.{unlocked_is}
use Rattle.nfs_names.proofs.{Found.{came, ok_is}, Untouched.unused_opens}
use Rattle.nfs_files.specs.{Bytes.{writing, file_checks, may_use}, Close.close, Commit.commit, LockU.lock_u, Ranges.{kind_of, wished}, StateIds.{meant, wire_id}, Target.the_file, Write.{write, last_checks as write_lasts}}
use Rattle.nfs_files.proofs.{TreeFiles.IsWhole, Wishes.wish_is, WrittenOps.current_number}
use Rattle.nfs_promises.specs.Permission.Permitted.{Writes}
use Rattle.nfs_promises.specs.Answers.{Asked.{StateGiven, StandsFor, ToWrite}, YesIsTrue.{IsTrueOf, HoldsNone, IsClosed, UnlocksTruly}}
use Rattle.nfs_promises.proofs.Answers.Blaming.{then_blames, there_blames, ends_then, ends_checks, answers_blame}
use Rattle.nfs_promises.proofs.Answers.FileReasons.{file_blames, the_file_is, wished_blames, wished_is, may_use_blames}
use Rattle.nfs_promises.proofs.Answers.{StateReasons.{stands_for, stands_one, meant_blames, state_blames}, StatesTold.{off_of, told_id, raised_in, lock_rises}, TruthOfAnswers.{Off, Yes, refused_off, current_off, all_off, up_to}}
use Rattle.nfs_promises.proofs.Permission.Granting.{may_write_bytes}
use Rattle.nfs_promises.proofs.Answers.StatesTold.{ends_off}

-- CLOSE

closed : (t : Table) (n : ℕ) (o : OpenState) → In o (closing.without_open t n).opens → o.number ≢ n
closed t n o there same = let p = in_filter (λ (o : OpenState). not (o.number == n)) t.opens o there in false≢true (sym (not-true _ p.1) ∙ eq-eqb o.number n same)

module _ (s : State) (whole : IsWhole s) (x : Context) where
  pub close_true : (a : Close) → Yes (IsTrueOf s x (Operation (Op.Close a))) (close s x a)
  unfolding close
  close_true a =
      let i : Item = Operation (Op.Close a) in
      let k : StateGiven = record { given = a.open_stateid; sort = OpenOnly; form = Own; here = true } in
      let P : List ℕ → State → Type 0 = IsTrueOf s x i in
      answers_blame Off (Yes P) s x Num.Close _ (refused_off P s x Num.Close) (ends_off s x i (Yes P) (the_file s x) _ (file_blames s whole x i refl refl) (λ d e.
      (let at = current_number s x d (the_file_is s x d e) in
      ends_off s x i (Yes P) (meant x Own a.open_stateid) _ (meant_blames s x i k refl) (λ id means.
      ends_then Off (Yes P) (closing.close s.opens id x.client d.number) _
      (then_blames Off (judge s.opens id x.client (Some d.number) OpenOnly) _ (off_of s x i (judge s.opens id x.client (Some d.number) OpenOnly)
      (state_blames s x i k refl id (stands_for x k id means) x.client (Some d.number) refl (refl, at))) (λ n e. tt))
      (λ did e2 ok. (is_closed a id d did (stands_for x k id means) e2, refl))))))
    where
      is_closed : (a : Close) (id : StateId) (d : Node) (did : _) → StandsFor x (record { given = a.open_stateid; sort = OpenOnly; form = Own; here = true }) id
          → closing.close s.opens id x.client d.number ≡ Ok did → IsClosed x a (without_unused (with_opens s did.1) d.number)
      is_closed a id d did means e k other is stands o there =
          let k_is : record { given = a.open_stateid; sort = OpenOnly; form = Own; here = true } ≡ k = same_Some _ k is in
          let one : id ≡ other = stands_one x k id other (subst (λ k. StandsFor x k id) k_is means) stands in
          let n = came (judge s.opens id x.client (Some d.number) OpenOnly) _ did e in
          let left : did.1 ≡ closing.without_open s.opens id.number = ap (λ (p : _ × Table). p.1) (sym (ok_is refl n.then)) in
          let found : In o (closing.without_open s.opens id.number).opens =
          subst (λ (t : Table). In o t.opens) left (subst (λ (t : Table). In o t.opens) (unused_opens (with_opens s did.1) d.number) there) in
          subst (λ (i : StateId). o.number ≢ i.number) one (closed s.opens id.number o found)

  -- LOCKU
  pub unlock_true : (a : LockU) → Yes (IsTrueOf s x (Operation (Op.LockU a))) (lock_u s x a)
  unfolding lock_u
  unlock_true a =
      let i : Item = Operation (Op.LockU a) in
      let k : StateGiven = record { given = a.lock_stateid; sort = LockOnly; form = Any; here = true } in
      let P : List ℕ → State → Type 0 = IsTrueOf s x i in
      answers_blame Off (Yes P) s x Num.LockU _ (refused_off P s x Num.LockU) (
      ends_off s x i (Yes P) (wished s x a.locktype a.offset a.length) _ (wished_blames s whole x i refl refl a.locktype a.offset a.length refl) (λ w e.
      (let at = wished_is s x a.locktype a.offset a.length w e in
      ends_off s x i (Yes P) (meant x Any a.lock_stateid) _ (meant_blames s x i k refl) (λ id means.
      ends_then Off (Yes P) (unlock s.opens id w.client w.file w.first w.last) _
      (then_blames Off (judge s.opens id w.client (Some w.file) LockOnly) _ (off_of s x i (judge s.opens id w.client (Some w.file) LockOnly)
      (state_blames s x i k refl id (stands_for x k id means) w.client (Some w.file) at.0 (refl, at.1))) (λ n e.
      then_blames Off (ok_or (lock_at s.opens id.number) S.BadStateId) _ (there_blames Off (lock_at s.opens id.number) S.BadStateId (λ none. refl)) (λ l e. tt)))
      (λ did e2 ok. unlocks a id w did e at (stands_for x k id means) e2)))))
    where
      holds_none : (a : LockU) (id : StateId) (w : _) (did : _) → wished s x a.locktype a.offset a.length ≡ Ok w → x.current ≡ Some w.file
          → StandsFor x (record { given = a.lock_stateid; sort = LockOnly; form = Any; here = true }) id → unlock s.opens id w.client w.file w.first w.last ≡ Ok did
          → HoldsNone x a (with_opens s did.1)
      holds_none a id w did e at means e2 k other file b is stands here within =
          let k_is : record { given = a.lock_stateid; sort = LockOnly; form = Any; here = true } ≡ k = same_Some _ k is in
          let one : id ≡ other = stands_one x k id other (subst (λ k. StandsFor x k id) k_is means) stands in
          let its = wish_is s x a.locktype a.offset a.length w e in
          let n = came (judge s.opens id w.client (Some w.file) LockOnly) _ did e2 in
          let l = came (ok_or (lock_at s.opens id.number) S.BadStateId) _ did n.then in
          let low : nat_le w.first b ≡ true = le-leb w.first b (subst (λ first. first ≤ b) (sym its.first) within.0) in
          let high : nat_le b w.last ≡ true = le-leb b w.last (up_to a.offset a.length w.last b its.last within) in
          let gone : did.1.held w.file id.number b ≡ None =
          ap (λ (p : StateId × Table). p.1.held w.file id.number b) (sym (ok_is refl l.then)) ∙ (rw (eq-eqb w.file w.file refl, eq-eqb id.number id.number refl, low, high) refl) in
          let there : w.file ≡ file = same_Some w.file file (sym at ∙ here) in
          subst (λ file. did.1.held file other.number b ≡ None) there (subst (λ (i : StateId). did.1.held w.file i.number b ≡ None) one gone)

      unlocks : (a : LockU) (id : StateId) (w : Wish) (did : StateId × Table) → wished s x a.locktype a.offset a.length ≡ Ok w
          → (w.client ≡ x.client) × (x.current ≡ Some w.file) × (w.kind ≡ kind_of a.locktype)
          → StandsFor x (record { given = a.lock_stateid; sort = LockOnly; form = Any; here = true }) id → unlock s.opens id w.client w.file w.first w.last ≡ Ok did
          → UnlocksTruly s x a (spell_result (Res.LockU (wire_id did.0))) (with_opens s did.1)
      unlocks a id w did e at means e2 =
          let u = unlocked_is s.opens id w.client w.file w.first w.last did e2 in
          let n = raised_in s.opens id.number u.state u.found in
          record {
            state = raised u.state;
            there = subst (λ (t : Table). In (raised u.state) t.locks) (sym u.left) n.0;
            client = u.mine ∙ at.0;
            file = at.1 ∙ ap Some (sym u.there);
            given = record { given = _; is = refl; id = id; means = means; names = sym n.1 };
            free = holds_none a id w did e at.1 means e2;
            seqid = lock_rises s.opens id.number u.state u.found n.1;
            told = ap (λ i. spell_result (Res.LockU i)) (told_id did.0 (raised u.state).seqid s.opens.instance id.number u.answer (with_opens s did.1)
                (ap (λ (t : Table). t.instance) u.left) u.state.number n.1);
          }

  -- WRITE and COMMIT
  pub write_true : (now : Time) (a : Write) → Yes (IsTrueOf s x (Operation (Op.Write a))) (write s x now a)
  unfolding write
  write_true now a =
      let i : Item = Operation (Op.Write a) in
      let k : StateGiven = record { given = a.stateid; sort = Either; form = Any; here = true } in
      let P : List ℕ → State → Type 0 = IsTrueOf s x i in
      answers_blame Off (Yes P) s x Num.Write _ (refused_off P s x Num.Write) (ends_off s x i (Yes P) (the_file s x) _ (file_blames s whole x i refl refl) (λ d e.
      (let here = the_file_is s x d e in
      ends_off s x i (Yes P) (may_use s x writing a.stateid d) _ (may_use_blames s whole x i k refl refl refl refl Writes refl d here (may_write_bytes x d s.tree) (λ id means some.
      ToWrite d.number a (record { state = k; is = refl; id = id; means = stands_for x k id means; special = some; at = current_number s x d here }))) (λ n e2.
      ends_checks Off (Yes P) (write_lasts s a d) _ (all_off (write_lasts s a d) refl) (λ u ok. refl)))))

  pub commit_true : (a : _) → Yes (IsTrueOf s x (Operation (Op.Commit a))) (commit s x)
  unfolding commit
  commit_true a =
      let P : List ℕ → State → Type 0 = IsTrueOf s x (Operation (Op.Commit a)) in
      answers_blame Off (Yes P) s x Num.Commit _ (refused_off P s x Num.Commit) (ends_then Off (Yes P) (current s x) _ (current_off s x) (λ d e.
      ends_checks Off (Yes P) (file_checks d) _ (all_off (file_checks d) refl) (λ u ok. refl)))
