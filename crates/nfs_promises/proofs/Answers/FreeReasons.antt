-- FREE_STATEID and RECLAIM_COMPLETE: what they are refused with has its reason.
use Rattle.std.proofs.Common.{◌≡◌, ℕ, Bool, true, false, cond, not, Some, None, refl, sym, ◌∙◌, ap, subst, inl, inr}
use Rattle.std.proofs.lemmas.Bool.{eqb-true, false≢true, not-false}
use Rattle.std.specs.Prelude.{◌==◌, Result, Ok, Err, ok_or}
use Rattle.nfs_xdr.specs.{declared.status.Status.Status, Tables.In}
use Rattle.nfs_xdr.specs.declared.status.Status.TheVariants as S
use Rattle.nfs_xdr.proofs.Lists.{find_in}
use Rattle.nfs_compound.specs.{declared.{op.Item.{Item, TheVariants.Operation}, stateid.Stateid.Stateid}, OpNum.op_number}
use Rattle.nfs_compound.specs.declared.op.Op.TheVariants as Op
use Rattle.nfs_compound.specs.declared.op_num.OpNum.TheVariants as Num
use Rattle.nfs_results.specs.declared.res.Res.TheVariants as Res
use Rattle.nfs_clients.specs.Marks.{has_reclaimed, with_reclaimed}
use Rattle.nfs_ranges.specs.{Facts.HoldsAny, Holders.holds_any}
use Rattle.nfs_ranges.proofs.ToldLemmas.{any_is_decided}
use Rattle.nfs_opens.specs.{declared.judging.Seat.Seat, declared.judging.Seat.TheVariants.{Anonymous, ReadBypass, Open as AnOpen, Lock as ALock}, declared.judging.Sort.TheVariants.Either}
use Rattle.nfs_opens.specs.{declared.stateid.CurrentSeqid.TheVariants.Any, declared.stateid.StateId.StateId, declared.records.{LockState.LockState, OpenState.OpenState}}
use Rattle.nfs_opens.specs.{Closing.{free, lock_in}, Judging.judge, Steps.{◌>>◌, require}, Table.lock_at}
use Rattle.nfs_names.specs.{declared.context.Context.Context, declared.node.Node.Node, Checks.current, State.State, Outcome.Outcome}
use Rattle.nfs_names.proofs.Found.{ok_is}
use Rattle.nfs_files.specs.{FreeStateid.free_stateid, StateIds.meant}
use Rattle.nfs_promises.specs.Answers.{Asked.{StateGiven, StandsFor}, Reasons.{IsAnswered, Reason, Special}}
use Rattle.nfs_files.proofs.TreeFiles.{IsWhole}
use Rattle.nfs_exec.specs.{Step.Machine.{Machine, or_refused, with_result, with_refusal}, Step.ReclaimComplete.reclaim_complete}
use Rattle.nfs_promises.proofs.Answers.{Blaming.{Blames, then_blames, there_blames, held_blames, ends_then, answers_blame}, InvalidReasons.ok_some, Placed.{Answers, refused_so, done_so, current_blames}, StateReasons.{IsSeated, seated, stands_for, meant_blames, state_blames}}

module _ (s : State) (x : Context) (given : Stateid) where
  abbrev i : Item
  i = Operation (Op.FreeStateid given)

  abbrev k : StateGiven
  k = record { given = given; sort = Either; form = Any; here = false }

  abbrev B : Status → Type 0
  B = Reason s x i

  abbrev Y : Outcome → Type 0
  Y = Answers s x i

  seat_blames : (id : StateId) → StandsFor x k id → (seat : Seat) → IsSeated s.opens id Either seat → Blames B (lock_in seat)
  seat_blames id means Anonymous is = Special k id refl means is.1 (λ either. refl)
  seat_blames id means ReadBypass is = Special k id refl means is.1 (λ either. refl)
  seat_blames id means (AnOpen n access) (o, here, same) =
      (let it = find_in (λ (o : OpenState). o.number == id.number) s.opens.opens o here in
      record { given = given; is = refl; id = id; means = means; holds = inl (o, it.0, eqb-true _ _ it.1) })
  seat_blames id means (ALock n access) is = tt

  stands : (id : StateId) (seat : Seat) (n : ℕ) → lock_in seat ≡ Ok n → IsSeated s.opens id Either seat → lock_at s.opens n ≡ None → ⊥
  stands id Anonymous n e is none = absurd cc
  stands id ReadBypass n e is none = absurd cc
  stands id (AnOpen m access) n e is none = absurd cc
  stands id (ALock m access) n e (l, here, held, number, same) none =
      let it = find_in (λ (l : LockState). l.number == id.number) s.opens.locks l held in
      let one : id.number ≡ n = sym (eqb-true l.number id.number it.1) ∙ (sym number ∙ ok_is {A = ℕ} refl e) in
      let bad : None ≡ Some l = sym none ∙ (ap (lock_at s.opens) (sym one) ∙ held) in
      cc

  number_is : (id : StateId) (seat : Seat) (n : ℕ) → lock_in seat ≡ Ok n → IsSeated s.opens id Either seat → n ≡ id.number
  number_is id Anonymous n e is = absurd cc
  number_is id ReadBypass n e is = absurd cc
  number_is id (AnOpen m access) n e is = absurd cc
  number_is id (ALock m access) n e (l, here, held, number, same) =
      (let it = find_in (λ (l : LockState). l.number == id.number) s.opens.locks l held in sym (ok_is {A = ℕ} refl e) ∙ (number ∙ eqb-true l.number id.number it.1))

  -- the lock state that holds a byte
  in_use : (n : ℕ) (id : StateId) (l : LockState) → n ≡ id.number → lock_at s.opens n ≡ Some l → holds_any (s.opens.held l.file) n ≡ true
      → (l : LockState) × In l s.opens.locks × (l.number ≡ id.number) × HoldsAny (s.opens.held l.file) l.number
  in_use n id l same there some =
      let it = find_in (λ (l : LockState). l.number == n) s.opens.locks l there in
      let number : l.number ≡ n = eqb-true l.number n it.1 in
      (l, it.0, number ∙ same, subst (HoldsAny (s.opens.held l.file)) (sym number) ((any_is_decided (s.opens.held l.file) n).1 some))

  pub free_blames : Answers s x i (free_stateid s x given)
  unfolding free_stateid
  free_blames = answers_blame B Y s x Num.FreeStateid _ (refused_so s x i Num.FreeStateid) (ends_then B Y (meant x Any given) _ (meant_blames s x i k refl) (λ id means.
      (let stood = stands_for x k id means in
      ends_then B Y (free s.opens id x.client) _
      (then_blames B (judge s.opens id x.client None Either) _ (state_blames s x i k refl id stood x.client None refl refl) (λ seat e.
      (let is = seated s.opens id x.client None Either seat e in
      then_blames B (lock_in seat) _ (seat_blames id stood seat is) (λ n at.
      then_blames B (ok_or (lock_at s.opens n) S.BadStateId) _ (there_blames B (lock_at s.opens n) S.BadStateId (λ none. absurd (stands id seat n at is none))) (λ l there.
      then_blames B (require (not (holds_any (s.opens.held l.file) n)) S.LocksHeld) _ (held_blames B (not (holds_any (s.opens.held l.file) n)) S.LocksHeld (λ off. record {
        given = given;
        is = refl;
        id = id;
        means = stood;
        holds = inr (in_use n id l (number_is id seat n at is) (ok_some (lock_at s.opens n) S.BadStateId l there) (not-false (holds_any (s.opens.held l.file) n) off));
      })) (λ u e. tt)))))) (λ did e. done_so s x i tt))))

-- RECLAIM_COMPLETE

module _ (m : Machine) (whole : IsWhole m.store) (x : Context) where
  refused_by : (one : Bool) (f : Status) → Reason m.store x (Operation (Op.ReclaimComplete one)) f
      → IsAnswered m.store x (Operation (Op.ReclaimComplete one)) (with_refusal m (op_number Num.ReclaimComplete) f).status
  refused_by one f reason = refused_so m.store x (Operation (Op.ReclaimComplete one)) Num.ReclaimComplete f reason

  pub reclaim_blames : (one : Bool) → IsAnswered m.store x (Operation (Op.ReclaimComplete one)) (reclaim_complete m x one).status
  reclaim_blames true = by (current m.store x) (current_blames m.store whole x (Operation (Op.ReclaimComplete true)) refl)
    where
      by : (v : Result Node Status) → Blames (Reason m.store x (Operation (Op.ReclaimComplete true))) v
          → IsAnswered m.store x (Operation (Op.ReclaimComplete true)) (or_refused (with_refusal m (op_number Num.ReclaimComplete)) (v >> Ok (with_result m Res.ReclaimComplete))).status
      by (Err f) is = refused_by true f is
      by (Ok d) is = done_so m.store x (Operation (Op.ReclaimComplete true)) tt
  reclaim_blames false = elim (has_reclaimed m.clients x.client)
      as (λ b. IsAnswered m.store x (Operation (Op.ReclaimComplete false)) (cond b (with_refusal m (op_number Num.ReclaimComplete) S.CompleteAlready)
      (with_result (record m { clients = with_reclaimed m.clients x.client }) Res.ReclaimComplete)).status) [
        | true ↦ refused_by false S.CompleteAlready refl
        | false ↦ done_so m.store x (Operation (Op.ReclaimComplete false)) tt
      ]

  -- the mark stands where it is refused as complete
  pub reclaim_marked : (one : Bool) → (reclaim_complete m x one).status ≡ S.CompleteAlready → has_reclaimed m.clients x.client ≡ true
  reclaim_marked true e = absurd (let bad : Operation (Op.ReclaimComplete true) ≡ Operation (Op.ReclaimComplete false) = (subst (IsAnswered m.store x (Operation (Op.ReclaimComplete true))) e (reclaim_blames true)).refused refl in
      off true refl bad)
    where
      off : (b : Bool) → b ≡ true → Operation (Op.ReclaimComplete b) ≡ Operation (Op.ReclaimComplete false) → ⊥
      off true is e = cc
      off false is e = false≢true is
  reclaim_marked false e = by (has_reclaimed m.clients x.client) e
    where
      by : (b : Bool) → (cond b (with_refusal m (op_number Num.ReclaimComplete) S.CompleteAlready)
          (with_result (record m { clients = with_reclaimed m.clients x.client }) Res.ReclaimComplete)).status ≡ S.CompleteAlready → b ≡ true
      by true e = refl
      by false e = absurd cc
