-- A READ and a WRITE that were answered NFS4_OK were granted by the file, or by an open of the client that stands; and one that was refused by NFS4ERR_ACCESS was not granted
-- by the file.
use Rattle.std.proofs.Common.{◌≡◌, ◌≢◌, ℕ, Bool, true, false, cond, not, Option, Some, None, refl, sym, ◌∙◌, ap, subst}
use Rattle.std.proofs.lemmas.{Bool.{eqb-true, not-false, false≢true, and_parts}, Option.same_Some}
use Rattle.std.specs.{Prelude.{◌==◌, ◌&&◌, ◌||◌, Result, Ok, Err}, Option.option_map_or}
use Rattle.nfs_xdr.specs.{Checks.first_fault, declared.status.Status.Status}
use Rattle.nfs_xdr.proofs.{Checks.all_passed, Lists.find_in}
use Rattle.nfs_compound.specs.{OpNum.op_number, declared.file_args.Read.Read, declared.file_args.Write.Write, declared.op.Item.TheVariants.Operation}
use Rattle.nfs_compound.specs.{declared.op_num.OpNum.OpNum, declared.stateid.Stateid.Stateid}
use Rattle.nfs_compound.specs.declared.op.Op.TheVariants as Op
use Rattle.nfs_compound.specs.declared.op_num.OpNum.TheVariants as Num
use Rattle.nfs_results.specs.Results.{status_of_result}
use Rattle.nfs_tree.specs.Bytes.{has_bytes}
use Rattle.nfs_opens.specs.{Judging.{judge, special, named_by, judge_checks, open_named, lock_named}, Locking.access_in, Share.{is_part, neither}}
use Rattle.nfs_opens.specs.{StateId.{is_anonymous, is_bypass}, Steps.in_order, Table.{Table, open_at, lock_at}, TableInvariants.IsTable}
use Rattle.nfs_opens.specs.declared.{judging.{Seat.{Seat, TheVariants.{Anonymous, ReadBypass, Open, Lock}}, Sort.TheVariants.Either}, share.Share.Share}
use Rattle.nfs_opens.specs.declared.{records.{LockState.LockState, OpenState.OpenState}, stateid.{CurrentSeqid.TheVariants.Any, StateId.StateId}}
use Rattle.nfs_opens.proofs.Terms.{judge_named}
use Rattle.nfs_names.specs.{declared.context.Context.Context, declared.node.Node.Node, Checks.current, Outcome.{Outcome, is_ok, checked, answers}}
use Rattle.nfs_names.specs.State.{State, time_at}
use Rattle.nfs_names.proofs.{Faulted.{status_of_refusal, lacks_fail}, Found.{came, ok_is, checked_ok}, NameLaws.current_refuses, Ones.by_delay}
use Rattle.nfs_names.proofs.Refusing.{Refuses, refuses_checked}
use Rattle.nfs_files.specs.{Bytes.{file_checks, seat, reading, writing, lets_use, seat_checks, may_use}, StateIds.meant, Parts.{readable, writable}}
use Rattle.nfs_files.specs.Write as of_write
use Rattle.nfs_files.proofs.{Passing.if_passed_ok, Seats.{readable_refuses, writable_refuses}, WrittenOps.current_number}
use Rattle.nfs_exec.specs.Runs.Ops.{RanOp}
use Rattle.nfs_exec.proofs.Runs.OneRun.{IsRun, by_ok}
use Rattle.nfs_promises.specs.Permission.Permitted.{Rights, Right, Reads, Writes, Executes, GrantsUse, rights_of, has_right, HasOpen, IsAt, is_special}
use Rattle.nfs_promises.specs.Permission.Permitted.{ByStateid}
use Rattle.nfs_promises.proofs.{Permission.{Granting.uses, PermittedNames.here}, Answers.{Blaming.passed_all, StateReasons.{is_state, open_under}}}
use Rattle.nfs_files.proofs.InSteps as in_steps

-- Bytes: by the stateid.

not_special : (a b : Bool) (v : Result Seat Status) (k : Seat) → a || b ≡ false → cond a (special Either Anonymous) (cond b (special Either ReadBypass) v) ≡ Ok k → v ≡ Ok k
not_special false false v k none e = e
not_special false true v k none e = absurd (false≢true (sym none))
not_special true b v k none e = absurd (false≢true (sym none))

is_special_seat : (a b : Bool) (v : Result Seat Status) (k : Seat) → a || b ≡ true → cond a (special Either Anonymous) (cond b (special Either ReadBypass) v) ≡ Ok k
    → is_state k ≡ false
is_special_seat true b v k some e = ap is_state (sym (ok_is refl e))
is_special_seat false true v k some e = ap is_state (sym (ok_is refl e))
is_special_seat false false v k some e = absurd (false≢true some)

-- the access of a state's seat is that of an open of the client and of the file
module _ (t : Table) (table : IsTable t) (id : StateId) (client file : ℕ) (k : Seat) (right : Right) (has : is_state k ≡ true → has_right (access_in k) right ≡ true) where
  from_seat : (j : Seat) → j ≡ k → is_state j ≡ true → has_right (access_in j) right ≡ true
  from_seat j same state = subst (λ k. has_right (access_in k) right ≡ true) (sym same) (has (ap is_state (sym same) ∙ state))

  of_state : (o : Option OpenState) (l : Option LockState) → open_at t id.number ≡ o → lock_at t id.number ≡ l → judge_named client (Some file) Either id.seqid (named_by t o l) ≡ Ok k
      → HasOpen t client file right
  of_state None None there held e = absurd cc
  of_state (Some o) l there held e =
      let checks = judge_checks client (Some file) Either id.seqid (open_named o) in
      let c = came (in_order checks) _ k e in
      let passed = all_passed checks (passed_all checks c.is) in
      record {
        state = o;
        stands = (find_in (λ (o : OpenState). o.number == id.number) t.opens o there).0;
        client_is = eqb-true _ _ (not-false _ passed.0);
        file_is = eqb-true _ _ (not-false _ passed.1.0);
        has = from_seat (Open o.number o.access) (ok_is refl c.then) refl;
      }
  of_state None (Some l) there held e =
      let checks = judge_checks client (Some file) Either id.seqid (lock_named t l) in
      let c = came (in_order checks) _ k e in
      let passed = all_passed checks (passed_all checks c.is) in
      let under = table.under l (find_in (λ (l : LockState). l.number == id.number) t.locks l held).0 in
      record {
        state = under.0;
        stands = under.1.stands;
        client_is = under.1.client ∙ eqb-true _ _ (not-false _ passed.0);
        file_is = under.1.file ∙ eqb-true _ _ (not-false _ passed.1.0);
        has = ap (λ (o : Option OpenState). has_right (option_map_or (λ (o : OpenState). o.access) o neither) right) (sym (open_under t table l under.0 under.1))
            ∙ from_seat (lock_named t l).seat (ok_is refl c.then) refl;
      }

  judged_has : is_special id ≡ false → judge t id client (Some file) Either ≡ Ok k → HasOpen t client file right
  judged_has none e = by (id.instance == t.instance) (not_special (is_anonymous id) (is_bypass id) _ k none e)
    where
      by : (same : Bool) → judge_named client (Some file) Either id.seqid (cond same (named_by t (open_at t id.number) (lock_at t id.number)) None) ≡ Ok k → HasOpen t client file right
      by false e = absurd cc
      by true e = of_state (open_at t id.number) (lock_at t id.number) refl refl e

-- reading, or writing
abbrev wanted_by : Right → Share
wanted_by Reads = reading
wanted_by Writes = writing
wanted_by Executes = reading

part_has : (right : Right) (access : Share) → not (is_part (wanted_by right) access) ≡ false → right ≢ Executes → has_right access right ≡ true
part_has Reads access e other = (and_parts access.reads true (not-false _ e)).0
part_has Writes access e other = not-false _ e
part_has Executes access e other = absurd (other refl)

record Used (s : State) (x : Context) (given : Stateid) (right : Right) (d : Node) : Type 0 where
  pub there : current s x ≡ Ok d
  pub special : (id : StateId) → meant x Any given ≡ Ok id → is_special id ≡ true → GrantsUse right s.tree.profile (rights_of d.object) x.who
  pub state : (id : StateId) → meant x Any given ≡ Ok id → is_special id ≡ false → HasOpen s.opens x.client d.number right

-- the checks of a seat
special_grants : (s : State) (x : Context) (right : Right) (d : Node) (k : Seat) → is_state k ≡ false → first_fault (seat_checks s x (wanted_by right) d k) ≡ None
    → lets_use s.tree x d (wanted_by right) ≡ true
special_grants s x right d Anonymous is passed = (let checks = all_passed (seat_checks s x (wanted_by right) d Anonymous) passed in not-false _ checks.1.0)
special_grants s x right d ReadBypass is passed = (let checks = all_passed (seat_checks s x (wanted_by right) d ReadBypass) passed in not-false _ checks.1.0)
special_grants s x right d (Open number access) is passed = absurd (false≢true (sym is))
special_grants s x right d (Lock number access) is passed = absurd (false≢true (sym is))

state_has : (s : State) (x : Context) (right : Right) (d : Node) (k : Seat) → right ≢ Executes → is_state k ≡ true
    → first_fault (seat_checks s x (wanted_by right) d k) ≡ None → has_right (access_in k) right ≡ true
state_has s x right d Anonymous other is passed = absurd (false≢true is)
state_has s x right d ReadBypass other is passed = absurd (false≢true is)
state_has s x right d (Open number access) other is passed = (let checks = all_passed (seat_checks s x (wanted_by right) d (Open number access)) passed in part_has right access checks.0 other)
state_has s x right d (Lock number access) other is passed = (let checks = all_passed (seat_checks s x (wanted_by right) d (Lock number access)) passed in part_has right access checks.0 other)

seat_came : (s : State) (x : Context) (given : Stateid) (d : Node) (k : Seat) → seat s x given d ≡ Ok k → (id : StateId) → meant x Any given ≡ Ok id
    → judge s.opens id x.client (Some d.number) Either ≡ Ok k
unfolding seat
seat_came s x given d k e id means =
    let c = came (meant x Any given) _ k e in
    subst (λ id. judge s.opens id x.client (Some d.number) Either ≡ Ok k) (ok_is refl (sym c.is ∙ means)) c.then

used_by : (s : State) (x : Context) (given : Stateid) (d : Node) (right : Right) (k : Seat) → IsTable s.opens → right ≢ Executes → current s x ≡ Ok d
    → (lets_use s.tree x d (wanted_by right) ≡ true → GrantsUse right s.tree.profile (rights_of d.object) x.who) → may_use s x (wanted_by right) given d ≡ Ok k → Used s x given right d
used_by s x given d right k table other there grants e =
    let its = checked_ok (seat s x given d) (seat_checks s x (wanted_by right) d) k (sym (in_steps.may_use_is s x (wanted_by right) given d) ∙ e) in
    record {
      there = there;
      special = λ id means some. grants (special_grants s x right d k (is_special_seat (is_anonymous id) (is_bypass id) _ k some (seat_came s x given d k its.0 id means)) its.1);
      state = λ id means none. judged_has s.opens table id x.client d.number k right (λ state. state_has s x right d k other state its.1) none (seat_came s x given d k its.0 id means);
    }

reads_no_more : ◌≢◌ {A = Right} Reads Executes
reads_no_more e = absurd cc

writes_no_more : ◌≢◌ {A = Right} Writes Executes
writes_no_more e = absurd cc

readable_used : (s : State) (x : Context) (given : Stateid) (d : Node) → IsTable s.opens → readable s x given (current s x) ≡ Ok d → Used s x given Reads d
unfolding readable
readable_used s x given d table e =
    let its = if_passed_ok (checked (current s x) file_checks) (may_use s x reading given) d e in
    used_by s x given d Reads its.1.0 table reads_no_more (checked_ok (current s x) file_checks d its.0).0 (λ e. uses x d s.tree reading e Reads refl) its.1.1

writable_used : (s : State) (x : Context) (given : Stateid) (d : Node) → IsTable s.opens → writable s x given (current s x) ≡ Ok d → Used s x given Writes d
unfolding writable
writable_used s x given d table e =
    let its = if_passed_ok (checked (current s x) file_checks) (may_use s x writing given) d e in
    used_by s x given d Writes its.1.0 table writes_no_more (checked_ok (current s x) file_checks d its.0).0 (λ e. uses x d s.tree writing e Writes refl) its.1.1

-- Of an operation that was run.

used_here : (d : RanOp) (n : ℕ) (r : Rights) (k : Node) (given : Stateid) (right : Right) → IsAt n r d → Used d.before.store d.context given right k
    → ByStateid d.before.store.tree.profile n r d given right
used_here d n r k given right at used = record {
  special = λ id means some. subst (λ r. GrantsUse right d.before.store.tree.profile r d.context.who)
      (here d.before.store d.context n r k at.at at.is used.there) (used.special id means some);
  state = λ id means none. subst (λ n. HasOpen d.before.store.opens d.context.client n right)
      (same_Some k.number n (sym (current_number d.before.store d.context k used.there) ∙ at.at)) (used.state id means none);
}

pub done_by : {A : Type 0} (s : State) (x : Context) (op : OpNum) (v : Result A Status) (f : A → Outcome) → Refuses v
    → is_ok (status_of_result (answers s x op v f).result) ≡ true → (a : A) × (v ≡ Ok a)
done_by s x op (Err status) f all ok =
    absurd (false≢true (sym (all.each status refl).done ∙ (ap is_ok (sym (status_of_refusal (op_number op) status)) ∙ ok)))
done_by s x op (Ok a) f all ok = (a, refl)

pub read_granted : (d : RanOp) → IsRun d → (n : ℕ) (r : Rights) → IsAt n r d → is_ok d.status ≡ true → (a : Read) → d.item ≡ Operation (Op.Read a)
    → ByStateid d.before.store.tree.profile n r d a.stateid Reads
read_granted d run n r at ok a same =
    let s = d.before.store in
    let x = d.context in
    by_ok (λ text t. ByStateid s.tree.profile n r d a.stateid Reads) d run (Operation (Op.Read a)) same ok (λ fine.
    (let its = done_by s x Num.Read (readable s x a.stateid (current s x)) _ (readable_refuses s x a.stateid (current s x) (current_refuses s x))
    (subst (λ (o : Outcome). is_ok (status_of_result o.result) ≡ true) (in_steps.read_is s x a) fine) in
    used_here d n r its.0 a.stateid Reads at (readable_used s x a.stateid its.0 run.whole.table its.1)))

pub write_granted : (d : RanOp) → IsRun d → (n : ℕ) (r : Rights) → IsAt n r d → is_ok d.status ≡ true → (a : Write) → d.item ≡ Operation (Op.Write a)
    → ByStateid d.before.store.tree.profile n r d a.stateid Writes
write_granted d run n r at ok a same =
    let s = d.before.store in
    let x = d.context in
    let v = writable s x a.stateid (current s x) in
    by_ok (λ text t. ByStateid s.tree.profile n r d a.stateid Writes) d run (Operation (Op.Write a)) same ok
    (by_delay (λ o. is_ok (status_of_result o.result) ≡ true → ByStateid s.tree.profile n r d a.stateid Writes) (has_bytes a.bytes && run.refused) s x Num.Write (of_write.write s x (time_at s run.now) a)
    (λ delayed. absurd (false≢true (sym (lacks_fail s Num.Write) ∙ delayed))) (λ fine.
    (let its = done_by s x Num.Write (checked v (of_write.last_checks s a)) _
    (refuses_checked v (of_write.last_checks s a) (writable_refuses s x a.stateid (current s x) (current_refuses s x)) (λ d. refl))
    (subst (λ (o : Outcome). is_ok (status_of_result o.result) ≡ true) (in_steps.write_is s x (time_at s run.now) a) fine) in
    used_here d n r its.0 a.stateid Writes at (writable_used s x a.stateid its.0 run.whole.table (checked_ok v (of_write.last_checks s a) its.0 its.1).0))))
