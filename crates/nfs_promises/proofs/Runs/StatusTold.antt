-- The status that an operation was answered stands in its result, behind its number.
use Rattle.std.proofs.Common.{◌≡◌, true, false, eqb, List, ◌++◌, take, drop, append_assoc, cond, sym, ◌∙◌, ap, subst}
use Rattle.std.proofs.lemmas.{Bool.{and_parts, true≢false}, List.{take_at, drop_at, take-append-drop}, Option.same_Some, Slice.Eq.bytes_eq-Decides}
use Rattle.std.specs.{Prelude.{Result, Ok, Err, ℕ}, Int.{w32, from_be_bytes}}
use Rattle.nfs_xdr.specs.{Spelling.number, Status.status_number, StatusCodec.status_of, declared.status.Status.Status}
use Rattle.nfs_xdr.specs.declared.status.Status.TheVariants.{Nfs4Ok, RepTooBig, CompleteAlready}
use Rattle.nfs_xdr.proofs.{Putting.length_number, StatusLaws.is_status_listing}
use Rattle.nfs_compound.specs.{declared.op.Item.Item, declared.op.Item.TheVariants.Operation, declared.op_num.OpNum.OpNum, Request.item_number, OpNum.op_number}
use Rattle.nfs_compound.specs.declared.op.Op.TheVariants as Op
use Rattle.nfs_compound.specs.declared.op_num.OpNum.TheVariants as Num
use Rattle.nfs_results.specs.{declared.res.Res.Res, Parts.parts, Results.{operation_of, refusal, head, done_head, spell_result, status_of_result}}
use Rattle.nfs_clients.specs.Marks.{has_reclaimed, with_reclaimed}
use Rattle.nfs_names.specs.{declared.context.Context.Context, declared.node.Node.Node, Checks.current, Outcome.is_ok, State.time_at}
use Rattle.nfs_names.proofs.Faulted.{status_of_refusal}
use Rattle.nfs_files.specs.OpenTold.{names_open}
use Rattle.nfs_files.proofs.{Outcomes.comes_to, WrittenOps.number_back}
use Rattle.nfs_exec.specs.{Runs.Ops.RanOp, Step.Behind.otherwise, Step.Machine.{Machine, with_refusal, with_result}, Step.Place.status_behind}
use Rattle.nfs_exec.proofs.{Runs.OneRun.{IsRun, by_run}, Step.Terms.{of_one, of_all}}
use Rattle.nfs_promises.specs.{Calls.NeverExpired.says, Names.NameStays.IsDone}

abbrev pub Says : Status → List ℕ → Type 0
Says f text = says text ≡ number (status_number f)

head_says : (n : ℕ) (f : Status) (more : List ℕ) → Says f (head n f ++ more)
head_says n f more =
    let s = number (status_number f) in
    ap says (append_assoc (number n) s more)
    ∙ (ap (take 4) (drop_at (number n) (s ++ more) 4 (length_number n)) ∙ take_at s more 4 (length_number (status_number f)))

pub spelled_says : (r : Res) → Says (status_of_result r) (spell_result r)
spelled_says r = head_says (operation_of r) (status_of_result r) (parts r).behind

-- RECLAIM_COMPLETE, and what nothing carries out

one_says : (m : Machine) (v : Result Node Status) → (let o = of_one m v in Says o.status o.result)
one_says m (Ok d) = spelled_says Res.ReclaimComplete
one_says m (Err f) = spelled_says (refusal (op_number Num.ReclaimComplete) f)

all_says : (m : Machine) (x : Context) → (let o = of_all m x in Says o.status o.result)
all_says m x = elim (has_reclaimed m.clients x.client) as (λ b. let o = cond b (with_refusal m (op_number Num.ReclaimComplete) CompleteAlready)
    (with_result (record m { clients = with_reclaimed m.clients x.client }) Res.ReclaimComplete) in Says o.status o.result) [
      | true ↦ spelled_says (refusal (op_number Num.ReclaimComplete) CompleteAlready)
      | false ↦ spelled_says Res.ReclaimComplete
    ]

other_says : (m : Machine) (x : Context) (i : Item) → (let o = (otherwise m x i).outcome in Says o.status o.result)
other_says m x (Operation (Op.ReclaimComplete true)) = one_says m (current m.store x)
other_says m x (Operation (Op.ReclaimComplete false)) = all_says m x
other_says m x i = spelled_says (refusal (item_number i) (status_behind i))

pub status_told : (d : RanOp) → IsRun d → Says d.status d.result
status_told d r =
    by_run (λ status text s. Says status text) d r (spelled_says (refusal (item_number d.item) RepTooBig)) (λ o e. spelled_says o.result)
    (spelled_says (comes_to r.refused d.before.store d.context (time_at d.before.store r.now) d.item).result) (λ off. other_says d.before d.context d.item)

-- What tells a status was answered it.

one_status : (f g : Status) → number (status_number f) ≡ number (status_number g) → f ≡ g
one_status f g e =
    let back = λ (f : Status). number_back (status_number f) (is_status_listing.small f) in
    let same : status_number f ≡ status_number g = sym (back f) ∙ (ap (from_be_bytes w32) e ∙ back g) in
    same_Some f g (sym (is_status_listing.found f) ∙ (ap status_of same ∙ is_status_listing.found g))

pub is_told : (d : RanOp) → IsRun d → (n : ℕ) (f : Status) → d.result ≡ spell_result (refusal n f) → d.status ≡ f
is_told d r n f told =
    let says_it : Says f (spell_result (refusal n f)) = subst (λ g. Says g (spell_result (refusal n f))) (status_of_refusal n f) (spelled_says (refusal n f)) in
    one_status d.status f (sym (status_told d r) ∙ (ap says told ∙ says_it))

-- and what an operation has behind NFS4_OK is of one that was answered it
pub done_ok : (d : RanOp) → IsRun d → (op : OpNum) → IsDone op d.result → is_ok d.status ≡ true
done_ok d r op is = ap is_ok (one_status d.status Nfs4Ok (sym (status_told d r) ∙ (ap says is.1 ∙ head_says (op_number op) Nfs4Ok is.0)))

pub names_ok : (d : RanOp) → IsRun d → (op : OpNum) (n : ℕ) → names_open op d.result n ≡ true → is_ok d.status ≡ true
names_ok d r op n names =
    let front = (bytes_eq-Decides (take 8 d.result) (done_head op)).0 (and_parts _ _ (and_parts _ _ names).1).0 in
    done_ok d r op (drop 8 d.result, sym (take-append-drop 8 d.result) ∙ ap (λ text. text ++ drop 8 d.result) front)

-- and no refusal is spelled so
pub not_done : (op : OpNum) (n : ℕ) (f : Status) → eqb (status_number f) 0 ≡ false → IsDone op (spell_result (Res.Refused n f)) → ⊥
not_done op n f refused is =
    let same : f ≡ Nfs4Ok = one_status f Nfs4Ok (sym (spelled_says (Res.Refused n f)) ∙ (ap says is.1 ∙ head_says (op_number op) Nfs4Ok is.0)) in
    true≢false (ap (λ g. eqb (status_number g) 0) (sym same) ∙ refused)
