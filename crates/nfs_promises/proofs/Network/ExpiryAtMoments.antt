-- Expiry at two moments, and steps that do nothing but take their moment.
use Rattle.std.proofs.Common.{◌≡◌, ℕ, max, Bool, false, List, [], ◌∷◌, length, Option, Some, None, refl, sym, ◌∙◌, ap, arith, inl, inr}
use Rattle.std.proofs.lemmas.Bool.{cases_Bool, not-false}
use Rattle.std.specs.{Prelude.{◌==◌, ◌||◌, nat_lt, is_some}, Option.option_map_or}
use Rattle.nfs_xdr.specs.{Caller.Caller, declared.status.Status.Status}
use Rattle.nfs_rpc.specs.{declared.refusal.Refusal.TheVariants.Silent, declared.call.Procedure.Procedure}
use Rattle.nfs_rpc.specs.CallHead.{Called, Accepted, Refused, call_of}
use Rattle.nfs_rpc.specs.declared.call.Procedure.TheVariants as Procedures
use Rattle.nfs_compound.specs.{declared.op.Item.Item, declared.op.Item.TheVariants.{Operation, Fault}, Request.{Request, item_number}, ReadRequest.request_at}
use Rattle.nfs_compound.specs.declared.session_args.Sequence.{Sequence}
use Rattle.nfs_compound.specs.declared.op.Op.TheVariants as Op
use Rattle.nfs_names.specs.{declared.start.Start.Start}
use Rattle.nfs_exec.specs.Step.{Compound.{carried_out, first_item, in_session, by_first, compound}, Executing.{is_alone, executes}, Expiry.expired, Run.is_here}
use Rattle.nfs_exec.specs.Step.{Laws.{if_runs, first_runs}, Machine.{Machine, MachineOutcome}, Place.place_fault, Sequence.{Sequenced, sequenced}}
use Rattle.nfs_exec.specs.Step.Sequence as sequence
use Rattle.nfs_exec.proofs.Step.{Repeating.expires, Terms.by_fault}
use Rattle.nfs_promises.proofs.Network.{StepLaws.KeepsTime, NothingLeftToExpire.{IsSettled, settled_new, settled_step, ticks_nothing}}
use Rattle.nfs_promises.specs.Network.{Endpoint.Answer, ThisServer.{ticked, executes_by, seen, server}}
use Rattle.nfs_serve.specs.{Step.{asked_of, ServerState, Stepped, with_arguments, by_procedure, reply_to, step}}

-- A compound that does not execute changes nothing.

faulted : (m : Machine) (n : ℕ) (f : Option Status) (o : MachineOutcome) → o.machine ≡ m → (by_fault m n f o).machine ≡ m
faulted m n None o same = same
faulted m n (Some status) o same = refl

first_idle : (m : Machine) (declared : ℕ) (who : Caller) (now : ℕ) (b : Bool) (i : Item) (more : List Item) → is_alone declared (i ∷ more) ≡ false
    → (first_item m declared who now b i).machine ≡ m
first_idle m declared who now b (Fault n status) more e = refl
first_idle m declared who now b (Operation (Op.ExchangeId a)) more e = rw (not-false (nat_lt 1 declared) e) refl
first_idle m declared who now b (Operation (Op.CreateSession a)) more e = rw (not-false (nat_lt 1 declared) e) refl
first_idle m declared who now b (Operation (Op.DestroySession a)) more e = rw (not-false (nat_lt 1 declared) e) refl
first_idle m declared who now b (Operation (Op.DestroyClientId a)) more e = rw (not-false (nat_lt 1 declared) e) refl
first_idle m declared who now b (Operation op) more e =
    faulted m (item_number (Operation op)) (place_fault declared (Operation op)) (carried_out m who now b (Operation op)) refl

verdict_idle : (m : Machine) (r : Request) (who : Caller) (now : ℕ) (choice : Option ℕ) (s : Sequence) (more : List Item) (v : Sequenced)
    → (is_some (if_runs s v) || false) ≡ false → (in_session m r who now choice s more v).machine ≡ m
verdict_idle m r who now choice s more (sequence.Refuses status) e = refl
verdict_idle m r who now choice s more (sequence.Repeats reply) e = refl
verdict_idle m r who now choice s more (sequence.Runs c) e = absurd cc

items_idle : (m : Machine) (r : Request) (who : Caller) (size now : ℕ) (choice : Option ℕ) (items : List Item)
    → (is_some (first_runs m r who size items) || is_alone r.declared items) ≡ false → (by_first m r who size now choice items).machine ≡ m
items_idle m r who size now choice [] e = refl
items_idle m r who size now choice (Operation (Op.Sequence s) ∷ more) e = verdict_idle m r who now choice s more (sequenced m r who size s) e
items_idle m r who size now choice (item ∷ more) e = first_idle m r.declared who now (is_here choice) item more e

pub compound_idle : (m : Machine) (r : Request) (who : Caller) (size now : ℕ) (choice : Option ℕ) → executes m r who size ≡ false
    → (compound m r who size now choice).machine ≡ m
compound_idle m r who size now choice e = elim (cases_Bool (r.minor == 1)) [
  | inl one ↦ rw one (items_idle m r who size now choice r.left (rw one at e))
  | inr other ↦ rw other refl
]

-- A step.

reply_moment : (s : ServerState) (size : ℕ) (choice : Option ℕ) (called : Called) → (reply_to s size choice called).state.moment ≡ s.moment
reply_moment s size choice (Refused Silent) = refl
reply_moment s size choice (Refused refusal) = refl
reply_moment s size choice (Accepted call) = by_call call.procedure
  where
    by_request : (o : Option Request) → (with_arguments s call size choice o).state.moment ≡ s.moment
    by_request None = refl
    by_request (Some r) = refl

    by_call : (p : Procedure) → (by_procedure s call size choice p).state.moment ≡ s.moment
    by_call Procedures.Null = refl
    by_call Procedures.Compound = by_request (request_at call.args)

reply_idle : (s : ServerState) (size : ℕ) (choice : Option ℕ) (called : Called) → executes_by s size called ≡ false → (reply_to s size choice called).state ≡ s
reply_idle s size choice (Refused Silent) e = refl
reply_idle s size choice (Refused refusal) e = refl
reply_idle s size choice (Accepted call) e = by_call call.procedure e
  where
    by_request : (o : Option Request) → option_map_or (λ r. executes s.machine r call.who size) o false ≡ false → (with_arguments s call size choice o).state ≡ s
    by_request None e = refl
    by_request (Some r) e =
        ap (λ (m : Machine). let y : ServerState = record { machine = m; moment = s.moment } in y) (compound_idle s.machine r call.who size s.moment choice e)

    by_call : (p : Procedure) → option_map_or (λ r. executes s.machine r call.who size) (asked_of call p) false ≡ false → (by_procedure s call size choice p).state ≡ s
    by_call Procedures.Null e = refl
    by_call Procedures.Compound e = by_request (request_at call.args) e

pub step_is : (s : ServerState) (bytes : List ℕ) (now : ℕ) (choice : Option ℕ) → step s bytes now choice ≡ reply_to (ticked s now) (length bytes) choice (call_of bytes)
unfolding step
step_is s bytes now choice = refl

twice : (s : ServerState) (early late : ℕ) → ticked (ticked s early) late ≡ ticked s (max early late)
twice s early late =
    let first : ℕ = max s.moment early in
    let last : ℕ = max first late in
    let once : expired last (expired first s.machine) ≡ expired last s.machine = expires s.machine first last (omega arith) in
    let same : last ≡ max s.moment (max early late) = omega arith in
    ap (λ (m : Machine). let y : ServerState = record { machine = m; moment = last } in y) once
    ∙ ap (λ (n : ℕ). let y : ServerState = record { machine = expired n s.machine; moment = n } in y) same

later : (s : ServerState) (now : ℕ) → ticked s now ≡ ticked s (max s.moment now)
later s now =
    let same : max s.moment now ≡ max s.moment (max s.moment now) = omega arith in
    ap (λ (n : ℕ). let y : ServerState = record { machine = expired n s.machine; moment = n } in y) same

stepped_from : (s t : ServerState) (bytes : List ℕ) (now then' : ℕ) (choice : Option ℕ) → ticked s now ≡ ticked t then' → step s bytes now choice ≡ step t bytes then' choice
stepped_from s t bytes now then' choice same =
    step_is s bytes now choice
    ∙ (ap (λ (u : ServerState). reply_to u (length bytes) choice (call_of bytes)) same ∙ sym (step_is t bytes then' choice))

pub keeps_time : (find : List ℕ → Option Answer) (start : Start) → KeepsTime (server find start)
keeps_time find start = record {
  twice = twice;
  step_moment = λ s bytes now choice.
      ap (λ (r : Stepped). r.state.moment) (step_is s bytes now choice) ∙ reply_moment (ticked s now) (length bytes) choice (call_of bytes);
  takes_later = λ s bytes now choice. ap (seen find) (stepped_from s s bytes now (max s.moment now) choice (later s now));
  ticks_first = λ s bytes early late choice. ap (seen find) (stepped_from (ticked s early) s bytes late (max early late) choice (twice s early late));
  executes_later = λ s bytes now. ap (λ (t : ServerState). executes_by t (length bytes) (call_of bytes)) (later s now);
  executes_ticked = λ s bytes early late. ap (λ (t : ServerState). executes_by t (length bytes) (call_of bytes)) (twice s early late);
  only_ticks = λ s bytes now choice e.
      ap (λ (r : Stepped). r.state) (step_is s bytes now choice) ∙ reply_idle (ticked s now) (length bytes) choice (call_of bytes) e;
  Sound = IsSettled;
  new_sound = settled_new start;
  step_sound = settled_step;
  settled = ticks_nothing;
}
