-- The operations of a run are those that it runs.
use Rattle.std.proofs.Common.{◌≡◌, ℕ, suc, ◌+◌, Bool, true, false, cond, eqb, List, [], ◌∷◌, ◌++◌, length, append-nil, Option, Some, None, refl, ap, ◌∙◌, sym}
use Rattle.std.proofs.lemmas.Bool.{true≢false, false≢true}
use Rattle.nfs_xdr.specs.{Caller.Caller, declared.status.Status.TheVariants.MinorVersMismatch}
use Rattle.nfs_compound.specs.{declared.channel_attrs.ChannelAttrs.ChannelAttrs, declared.op.Item.Item, declared.op.Item.TheVariants.Operation, Request.Request, declared.session_args.Sequence.Sequence}
use Rattle.nfs_compound.specs.declared.op.Op.TheVariants as Op
use Rattle.nfs_results.specs.declared.res.Res.TheVariants as Res
use Rattle.nfs_results.specs.Results.{spell_result, spell_compound_head}
use Rattle.nfs_sessions.specs.Id.{id_of}
use Rattle.nfs_names.specs.{declared.context.Context.Context, Outcome.is_ok, Context.begins}
use Rattle.nfs_exec.specs.{Step.Machine.Machine, Step.Behind.Step, Step.Run.{Ran, run, in_room, follow, is_here, behind_here}}
use Rattle.nfs_exec.specs.{Step.Sequence.{Sequenced, sequenced, sequence_ok}, Step.Compound.{bare, begun, renewed, in_session, by_first}}
use Rattle.nfs_exec.specs.Step.Laws.{if_runs, first_runs}
use Rattle.nfs_exec.specs.Runs.Ops.{RanOp, done, ops, ops_in, ops_of, last_status, results_of, IsRunOf, OpsAreRun, OpsAreRunIn, AnswersAreTheirs}
use Rattle.nfs_exec.specs.Step.Sequence as sequence
use Rattle.nfs_exec.proofs.Step.Terms.{run_in}

followed : (limit sofar : ℕ) (refused : Bool) (m : Machine) (x : Context) (item : Item) (items : List Item) (s : Step) (rest : Ran) (more : List RanOp)
    → IsRunOf s.outcome.machine items rest more → (b : Bool) → is_ok s.outcome.status ≡ b
    → IsRunOf m (item ∷ items) (follow s.outcome rest) (done limit sofar refused m x item s ∷ cond b more [])
followed limit sofar refused m x item items s rest more is true ok = rw ok (record {
  machine = is.machine;
  count = ap suc is.count;
  chained = (refl, is.chained);
  first = (refl, λ same. is.first, λ other. absurd (true≢false (sym ok ∙ other)));
  status = is.status ∙ ap (λ b. cond b (last_status more) s.outcome.status) (sym ok);
  results = ap (λ (text : List ℕ). s.outcome.result ++ text) is.results;
})
followed limit sofar refused m x item items s rest more is false bad = rw bad (record {
  machine = refl;
  count = refl;
  chained = (refl, tt);
  first = (refl, λ other. absurd (false≢true (sym bad ∙ other)), λ same. refl);
  status = ap (λ b. cond b (last_status []) s.outcome.status) (sym bad);
  results = sym (append-nil s.outcome.result);
})

pub are_run : OpsAreRun
are_run limit sofar now choice m x [] = record { machine = refl; count = refl; chained = tt; first = refl; status = refl; results = refl }
are_run limit sofar now choice m x (item ∷ more) =
    let s = in_room limit sofar now (is_here choice) m x item in
    let next = sofar + length s.outcome.result in
    followed limit sofar (is_here choice) m x item more s (run limit next now (behind_here choice) s.outcome.machine s.context more)
    (ops limit next now (behind_here choice) s.outcome.machine s.context more)
    (are_run limit next now (behind_here choice) s.outcome.machine s.context more) (is_ok s.outcome.status) refl

pub are_run_in : OpsAreRunIn
are_run_in m r who now choice s c more =
    are_run c.maxresponsesize (begun r s c) now (behind_here choice) (renewed m now s) (begins (id_of s.sessionid).client who) more

-- The answer is theirs.

abbrev IsTheirs : Request → Sequence → ChannelAttrs → List RanOp → List ℕ → Type 0
IsTheirs r s c ds text =
    text ≡ spell_compound_head (last_status ds) r.tag (suc (length ds)) ++ (spell_result (Res.Sequence (sequence_ok s c)) ++ results_of ds)

session_theirs : (m : Machine) (r : Request) (who : Caller) (now : ℕ) (choice : Option ℕ) (t s : Sequence) (more : List Item) (v : Sequenced)
    → if_runs t v ≡ Some s → (c : ChannelAttrs) × IsTheirs r s c (ops_in m r who now choice t more v) (in_session m r who now choice t more v).text
session_theirs m r who now choice t s more (sequence.Refuses status) e = absurd cc
session_theirs m r who now choice t s more (sequence.Repeats reply) e = absurd cc
session_theirs m r who now choice t s more (sequence.Runs c) e =
    let same : t ≡ s = cc in
    let is = are_run_in m r who now choice t c more in
    let ran = run_in (renewed m now t) r who now (behind_here choice) t c more in
    let ds = ops_in m r who now choice t more (sequence.Runs c) in (
      c,
      ap (λ status. spell_compound_head status r.tag (suc ran.count) ++ (spell_result (Res.Sequence (sequence_ok t c)) ++ ran.results)) is.status
          ∙ (ap (λ n. spell_compound_head (last_status ds) r.tag (suc n) ++ (spell_result (Res.Sequence (sequence_ok t c)) ++ ran.results)) is.count
          ∙ (ap (λ text. spell_compound_head (last_status ds) r.tag (suc (length ds)) ++ (spell_result (Res.Sequence (sequence_ok t c)) ++ text)) is.results
          ∙ ap (λ (u : Sequence). spell_compound_head (last_status ds) r.tag (suc (length ds)) ++ (spell_result (Res.Sequence (sequence_ok u c)) ++ results_of ds)) same)),
    )

first_theirs : (m : Machine) (r : Request) (who : Caller) (size now : ℕ) (choice : Option ℕ) (s : Sequence) (items : List Item)
    → first_runs m r who size items ≡ Some s
    → (c : ChannelAttrs) × IsTheirs r s c (ops_of m r who size now choice items) (by_first m r who size now choice items).text
first_theirs m r who size now choice s [] e = absurd cc
first_theirs m r who size now choice s (Operation (Op.Sequence t) ∷ more) e = session_theirs m r who now choice t s more (sequenced m r who size t) e
first_theirs m r who size now choice s (item ∷ more) e = absurd cc

pub answers_are_theirs : AnswersAreTheirs
answers_are_theirs m r who size now choice s e = go (eqb r.minor 1) e
  where
    go : (b : Bool) → cond b (first_runs m r who size r.left) None ≡ Some s
        → (c : ChannelAttrs) × IsTheirs r s c (cond b (ops_of m r who size now choice r.left) []) (cond b (by_first m r who size now choice r.left) (bare r MinorVersMismatch m)).text
    go true e = first_theirs m r who size now choice s r.left e
    go false e = absurd cc
