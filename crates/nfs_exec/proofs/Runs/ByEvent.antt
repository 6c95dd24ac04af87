-- What an event came to: nothing, an operation that stands alone, or the operations behind a SEQUENCE.
use Rattle.std.proofs.{Common.{◌≡◌, ℕ, Bool, true, false, cond, eqb, List, [], ◌∷◌, Option, Some, None, refl, sym, subst, inl, inr}, lemmas.Bool.cases_Bool}
use Rattle.std.specs.Prelude.{◌&&◌, is_some}
use Rattle.nfs_xdr.specs.{Caller.Caller, declared.status.Status.Status, declared.status.Status.TheVariants.{Delay, MinorVersMismatch}}
use Rattle.nfs_compound.specs.{declared.channel_attrs.ChannelAttrs.ChannelAttrs, declared.op.Item.Item, declared.op.Item.TheVariants.Operation, Request.{Request, item_number}}
use Rattle.nfs_compound.specs.{declared.session_args.CreateSession.CreateSession, declared.session_args.ExchangeId.ExchangeId}
use Rattle.nfs_compound.specs.declared.session_args.Sequence.{Sequence}
use Rattle.nfs_compound.specs.declared.op.Op.TheVariants as Op
use Rattle.nfs_clients.specs.CreateSession as clients
use Rattle.nfs_clients.specs.CreateSession.{create_verdict}
use Rattle.nfs_clients.specs.declared.created.CreateResult.TheVariants as results
use Rattle.nfs_results.specs.declared.res.Res.TheVariants as Res
use Rattle.nfs_sessions.specs.{Id.id_of, Sessions.{session_at, create, destroyed}}
use Rattle.nfs_names.specs.Outcome.{is_ok}
use Rattle.nfs_exec.specs.Step.{Machine.{Machine, MachineOutcome, with_refusal, with_result}, ExchangeId.exchange_id, Place.place_fault, Parts.wish_of}
use Rattle.nfs_exec.specs.{Step.Destroy.{destroy_session, client_fault}, Step.Run.{is_here, only}, Step.Sequence.{Sequenced, sequenced}}
use Rattle.nfs_exec.specs.Step.Compound.{Answered, answers, bare, carried_out, first_item, in_session, by_first, compound}
use Rattle.nfs_exec.specs.{Step.Laws.{Asks, ran, first_runs, if_runs}, Runs.Ops.{RanOp, ops_in, ops_of, ops_by}}
use Rattle.nfs_exec.specs.Step.Sequence as sequence
use Rattle.nfs_exec.proofs.Step.{InSteps.{exchange_id_is, create_session_is}, Terms.by_fault}
use Rattle.nfs_exec.specs.Step.Parts.{by_number, creates, exchanged_by}
use Rattle.nfs_exec.proofs.Step.Terms.{client_ended}

-- A compound, by what it answered, the operations that it ran, and the SEQUENCE behind which it ran them.
pub by_answered : (P : Answered → List RanOp → Option Sequence → Type 0) (m : Machine) (r : Request) (who : Caller) (size now : ℕ) (choice : Option ℕ)
    → ((text : List ℕ) → P (record { text = text; machine = m }) [] None)
    → ((item : Item) (more : List Item) → eqb r.minor 1 ≡ true → r.left ≡ item ∷ more
    → P (answers r (only (first_item m r.declared who now (is_here choice) item))) [] None)
    → ((s : Sequence) (more : List Item) (c : ChannelAttrs) → r.left ≡ Operation (Op.Sequence s) ∷ more → sequenced m r who size s ≡ sequence.Runs c
    → P (in_session m r who now choice s more (sequence.Runs c)) (ops_in m r who now choice s more (sequence.Runs c)) (Some s))
    → P (compound m r who size now choice) (ops_by m (Asks r who size now choice)) (ran m (Asks r who size now choice))
by_answered P m r who size now choice none alone runs = go (eqb r.minor 1) refl
  where
    by_sequenced : (s : Sequence) (more : List Item) (v : Sequenced) → r.left ≡ Operation (Op.Sequence s) ∷ more → sequenced m r who size s ≡ v
        → P (in_session m r who now choice s more v) (ops_in m r who now choice s more v) (if_runs s v)
    by_sequenced s more (sequence.Refuses status) at is = none _
    by_sequenced s more (sequence.Repeats reply) at is = none _
    by_sequenced s more (sequence.Runs c) at is = runs s more c at is

    by_items : (items : List Item) → eqb r.minor 1 ≡ true → r.left ≡ items
        → P (by_first m r who size now choice items) (ops_of m r who size now choice items) (first_runs m r who size items)
    by_items [] one at = none _
    by_items (Operation (Op.Sequence s) ∷ more) one at = by_sequenced s more (sequenced m r who size s) at refl
    by_items (item ∷ more) one at = alone item more one at

    go : (b : Bool) → eqb r.minor 1 ≡ b → P (cond b (by_first m r who size now choice r.left) (bare r MinorVersMismatch m))
        (cond b (ops_of m r who size now choice r.left) []) (cond b (first_runs m r who size r.left) None)
    go true one = by_items r.left one refl
    go false other = none _

-- the same by the machine behind it
pub by_compound : (P : Machine → List RanOp → Option Sequence → Type 0) (m : Machine) (r : Request) (who : Caller) (size now : ℕ) (choice : Option ℕ) → P m [] None
    → ((item : Item) → P (first_item m r.declared who now (is_here choice) item).machine [] None)
    → ((s : Sequence) (more : List Item) (c : ChannelAttrs) → sequenced m r who size s ≡ sequence.Runs c
    → P (in_session m r who now choice s more (sequence.Runs c)).machine (ops_in m r who now choice s more (sequence.Runs c)) (Some s))
    → P (compound m r who size now choice).machine (ops_by m (Asks r who size now choice)) (ran m (Asks r who size now choice))
by_compound P m r who size now choice none alone runs =
    by_answered (λ a ds run. P a.machine ds run) m r who size now choice (λ text. none) (λ item more one at. alone item) (λ s more c at is. runs s more c is)

-- An operation that stands alone: it leaves the machine as it was, or it is one of four that were carried out.
pub by_alone : (P : MachineOutcome → Type 0) (m : Machine) (declared : ℕ) (who : Caller) (now : ℕ) (refused : Bool) (i : Item)
    → ((status : Status) (result : List ℕ) → P (record { status = status; result = result; machine = m }))
    → ((e : ExchangeId) → i ≡ Operation (Op.ExchangeId e) → P (exchanged_by m who now e))
    → ((c : CreateSession) → i ≡ Operation (Op.CreateSession c) → create_verdict m.clients c.clientid c.sequence who.uid ≡ clients.Runs
    → P (creates m now c (create m.sessions c.clientid (wish_of m c))))
    → ((sessionid : List ℕ) → i ≡ Operation (Op.DestroySession sessionid) → is_some (session_at m.sessions (id_of sessionid)) ≡ true
    → P (with_result (record m { sessions = destroyed m.sessions (id_of sessionid) }) Res.DestroySession))
    → ((client : ℕ) → i ≡ Operation (Op.DestroyClientId client) → client_fault m client ≡ None → P (by_fault m 57 None (client_ended m client)))
    → P (first_item m declared who now refused i)
by_alone P m declared who now refused i same exchanges creates_it ends goes = by_place (place_fault declared i)
  where
    by_delay : (b : Bool) (n : ℕ) (o : MachineOutcome) → P o → P (cond b (with_refusal m n Delay) o)
    by_delay true n o is = same _ _
    by_delay false n o is = is

    by_number_is : (c : CreateSession) (v : clients.Verdict) → i ≡ Operation (Op.CreateSession c) → create_verdict m.clients c.clientid c.sequence who.uid ≡ v
        → P (by_number m now refused c v)
    by_number_is c clients.Stale is e = same _ _
    by_number_is c (clients.Again (results.Done body)) is e = same _ _
    by_number_is c (clients.Again (results.Refused status)) is e = same _ _
    by_number_is c clients.Misordered is e = same _ _
    by_number_is c clients.InUse is e = same _ _
    by_number_is c clients.Runs is e =
        let o = creates m now c (create m.sessions c.clientid (wish_of m c)) in by_delay (refused && is_ok o.status) 43 o (creates_it c is e)

    by_session : (sessionid : List ℕ) → i ≡ Operation (Op.DestroySession sessionid) → P (destroy_session m sessionid)
    by_session sessionid is = elim (cases_Bool (is_some (session_at m.sessions (id_of sessionid)))) [
      | inl stood ↦ rw stood (ends sessionid is stood)
      | inr gone ↦ rw gone (same _ _)
    ]

    by_client : (client : ℕ) (o : Option Status) → i ≡ Operation (Op.DestroyClientId client) → client_fault m client ≡ o
        → P (by_fault m 57 o (client_ended m client))
    by_client client None is e = goes client is e
    by_client client (Some fault) is e = same _ _

    carried : (j : Item) → i ≡ j → P (carried_out m who now refused j)
    carried (Operation (Op.ExchangeId e)) is =
        by_delay (refused && is_ok (exchange_id m who now e).status) 42 (exchange_id m who now e) (subst P (sym (exchange_id_is m who now e)) (exchanges e is))
    carried (Operation (Op.CreateSession c)) is =
        subst P (sym (create_session_is m who now refused c)) (by_number_is c (create_verdict m.clients c.clientid c.sequence who.uid) is refl)
    carried (Operation (Op.DestroySession sessionid)) is = by_session sessionid is
    carried (Operation (Op.DestroyClientId client)) is = by_client client (client_fault m client) is refl
    carried j is = same _ _

    by_place : (f : Option Status) → P (by_fault m (item_number i) f (carried_out m who now refused i))
    by_place None = carried i refl
    by_place (Some status) = same _ _
