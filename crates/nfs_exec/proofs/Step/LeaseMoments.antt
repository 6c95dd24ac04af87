-- What holds of leases and of the store behind a compound.
use Rattle.std.proofs.Common.{◌≡◌, ℕ, ◌+◌, ◌-◌, Bool, false, arith, eqb, ltb, List, [], ◌∷◌, length, Option, Some, None, Result, Ok, Err}
use Rattle.std.proofs.Common.{refl, sym, ◌∙◌, ap, subst, inl, inr}
use Rattle.std.proofs.lemmas.Bool.{cases_Bool, le-ltb}
use Rattle.std.specs.Prelude.{◌==◌, not, option_map}
use Rattle.nfs_xdr.specs.Caller.{Caller}
use Rattle.nfs_compound.specs.{declared.op.Item.Item, Request.Request, declared.session_args.CreateSession.CreateSession}
use Rattle.nfs_results.specs.Largest.{largest}
use Rattle.nfs_clients.specs.{declared.exchange_id.Exchanged.Exchanged, declared.exchange_id.ClientFault.ClientFault, ExchangeId.exchange}
use Rattle.nfs_clients.specs.CreateSession as clients
use Rattle.nfs_sessions.specs.{declared.id.SessionId.SessionId, declared.sessions.SessionFault.SessionFault, Id.id_of, Sessions.{SessionTable, create}}
use Rattle.nfs_lease.specs.{Renewals.{Book, is_out, has_run_out, with_lease, with_renewal, without_lease}, Queue.IsLatest}
use Rattle.nfs_lease.proofs.Latest.{latest_lease, latest_renewal, latest_without}
use Rattle.nfs_exec.specs.Step.{Machine.Machine, Expiry.expired, Laws.ExpiryFindsNothing, Parts.{without_any_lease, wish_of, without_any_opens}}
use Rattle.nfs_exec.specs.{Step.Behind.step, Step.Run.{run, in_room, reserve, is_here, behind_here}, Step.Compound.{first_item, renewed, begun, compound}}
use Rattle.nfs_exec.specs.Step.Parts.{by_created, leases_behind, ask_of}
use Rattle.nfs_names.specs.{declared.context.Context.Context, Context.begins, State.{State, time_at}, StoreInvariants.IsStore}
use Rattle.nfs_names.proofs.Staying.{store_staying}
use Rattle.nfs_files.proofs.{Outcomes.for_each, Steady.{lease_names, lease_files}}
use Rattle.nfs_exec.proofs.{Step.Behind.{by_step, follow_kept, run_leases}, Runs.ByEvent.{by_compound, by_alone}, Runs.KeptByRuns.otherwise_store}
use Rattle.nfs_exec.proofs.Step.AloneKeeps.{holds_whoever}
use Rattle.nfs_exec.proofs.Step.Terms.{leases_kept}

-- What holds of leases whatever lease begins or is renewed now, and whatever lease ends.
pub record IsHeld (P : Book → Type 0) (now : ℕ) : Type 0 where
  pub lease : (b : Book) (client : ℕ) → P b → P (with_lease b client now)
  pub renewal : (b : Book) (client : ℕ) → P b → P (with_renewal b client now)
  pub end : (b : Book) (client : ℕ) → P b → P (without_lease b client)

without_any : (P : Book → Type 0) (now : ℕ) → IsHeld P now → (b : Book) (o : Option ℕ) → P b → P (without_any_lease b o)
without_any P now held b None is = is
without_any P now held b (Some client) is = held.end b client is

behind : (P : Book → Type 0) (now : ℕ) → IsHeld P now → (b : Book) (answer : Result Exchanged ClientFault) → P b → P (leases_behind b now answer)
behind P now held b (Err fault) is = is
behind P now held b (Ok x) is = elim (cases_Bool x.added) [
  | inl added ↦ rw added (without_any P now held (with_lease b x.id now) x.replaced (held.lease b x.id is))
  | inr told ↦ rw told is
]

made : (P : Book → Type 0) (now : ℕ) → IsHeld P now → (m : Machine) (c : CreateSession) (t : SessionTable) (answer : Result SessionId SessionFault)
    → P m.leases → P (by_created m now c t answer).machine.leases
made P now held m c t (Ok id) is =
    held.renewal (without_any_lease m.leases (clients.leaving m.clients c.clientid)) c.clientid
    (without_any P now held m.leases (clients.leaving m.clients c.clientid) is)
made P now held m c t (Err fault) is = is

first : (P : Book → Type 0) (now : ℕ) → IsHeld P now → (m : Machine) (declared : ℕ) (who : Caller) (refused : Bool) (i : Item)
    → P m.leases → P (first_item m declared who now refused i).machine.leases
first P now held m declared who refused i is = by_alone (λ o. P o.machine.leases) m declared who now refused i (λ status result. is)
    (λ e at. behind P now held m.leases (exchange m.clients (ask_of m who e)).answer is)
    (λ c at runs. (let did = create m.sessions c.clientid (wish_of m c) in made P now held m c did.after did.answer is))
    (λ sessionid at stood. is) (λ client at none. held.end m.leases client is)

pub compound_held : (P : Book → Type 0) (now : ℕ) → IsHeld P now → (m : Machine) (r : Request) (who : Caller) (size : ℕ) (choice : Option ℕ)
    → P m.leases → P (compound m r who size now choice).machine.leases
compound_held P now held m r who size choice is = by_compound (λ left ds run. P left.leases) m r who size now choice is
    (λ item. first P now held m r.declared who (is_here choice) item is) (λ s more c same.
    subst P (sym (run_leases c.maxresponsesize (begun r s c) now (behind_here choice) (renewed m now s) (begins (id_of s.sessionid).client who) more))
    (held.renewal m.leases (id_of s.sessionid).client is))

-- No lease is renewed later than now, behind a compound at that moment.

is_latest : (now : ℕ) → IsHeld (λ b. IsLatest b now) now
is_latest now = record {
  lease = λ b client is. latest_lease b (with_lease b client now) client now refl is;
  renewal = λ b client is. latest_renewal b (with_renewal b client now) client now refl is;
  end = λ b client is. latest_without b (without_lease b client) client now refl is;
}

pub latest_left : (b : Book) (o : Option ℕ) (now : ℕ) → IsLatest b now → IsLatest (without_any_lease b o) now
latest_left b o now is = without_any (λ b. IsLatest b now) now (is_latest now) b o is

pub latest_compound : (m : Machine) (r : Request) (who : Caller) (size now : ℕ) (choice : Option ℕ)
    → IsLatest m.leases now → IsLatest (compound m r who size now choice).machine.leases now
latest_compound m r who size now choice is = compound_held (λ b. IsLatest b now) now (is_latest now) m r who size choice is

-- How long a lease lasts does not change.

step_lease : (m : Machine) (x : Context) (now : ℕ) (refused : Bool) (i : Item) → (step m x now refused i).outcome.machine.store.lease ≡ m.store.lease
step_lease m x now refused i = by_step (λ s. s.outcome.machine.store.lease ≡ m.store.lease) m x now refused i (lease_names refused m.store x (time_at m.store now) i)
    (for_each (λ o. o.state.lease ≡ m.store.lease) refused m.store x (time_at m.store now) i (lease_files refused m.store x (time_at m.store now) i))
    (λ none other. ap (λ (s : State). s.lease) (otherwise_store m x i))

run_lease : (limit sofar now : ℕ) (choice : Option ℕ) (m : Machine) (x : Context) (items : List Item)
    → (run limit sofar now choice m x items).machine.store.lease ≡ m.store.lease
run_lease limit sofar now choice m x [] = refl
run_lease limit sofar now choice m x (i ∷ more) =
    let s = in_room limit sofar now (is_here choice) m x i in
    let next = sofar + length s.outcome.result in
    let one : s.outcome.machine.store.lease ≡ m.store.lease = elim (cases_Bool (ltb limit (sofar + largest i + reserve)))
    [ inl big ↦ rw big refl | inr fits ↦ rw fits (step_lease m x now (is_here choice) i) ] in
    follow_kept (λ k. k.store.lease ≡ m.store.lease) s.outcome (run limit next now (behind_here choice) s.outcome.machine s.context more) one
    (run_lease limit next now (behind_here choice) s.outcome.machine s.context more ∙ one)

ended_lease : (lease : ℕ) (s : State) (o : Option ℕ) → s.lease ≡ lease → (without_any_opens s o).lease ≡ lease
ended_lease lease s None is = is
ended_lease lease s (Some client) is = is

pub compound_lease : (m : Machine) (r : Request) (who : Caller) (size now : ℕ) (choice : Option ℕ)
    → (compound m r who size now choice).machine.store.lease ≡ m.store.lease
compound_lease m r who size now choice = by_compound (λ left ds run. left.store.lease ≡ m.store.lease) m r who size now choice refl
    (λ item. holds_whoever (λ s. s.lease ≡ m.store.lease) (ended_lease m.store.lease) m r.declared who now (is_here choice) item refl)
    (λ s more c same. run_lease c.maxresponsesize (begun r s c) now (behind_here choice) (renewed m now s) (begins (id_of s.sessionid).client who) more)

-- Nor has any lease run out at that moment, where none had before.

abbrev pub NoneOut : (lease now : ℕ) → Book → Type 0
NoneOut lease now b = (client : ℕ) → has_run_out lease b now client ≡ false

just_now : (lease now : ℕ) → is_out lease now (Some now) ≡ false
just_now lease now = le-ltb lease (now - now) (omega arith)

renewed_none : (lease now : ℕ) (o : Option ℕ) → is_out lease now (option_map (λ (moment : ℕ). now) o) ≡ false
renewed_none lease now None = refl
renewed_none lease now (Some moment) = just_now lease now

none_out : (lease now : ℕ) → IsHeld (NoneOut lease now) now
none_out lease now = record {
  lease = λ b client is c. elim (cases_Bool (eqb c client)) [ inl here ↦ rw here (just_now lease now) | inr other ↦ rw other (is c) ];
  renewal = λ b client is c. elim (cases_Bool (eqb c client)) [ inl here ↦ rw here (renewed_none lease now (b c)) | inr other ↦ rw other (is c) ];
  end = λ b client is c. elim (cases_Bool (eqb c client)) [ inl here ↦ rw here refl | inr other ↦ rw other (is c) ];
}

pub expired_all : (lease : ℕ) (b : Book) (now : ℕ) → NoneOut lease now (leases_kept lease b now)
expired_all lease b now c = elim (cases_Bool (has_run_out lease b now c)) [ inl out ↦ rw out refl | inr stays ↦ rw stays stays ]

pub finds_nothing : ExpiryFindsNothing
finds_nothing = λ m r who size now choice.
    subst (λ lease. NoneOut lease now (compound (expired now m) r who size now choice).machine.leases)
    (sym (compound_lease (expired now m) r who size now choice))
    (compound_held (NoneOut m.store.lease now) now (none_out m.store.lease now) (expired now m) r who size choice (expired_all m.store.lease m.leases now))

-- The operations that stand alone keep what holds of every store.

of_left : (s : State) (o : Option ℕ) → IsStore s → IsStore (without_any_opens s o)
of_left s None is = is
of_left s (Some client) is = store_staying (λ c. not (c == client)) s is

pub first_stores : (m : Machine) (declared : ℕ) (who : Caller) (now : ℕ) (refused : Bool) (i : Item)
    → IsStore m.store → IsStore (first_item m declared who now refused i).machine.store
first_stores m declared who now refused i is = holds_whoever IsStore of_left m declared who now refused i is
