-- How late a client's lease was renewed last.
use Rattle.std.proofs.Common.{◌≡◌, ℕ, ◌+◌, ◌≤◌, Bool, true, false, cond, eqb, Option, Some, None, refl, sym, subst, arith, inl, inr}
use Rattle.std.proofs.lemmas.Bool.{cases_Bool, eqb-true, eq-eqb, le-ltb, false≢true}
use Rattle.std.specs.{Prelude.{◌-◌, option_map}, Option.option_map_or}
use Rattle.nfs_xdr.specs.Caller.{Caller}
use Rattle.nfs_compound.specs.{Request.Request, declared.session_args.Sequence.Sequence}
use Rattle.nfs_sessions.specs.Id.{id_of}
use Rattle.nfs_lease.specs.Renewals.{Book, is_out, has_run_out}
use Rattle.nfs_names.specs.Context.{begins}
use Rattle.nfs_exec.specs.{Step.{Machine.Machine, Run.behind_here, Compound.{renewed, begun, compound}, Laws.Asks}, Runs.LockHeld.{is_of, renews}}
use Rattle.nfs_exec.proofs.{Step.{Behind.run_leases, LeaseMoments.{IsHeld, compound_held}, Terms.leases_kept}, Runs.ByEvent.by_compound}

-- a lease of the client that stands was renewed no earlier
abbrev pub AtLeast : ℕ → ℕ → Book → Type 0
AtLeast last client b = (r : ℕ) → b client ≡ Some r → last ≤ r

-- it has not run out at a moment at most one lease later
pub in_time : (lease : ℕ) (b : Book) (last now client : ℕ) → AtLeast last client b → now ≤ last + lease → has_run_out lease b now client ≡ false
in_time lease b last now client least within = go (b client) refl
  where
    go : (o : Option ℕ) → b client ≡ o → is_out lease now o ≡ false
    go None e = refl
    go (Some r) e = (let h : last ≤ r = least r e in le-ltb lease (now - r) (omega arith))

pub least_expired : (lease : ℕ) (b : Book) (last now client : ℕ) → AtLeast last client b → AtLeast last client (leases_kept lease b now)
least_expired lease b last now client least r e = elim (cases_Bool (has_run_out lease b now client)) [
  | inl out ↦ absurd (let bad : None ≡ Some r = rw out at e in cc)
  | inr stays ↦ least r (rw stays at e)
]

mapped_now : (now r : ℕ) (o : Option ℕ) → option_map (λ (moment : ℕ). now) o ≡ Some r → now ≡ r
mapped_now now r None e = (let bad : None ≡ Some r = e in absurd cc)
mapped_now now r (Some moment) e = (let same : Some now ≡ Some r = e in cc)

least_held : (last now client : ℕ) → last ≤ now → IsHeld (AtLeast last client) now
least_held last now client low = record {
  lease = λ b c least r e. elim (cases_Bool (eqb client c)) [
    | inl here ↦ (let same : Some now ≡ Some r = rw here at e in let is : now ≡ r = cc in omega arith)
    | inr other ↦ least r (rw other at e)
  ];
  renewal = λ b c least r e. elim (cases_Bool (eqb client c)) [
    | inl here ↦ (let is : now ≡ r = mapped_now now r (b client) (rw here at e) in omega arith)
    | inr other ↦ least r (rw other at e)
  ];
  end = λ b c least r e. elim (cases_Bool (eqb client c)) [
    | inl here ↦ absurd (let bad : None ≡ Some r = rw here at e in cc)
    | inr other ↦ least r (rw other at e)
  ];
}

-- behind a request that runs in a session of the client
renewed_least : (m : Machine) (now client : ℕ) (s : Sequence) → is_of client s ≡ true → AtLeast now client (renewed m now s).leases
renewed_least m now client s of r e =
    let here : eqb client (id_of s.sessionid).client ≡ true = eq-eqb client (id_of s.sessionid).client (sym (eqb-true _ _ of)) in
    let is : now ≡ r = mapped_now now r (m.leases client) (rw here at e) in omega arith

compound_least : (m : Machine) (r : Request) (who : Caller) (size now client : ℕ) (choice : Option ℕ)
    → renews client m (Asks r who size now choice) ≡ true → AtLeast now client (compound m r who size now choice).machine.leases
compound_least m r who size now client choice = by_compound (λ left ds run. option_map_or (is_of client) run false ≡ true → AtLeast now client left.leases) m r who size now choice
    (λ of. absurd (false≢true of)) (λ item of. absurd (false≢true of)) (λ s more c same of.
    subst (AtLeast now client) (sym (run_leases c.maxresponsesize (begun r s c) now (behind_here choice) (renewed m now s) (begins (id_of s.sessionid).client who) more))
    (renewed_least m now client s of))

-- behind a compound: this moment, where it renews the client's lease, else as before
pub least_behind : (m : Machine) (r : Request) (who : Caller) (size now client last : ℕ) (choice : Option ℕ) → last ≤ now → AtLeast last client m.leases
    → AtLeast (cond (renews client m (Asks r who size now choice)) now last) client (compound m r who size now choice).machine.leases
least_behind m r who size now client last choice low least = go (renews client m (Asks r who size now choice)) refl
  where
    go : (b : Bool) → renews client m (Asks r who size now choice) ≡ b → AtLeast (cond b now last) client (compound m r who size now choice).machine.leases
    go true of = compound_least m r who size now client choice of
    go false other = compound_held (AtLeast last client) now (least_held last now client low) m r who size choice least
