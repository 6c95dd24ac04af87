-- What changes of leases come to when one is taken back.
use Rattle.std.proofs.{Common.{◌≡◌, ℕ, None, refl, sym, ◌∙◌, ap, inl, inr}, Math.Path.fun_ext, lemmas.Bool.{cases_eq, ne_eqb, eq-eqb}}
use Rattle.std.specs.Prelude.{is_some}
use Rattle.nfs_clients.specs.Roster.{client_at}
use Rattle.nfs_lease.specs.Renewals.{Book, with_lease, without_lease}
use Rattle.nfs_exec.specs.Step.Machine.{Machine, IsMachine}
use Rattle.nfs_tree.proofs.PairLemmas.{is_none}

-- who has no record has no lease
pub unleased : (m : Machine) (client : ℕ) → IsMachine m → client_at m.clients client ≡ None → m.leases client ≡ None
unleased m client is none = is_none (m.leases client) (is.leased client ∙ ap is_some none)

-- a lease that is taken back at once
pub taken_back : (b : Book) (client now : ℕ) → b client ≡ None → without_lease (with_lease b client now) client ≡ b
taken_back b client now none = fun_ext (λ c. elim (cases_eq c client) [
  | inl here ↦ rw (eq-eqb c client here) (sym none ∙ ap b (sym here))
  | inr other ↦ rw (ne_eqb c client other) refl
])
