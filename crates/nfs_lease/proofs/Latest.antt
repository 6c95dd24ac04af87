-- No renewal is later than now, and what keeps it so.
use Rattle.std.proofs.{Common.{◌≡◌, ℕ, ◌≤◌, eqb, Option, Some, None, sym, subst, arith, inl, inr}, lemmas.Bool.cases_Bool}
use Rattle.std.specs.Prelude.{option_map}
use Rattle.nfs_lease.specs.{Renewals.{Book, no_leases, with_lease, with_renewal, without_lease}, Queue.IsLatest}

pub latest_none : (now : ℕ) (b : Book) → b ≡ no_leases → IsLatest b now
latest_none now b is = subst (λ b. IsLatest b now) (sym is) (record { each = λ client moment e. absurd cc })

pub latest_later : (b : Book) (now later : ℕ) → now ≤ later → IsLatest b now → IsLatest b later
latest_later b now later le is = record { each = λ client moment e. (let h = is.each client moment e in omega arith) }

pub latest_lease : (b after : Book) (client now : ℕ) → after ≡ with_lease b client now → IsLatest b now → IsLatest after now
latest_lease b after client now put is = subst (λ b. IsLatest b now) (sym put) (record {
  each = λ c moment e. elim (cases_Bool (eqb c client)) [
    | inl here ↦ (let h : Some now ≡ Some moment = rw here at e in let same : now ≡ moment = cc in omega arith)
    | inr other ↦ is.each c moment (rw other at e)
  ];
})

renewed_now : (o : Option ℕ) (now moment : ℕ) → option_map (λ (m : ℕ). now) o ≡ Some moment → moment ≤ now
renewed_now None now moment e = absurd cc
renewed_now (Some m) now moment e = let same : now ≡ moment = cc in omega arith

pub latest_renewal : (b after : Book) (client now : ℕ) → after ≡ with_renewal b client now → IsLatest b now → IsLatest after now
latest_renewal b after client now put is = subst (λ b. IsLatest b now) (sym put) (record {
  each = λ c moment e. elim (cases_Bool (eqb c client)) [
    | inl here ↦ renewed_now (b c) now moment (rw here at e)
    | inr other ↦ is.each c moment (rw other at e)
  ];
})

pub latest_without : (b after : Book) (client now : ℕ) → after ≡ without_lease b client → IsLatest b now → IsLatest after now
latest_without b after client now taken is = subst (λ b. IsLatest b now) (sym taken) (record {
  each = λ c moment e. elim (cases_Bool (eqb c client)) [
    | inl here ↦ absurd (let h : None ≡ Some moment = rw here at e in cc)
    | inr other ↦ is.each c moment (rw other at e)
  ];
})
