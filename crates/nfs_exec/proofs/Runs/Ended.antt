-- Expiry ends all that a client has whose lease has run out, and nothing else.
use Rattle.std.proofs.Common.{◌≡◌, inl, inr, ℕ, Bool, true, false, cond, not, List, [], ◌∷◌, Some, None, refl, sym, ◌∙◌, ap}
use Rattle.std.proofs.lemmas.Bool.{cases_Bool, eqb-true, false≢true}
use Rattle.std.specs.Prelude.{◌==◌, filter}
use Rattle.nfs_xdr.proofs.Lists.{find_past, find_out, filter_past, in_filter, in_any}
use Rattle.nfs_clients.specs.Roster.{ClientRecord}
use Rattle.nfs_lease.specs.Renewals.{has_run_out}
use Rattle.nfs_ranges.specs.declared.Kind.{Kind}
use Rattle.nfs_opens.specs.{declared.records.OpenState.OpenState, declared.records.LockState.LockState}
use Rattle.nfs_sessions.specs.Sessions.{Session}
use Rattle.nfs_files.proofs.OthersTables.{clients_gone}
use Rattle.nfs_exec.specs.{Step.Machine.Machine, Step.Expiry.expired, Runs.Own.IsAsBefore, Runs.Ended.{HasNothing, StaysBy, WhatRunsOutEnds}}
use Rattle.nfs_opens.proofs.Terms.{stands}

none_left : {X : Type 0} (p q : X → Bool) (xs : List X) → ((x : X) → p x ≡ true → q x ≡ false) → filter p (filter q xs) ≡ []
none_left p q [] out = refl
none_left p q (x ∷ xs) out = elim (cases_Bool (q x)) [
  | inl stays ↦ elim (cases_Bool (p x)) [
    | inl its ↦ absurd (false≢true (sym (out x its) ∙ stays))
    | inr other ↦ rw (stays, other) (none_left p q xs out)
  ]
  | inr goes ↦ rw goes (none_left p q xs out)
]

module _ (m : Machine) (now client : ℕ) where
  -- by whose a thing is
  its : (out : Bool) → has_run_out m.store.lease m.leases now client ≡ out → (n : ℕ) → (n == client) ≡ true
      → not (has_run_out m.store.lease m.leases now n) ≡ not out
  its out e n same = ap (λ (n : ℕ). not (has_run_out m.store.lease m.leases now n)) (eqb-true n client same) ∙ ap not e

  ended : has_run_out m.store.lease m.leases now client ≡ true → HasNothing client (expired now m)
  ended out = record {
    known = find_out (λ (c : ClientRecord). c.id == client) (λ c. not (has_run_out m.store.lease m.leases now c.id))
        m.clients.records (λ c same. its true out c.id same);
    sessions = none_left (λ (s : Session). s.client == client) (λ s. not (has_run_out m.store.lease m.leases now s.client))
        m.sessions.sessions (λ s same. its true out s.client same);
    lease = rw out refl;
    opens = none_left (λ (o : OpenState). o.client == client) (λ o. not (has_run_out m.store.lease m.leases now o.client))
        m.store.opens.opens (λ o same. its true out o.client same);
    locks = none_left (λ (l : LockState). l.client == client) (λ l. not (has_run_out m.store.lease m.leases now l.client))
        m.store.opens.locks (λ l same. its true out l.client same);
  }

  spared : has_run_out m.store.lease m.leases now client ≡ false → IsAsBefore client m (expired now m)
  spared lasts = record {
    known = find_past (λ (c : ClientRecord). c.id == client) (λ c. not (has_run_out m.store.lease m.leases now c.id))
        m.clients.records (λ c same. its false lasts c.id same);
    sessions = filter_past (λ (s : Session). s.client == client) (λ s. not (has_run_out m.store.lease m.leases now s.client))
        m.sessions.sessions (λ s there same. its false lasts s.client same);
    lease = rw lasts refl;
    own = clients_gone client m.store.opens (λ n. not (has_run_out m.store.lease m.leases now n)) (ap not lasts);
  }

held : (m : Machine) (now file n byte : ℕ) (kind : Kind) → (expired now m).store.opens.held file n byte ≡ Some kind → StaysBy m now n
held m now file n byte kind e = by (stands left n) refl e
  where
    left : List LockState
    left = filter (λ l. not (has_run_out m.store.lease m.leases now l.client)) m.store.opens.locks

    lasts : (b : Bool) → not b ≡ true → b ≡ false
    lasts true e = absurd (false≢true e)
    lasts false e = refl

    by : (b : Bool) → stands left n ≡ b → cond b (m.store.opens.held file n byte) None ≡ Some kind → StaysBy m now n
    by true there e =
        let (l, inside, named) = in_any (λ (l : LockState). l.number == n) left there in
        let was = in_filter (λ (l : LockState). not (has_run_out m.store.lease m.leases now l.client)) m.store.opens.locks l inside in
        record { lock = l; there = was.0; number = eqb-true l.number n named; lasts = lasts (has_run_out m.store.lease m.leases now l.client) was.1 }
    by false none e = absurd cc

pub what_runs_out_ends : WhatRunsOutEnds
what_runs_out_ends m now = record { ended = λ client. ended m now client; spared = λ client. spared m now client; held = λ file n byte kind e. held m now file n byte kind e }
