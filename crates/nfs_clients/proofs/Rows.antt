-- The rows of EXCHANGE_ID, as the code has judged them.
use Rattle.std.proofs.Common.{◌≡◌, Bool, true, false, Result, Ok, refl, sym, ◌∙◌, ap, subst, List, ℕ}
use Rattle.nfs_clients.specs.{declared.exchange_id.ClientFault.TheVariants.ServerFault, declared.exchange_id.Case.{Case as Code}}
use Rattle.nfs_clients.specs.Roster.{Roster}
use Rattle.nfs_clients.specs.{ExchangeId.{Case, Refuses, Stays, Adds, if_room, asks, case_of, does, exchange, answer_added, with_new}, Seen.case_seen}
use Rattle.nfs_clients.specs.{declared.exchange_id.ClientFault.ClientFault, declared.exchange_id.Exchanged.Exchanged}
use Rattle.nfs_clients.specs.declared.exchange_id.Case.TheVariants as code

pub adds_with_room : (room : Bool) (row : Case) → Adds ≡ row → room ≡ true → Adds ≡ if_room room row
adds_with_room room row e there = subst (λ row. Adds ≡ if_room room row) e (subst (λ room. Adds ≡ if_room room Adds) (sym there) refl)

pub refuses_without_room : (room : Bool) (row : Case) → Adds ≡ row → room ≡ false → Refuses ServerFault ≡ if_room room row
refuses_without_room room row e gone =
    subst (λ row. Refuses ServerFault ≡ if_room room row) e (subst (λ room. Refuses ServerFault ≡ if_room room Adds) (sym gone) refl)

pub other_row : (seen : Code) (room : Bool) (row : Case) → case_seen seen ≡ row → (seen ≡ code.Adds → ⊥) → case_seen seen ≡ if_room room row
other_row (code.Refuses fault) room row e other =
    subst (λ row. Refuses fault ≡ if_room room row) e (elim room as (λ room. Refuses fault ≡ if_room room (Refuses fault)) [ true ↦ refl | false ↦ refl ])
other_row (code.Stays c) room row e other =
    subst (λ row. Stays c.now ≡ if_room room row) e (elim room as (λ room. Stays c.now ≡ if_room room (Stays c.now)) [ true ↦ refl | false ↦ refl ])
other_row code.Adds room row e other = absurd (other refl)

-- a record that was added, and what is reported of it
pub added : (t after : Roster) (owner verifier : List ℕ) (flags uid : ℕ) (has_open : Bool) (case : Code) (granted : Exchanged)
    → case ≡ code.Adds → case_seen case ≡ case_of t (asks owner verifier flags uid has_open)
    → after ≡ with_new t owner verifier uid → granted ≡ answer_added t owner
    → (◌≡◌ {A = Result Exchanged ClientFault} (Ok granted) (exchange t (asks owner verifier flags uid has_open)).answer)
    × (after ≡ (exchange t (asks owner verifier flags uid has_open)).after)
added t after owner verifier flags uid has_open case granted adds is done answer =
    let now : Adds ≡ case_of t (asks owner verifier flags uid has_open) = sym (ap case_seen adds) ∙ is in (
      ap Ok answer ∙ ap (λ k. (does t (asks owner verifier flags uid has_open) k).answer) now,
      done ∙ ap (λ k. (does t (asks owner verifier flags uid has_open) k).after) now,
    )
