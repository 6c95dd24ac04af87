-- Ports that are ready lie from one on and below another: what follows for those that do not lie there.
use Rattle.std.proofs.Common.{◌≡◌, ◌≤◌, ◌<◌, ◌⊎◌, ℕ, suc, zero, true, false, List, Option, sym, ap, arith, inl, inr}
use Rattle.std.proofs.{Math.Nat.{eq-or-lt_of_le}, lemmas.Bool.{false_from_ne_true}}
use Rattle.nfs_pace.specs.{declared.turns.Turn.Turn, Places.Guests}
use Rattle.nfs_sockets.specs.{Looking.{ready_at, asked_below}, declared.connections.Connection.{Connection}}

-- from one port on, below another, none of those that do not lie there is ready
pub unready : (l : List (Option Connection)) (from to low high : ℕ) → ((port : ℕ) → from ≤ port → port < to → ready_at l port ≡ true → (low ≤ port) × (port < high))
    → (port : ℕ) → from ≤ port → port < to → (port < low) ⊎ (high ≤ port) → ready_at l port ≡ false
unready l from to low high span port on less out = false_from_ne_true (ready_at l port) (λ ready. beyond (span port on less ready) out)
  where
    beyond : (low ≤ port) × (port < high) → (port < low) ⊎ (high ≤ port) → ⊥
    beyond h (inl below) = absurd (omega (arith, h.0, below))
    beyond h (inr above) = absurd (omega (arith, h.1, above))

-- where none of some ports is ready, no turn is asked for
pub asks_no_more : (from to : ℕ) (l : List (Option Connection)) (guests : Guests) (sweep : ℕ) (turns : List Turn) → from ≤ to
    → ((port : ℕ) → from ≤ port → port < to → ready_at l port ≡ false) → asked_below to l guests sweep turns ≡ asked_below from l guests sweep turns
asks_no_more from zero l guests sweep turns le none =
    let is : from ≡ 0 = omega (arith, le) in
    sym (ap (λ n. asked_below n l guests sweep turns) is)
asks_no_more from (suc n) l guests sweep turns le none =
    by (eq-or-lt_of_le le) (λ on. asks_no_more from n l guests sweep turns on (λ port above below. none port above (omega (arith, below))))
  where
    by : (from ≡ suc n) ⊎ (from < suc n) → (from ≤ n → asked_below n l guests sweep turns ≡ asked_below from l guests sweep turns)
        → asked_below (suc n) l guests sweep turns ≡ asked_below from l guests sweep turns
    by (inl is) later = sym (ap (λ n. asked_below n l guests sweep turns) is)
    by (inr less) later = rw (none n (omega (arith, less)) (omega arith)) (later (omega (arith, less)))
