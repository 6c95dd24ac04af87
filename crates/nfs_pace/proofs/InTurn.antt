-- Each connection of a client comes next once those behind the last turn have had theirs.
use Rattle.std.proofs.Common.{◌≡◌, ◌⊎◌, ◌≤◌, ◌<◌, ℕ, zero, suc, Bool, true, false, refl, sym, subst, arith, inl, inr, rules, nat_eq, nat_le, nat_lt, ◌&&◌, ◌||◌, if◌then◌else◌}
use Rattle.std.proofs.Math.Nat.{eq-or-lt_of_le}
use Rattle.nfs_pace.specs.{declared.turns.Turn.Turn, Turns.{asked, has_one, last_of}, InTurn.{asked_below, ComesNext, TakeTurns, lowest_first}}

module _ (asks : ℕ → Bool) (client sweep : ℕ) (turn : Turn) (fresh : nat_eq turn.sweep sweep ≡ false) where
  abbrev here : ℕ → Turn
  here first = record { client = client; sweep = sweep; micros = 0; first = first; last = last_of client turn }

  record Next (count first : ℕ) : Type 0 where
    within : first < count
    asks_first : asks first ≡ true
    behind : (port : ℕ) → port < count → asks port ≡ true → last_of client turn < port → (last_of client turn < first) × (first ≤ port)
    least : (port : ℕ) → port < count → asks port ≡ true → (last_of client turn < first) ⊎ (first ≤ port)

  abbrev SoFar : ℕ → Type 0
  SoFar count = ((asked_below asked asks count client sweep turn ≡ turn) × ((port : ℕ) → port < count → asks port ≡ false))
      ⊎ ((first : ℕ) × (asked_below asked asks count client sweep turn ≡ here first) × Next count first)

  asked_fresh : (port : ℕ) → asked client sweep port turn ≡ here port
  asked_fresh port = search (rules, fresh)

  asked_here : (port first : ℕ) → asked client sweep port (here first) ≡ here (if nat_le first (last_of client turn) && nat_lt (last_of client turn) port then port else first)
  asked_here port first = search rules

  abbrev Asked : ℕ → (ℕ → Type 0) → Type 0
  Asked count P = (port : ℕ) → port < count → asks port ≡ true → P port

  -- what is so of all that ask so far, and of one more
  with_next : (count : ℕ) (P : ℕ → Type 0) → Asked count P → (asks count ≡ true → P count) → Asked (suc count) P
  with_next count P all one port less is = by (eq-or-lt_of_le (omega (arith, less)))
    where
      by : (port ≡ count) ⊎ (port < count) → P port
      by (inr below) = all port below is
      by (inl at) = subst P (sym at) (one (subst (λ p. asks p ≡ true) at is))

  abbrev Behind : ℕ → ℕ → Type 0
  Behind first port = last_of client turn < port → (last_of client turn < first) × (first ≤ port)

  abbrev Least : ℕ → ℕ → Type 0
  Least first port = (last_of client turn < first) ⊎ (first ≤ port)

  no : {A : Type 0} (port : ℕ) → asks port ≡ true → asks port ≡ false → A
  no port wants never = absurd (search (rules, wants, never))

  step : (count : ℕ) → SoFar count → SoFar (suc count)
  step count so = by (asks count) refl so
    where
      -- one that does not ask
      passed : asks count ≡ false → SoFar count → SoFar (suc count)
      passed is (inl (same, none)) = inl (rw is same, λ port less. by_port port (eq-or-lt_of_le (omega (arith, less))))
        where
          by_port : (port : ℕ) → (port ≡ count) ⊎ (port < count) → asks port ≡ false
          by_port port (inr below) = none port below
          by_port port (inl at) = subst (λ p. asks p ≡ false) (sym at) is
      passed is (inr (first, same, next)) = inr (
        first,
        rw is same,
        record {
          within = omega (arith, next.within);
          asks_first = next.asks_first;
          behind = with_next count (Behind first) next.behind (λ wants. no count wants is);
          least = with_next count (Least first) next.least (λ wants. no count wants is);
        },
      )

      -- one that asks
      chosen : (first : ℕ) (b : Bool) → asks count ≡ true → (nat_le first (last_of client turn) && nat_lt (last_of client turn) count) ≡ b → Next count first
          → Next (suc count) (if b then count else first)
      chosen first true is chooses next = record {
        within = omega arith;
        asks_first = is;
        behind = with_next count (Behind count) (λ port less wants on. absurd (search (rules, chooses, next.behind port less wants on))) (λ wants on. (on, omega arith));
        least = with_next count (Least count) (λ port less wants. inl (search (rules, chooses))) (λ wants. inr (omega arith));
      }
      chosen first false is chooses next = record {
        within = omega (arith, next.within);
        asks_first = next.asks_first;
        behind = with_next count (Behind first) next.behind (λ wants on. search (rules, chooses, on, next.within));
        least = with_next count (Least first) next.least (λ wants. inr (omega (arith, next.within)));
      }

      by : (b : Bool) → asks count ≡ b → SoFar count → SoFar (suc count)
      by false is so = passed is so
      by true is (inl (same, none)) = inr (
        count,
        rw is (rw same (asked_fresh count)),
        record {
          within = omega arith;
          asks_first = is;
          behind = with_next count (Behind count) (λ port less wants. no port wants (none port less)) (λ wants on. (on, omega arith));
          least = with_next count (Least count) (λ port less wants. no port wants (none port less)) (λ wants. inr (omega arith));
        },
      )
      by true is (inr (first, same, next)) = inr (_, rw is (rw same (asked_here count first)), chosen first _ is refl next)

  so_far : (count : ℕ) → SoFar count
  so_far zero = inl (refl, λ port less. absurd (omega (arith, less)))
  so_far (suc count) = step count (so_far count)

  has_first : (first : ℕ) → has_one client sweep first (here first) ≡ true
  has_first first = search rules

  comes_next : (count port : ℕ) → port < count → asks port ≡ true → SoFar count
      → ComesNext asks count client sweep (last_of client turn) (asked_below asked asks count client sweep turn)
  comes_next count port less wants (inl (same, none)) = no port wants (none port less)
  comes_next count port less wants (inr (first, same, next)) = subst (ComesNext asks count client sweep (last_of client turn)) (sym same) (record {
    within = next.within;
    asks_first = next.asks_first;
    has = has_first first;
    behind = next.behind;
    least = next.least;
  })

pub take_turns : TakeTurns asked
take_turns asks count client sweep turn fresh port less wants = comes_next asks client sweep turn fresh count port less wants (so_far asks client sweep turn fresh count)

-- of ports 1 and 5, behind a turn of port 3
pub starves : TakeTurns lowest_first → ⊥
starves takes =
    let next = takes (λ port. nat_eq port 1 || nat_eq port 5) 6 1 1 (record { client = 1; sweep = 0; micros = 0; first = 0; last = 3 }) refl 1 (omega arith) refl in
    omega (arith, (next.behind 5 (omega arith) refl (omega arith)).0)
