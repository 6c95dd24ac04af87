-- None of the ports so far is such a port, and one more is none.
use Rattle.std.proofs.Common.{◌≡◌, ◌⊎◌, ◌<◌, ◌+◌, ℕ, Bool, false, sym, subst, arith, inl, inr}
use Rattle.std.proofs.Math.Nat.{eq-or-lt_of_le}
use Rattle.nfs_sockets.specs.Looking.{NoneBefore}

pub none_more : (is : ℕ → Bool) (from to : ℕ) → NoneBefore is from to → is to ≡ false → NoneBefore is from (to + 1)
none_more is from to none last port on less = by (eq-or-lt_of_le (omega (arith, less)))
  where
    by : (port ≡ to) ⊎ (port < to) → is port ≡ false
    by (inl at) = subst (λ p. is p ≡ false) (sym at) last
    by (inr below) = none port on below
