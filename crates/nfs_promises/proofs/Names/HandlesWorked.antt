-- A filehandle that leads back, computed.
use Rattle.std.proofs.Common.{◌≡◌, ℕ, List, [], ◌∷◌, length, take, Option, Some, refl, arith}
use Rattle.nfs_names.specs.GetFh.{get_fh}
use Rattle.nfs_exec.specs.Runs.Ops.{RanOp}
use Rattle.nfs_promises.specs.{Names.HandlesWorked.{found, led_to, IsLedBack}, Locks.LockKeptWorked.{last_of, locked}, Runs.Points.ops_of}
use Rattle.nfs_promises.proofs.Runs.{Computing.computing, LastOperation.{nothing, three}}
use Rattle.nfs_promises.specs.Names.HandlesWorked as worked

-- The run, computed.

abbrev pub first_of : RanOp → List RanOp → RanOp
first_of x [] = x
first_of x (d ∷ ds) = d

abbrev ops : List RanOp
ops = ops_of found worked.returns

pub two : (x : RanOp) (ds : List RanOp) → length ds ≡ 2 → ds ≡ first_of x ds ∷ last_of x ds ∷ []
two x [] e = absurd (omega arith)
two x (a ∷ []) e = absurd (omega arith)
two x (a ∷ b ∷ []) e = refl
two x (a ∷ b ∷ c ∷ more) e = absurd (omega arith)

other_object : ◌≡◌ {A = Option ℕ} (Some 3) (Some 2) → ⊥
other_object e = let same : ◌≡◌ {A = ℕ} 3 2 = cc in absurd (omega arith)

pub is_led_back : IsLedBack
unfolding computing get_fh
is_led_back = record {
  front = take 2 (ops_of locked worked.finds);
  get = last_of nothing (ops_of locked worked.finds);
  finds = three nothing (ops_of locked worked.finds) refl;
  gives = record { is = refl; at = refl; short = omega arith; answers = refl };
  put = first_of nothing ops;
  next = last_of nothing ops;
  ops = two nothing ops refl;
  is = refl;
  at = refl;
  another = λ is. other_object (is.0.leads refl (led_to 3 (last_of nothing ops)) [] refl);
  forgotten = λ is. is.0.found refl refl refl;
}
