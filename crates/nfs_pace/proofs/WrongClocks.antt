-- The worked run, and runs in which wrong clocks take a lease.
use Rattle.std.proofs.Common.{◌≤◌, ◌+◌, List, [], ◌∷◌, refl, arith}
use Rattle.nfs_pace.specs.{Paced.{starts, tells}, Laws.{Call, Sweep, Read}}
use Rattle.nfs_pace.specs.Worked.{at, rest, between, until, WorkedRun, WrongClocks}
use Rattle.nfs_pace.specs.Worked as wrong

pub worked_run : WorkedRun
worked_run = record {
  first = refl;
  paced = record { since = omega arith; begun = omega arith; told = omega arith; step = omega arith; passed = omega arith };
  renews = record { lasts = refl; told = refl; answered = omega arith; soon = omega arith; heard = omega arith };
  rests = (omega arith, (omega arith, tt));
  goes_on = (omega arith, (omega arith, (omega arith, (omega arith, tt))));
  ends = (omega arith, (omega arith, (omega arith, tt)));
  last = refl;
}

-- sweeps of 7 seconds behind one of 30
abbrev long_rest : List Call
long_rest = Read (at 30) ∷ Sweep (at 30) ∷ []

abbrev short_sweeps : List Call
short_sweeps = Sweep (at 37) ∷ Sweep (at 44) ∷ Sweep (at 51) ∷ Sweep (at 58) ∷ Sweep (at 65) ∷ Sweep (at 72) ∷ Sweep (at 79) ∷ Sweep (at 86) ∷ Sweep (at 93) ∷ []

pub wrong_clocks : WrongClocks
wrong_clocks = record {
  prompt = λ law. late_by_prompt (law 90 (tells wrong.prompt (starts 90 (at 0))) rest between until
      (record { since = omega arith; begun = omega arith; told = omega arith; step = omega arith; passed = omega arith })
      (record { lasts = refl; told = refl; answered = omega arith; soon = omega arith; heard = omega arith })
      (omega arith, (omega arith, tt)) (omega arith, (omega arith, (omega arith, (omega arith, tt)))) (omega arith, (omega arith, (omega arith, tt))));
  hasty = λ law. late_by_haste (law 90 (tells wrong.hasty (starts 90 (at 0))) long_rest short_sweeps (Read (at 97) ∷ Sweep (at 97) ∷ Read (at 100) ∷ [])
      (record { since = omega arith; begun = omega arith; told = omega arith; step = omega arith; passed = omega arith })
      (record { lasts = refl; told = refl; answered = omega arith; soon = omega arith; heard = omega arith })
      (omega arith, (omega arith, tt))
      (omega arith, (omega arith, (omega arith, (omega arith, (omega arith, (omega arith, (omega arith, (omega arith, (omega arith, tt)))))))))
      (omega arith, (omega arith, (omega arith, tt))));
}
  where
    late_by_prompt : 1121 ≤ 1000 + 90 → ⊥
    late_by_prompt le = omega (arith, le)

    late_by_haste : 1100 ≤ 1000 + 90 → ⊥
    late_by_haste le = omega (arith, le)
