-- The run of a name that is looked up twice, and the wrong answers, computed.
use Rattle.std.proofs.Common.{◌≡◌, inl, List, [], ◌∷◌, ◌++◌, length, take, drop, refl, sym, subst, arith}
use Rattle.nfs_xdr.specs.Tables.{In}
use Rattle.nfs_exec.specs.Runs.Ops.{RanOp}
use Rattle.nfs_exec.proofs.Runs.OneWalk.{in_back}
use Rattle.nfs_promises.specs.{Runs.Points.ops_of, Bytes.{WrittenStaysWorked.{closed, reads}, ChangeTellsWorked.{reads_again, read_once}}}
use Rattle.nfs_promises.specs.Bytes.ChangeNamesWorked.{name, lookup_in, IsFoundAgain, FindingsAreRefused}
use Rattle.nfs_promises.proofs.Runs.{LastOperation.nothing, Computing.computing}

second : (x : RanOp) (ds : List RanOp) → length ds ≡ 3 → ds ≡ take 1 ds ++ lookup_in x ds ∷ drop 2 ds
second x [] e = absurd (omega arith)
second x (a ∷ []) e = absurd (omega arith)
second x (a ∷ b ∷ []) e = absurd (omega arith)
second x (a ∷ b ∷ c ∷ []) e = refl
second x (a ∷ b ∷ c ∷ d ∷ more) e = absurd (omega arith)

second_there : (x : RanOp) (ds : List RanOp) → length ds ≡ 3 → In (lookup_in x ds) ds
second_there x ds e = subst (In (lookup_in x ds)) (sym (second x ds e)) (in_back (lookup_in x ds) (take 1 ds) (lookup_in x ds ∷ drop 2 ds) (inl refl))

abbrev first : RanOp
first = lookup_in nothing (ops_of closed reads)

abbrev again : RanOp
again = lookup_in nothing (ops_of read_once reads_again)

pub is_found_again : IsFoundAgain
unfolding computing
is_found_again = record {
  front = take 1 (ops_of closed reads);
  first = first;
  back = drop 2 (ops_of closed reads);
  ops = second nothing (ops_of closed reads) refl;
  again = again;
  late = inl (second_there nothing (ops_of read_once reads_again) refl);
  there = refl;
  still = refl;
  same = refl;
  finds = record { is = refl; at = refl; answers = refl };
  also = record { is = refl; at = refl; answers = refl };
  leads = refl;
}

pub findings_are_refused : FindingsAreRefused
unfolding computing
findings_are_refused = record {
  lost = λ d is. is.found name (record { is = refl; at = refl; answers = refl }) (record { is = refl; at = refl; answers = refl });
  sudden = λ d is. is.missed name (record { is = refl; at = refl; answers = refl }) (record { is = refl; at = refl; answers = refl });
}
