-- A lease that is listed, computed.
use Rattle.std.proofs.Common.{◌≡◌, ℕ, List, [], ◌∷◌, ◌++◌, length, take, get_or, refl, ap, arith}
use Rattle.nfs_xdr.specs.Spelling.{number}
use Rattle.nfs_compound.specs.{declared.name_args.ReadDir.ReadDir, ArgCodecs.read_dir_args}
use Rattle.nfs_attrs.specs.Attributes.{values}
use Rattle.nfs_names.specs.ReadDir.{entry_of, fitting, read_dir}
use Rattle.nfs_promises.specs.{Locks.LockKeptWorked.{last_of, locked}, Calls.LeaseToldWorked.{lists, IsListed}, Runs.Points.ops_of}
use Rattle.nfs_promises.proofs.Runs.{LastOperation.{two, nothing}, Computing.computing}
use Rattle.nfs_results.specs.Items as results
use Rattle.nfs_results.specs.Listing as listing

-- The listing, computed.

abbrev asked : ReadDir
asked = record { cookie = 0; cookieverf = 0 ∷ 0 ∷ 0 ∷ 0 ∷ 0 ∷ 0 ∷ 0 ∷ 0 ∷ []; dircount = 512; maxcount = 512; attr_request = 0x400 ∷ [] }

-- nothing stands in front of it, so the seconds are its first four bytes
no_front : (front behind : List ℕ) → length front ≡ 0 → number 91 ≡ front ++ (number 90 ++ behind) → ⊥
unfolding number
no_front [] behind long e = let byte : ◌≡◌ {A = ℕ} 91 90 = ap (λ (text : List ℕ). get_or text 3 0) e in absurd (omega arith)
no_front (x ∷ front) behind long e = absurd (omega arith)

pub is_listed : IsListed
unfolding computing read_dir_args values entry_of fitting read_dir results.entry results.fattr listing.read_dir
is_listed = record {
  asked = asked;
  front = take 1 (ops_of locked lists);
  read = last_of nothing (ops_of locked lists);
  ops = two nothing (ops_of locked lists) refl;
  is = refl;
  ten = refl;
  ok = refl;
  answers = refl;
  right = record { front = []; behind = []; long = refl; mask = refl; values = refl };
  wrong = λ is. no_front is.front is.behind is.long is.values;
}
