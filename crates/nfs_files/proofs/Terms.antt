-- What proofs call parts of definitions by.
use Rattle.std.specs.Prelude.{Option, ℕ, ◌+◌, ◌-◌, ◌==◌, ◌&&◌, Bool, not, List, [], ◌∷◌, nat_lt, is_none, if◌then◌else◌}
use Rattle.std.specs.Option.{option_map_or}
use Rattle.nfs_xdr.specs.{declared.status.Status.Status, declared.status.Status.TheVariants.Inval}
use Rattle.nfs_compound.specs.{declared.file_args.Read.Read, declared.open_args.OpenDowngrade.OpenDowngrade}
use Rattle.nfs_results.specs.Largest.{given}
use Rattle.nfs_results.specs.declared.res.Res.TheVariants as Res
use Rattle.nfs_tree.specs.Bytes.{part}
use Rattle.nfs_ranges.specs.declared.Held.{Held}
use Rattle.nfs_opens.specs.Share.{share_of}
use Rattle.nfs_names.specs.{declared.context.Context.Context, declared.node.Node.Node, State.State, Outcome.{Outcome, done}}
use Rattle.nfs_files.specs.{Denied.lock_denied, Ranges.all_ones}

abbrev pub range_checks : ℕ → ℕ → List (Bool × Status)
range_checks offset size = (size == 0, Inval) ∷ (not (size == all_ones) && nat_lt all_ones (offset + size), Inval) ∷ []

abbrev pub last_of : ℕ → ℕ → ℕ
last_of offset size = if size == all_ones then all_ones else offset + size - 1

-- no open has bits above the two
abbrev pub bit_checks : OpenDowngrade → List (Bool × Status)
bit_checks a = (is_none (share_of a.share_access), Inval) ∷ (is_none (share_of a.share_deny), Inval) ∷ []

-- the file's bytes in the range, of which not too many are given at once
abbrev pub bytes_of : State → Read → Node → List ℕ
bytes_of s r d = part s.tree d.number r.offset (given r.count)

-- what LOCKT comes to, by the lock that is in the way
abbrev pub tested : State → Context → Option Held → Outcome
tested s x o = done s x (option_map_or (λ h. Res.LockTDenied (lock_denied s.opens h)) o Res.LockT)
