-- What proofs call parts of definitions by.
use Rattle.std.specs.{Prelude.{ℕ, ◌+◌, Bool, List, length, filter, nat_le}, List.flat_map}
use Rattle.nfs_results.specs.{declared.res.AccessOk.AccessOk, declared.res.Entry.Entry, Straight.entry_text}
use Rattle.nfs_attrs.specs.declared.permission.Access as judged
use Rattle.nfs_names.specs.State.{State, with_tree, is_used}

abbrev pub told_access : judged.Access → AccessOk
told_access a = record { supported = a.supported; access = a.granted }

-- of the objects those that are the root, have a row or are open
abbrev pub only_used : State → State
only_used s = with_tree s (record s.tree { objects = filter (λ o. is_used s o.number) s.tree.objects })

-- as many as fit behind the status, with the verifier in front of them and the two flags behind them
abbrev pub fits : ℕ → List Entry → Bool
fits most entries = nat_le (length (flat_map entry_text entries) + 16) most
