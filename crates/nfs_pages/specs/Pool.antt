-- Pages that wait to be dropped.
use Rattle.std.specs.{Prelude.{ℕ, ◌+◌, List, length}, List.sum_by, BTreeMap.btree_map_len}
use Rattle.nfs_pages.specs.declared.pages.Pages.{Pages}

-- in how many steps the pages go of the lot that is being dropped, and of those behind it
abbrev pub steps : Pages → List Pages → ℕ
steps first lots = btree_map_len first.map + (sum_by (λ p. btree_map_len p.map) lots + length lots)
