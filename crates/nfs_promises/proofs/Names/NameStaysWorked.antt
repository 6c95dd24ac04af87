-- The run of a name that leads where it was said, and the wrong answers, computed.
use Rattle.std.proofs.Common.{◌≡◌, ◌≢◌, ℕ, true, List, [], ◌∷◌, ◌++◌, length, take, Option, Some, None, refl, arith}
use Rattle.std.proofs.lemmas.Bool.{not-true}
use Rattle.std.specs.{Prelude.not, List.list_all}
use Rattle.nfs_compound.specs.{ArgCodecs.rename_args, declared.name_args.Rename.Rename}
use Rattle.nfs_compound.specs.declared.op_num.OpNum.TheVariants as Num
use Rattle.nfs_results.specs.Items as results
use Rattle.nfs_tree.specs.declared.row.Row.{Row}
use Rattle.nfs_names.specs.{Checks.both, GetFh.get_fh, Remove.remove, Rename.rename, SaveFh.save_fh}
use Rattle.nfs_exec.specs.Runs.Ops.{RanOp}
use Rattle.nfs_promises.specs.{Runs.{Requests.words, Points.ops_of}, Locks.LockKeptWorked.last_of, Bytes.WrittenStaysWorked.made, Names.NameStays.IsDone}
use Rattle.nfs_promises.specs.Names.NameStays.{TakesIt, MovedAway, Finds, Renames, Removes, RenamesIt, AllSpare}
use Rattle.nfs_promises.specs.Names.NameStaysWorked.{finds, finds_again, renames, finds_new, found, found_again, renamed}
use Rattle.nfs_promises.specs.Names.NameStaysWorked.{f, g, second_of, LeadsTo, NamesAreRefused}
use Rattle.nfs_promises.proofs.{Runs.{LastOperation.{nothing, three, each_of}, Computing.computing}, Names.NameRows.{takes_names, spared}}

middle : (x : RanOp) (ds : List RanOp) → length ds ≡ 3 → ds ≡ take 1 ds ++ second_of x ds ∷ last_of x ds ∷ []
middle x [] e = absurd (omega arith)
middle x (a ∷ []) e = absurd (omega arith)
middle x (a ∷ b ∷ []) e = absurd (omega arith)
middle x (a ∷ b ∷ c ∷ []) e = refl
middle x (a ∷ b ∷ c ∷ d ∷ more) e = absurd (omega arith)

all_spared : (directory : ℕ) (name : List ℕ) (ds : List RanOp) → list_all (λ d. not (takes_names d.item)) ds ≡ true → AllSpare (λ d. TakesIt directory name d → ⊥) ds
all_spared directory name = each_of (λ d. TakesIt directory name d → ⊥) (λ d. not (takes_names d.item)) (λ d e. spared directory name d (not-true _ e))

-- The parts of the run, each computed by itself.

abbrev look : RanOp
look = second_of nothing (ops_of made finds)

abbrev get : RanOp
get = last_of nothing (ops_of made finds)

abbrev again : RanOp
again = second_of nothing (ops_of found finds_again)

abbrev later : RanOp
later = last_of nothing (ops_of found finds_again)

abbrev moves : RanOp
moves = last_of nothing (ops_of found_again renames)

abbrev new : RanOp
new = second_of nothing (ops_of renamed finds_new)

abbrev new_get : RanOp
new_get = last_of nothing (ops_of renamed finds_new)

moved : IsDone Num.Rename moves.result
unfolding computing get_fh save_fh both rename rename_args results.rename
moved = (words (1 ∷ 0 ∷ 2 ∷ 0 ∷ 3 ∷ 1 ∷ 0 ∷ 2 ∷ 0 ∷ 3 ∷ []), refl)

abbrev asked : Rename
asked = record { oldname = f.name; newname = g.name }

apart : ◌≢◌ {A = Option ℕ} (Some 2) None
apart e = absurd cc

pub leads_to : LeadsTo
unfolding computing get_fh save_fh both rename rename_args results.rename remove
leads_to = record {
  front = take 1 (ops_of made finds);
  look = look;
  get = get;
  ops = middle nothing (ops_of made finds) refl;
  says = Finds refl refl ([], refl) (get.context, refl, refl);
  spared = all_spared f.directory f.name (ops_of found finds_again) refl;
  until = take 1 (ops_of found finds_again);
  again = again;
  later = later;
  found_ops = middle nothing (ops_of found finds_again) refl;
  leads = ([], refl);
  there = (later.context, refl, refl);
  before = take 2 (ops_of found_again renames);
  rename = moves;
  rename_ops = three nothing (ops_of found_again renames) refl;
  takes = MovedAway asked refl refl refl moved;
  tells = Renames asked refl refl refl 1 refl refl moved;
  denies = RenamesIt asked refl refl refl 1 refl apart moved;
  new = new;
  new_get = new_get;
  new_front = take 1 (ops_of renamed finds_new);
  new_ops = middle nothing (ops_of renamed finds_new) refl;
  new_leads = ([], refl);
  new_there = (new_get.context, refl, refl);
  old = λ d. refl;
  gone = λ d. Removes refl refl (words (1 ∷ 0 ∷ 3 ∷ 0 ∷ 4 ∷ []), refl);
  none = λ d. refl;
}

no_row : {r : Row} → ◌≢◌ {A = Option Row} None (Some r)
no_row e = absurd cc

some_row : {r : Row} → ◌≢◌ {A = Option Row} (Some r) None
some_row e = absurd cc

pub names_are_refused : NamesAreRefused
unfolding computing get_fh save_fh both rename rename_args results.rename
names_are_refused = record {
  unfound = λ d cookie is. is.found refl refl refl;
  another = λ d cookie is. (let other : ◌≡◌ {A = Option ℕ} (Some 3) (Some 2) = is.there refl refl ([], refl) _ refl in let same : ◌≡◌ {A = ℕ} 3 2 = cc in absurd (omega arith));
  lost = λ d cookie is. no_row is.stands;
  both = λ d is. some_row is.gone;
  shown = λ d is. is.missed refl refl ([], refl);
}
