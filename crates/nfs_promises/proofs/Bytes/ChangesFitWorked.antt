-- The wrong changes at 2^64, computed.
use Rattle.std.proofs.{Common.{◌≡◌, ◌+◌, ◌^◌, [], ◌∷◌, refl, arith}, lemmas.Bool.{ltb-true, true≢false}}
use Rattle.nfs_compound.specs.declared.file_args.StableHow.TheVariants.{Unstable}
use Rattle.nfs_results.specs.Items as results
use Rattle.nfs_tree.specs.Files.{change_of}
use Rattle.nfs_attrs.specs.Attributes.{values}
use Rattle.nfs_names.specs.{Context.anonymous, GetAttr.get_attr}
use Rattle.nfs_promises.specs.Runs.Requests.{words}
use Rattle.nfs_exec.specs.{Runs.Ops.RanOp}
use Rattle.nfs_promises.specs.Bytes.{ChangeSeen.Writes, ChangesFitWorked.{cut, ChangesAtLast}}
use Rattle.nfs_promises.proofs.Runs.Computing.{computing}

its_change : (d : RanOp) → change_of (cut d).before.store.tree 2 ≡ 2 ^ 64 + 1
unfolding computing get_attr values results.fattr
its_change d = refl

pub changes_at_last : ChangesAtLast
unfolding computing get_attr values results.fattr
changes_at_last = record {
  told = λ d. (record { is = refl; at = refl; ok = refl }, record { front = []; behind = words (0 ∷ 8 ∷ 420 ∷ 1 ∷ []); long = refl; answers = refl });
  read = λ d. (record { front = []; behind = words (0 ∷ 8 ∷ 420 ∷ 1 ∷ []); long = refl; answers = refl }, λ same. (let is = its_change d in absurd (omega arith)));
  large = λ d less. (let is = its_change d in absurd (omega arith));
  last = λ d. (
    refl,
    Writes (record { stateid = anonymous; offset = 0; stable = Unstable; bytes = words (0x7365_656e ∷ []) }) refl refl (ltb-true 0 _ refl),
    λ no. true≢false no,
  );
}
