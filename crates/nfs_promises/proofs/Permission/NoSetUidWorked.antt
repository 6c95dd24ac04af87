-- The run of a program that another user writes, and the wrong answers, computed.
use Rattle.std.proofs.{Common.{◌≡◌, ◌≢◌, ℕ, false, List, [], ◌∷◌, take, refl, sym, ◌∙◌, ap, arith, inl, inr}, lemmas.Bool.false≢true}
use Rattle.std.specs.List.{list_any}
use Rattle.nfs_xdr.specs.Tables.{In}
use Rattle.nfs_compound.specs.{ArgCodecs.set_attr_args, declared.file_args.StableHow.TheVariants.Unstable}
use Rattle.nfs_results.specs.Items as results
use Rattle.nfs_attrs.specs.Attributes.{values}
use Rattle.nfs_names.specs.{Context.anonymous, GetAttr.get_attr}
use Rattle.nfs_files.specs.SetAttr as of_set
use Rattle.nfs_exec.specs.Runs.Ops.{RanOp}
use Rattle.nfs_promises.specs.{Runs.{Requests.words, Points.ops_of}, Locks.LockKeptWorked.last_of, Permission.PermittedWorked.with_mode}
use Rattle.nfs_promises.specs.Permission.NoSetUidWorked.{given, written, other_writes, asks_mode, IsCleared, ModesAreRefused}
use Rattle.nfs_promises.proofs.{Bytes.Dated.sets, Runs.{NotNamed.neither, LastOperation.{nothing, three}, Computing.computing}}

abbrev write : RanOp
write = last_of nothing (ops_of given other_writes)

none_sets : (ds : List RanOp) → list_any (λ (d : RanOp). sets d.item) ds ≡ false → (d : RanOp) → In d ds → sets d.item ≡ false
none_sets [] e d there = absurd there
none_sets (x ∷ more) e d (inl same) = ap (λ (d : RanOp). sets d.item) same ∙ (neither (sets x.item) (list_any (λ (d : RanOp). sets d.item) more) e).0
none_sets (x ∷ more) e d (inr later) = none_sets more (neither (sets x.item) (list_any (λ (d : RanOp). sets d.item) more) e).1 d later

pub is_cleared : IsCleared
unfolding computing set_attr_args of_set.set_attr get_attr values results.fattr
is_cleared = record {
  front = take 2 (ops_of given other_writes);
  write = write;
  ops = three nothing (ops_of given other_writes) refl;
  other = record {
    asked = record { stateid = anonymous; offset = 0; stable = Unstable; bytes = words (0x7365_656e ∷ []) };
    is = refl;
    at = refl;
    some = refl;
    other = λ zero. absurd (omega arith);
    ok = refl;
    there = refl;
  };
  before = refl;
  behind = refl;
  spared = λ d there a w mode is at reads gives. absurd (false≢true (sym (none_sets (ops_of written asks_mode) refl d there) ∙ ap sets is));
  told = λ d. refl;
}

-- the bit is 1, and not 0
bit_stays : ◌≢◌ {A = ℕ} 1 0
bit_stays e = absurd (omega arith)

pub modes_are_refused : ModesAreRefused
unfolding computing set_attr_args of_set.set_attr get_attr values results.fattr
modes_are_refused = record {
  left = λ d is. bit_stays (is.mode (with_mode 2543) refl);
  only = λ d is. bit_stays (is.mode (with_mode 2048) refl);
  again = λ d is. bit_stays (is.mode (with_mode 2543) refl);
}
