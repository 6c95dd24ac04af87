-- An operation is the one whose number its text begins with.
use Rattle.std.proofs.{Common.{◌≡◌, ℕ, ◌<◌, ◌^◌, Some, refl, sym, ◌∙◌, ap}, lemmas.List.take_at, lemmas.Nat.from_be_bytes-to_be_bytes_4}
use Rattle.std.specs.{Prelude.{◌↔◌, take}, Int.{w32, from_be_bytes}}
use Rattle.nfs_xdr.specs.Spelling.{number}
use Rattle.nfs_xdr.proofs.Putting.{length_number}
use Rattle.nfs_compound.specs.{declared.op_num.OpNum.OpNum, OpNum.{op_num, op_number}, declared.op.Op.Op, Arguments.arguments, Wire.nfs_argop4}
use Rattle.nfs_compound.proofs.{OpNumLaws.is_op_listing, WireLaws.ops}

one_number : (n m : ℕ) → n < 2 ^ 32 → m < 2 ^ 32 → number n ≡ number m → n ≡ m
unfolding number
one_number n m small other e = sym (from_be_bytes-to_be_bytes_4 n small) ∙ ap (from_be_bytes w32) e ∙ from_be_bytes-to_be_bytes_4 m other

one_op : (n m : OpNum) → op_number n ≡ op_number m → n ≡ m
one_op n m e = let same : Some n ≡ Some m = sym (is_op_listing.found n) ∙ ap op_num e ∙ is_op_listing.found m in cc

begins : (op : Op) → take 4 (nfs_argop4 op).bytes ≡ number (op_number (arguments op).op)
begins op =
    let n = op_number (arguments op).op in
    ap (take 4) (sym (ops.same op)) ∙ take_at (number n) ((arguments op).format.spell (arguments op).value) 4 (length_number n)

pub first_number : (op : Op) (n : OpNum) → (arguments op).op ≡ n ↔ take 4 (nfs_argop4 op).bytes ≡ number (op_number n)
first_number op n = (
  λ e. begins op ∙ ap (λ n. number (op_number n)) e,
  λ e. one_op (arguments op).op n
      (one_number _ _ (is_op_listing.small (arguments op).op) (is_op_listing.small n) (sym (begins op) ∙ e)),
)
