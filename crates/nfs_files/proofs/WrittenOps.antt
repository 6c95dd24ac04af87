-- What the current filehandle's object is, and how a WRITE is answered.
use Rattle.std.proofs.Common.{◌≡◌, ℕ, ◌+◌, ◌<◌, ◌≤◌, ◌^◌, Bool, true, false, ltb, List, ◌++◌, length, Option, Some, None, refl, ap, arith}
use Rattle.std.proofs.{lemmas.Bool.{ltb-false, or_parts, false≢true}, lemmas.Nat.from_be_bytes-to_be_bytes_4}
use Rattle.std.specs.{Prelude.{◌&&◌, Result, Ok, Err}, Int.{w32, from_be_bytes}}
use Rattle.nfs_xdr.specs.{Checks.first_fault, Spelling.number, declared.status.Status.Status}
use Rattle.nfs_xdr.proofs.Checks.{all_passed}
use Rattle.nfs_compound.specs.{declared.file_args.Write.Write, declared.op_num.OpNum.OpNum, declared.stateid.Stateid.Stateid}
use Rattle.nfs_compound.specs.declared.op_num.OpNum.TheVariants as Num
use Rattle.nfs_results.specs.Items as item
use Rattle.nfs_results.specs.{declared.res.Res.Res, declared.res.WriteOk.WriteOk, Results.{spell_result, done_head}}
use Rattle.nfs_tree.specs.{declared.object.Object.Object, Files.object_at, Bytes.{has_bytes, is_too_long}}
use Rattle.nfs_names.specs.{declared.context.Context.Context, declared.node.Node.Node, State.State, Outcome.{Outcome, answers, checked, refuses}}
use Rattle.nfs_names.specs.Checks.{node_as, node_at, current}
use Rattle.nfs_names.proofs.Found.{checked_ok}
use Rattle.nfs_files.specs.{Bytes.{file_checks, writing, may_use}, Parts.writable}
use Rattle.nfs_files.proofs.Passing.{if_passed_ok}
use Rattle.nfs_files.specs.Write as of_write

-- Files: the object of the current filehandle.

pub by_found : {A : Type 0} (P : Outcome → Type 0) (s : State) (x : Context) (op : OpNum) (v : Result A Status) (f : A → Outcome)
    → ((status : Status) → P (refuses s x op status)) → ((a : A) → v ≡ Ok a → P (f a)) → P (answers s x op v f)
by_found P s x op (Err status) f refused each = refused status
by_found P s x op (Ok a) f refused each = each a refl

number_by : (n : ℕ) (d : Node) (o : Option Object) → node_as n o ≡ Ok d → Some n ≡ Some d.number
number_by n d None e = absurd cc
number_by n d (Some o) e = let same : record { number = n; object = o } ≡ d = cc in ap (λ (h : Node). Some h.number) same

node_number : (s : State) (d : Node) (o : Option ℕ) → node_at s o ≡ Ok d → o ≡ Some d.number
node_number s d None e = absurd cc
node_number s d (Some n) e = number_by n d (object_at s.tree n) e

pub current_number : (s : State) (x : Context) (d : Node) → current s x ≡ Ok d → x.current ≡ Some d.number
unfolding current
current_number s x d e = node_number s d x.current e

pub writable_at : (s : State) (x : Context) (given : Stateid) (d : Node) → writable s x given (current s x) ≡ Ok d → current s x ≡ Ok d
unfolding writable
writable_at s x given d e =
    (checked_ok (current s x) file_checks d (if_passed_ok (checked (current s x) file_checks) (may_use s x writing given) d e).0).0

-- WRITE
pub number_back : (n : ℕ) → n < 2 ^ 32 → from_be_bytes w32 (number n) ≡ n
unfolding number
number_back n small = from_be_bytes-to_be_bytes_4 n small

pub write_spelled : (k : WriteOk) → (more : List ℕ) × (spell_result (Res.Write k) ≡ done_head Num.Write ++ (number k.count ++ more))
unfolding item.write_ok
write_spelled k = (_, refl)

pub guarded : (a b : Bool) → a && b ≡ false → a ≡ true → b ≡ false
guarded true b e is = e
guarded false b e is = absurd (false≢true is)

pub few_written : (s : State) (w : Write) (d : Node) → first_fault (of_write.last_checks s w d) ≡ None → has_bytes w.bytes ≡ true → length w.bytes < 2 ^ 32
few_written s w d none some =
    let checks = all_passed (of_write.last_checks s w d) none in
    let parts = or_parts (ltb s.tree.limits.bytes (w.offset + length w.bytes)) (ltb 4294967295 (length w.bytes))
    (guarded (has_bytes w.bytes) (is_too_long s.tree w.offset w.bytes) checks.0 some) in
    let most : length w.bytes ≤ 4294967295 = ltb-false 4294967295 (length w.bytes) parts.1 in
    omega arith
