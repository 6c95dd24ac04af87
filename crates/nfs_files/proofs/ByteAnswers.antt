-- COMMIT, READ and WRITE: the results that they may have.
use Rattle.std.proofs.{Common.{◌≡◌, ℕ, ◌≤◌, length, refl, arith, inl, inr}, lemmas.Bool.{cases_Bool, ltb-false}, lemmas.List.length-append}
use Rattle.std.specs.Prelude.{nat_lt, replicate}
use Rattle.nfs_xdr.specs.{Spelling.number, declared.time.Time.Time}
use Rattle.nfs_xdr.proofs.Putting.{length_number}
use Rattle.nfs_compound.specs.declared.op_num.OpNum.TheVariants as Num
use Rattle.nfs_compound.specs.{declared.file_args.Commit.Commit, declared.file_args.Read.Read, declared.file_args.Write.Write}
use Rattle.nfs_compound.specs.declared.op.Item.TheVariants.{Operation}
use Rattle.nfs_compound.specs.declared.op.Op.TheVariants as Op
use Rattle.nfs_results.specs.Largest.{given}
use Rattle.nfs_names.specs.{declared.context.Context.Context, State.State, Checks.current}
use Rattle.nfs_names.proofs.{Bounds.IsAnswer, NameLaws.current_refuses, Refusing.{refuses_checked, answers_with}}
use Rattle.nfs_files.specs.{Bytes.file_checks, Commit.{write_verifier, commit}, Read.read, Write.{last_checks, write}, Parts.writable}
use Rattle.nfs_files.proofs.{ReadBytes.few_given, Seats.{readable_refuses, writable_refuses}}
use Rattle.nfs_files.proofs.InSteps.{commit_is, read_is, write_is}

-- a write verifier has 8 bytes
verifier_length : (s : State) → length (write_verifier s) ≡ 8
verifier_length s = omega (arith, length-append (number s.opens.instance) (replicate 4 0), length_number s.opens.instance)

given_most : (count : ℕ) → given count ≤ 65536
given_most count = elim (cases_Bool (nat_lt 65536 count)) [ inl most ↦ rw most (omega arith) | inr few ↦ rw few (ltb-false _ _ few) ]

pub may_commit : (s : State) (x : Context) (a : Commit) → IsAnswer (Operation (Op.Commit a)) (commit s x).result
may_commit s x a =
    rw (commit_is s x)
    (answers_with (IsAnswer (Operation (Op.Commit a))) s x Num.Commit _ _ (refuses_checked (current s x) file_checks (current_refuses s x) (λ d. refl))
    (λ status h. record { may = (refl, rw (h.done, h.legal) refl, tt); arrays = tt })
    (λ d. record { may = (refl, tt, tt); arrays = verifier_length s }))

pub may_read_bytes : (s : State) (x : Context) (a : Read) → IsAnswer (Operation (Op.Read a)) (read s x a).result
may_read_bytes s x a =
    rw (read_is s x a)
    (answers_with (IsAnswer (Operation (Op.Read a))) s x Num.Read _ _ (readable_refuses s x a.stateid (current s x) (current_refuses s x))
    (λ status h. record { may = (refl, rw (h.done, h.legal) refl, tt); arrays = tt })
    (λ d. (let few = few_given s a d in let most = given_most a.count in record { may = (refl, omega arith, few); arrays = tt })))

pub may_write_bytes : (s : State) (x : Context) (now : Time) (a : Write) → IsAnswer (Operation (Op.Write a)) (write s x now a).result
may_write_bytes s x now a =
    rw (write_is s x now a)
    (answers_with (IsAnswer (Operation (Op.Write a))) s x Num.Write _ _
    (refuses_checked (writable s x a.stateid (current s x)) (last_checks s a) (writable_refuses s x a.stateid (current s x) (current_refuses s x)) (λ d. refl))
    (λ status h. record { may = (refl, rw (h.done, h.legal) refl, tt); arrays = tt })
    (λ d. record { may = (refl, tt, tt); arrays = verifier_length s }))
