-- The text of a result: its operation's number, its status and what is behind them (RFC 5662; RFC 8881 section 18). What is behind them is what
-- `specs/Wire.antt` says.
use Rattle.std.specs.Prelude.{ℕ, ◌==◌, List, [], ◌++◌, if◌then◌else◌}
use Rattle.nfs_xdr.specs.Spelling as spelling
use Rattle.nfs_xdr.specs.{declared.status.Status.Status, Status.status_number, Spelling.{number, opaque}, declared.status.Status.TheVariants.Nfs4Ok}
use Rattle.nfs_compound.specs.declared.op_num.OpNum.TheVariants as Num
use Rattle.nfs_compound.specs.{OpNum.op_number, declared.op_num.OpNum.OpNum}
use Rattle.nfs_results.specs.{declared.res.Res.Res, Parts.parts}

-- which operation a result is of, and how that ended
abbrev pub operation_of : Res → ℕ
operation_of r = (parts r).operation

abbrev pub status_of_result : Res → Status
status_of_result r = (parts r).status

abbrev pub head : (operation : ℕ) (s : Status) → List ℕ
head operation s = spelling.number operation ++ spelling.number (status_number s)

abbrev pub spell_result : Res → List ℕ
spell_result r = head (operation_of r) (status_of_result r) ++ (parts r).behind

-- How an operation of this number is refused with no more said: SETATTR reports that nothing was set.
abbrev pub refusal : ℕ → Status → Res
refusal operation s = if operation == op_number Num.SetAttr then Res.SetAttr s [] else Res.Refused operation s

-- what stands in front of the results of a compound (RFC 8881 section 16.2.2)
abbrev pub spell_compound_head : (status : Status) (tag : List ℕ) (count : ℕ) → List ℕ
spell_compound_head status tag count = number (status_number status) ++ (opaque tag ++ number count)

-- in front of all that an operation has behind NFS4_OK
abbrev pub done_head : OpNum → List ℕ
done_head op = head (op_number op) Nfs4Ok
