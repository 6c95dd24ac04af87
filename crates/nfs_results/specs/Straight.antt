-- The parts of results whose bytes come straight from where they are kept (RFC 8881 sections 18.7, 18.22, 18.23 and 18.48): what is put in front of
-- them and behind them.
use Rattle.std.specs.Prelude.{ℕ, List, ◌++◌, Bool, true, false, replicate}
use Rattle.nfs_xdr.specs.Spelling.{number, hyper, flag, fixed, opaque, padding}
use Rattle.nfs_compound.specs.declared.op_num.OpNum.TheVariants as Num
use Rattle.nfs_results.specs.Items as item
use Rattle.nfs_results.specs.{declared.res.Entry.Entry, Results.done_head}

-- READ: in front of so many bytes, and the zeros behind them
abbrev pub read_head : (eof : Bool) (count : ℕ) → List ℕ
read_head eof count = done_head Num.Read ++ (flag eof ++ number count)

abbrev pub read_end : (count : ℕ) → List ℕ
read_end count = replicate (padding count) 0

-- READDIR: in front of the entries, in front of an entry's attributes, and behind the entries
abbrev pub read_dir_head : (cookieverf : List ℕ) → List ℕ
read_dir_head cookieverf = done_head Num.ReadDir ++ fixed cookieverf

abbrev pub entry_head : (cookie : ℕ) (name : List ℕ) → List ℕ
entry_head cookie name = flag true ++ (hyper cookie ++ opaque name)

abbrev pub list_end : (eof : Bool) → List ℕ
list_end eof = flag false ++ flag eof

abbrev pub entry_text : Entry → List ℕ
entry_text e = entry_head e.cookie e.name ++ item.fattr.spell e.attrs

-- TEST_STATEID: in front of so many statuses
abbrev pub test_stateid_head : (count : ℕ) → List ℕ
test_stateid_head count = done_head Num.TestStateid ++ number count
