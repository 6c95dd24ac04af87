use Rattle.std.proofs.Common.{ℕ, List, ◌++◌, ap}
use Rattle.nfs_compound.specs.declared.op_num.OpNum.TheVariants as Num
use Rattle.nfs_results.specs.Results.{done_head}
use Rattle.nfs_results.proofs.{WireLaws.attributes_told, StraightLaws.{read_in_parts, read_dir_in_parts, test_stateid_in_parts}}
use Rattle.nfs_results.proofs.laws.parts.Goals as goal

pub returns-clause-read : goal.returns-clause-read
returns-clause-read c = read_in_parts

pub returns-clause-listed : goal.returns-clause-listed
returns-clause-listed c = read_dir_in_parts

pub returns-clause-codes : goal.returns-clause-codes
returns-clause-codes c = test_stateid_in_parts

pub returns-clause-attributes : goal.returns-clause-attributes
returns-clause-attributes c = λ f. ap (λ (w : List ℕ). done_head Num.GetAttr ++ w) (attributes_told f)
