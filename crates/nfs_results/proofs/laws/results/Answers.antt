use Rattle.nfs_xdr.proofs.TextLaws.{leads_from, leads_again, begins_no_other}
use Rattle.nfs_results.specs.{ResultCodec.result, CompoundResult.compound_result, Wire.{result4, compound4res}}
use Rattle.nfs_results.proofs.{ResultLaws.is_result, CompoundLaws.is_compound, WireLaws.{results, compounds}}
use Rattle.nfs_results.proofs.laws.results.Goals as goal

pub returns-clause-results : goal.returns-clause-results
returns-clause-results c = λ bytes x fits. (leads_from result result4 results is_result bytes x fits, leads_again result result4 results is_result bytes x)

pub returns-clause-compounds : goal.returns-clause-compounds
returns-clause-compounds c = λ bytes x fits.
    (leads_from compound_result compound4res compounds is_compound bytes x fits, leads_again compound_result compound4res compounds is_compound bytes x)

pub returns-clause-result_ends : goal.returns-clause-result_ends
returns-clause-result_ends c = begins_no_other result result4 results is_result

pub returns-clause-compound_ends : goal.returns-clause-compound_ends
returns-clause-compound_ends c = begins_no_other compound_result compound4res compounds is_compound
