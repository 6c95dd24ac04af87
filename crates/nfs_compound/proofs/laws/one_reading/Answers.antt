use Rattle.std.proofs.{Common.{refl, sym, ◌∙◌}, lemmas.Option.same_Some}
use Rattle.nfs_compound.specs.ReadRequest.{request_at}
use Rattle.nfs_compound.proofs.{GrammarLaws.{none≢some}, RequestLaws.{one_reading, request_again, garbage_again}}
use Rattle.nfs_compound.proofs.laws.one_reading.Goals as goal

pub returns-clause-one : goal.returns-clause-one
returns-clause-one c = λ bytes fits. one_reading bytes (request_at bytes) fits refl

pub returns-clause-no_other : goal.returns-clause-no_other
returns-clause-no_other c = λ bytes r fits is garbage. none≢some r (sym (garbage_again bytes fits garbage) ∙ request_again bytes r fits is)

pub returns-clause-one_request : goal.returns-clause-one_request
returns-clause-one_request c = λ bytes r s fits a b. same_Some r s (sym (request_again bytes r fits a) ∙ request_again bytes s fits b)
