use Rattle.std.proofs.Common.{◌-◌, List, length, ap, ◌∙◌}
use Rattle.std.specs.Prelude.{slice_get}
use Rattle.nfs_ranges.specs.Holders.{Owned}
use Rattle.nfs_ranges.proofs.GroupLemmas.{number_is}
use Rattle.nfs_ranges.proofs.groups.Group.last_number.Goals as goal

pub returns-in-Some : goal.returns-in-Some
returns-in-Some c =
    c.number.ensures
    ∙ number_is c.args.self.now c.in-Some.o.now
    (c.in-Some.ensures.value ∙ ap (λ (os : List Owned). slice_get os (length os - 1)) (c.deref.ensures.value ∙ c.self.view_is))
