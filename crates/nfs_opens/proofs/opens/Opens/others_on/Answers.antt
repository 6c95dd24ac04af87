use Rattle.std.proofs.Common.{◌≡◌, sym, subst, ap, ◌∙◌}
use Rattle.std.specs.{Prelude.{◌==◌}, Option.option_copied}
use Rattle.nfs_opens.specs.{declared.records.OpenState.OpenState, declared.counts.Reservation.Reservation, Counts.{count_of, without_one}}
use Rattle.nfs_opens.specs.{TableInvariants.HasOneEach, Table.{Kept, table}, Calls.asked}
use Rattle.nfs_opens.proofs.ClashLemmas.{others_all, others_less}
use Rattle.nfs_opens.proofs.opens.Opens.others_on.Goals as goal
use Rattle.nfs_opens.proofs.opens.Opens.others_on.Goals.{After-count_on-all}

-- all that are counted of the file
counted : (c : After-count_on-all) → c.count_on-all.result ≡ count_of (λ o. o.file == c.args.ask.now.file) (table c.args.self.now).opens
counted c = c.count_on-all.ensures ∙ ap (λ (k : Kept). count_of (λ (o : OpenState). o.file == c.args.ask.now.file) k.opens) c.self.view_is

pub returns-in-Some : goal.returns-in-Some
returns-in-Some c =
    let at = goal.at.returns-in-Some c in
    let one : HasOneEach (table c.args.self.now).opens = subst (λ (k : Kept). HasOneEach k.opens) c.self.view_is c.single.ensures in
    c.without.ensures ∙ (ap (λ (r : Reservation). without_one r c.count_on-all.result) c.reserved.ensures
    ∙ (ap (without_one _) (counted at.After-count_on-all)
    ∙ others_less (asked c.args.ask.now) (table c.args.self.now) c.in-Some.own.now c.kept.ensures one
    (sym c.own_open.ensures ∙ ap option_copied c.in-Some.is)))

pub returns-in-None : goal.returns-in-None
returns-in-None c =
    let at = goal.at.returns-in-None c in
    counted at.After-count_on-all
    ∙ others_all (asked c.args.ask.now) (table c.args.self.now).opens (sym c.own_open.ensures ∙ ap option_copied c.in-None.is)
