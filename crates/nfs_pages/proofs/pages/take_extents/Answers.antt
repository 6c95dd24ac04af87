use Rattle.std.proofs.Common.{◌∙◌, ap}
use Rattle.std.proofs.lemmas.{Cmp.nat_cmp_total, Map.Views.get-entries_below}
use Rattle.std.specs.{Prelude.{unwrap_or, []}}
use Rattle.nfs_pages.proofs.PageLemmas.{below_is, from_is}
use Rattle.nfs_pages.proofs.pages.take_extents.Goals as goal

pub returns-in-Ok-clause-kept : goal.returns-in-Ok-clause-kept
returns-in-Ok-clause-kept c i lt =
    ap (λ o. unwrap_or o []) (get-entries_below nat_cmp_total c.args.pages.now.map c.split_off.new.self c.args.first i c.in-Ok.ensures.below)
    ∙ below_is c.args.first i _ lt

pub returns-in-Ok-clause-gone : goal.returns-in-Ok-clause-gone
returns-in-Ok-clause-gone c i le =
    ap (λ o. unwrap_or o []) (get-entries_below nat_cmp_total c.args.pages.now.map c.split_off.new.self c.args.first i c.in-Ok.ensures.below)
    ∙ from_is c.args.first i _ le
