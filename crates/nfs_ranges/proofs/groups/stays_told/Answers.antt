use Rattle.std.proofs.{Common.{◌≡◌, sym, subst, leb}, lemmas.Bool.{OnTrue_from, leb-true}}
use Rattle.nfs_ranges.specs.Clashes.{tell}
use Rattle.nfs_ranges.proofs.ClashLemmas.{stays}
use Rattle.nfs_ranges.proofs.groups.stays_told.Goals as goal

pub returns-in-Some : goal.returns-in-Some
returns-in-Some c = OnTrue_from (leb c.in-Some.b.first c.args.first) _ (λ e s k last os.
    subst (λ b. tell s k c.args.first last b os ≡ b) (sym c.in-Some.is) (stays s k c.args.first last c.in-Some.b os (leb-true _ _ e)))
