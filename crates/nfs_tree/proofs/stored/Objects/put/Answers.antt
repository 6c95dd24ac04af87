use Rattle.std.proofs.{Common.{List, ◌<◌, ◌≡◌, sym, subst}, lemmas.List.Elements.All-push}
use Rattle.nfs_tree.specs.{declared.stored.Stored.Stored, Calls.CanChange, Files.last_count}
use Rattle.nfs_tree.proofs.stored.Objects.put.Goals as goal

pub change_in-requires : goal.change_in-requires
change_in-requires c = subst (λ (xs : List Stored). CanChange xs c.args.directory) (sym c.in_ok-push.ensures.ok)
    (All-push (λ (s : Stored). s.number ≡ c.args.directory → s.object.change < last_count) c.args.self.now c.args.stored c.requires.change (λ same. absurd (c.requires.apart same)))
