use Rattle.std.proofs.Common.{◌≡◌, ◌+◌, ◌∙◌, ap, ℕ, List, length, sym, subst, arith}
use Rattle.nfs_xdr.specs.Tables.{IsRising}
use Rattle.nfs_xdr.proofs.Tables.{IsRising-from}
use Rattle.nfs_tree.specs.{declared.stored.Stored.Stored, Stored.numbered, Files.root, TreeInvariants.AreSummed}
use Rattle.nfs_tree.proofs.Summed.{summed_push, summed_most}
use Rattle.nfs_tree.proofs.stored.Objects.push.Goals as goal

pub push-requires : goal.push-requires
push-requires c =
    let number = ap (λ (s : Stored). s.number) c.stored.view_is in
    subst (λ (k : ℕ). IsRising (λ (s : Stored). s.number) 0 c.self.inside.shelf.items k) (sym number)
    (subst (λ (xs : List Stored). IsRising (λ (s : Stored). s.number) 0 xs c.args.stored.number) (sym c.self.view_is)
    (IsRising-from (λ (s : Stored). s.number) 0 root c.args.stored.number c.args.self.now (omega arith) c.requires))

pub overflow_add-self : goal.overflow_add-self
overflow_add-self c = (let most = summed_most c.self.inside.shelf.items c.self.inside.pages c.kept.ensures.few c.self.invariant in let few = c.page_count-pages.ensures.few in omega arith)

pub invariant_of-self-2 : goal.invariant_of-self-2
invariant_of-self-2 c =
    let x : Stored = numbered c.stored.inside.number c.stored.inside.body in
    let more : c.self.inside.pages + length x.pages ≡ c.self.inside.pages + c.from.result = ap (λ (n : ℕ). c.self.inside.pages + n) (sym (c.from.ensures ∙ c.page_count-pages.ensures.exact)) in
    subst (λ (n : ℕ). AreSummed c.push.new.self.items n) more
    (subst (λ (xs : List Stored). AreSummed xs (c.self.inside.pages + length x.pages)) (sym c.in_ok-push.ensures.ok)
    (summed_push c.self.inside.shelf.items c.self.inside.pages x (let few = c.page_count-pages.ensures.few in let is = c.page_count-pages.ensures.exact in omega arith) c.self.invariant))
