use Rattle.std.proofs.Common.{◌≡◌, ◌-◌, List, length, sym, ◌∙◌, subst, arith}
use Rattle.nfs_xdr.proofs.Tables.{without_none}
use Rattle.nfs_tree.specs.{declared.stored.Stored.Stored, Stored.numbered, TreeInvariants.AreSummed}
use Rattle.nfs_tree.proofs.Summed.{has_pages, summed_without}
use Rattle.nfs_tree.proofs.stored.Objects.drop_object.Goals as goal

pub overflow_sub-self : goal.overflow_sub-self
overflow_sub-self c =
    let has = has_pages c.self.inside.shelf.items c.args.number (numbered c.args.number c.in-Some.gone) c.self.inside.pages (sym c.in-Some.ensures.taken) c.self.invariant in
    let within = has.within in
    let is = c.from.ensures ∙ c.page_count.ensures.exact in
    omega arith

pub invariant_of-self : goal.invariant_of-self
invariant_of-self c =
    let old : Stored = numbered c.args.number c.in-Some.gone in
    let has = has_pages c.self.inside.shelf.items c.args.number old c.self.inside.pages (sym c.in-Some.ensures.taken) c.self.invariant in
    let within = has.within in
    let is : c.from.result ≡ length old.pages = c.from.ensures ∙ c.page_count.ensures.exact in
    subst (λ (xs : List Stored). AreSummed xs (c.self.inside.pages - c.from.result)) (sym c.remove.ensures.items)
    (summed_without c.self.inside.shelf.items c.args.number old c.self.inside.pages (c.self.inside.pages - c.from.result) c.kept.ensures.rising (sym c.in-Some.ensures.taken) (omega arith) c.self.invariant)

pub invariant_of-self-in_default : goal.invariant_of-self-in_default
invariant_of-self-in_default c =
    subst (λ (xs : List Stored). AreSummed xs c.self.inside.pages)
    (sym (c.remove.ensures.items ∙ without_none (λ (s : Stored). s.number) c.args.number c.self.inside.shelf.items (sym c.in_default.ensures.taken))) c.self.invariant
