use Rattle.std.proofs.Common.{◌≡◌, ℕ, List, ◌∷◌, Some, None, sym, ◌∙◌, ap, subst}
use Rattle.nfs_xdr.specs.Tables.{record_at}
use Rattle.nfs_xdr.proofs.Tables.{at_of_in}
use Rattle.nfs_tree.specs.{declared.row.Row.Row, Files.{Listed, listing}, Indexed.placed, Left.AreLeft}
use Rattle.nfs_tree.proofs.{MapLemmas.cookie, LeftLemmas.{none_left, others_left, behind_other, of_directory, behind_next, first_left, next_left}}
use Rattle.nfs_tree.proofs.list.Listing.step.Goals as goal

pub returns-in_default-clause-none : goal.returns-in_default-clause-none
returns-in_default-clause-none c =
    let rows = c.self.inside.rows in
    let d = c.self.inside.directory in
    let none = none_left rows d c.self.inside.cookie (subst (AreLeft rows d c.self.inside.cookie) c.in_default.ensures.steps.0 c.self.invariant) in
    (sym c.self.view_is ∙ none, none)

pub invariant_of-self-then-pair-self : goal.invariant_of-self-then-pair-self
invariant_of-self-then-pair-self c =
    let rows = c.self.inside.rows in
    let d = c.self.inside.directory in
    behind_other rows d c.self.inside.cookie _ c.next.new.self (subst (AreLeft rows d c.self.inside.cookie) c.in-Some.ensures.steps c.self.invariant)
    c.if-pair-self.true

pub returns-then-pair-self-clause-none : goal.returns-then-pair-self-clause-none
returns-then-pair-self-clause-none c =
    let rows = c.self.inside.rows in
    let d = c.self.inside.directory in
    let none = others_left rows d c.self.inside.cookie _ c.next.new.self (subst (AreLeft rows d c.self.inside.cookie) c.in-Some.ensures.steps c.self.invariant)
    c.if-pair-self.true in
    (sym c.self.view_is ∙ none, none)

pub invariant_of-self-in_default-get : goal.invariant_of-self-in_default-get
invariant_of-self-in_default-get c =
    let rows = c.self.inside.rows in
    let d = c.self.inside.directory in
    let n = c.self.inside.cookie in
    let left = of_directory rows d n _ c.next.new.self (subst (AreLeft rows d n) c.in-Some.ensures.steps c.self.invariant) c.if-pair-self.false in
    let r = first_left rows d n c.in-Some.pair.now.1 c.next.new.self left in
    let found = at_of_in cookie 3 left.named.high rows r.0 left.named.rising r.1 in
    absurd (let bad : None ≡ Some r.0 = c.in_default-get.ensures.found ∙ ap (record_at cookie rows) (sym r.3) ∙ found in cc)

pub returns-in_default-get-clause-none : goal.returns-in_default-get-clause-none
returns-in_default-get-clause-none c =
    let rows = c.self.inside.rows in
    let d = c.self.inside.directory in
    let n = c.self.inside.cookie in
    let left = of_directory rows d n _ c.next.new.self (subst (AreLeft rows d n) c.in-Some.ensures.steps c.self.invariant) c.if-pair-self.false in
    let r = first_left rows d n c.in-Some.pair.now.1 c.next.new.self left in
    let found = at_of_in cookie 3 left.named.high rows r.0 left.named.rising r.1 in
    absurd (let bad : None ≡ Some r.0 = c.in_default-get.ensures.found ∙ ap (record_at cookie rows) (sym r.3) ∙ found in cc)

pub invariant_of-self-2 : goal.invariant_of-self-2
invariant_of-self-2 c =
    let rows = c.self.inside.rows in
    let d = c.self.inside.directory in
    let n = c.self.inside.cookie in
    let left = of_directory rows d n _ c.next.new.self (subst (AreLeft rows d n) c.in-Some.ensures.steps c.self.invariant) c.if-pair-self.false in
    subst (λ (xs : List Row). AreLeft xs d c.in-Some.pair.now.1 c.next.new.self) (sym c.get.ensures.same)
    (behind_next rows d n c.in-Some.pair.now.1 c.next.new.self left)

pub returns-clause-some : goal.returns-clause-some
returns-clause-some c =
    let rows = c.self.inside.rows in
    let d = c.self.inside.directory in
    let n = c.self.inside.cookie in
    let k = c.in-Some.pair.now.1 in
    let row = c.in-Some-get.row.now in
    let left = of_directory rows d n _ c.next.new.self (subst (AreLeft rows d n) c.in-Some.ensures.steps c.self.invariant) c.if-pair-self.false in
    let r = first_left rows d n k c.next.new.self left in
    let found = at_of_in cookie 3 left.named.high rows r.0 left.named.rising r.1 in
    let both : Some (placed k row) ≡ Some r.0 = c.in-Some-get.ensures.found ∙ ap (record_at cookie rows) (sym r.3) ∙ found in
    let is : placed k row ≡ r.0 = cc in
    let made : List ℕ → ℕ → ℕ → Listed = λ name number at. record { cookie = at; name = name; number = number } in
    sym c.self.view_is ∙ next_left rows d n k c.next.new.self r.0 left r.1 r.2 r.3
    ∙ ap (λ (r : Row). made r.name r.object r.cookie ∷ listing rows d k) (sym is)
    ∙ ap (λ (name : List ℕ). made name row.object k ∷ listing rows d k) (sym c.as_slice.ensures)
    ∙ ap (λ (xs : List Row). made c.as_slice.result.now row.object k ∷ listing xs d k) (sym c.get.ensures.same)
