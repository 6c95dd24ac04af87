use Rattle.std.proofs.Common.{◌≡◌, ℕ, get_or, ap, refl, ◌∙◌, arith}
use Rattle.nfs_attrs.proofs.Least.{none_of, least_of, least_of_first, two_empty}
use Rattle.nfs_attrs.proofs.mask.Mask.take_least.Goals as goal

pub returns-in-0 : goal.returns-in-0
returns-in-0 c = none_of c.args.self.now (omega (arith, c.in-0)) (omega (arith, c.in-0)) (omega (arith, c.in-0))

pub returns-in-0-2 : goal.returns-in-0-2
returns-in-0-2 c =
    let m = c.args.self.now in
    rw c.without_least.ensures (least_of m 2 (get_or m.words 2 0) refl (omega arith) (omega arith)
    (λ i l. two_empty m.words (omega (arith, c.in-0-2)) (omega (arith, c.in-0-2)) i l) (omega (arith, c.in-0-2)) (omega arith))

pub returns-in-0-3 : goal.returns-in-0-3
returns-in-0-3 c =
    let m = c.args.self.now in
    rw c.without_least-in-0-3.ensures (least_of m 1 (get_or m.words 1 0) refl (omega arith) (omega arith)
    (λ i l. (let first : i ≡ 0 = omega arith in ap (λ (i : ℕ). get_or m.words i 0) first ∙ omega (arith, c.in-0-3))) (omega (arith, c.in-0-3)) (omega arith))

pub returns-in_default : goal.returns-in_default
returns-in_default c =
    let m = c.args.self.now in
    rw c.without_least-in_default.ensures (least_of_first m (get_or m.words 0 0) refl (omega arith) (omega (arith, c.in_default)) (omega arith))
