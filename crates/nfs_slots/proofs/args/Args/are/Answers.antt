use Rattle.std.proofs.{Common.{ℕ, ◌≡◌, ◌≤◌, ◌++◌, List, [], ◌∷◌, length, take, drop, nat_eq, ap, refl, sym, ◌∙◌, arith}, Math.Bool.and_assoc}
use Rattle.std.proofs.lemmas.Grind.{common_steps}
use Rattle.std.specs.Prelude.{◌&&◌, Bool, bytes_eq}
use Rattle.nfs_slots.proofs.args.Args.are.Goals as goal

-- bytes are two texts joined where their front is the one and what is behind it the other
joined : (h t xs : List ℕ) → length h ≤ length xs → bytes_eq (h ++ t) xs ≡ (bytes_eq h (take (length h) xs) && bytes_eq t (drop (length h) xs))
joined [] t xs le = refl
joined (x ∷ h) t [] le = absurd (omega (arith, le))
joined (x ∷ h) t (y ∷ xs) le =
    ap (λ (b : Bool). nat_eq x y && b) (joined h t xs (omega (arith, le)))
    ∙ sym (and_assoc (nat_eq x y) (bytes_eq h (take (length h) xs)) (bytes_eq t (drop (length h) xs)))

pub returns-then-eq : goal.returns-then-eq
returns-then-eq c = grind (arith, common_steps, joined c.self.inside.head.now c.self.inside.tail.now c.args.bytes.now, c.self.view_is)

pub returns-else-eq : goal.returns-else-eq
returns-else-eq c = grind (arith, common_steps, joined c.self.inside.head.now c.self.inside.tail.now c.args.bytes.now, c.self.view_is)
