use Rattle.std.proofs.{Common.{append_assoc, ◌≡◌, ◌+◌, ◌-◌, ◌≤◌, ℕ, List, length, take, drop, refl, sym, ap, ◌∙◌, arith}, lemmas.List.{length-take-le, drop-drop}}
use Rattle.nfs_xdr.specs.{SheetState.SheetState, Spelling.number}
use Rattle.nfs_attrs.proofs.Counted.{written}
use Rattle.nfs_attrs.proofs.spelled.Spelled.set_u32.Goals as goal

pub overflow_add-at : goal.overflow_add-at
overflow_add-at c =
    let size = ap (λ (s : SheetState). length s.bytes) c.self.view_is in
    let there : length (take c.self.inside.len c.self.inside.bytes) ≡ c.self.inside.len = length-take-le c.self.inside.len c.self.inside.bytes (omega (arith, c.self.told, c.self.invariant)) in
    omega (arith, c.requires.within, size, there, c.self.invariant)

pub returns : goal.returns
unfolding number
returns c =
    let b = c.self.inside.bytes in
    let len = c.self.inside.len in
    let at = c.args.at in
    let fits : len ≤ length b = omega (arith, c.self.told, c.self.invariant) in
    let size = ap (λ (s : SheetState). length s.bytes) c.self.view_is in
    let within : at + 4 ≤ len = omega (arith, c.requires.within, size, length-take-le len b fits) in
    let four : at + 4 - at ≡ 4 = omega arith in
    let here = written b (number c.args.value) len at within fits refl in
    let whole = here ∙ sym (append_assoc (take at (take len b)) (number c.args.value) (drop (at + 4) (take len b))) in
    rw (← c.self.view_is, four, drop-drop 4 at b, c.copy_from_slice.ensures.after, c.to_be_bytes.ensures) (ap (λ (w : List ℕ). record { bytes = w; room = 436 }) whole)
