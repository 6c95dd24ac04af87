-- One text after another.
use Rattle.std.proofs.{Common.{◌≡◌, ℕ, ◌+◌, List, ◌++◌, length, append_assoc, refl, sym, ap, ◌∙◌}, lemmas.List.length-append}
use Rattle.nfs_xdr.specs.{Spelling.{number, hyper}, SheetState.{SheetState, Puts}}

pub length_number : (n : ℕ) → length (number n) ≡ 4
unfolding number
length_number n = refl

pub length_hyper : (n : ℕ) → length (hyper n) ≡ 8
unfolding hyper
length_hyper n = refl

pub puts_then : {old mid new : SheetState} {a b : List ℕ} → Puts old mid a → Puts mid new b → Puts old new (a ++ b)
puts_then {old} {mid} {new} {a} {b} p q = record {
  bytes = q.bytes ∙ ap (λ (w : List ℕ). w ++ b) p.bytes ∙ append_assoc old.bytes a b;
  room = q.room ∙ p.room;
}

pub ruleset putting = (length_number, length_hyper, length-append, puts_then)
