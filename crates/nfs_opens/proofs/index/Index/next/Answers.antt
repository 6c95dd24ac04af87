use Rattle.std.proofs.Common.{◌≡◌, ℕ, true, Some, None, map, subst, sym, ap, ◌∙◌}
use Rattle.std.specs.{Prelude.◌==◌, Option.{option_copied, option_map}}
use Rattle.nfs_opens.specs.{declared.index.Pair.Pair, Index.{IsNext, is_before}, Blocks.{Listed, found}}
use Rattle.nfs_opens.proofs.{EntryLemmas.{parted_map, found_map}, IndexLemmas.{parted, next_some, next_none}}
use Rattle.nfs_opens.proofs.index.Index.next.Goals as goal

pub find-requires : goal.find-requires
find-requires g c =
    let pair = g.T.Entry.pair in
    let of = g.S.Sought.of c.args.of.now in
    parted_map pair (is_before of c.args.after true) c.self.inside.entries.items
    (parted of c.args.after true (map pair c.self.inside.entries.items) c.self.invariant)

pub returns-in-Some : goal.returns-in-Some
returns-in-Some g c =
    let pair = g.T.Entry.pair in
    let of = g.S.Sought.of c.args.of.now in
    let ps = map pair c.self.inside.entries.items in
    let there : found (is_before of c.args.after true) (λ p. p.of == of) ps ≡ Some (pair c.in-Some.entry.now) =
    found_map pair (is_before of c.args.after true) (λ p. p.of == of) c.self.inside.entries.items
    ∙ ap (option_map pair) (sym c.find.ensures ∙ ap option_copied c.in-Some.is) in
    subst (λ (x : Listed Pair). IsNext x.items of c.args.after (Some c.number.result)) c.self.view_is
    (subst (λ (n : ℕ). IsNext ps of c.args.after (Some n)) (sym c.number.ensures)
    (next_some of c.args.after ps (pair c.in-Some.entry.now) c.self.invariant there))

pub returns-in-None : goal.returns-in-None
returns-in-None g c =
    let pair = g.T.Entry.pair in
    let of = g.S.Sought.of c.args.of.now in
    let ps = map pair c.self.inside.entries.items in
    let none : found (is_before of c.args.after true) (λ p. p.of == of) ps ≡ None =
    found_map pair (is_before of c.args.after true) (λ p. p.of == of) c.self.inside.entries.items
    ∙ ap (option_map pair) (sym c.find.ensures ∙ ap option_copied c.in-None.is) in
    subst (λ (x : Listed Pair). IsNext x.items of c.args.after None) c.self.view_is (next_none of c.args.after ps c.self.invariant none)
