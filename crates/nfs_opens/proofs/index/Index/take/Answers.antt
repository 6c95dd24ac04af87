use Rattle.std.proofs.Common.{◌≡◌, false, map, subst, sym, ap, ◌∙◌}
use Rattle.std.specs.Prelude.{◌==◌}
use Rattle.nfs_xdr.specs.Tables.{In}
use Rattle.nfs_opens.specs.{declared.index.Pair.Pair, Index.{HasTaken, pair_of, is_before}, Blocks.{Listed, removed}}
use Rattle.nfs_opens.proofs.{EntryLemmas.{parted_map, removed_map}, IndexLemmas.{parted, has_taken}}
use Rattle.nfs_opens.proofs.index.Index.take.Goals as goal

pub remove-requires : goal.remove-requires
remove-requires g c =
    let pair = g.T.Entry.pair in
    let of = g.S.Sought.of c.args.of.now in
    parted_map pair (is_before of c.args.number false) c.self.inside.entries.items
    (parted of c.args.number false (map pair c.self.inside.entries.items) c.self.invariant)

pub invariant_of-self : goal.invariant_of-self
invariant_of-self g c =
    let pair = g.T.Entry.pair in
    let of = g.S.Sought.of c.args.of.now in
    let old = pair_of of c.args.number in
    let ps = map pair c.self.inside.entries.items in
    let made : map pair c.remove.new.self.items ≡ removed (is_before of c.args.number false) (λ p. p.of == of) ps =
    ap (map pair) c.remove.ensures.items ∙ removed_map pair (is_before of c.args.number false) (λ p. p.of == of) c.self.inside.entries.items in
    let there = subst (λ (x : Listed Pair). In old x.items) (sym c.self.view_is) c.requires in
    (subst (HasTaken ps old) (sym made) (has_taken old ps c.self.invariant there)).order

pub returns-clause-taken : goal.returns-clause-taken
returns-clause-taken g c =
    let pair = g.T.Entry.pair in
    let of = g.S.Sought.of c.args.of.now in
    let old = pair_of of c.args.number in
    let ps = map pair c.self.inside.entries.items in
    let made : map pair c.remove.new.self.items ≡ removed (is_before of c.args.number false) (λ p. p.of == of) ps =
    ap (map pair) c.remove.ensures.items ∙ removed_map pair (is_before of c.args.number false) (λ p. p.of == of) c.self.inside.entries.items in
    let there = subst (λ (x : Listed Pair). In old x.items) (sym c.self.view_is) c.requires in
    subst (λ (x : Listed Pair). HasTaken x.items old (map pair c.remove.new.self.items)) c.self.view_is
    (subst (HasTaken ps old) (sym made) (has_taken old ps c.self.invariant there))
