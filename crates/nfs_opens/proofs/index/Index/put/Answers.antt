use Rattle.std.proofs.Common.{◌≡◌, ◌≢◌, ℕ, false, map, subst, sym, ap, ◌∙◌}
use Rattle.nfs_xdr.specs.Tables.{In}
use Rattle.nfs_opens.specs.{declared.index.Pair.Pair, Index.{HasPut, is_before}, Blocks.{Listed, added}}
use Rattle.nfs_opens.proofs.{EntryLemmas.{parted_map, added_map}, IndexLemmas.{parted, has_put}}
use Rattle.nfs_opens.proofs.index.Index.put.Goals as goal

pub add-requires-clause-parted : goal.add-requires-clause-parted
add-requires-clause-parted g c =
    let pair = g.T.Entry.pair in
    let of = g.S.Sought.of c.args.of.now in
    parted_map pair (is_before of c.number.result false) c.self.inside.entries.items
    (parted of c.number.result false (map pair c.self.inside.entries.items) c.self.invariant)

pub invariant_of-self : goal.invariant_of-self
invariant_of-self g c =
    let pair = g.T.Entry.pair in
    let new = pair c.args.new in
    let ps = map pair c.self.inside.entries.items in
    let made : map pair c.add.new.self.items ≡ added (is_before new.of new.number false) new ps = ap (map pair) c.add.ensures
    ∙ (added_map pair (is_before (g.S.Sought.of c.args.of.now) c.number.result false) c.args.new c.self.inside.entries.items
    ∙ (ap (λ (k : ℕ). added (is_before k c.number.result false) new ps) c.requires.of ∙ ap (λ (n : ℕ). added (is_before new.of n false) new ps) c.number.ensures)) in
    let other = subst (λ (x : Listed Pair). (p : Pair) → In p x.items → p ≢ new) (sym c.self.view_is) c.requires.other in
    (subst (HasPut ps new) (sym made) (has_put new ps c.self.invariant other)).order

pub returns : goal.returns
returns g c =
    let pair = g.T.Entry.pair in
    let new = pair c.args.new in
    let ps = map pair c.self.inside.entries.items in
    let made : map pair c.add.new.self.items ≡ added (is_before new.of new.number false) new ps = ap (map pair) c.add.ensures
    ∙ (added_map pair (is_before (g.S.Sought.of c.args.of.now) c.number.result false) c.args.new c.self.inside.entries.items
    ∙ (ap (λ (k : ℕ). added (is_before k c.number.result false) new ps) c.requires.of ∙ ap (λ (n : ℕ). added (is_before new.of n false) new ps) c.number.ensures)) in
    let other = subst (λ (x : Listed Pair). (p : Pair) → In p x.items → p ≢ new) (sym c.self.view_is) c.requires.other in
    subst (λ (x : Listed Pair). HasPut x.items new (map pair c.add.new.self.items)) c.self.view_is (subst (HasPut ps new) (sym made) (has_put new ps c.self.invariant other))
