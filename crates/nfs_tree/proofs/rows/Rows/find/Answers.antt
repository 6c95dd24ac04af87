use Rattle.std.proofs.Common.{◌<◌, ◌^◌, sym, ◌∙◌, ap, arith}
use Rattle.std.specs.Prelude.{option_map}
use Rattle.nfs_tree.specs.Finding.{found_of}
use Rattle.nfs_tree.proofs.MapLemmas.{named_row, named_none, too_long}
use Rattle.nfs_tree.proofs.rows.Rows.find.Goals as goal

pub returns-then-name-gt-MAX_NAME : goal.returns-then-name-gt-MAX_NAME
returns-then-name-gt-MAX_NAME c = rw (← c.self.view_is) (sym (ap (option_map found_of) (too_long _ _ c.self.invariant.named c.args.directory c.args.name.now c.if-name-gt-MAX_NAME.true)))

pub returns-in-None : goal.returns-in-None
returns-in-None c =
    let few : c.args.directory < 2 ^ 64 = omega arith in
    rw (← c.self.view_is) (sym (ap (option_map found_of)
    (named_none _ _ c.self.invariant.named c.args.directory c.args.name.now few (record { each = λ i. omega (arith, c.type_inv.name i) }) (sym c.in-None.ensures))))

pub returns-in-None-row : goal.returns-in-None-row
returns-in-None-row c =
    let few : c.args.directory < 2 ^ 64 = omega arith in
    rw (← c.self.view_is) (ap (option_map found_of) (c.in-None-row.ensures
    ∙ named_row _ _ c.self.invariant.named c.args.directory c.in-Some.cookie c.args.name.now few (record { each = λ i. omega (arith, c.type_inv.name i) }) (sym c.in-Some.ensures)))

pub returns-in-Some-row : goal.returns-in-Some-row
returns-in-Some-row c =
    let few : c.args.directory < 2 ^ 64 = omega arith in
    rw (← c.self.view_is) (ap (option_map found_of) (c.in-Some-row.ensures
    ∙ named_row _ _ c.self.invariant.named c.args.directory c.in-Some.cookie c.args.name.now few (record { each = λ i. omega (arith, c.type_inv.name i) }) (sym c.in-Some.ensures)))
