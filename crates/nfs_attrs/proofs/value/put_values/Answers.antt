use Rattle.std.proofs.Common.{◌≡◌, ◌%◌, ℕ, List, length, sym, subst}
use Rattle.nfs_xdr.specs.SheetState.{HasRoom, Puts}
use Rattle.nfs_attrs.proofs.Least.{same_values}
use Rattle.nfs_attrs.proofs.value.put_values.Goals as goal

pub put_each-requires : goal.put_each-requires
put_each-requires c =
    let same = same_values c.args.asked.now c.common.result c.args.about.now c.args.object.now c.common.ensures in
    record { room = subst (HasRoom c.args.out.now) (sym same) c.requires.room }

pub returns-clause-put : goal.returns-clause-put
returns-clause-put c =
    let same = same_values c.args.asked.now c.common.result c.args.about.now c.args.object.now c.common.ensures in
    subst (Puts c.args.out.now c.put_each.new.out) same c.put_each.ensures.put

pub returns-clause-words : goal.returns-clause-words
returns-clause-words c =
    let same = same_values c.args.asked.now c.common.result c.args.about.now c.args.object.now c.common.ensures in
    subst (λ (text : List ℕ). length text % 4 ≡ 0) same c.put_each.ensures.words
