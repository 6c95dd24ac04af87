use Rattle.std.proofs.Common.{◌∙◌, arith}
use Rattle.nfs_opens.proofs.KeyLemmas.{key_ordered}
use Rattle.nfs_opens.proofs.key.Key.compare.Goals as goal

pub returns : goal.returns
returns c =
    let k = c.args.self.now in
    let o = c.args.other.now in
    c.cmp.ensures ∙ key_ordered k.file k.client k.owner.now o.file o.client o.owner.now
    (omega (arith, c.type_inv.self)) (omega (arith, c.type_inv.self)) (omega (arith, c.type_inv.other)) (omega (arith, c.type_inv.other))
    c.are_bytes.ensures c.are_bytes-2.ensures
