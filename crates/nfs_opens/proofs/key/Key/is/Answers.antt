use Rattle.std.proofs.Common.{◌∙◌, sym, arith}
use Rattle.nfs_opens.proofs.KeyLemmas.{key_is}
use Rattle.nfs_opens.proofs.key.Key.is.Goals as goal

pub returns-clause-key : goal.returns-clause-key
returns-clause-key c =
    let k = c.args.self.now in
    let o = c.args.other.now in
    c.eq.ensures ∙ sym (key_is k.file k.client k.owner.now o.file o.client o.owner.now
    (omega (arith, c.type_inv.self)) (omega (arith, c.type_inv.self)) (omega (arith, c.type_inv.other)) (omega (arith, c.type_inv.other))
    c.are_bytes.ensures c.are_bytes-2.ensures)
