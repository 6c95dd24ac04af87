use Rattle.std.proofs.Common.{◌∙◌, sym, ap}
use Rattle.nfs_results.specs.{CompoundResult.compound_result, ReadReply.{whole, is_whole}, ResultCodec.result}
use Rattle.nfs_xdr.specs.Codec.{many_at}
use Rattle.nfs_results.proofs.ReplyLaws.{reply_from}
use Rattle.nfs_results.proofs.reply.read.Goals as goal

pub returns : goal.returns
returns c = ap (λ bytes. whole (compound_result.read bytes)) (sym c.new-cursor.ensures)
    ∙ reply_from c.new-cursor.result _ _ _ _ _ _ c.in_ok-status.ensures c.in_ok-tag.ensures.exact c.in_ok-left.ensures.exact
    (ap (λ bytes. is_whole (many_at result.read c.in_ok-left.left bytes)) (sym c.rest.ensures) ∙ sym c.are_whole.ensures ∙ c.if-not-are_whole.false)
