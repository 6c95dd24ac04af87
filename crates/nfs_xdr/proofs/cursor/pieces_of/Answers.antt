use Rattle.std.proofs.{Common.{◌∙◌, ap, drop}, lemmas.List.drop-drop}
use Rattle.nfs_xdr.proofs.Pieces.{pieces_from}
use Rattle.nfs_xdr.proofs.cursor.pieces_of.Goals as goal

pub returns-clause-exact : goal.returns-clause-exact
returns-clause-exact g c = pieces_from _ _ _ _ _ _ _ c.requires.0 c.in_ok-count.ensures.exact
    c.if-rest-count.false c.split_at.ensures.front c.split_at.ensures.back c.as_chunks.ensures.front

pub returns-clause-behind : goal.returns-clause-behind
returns-clause-behind g c = (_, c.split_at.ensures.back ∙ ap (drop _) c.in_ok-count.ensures.behind ∙ drop-drop _ 4 c.args.bytes.now)
