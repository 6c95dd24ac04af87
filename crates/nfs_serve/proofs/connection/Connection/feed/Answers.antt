use Rattle.std.proofs.{Common.{◌≡◌, sym, ap, ◌∙◌, false}, lemmas.List.nil_from_length, lemmas.Bool.eqb-true}
use Rattle.nfs_rpc.specs.{Feeding.waits, RecordMarking.is_too_long}
use Rattle.nfs_serve.specs.Server.{state_of}
use Rattle.nfs_serve.proofs.Pieces.{taking_start, taking_empty}
use Rattle.nfs_serve.proofs.connection.Connection.feed.Goals as goal

pub returns-then-is_empty-clause-fed : goal.returns-then-is_empty-clause-fed
returns-then-is_empty-clause-fed g c =
    let none = nil_from_length c.args.entry.now.piece.now (eqb-true _ _ (sym c.is_empty.ensures ∙ c.if-is_empty.true)) in
    let waits_not : waits c.args.self.now ≡ false = ap waits (sym c.self.view_is) ∙ c.self.invariant in
    let going : is_too_long c.args.self.now ≡ false = ap is_too_long (sym c.self.view_is) ∙ sym c.is_too_long.ensures ∙ c.if-is_too_long.false in
    taking_empty (taking_start (state_of c.args.engine.now.kept) c.args.self.now c.args.entry.now.conn c.args.entry.now.moment
    c.args.form c.args.entry.now.piece.now (g.W.Sink.held c.args.out.now)) none going waits_not going c.requires.bytes c.requires.out
