use Rattle.std.proofs.{Common.{◌≡◌, ◌<◌, length, sym, ap, ◌∙◌, subst, arith}, lemmas.List.{nil_from_length, get_or_read_under}}
use Rattle.std.proofs.lemmas.Bool.{eqb-true, eqb-false}
use Rattle.nfs_serve.specs.{declared.form.Form.TheVariants.Tagged, Script.Entry, Reading.entry, Server.{fresh, held_on, Feeds, state_of}}
use Rattle.nfs_serve.proofs.Runs.{entry_fed, entry_closed}
use Rattle.nfs_serve.proofs.running.run_entry.Goals as goal

pub returns-then-is_empty-clause-ran : goal.returns-then-is_empty-clause-ran
returns-then-is_empty-clause-ran g c =
    let e : Entry = entry c.args.entry.now in
    let none = nil_from_length c.args.entry.now.piece.now (eqb-true _ _ (sym c.is_empty.ensures ∙ c.if-is_empty.true)) in
    let within : c.args.entry.now.conn < length c.args.connections.now = omega (arith, c.requires.connections, c.requires.conn) in
    rw c.close.ensures (entry_closed (state_of c.args.engine.now.kept) (g.W.Sink.held c.args.w.now) c.args.connections.now e within none, c.requires.write)

pub returns-in-Ok-clause-ran : goal.returns-in-Ok-clause-ran
returns-in-Ok-clause-ran g c =
    let e : Entry = entry c.args.entry.now in
    let within : c.args.entry.now.conn < length c.args.connections.now = omega (arith, c.requires.connections, c.requires.conn) in
    let is : c.index-connections-conn-2.result ≡ held_on c.args.connections.now c.args.entry.now.conn = get_or_read_under c.args.connections.now
    c.args.entry.now.conn 16 _ fresh c.index-connections-conn-2.is (omega (arith, c.requires.conn)) (sym c.requires.connections) in
    let (fed, flow, well) = c.in-Ok.ensures.fed in (
      entry_fed c.args.connections.now c.feed.new.self e within (λ none. eqb-false _ _ (sym c.is_empty.ensures ∙ c.if-is_empty.false) (ap length none))
          (subst (λ h. Feeds (state_of c.args.engine.now.kept) (state_of c.feed.new.engine.kept) h c.feed.new.self c.args.entry.now.conn c.args.entry.now.moment
          c.args.entry.now.piece.now Tagged (g.W.Sink.held c.args.w.now) (g.W.Sink.held c.feed.new.out)) (sym c.index-connections-conn-2.is ∙ is) fed),
      well,
    )
