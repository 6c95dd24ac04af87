use Rattle.std.proofs.Common.{◌≡◌, ◌≤◌, length, drop, ap, subst, ◌∙◌, arith}
use Rattle.nfs_serve.specs.{Ends.Writes, Engine.in_form}
use Rattle.nfs_serve.proofs.Framing.{drop-framed, long-framed, spelled_in_form}
use Rattle.nfs_serve.proofs.engine.Engine.put_reply.Goals as goal

pub in_form-requires : goal.in_form-requires
in_form-requires g c =
    let long : 8 ≤ length c.bytes.result.now = rw (c.bytes.ensures, c.frame.ensures.bytes) (long-framed _ _ _) in
    omega (arith, long)

pub invariant_of-self : goal.invariant_of-self
invariant_of-self g c = (rw c.frame.ensures.bytes (long-framed _ _ _), c.frame.ensures.room ∙ c.self.invariant.1, c.self.invariant.2, c.self.invariant.3)

pub returns-clause-wrote : goal.returns-clause-wrote
returns-clause-wrote g c =
    let is = c.in_form.ensures ∙ ap (in_form c.args.form) (c.bytes.ensures ∙ c.frame.ensures.bytes)
    ∙ spelled_in_form c.args.form c.args.conn (drop 8 c.self.inside.sheet.bytes) in
    rw (← c.self.view_is)
    (subst (λ bytes. Writes c.put.result (g.W.Sink.held c.args.out.now) (g.W.Sink.held c.put.new.w) bytes (g.W.Sink.has_failed c.put.new.w)) is c.put.ensures)

pub returns-clause-same : goal.returns-clause-same
returns-clause-same g c =
    let reply : drop 8 c.frame.new.sheet.bytes ≡ drop 8 c.self.inside.sheet.bytes = ap (drop 8) c.frame.ensures.bytes ∙ drop-framed _ _ _ in
    ap (λ r. record { kept = record { world = c.self.inside.world; moment = c.self.inside.moment }; reply = r }) reply ∙ c.self.view_is
