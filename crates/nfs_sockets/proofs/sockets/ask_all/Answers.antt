use Rattle.std.proofs.Common.{◌≡◌, sym, ◌∙◌, arith, inl, inr}
use Rattle.nfs_sockets.proofs.Spans.{unready, asks_no_more}
use Rattle.nfs_sockets.proofs.sockets.ask_all.Goals as goal

pub loop-port-init : goal.loop-port-init
loop-port-init c =
    let low = c.span-low.result.0 in
    let high = c.span-low.result.1 in
    let order = c.span-low.ensures.order in
    sym (asks_no_more 0 low c.args.connections.now c.args.places.now.guests c.args.sweep c.args.turns.now (omega arith)
    (λ port on less. unready c.args.connections.now 0 c.args.made low high c.span-low.ensures.ready port on (omega (arith, less, order.1, order.2)) (inl less)))

pub returns : goal.returns
returns c =
    let low = c.span-low.result.0 in
    let high = c.span-low.result.1 in
    let order = c.span-low.ensures.order in
    let end : c.loop-port.port ≡ high = omega (arith, c.loop-port.auto.port-end, c.loop-port-test.false) in
    c.loop-port.invariant
    ∙ sym (asks_no_more c.loop-port.port c.args.made c.args.connections.now c.args.places.now.guests c.args.sweep c.args.turns.now (omega (arith, end, order.2))
    (λ port on less. unready c.args.connections.now 0 c.args.made low high c.span-low.ensures.ready port (omega arith) less (inr (omega (arith, end, on)))))
