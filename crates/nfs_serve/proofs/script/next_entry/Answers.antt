use Rattle.std.proofs.Common.{◌≡◌, ◌<◌, ◌+◌, None, rules, arith, sym, subst, ◌∙◌, ◌++◌, length, take, take_all, length-append, length-take-le}
use Rattle.std.proofs.KnownBytes.{Consumes-trans}
use Rattle.std.specs.Io.KnownBytes.{Consumes}
use Rattle.nfs_serve.specs.Script.{head, refusal}
use Rattle.nfs_serve.proofs.Entries.{length-head, partial_piece, stops_short, refused_stops}
use Rattle.nfs_serve.proofs.script.next_entry.Goals as goal

pub returns-then-fill-len-clause-read : goal.returns-then-fill-len-clause-read
returns-then-fill-len-clause-read g c =
    let part = take c.fill.result c.fill.new.buf in
    let h = head c.head_of-moment.result.0 c.head_of-moment.result.1 c.head_of-moment.result.2 in
    let none : refusal c.head_of-moment.result.0 c.head_of-moment.result.1 c.head_of-moment.result.2 ≡ None = search rules in
    let long : length (h ++ part) ≡ length h + length part = length-append h part in
    let some : 0 < length (h ++ part) = omega (arith, long, length-head c.head_of-moment.result.0 c.head_of-moment.result.1 c.head_of-moment.result.2) in
    let few : length part < c.head_of-moment.result.2 = rw (length-take-le c.fill.result c.fill.new.buf c.fill.ensures.bound) c.if-fill-len.true in
    let told = stops_short (g.R.Source.left c.fill.new.r) (h ++ part) _ _ (partial_piece _ _ _ part none few) some (c.fill.ensures.short (search rules)) in (
      h ++ part,
      Consumes-trans _ _ _ _ _ (subst (Consumes _ _) (take_all _ _ (search rules) ∙ c.head_of-moment.ensures.0) c.fill-came.ensures.bytes) c.fill.ensures.bytes,
      rw c.short_of-then-fill-len.ensures told.0,
      rw c.short_of-then-fill-len.ensures told.1,
    )

pub returns-in-Some-clause-read : goal.returns-in-Some-clause-read
returns-in-Some-clause-read g c =
    let came : c.fill-came.result ≡ length c.fill-came.new.buf = search rules in
    let (stops, told) = refused_stops (g.R.Source.left c.fill-came.new.r) _ _ _ c.fill-came.new.buf c.in-Some.stop (g.R.Source.has_ended c.fill-came.new.r)
    (g.R.Source.has_failed c.fill-came.new.r) (c.fill-came.ensures.full came).0 c.head_of-moment.ensures (sym c.refusal_of.ensures ∙ c.in-Some.is) in
    (c.fill-came.new.buf, subst (Consumes _ _) (take_all _ _ (search rules)) c.fill-came.ensures.bytes, stops, told)
