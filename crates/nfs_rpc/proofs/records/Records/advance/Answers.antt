use Rattle.std.proofs.{Common.{◌≡◌, ℕ, List, [], ◌++◌, length, take, refl, sym, ap, subst, ◌∙◌, arith}, lemmas.List.length-take}
use Rattle.nfs_xdr.proofs.CodecLaws.{IsBytes-take}
use Rattle.nfs_rpc.specs.{RecordMarking.Part, Feeding.Holds}
use Rattle.nfs_rpc.proofs.{Fragments.IsBytes-append, Taking.{data_holds, mark_holds}, Shares.{begun_fields, begun_held, mark_whole}}
use Rattle.nfs_rpc.proofs.records.Records.advance.Goals as goal

pub returns-in-Some-clause-stream : goal.returns-in-Some-clause-stream
returns-in-Some-clause-stream c = λ rest fits h.
    let b = begun_held c.args.self.now c.requires.begun in
    let f = begun_fields c.self.inside.state _ b.0 (c.self.view_is ∙ b.1) in
    let front : List ℕ = take 4 c.args.piece.now in
    let none : b.0.mark ≡ [] = sym (ap (λ (p : Part). p.mark) f.1) ∙ ap (λ n. take n c.self.inside.mark) c.if-self-eq0-2.true in
    let four : length front ≡ 4 = omega (arith, length-take 4 c.args.piece.now, c.in-Some.ensures.cases.enough) in
    rw (mark_whole b.0 b.0 front c.in-Some.mark.now c.from_be_bytes.result c.open_fragment.new.self refl
    (c.in-Some.ensures.cases.same ∙ ap (λ w. w ++ front) (sym none)) (ap length c.in-Some.ensures.cases.same ∙ four)
    c.from_be_bytes.ensures (c.open_fragment.ensures b.0 b.1))
    (mark_holds rest b.0 front (sym (ap (λ (p : Part). p.lacking) f.1) ∙ c.if-self-eq0.true) (omega (arith, ap length none, four))
    (IsBytes-append rest _ fits (IsBytes-take 4 c.args.piece.now (record { each = λ i. omega (arith, c.type_inv.piece i) })))
    (subst (Holds rest) b.1 h))

pub returns-in_default-clause-stream : goal.returns-in_default-clause-stream
returns-in_default-clause-stream c = λ rest fits h.
    let b = begun_held c.args.self.now c.requires.begun in
    let f = begun_fields c.self.inside.state _ b.0 (c.self.view_is ∙ b.1) in
    let marked : length (take c.self.inside.marked c.self.inside.mark) ≡ length b.0.mark = ap (λ (p : Part). length p.mark) f.1 in
    rw (c.take_mark.ensures b.0 b.1)
    (mark_holds rest b.0 (take c.min-used.result c.args.piece.now) (sym (ap (λ (p : Part). p.lacking) f.1) ∙ c.if-self-eq0.true)
    (omega (
      arith,
      marked,
      length-take c.self.inside.marked c.self.inside.mark,
      length-take c.min-used.result c.args.piece.now,
      c.min-used.ensures,
      c.self.told,
    ))
    (IsBytes-append rest _ fits (IsBytes-take c.min-used.result c.args.piece.now (record { each = λ i. omega (arith, c.type_inv.piece i) })))
    (subst (Holds rest) b.1 h))

pub returns-else-self-eq0-clause-stream : goal.returns-else-self-eq0-clause-stream
returns-else-self-eq0-clause-stream c = λ rest fits h.
    let b = begun_held c.args.self.now c.requires.begun in
    let f = begun_fields c.self.inside.state _ b.0 (c.self.view_is ∙ b.1) in
    let lacking : c.self.inside.lacking ≡ b.0.lacking = ap (λ (p : Part). p.lacking) f.1 in
    rw (c.take_data.ensures b.0 b.1)
    (data_holds rest b.0 (take c.min-used-else-self-eq0.result c.args.piece.now)
    (omega (arith, lacking, c.if-self-eq0.false))
    (omega (arith, lacking, length-take c.min-used-else-self-eq0.result c.args.piece.now, c.min-used-else-self-eq0.ensures))
    (subst (Holds rest) b.1 h))
