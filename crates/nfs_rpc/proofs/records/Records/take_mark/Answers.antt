use Rattle.std.proofs.{Common.{◌≡◌, ◌+◌, [], length, take, refl, ap, ◌∙◌, arith}, lemmas.List.{length-append, length-take}}
use Rattle.nfs_rpc.specs.RecordMarking.{Part}
use Rattle.nfs_rpc.proofs.Shares.{begun_fields, mark_whole}
use Rattle.nfs_rpc.proofs.records.Records.take_mark.Goals as goal

pub returns : goal.returns
returns c = λ p e.
    let b = begun_fields c.self.inside.state _ p (c.self.view_is ∙ e) in
    let r = begun_fields c.self.inside.state _ c.requires.0 (c.self.view_is ∙ c.requires.1) in
    let short : length (take c.self.inside.marked c.self.inside.mark) ≡ length c.requires.0.mark = ap (λ (x : Part). length x.mark) r.1 in
    let four : c.self.inside.marked + length c.args.bytes.now ≡ 4 =
    omega (arith, c.if-end-lt4.false, c.requires.3, short, length-take c.self.inside.marked c.self.inside.mark) in
    let grown = c.write_behind.ensures.whole four in
    mark_whole _ p c.args.bytes.now c.write_behind.new.mark c.from_be_bytes-word.result c.open_fragment.new.self b.1 grown
    (omega (
      arith,
      ap length grown,
      length-append (take c.self.inside.marked c.self.inside.mark) c.args.bytes.now,
      length-take c.self.inside.marked c.self.inside.mark,
      c.self.told,
      four,
    ))
    c.from_be_bytes-word.ensures
    (c.open_fragment.ensures (record { taken = c.self.inside.taken.items; mark = []; lacking = c.self.inside.lacking; last = c.self.inside.last })
    (rw b.0 refl))

pub open_fragment-requires : goal.open_fragment-requires
open_fragment-requires c =
    let b = begun_fields c.self.inside.state _ c.requires.0 (c.self.view_is ∙ c.requires.1) in (
      record { taken = c.self.inside.taken.items; mark = []; lacking = c.self.inside.lacking; last = c.self.inside.last },
      rw b.0 refl,
      ap (λ (x : Part). x.lacking) b.1 ∙ c.requires.2,
      refl,
    )
