use Rattle.std.proofs.{Common.{◌≡◌, length, ap, ◌∙◌, arith}}
use Rattle.nfs_xdr.specs.SheetState.{SheetState}
use Rattle.nfs_attrs.specs.{Attributes.readable, Mask.{common, spell_mask}}
use Rattle.nfs_attrs.proofs.Bounds.{told_within}
use Rattle.nfs_attrs.proofs.asked.spell_front.Goals as goal

pub put-requires : goal.put-requires
put-requires c =
    let shown : c.common.result ≡ common c.args.mask.now (readable c.args.profile) = c.common.ensures ∙ ap (common c.args.mask.now) c.readable.ensures in
    record {
      room = omega (
        arith,
        ap (λ m. length (spell_mask m)) shown,
        told_within c.args.mask.now (readable c.args.profile),
        c.requires.room,
        ap (λ (s : SheetState). length s.bytes) c.cut.ensures,
        ap (λ (s : SheetState). s.room) c.cut.ensures,
      );
    }
