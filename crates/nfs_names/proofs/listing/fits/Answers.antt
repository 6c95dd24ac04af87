use Rattle.std.proofs.{Common.{◌≤◌, ◌+◌, ◌∙◌, length, sym, arith}, lemmas.Bool.le-leb}
use Rattle.nfs_results.specs.Straight.{entry_head}
use Rattle.nfs_attrs.specs.Attributes.{spell_attrs}
use Rattle.nfs_attrs.proofs.Bounds.{attrs_within}
use Rattle.nfs_names.proofs.Entering.{length_entry_head}
use Rattle.nfs_names.proofs.listing.fits.Goals as goal

pub returns-then-name-room : goal.returns-then-name-room
returns-then-name-room c =
    let name = c.args.name.now in
    let asked = c.args.asked.now in
    let about = c.args.about.now in
    let object = c.args.object.now in
    let whole : length (entry_head 0 name) + length (spell_attrs asked about object) ≤ c.args.room =
    omega (arith, length_entry_head 0 name, attrs_within asked about object) in
    le-leb _ _ c.if-name-room.true ∙ sym (le-leb _ _ whole)
