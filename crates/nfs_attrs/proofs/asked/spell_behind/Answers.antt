use Rattle.std.proofs.{Common.{◌≡◌, ◌-◌, ◌++◌, List, ℕ, length, sym, ap, ◌∙◌, arith}, lemmas.List.{length-append, length-take-le}, Math.Seq.take-append_seam}
use Rattle.nfs_xdr.specs.{SheetState.{SheetState}, Spelling.{number, opaque}}
use Rattle.nfs_xdr.proofs.Putting.{length_number}
use Rattle.nfs_attrs.specs.{Attributes.{values, readable}, Mask.{common, spell_mask}}
use Rattle.nfs_attrs.proofs.{Bounds.{attributes_within, told_within}, Counted.{counted, same_sheet}}
use Rattle.nfs_attrs.proofs.asked.spell_behind.Goals as goal

pub put_u32-requires : goal.put_u32-requires
put_u32-requires c =
    record {
      room = omega (
        arith,
        ap length c.requires.begins.1,
        told_within c.args.mask.now (readable c.args.about.now.profile),
        c.requires.room,
        ap (λ (s : SheetState). length s.bytes) c.cut.ensures,
        ap (λ (s : SheetState). s.room) c.cut.ensures,
        length_number 0,
      );
    }

pub put_values-requires : goal.put_values-requires
put_values-requires c =
    record {
      room = omega (
        arith,
        ap length c.requires.begins.1,
        told_within c.args.mask.now (readable c.args.about.now.profile),
        c.requires.room,
        ap (λ (s : SheetState). length s.bytes) c.cut.ensures,
        ap (λ (s : SheetState). s.room) c.cut.ensures,
        length_number 0,
        c.put_u32.ensures.room,
        ap length c.put_u32.ensures.bytes,
        length-append c.cut.new.self.bytes (number 0),
        attributes_within c.args.mask.now c.args.about.now c.args.object.now,
      );
    }

pub overflow_cast-count : goal.overflow_cast-count
overflow_cast-count c =
    let text = values c.args.mask.now c.args.about.now c.args.object.now in
    omega (
      arith,
      attributes_within c.args.mask.now c.args.about.now c.args.object.now,
      c.len-before.ensures,
      c.len.ensures,
      ap length c.put_values.ensures.put.bytes,
      length-append c.put_u32.new.self.bytes text,
    )

pub set_u32-requires : goal.set_u32-requires
set_u32-requires c =
    let text = values c.args.mask.now c.args.about.now c.args.object.now in
    record {
      within = omega (
        arith,
        c.requires.begins.0,
        length-take-le c.args.front c.args.text.now.bytes c.requires.begins.0,
        ap (λ (s : SheetState). length s.bytes) c.cut.ensures,
        length_number 0,
        ap length c.put_u32.ensures.bytes,
        length-append c.cut.new.self.bytes (number 0),
        ap length c.put_values.ensures.put.bytes,
        length-append c.put_u32.new.self.bytes text,
      );
    }

pub returns-clause-text : goal.returns-clause-text
returns-clause-text c =
    let text = values c.args.mask.now c.args.about.now c.args.object.now in
    let here : c.args.front ≡ length c.cut.new.self.bytes = omega (
      arith,
      length-take-le c.args.front c.args.text.now.bytes c.requires.begins.0,
      ap (λ (s : SheetState). length s.bytes) c.cut.ensures,
    ) in
    let size : c.len.result - c.len-before.result ≡ length text = omega (
      arith,
      c.len-before.ensures,
      c.len.ensures,
      ap length c.put_values.ensures.put.bytes,
      length-append c.put_u32.new.self.bytes text,
    ) in
    let all = counted c.cut.new.self c.put_u32.new.self c.put_values.new.out text c.args.front (c.len.result - c.len-before.result)
    c.put_u32.ensures c.put_values.ensures.put c.put_values.ensures.words here size in
    let front : c.cut.new.self.bytes ≡ spell_mask (common c.args.mask.now (readable c.args.about.now.profile)) =
    ap (λ (s : SheetState). s.bytes) c.cut.ensures ∙ c.requires.begins.1 in
    let bytes = all.bytes ∙ ap (λ (w : List ℕ). w ++ opaque text) front in
    let room = all.room ∙ ap (λ (s : SheetState). s.room) c.cut.ensures in
    c.set_u32.ensures ∙ same_sheet bytes room

pub returns-clause-begins : goal.returns-clause-begins
returns-clause-begins c =
    let head = spell_mask (common c.args.mask.now (readable c.args.about.now.profile)) in
    let text = values c.args.mask.now c.args.about.now c.args.object.now in
    let size : c.args.front ≡ length head = sym (length-take-le c.args.front c.args.text.now.bytes c.requires.begins.0) ∙ ap length c.requires.begins.1 in
    rw (returns-clause-text c, size) (omega (arith, length-append head (opaque text)), take-append_seam head (opaque text))
