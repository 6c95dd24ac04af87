use Rattle.std.proofs.{Common.{ℕ, List, refl, sym, subst, arith, ◌∙◌}, lemmas.Bool.{leb-true, leb-false}}
use Rattle.nfs_xdr.specs.SheetState.{Puts}
use Rattle.nfs_xdr.proofs.Putting.{puts_then}
use Rattle.nfs_results.specs.Straight.{entry_head}
use Rattle.nfs_tree.specs.Listing.{listed_of}
use Rattle.nfs_attrs.specs.Attributes.{spell_attrs}
use Rattle.nfs_names.specs.State.{state_of}
use Rattle.nfs_names.proofs.{Masks.room_then, Entering.{length_entry_head, entry_parts, entry_length, told_as_asked}}
use Rattle.nfs_names.proofs.listing.put_entry.Goals as goal

pub returns-then-not-fits : goal.returns-then-not-fits
returns-then-not-fits c =
    let e = listed_of c.args.entry.now in
    let told = told_as_asked (state_of c.args.store.now) c.mask.result c.args.asked.now
    (record { number = c.args.entry.now.number; object = c.args.object.now }) c.about-about.result c.mask.ensures c.about-about.ensures.values in
    let size = entry_length (state_of c.args.store.now) c.args.asked.now e c.args.object.now c.about-about.result c.requires.there told c.about-about.ensures.profile in
    record { put = (omega (arith, size, leb-false _ _ (sym c.fits.ensures ∙ c.if-not-fits.true)), refl); same = refl }

pub write_entry-requires : goal.write_entry-requires
write_entry-requires c =
    let e = listed_of c.args.entry.now in
    let head = length_entry_head e.cookie e.name in
    let first = length_entry_head 0 e.name in
    let whole = leb-true _ _ (sym c.fits.ensures ∙ c.if-not-fits.false) in
    record { name = omega arith; room = omega arith }

pub write_asked-requires : goal.write_asked-requires
write_asked-requires c =
    let e = listed_of c.args.entry.now in
    let head = length_entry_head e.cookie e.name in
    let first = length_entry_head 0 e.name in
    let whole = leb-true _ _ (sym c.fits.ensures ∙ c.if-not-fits.false) in
    record {
      room = room_then c.args.out.now c.write_entry.new.out (entry_head e.cookie e.name)
          (spell_attrs c.args.asked.now c.about-about.result c.args.object.now) c.args.room c.write_entry.ensures (omega arith) c.requires.room;
    }

pub returns : goal.returns
returns c =
    let s = state_of c.args.store.now in
    let e = listed_of c.args.entry.now in
    let o = c.args.object.now in
    let a = c.about-about.result in
    let told = told_as_asked (state_of c.args.store.now) c.mask.result c.args.asked.now
    (record { number = c.args.entry.now.number; object = c.args.object.now }) c.about-about.result c.mask.ensures c.about-about.ensures.values in
    let size = entry_length s c.args.asked.now e o a c.requires.there told c.about-about.ensures.profile in
    record {
      put = (
        omega (arith, size, leb-true _ _ (sym c.fits.ensures ∙ c.if-not-fits.false)),
        subst (λ (text : List ℕ). Puts c.args.out.now c.write_asked.new.sheet text)
            (sym (entry_parts s c.args.asked.now e o a c.requires.there told c.about-about.ensures.profile)) (puts_then c.write_entry.ensures c.write_asked.ensures.put),
      );
      same = c.write_asked.ensures.same;
    }
