use Rattle.std.proofs.Common.{true, false, ◌-◌, sym, subst, refl, arith, inl, ◌∙◌}
use Rattle.nfs_tree.specs.Listing.{listed_of}
use Rattle.nfs_xdr.specs.Tables.{In}
use Rattle.nfs_names.specs.{State.state_of, ReadDir.entry_of}
use Rattle.nfs_results.specs.Straight.{entry_text}
use Rattle.nfs_attrs.specs.declared.mask.Mask.{Mask}
use Rattle.nfs_names.specs.Lists.{PutsWithin}
use Rattle.nfs_names.proofs.Entering.{AllThere, going_starts, going_on, going_stops, going_ends, listed_there, found_there, found_measured, ended_lists}
use Rattle.nfs_names.proofs.listing.put_entries.Goals as goal

pub loop-entry-init : goal.loop-entry-init
loop-entry-init c =
    let t = c.args.store.now.tree in (
      going_starts t (entry_of (state_of c.args.store.now) c.new-wanted.result) c.args.out.now (c.given.result - 16) c.list-listing.result
          (subst (AllThere t) (sym c.list-listing.ensures) (listed_there t c.args.place.now.number c.args.asked.now.cookie c.kept.ensures)),
      c.in_turn-objects.ensures,
      refl,
    )

pub put_entry-requires-clause-there : goal.put_entry-requires-clause-there
put_entry-requires-clause-there c =
    (found_measured c.args.store.now.tree c.loop-entry.objects c.in-Some.entry.number _ c.loop-entry.invariant.1 c.in-Some-object_and_size.ensures.found).0

pub put_entry-requires-clause-size : goal.put_entry-requires-clause-size
put_entry-requires-clause-size c =
    (found_measured c.args.store.now.tree c.loop-entry.objects c.in-Some.entry.number _ c.loop-entry.invariant.1 c.in-Some-object_and_size.ensures.found).1

pub returns-in_default-object_and_size-clause-put : goal.returns-in_default-object_and_size-clause-put
returns-in_default-object_and_size-clause-put c =
    let e = listed_of c.in-Some.entry in
    absurd (found_there c.args.store.now.tree c.loop-entry.objects e.number c.loop-entry.invariant.1
    (c.loop-entry.invariant.0.there e (subst (In e) (sym c.in-Some.ensures.steps) (inl refl))) c.in_default-object_and_size.ensures.found)

pub returns-in_default-object_and_size-clause-all : goal.returns-in_default-object_and_size-clause-all
returns-in_default-object_and_size-clause-all c =
    let e = listed_of c.in-Some.entry in
    absurd (found_there c.args.store.now.tree c.loop-entry.objects e.number c.loop-entry.invariant.1
    (c.loop-entry.invariant.0.there e (subst (In e) (sym c.in-Some.ensures.steps) (inl refl))) c.in_default-object_and_size.ensures.found)

pub returns-then-not-put_entry : goal.returns-then-not-put_entry
returns-then-not-put_entry c =
    let s = state_of c.args.store.now in
    let g = c.given.result in
    let put = subst (λ (m : Mask). PutsWithin false c.loop-entry.room c.loop-entry.out c.put_entry.new.out (entry_text (entry_of (state_of c.args.store.now) m (listed_of c.in-Some.entry))))
    c.loop-entry.invariant.2 c.if-not-put_entry.ensures.put in
    let ended = going_stops c.args.store.now.tree (entry_of s c.new-wanted.result) c.args.out.now c.loop-entry.out c.put_entry.new.out
    (g - 16) c.loop-entry.room c.list-listing.result c.loop-entry.listing c.next.new.self
    (listed_of c.in-Some.entry) c.loop-entry.invariant.0 c.in-Some.ensures.steps put in
    let lists = ended_lists s c.args.asked.now c.args.place.now c.args.out.now c.put_entry.new.out c.new-wanted.result
    g c.list-listing.result _ ended (c.new-wanted.ensures ∙ c.mask_in.ensures) c.given.ensures.value c.list-listing.ensures c.requires.count in
    record { put = lists.0; all = lists.1 }

pub loop-entry-preserved : goal.loop-entry-preserved
loop-entry-preserved c =
    let put = subst (λ (m : Mask). PutsWithin true c.loop-entry.room c.loop-entry.out c.put_entry.new.out (entry_text (entry_of (state_of c.args.store.now) m (listed_of c.in-Some.entry))))
    c.loop-entry.invariant.2 c.if-not-put_entry.ensures.put in (
      going_on c.args.store.now.tree (entry_of (state_of c.args.store.now) c.new-wanted.result) c.args.out.now c.loop-entry.out c.put_entry.new.out
          (c.given.result - 16) c.loop-entry.room
          (c.loop-entry.room - (c.len.result - c.len-before.result)) c.list-listing.result c.loop-entry.listing c.next.new.self
          (listed_of c.in-Some.entry) c.loop-entry.invariant.0 c.in-Some.ensures.steps put
          (let now = c.len.ensures.value in let before = c.len-before.ensures.value in omega arith),
      c.object_and_size.ensures.same ∙ c.loop-entry.invariant.1,
      c.if-not-put_entry.ensures.same ∙ c.loop-entry.invariant.2,
    )

pub returns : goal.returns
returns c =
    let s = state_of c.args.store.now in
    let g = c.given.result in
    let ended = going_ends c.args.store.now.tree (entry_of s c.new-wanted.result) c.args.out.now c.loop-entry.out
    (g - 16) c.loop-entry.room c.list-listing.result c.loop-entry.listing c.loop-entry.invariant.0 c.in_default.ensures.steps.0 in
    let lists = ended_lists s c.args.asked.now c.args.place.now c.args.out.now c.loop-entry.out c.new-wanted.result
    g c.list-listing.result _ ended (c.new-wanted.ensures ∙ c.mask_in.ensures) c.given.ensures.value c.list-listing.ensures c.requires.count in
    record { put = lists.0; all = lists.1 }
