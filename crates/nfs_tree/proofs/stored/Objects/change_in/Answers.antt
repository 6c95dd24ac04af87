use Rattle.std.proofs.Common.{◌≡◌, ◌∙◌, true, false, cond, refl, ap, sym}
use Rattle.std.specs.Prelude.{◌==◌}
use Rattle.nfs_xdr.proofs.Tables.{with_none}
use Rattle.nfs_tree.specs.{declared.stored.Objects.TheInside.Inside, declared.stored.Stored.Stored, Object.changed, Files.{stored_in, change_at, with_changed}, Stored.numbered}
use Rattle.nfs_tree.proofs.{IndexedLemmas.{can_of, written_as}, Summed.summed_same}
use Rattle.nfs_tree.proofs.stored.Objects.change_in.Goals.{in-Some, in_default}
use Rattle.nfs_tree.proofs.stored.Objects.change_in.Goals as goal

pub note-requires : goal.note-requires
note-requires c = can_of c.args.self.now c.args.number (numbered c.args.number c.in-Some.stored.now)
    (ap (λ xs. stored_in xs c.args.number) (sym c.self.view_is) ∙ sym c.in-Some.ensures.value) c.requires

-- what is left of the objects
left : (c : goal.Joined-get_mut) → c.match-get_mut.self-inside.shelf.items ≡ with_changed c.args.number c.args.now c.args.sets.now c.self.inside.shelf.items
left c =
    let n = c.args.number in
    let f = λ (s : Stored). record s { object = changed c.args.now c.args.sets.now s.object } in
    elim c.match-get_mut.branch [
      | in-Some w ↦ ap (λ (o : Inside). o.shelf.items) w.self-inside-is
          ∙ written_as f c.self.inside.shelf.items n w.in-Some.stored.now (record w.in-Some.stored.now { object = w.note.new.self }) w.in-Some.ensures.one (ap (λ o. numbered n (record w.in-Some.stored.now { object = o })) w.note.ensures)
      | in_default w ↦ ap (λ (o : Inside). o.shelf.items) w.self-inside-is
          ∙ sym (with_none (λ (s : Stored). s.number) f n c.self.inside.shelf.items (sym w.in_default.ensures.value))
    ]

pub invariant_of-self : goal.invariant_of-self
invariant_of-self c =
    let n = c.args.number in
    let counted : c.match-get_mut.self-inside.pages ≡ c.self.inside.pages = elim c.match-get_mut.branch [
      | in-Some w ↦ ap (λ (o : Inside). o.pages) w.self-inside-is
      | in_default w ↦ ap (λ (o : Inside). o.pages) w.self-inside-is
    ] in
    rw (left c, counted) (summed_same c.self.inside.shelf.items c.self.inside.pages (change_at n c.args.now c.args.sets.now)
    (λ s. elim (s.number == n) as (λ v. (cond v (record s { object = changed c.args.now c.args.sets.now s.object }) s).pages ≡ s.pages) [ true ↦ refl | false ↦ refl ]) c.self.invariant)

pub returns : goal.returns
returns c = rw (← c.self.view_is) (left c)
