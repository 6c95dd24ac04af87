use Rattle.std.proofs.Common.{◌≡◌, ◌-◌, ℕ, List, length, sym, ◌∙◌, ap, subst, arith}
use Rattle.nfs_xdr.proofs.Tables.{with_none}
use Rattle.nfs_tree.specs.{declared.stored.Stored.Stored, Bytes.{with_bytes, with_size}, Files.stored_in, Stored.{numbered, content_of}, TreeInvariants.AreSummed}
use Rattle.nfs_tree.proofs.{IndexedLemmas.{can_of, written_as}, Summed.{has_pages, summed_with}}
use Rattle.nfs_tree.proofs.stored.Objects.resize_in.Goals as goal

pub resize-fewer-requires-clause-change : goal.resize-fewer-requires-clause-change
resize-fewer-requires-clause-change c = can_of c.args.self.now c.args.number (numbered c.args.number c.in-Some.stored.now)
    (ap (λ xs. stored_in xs c.args.number) (sym c.self.view_is) ∙ sym c.in-Some.ensures.value) c.requires.change

pub overflow_sub-self : goal.overflow_sub-self
overflow_sub-self c =
    let has = has_pages c.self.inside.shelf.items c.args.number (numbered c.args.number c.in-Some.stored.now) c.self.inside.pages (sym c.in-Some.ensures.value) c.self.invariant in
    let within = has.within in
    let fewer = c.resize-fewer.ensures.fewer in
    let is = c.from.ensures in
    omega arith

pub invariant_of-self : goal.invariant_of-self
invariant_of-self c =
    let n : ℕ = c.args.number in
    let xs : List Stored = c.self.inside.shelf.items in
    let old : Stored = numbered n c.in-Some.stored.now in
    let f = λ (s : Stored). with_bytes c.args.now c.args.sets.now (with_size (content_of s) c.args.size) s in
    let has = has_pages xs n old c.self.inside.pages (sym c.in-Some.ensures.value) c.self.invariant in
    let within = has.within in
    let small = has.few in
    let after : numbered n c.resize-fewer.new.self ≡ f old = c.resize-fewer.ensures.after n in
    let long : length (f old).pages ≡ length c.resize-fewer.new.self.bytes.pages = ap (λ (s : Stored). length s.pages) (sym after) in
    let fewer = c.resize-fewer.ensures.fewer in
    let is = c.from.ensures in
    subst (λ (ys : List Stored). AreSummed ys (c.self.inside.pages - c.from.result)) (sym (written_as f xs n c.in-Some.stored.now c.resize-fewer.new.self c.in-Some.ensures.one after))
    (summed_with xs n f old c.self.inside.pages (c.self.inside.pages - c.from.result) 0 c.from.result c.kept.ensures.rising (sym c.in-Some.ensures.value)
    (omega arith) (omega arith) (omega arith) c.self.invariant)

pub returns-in-Some : goal.returns-in-Some
returns-in-Some c =
    let f = λ (s : Stored). with_bytes c.args.now c.args.sets.now (with_size (content_of s) c.args.size) s in
    rw (← c.self.view_is) (written_as f c.self.inside.shelf.items c.args.number c.in-Some.stored.now c.resize-fewer.new.self c.in-Some.ensures.one (c.resize-fewer.ensures.after c.args.number))

pub returns-in_default : goal.returns-in_default
returns-in_default c =
    let f = λ (s : Stored). with_bytes c.args.now c.args.sets.now (with_size (content_of s) c.args.size) s in
    rw (← c.self.view_is) (sym (with_none (λ (s : Stored). s.number) f c.args.number c.self.inside.shelf.items (sym c.in_default.ensures.value)))
