use Rattle.std.proofs.lemmas.Result.{on_err_weaker}
use Rattle.std.specs.Prelude.{Result, Ok, Err, OnErr}
use Rattle.std.proofs.Common.{◌≡◌, ◌+◌, ℕ, List, length, sym, ◌∙◌, ap, subst, arith}
use Rattle.nfs_xdr.proofs.Tables.{with_none}
use Rattle.nfs_tree.specs.{declared.stored.Stored.Stored, Bytes.{with_bytes, with_text}, Files.stored_in, Stored.{numbered, content_of}, TreeInvariants.AreSummed}
use Rattle.nfs_tree.proofs.{IndexedLemmas.{can_of, written_as, written_same}, Summed.{summed_with, summed_most}}
use Rattle.nfs_tree.proofs.stored.Objects.write_in.Goals as goal

if_on_err : {T E P : Type 0} (r : Result T E) → P → OnErr r P
if_on_err (Ok x) p = tt
if_on_err (Err e) p = p

pub write-requires-clause-change : goal.write-requires-clause-change
write-requires-clause-change c = can_of c.args.self.now c.args.number (numbered c.args.number c.in-Some.stored.now)
    (ap (λ xs. stored_in xs c.args.number) (sym c.self.view_is) ∙ sym c.in-Some.ensures.value) c.requires.change

pub invariant_of-self : goal.invariant_of-self
invariant_of-self c =
    subst (λ (xs : List Stored). AreSummed xs c.self.inside.pages)
    (sym (rw c.in_err-more.ensures.err (written_same c.self.inside.shelf.items c.args.number c.in-Some.stored.now c.in-Some.ensures.one))) c.self.invariant

pub returns-in_err-more-clause-err : goal.returns-in_err-more-clause-err
returns-in_err-more-clause-err c = rw (← c.self.view_is) (on_err_weaker c.from_residual.result
    (λ e. rw e (written_same c.self.inside.shelf.items c.args.number c.in-Some.stored.now c.in-Some.ensures.one)) (if_on_err c.from_residual.result c.in_err-more.ensures.err))

pub overflow_add-self : goal.overflow_add-self
overflow_add-self c = (let most = summed_most c.self.inside.shelf.items c.self.inside.pages c.kept.ensures.few c.self.invariant in let is = c.from.ensures in omega arith)

pub invariant_of-self-in-Some : goal.invariant_of-self-in-Some
invariant_of-self-in-Some c =
    let n : ℕ = c.args.number in
    let xs : List Stored = c.self.inside.shelf.items in
    let old : Stored = numbered n c.in-Some.stored.now in
    let f = λ (s : Stored). with_bytes c.args.now c.args.sets.now (with_text (content_of s) c.args.offset c.args.text.now) s in
    let after : numbered n c.write.new.self ≡ f old = c.in_ok-more.ensures.ok n in
    let long : length (f old).pages ≡ length c.write.new.self.bytes.pages = ap (λ (s : Stored). length s.pages) (sym after) in
    let more = c.in_ok-more.ensures.more in
    let small = c.in_ok-more.ensures.few in
    let is = c.from.ensures in
    subst (λ (ys : List Stored). AreSummed ys (c.self.inside.pages + c.from.result)) (sym (written_as f xs n c.in-Some.stored.now c.write.new.self c.in-Some.ensures.one after))
    (summed_with xs n f old c.self.inside.pages (c.self.inside.pages + c.from.result) c.from.result 0 c.kept.ensures.rising (sym c.in-Some.ensures.value)
    (omega arith) (omega arith) (omega arith) c.self.invariant)

pub returns-in_ok-more-clause-ok : goal.returns-in_ok-more-clause-ok
returns-in_ok-more-clause-ok c = rw (← c.self.view_is)
    (written_as (λ (s : Stored). with_bytes c.args.now c.args.sets.now (with_text (content_of s) c.args.offset c.args.text.now) s) c.self.inside.shelf.items c.args.number
    c.in-Some.stored.now c.write.new.self c.in-Some.ensures.one (c.in_ok-more.ensures.ok c.args.number))

pub returns-in_default-clause-ok : goal.returns-in_default-clause-ok
returns-in_default-clause-ok c = rw (← c.self.view_is) (sym (with_none (λ (s : Stored). s.number)
    (λ (s : Stored). with_bytes c.args.now c.args.sets.now (with_text (content_of s) c.args.offset c.args.text.now) s) c.args.number c.self.inside.shelf.items (sym c.in_default.ensures.value)))
