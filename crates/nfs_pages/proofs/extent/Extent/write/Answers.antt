use Rattle.std.proofs.Common.{◌≡◌, ◌+◌, ◌++◌, ℕ, List, length, take, drop, sym, ◌∙◌, ap, arith, subst}
use Rattle.std.proofs.Math.Seq.{take-append_seam}
use Rattle.nfs_pages.specs.{Bytes.written_byte, Page.{Leaf, page_in, is_in, count_below}, Pages.{byte_in, AreMore}}
use Rattle.nfs_pages.proofs.CountLemmas.{count_most}
use Rattle.nfs_pages.proofs.extent.Extent.write.Goals as goal

-- the pages that are left
left : (c : goal.After-self-2-1) → take c.self.inside.pages.len (c.write_all-more.new.pages ++ drop (length c.write_all-more.new.pages) c.self.inside.pages.items) ≡ c.write_all-more.new.pages
left c =
    let long : c.self.inside.pages.len ≡ length c.write_all-more.new.pages = omega (arith, c.deref_mut.ensures.len, c.write_all-more.auto.pages) in
    ap (λ (n : ℕ). take n (c.write_all-more.new.pages ++ drop (length c.write_all-more.new.pages) c.self.inside.pages.items)) long
    ∙ take-append_seam c.write_all-more.new.pages (drop (length c.write_all-more.new.pages) c.self.inside.pages.items)

pub overflow_add-self : goal.overflow_add-self
overflow_add-self c = (let most = count_most (is_in c.self.inside.pages.items) 64 in omega (arith, c.self.invariant.1))

pub invariant_of-self : goal.invariant_of-self
invariant_of-self c =
    rw (left c) (
      (let long = c.write_all-more.auto.pages in let size = ap length c.deref_mut.ensures.value in let few = c.self.invariant.0 in omega arith),
      ap (λ (n : ℕ). n + c.write_all-more.result) (c.self.invariant.1 ∙ ap (λ (e : List Leaf). count_below (is_in e) 64) (sym c.deref_mut.ensures.value))
          ∙ sym (c.write_all-more.ensures.more.grown 64 (omega arith)),
    )

was : (c : goal.After-self-2-1) → c.deref_mut.result.now ≡ c.args.self.now
was c = c.deref_mut.ensures.value ∙ c.self.view_is

pub returns-clause-bytes : goal.returns-clause-bytes
returns-clause-bytes c = λ p. rw (left c) (c.write_all-more.ensures.bytes p ∙ ap (λ (e : List Leaf). written_byte (byte_in (page_in e)) c.args.offset c.args.text.now p) (was c))

pub returns-clause-more : goal.returns-clause-more
returns-clause-more c = rw (left c) (subst (λ (e : List Leaf). AreMore (is_in e) (is_in c.write_all-more.new.pages) 64 c.write_all-more.result) (was c) c.write_all-more.ensures.more)
