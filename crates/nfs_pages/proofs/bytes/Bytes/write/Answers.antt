use Rattle.std.proofs.Common.{◌≡◌, ◌+◌, ◌/◌, ℕ, Bool, List, length, sym, ◌∙◌, ap, subst, arith}
use Rattle.std.specs.Prelude.{◌||◌, max}
use Rattle.nfs_pages.specs.{Bytes.{covers, has, numbers_below, pages_in}, Page.count_below, Pages.{page_of, is_written, byte_in, bytes, AreCounted}}
use Rattle.nfs_pages.proofs.{PageLemmas.{bytes_written, length-bytes, written_above}, CountLemmas.count_most, NumberLemmas.{content_is, numbers_same, has_is, counted_written, length-numbers_below}}
use Rattle.nfs_pages.proofs.bytes.Bytes.write.Goals as goal

pub overflow_add-self : goal.overflow_add-self
overflow_add-self c =
    let counted = counted_written (is_written c.self.inside.pages) (is_written c.write.new.self) c.self.inside.size c.self.inside.written c.args.offset (length c.args.text.now)
    ((c.args.offset + length c.args.text.now) / 4096 + 64) c.in_ok-more.more c.self.invariant.2 c.in_ok-more.ensures.written c.in_ok-more.ensures.more in
    let exact = counted.exact in
    let most = count_most (is_written c.write.new.self) (pages_in (max c.self.inside.size (c.args.offset + length c.args.text.now))) in
    let size = c.self.invariant.1 in
    let end = c.requires in
    omega arith

pub invariant_of-self-2 : goal.invariant_of-self-2
invariant_of-self-2 c =
    let size : ℕ = c.self.inside.size in
    let end : ℕ = c.args.offset + length c.args.text.now in
    let small = c.self.invariant.1 in
    let long = c.max-self-inside.ensures in (
      record {
        clean = λ p le. c.in_ok-more.ensures.bytes p ∙ written_above c.args.offset c.args.text.now (byte_in (page_of c.self.inside.pages)) p (omega arith) ∙ c.self.invariant.0.clean p (omega arith);
      },
      (let few = c.requires in omega arith),
      subst (λ (n : ℕ). AreCounted (is_written c.write.new.self) n (c.self.inside.written + c.in_ok-more.more)) (sym long)
          (counted_written (is_written c.self.inside.pages) (is_written c.write.new.self) size c.self.inside.written c.args.offset (length c.args.text.now)
          (end / 4096 + 64) c.in_ok-more.more c.self.invariant.2 c.in_ok-more.ensures.written c.in_ok-more.ensures.more),
    )

pub returns-clause-ok : goal.returns-clause-ok
returns-clause-ok c =
    let f = is_written c.self.inside.pages in
    let n : ℕ = pages_in c.self.inside.size in
    let text : List ℕ = c.args.text.now in
    let end : ℕ = max c.self.inside.size (c.args.offset + length text) in
    rw (← c.self.view_is) (content_is _ _ _ _
    (ap (bytes (page_of c.write.new.self)) c.max-self-inside.ensures
    ∙ bytes_written (page_of c.self.inside.pages) (page_of c.write.new.self) c.self.inside.size c.args.offset text c.self.invariant.0.clean c.in_ok-more.ensures.bytes)
    (ap (λ (s : ℕ). numbers_below (is_written c.write.new.self) (pages_in s)) c.max-self-inside.ensures
    ∙ numbers_same (is_written c.write.new.self) (λ i. covers c.args.offset (length text) i || has (numbers_below f n) i) (pages_in end)
    (λ i lt. c.in_ok-more.ensures.written i ∙ ap (λ (b : Bool). covers c.args.offset (length text) i || b) (sym (has_is f n i c.self.invariant.2.below)))
    ∙ ap (λ (s : ℕ). numbers_below (λ i. covers c.args.offset (length text) i || has (numbers_below f n) i) (pages_in (max s (c.args.offset + length text)))) (sym (length-bytes (page_of c.self.inside.pages) c.self.inside.size))))

pub returns-clause-more : goal.returns-clause-more
returns-clause-more c =
    let end : ℕ = c.args.offset + length c.args.text.now in
    let new = length-numbers_below (is_written c.write.new.self) (pages_in c.max-self-inside.result) in
    let old = length-numbers_below (is_written c.self.inside.pages) (pages_in c.self.inside.size) in
    let was = c.self.invariant.2.exact in
    let counted = counted_written (is_written c.self.inside.pages) (is_written c.write.new.self) c.self.inside.size c.self.inside.written c.args.offset (length c.args.text.now)
    (end / 4096 + 64) c.in_ok-more.more c.self.invariant.2 c.in_ok-more.ensures.written c.in_ok-more.ensures.more in
    let is : count_below (is_written c.write.new.self) (pages_in c.max-self-inside.result) ≡ c.self.inside.written + c.in_ok-more.more =
    ap (λ (n : ℕ). count_below (is_written c.write.new.self) (pages_in n)) c.max-self-inside.ensures ∙ sym counted.exact in
    rw (← c.self.view_is) (omega arith)

pub returns-clause-few : goal.returns-clause-few
returns-clause-few c =
    let new = length-numbers_below (is_written c.write.new.self) (pages_in c.max-self-inside.result) in
    let most = count_most (is_written c.write.new.self) (pages_in c.max-self-inside.result) in
    let size = c.self.invariant.1 in
    let end = c.requires in
    let long = c.max-self-inside.ensures in
    omega arith
