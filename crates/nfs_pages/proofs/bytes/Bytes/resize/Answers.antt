use Rattle.std.proofs.Common.{◌≡◌, ◌+◌, ◌*◌, ℕ, Bool, length, sym, ◌∙◌, ap, arith}
use Rattle.std.proofs.lemmas.Bool.{lt-ltb}
use Rattle.std.specs.Prelude.{◌&&◌}
use Rattle.nfs_pages.specs.{Bytes.{Content, has, numbers_below, pages_in}, Page.count_below, Pages.{page_of, is_written, AreCounted}}
use Rattle.nfs_pages.specs.{declared.bytes.Bytes.TheInside.Inside, contracts.bytes.Bytes.the_view}
use Rattle.nfs_pages.proofs.{PageLemmas.bytes_resized, CountLemmas.count_same, NumberLemmas.{content_is, numbers_same, has_is, counted_cut, length-left, length-numbers_below}}
use Rattle.nfs_pages.proofs.bytes.Bytes.resize.Goals as goal

-- what a cut takes, by what is left
gone : (b : Inside) (now : Content) → the_view b ≡ now → AreCounted (is_written b.pages) b.size b.written → (to taken : ℕ)
    → taken + length (numbers_below (has now.pages) (pages_in to)) ≡ length now.pages → taken + count_below (is_written b.pages) (pages_in to) ≡ b.written
gone b now same counted to taken is =
    let f = is_written b.pages in
    let sum : taken + length (numbers_below (has (numbers_below f (pages_in b.size))) (pages_in to)) ≡ length (numbers_below f (pages_in b.size)) =
    rw (ap (λ (x : Content). x.pages) same) is in
    let left = length-left f (pages_in b.size) (pages_in to) counted.below in
    let all = length-numbers_below f (pages_in b.size) in
    let was = counted.exact in
    omega arith

pub overflow_sub-self : goal.overflow_sub-self
overflow_sub-self c = (let e = gone c.self.inside c.args.self.now c.self.view_is c.self.invariant.2 c.args.size c.written_behind-fewer.result c.written_behind-fewer.ensures in omega arith)

pub invariant_of-self : goal.invariant_of-self
invariant_of-self c = (
  record { clean = c.cut-behind.ensures.gone },
  c.requires,
  counted_cut (is_written c.self.inside.pages) (is_written c.cut-behind.new.self) c.self.inside.size c.self.inside.written c.args.size c.written_behind-fewer.result
      c.self.invariant.2 c.cut-behind.ensures.written (gone c.self.inside c.args.self.now c.self.view_is c.self.invariant.2 c.args.size c.written_behind-fewer.result c.written_behind-fewer.ensures),
)

pub returns-clause-after : goal.returns-clause-after
returns-clause-after c =
    let f = is_written c.self.inside.pages in
    let n : ℕ = pages_in c.self.inside.size in
    rw (← c.self.view_is) (content_is _ _ _ _
    (bytes_resized (page_of c.self.inside.pages) (page_of c.cut-behind.new.self) c.self.inside.size c.args.size c.self.invariant.0.clean c.cut-behind.ensures.kept)
    (numbers_same (is_written c.cut-behind.new.self) (has (numbers_below f n)) (pages_in c.args.size)
    (λ i lt. c.cut-behind.ensures.written i ∙ ap (λ (b : Bool). b && f i) (lt-ltb (i * 4096) c.args.size (omega arith)) ∙ sym (has_is f n i c.self.invariant.2.below))))

pub returns-clause-fewer : goal.returns-clause-fewer
returns-clause-fewer c =
    let new = length-numbers_below (is_written c.cut-behind.new.self) (pages_in c.args.size) in
    let same = count_same (is_written c.cut-behind.new.self) (is_written c.self.inside.pages) (pages_in c.args.size)
    (λ i lt. c.cut-behind.ensures.written i ∙ ap (λ (b : Bool). b && is_written c.self.inside.pages i) (lt-ltb (i * 4096) c.args.size (omega arith))) in
    let old = length-numbers_below (is_written c.self.inside.pages) (pages_in c.self.inside.size) in
    let was = c.self.invariant.2.exact in
    let taken = gone c.self.inside c.args.self.now c.self.view_is c.self.invariant.2 c.args.size c.written_behind-fewer.result c.written_behind-fewer.ensures in
    rw (← c.self.view_is) (omega arith)
