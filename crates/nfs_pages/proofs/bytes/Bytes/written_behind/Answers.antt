use Rattle.std.proofs.Common.{ℕ, ◌∙◌, ap, arith}
use Rattle.std.specs.Prelude.{max}
use Rattle.nfs_pages.specs.{Bytes.{pages_in}, Page.count_below, Pages.is_written}
use Rattle.nfs_pages.proofs.{CountLemmas.{count_beyond, count_none}, NumberLemmas.{length-numbers_below, length-left}}
use Rattle.nfs_pages.proofs.bytes.Bytes.written_behind.Goals as goal

pub written_from-requires : goal.written_from-requires
written_from-requires c i le = c.self.invariant.2.below i (omega (arith, c.self.invariant.1))

pub returns-then-size-eq0 : goal.returns-then-size-eq0
returns-then-size-eq0 c =
    let f = is_written c.self.inside.pages in
    let n : ℕ = pages_in c.self.inside.size in
    let left = length-left f n (pages_in c.args.size) c.self.invariant.2.below in
    let all = length-numbers_below f n in
    let none = ap (λ (s : ℕ). count_below f (pages_in s)) c.if-size-eq0.true ∙ count_none f in
    let was = c.self.invariant.2.exact in
    rw (← c.self.view_is) (omega arith)

pub returns : goal.returns
returns c =
    let f = is_written c.self.inside.pages in
    let n : ℕ = pages_in c.self.inside.size in
    let m : ℕ = pages_in c.args.size in
    let left = length-left f n m c.self.invariant.2.below in
    let all = length-numbers_below f n in
    let far = c.written_from.ensures (max m n) (omega arith) (λ i le. c.self.invariant.2.below i (omega arith)) in
    let same = count_beyond f n (max m n) c.self.invariant.2.below (omega arith) in
    rw (← c.self.view_is) (omega arith)
