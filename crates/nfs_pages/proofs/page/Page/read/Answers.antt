use Rattle.std.proofs.{Common.{◌≡◌, ◌∙◌, ◌++◌, ◌+◌, ◌-◌, ap, ℕ, List, length, arith, take, drop}, lemmas.Grind.common_steps, lemmas.List.append_assoc}
use Rattle.std.specs.Prelude.{replicate}
use Rattle.nfs_pages.proofs.PageLemmas.{piece, pad_part}
use Rattle.nfs_pages.proofs.page.Page.read.Goals as goal

pub returns-then-from-end-clause-bytes : goal.returns-then-from-end-clause-bytes
returns-then-from-end-clause-bytes c =
    let xs : List ℕ = c.self.inside.bytes.items in
    let from : ℕ = c.args.from in
    let count : ℕ = c.args.count in
    let end : ℕ = c.min-end.result in
    let least = c.min-end.ensures in
    let size : c.len.result ≡ length xs = grind (arith, common_steps) in
    let part : c.put_bytes.new.self.bytes ≡ c.args.out.now.bytes ++ take (end - from) (drop from xs) = c.put_bytes.ensures.bytes ∙ ap (λ (ys : List ℕ). c.args.out.now.bytes ++ take (end - from) (drop from ys)) c.deref.ensures.value in
    let test = c.if-from-end.true in
    rw (← c.self.view_is) (c.put_zeros.ensures.bytes ∙ ap (λ (ys : List ℕ). ys ++ replicate (from + count - end) 0) part ∙ append_assoc c.args.out.now.bytes (take (end - from) (drop from xs)) (replicate (from + count - end) 0)
    ∙ ap (λ (ys : List ℕ). c.args.out.now.bytes ++ ys) (piece xs from count end (omega arith) (omega arith) (omega arith) (λ lt. omega arith)))

pub returns-else-from-end-clause-bytes : goal.returns-else-from-end-clause-bytes
returns-else-from-end-clause-bytes c =
    let least = c.min-end.ensures in
    let size : c.len.result ≡ length c.self.inside.bytes.items = grind (arith, common_steps) in
    let test = c.if-from-end.false in
    rw (← c.self.view_is) (c.put_zeros-else-from-end.ensures.bytes ∙ ap (λ (ys : List ℕ). c.args.out.now.bytes ++ ys) (pad_part c.self.inside.bytes.items c.args.from c.args.count (λ some. omega arith)))
