use Rattle.std.proofs.Common.{◌≡◌, ◌+◌, ◌*◌, ◌/◌, ◌%◌, ◌≤◌, ◌^◌, ℕ, false, sym, ◌∙◌, ap, arith}
use Rattle.std.specs.Prelude.{max}
use Rattle.nfs_pages.specs.{Page.{is_in, count_below}, Pages.{is_written, extent_of}}
use Rattle.nfs_pages.proofs.CountLemmas.{count_beyond, count_most, count_split, count_same}
use Rattle.nfs_pages.proofs.ExtentLemmas.{near_marked}
use Rattle.nfs_pages.proofs.pages.Pages.written_from.Goals as goal

sum : (c : goal.After-written_behind) (n : ℕ) → c.args.first ≤ n → ((i : ℕ) → n ≤ i → is_written c.args.self.now i ≡ false)
    → c.written_near.result + c.written_behind.result + count_below (is_written c.args.self.now) c.args.first ≡ count_below (is_written c.args.self.now) n
sum c n le below =
    let f = is_written c.args.self.now in
    let first : ℕ = c.args.first in
    let near : ℕ = first / 64 in
    let place : ℕ = first % 64 in
    let e = extent_of c.args.self.now near in
    let far : ℕ = max n (near * 64 + 64) in
    let all = c.written_behind.ensures far (omega arith) (λ i past. below i (omega arith)) in
    let beyond = count_beyond f n far below (omega arith) in
    let here = c.written_near.ensures in
    let size : near * 64 + place ≡ first = omega arith in
    let part : count_below f first ≡ count_below f (near * 64) + count_below (is_in e) place =
    ap (count_below f) (sym size) ∙ count_split f (near * 64) place
    ∙ ap (λ (k : ℕ). count_below f (near * 64) + k) (count_same (λ j. f (near * 64 + j)) (is_in e) place (λ j lt. near_marked (extent_of c.args.self.now) near j (omega arith))) in
    let whole : count_below f (near * 64 + 64) ≡ count_below f (near * 64) + count_below (is_in e) 64 =
    count_split f (near * 64) 64 ∙ ap (λ (k : ℕ). count_below f (near * 64) + k) (count_same (λ j. f (near * 64 + j)) (is_in e) 64 (λ j lt. near_marked (extent_of c.args.self.now) near j lt)) in
    omega arith

pub overflow_add-result : goal.overflow_add-result
overflow_add-result c =
    let f = is_written c.args.self.now in
    let all = sum c (max c.args.first (2 ^ 52)) (omega arith) (λ i past. c.requires i (omega arith)) in
    let beyond = count_beyond f (2 ^ 52) (max c.args.first (2 ^ 52)) c.requires (omega arith) in
    let most = count_most f (2 ^ 52) in
    omega arith

pub returns : goal.returns
returns c n le below = sum c n le below
