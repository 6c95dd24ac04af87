use Rattle.std.proofs.Common.{◌≡◌, ◌∙◌, ℕ, List, length, ◌+◌, ◌-◌, ◌/◌, ◌%◌, ◌<◌, ◌≤◌, arith, take, drop, get_or, refl}
use Rattle.std.proofs.lemmas.List.{get_or-drop, get_or-take, length-take-le, length-drop}
use Rattle.nfs_pages.specs.Page.{page_in}
use Rattle.nfs_pages.proofs.PageLemmas.{put_step, put_whole}
use Rattle.nfs_pages.proofs.extent.put_all.Goals as goal

pub loop-done-preserved : goal.loop-done-preserved
loop-done-preserved c =
    let pages : ℕ → List ℕ = page_in c.loop-done.pages in
    let old : ℕ → List ℕ = page_in c.args.pages.now in
    let new : ℕ → List ℕ = page_in c.put_one.new.pages in
    let text : List ℕ = c.args.text.now in
    let done : ℕ = c.loop-done.done in
    let count : ℕ = c.min-count.result in
    let at : ℕ = c.args.offset + done in
    let i : ℕ = at / 4096 in
    let from : ℕ = at % 4096 in
    let given : List ℕ = take (done + count - done) (drop done text) in
    let least = c.min-count.ensures in
    let test = c.loop-done-test.true in
    let fits : done + count ≤ length text = omega arith in
    let room : count + from ≤ 4096 = omega arith in
    let whole : length (pages i) ≡ 4096 = c.loop-done.invariant.whole i ∙ c.requires.whole i (omega arith) (omega arith) in
    let all : length (drop done text) ≡ length text - done = length-drop done text in
    let long : length given ≡ count = length-take-le (done + count - done) (drop done text) (omega arith) ∙ (let e : done + count - done ≡ count = omega arith in e) in
    let reads : (k : ℕ) → k < count → get_or given k 0 ≡ get_or text (done + k) 0 = λ k lt. get_or-take (done + count - done) (drop done text) k 0 (omega arith) ∙ get_or-drop done text k 0 in
    record {
      done = fits;
      whole = λ k. put_whole pages new i from given (omega arith) c.put_one.ensures.here c.put_one.ensures.others k ∙ c.loop-done.invariant.whole k;
      bytes = λ p. put_step pages new old c.args.offset done count i from text given fits room long reads refl refl whole c.put_one.ensures.here c.put_one.ensures.others c.loop-done.invariant.bytes p;
      written = λ k. c.put_one.ensures.written k ∙ c.loop-done.invariant.written k;
    }
