use Rattle.std.proofs.Common.{◌≡◌, ◌∙◌, ℕ, List, length, ◌+◌, ◌-◌, ◌*◌, ◌/◌, ◌%◌, ◌<◌, ◌≤◌, ap, sym, subst, Bool, arith, take, drop, get_or}
use Rattle.std.proofs.lemmas.List.{get_or-drop, get_or-take, length-take-le, length-drop}
use Rattle.std.specs.Prelude.{◌||◌}
use Rattle.nfs_pages.specs.{Bytes.{written_byte, covers}, Page.is_in, Pages.{byte_in, page_of, is_written, extent_of, AreMore}}
use Rattle.nfs_pages.proofs.{PageLemmas.put_more, ExtentLemmas.{near_page, put_lifts, lengths_lift, marks_lift, more_lifts, covers_more, more_yet, more_most}}
use Rattle.nfs_pages.proofs.pages.put_all.Goals as goal

pub put_near-first-requires-clause-whole : goal.put_near-first-requires-clause-whole
put_near-first-requires-clause-whole c j low high =
    let k : ℕ = (c.args.offset + c.loop-done.done) / 262144 in
    let least = c.min-count.ensures in
    let test = c.loop-done-test.true in
    let cut = length-take-le (c.loop-done.done + c.min-count.result - c.loop-done.done) (drop c.loop-done.done c.args.text.now)
    (let n = length-drop c.loop-done.done c.args.text.now in omega (arith, n)) in
    let near : j < 64 = omega (arith, cut, high) in
    ap length (sym (near_page (extent_of c.loop-done.pages) k j near))
    ∙ c.loop-done.invariant.whole (k * 64 + j) ∙ c.requires.whole (k * 64 + j) (omega (arith, low)) (omega (arith, cut, high))

pub loop-done-preserved : goal.loop-done-preserved
loop-done-preserved c =
    let mid = extent_of c.loop-done.pages in
    let new = extent_of c.put_near-first.new.pages in
    let text : List ℕ = c.args.text.now in
    let done : ℕ = c.loop-done.done in
    let count : ℕ = c.min-count.result in
    let at : ℕ = c.args.offset + done in
    let k : ℕ = at / 262144 in
    let from : ℕ = at % 262144 in
    let given : List ℕ = take (done + count - done) (drop done text) in
    let least = c.min-count.ensures in
    let test = c.loop-done-test.true in
    let fits : done + count ≤ length text = omega arith in
    let room : from + count ≤ 262144 = omega arith in
    let all : length (drop done text) ≡ length text - done = length-drop done text in
    let long : length given ≡ count = length-take-le (done + count - done) (drop done text) (omega arith) ∙ (let e : done + count - done ≡ count = omega arith in e) in
    let reads : (z : ℕ) → z < count → get_or given z 0 ≡ get_or text (done + z) 0 = λ z lt. get_or-take (done + count - done) (drop done text) z 0 (omega arith) ∙ get_or-drop done text z 0 in
    let place : k * 262144 + from ≡ c.args.offset + done = omega arith in
    record {
      done = fits;
      whole = λ i. lengths_lift mid new k c.put_near-first.ensures.others c.put_near-first.ensures.lengths i ∙ c.loop-done.invariant.whole i;
      bytes = λ p. put_lifts mid new k from given (omega arith) c.put_near-first.ensures.others c.put_near-first.ensures.bytes p
          ∙ ap (λ z. written_byte (byte_in (page_of c.loop-done.pages)) z given p) place
          ∙ put_more (page_of c.loop-done.pages) (page_of c.args.pages.now) c.args.offset done count text given fits long reads c.loop-done.invariant.bytes p;
      written = λ i. marks_lift mid new k from count (omega arith) c.put_near-first.ensures.others (λ j. c.put_near-first.ensures.written j ∙ ap (λ (n : ℕ). covers from n j || is_in (mid k) j) long) i
          ∙ ap (λ (z : ℕ). covers z count i || is_written c.loop-done.pages i) place
          ∙ ap (λ (b : Bool). covers (c.args.offset + done) count i || b) (c.loop-done.invariant.written i)
          ∙ covers_more c.args.offset done count i (is_written c.args.pages.now i);
      more = (
          let all = more_yet (is_written c.args.pages.now) (is_written c.loop-done.pages) (is_written c.put_near-first.new.pages) ((c.args.offset + done) / 4096 + 64) ((c.args.offset + (done + count)) / 4096 + 64)
          c.loop-done.more c.put_near-first.result (omega arith) c.loop-done.invariant.more
          (more_lifts mid new k c.put_near-first.result ((c.args.offset + (done + count)) / 4096 + 64) (omega arith) c.put_near-first.ensures.others c.put_near-first.ensures.more) in
          let most = more_most (is_written c.args.pages.now) (is_written c.put_near-first.new.pages) ((c.args.offset + (done + count)) / 4096 + 64) (c.loop-done.more + c.put_near-first.result) all in
          let sum : c.loop-done.more + c.put_near-first.result ≡ c.saturating_add-more.result = (let least = c.saturating_add-more.ensures in let few = c.requires.few in omega arith) in
          subst (λ (n : ℕ). AreMore (is_written c.args.pages.now) (is_written c.put_near-first.new.pages) ((c.args.offset + (done + count)) / 4096 + 64) n) sum all);
    }
