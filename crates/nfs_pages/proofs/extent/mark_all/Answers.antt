use Rattle.std.proofs.Common.{◌≡◌, ◌≤◌, ◌+◌, ℕ, Bool, true, false, not, sym, ◌∙◌, ap, arith, nat_le, nat_lt}
use Rattle.std.proofs.lemmas.Bool.Decides.{nat_tests}
use Rattle.std.specs.Prelude.{◌&&◌, ◌||◌, ◌==◌, if◌then◌else◌}
use Rattle.nfs_pages.specs.{Page.{is_in, count_below}, Pages.AreMore}
use Rattle.nfs_pages.proofs.CountLemmas.{count_marked}
use Rattle.nfs_pages.proofs.extent.mark_all.Goals.{then-mark_one, else-mark_one}
use Rattle.nfs_pages.proofs.extent.mark_all.Goals as goal

widened : (first j k : ℕ) (b : Bool) → first ≤ j → (k == j) || (nat_le first k && nat_lt k j || b) ≡ nat_le first k && nat_lt k (j + 1) || b
widened first j k b le = grind (arith, nat_tests)

grown : (old mid new : ℕ → Bool) (j done more : ℕ) (b : Bool) → AreMore old mid j done → ((k : ℕ) → new k ≡ (k == j) || mid k) → b ≡ not (mid j) → more ≡ done + (if b then 1 else 0) → AreMore old new (j + 1) more
grown old mid new j done more b before marked first is = record {
  grown = λ n le. (
      let one : (if b then 1 else 0) ≡ (if not (mid j) then 1 else 0) = ap (λ (x : Bool). if x then 1 else 0) first in
      let was : count_below mid n ≡ count_below old n + done = before.grown n (omega arith) in
      count_marked mid new j n (omega arith) marked ∙ sum (count_below mid n) (count_below old n) (if b then 1 else 0) (if not (mid j) then 1 else 0) was one is);
}
  where
    sum : (m o x y : ℕ) → m ≡ o + done → x ≡ y → more ≡ done + x → m + y ≡ o + more
    sum m o x y was one all = omega arith

pub loop-j-preserved : goal.loop-j-preserved
loop-j-preserved c =
    elim c.if-mark_one.branch [
      | then-mark_one w ↦ record {
        pages = λ k. c.mark_one.ensures.pages k ∙ c.loop-j.invariant.pages k;
        written = λ k. c.mark_one.ensures.written k ∙ ap (λ (b : Bool). (k == c.loop-j.j) || b) (c.loop-j.invariant.written k) ∙ widened c.args.first c.loop-j.j k (is_in c.args.pages.now k) (omega arith);
        more = grown (is_in c.args.pages.now) (is_in c.loop-j.pages) (is_in c.mark_one.new.pages) c.loop-j.j c.loop-j.more c.if-mark_one.more true c.loop-j.invariant.more c.mark_one.ensures.written
            (sym w.if-mark_one.true ∙ c.mark_one.ensures.first) w.more-is;
        few = omega arith;
      }
      | else-mark_one w ↦ record {
        pages = λ k. c.mark_one.ensures.pages k ∙ c.loop-j.invariant.pages k;
        written = λ k. c.mark_one.ensures.written k ∙ ap (λ (b : Bool). (k == c.loop-j.j) || b) (c.loop-j.invariant.written k) ∙ widened c.args.first c.loop-j.j k (is_in c.args.pages.now k) (omega arith);
        more = grown (is_in c.args.pages.now) (is_in c.loop-j.pages) (is_in c.mark_one.new.pages) c.loop-j.j c.loop-j.more c.if-mark_one.more false c.loop-j.invariant.more c.mark_one.ensures.written
            (sym w.if-mark_one.false ∙ c.mark_one.ensures.first) (w.more-is ∙ (omega arith));
        few = omega arith;
      }
    ]

pub returns-clause-written : goal.returns-clause-written
returns-clause-written c = (let e : c.loop-j.j ≡ c.args.end = omega arith in λ k. c.loop-j.invariant.written k ∙ ap (λ (j : ℕ). nat_le c.args.first k && nat_lt k j || is_in c.args.pages.now k) e)

pub returns-clause-more : goal.returns-clause-more
returns-clause-more c = record { grown = λ n le. c.loop-j.invariant.more.grown n (omega arith) }
