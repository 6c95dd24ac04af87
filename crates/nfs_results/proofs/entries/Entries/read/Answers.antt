use Rattle.std.proofs.Common.{◌≡◌, ℕ, ◌-◌, ◌∙◌, sym, ap, subst, length, take, List, Some, arith}
use Rattle.nfs_xdr.specs.{Combinators.passed, Chain.chain}
use Rattle.nfs_results.specs.{Items.entry, Entries.{entries_in, AreEntries}}
use Rattle.nfs_results.proofs.EntryLaws.{are_lent}
use Rattle.nfs_results.proofs.entries.Entries.read.Goals as goal

pub invariant_of-result : goal.invariant_of-result
invariant_of-result c =
    let bytes : List ℕ = c.rest-front.result.now in
    let l = are_lent bytes c.pass.new.c c.size-whole.ensures.bytes
    (ap (λ (w : List ℕ). passed ((chain entry).read w)) c.rest-front.ensures ∙ c.in_ok-pass.ensures) in
    let size : length bytes - length c.pass.new.c ≡ c.saturating_sub.result =
    omega (arith, c.saturating_sub.ensures, c.left.ensures, c.size-whole.ensures.value) in
    subst (λ (n : ℕ). AreEntries (take n bytes)) size l.entries

pub returns : goal.returns
returns c =
    let bytes : List ℕ = c.rest-front.result.now in
    let l = are_lent bytes c.pass.new.c c.size-whole.ensures.bytes
    (ap (λ (w : List ℕ). passed ((chain entry).read w)) c.rest-front.ensures ∙ c.in_ok-pass.ensures) in
    let size : length bytes - length c.pass.new.c ≡ c.saturating_sub.result =
    omega (arith, c.saturating_sub.ensures, c.left.ensures, c.size-whole.ensures.value) in
    ap (λ (w : List ℕ). (chain entry).read w) (sym c.rest-front.ensures) ∙ l.read ∙ ap (λ (n : ℕ). Some (entries_in (take n bytes), c.pass.new.c)) size
