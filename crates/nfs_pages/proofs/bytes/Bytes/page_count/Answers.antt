use Rattle.std.proofs.Common.{sym, ◌∙◌, arith}
use Rattle.nfs_pages.specs.{Bytes.{pages_in}, Pages.is_written}
use Rattle.nfs_pages.proofs.{CountLemmas.count_most, NumberLemmas.{length-numbers_below}}
use Rattle.nfs_pages.proofs.bytes.Bytes.page_count.Goals as goal

pub returns-clause-exact : goal.returns-clause-exact
returns-clause-exact c = rw (← c.self.view_is) (c.self.invariant.2.exact ∙ sym (length-numbers_below (is_written c.self.inside.pages) (pages_in c.self.inside.size)))

pub returns-clause-few : goal.returns-clause-few
returns-clause-few c =
    let most = count_most (is_written c.self.inside.pages) (pages_in c.self.inside.size) in
    let is = c.self.invariant.2.exact in
    let size = c.self.invariant.1 in
    omega arith
