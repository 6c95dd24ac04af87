use Rattle.nfs_pages.proofs.PageLemmas.{resize_same}
use Rattle.nfs_pages.proofs.page.Page.make_whole.Goals as goal

pub returns-clause-same : goal.returns-clause-same
returns-clause-same c = rw (← c.self.view_is) (λ j. resize_same _ c.self.inside.bytes.items c.resize.new.self.items 4096 _ j c.self.invariant c.resize.ensures.items)
