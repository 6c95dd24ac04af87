use Rattle.nfs_pages.specs.Pages.{extent_of}
use Rattle.nfs_pages.proofs.{PageLemmas.{pages_gone}, ExtentLemmas.marks_left}
use Rattle.nfs_pages.proofs.pages.take_from.Goals as goal

pub returns-clause-gone : goal.returns-clause-gone
returns-clause-gone c = pages_gone (extent_of c.cut_extent.new.pages) (extent_of c.take_extents-behind.new.pages) c.args.first
    c.take_extents-behind.ensures.gone c.cut_extent.ensures.here c.cut_extent.ensures.others

pub returns-clause-written : goal.returns-clause-written
returns-clause-written c = marks_left (extent_of c.args.pages.now) (extent_of c.take_extents-behind.new.pages) (extent_of c.cut_extent.new.pages) c.args.first
    c.take_extents-behind.ensures.kept c.take_extents-behind.ensures.gone c.cut_extent.ensures.here c.cut_extent.ensures.others
