use Rattle.std.proofs.Common.{sym}
use Rattle.nfs_pages.specs.Pages.{page_of}
use Rattle.nfs_pages.proofs.PageLemmas.{length-bytes}
use Rattle.nfs_pages.proofs.bytes.Bytes.len.Goals as goal

pub returns : goal.returns
returns c = rw (← c.self.view_is) (sym (length-bytes (page_of c.self.inside.pages) c.self.inside.size))
