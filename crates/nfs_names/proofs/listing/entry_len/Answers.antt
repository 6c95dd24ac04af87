use Rattle.std.proofs.Common.{arith}
use Rattle.nfs_names.proofs.Entering.{length_entry_head}
use Rattle.nfs_names.proofs.listing.entry_len.Goals as goal

pub returns : goal.returns
returns c = let head = length_entry_head 0 c.args.name.now in let attrs = c.attrs_len.ensures.exact in omega arith
