use Rattle.nfs_attrs.proofs.Bounds.{attrs_within}
use Rattle.nfs_attrs.proofs.laws.attributes_fit.Goals as goal

pub returns : goal.returns
returns c asked a o = attrs_within asked a o
