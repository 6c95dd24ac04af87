use Rattle.std.proofs.Common.{refl, rules}
use Rattle.nfs_attrs.specs.Attributes.{attributes}
use Rattle.nfs_attrs.proofs.laws.masks.Goals as goal

pub returns-clause-exact : goal.returns-clause-exact
unfolding attributes
returns-clause-exact c = refl

pub returns-clause-unix : goal.returns-clause-unix
unfolding attributes
returns-clause-unix c = refl

pub returns-clause-readable_exact : goal.returns-clause-readable_exact
unfolding attributes
returns-clause-readable_exact c = refl

pub returns-clause-readable_unix : goal.returns-clause-readable_unix
unfolding attributes
returns-clause-readable_unix c = refl

pub returns-clause-settable : goal.returns-clause-settable
unfolding attributes
returns-clause-settable c = refl

pub returns-clause-rising : goal.returns-clause-rising
unfolding attributes
returns-clause-rising c = search rules
