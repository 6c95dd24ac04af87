use Rattle.std.proofs.Common.{◌≡◌, ◌-◌}
use Rattle.nfs_xdr.specs.{Codec.{array, many_at}, Combinators.passed}
use Rattle.nfs_compound.specs.ArgCodecs.{sec_parms}
use Rattle.nfs_compound.proofs.callback.pass_all.Given as goal

abbrev pub invariant-loop : goal.invariant-loop
invariant-loop l = passed (many_at sec_parms.read (l.count - l.counter) l.c) ≡ passed ((array sec_parms).read l.fn.c)
