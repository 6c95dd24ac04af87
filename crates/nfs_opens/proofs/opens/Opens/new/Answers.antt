use Rattle.std.proofs.lemmas.Bool.{false≢true}
use Rattle.nfs_opens.proofs.TableLemmas.{table_new}
use Rattle.nfs_opens.proofs.opens.Opens.new.Goals as goal

pub invariant_of-result : goal.invariant_of-result
invariant_of-result c = record {
  table = rw (c.new.ensures, c.new-2.ensures, c.new-3.ensures) (table_new c.args.instance);
  listed = rw c.new-3.ensures (λ f some. absurd (false≢true some));
  room = λ yes. absurd (false≢true yes);
}
