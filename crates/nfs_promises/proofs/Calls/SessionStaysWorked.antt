-- A session that stays, computed.
use Rattle.std.proofs.{Common.refl, lemmas.Bool.false≢true}
use Rattle.nfs_promises.specs.Calls.SessionStaysWorked.{StaysToLast}
use Rattle.nfs_promises.proofs.Runs.Computing.{computing}

-- The run, computed.

pub stays_to_last : StaysToLast
unfolding computing
stays_to_last = record {
  runs = record { event = _; asks = refl; sequence = _; runs = refl; session = refl };
  spared = (refl, (refl, (refl, (refl, tt))));
  forgotten = λ is. false≢true is;
}
