-- What answers say of the records that they lend.
use Rattle.std.specs.Prelude.{ℕ, Bool, List}
use Rattle.nfs_clients.specs.{Roster.ClientRecord, declared.shown.Shown.Shown}
use Rattle.nfs_clients.specs.{declared.exchange_id.Case.{Case as Code}, ExchangeId.{Case, Refuses, Stays, Adds}}
use Rattle.nfs_clients.specs.declared.exchange_id.Case.TheVariants as code

abbrev pub case_seen : Code → Case
case_seen (code.Refuses fault) = Refuses fault
case_seen (code.Stays c) = Stays c.now
case_seen code.Adds = Adds

-- what is shown of a record, and what it is
abbrev pub shown_of : Shown → ℕ × (List ℕ × Bool)
shown_of s = (s.id, (s.owner.now, s.confirmed))

abbrev pub told_of : ClientRecord → ℕ × (List ℕ × Bool)
told_of c = (c.id, (c.owner, c.confirmed))
