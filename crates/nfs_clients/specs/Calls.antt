-- What single calls of `Clients` answer and leave, beside what they come to by their rows.
use Rattle.std.specs.Prelude.{◌≡◌, Option, Some, None, Result, Err, ℕ, Bool}
use Rattle.nfs_clients.specs.{CreateSession.{Verdict, Stale, Again, Misordered, InUse, Runs}, declared.create_session.CreateVerdict.CreateVerdict}
use Rattle.nfs_clients.specs.{ExchangeId.{Ask, Case, Refuses, Stays, Adds, case_of, exchange}, Roster.{Roster, without}}
use Rattle.nfs_clients.specs.{declared.exchange_id.ClientFault.ClientFault, declared.exchange_id.ClientFault.TheVariants.Memory}
use Rattle.nfs_clients.specs.{declared.exchange_id.Exchanged.Exchanged, DestroyClientId.destroy_fault, declared.destroy.DestroyFault.DestroyFault}
use Rattle.nfs_clients.specs.declared.create_session.CreateVerdict.TheVariants as code

-- what the code's answer says, with the result that it lends
abbrev pub verdict_of : CreateVerdict → Verdict
verdict_of code.Stale = Stale
verdict_of (code.Again result) = Again result.now
verdict_of code.Misordered = Misordered
verdict_of code.InUse = InUse
verdict_of code.Runs = Runs

-- what the call is refused with, if it is
abbrev pub refusal_of : Case → Option ClientFault
refusal_of (Refuses fault) = Some fault
refusal_of (Stays c) = None
refusal_of Adds = None

abbrev pub exchange_fault : Roster → Ask → Option ClientFault
exchange_fault t a = refusal_of (case_of t a)

-- The answer and the table are those of the definition; or memory was refused where a record is added, and nothing has changed.
abbrev pub ExchangesOrWants : Roster → Ask → Result Exchanged ClientFault → Roster → Type 0
ExchangesOrWants old a (Err Memory) new = (case_of old a ≡ Adds) × (new ≡ old)
ExchangesOrWants old a result new = (result ≡ (exchange old a).answer) × (new ≡ (exchange old a).after)

abbrev pub without_unless : Option DestroyFault → Roster → ℕ → Roster
without_unless None t id = without t id
without_unless (Some fault) t id = t

-- the table behind the call
abbrev pub destroyed : Roster → ℕ → (has_session has_open : Bool) → Roster
destroyed t id has_session has_open = without_unless (destroy_fault t id has_session has_open) t id
