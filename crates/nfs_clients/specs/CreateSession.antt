-- CREATE_SESSION's number and what is kept under it; what a confirmation removes (RFC 8881 section 18.36;
-- which refusals use a number up is this server's profile).
use Rattle.std.specs.Prelude.{ℕ, ◌==◌, ◌&&◌, not, Bool, true, false, Option, Some, None, find, option_map, option_and_then, if◌then◌else◌}
use Rattle.std.specs.Option.{option_map_or}
use Rattle.nfs_xdr.specs.{declared.status.Status.Status, declared.status.Status.TheVariants.{TooSmall, NoSpc, ServerFault}}
use Rattle.nfs_xdr.specs.Numbers.{next_number}
use Rattle.nfs_clients.specs.{Roster.{ClientRecord, Roster, client_at, is_confirmed_of, with_changed, without}, declared.created.CreateResult.CreateResult}
use Rattle.nfs_clients.specs.declared.created.CreateResult.TheVariants.{Done, Refused}

-- what a call comes to by its number and its caller
pub data Verdict : Type 0 where
  Stale : Verdict
  Again : CreateResult → Verdict
  Misordered : Verdict
  InUse : Verdict
  Runs : Verdict

-- the number that is expected runs, the one before repeats what was kept under it
abbrev pub verdict_by : Option ClientRecord → ℕ → ℕ → Verdict
verdict_by None number uid = Stale
verdict_by (Some c) number uid =
    if number == c.number then (if c.uid == uid then Runs else InUse)
    else if next_number number == c.number then option_map_or Again c.kept Misordered
    else Misordered

abbrev pub create_verdict : Roster → ℕ → ℕ → ℕ → Verdict
create_verdict t id number uid = verdict_by (client_at t id) number uid

-- The results that use their number up: success, and the refusals by a size, by the count of sessions and by a counter.
abbrev pub status_uses_up : Status → Bool
status_uses_up TooSmall = true
status_uses_up NoSpc = true
status_uses_up ServerFault = true
status_uses_up _ = false

abbrev pub uses_up : CreateResult → Bool
uses_up (Done reply) = true
uses_up (Refused status) = status_uses_up status

-- the record with the result of its expected number
abbrev pub keeps : CreateResult → ClientRecord → ClientRecord
keeps result c = if uses_up result then record c { number = next_number c.number; kept = Some result } else c

abbrev pub with_kept : Roster → ℕ → CreateResult → Roster
with_kept t id result = with_changed t id (keeps result)

-- another confirmed record of the same owner
abbrev pub is_other_confirmed_of : ClientRecord → ClientRecord → Bool
is_other_confirmed_of c d = is_confirmed_of c.owner d && not (d.id == c.id)

-- the record that a client's confirmation removes
abbrev pub leaving : Roster → ℕ → Option ℕ
leaving t id = option_and_then (λ c. option_map (λ d. d.id) (find (is_other_confirmed_of c) t.records)) (client_at t id)

-- the table behind a confirmation
abbrev pub with_confirmed : Roster → ℕ → Roster
with_confirmed t id = with_changed (option_map_or (without t) (leaving t id) t) id (λ c. record c { confirmed = true })
