-- The client records, and the ids that they get (RFC 8881 section 2.4; ids and limits are this server's profile).
use Rattle.std.specs.Prelude.{◌≡◌, ℕ, ◌+◌, ◌*◌, ◌/◌, ◌^◌, ◌<◌, ◌≤◌, ◌&&◌, not, Bool, List, [], length, Option, find, bytes_eq}
use Rattle.nfs_xdr.specs.Tables.{IsRising, record_at, without_record, with_record, In}
use Rattle.nfs_clients.specs.declared.created.CreateResult.{CreateResult}

-- A client record: its id, the string by which the client names itself, the verifier of its start and its user; whether a CREATE_SESSION has confirmed it;
-- the number that the next CREATE_SESSION must bear, and the result of the number before, if one was used up; whether its reclaim is complete.
pub record ClientRecord : Type 0 where
  pub id : ℕ
  pub owner : List ℕ
  pub verifier : List ℕ
  pub uid : ℕ
  pub confirmed : Bool
  pub number : ℕ
  pub kept : Option CreateResult
  pub reclaimed : Bool

-- The records in rising order of their ids; the last id that was given, or before the first one the instance with the counter 0; and how many
-- records there are at most.
pub record Roster : Type 0 where
  pub records : List ClientRecord
  pub last : ℕ
  pub most : ℕ

-- the counter's last value: behind it no more ids are given
abbrev pub last_counter : ℕ
last_counter = 0xffff_ffff

-- an id is the server's instance, and behind it the counter
abbrev pub id_of : ℕ → ℕ → ℕ
id_of instance counter = instance * 2 ^ 32 + counter

-- the first id that is given in the instance of the last one
abbrev pub first_id : Roster → ℕ
first_id t = id_of (t.last / 2 ^ 32) 1

-- the id of the record that is added next
abbrev pub next_id : Roster → ℕ
next_id t = t.last + 1

-- the table of a new server, which is to have so many records at most
abbrev pub no_clients : (instance most : ℕ) → Roster
no_clients instance most = record { records = []; last = id_of instance 0; most = most }

-- the record of an id
abbrev pub client_at : Roster → ℕ → Option ClientRecord
client_at t id = record_at (λ c. c.id) t.records id

abbrev pub is_confirmed_of : List ℕ → ClientRecord → Bool
is_confirmed_of owner c = bytes_eq c.owner owner && c.confirmed

abbrev pub is_unconfirmed_of : List ℕ → ClientRecord → Bool
is_unconfirmed_of owner c = bytes_eq c.owner owner && not c.confirmed

-- the owner's confirmed record, and its unconfirmed one
abbrev pub confirmed_of : Roster → List ℕ → Option ClientRecord
confirmed_of t owner = find (is_confirmed_of owner) t.records

abbrev pub unconfirmed_of : Roster → List ℕ → Option ClientRecord
unconfirmed_of t owner = find (is_unconfirmed_of owner) t.records

-- the table without a record
abbrev pub without : Roster → ℕ → Roster
without t id = record t { records = without_record (λ c. c.id) t.records id }

-- the table with one record changed
abbrev pub with_changed : Roster → ℕ → (ClientRecord → ClientRecord) → Roster
with_changed t id change = record t { records = with_record (λ c. c.id) t.records id change }

-- What holds of every table. Ids rise and were all given out; no owner has two confirmed records, nor two unconfirmed ones; the instance has four bytes.
pub record IsRoster (t : Roster) : Type 0 where
  pub rising : IsRising (λ c. c.id) (first_id t) t.records (next_id t)
  pub alone : (c d : ClientRecord) → In c t.records → In d t.records → c.owner ≡ d.owner → c.confirmed ≡ d.confirmed → c ≡ d
  pub few : length t.records ≤ t.most
  pub instance : t.last / 2 ^ 32 < 2 ^ 32
