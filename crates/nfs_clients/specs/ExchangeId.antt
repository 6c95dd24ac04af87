-- EXCHANGE_ID: the cases in the order in which they are judged, the answer, and the table behind it (RFC 8881 section 18.35;
-- the cases are this server's profile).
use Rattle.std.specs.Prelude.{ℕ, ◌==◌, ◌%◌, ◌^◌, ◌&&◌, ◌||◌, not, nat_lt, Bool, true, false, List, [], ◌∷◌, ◌++◌, length, Option, Some, None, Result, Ok, Err}
use Rattle.std.specs.Prelude.{filter, option_map, is_some, unwrap_or, bytes_eq, bit_and}
use Rattle.nfs_xdr.specs.{declared.status.Status.Status, Checks.first_fault}
use Rattle.nfs_xdr.specs.declared.status.Status.TheVariants as status
use Rattle.nfs_clients.specs.Roster.{ClientRecord, Roster, last_counter, next_id, is_unconfirmed_of, confirmed_of, unconfirmed_of}
use Rattle.nfs_clients.specs.declared.exchange_id.ClientFault.{ClientFault}
use Rattle.nfs_clients.specs.declared.exchange_id.ClientFault.TheVariants.{Inval, NoEnt, NotSame, Perm, ClidInUse, ServerFault, Memory}
use Rattle.nfs_clients.specs.declared.exchange_id.Exchanged.{Exchanged}

-- the status that a fault is answered with
abbrev pub client_fault_status : ClientFault → Status
client_fault_status Inval = status.Inval
client_fault_status NoEnt = status.NoEnt
client_fault_status NotSame = status.NotSame
client_fault_status Perm = status.Perm
client_fault_status ClidInUse = status.ClidInUse
client_fault_status ServerFault = status.ServerFault
client_fault_status Memory = status.Delay

-- what the call asks, and whether an open stands of the client that the owner's confirmed record is
pub record Ask : Type 0 where
  pub owner : List ℕ
  pub verifier : List ℕ
  pub flags : ℕ
  pub uid : ℕ
  pub has_open : Bool

abbrev pub asks : List ℕ → List ℕ → ℕ → ℕ → Bool → Ask
asks owner verifier flags uid has_open = record { owner = owner; verifier = verifier; flags = flags; uid = uid; has_open = has_open }

-- EXCHGID4_FLAG_CONFIRMED_R, which no call may carry
abbrev pub carries_confirmed : Ask → Bool
carries_confirmed a = not (bit_and a.flags 0x8000_0000 == 0)

-- EXCHGID4_FLAG_UPD_CONFIRMED_REC_A
abbrev pub updates : Ask → Bool
updates a = not (bit_and a.flags 0x4000_0000 == 0)

abbrev pub same_verifier : Ask → ClientRecord → Bool
same_verifier a c = bytes_eq c.verifier a.verifier

abbrev pub same_user : Ask → ClientRecord → Bool
same_user a c = c.uid == a.uid

-- what a call comes to: nothing but an answer, a fault or a record that stands, or a new record
pub data Case : Type 0 where
  Refuses : ClientFault → Case
  Stays : ClientRecord → Case
  Adds : Case

-- The rows, by the owner's confirmed record. The first whose test holds decides, and a record is added where none does.
abbrev pub case_by : Ask → Option ClientRecord → Case
case_by a None =
    unwrap_or (first_fault ((carries_confirmed a, Refuses Inval)
    ∷ (updates a, Refuses NoEnt)
    ∷ [])) Adds
case_by a (Some c) =
    unwrap_or (first_fault ((carries_confirmed a, Refuses Inval)
    ∷ (updates a && not (same_verifier a c), Refuses NotSame)
    ∷ (updates a && not (same_user a c), Refuses Perm)
    ∷ (updates a, Stays c)
    ∷ (same_user a c && same_verifier a c, Stays c)
    ∷ (same_user a c, Adds)
    ∷ (a.has_open, Refuses ClidInUse)
    ∷ [])) Adds

-- a record can be added: ids are left (the counter is an id's last four bytes), and it takes the place of the owner's unconfirmed one or finds one free
abbrev pub has_room : Roster → List ℕ → Bool
has_room t owner = nat_lt (t.last % 2 ^ 32) last_counter && (is_some (unconfirmed_of t owner) || nat_lt (length t.records) t.most)

-- where there is no room, a new record is refused and nothing else
abbrev pub if_room : Bool → Case → Case
if_room false Adds = Refuses ServerFault
if_room room case = case

-- what a call comes to in this table
abbrev pub case_of : Roster → Ask → Case
case_of t a = if_room (has_room t a.owner) (case_by a (confirmed_of t a.owner))

-- the table with a new record, in place of the owner's unconfirmed one if there is one
abbrev pub with_new : Roster → (owner verifier : List ℕ) → (uid : ℕ) → Roster
with_new t owner verifier uid = record t {
  records = filter (λ c. not (is_unconfirmed_of owner c)) t.records ++ record {
    id = next_id t;
    owner = owner;
    verifier = verifier;
    uid = uid;
    confirmed = false;
    number = 1;
    kept = None;
    reclaimed = false;
  } ∷ [];
  last = next_id t;
}

-- what is reported of a record that is added
abbrev pub answer_added : Roster → List ℕ → Exchanged
answer_added t owner = record { id = next_id t; number = 1; confirmed = false; added = true; replaced = option_map (λ c. c.id) (unconfirmed_of t owner) }

-- what is reported of a record that stands
abbrev pub answer_standing : ClientRecord → Exchanged
answer_standing c = record { id = c.id; number = c.number; confirmed = true; added = false; replaced = None }

-- an answer, and the table behind it
pub record Did : Type 0 where
  pub answer : Result Exchanged ClientFault
  pub after : Roster

abbrev pub does : Roster → Ask → Case → Did
does t a (Refuses fault) = record { answer = Err fault; after = t }
does t a (Stays c) = record { answer = Ok (answer_standing c); after = t }
does t a Adds = record { answer = Ok (answer_added t a.owner); after = with_new t a.owner a.verifier a.uid }

abbrev pub exchange : Roster → Ask → Did
exchange t a = does t a (case_of t a)
