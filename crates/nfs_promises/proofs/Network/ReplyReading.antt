-- Reading what a reply says: a tool of proofs. That it finds just what the texts of `ThisServer` say, `ThisServer` shows.
use Rattle.std.specs.Prelude.{ℕ, ◌==◌, ◌&&◌, List, Bool, false, Option, Some, None, if◌then◌else◌}
use Rattle.nfs_xdr.specs.{Limits.opaque_limit, Codec.{Codec, ◌then◌, number, opaque}, Combinators.fixed}
use Rattle.nfs_sessions.specs.Id.{id_of}
use Rattle.nfs_promises.specs.Network.Endpoint.{Answer, SlotNumber}

-- the head of a reply that says success, as six numbers
abbrev pub head : Codec (ℕ × (ℕ × (ℕ × (ℕ × (ℕ × ℕ)))))
head = number then number then number then number then number then number

abbrev pub by_head : Option ((ℕ × (ℕ × (ℕ × (ℕ × (ℕ × ℕ))))) × List ℕ) → Option Answer
by_head None = None
by_head (Some x) =
    if (x.0.1.0 == 1) && (x.0.1.1.0 == 0) && (x.0.1.1.1.0 == 0) && (x.0.1.1.1.1.0 == 0) && (x.0.1.1.1.1.1 == 0)
    then Some (record { xid = x.0.0; result = x.1 }) else None

abbrev pub answer_in : List ℕ → Option Answer
answer_in reply = by_head (head.read reply)

-- the front of a compound's result: its status, its tag, how many operations answered, and of the first its number and status
abbrev pub front : Codec (ℕ × (List ℕ × (ℕ × (ℕ × ℕ))))
front = number then opaque opaque_limit then number then number then number

abbrev pub by_front : Option ((ℕ × (List ℕ × (ℕ × (ℕ × ℕ)))) × List ℕ) → Bool
by_front None = false
by_front (Some x) = (x.0.1.1.1.0 == 53) && (x.0.1.1.1.1 == 0)

abbrev pub sequenced : List ℕ → Bool
sequenced result = by_front (front.read result)

-- the first items of SEQUENCE's result: the session, the number and the slot
abbrev pub sequence_front : Codec (List ℕ × (ℕ × ℕ))
sequence_front = fixed 16 then number then number

abbrev pub by_sequence_front : Option ((List ℕ × (ℕ × ℕ)) × List ℕ) → Option SlotNumber
by_sequence_front None = None
by_sequence_front (Some x) = Some (record { place = record { session = id_of x.0.0; slot = x.0.1.1 }; number = x.0.1.0 })

abbrev pub numbered_by : Option ((ℕ × (List ℕ × (ℕ × (ℕ × ℕ)))) × List ℕ) → Option SlotNumber
numbered_by None = None
numbered_by (Some x) = if by_front (Some x) then by_sequence_front (sequence_front.read x.1) else None

abbrev pub slot_number : List ℕ → Option SlotNumber
slot_number result = numbered_by (front.read result)
