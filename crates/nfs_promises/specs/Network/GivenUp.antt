-- A slot on which compounds are given up, worked by hand (RFC 8881 sections 2.10.6.1 and 18.46), as a client does it whose processes are killed. The server and
-- the caller are those of the lost reply. The reply to the first compound is lost, and the caller gives it up: it sends the second one, and accepts its result. The
-- third one is late, and the caller gives it up too. It sends the fourth one, which is refused, as the third has not run. So it sends another compound under the
-- third number, which runs, and accepts its result. Then the third one comes, and does not run. The caller sends the fourth one again, and accepts its result.
use Rattle.std.specs.Prelude.{◌≡◌, ℕ, List, [], ◌∷◌, Option, None}
use Rattle.nfs_promises.specs.{Runs.Requests.words, Network.{Endpoint.{Compound, Answer}, ExactlyOnce.{Packet, RanCompound, NetworkEvent, Sends, Arrives}}}
use Rattle.nfs_promises.specs.Network.{ExactlyOnce.{Accepts, ended}, ByNumber.Happens, LostReply.{call, place, callers, compound, with_highest, packet, answer}}
use Rattle.nfs_promises.specs.Network.LostReply.{outset, done}

-- SEQUENCE under number 3 as before, but that its reply is to be kept
abbrev pub other : Compound
other = record { number = 3; uid = 5; args = words (0 ∷ 1 ∷ 1 ∷ 53 ∷ 7 ∷ 1 ∷ 0 ∷ 1 ∷ 3 ∷ 1 ∷ 1 ∷ []) }

abbrev pub other_packet : Packet
other_packet = record { bytes = call 7 (with_highest 1 other.args); heading = record { xid = 7; place = place; compound = other; highest = 1 } }

abbrev pub other_done : RanCompound
other_done = record { compound = other; result = (answer 7 3).result }

abbrev pub events : List NetworkEvent
events =
    Sends (packet 3 1) ∷ Arrives (packet 3 1) 102 None
    ∷ Sends (packet 4 2) ∷ Arrives (packet 4 2) 103 None ∷ Accepts place (compound 2) (answer 4 2)
    ∷ Sends (packet 5 3) ∷ Sends (packet 6 4) ∷ Arrives (packet 6 4) 104 None
    ∷ Sends other_packet ∷ Arrives other_packet 105 None ∷ Accepts place other (answer 7 3) ∷ Arrives (packet 5 3) 106 None
    ∷ Sends (packet 8 4) ∷ Arrives (packet 8 4) 107 None ∷ Accepts place (compound 4) (answer 8 4) ∷ []

-- These events may happen, and so meet the premises of `exactly_once_by_number`. Three compounds are given up: the first one ran, and is not asked for again; the
-- third one never ran; the fourth one is sent again, and ran once.
pub record IsGivenUp (find : List ℕ → Option Answer) : Type 0 where
  pub happens : Happens callers (outset find).machine (outset find) events
  pub line : (ended callers (outset find) events).lines place
      ≡ record {
        sent = compound 1 ∷ compound 2 ∷ compound 3 ∷ compound 4 ∷ other ∷ compound 4 ∷ [];
        given_up = 3;
        executed = done 1 ∷ done 2 ∷ other_done ∷ done 4 ∷ [];
        accepted = done 2 ∷ other_done ∷ done 4 ∷ [];
        xids = [];
      }
