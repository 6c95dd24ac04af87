-- What the proofs of promises call parts of definitions by.
use Rattle.std.specs.{Prelude.{ℕ, Bool, false, [], Option, option_map}, Option.option_map_or}
use Rattle.nfs_compound.specs.Request.{Request}
use Rattle.nfs_rpc.specs.CallHead.{Call}
use Rattle.nfs_exec.specs.{Step.Executing.sequence_of, Runs.OneSession.asks_session}
use Rattle.nfs_serve.specs.{Step.ServerState}
use Rattle.nfs_promises.specs.{Network.{Endpoint.{Arrival, Heading}, ExactlyOnce.Line, ThisServer.heading_of}, Runs.Points.asked_by}

-- the record asks for a session of the client
abbrev pub asks_by : ℕ → ServerState → Arrival → Bool
asks_by client s c = option_map_or (asks_session client) (asked_by s c) false

abbrev pub no_line : Line
no_line = record { sent = []; given_up = 0; executed = []; accepted = []; xids = [] }

abbrev pub heading_in : Call → Request → Option Heading
heading_in call r = option_map (heading_of call r) (sequence_of r)
