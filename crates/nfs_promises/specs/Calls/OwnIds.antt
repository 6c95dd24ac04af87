-- Whose a client id and a session id are, in whole runs (RFC 8881 sections 2.4, 2.10.1, 18.35 and 18.36): what one client was told is told to no other.
-- Which answers a server gives is left open here, so that a wrong server can be tried: `answered` are those of this one.
use Rattle.std.specs.Prelude.{◌≡◌, ℕ, ◌<◌, ◌^◌, List, [], ◌∷◌, ◌++◌, length, Option, Some}
use Rattle.std.specs.Option.{option_map_or}
use Rattle.nfs_xdr.specs.{Caller.Caller, Spelling.hyper, declared.status.Status.TheVariants.Nfs4Ok}
use Rattle.nfs_compound.specs.{declared.op.Item.Item, declared.op.Item.TheVariants.Operation, Request.Request}
use Rattle.nfs_compound.specs.{declared.session_args.ExchangeId.ExchangeId, declared.session_args.CreateSession.CreateSession}
use Rattle.nfs_compound.specs.declared.op.Op.TheVariants as Op
use Rattle.nfs_compound.specs.declared.op_num.OpNum.TheVariants as Num
use Rattle.nfs_results.specs.Results.{done_head, spell_compound_head}
use Rattle.nfs_names.specs.declared.start.Start.{Start}
use Rattle.nfs_exec.specs.{Step.Machine.Machine, Step.Compound.compound, Step.Laws.{MachineEvent, Expires, Asks}}
use Rattle.nfs_serve.specs.Step.{ServerState}
use Rattle.nfs_promises.specs.{Runs.Points.{state_after, state_after_all, reached, before, asked_by}, Network.Endpoint.Arrival}

-- what a server answers to a record, as the bytes of its compound's result
abbrev pub Answers : Type 0
Answers = ServerState → Arrival → List ℕ

abbrev pub text_of : Machine → MachineEvent → List ℕ
text_of m (Asks r who size now choice) = (compound m r who size now choice).text
text_of m (Expires now) = []

-- this server's
abbrev pub answered : Answers
answered s c = option_map_or (text_of (before s c)) (asked_by s c) []

-- Such an event stands first in its compound, and is answered NFS4_OK, one result, which begins so behind its head.
pub record AnswersFirst (first : Item) (operation body : List ℕ) (o : Option MachineEvent) (text : List ℕ) : Type 0 where
  pub request : Request
  pub who : Caller
  pub size : ℕ
  pub now : ℕ
  pub choice : Option ℕ
  pub is : o ≡ Some (Asks request who size now choice)
  pub more : List Item
  pub left : request.left ≡ first ∷ more
  pub behind : List ℕ
  pub answers : text ≡ spell_compound_head Nfs4Ok request.tag 1 ++ (operation ++ (body ++ behind))

-- an EXCHANGE_ID of this owner, with this verifier, is told the client id
pub record TellsClient (owner verifier : List ℕ) (client : ℕ) (o : Option MachineEvent) (text : List ℕ) : Type 0 where
  pub asked : ExchangeId
  pub owner_is : asked.ownerid ≡ owner
  pub verifier_is : asked.verifier ≡ verifier
  pub small : client < 2 ^ 64
  pub told : AnswersFirst (Operation (Op.ExchangeId asked)) (done_head Num.ExchangeId) (hyper client) o text

-- a CREATE_SESSION of this client, with this number, is told the session id, which has 16 bytes
pub record TellsSession (client : ℕ) (id : List ℕ) (o : Option MachineEvent) (text : List ℕ) : Type 0 where
  pub asked : CreateSession
  pub of : asked.clientid ≡ client
  pub eight : client < 2 ^ 64
  pub small : asked.sequence < 2 ^ 32
  pub long : length id ≡ 16
  pub told : AnswersFirst (Operation (Op.CreateSession asked)) (done_head Num.CreateSession) id o text

-- Whoever is told a client id that was told before is the same owner, with the same verifier.
abbrev pub ClientIdsAreOnes : Answers → Start → Type 0
ClientIdsAreOnes answers start = (earlier : List Arrival) (c : Arrival) (between : List Arrival) (d : Arrival) (owner verifier other another : List ℕ) (client : ℕ)
    → (let s = reached start earlier in
    let t = state_after_all (state_after s c) between in
    TellsClient owner verifier client (asked_by s c) (answers s c) → TellsClient other another client (asked_by t d) (answers t d)
    → (other ≡ owner) × (another ≡ verifier))

-- Whoever is told a session id that was told before is the same client.
abbrev pub SessionIdsAreOnes : Answers → Start → Type 0
SessionIdsAreOnes answers start = (earlier : List Arrival) (c : Arrival) (between : List Arrival) (d : Arrival) (client other : ℕ) (id : List ℕ)
    → (let s = reached start earlier in
    let t = state_after_all (state_after s c) between in
    TellsSession client id (asked_by s c) (answers s c) → TellsSession other id (asked_by t d) (answers t d) → other ≡ client)

-- In every run of this server.
abbrev pub IdsAreOnes : Type 0
IdsAreOnes = (start : Start) → start.instance < 2 ^ 32 → ClientIdsAreOnes answered start × SessionIdsAreOnes answered start
