-- One session a CREATE_SESSION (RFC 8881 section 18.36.4): what it asked for and was answered, and which sessions it leaves.
use Rattle.std.specs.Prelude.{◌≡◌, ◌⊎◌, ℕ, ◌==◌, Bool, true, false, List, ◌∷◌, ◌++◌, length, Option, None, is_some}
use Rattle.nfs_xdr.specs.{Caller.Caller, Tables.In, declared.status.Status.TheVariants.Nfs4Ok}
use Rattle.nfs_compound.specs.{declared.op.Item.Item, declared.op.Item.TheVariants.Operation, Request.Request}
use Rattle.nfs_compound.specs.declared.session_args.CreateSession.{CreateSession}
use Rattle.nfs_compound.specs.declared.op.Op.TheVariants as Op
use Rattle.nfs_compound.specs.declared.op_num.OpNum.TheVariants as Num
use Rattle.nfs_results.specs.Results.{done_head, spell_compound_head}
use Rattle.nfs_names.specs.{declared.start.Start.Start}
use Rattle.nfs_sessions.specs.{declared.id.SessionId.SessionId, Id.id_bytes, Sessions.{Session, SessionTable, is_session, session_at}}
use Rattle.nfs_exec.specs.{Step.Machine.{Machine, starts}, Step.Compound.compound, Step.Laws.{MachineEvent, Expires, Asks, stepped, all_stepped}}

-- it asks for a session of the client: CREATE_SESSION stands first
abbrev pub asks_of : ℕ → List Item → Bool
asks_of client (Operation (Op.CreateSession c) ∷ more) = c.clientid == client
asks_of client items = false

abbrev pub asks_session : ℕ → MachineEvent → Bool
asks_session client (Expires now) = false
asks_session client (Asks r who size now choice) = asks_of client r.left

-- A CREATE_SESSION of the client with this number answered NFS4_OK and this session id, which has 16 bytes.
pub record Gives (client number : ℕ) (id : List ℕ) (m : Machine) (e : MachineEvent) : Type 0 where
  pub request : Request
  pub who : Caller
  pub size : ℕ
  pub now : ℕ
  pub choice : Option ℕ
  pub is : e ≡ Asks request who size now choice
  pub asked : CreateSession
  pub more : List Item
  pub first : request.left ≡ Operation (Op.CreateSession asked) ∷ more
  pub for : asked.clientid ≡ client
  pub with : asked.sequence ≡ number
  pub behind : List ℕ
  pub answers : (compound m request who size now choice).text ≡ spell_compound_head Nfs4Ok request.tag 1 ++ (done_head Num.CreateSession ++ (id ++ behind))
  pub long : length id ≡ 16

-- A session of the id, of the client, stands behind it, which did not before; no other is new, and the client's others stand on.
pub record MakesOne (client : ℕ) (id : List ℕ) (before left : SessionTable) : Type 0 where
  pub session : SessionId
  pub spelled : id ≡ id_bytes session
  pub of : session.client ≡ client
  pub absent : session_at before session ≡ None
  pub there : is_some (session_at left session) ≡ true
  pub alone : (s : Session) → In s left.sessions → In s before.sessions ⊎ (is_session session s ≡ true)
  pub others : (s : Session) → In s before.sessions → s.client ≡ client → In s left.sessions

-- In every run: what is answered so made one session, of the id that is answered, or changed nothing.
abbrev pub GivesOne : Type 0
GivesOne = (start : Start) (events : List MachineEvent) (e : MachineEvent) (client number : ℕ) (id : List ℕ)
    → (let m = all_stepped (starts start) events in
    Gives client number id m e → (stepped m e ≡ m) ⊎ MakesOne client id m.sessions (stepped m e).sessions)
