-- Each no has its reason and each yes is true of what stands first in a compound too: of SEQUENCE, and of what stands alone outside a session (RFC 8881 sections 2.10.6.1,
-- 15.1, 18.35 to 18.37, 18.46 and 18.50).
use Rattle.std.specs.Prelude.{◌≡◌, ◌≢◌, ◌⊎◌, ℕ, ◌<◌, ◌≤◌, ◌-◌, ◌%◌, ◌^◌, bit_and, Bool, true, false, List, ◌∷◌, ◌++◌, length, Option, Some, None, slice_get, if◌then◌else◌}
use Rattle.nfs_xdr.specs.{Caller.Caller, Numbers.next_number, Tables.In, declared.status.Status.Status}
use Rattle.nfs_xdr.specs.declared.status.Status.TheVariants as S
use Rattle.nfs_compound.specs.{Request.{Request, item_number}, declared.channel_attrs.ChannelAttrs.ChannelAttrs, declared.op.{Op.Op, Item.Item, Item.TheVariants.{Operation, Fault}}}
use Rattle.nfs_compound.specs.declared.session_args.{CreateSession.CreateSession, ExchangeId.ExchangeId, Sequence.Sequence}
use Rattle.nfs_compound.specs.declared.op_num.OpNum.TheVariants as Num
use Rattle.nfs_results.specs.{declared.res.{Res.Res, CreateSessionOk.CreateSessionOk, ExchangeIdOk.ExchangeIdOk, SequenceOk.SequenceOk}, Results.{done_head, refusal, spell_compound_head, spell_result}}
use Rattle.nfs_clients.specs.{declared.created.CreateResult.TheVariants.{Done, Refused}, Roster.ClientRecord}
use Rattle.nfs_slots.specs.Slot.{SlotState}
use Rattle.nfs_sessions.specs.{Id.{id_of, id_bytes}, Sessions.Session}
use Rattle.nfs_opens.specs.declared.records.OpenState.{OpenState}
use Rattle.nfs_names.specs.declared.start.Start.{Start}
use Rattle.nfs_exec.specs.{Step.Machine.Machine, Step.Run.is_here, Step.Laws.Asks, Step.Sequencing.TookAnother}
use Rattle.nfs_serve.specs.Step.{ServerState}
use Rattle.nfs_promises.specs.{Network.Endpoint.Arrival, Runs.Points.{state_after, reached, before, asked_by}, Calls.OwnIds.answered, Answers.Reasons.stands_alone}

-- What is named.

abbrev pub session_named : Item → Option (List ℕ)
session_named (Operation (Op.Sequence a)) = Some a.sessionid
session_named (Operation (Op.DestroySession id)) = Some id
session_named item = None

abbrev pub client_named : Item → Option ℕ
client_named (Operation (Op.CreateSession c)) = Some c.clientid
client_named (Operation (Op.DestroyClientId client)) = Some client
client_named item = None

-- the session has the id
pub record HasId (s : Session) (id : List ℕ) : Type 0 where
  pub client : s.client ≡ (id_of id).client
  pub counter : s.counter ≡ (id_of id).counter

-- a SEQUENCE in a session that stands
pub record InSession (m : Machine) (i : Item) : Type 0 where
  pub asked : Sequence
  pub is : i ≡ Operation (Op.Sequence asked)
  pub session : Session
  pub there : In session m.sessions.sessions
  pub id : HasId session asked.sessionid

-- an EXCHANGE_ID, and one that updates a record (EXCHGID4_FLAG_UPD_CONFIRMED_REC_A)
abbrev pub Updates : ExchangeId → Type 0
Updates e = bit_and e.flags 0x4000_0000 ≢ 0

-- the owner's confirmed record
pub record IsOwners (m : Machine) (e : ExchangeId) (c : ClientRecord) : Type 0 where
  pub there : In c m.clients.records
  pub owner : c.owner ≡ e.ownerid
  pub confirmed : c.confirmed ≡ true

-- a CREATE_SESSION by a client that has a record
pub record ByClient (m : Machine) (i : Item) : Type 0 where
  pub asked : CreateSession
  pub is : i ≡ Operation (Op.CreateSession asked)
  pub record_of : ClientRecord
  pub there : In record_of m.clients.records
  pub id : record_of.id ≡ asked.clientid

-- a channel has room for the least request and reply, an operation and a slot
abbrev pub IsSmall : ChannelAttrs → Type 0
IsSmall a = (a.maxrequestsize < 2048) ⊎ ((a.maxresponsesize < 2048) ⊎ ((a.maxoperations ≡ 0) ⊎ (a.maxrequests ≡ 0)))

-- The table of refusals: a row for each status.
abbrev pub FirstReason : Machine → Request → Caller → (size : ℕ) → (refused : Bool) → Item → Status → Type 0
FirstReason m r who size refused i S.BadSession = (id : List ℕ) × (session_named i ≡ Some id) × ((s : Session) → In s m.sessions.sessions → HasId s id → ⊥)
FirstReason m r who size refused i S.BadSlot = (k : InSession m i) × ((k.session.channel.maxrequests ≤ k.asked.slotid) ⊎ (slice_get k.session.slots k.asked.slotid ≡ None))
FirstReason m r who size refused i S.BadHighSlot = (k : InSession m i) × (k.session.channel.maxrequests ≤ k.asked.highest_slotid)
FirstReason m r who size refused i S.SeqMisordered =
    ((k : InSession m i) × (x : SlotState) × (slice_get k.session.slots k.asked.slotid ≡ Some x) × (k.asked.sequenceid ≢ next_number x.number)
    × (x.used ≡ true → k.asked.sequenceid ≢ x.number))
    ⊎ ((k : ByClient m i) × (((k.asked.sequence ≢ k.record_of.number) × (next_number k.asked.sequence ≢ k.record_of.number))
    ⊎ ((next_number k.asked.sequence ≡ k.record_of.number) × (k.record_of.kept ≡ None))))
FirstReason m r who size refused i S.SeqFalseRetry = (a : Sequence) × (i ≡ Operation (Op.Sequence a)) × TookAnother m r who a
FirstReason m r who size refused i S.ReqTooBig = (k : InSession m i) × (k.session.channel.maxrequestsize < size)
FirstReason m r who size refused i S.TooManyOps = (k : InSession m i) × (k.session.channel.maxoperations < r.declared)
FirstReason m r who size refused i S.StaleClientId = (client : ℕ) × (client_named i ≡ Some client) × ((c : ClientRecord) → In c m.clients.records → c.id ≢ client)
FirstReason m r who size refused i S.ClientIdBusy = (client : ℕ) × (i ≡ Operation (Op.DestroyClientId client))
    × (((s : Session) × In s m.sessions.sessions × (s.client ≡ client)) ⊎ ((o : OpenState) × In o m.store.opens.opens × (o.client ≡ client)))
FirstReason m r who size refused i S.ClidInUse =
    ((e : ExchangeId) × (i ≡ Operation (Op.ExchangeId e)) × (c : ClientRecord) × IsOwners m e c × (c.uid ≢ who.uid) × (o : OpenState) × In o m.store.opens.opens × (o.client ≡ c.id))
    ⊎ ((k : ByClient m i) × (k.record_of.uid ≢ who.uid))
FirstReason m r who size refused i S.Inval = (e : ExchangeId) × (i ≡ Operation (Op.ExchangeId e)) × (bit_and e.flags 0x8000_0000 ≢ 0)
FirstReason m r who size refused i S.NoEnt = (e : ExchangeId) × (i ≡ Operation (Op.ExchangeId e)) × Updates e × ((c : ClientRecord) → IsOwners m e c → ⊥)
FirstReason m r who size refused i S.NotSame = (e : ExchangeId) × (i ≡ Operation (Op.ExchangeId e)) × Updates e × (c : ClientRecord) × IsOwners m e c × (c.verifier ≢ e.verifier)
FirstReason m r who size refused i S.Perm = (e : ExchangeId) × (i ≡ Operation (Op.ExchangeId e)) × Updates e × (c : ClientRecord) × IsOwners m e c × (c.uid ≢ who.uid)
FirstReason m r who size refused i S.NotOnlyOp = (op : Op) × (i ≡ Operation op) × (stands_alone op ≡ true) × (1 < r.declared)
FirstReason m r who size refused i S.OpNotInSession = (op : Op) × (i ≡ Operation op) × (stands_alone op ≡ false)
FirstReason m r who size refused i S.TooSmall = (c : CreateSession) × (i ≡ Operation (Op.CreateSession c)) × IsSmall c.fore_chan_attrs
FirstReason m r who size refused i S.NoSpc = (c : CreateSession) × (i ≡ Operation (Op.CreateSession c)) × (m.sessions.most ≤ length m.sessions.sessions)
FirstReason m r who size refused i S.ServerFault =
    ((c : CreateSession) × (i ≡ Operation (Op.CreateSession c)) × (m.sessions.last ≡ 0xffff_ffff_ffff_ffff))
    ⊎ ((e : ExchangeId) × (i ≡ Operation (Op.ExchangeId e)) × ((0xffff_ffff ≤ m.clients.last % 2 ^ 32) ⊎ (m.clients.most ≤ length m.clients.records)))
FirstReason m r who size refused i S.Delay = refused ≡ true
FirstReason m r who size refused i status = ⊥

-- The table of answers.

-- SEQUENCE, whatever runs behind it: the session's last slot, twice, and no flag
pub record IsSequenced (m : Machine) (r : Request) (i : Item) (text : List ℕ) : Type 0 where
  pub of : InSession m i
  pub told : SequenceOk
  pub status : Status
  pub count : ℕ
  pub rest : List ℕ
  pub says : text ≡ spell_compound_head status r.tag count ++ (spell_result (Res.Sequence told) ++ rest)
  pub session : told.sessionid ≡ of.asked.sessionid
  pub number : told.sequenceid ≡ of.asked.sequenceid
  pub slot : told.slotid ≡ of.asked.slotid
  pub highest : told.highest_slotid ≡ of.session.channel.maxrequests - 1
  pub target : told.target_highest_slotid ≡ of.session.channel.maxrequests - 1
  pub flags : told.status_flags ≡ 0

-- EXCHANGE_ID: a record of the owner, with its verifier and the caller's user, stands behind it, and its id, its number and whether it is confirmed are told
pub record IsExchanged (m : Machine) (r : Request) (who : Caller) (i : Item) (text : List ℕ) (t : Machine) : Type 0 where
  pub asked : ExchangeId
  pub is : i ≡ Operation (Op.ExchangeId asked)
  pub told : ExchangeIdOk
  pub says : text ≡ spell_compound_head S.Nfs4Ok r.tag 1 ++ spell_result (Res.ExchangeId told)
  pub record_of : ClientRecord
  pub there : In record_of t.clients.records
  pub id : record_of.id ≡ told.clientid
  pub owner : record_of.owner ≡ asked.ownerid
  pub verifier : record_of.verifier ≡ asked.verifier
  pub user : record_of.uid ≡ who.uid
  pub number : told.sequenceid ≡ record_of.number
  pub flags : told.flags ≡ (if record_of.confirmed then 0x8001_0000 else 0x0001_0000)
  pub name : told.major_id ≡ m.owner
  pub scope : told.server_scope ≡ m.owner

-- CREATE_SESSION: a session of the client stands behind it, of the channel that is told, and with as many slots
pub record IsCreated (r : Request) (i : Item) (text : List ℕ) (t : Machine) : Type 0 where
  pub asked : CreateSession
  pub is : i ≡ Operation (Op.CreateSession asked)
  pub told : CreateSessionOk
  pub says : text ≡ spell_compound_head S.Nfs4Ok r.tag 1 ++ spell_result (Res.CreateSession told)
  pub session : Session
  pub there : In session t.sessions.sessions
  pub client : session.client ≡ asked.clientid
  pub id : told.sessionid ≡ id_bytes (record { client = session.client; counter = session.counter })
  pub number : told.sequence ≡ asked.sequence
  pub channel : told.fore_chan_attrs ≡ session.channel
  pub slots : length session.slots ≡ session.channel.maxrequests

-- DESTROY_SESSION and DESTROY_CLIENTID: none of the id is left
pub record IsEnded (r : Request) (i : Item) (result : Res) (text : List ℕ) (t : Machine) : Type 0 where
  pub says : text ≡ spell_compound_head S.Nfs4Ok r.tag 1 ++ spell_result result
  pub session : (id : List ℕ) → i ≡ Operation (Op.DestroySession id) → (s : Session) → In s t.sessions.sessions → HasId s id → ⊥
  pub client : (n : ℕ) → i ≡ Operation (Op.DestroyClientId n) → (c : ClientRecord) → In c t.clients.records → c.id ≢ n

abbrev pub FirstTrue : Machine → Request → Caller → Item → List ℕ → Machine → Type 0
FirstTrue m r who (Operation (Op.Sequence a)) text t = IsSequenced m r (Operation (Op.Sequence a)) text
FirstTrue m r who (Operation (Op.ExchangeId e)) text t = IsExchanged m r who (Operation (Op.ExchangeId e)) text t
FirstTrue m r who (Operation (Op.CreateSession c)) text t = IsCreated r (Operation (Op.CreateSession c)) text t
FirstTrue m r who (Operation (Op.DestroySession id)) text t = IsEnded r (Operation (Op.DestroySession id)) Res.DestroySession text t
FirstTrue m r who (Operation (Op.DestroyClientId client)) text t = IsEnded r (Operation (Op.DestroyClientId client)) Res.DestroyClientId text t
FirstTrue m r who item text t = ⊥

-- A repeat is answered what is kept: by its slot, or by the client's record.
pub data IsKept (m : Machine) (r : Request) (i : Item) (text : List ℕ) : Type 0 where
  BySlot : (k : InSession m i) (x : SlotState) → slice_get k.session.slots k.asked.slotid ≡ Some x → x.used ≡ true → x.number ≡ k.asked.sequenceid → text ≡ x.reply
      → IsKept m r i text
  ByRecord : (k : ByClient m i) (body : List ℕ) → next_number k.asked.sequence ≡ k.record_of.number → k.record_of.kept ≡ Some (Done body)
      → text ≡ spell_compound_head S.Nfs4Ok r.tag 1 ++ (done_head Num.CreateSession ++ body) → IsKept m r i text
  ByRefusal : (k : ByClient m i) (f : Status) → next_number k.asked.sequence ≡ k.record_of.number → k.record_of.kept ≡ Some (Refused f)
      → text ≡ spell_compound_head f r.tag 1 ++ spell_result (refusal (item_number i) f) → IsKept m r i text

-- What stands first is refused with a reason, or with the fault that it is; or it is a repeat, or answered NFS4_OK, and what it says is so.
pub data FirstSays (m : Machine) (r : Request) (who : Caller) (size : ℕ) (refused : Bool) (i : Item) (text : List ℕ) (t : Machine) : Type 0 where
  No : (f : Status) → text ≡ spell_compound_head f r.tag 1 ++ spell_result (refusal (item_number i) f) → FirstReason m r who size refused i f
      → FirstSays m r who size refused i text t
  Unread : (n : ℕ) (f : Status) → i ≡ Fault n f → text ≡ spell_compound_head f r.tag 1 ++ spell_result (refusal n f) → FirstSays m r who size refused i text t
  Again : IsKept m r i text → FirstSays m r who size refused i text t
  Yes : FirstTrue m r who i text t → FirstSays m r who size refused i text t

-- .. of a text that is answered to a record
abbrev pub SaysFirst : ServerState → Arrival → List ℕ → ServerState → Type 0
SaysFirst s c text t = (r : Request) (who : Caller) (size now : ℕ) (choice : Option ℕ) (i : Item) (more : List Item)
    → asked_by s c ≡ Some (Asks r who size now choice) → r.minor ≡ 1 → r.left ≡ i ∷ more → FirstSays (before s c) r who size (is_here choice) i text t.machine

-- In every run of a server.
abbrev pub EachFirstSaysSo : Type 0
EachFirstSaysSo = (start : Start) (records : List Arrival) (c : Arrival) → (let s = reached start records in SaysFirst s c (answered s c) (state_after s c))
