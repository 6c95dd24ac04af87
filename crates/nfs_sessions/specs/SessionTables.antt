-- What every table of sessions keeps, and what its calls ask for and answer where memory is refused.
use Rattle.std.specs.Prelude.{◌≤◌, ◌≡◌, ℕ, ◌+◌, List, length, suc, Result, Err, IsOk}
use Rattle.nfs_xdr.specs.{Limits.most_record, Tables.IsRising}
use Rattle.nfs_compound.specs.declared.channel_attrs.ChannelAttrs.{ChannelAttrs}
use Rattle.nfs_slots.specs.{Slot.{judge, kept}, SlotTables.{most_slots, SlotTable}, declared.slot.Verdict.TheVariants.Fresh}
use Rattle.nfs_sessions.specs.Channel.{most_operations, least_bytes, rpc_head}
use Rattle.nfs_sessions.specs.{Sessions.{Session, SessionTable, Created}, declared.id.SessionId.SessionId}
use Rattle.nfs_sessions.specs.{declared.sessions.SessionFault.SessionFault, declared.sessions.SessionFault.TheVariants.Memory}

-- the channel of a session that stands
pub record IsGranted (c : ChannelAttrs) : Type 0 where
  pub request : (least_bytes ≤ c.maxrequestsize) × (c.maxrequestsize ≤ most_record)
  pub response : (least_bytes ≤ c.maxresponsesize) × (c.maxresponsesize ≤ most_record)
  pub cached : c.maxresponsesize_cached ≤ most_record
  pub operations : (1 ≤ c.maxoperations) × (c.maxoperations ≤ most_operations)
  pub slots : (1 ≤ c.maxrequests) × (c.maxrequests ≤ most_slots)

-- a fresh request and its reply, which the session's channel lets pass
pub record MayKeep (s : Session) (slot number uid : ℕ) (args reply : List ℕ) : Type 0 where
  pub fresh : judge s.slots slot number uid args ≡ Fresh
  pub args_fit : length args ≤ s.channel.maxrequestsize
  pub reply_fits : rpc_head + length reply ≤ s.channel.maxresponsesize

-- slots are those of a channel that was granted
pub record IsFitted (channel : ChannelAttrs) (t : SlotTable) : Type 0 where
  pub granted : IsGranted channel
  pub count : length t.slots ≡ channel.maxrequests
  pub size : rpc_head + t.size ≡ channel.maxresponsesize
  pub request : t.request ≡ channel.maxrequestsize

-- a channel was granted, there are as many slots as it has, and behind the head of a reply what a slot keeps is a reply that it lets pass
pub record HasGrantedSlots (s : Session) : Type 0 where
  pub granted : IsGranted s.channel
  pub count : length s.slots ≡ s.channel.maxrequests
  pub reply : (slot : ℕ) → rpc_head + length (kept s.slots slot) ≤ s.channel.maxresponsesize

-- the call does what `create` says; or it wants memory, where it would have been granted, and leaves the table
abbrev pub CreatesOrWants : SessionTable → Created → Result SessionId SessionFault → SessionTable → Type 0
CreatesOrWants old did (Err Memory) new = IsOk did.answer × (new ≡ old)
CreatesOrWants old did answer new = (answer ≡ did.answer) × (new ≡ did.after)

-- the counters rise from 1 on, up to the last that was given
pub record IsSessions (t : SessionTable) : Type 0 where
  pub rising : IsRising (λ s. s.counter) 1 t.sessions (suc t.last)
