-- What is granted of a channel that is asked for (RFC 8881 section 18.36; the limits are this server's profile).
use Rattle.std.specs.Prelude.{ℕ, min, nat_lt, ◌==◌, Bool, ◌||◌, None}
use Rattle.nfs_xdr.specs.Limits.{most_record}
use Rattle.nfs_compound.specs.declared.channel_attrs.ChannelAttrs.{ChannelAttrs}
use Rattle.nfs_slots.specs.SlotTables.{most_slots}

-- the most operations of a compound, and the least bytes of a session's longest request and of its longest reply
abbrev pub most_operations : ℕ
most_operations = 64

abbrev pub least_bytes : ℕ
least_bytes = 2048

-- the bytes of an accepted reply's RPC head (RFC 5531 section 9), which a slot does not keep
abbrev pub rpc_head : ℕ
rpc_head = 24

-- there is no header padding and no RDMA
abbrev pub granted : ChannelAttrs → ChannelAttrs
granted a = record {
  headerpadsize = 0;
  maxrequestsize = min a.maxrequestsize most_record;
  maxresponsesize = min a.maxresponsesize most_record;
  maxresponsesize_cached = min a.maxresponsesize_cached most_record;
  maxoperations = min a.maxoperations most_operations;
  maxrequests = min a.maxrequests most_slots;
  rdma_ird = None;
}

abbrev pub is_too_small : ChannelAttrs → Bool
is_too_small a = nat_lt a.maxrequestsize least_bytes || nat_lt a.maxresponsesize least_bytes || (a.maxoperations == 0) || (a.maxrequests == 0)
