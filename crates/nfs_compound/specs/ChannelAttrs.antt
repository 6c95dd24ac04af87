-- The attributes of a channel (channel_attrs4 of RFC 5662; RFC 8881 section 18.36.1).
use Rattle.nfs_xdr.specs.{Codec.{Codec, number, ◌then◌, as_type}, Combinators.optional}
use Rattle.nfs_compound.specs.declared.channel_attrs.ChannelAttrs.{ChannelAttrs}

-- an array of at most one number is spelled as an optional one
unfoldable pub channel_attrs : Codec ChannelAttrs
channel_attrs = as_type
    (λ (headerpadsize, (maxrequestsize, (maxresponsesize, (maxresponsesize_cached, (maxoperations, (maxrequests, rdma_ird)))))). record {
      headerpadsize = headerpadsize;
      maxrequestsize = maxrequestsize;
      maxresponsesize = maxresponsesize;
      maxresponsesize_cached = maxresponsesize_cached;
      maxoperations = maxoperations;
      maxrequests = maxrequests;
      rdma_ird = rdma_ird;
    })
    (λ a. (a.headerpadsize, (a.maxrequestsize, (a.maxresponsesize, (a.maxresponsesize_cached, (a.maxoperations, (a.maxrequests, a.rdma_ird)))))))
    (number then number then number then number then number then number then optional number)
