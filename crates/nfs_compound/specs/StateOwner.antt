-- Open owners and lock owners (state_owner4 of RFC 5662; RFC 8881 section 3.3.13).
use Rattle.nfs_xdr.specs.{Codec.{Codec, hyper, opaque, ◌then◌, as_type}, Limits.opaque_limit}
use Rattle.nfs_compound.specs.declared.state_owner.StateOwner.{StateOwner}

unfoldable pub state_owner : Codec StateOwner
state_owner = as_type (λ (clientid, owner). record { clientid = clientid; owner = owner }) (λ o. (o.clientid, o.owner)) (hyper then opaque opaque_limit)
