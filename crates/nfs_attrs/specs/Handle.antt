-- The filehandles that this server gives (RFC 8881 section 4).
use Rattle.std.specs.Prelude.{ℕ, List, Option}
use Rattle.nfs_xdr.specs.Codec.{Codec, number, hyper, ◌then◌, led_by, as_type}
use Rattle.nfs_attrs.specs.{Whole.whole, declared.handle.Handle.Handle}

-- the instance that gave it, four zero bytes, the object's number
unfoldable pub handle : Codec Handle
handle = as_type (λ x. record { instance = x.0; number = x.1 }) (λ h. (h.instance, h.number)) (number then led_by 0 hyper)

abbrev pub handle_of : List ℕ → Option Handle
handle_of bytes = whole handle bytes
