-- The codec of each format.
use Rattle.nfs_xdr.specs.{Codec.{Codec, number, hyper, flag, opaque, ◌then◌, array, led_by}, Combinators.{fixed, optional, few}}
use Rattle.nfs_xdr.specs.Format.{Format, Number, Hyper, Flag, Fixed, Opaque, Then, Optional, Array, AtMost, LedBy, Meaning}

abbrev pub codec : (f : Format) → Codec (Meaning f)
codec Number = number
codec Hyper = hyper
codec Flag = flag
codec (Fixed n) = fixed n
codec (Opaque limit) = opaque limit
codec (Then a b) = codec a then codec b
codec (Optional f) = optional (codec f)
codec (Array f) = array (codec f)
codec (AtMost limit f) = few limit (codec f)
codec (LedBy k f) = led_by k (codec f)
