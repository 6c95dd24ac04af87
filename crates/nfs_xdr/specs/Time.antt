-- A moment with its fraction (nfstime4, RFC 5662).
use Rattle.nfs_xdr.specs.{declared.time.Time.Time, Codec.{Codec, number, signed, ◌then◌, as_type}}

unfoldable pub time : Codec Time
time = as_type (λ (seconds, nanoseconds). record { seconds = seconds; nanoseconds = nanoseconds }) (λ t. (t.seconds, t.nanoseconds)) (signed then number)
