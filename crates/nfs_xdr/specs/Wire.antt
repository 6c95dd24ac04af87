-- The structs of the wire that several crates have (RFC 5531 appendix A, RFC 8881 section 3.3.1), each field under its type.
use Rattle.nfs_xdr.specs.{Limits.{most_groups, most_machine_name}, Text.{Text, ◌then◌, uint32, int64, opaque, array}, declared.time.Time.Time, AuthSys.AuthSys}

abbrev pub authsys_parms : AuthSys → Text
authsys_parms a = uint32 a.stamp then opaque most_machine_name a.machinename then uint32 a.uid then uint32 a.gid then array most_groups uint32 a.gids

abbrev pub nfstime4 : Time → Text
nfstime4 t = int64 t.seconds then uint32 t.nanoseconds
