-- Limits that several crates keep to: those of the protocol (RFC 8881 section 3.1, RFC 5531 appendix A), and this server's own.
use Rattle.std.specs.Prelude.{ℕ}

-- NFS4_FHSIZE: the most bytes of a filehandle
abbrev pub fhsize : ℕ
fhsize = 128

-- NFS4_OPAQUE_LIMIT: the most bytes of an owner, and of a tag
abbrev pub opaque_limit : ℕ
opaque_limit = 1024

-- the most bytes of a machine's name in a credential of AUTH_SYS, and its most groups
abbrev pub most_machine_name : ℕ
most_machine_name = 255

abbrev pub most_groups : ℕ
most_groups = 16

-- the most bytes of one record, its marks not counted
abbrev pub most_record : ℕ
most_record = 66560

-- the most bytes of a file that one READ or WRITE moves, and of the entries that one READDIR answers
abbrev pub most_transfer : ℕ
most_transfer = 65536
