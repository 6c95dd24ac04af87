-- How much a tree may hold: objects, the root among them, bytes of a file, and pages of 4,096 bytes (this server's profile).
use Rattle.std.specs.Prelude.{ℕ, nat_le, Bool, ◌&&◌, max, min}
use Rattle.nfs_tree.specs.declared.limits.Limits.{Limits}

-- no bound of the pages but memory
abbrev pub any_pages : ℕ
any_pages = 0xffff_ffff_ffff_ffff

-- where nothing else is set
abbrev pub usual_limits : Limits
usual_limits = record { objects = 65536; bytes = 1048576; pages = any_pages }

-- those that a tree can have
abbrev pub is_limits : Limits → Bool
is_limits l = nat_le 1 l.objects && nat_le l.bytes 1099511627776

-- those that a tree has which is given these
abbrev pub bounded : Limits → Limits
bounded l = record { objects = max l.objects 1; bytes = min l.bytes 1099511627776; pages = l.pages }
