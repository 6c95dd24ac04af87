-- What a settings file says: a TOML document of up to nine integers and two texts.
use Rattle.std.specs.Prelude.{ℕ, ◌/◌, ◌==◌, pos, List, Bool, true, not, ◌&&◌, ◌||◌, nat_le, Option, Some, None, is_some, option_and_then, codes, bytes_eq, length, if◌then◌else◌}
use Rattle.toml.specs.{Data.{Data, integer, string, Members, no_members, member, get_member}, Parse.parse_document}
use Rattle.nfs_tree.specs.{declared.profile.Profile.Profile, declared.profile.Profile.TheVariants.{Exact, Unix}, Limits.any_pages}
use Rattle.nfs_settings.specs.declared.settings_file.Given.{Given}

-- an integer from `low` to `high`, or `default` where the key is left out
abbrev pub number_of : ℕ → ℕ → ℕ → Option Data → Option ℕ
number_of low high default None = Some default
number_of low high default (Some (integer (pos n))) = if nat_le low n && nat_le n high then Some n else None
number_of low high default (Some other) = None

-- a text of 1 to 1,024 bytes, or none where the key is left out
abbrev pub is_owner : List ℕ → Bool
is_owner text = nat_le 1 (length text) && nat_le (length text) 1024

abbrev pub owner_of : Option Data → Option (Option (List ℕ))
owner_of None = Some None
owner_of (Some (string text)) = if is_owner text then Some (Some text) else None
owner_of (Some other) = None

-- in seconds
abbrev pub lease : Members → Option ℕ
lease table = number_of 1 86400 90 (get_member (codes "lease") table)

-- permission bits: at most 0o7777, and 0o777 where the key is left out
abbrev pub root_mode : Members → Option ℕ
root_mode table = number_of 0 4095 511 (get_member (codes "root_mode") table)

-- 1 to 2^32 - 2
abbrev pub instance : ℕ → Members → Option ℕ
instance start table = number_of 1 4294967294 start (get_member (codes "instance") table)

-- by what the server names itself
abbrev pub server_owner : Members → Option (Option (List ℕ))
server_owner table = owner_of (get_member (codes "server_owner") table)

-- A server lasts that is asked to serve without a number of connections, and whose settings name no instance. Every other is for a run that is
-- to be the same twice.
abbrev pub lasts : Bool → Bool → Bool
lasts endless named = endless && not named

abbrev pub names_instance : Members → Bool
names_instance table = is_some (get_member (codes "instance") table)

-- the most bytes of a file: 1 to 2^40
abbrev pub default_bytes : Bool → ℕ
default_bytes lasting = if lasting then 1099511627776 else 1048576

abbrev pub file_bytes : Bool → Members → Option ℕ
file_bytes lasting table = number_of 1 1099511627776 (default_bytes lasting) (get_member (codes "file_bytes") table)

-- the most objects, the root among them: 1 to 2^24
abbrev pub default_objects : Bool → ℕ
default_objects lasting = if lasting then 1048576 else 65536

abbrev pub objects : Bool → Members → Option ℕ
objects lasting table = number_of 1 16777216 (default_objects lasting) (get_member (codes "objects") table)

-- the most bytes that the pages of files take: 0 to 2^46, of which 0 is no bound; in a server that lasts `half` of the machine's memory where the key is left out
abbrev pub default_memory : Bool → ℕ → ℕ
default_memory lasting half = if lasting then half else 0

abbrev pub memory : ℕ → Bool → Members → Option ℕ
memory half lasting table = number_of 0 70368744177664 (default_memory lasting half) (get_member (codes "memory") table)

-- how many pages of 4,096 bytes lie in so many bytes, of which 0 is no bound
abbrev pub pages_of : ℕ → ℕ
pages_of memory = if memory == 0 then any_pages else memory / 4096

-- the most client records: 1 to 65,536
abbrev pub clients : Members → Option ℕ
clients table = number_of 1 65536 1024 (get_member (codes "clients") table)

-- The seats for connections: 1 to 1,024; as many as sessions, where they are left out.
abbrev pub connections : Members → Option ℕ
connections table = option_and_then (λ sessions. number_of 1 1024 sessions (get_member (codes "connections") table))
    (number_of 1 1024 64 (get_member (codes "sessions") table))

-- The most sessions: 1 to as many as there are seats, and as many where they are left out. So whoever has a session finds a seat.
abbrev pub sessions : Members → Option ℕ
sessions table = option_and_then (λ seats. number_of 1 seats seats (get_member (codes "sessions") table)) (connections table)

-- what the server has of what the RFC leaves open
abbrev pub default_profile : Bool → Profile
default_profile lasting = if lasting then Unix else Exact

abbrev pub profile_named : List ℕ → Option Profile
profile_named text = if bytes_eq text (codes "exact") then Some Exact else if bytes_eq text (codes "unix") then Some Unix else None

abbrev pub profile_of : Profile → Option Data → Option Profile
profile_of default None = Some default
profile_of default (Some (string text)) = profile_named text
profile_of default (Some other) = None

abbrev pub profile : Bool → Members → Option Profile
profile lasting table = profile_of (default_profile lasting) (get_member (codes "profile") table)

abbrev pub is_known : List ℕ → Bool
is_known key = bytes_eq key (codes "lease") || bytes_eq key (codes "root_mode") || bytes_eq key (codes "instance") || bytes_eq key (codes "server_owner")
    || bytes_eq key (codes "file_bytes") || bytes_eq key (codes "objects") || bytes_eq key (codes "connections")
    || bytes_eq key (codes "profile") || bytes_eq key (codes "clients") || bytes_eq key (codes "sessions") || bytes_eq key (codes "memory")

abbrev pub all_known : Members → Bool
all_known no_members = true
all_known (member key value more) = is_known key && all_known more

abbrev pub given : Option ℕ → Option ℕ → Option ℕ → Option (Option (List ℕ)) → Option ℕ → Option ℕ → Option ℕ → Option ℕ → Option Profile → Option ℕ → Option ℕ → Bool → Option Given
given (Some lease) (Some mode) (Some instance) (Some owner) (Some bytes) (Some objects) (Some memory) (Some seats) (Some profile) (Some clients) (Some sessions) lasting = Some (record {
  settings = record { lease = lease; root_mode = mode };
  instance = instance;
  owner = owner;
  lasting = lasting;
  limits = record { objects = objects; bytes = bytes; pages = pages_of memory };
  seats = seats;
  profile = profile;
  crowd = record { clients = clients; sessions = sessions };
})
given _ _ _ _ _ _ _ _ _ _ _ _ = None

-- what a table gives to a server, where an instance is `start` if the table has none
abbrev pub settings_of : ℕ → ℕ → Bool → Members → Option Given
settings_of start half endless table =
    let lasting = lasts endless (names_instance table) in
    if all_known table
    then given (lease table) (root_mode table) (instance start table) (server_owner table) (file_bytes lasting table) (objects lasting table) (memory half lasting table) (connections table)
    (profile lasting table) (clients table) (sessions table) lasting
    else None

abbrev pub settings_in : ℕ → ℕ → Bool → List ℕ → Option Given
settings_in start half endless text = option_and_then (settings_of start half endless) (parse_document text)
