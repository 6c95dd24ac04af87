-- How many opens a file has, and how many of them have each kind of access and deny each (RFC 8881 section 9.7).
use Rattle.std.specs.{Prelude.{◌≡◌, ℕ, ◌+◌, ◌-◌, ◌==◌, Bool, true, ◌&&◌, List, length, filter, min, nat_eq, nat_lt, if◌then◌else◌}, HashMap.{get, spare}}
use Rattle.std.specs.Option.{unwrap_or}
use Rattle.nfs_opens.specs.{declared.share.Share.Share, declared.records.OpenState.OpenState, declared.counts.Count.Count, declared.counts.Counts.Counts}
use Rattle.nfs_opens.specs.{declared.counts.Reservation.Reservation, StateId.last_number}

-- how many pass a test
abbrev pub how_many : {X : Type 0} → (X → Bool) → List X → ℕ
how_many p xs = length (filter p xs)

-- the opens that pass a test: how many they are, and how many of them may read or write, or deny that to others
abbrev pub count_of : (OpenState → Bool) → List OpenState → Count
count_of p opens = record {
  opens = how_many p opens;
  readers = how_many (λ o. p o && o.access.reads) opens;
  writers = how_many (λ o. p o && o.access.writes) opens;
  read_deniers = how_many (λ o. p o && o.deny.reads) opens;
  write_deniers = how_many (λ o. p o && o.deny.writes) opens;
}

abbrev pub no_count : Count
no_count = record { opens = 0; readers = 0; writers = 0; read_deniers = 0; write_deniers = 0 }

-- what some open of those counted has, and what some open of them denies
abbrev pub had : Count → Share
had c = record { reads = nat_lt 0 c.readers; writes = nat_lt 0 c.writers }

abbrev pub share_denied : Count → Share
share_denied c = record { reads = nat_lt 0 c.read_deniers; writes = nat_lt 0 c.write_deniers }

-- a number that counts one more, up to the last one, or one less
abbrev pub more : ℕ → Bool → ℕ
more n one = if one then min (n + 1) last_number else n

abbrev pub less : ℕ → Bool → ℕ
less n one = if one then n - 1 else n

-- what an open has and denies
abbrev pub reserved : OpenState → Reservation
reserved o = record { access = o.access; deny = o.deny }

-- one more open that reserves this is counted, or one less
abbrev pub with_one : Reservation → Count → Count
with_one r c = record {
  opens = more c.opens true;
  readers = more c.readers r.access.reads;
  writers = more c.writers r.access.writes;
  read_deniers = more c.read_deniers r.deny.reads;
  write_deniers = more c.write_deniers r.deny.writes;
}

abbrev pub without_one : Reservation → Count → Count
without_one r c = record {
  opens = less c.opens true;
  readers = less c.readers r.access.reads;
  writers = less c.writers r.access.writes;
  read_deniers = less c.read_deniers r.deny.reads;
  write_deniers = less c.write_deniers r.deny.writes;
}

-- what is counted of a file
abbrev pub count_at : Counts → ℕ → Count
count_at t file = unwrap_or (get nat_eq t.files file) no_count

-- there is room for one more file
abbrev pub has_room : Counts → Bool
has_room t = nat_lt 0 (spare t.files)

-- one file has this count from now on, and each other the one that it had
abbrev pub CountsAnew : Counts → Counts → ℕ → Count → Type 0
CountsAnew old new file count = (f : ℕ) → count_at new f ≡ (if f == file then count else count_at old f)

-- the opens of each file are counted
abbrev pub AreCounted : List OpenState → Counts → Type 0
AreCounted opens t = (f : ℕ) → count_at t f ≡ count_of (λ o. o.file == f) opens
