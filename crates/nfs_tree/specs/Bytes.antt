-- The bytes of a file, read, written and cut or filled up (RFC 8881 sections 18.22, 18.30 and 18.32).
use Rattle.std.specs.Prelude.{ℕ, ◌+◌, ◌==◌, nat_lt, nat_le, Bool, ◌||◌, if◌then◌else◌, List, length, take, drop, map}
pub use Rattle.nfs_pages.specs.Bytes.{written_byte, written, resized, Content, with_text, with_size}
use Rattle.nfs_xdr.specs.declared.time.Time.{Time}
use Rattle.nfs_tree.specs.{declared.sets.Sets.Sets, declared.stored.Stored.Stored, Stored.content_of, Object.{changed, modified}, Files.{Files, next_count, data_at, with_changed}}

-- at most so many bytes from a place on
abbrev pub part : Files → ℕ → ℕ → ℕ → List ℕ
part t n offset count = take count (drop offset (data_at t n))

-- they end where the object's bytes do, or behind them
abbrev pub reaches_end : Files → ℕ → ℕ → ℕ → Bool
reaches_end t n offset count = nat_le (length (data_at t n)) (offset + length (part t n offset count))

-- a file gets other bytes, and what is set
abbrev pub with_bytes : Time → Sets → Content → Stored → Stored
with_bytes now sets content s = record s { object = changed now (modified now sets) s.object; bytes = content.bytes; pages = content.pages }

abbrev pub with_written : Files → ℕ → ℕ → List ℕ → Sets → Time → Files
with_written t n offset text sets now =
    record t {
      objects = map (λ s. if s.number == n then with_bytes now sets (with_text (content_of s) offset text) s else s) t.objects;
      changes = next_count t.changes;
    }

-- WRITE of no bytes changes nothing.
abbrev pub has_bytes : List ℕ → Bool
has_bytes text = nat_lt 0 (length text)

-- bytes that would end behind the most of a file, or that are more than the answer of a WRITE can count (RFC 8881 section 18.32.2)
abbrev pub is_too_long : Files → ℕ → List ℕ → Bool
is_too_long t offset text = nat_lt t.limits.bytes (offset + length text) || nat_lt 4294967295 (length text)

-- SETATTR of size, with what else is set
abbrev pub with_resized : Files → ℕ → ℕ → Sets → Time → Files
with_resized t n size sets now =
    record t {
      objects = map (λ s. if s.number == n then with_bytes now sets (with_size (content_of s) size) s else s) t.objects;
      changes = next_count t.changes;
    }

-- what is set, without a size
abbrev pub with_sets : Files → ℕ → Sets → Time → Files
with_sets t n sets now = record t { objects = with_changed n now sets t.objects; changes = next_count t.changes }
