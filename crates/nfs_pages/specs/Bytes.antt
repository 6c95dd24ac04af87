-- Bytes, written over and cut or filled up (RFC 8881 sections 18.30 and 18.32), and the pages of 4,096 in which something was written.
use Rattle.std.specs.Prelude.{ℕ, ◌+◌, ◌-◌, ◌*◌, ◌/◌, ◌==◌, nat_lt, not, ◌&&◌, ◌||◌, Bool, if◌then◌else◌, List, [], length, filter, map, max, min, replicate, slice_index_or}
use Rattle.std.specs.List.{range_with_len, list_any}

-- byte p: the data's in the written range, else the other
abbrev pub written_byte : (ℕ → ℕ) → ℕ → List ℕ → ℕ → ℕ
written_byte other offset text p = if not (nat_lt p offset) && nat_lt p (offset + length text) then slice_index_or text (p - offset) 0 else other p

-- the other is the old one below the old size, else zero
abbrev pub written : List ℕ → ℕ → List ℕ → List ℕ
written old offset text = map (written_byte (λ p. slice_index_or old p 0) offset text) (range_with_len 0 (max (length old) (offset + length text)))

-- byte p: the old one below the old size, else zero
abbrev pub resized : List ℕ → ℕ → List ℕ
resized old size = map (λ p. slice_index_or old p 0) (range_with_len 0 size)

-- how many pages so many bytes lie in
abbrev pub pages_in : ℕ → ℕ
pages_in size = (size + 4095) / 4096

-- page i has one of so many bytes from an offset on
abbrev pub covers : ℕ → ℕ → ℕ → Bool
covers offset count i = nat_lt (max offset (i * 4096)) (min (offset + count) (i * 4096 + 4096))

-- the numbers below one that pass a test
unfoldable pub numbers_below : (ℕ → Bool) → ℕ → List ℕ
numbers_below test n = filter test (range_with_len 0 n)

abbrev pub has : List ℕ → ℕ → Bool
has numbers n = list_any (λ m. m == n) numbers

-- what is kept: bytes, and the pages in which something was written, in rising order
pub record Content : Type 0 where
  pub bytes : List ℕ
  pub pages : List ℕ

abbrev pub zeros : ℕ → Content
zeros size = record { bytes = replicate size 0; pages = [] }

abbrev pub text_of : List ℕ → Content
text_of text = record { bytes = text; pages = numbers_below (covers 0 (length text)) (pages_in (length text)) }

abbrev pub with_text : Content → ℕ → List ℕ → Content
with_text old offset text = record {
  bytes = written old.bytes offset text;
  pages = numbers_below (λ i. covers offset (length text) i || has old.pages i) (pages_in (max (length old.bytes) (offset + length text)));
}

-- a cut takes the pages behind it; one that it goes through stays
abbrev pub with_size : Content → ℕ → Content
with_size old size = record { bytes = resized old.bytes size; pages = numbers_below (has old.pages) (pages_in size) }
