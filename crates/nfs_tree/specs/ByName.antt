-- The cookies of rows by directory and name: a short name stands in the key itself, a longer one behind its directory.
use Rattle.std.specs.Prelude.{◌≡◌, ℕ, ◌-◌, ◌<◌, ◌^◌, ◌==◌, ◌&&◌, cond, nat_le, List, [], ◌∷◌, ◌++◌, length, take, drop, replicate, Option, bytes_eq, if◌then◌else◌}
use Rattle.std.specs.{Int.{to_be_bytes, from_be_bytes, w64}, Ordering.{nat_cmp, ordering_then}, declared.cmp.Ordering.Ordering, Cmp.Lexicographic.slice_cmp}
use Rattle.std.specs.{BTreeMap.is_at, Map.lookup}
use Rattle.nfs_xdr.specs.Text.{IsBytes}
use Rattle.nfs_tree.specs.{declared.by_name.ShortKey.ShortKey, declared.by_name.ByName.ByName}

-- a short name, zeros behind it, and its length: 24 bytes
abbrev pub padded : List ℕ → List ℕ
padded name = name ++ (replicate (23 - length name) 0 ++ length name ∷ [])

-- a directory and a short name
abbrev pub short_key : ℕ → List ℕ → ShortKey
short_key d name = record {
  directory = d;
  first = from_be_bytes w64 (take 8 (padded name));
  second = from_be_bytes w64 (take 8 (drop 8 (padded name)));
  last = from_be_bytes w64 (drop 16 (padded name));
}

abbrev pub short_cmp : ShortKey → ShortKey → Ordering
short_cmp x y = ordering_then (nat_cmp x.directory y.directory) (ordering_then (nat_cmp x.first y.first) (ordering_then (nat_cmp x.second y.second) (nat_cmp x.last y.last)))

-- a directory and a name, in one
abbrev pub key_of : ℕ → List ℕ → List ℕ
key_of d name = to_be_bytes w64 d ++ name

-- what stands at a key of these bytes
abbrev pub spelled_at : {K : Type 0} → (K → List ℕ) → List (K × ℕ) → List ℕ → Option ℕ
spelled_at bytes names q = lookup (is_at (λ k. slice_cmp nat_cmp q (bytes k))) names

-- the cookie of a name in a directory: of a name of at most 23 bytes among the short ones, of another among the long ones
abbrev pub cookie_at : {K : Type 0} → (K → List ℕ) → List (ShortKey × ℕ) → List (K × ℕ) → ℕ → List ℕ → Option ℕ
cookie_at bytes short long d name = if nat_le (length name) 23 then lookup (is_at (short_cmp (short_key d name))) short else spelled_at bytes long (key_of d name)

abbrev pub cookies : ByName → ℕ → List ℕ → Option ℕ
cookies t = cookie_at (λ k. k.items) t.short.entries t.long.entries

-- at this name in this directory stands w, and at each other what stood there
abbrev pub NamesAnew : (ℕ → List ℕ → Option ℕ) → (ℕ → List ℕ → Option ℕ) → ℕ → List ℕ → Option ℕ → Type 0
NamesAnew old new d name w = (e : ℕ) (other : List ℕ) → e < 2 ^ 64 → IsBytes other → new e other ≡ cond ((d == e) && bytes_eq name other) w (old e other)
