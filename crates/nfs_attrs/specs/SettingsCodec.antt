-- Reading the values that a request sets. That this gives what the table of attributes has (Attributes) is a law.
use Rattle.std.specs.Prelude.{◌≡◌, ℕ, List, [], Bool, Option, Some, None, is_some, if◌then◌else◌}
use Rattle.nfs_xdr.specs.{Reading.{◌>>=◌}, Codec.{Codec, number, hyper, unbounded, ◌then◌, as_type}}
use Rattle.nfs_attrs.specs.{Mask.has, SetTime.set_time, Attributes.Settings, Whole.whole, declared.mask.Mask.Mask}

abbrev pub spell_if : {A : Type 0} → (A → List ℕ) → Option A → List ℕ
spell_if spell None = []
spell_if spell (Some x) = spell x

abbrev pub FitsIf : {A : Type 0} → (A → Type 0) → Option A → Type 0
FitsIf Fits None = Unit {0}
FitsIf Fits (Some x) = Fits x

-- an item that is there or not, as is known beforehand
abbrev pub where_there : {A : Type 0} → Bool → Codec A → Codec (Option A)
where_there there c = record {
  spell = spell_if c.spell;
  Fits = λ x. (is_some x ≡ there) × FitsIf c.Fits x;
  read = λ bytes. if there then (c.read bytes >>= λ x. Some (Some x.0, x.1)) else Some (None, bytes);
}

unfoldable pub settings : Mask → Codec Settings
settings given = as_type
    (λ (size, (mode, (owner, (group, (access, modify))))).
    record { size = size; mode = mode; owner = owner; group = group; access = access; modify = modify })
    (λ s. (s.size, (s.mode, (s.owner, (s.group, (s.access, s.modify))))))
    (where_there (has given 4) hyper then where_there (has given 33) number then where_there (has given 36) unbounded
    then where_there (has given 37) unbounded then where_there (has given 48) set_time then where_there (has given 54) set_time)

-- All of them: the bytes hold these values and nothing behind them.
unfoldable pub settings_of : Mask → List ℕ → Option Settings
settings_of given bytes = whole (settings given) bytes
