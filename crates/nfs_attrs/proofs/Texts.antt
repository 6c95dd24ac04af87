-- What is read of filehandles and of values that are set is their text.
use Rattle.std.proofs.{Common.{◌≡◌, ℕ, Bool, true, false, List, [], ◌∷◌, ◌++◌, length, Option, Some, None, refl, sym, ap, ◌∙◌, arith}, lemmas.Bool.eqb-true}
use Rattle.std.proofs.{lemmas.List.append-nil, lemmas.Option.same_Some}
use Rattle.std.specs.Prelude.{◌↔◌, ◌==◌, is_some, if◌then◌else◌}
use Rattle.nfs_xdr.specs.Spelling as spelling
use Rattle.nfs_xdr.specs.{Reading.{◌>>=◌}, Codec.Codec, Lawful.IsCodec, Text.{IsBytes, Text, Leads, uint32, uint64, opaque, most}}
use Rattle.nfs_xdr.specs.Codec as codec
use Rattle.nfs_xdr.proofs.CodecLaws.{bind_some, test_some, taken_at, is_number, is_hyper, is_opaque, is_then, is_as_type, is_led_by}
use Rattle.nfs_xdr.proofs.TextLaws.{Spells, times, leads_from, leads_again}
use Rattle.nfs_attrs.specs.{Whole.whole, Handle.{handle, handle_of}, Mask.has, SetTime.{set_time, set_time_at}, Wire.{nfs_fh4, settime4}}
use Rattle.nfs_attrs.specs.Attributes.{Settings, attributes, if_there, AreAsGiven, settings4}
use Rattle.nfs_attrs.specs.{SettingsCodec.{spell_if, FitsIf, where_there, settings, settings_of}, declared.handle.Handle.Handle, declared.mask.Mask.Mask}
use Rattle.nfs_attrs.specs.{declared.set_time.SetTime.SetTime, declared.set_time.SetTime.TheVariants.{Now, Given}}
use Rattle.nfs_attrs.proofs.SetTimes.{is_set_time}

-- Bytes that are a text from their first to their last.

whole_some : {A : Type 0} (r : Option (A × List ℕ)) (y : A) → (r >>= λ x. if length x.1 == 0 then Some x.0 else None) ≡ Some y → r ≡ Some (y, [])
whole_some None y e = absurd cc
whole_some {A} (Some (x, [])) y e = ap (λ (z : A). Some (z, [])) (same_Some x y e)
whole_some (Some (x, b ∷ bytes)) y e =
    let t = test_some (length (b ∷ bytes) == 0) (Some x) y e in
    let none : length (b ∷ bytes) ≡ 0 = eqb-true _ 0 t.0 in
    absurd (omega (arith, none))

pub whole_is : {A : Type 0} (c : Codec A) (text : A → Text) → Spells c text → IsCodec c → (bytes : List ℕ) (x : A) → IsBytes bytes
    → whole c bytes ≡ Some x ↔ (bytes ≡ (text x).bytes) × (text x).Fits
whole_is {A} c text one is bytes x fits = (from, again)
  where
    from : whole c bytes ≡ Some x → (bytes ≡ (text x).bytes) × (text x).Fits
    from e =
        let t = is.takes bytes x [] fits (whole_some (c.read bytes) x e) in
        (t.0 ∙ append-nil (c.spell x) ∙ one.same x, one.to x t.2)

    again : (bytes ≡ (text x).bytes) × (text x).Fits → whole c bytes ≡ Some x
    again (stands, good) =
        let e : c.read bytes ≡ Some (x, []) = ap c.read (stands ∙ sym (one.same x) ∙ sym (append-nil (c.spell x))) ∙ is.again x [] (one.from x good) in
        ap (λ (r : Option (A × List ℕ)). r >>= λ x. if length x.1 == 0 then Some x.0 else None) e

-- Filehandles.

pub is_handle : IsCodec handle
unfolding handle
is_handle = is_as_type _ _ _ (λ x. refl) (is_then _ _ is_number (is_led_by 0 codec.hyper (omega arith) is_hyper))

pub handles : Spells handle nfs_fh4
unfolding handle
handles = record { same = λ h. refl; to = λ h (e, (instance, number)). (instance, (omega arith, number)); from = λ h (instance, (z, number)). (refl, (instance, number)) }

pub handle_is : (bytes : List ℕ) (h : Handle) → IsBytes bytes → handle_of bytes ≡ Some h ↔ (bytes ≡ (nfs_fh4 h).bytes) × (nfs_fh4 h).Fits
handle_is = whole_is handle nfs_fh4 handles is_handle

-- Times that are set.

pub set_times : Spells set_time settime4
unfolding set_time
set_times = record { same = same; to = to; from = from }
  where
    same : (x : SetTime) → set_time.spell x ≡ (settime4 x).bytes
    same Now = refl
    same (Given t) = ap (λ (w : List ℕ). spelling.number 1 ++ w) (times.same t)

    to : (x : SetTime) → set_time.Fits x → (settime4 x).Fits
    to Now fits = tt
    to (Given t) fits = (tt, times.to t fits)

    from : (x : SetTime) → (settime4 x).Fits → set_time.Fits x
    from Now fits = tt
    from (Given t) (u, fits) = times.from t fits

pub set_time_leads : (bytes : List ℕ) (x : SetTime × List ℕ) → IsBytes bytes → set_time_at bytes ≡ Some x ↔ Leads settime4 bytes x
set_time_leads bytes x fits = (leads_from set_time settime4 set_times is_set_time bytes x fits, leads_again set_time settime4 set_times is_set_time bytes x)

-- Values that are set.

is_where_there : {A : Type 0} (there : Bool) (c : Codec A) → IsCodec c → IsCodec (where_there there c)
is_where_there {A} true c p = record { takes = takes; again = again }
  where
    takes : (bytes : List ℕ) (y : Option A) (rest : List ℕ) → IsBytes bytes → (where_there true c).read bytes ≡ Some (y, rest)
        → (bytes ≡ spell_if c.spell y ++ rest) × IsBytes rest × (where_there true c).Fits y
    takes bytes y rest fits e =
        let s = bind_some (c.read bytes) (λ x. Some (Some x.0, x.1)) (y, rest) e in
        let t = p.takes bytes s.0.0 s.0.1 fits s.1 in
        taken_at (where_there true c) bytes (Some s.0.0) y s.0.1 rest s.2 (t.0, t.1, (refl, t.2))

    again : (y : Option A) (rest : List ℕ) → (where_there true c).Fits y → (where_there true c).read ((where_there true c).spell y ++ rest) ≡ Some (y, rest)
    again None rest (none, fits) = absurd cc
    again (Some x) rest (there, fits) = rw (p.again x rest fits) refl
is_where_there {A} false c p = record { takes = takes; again = again }
  where
    takes : (bytes : List ℕ) (y : Option A) (rest : List ℕ) → IsBytes bytes → (where_there false c).read bytes ≡ Some (y, rest)
        → (bytes ≡ spell_if c.spell y ++ rest) × IsBytes rest × (where_there false c).Fits y
    takes bytes y rest fits e = taken_at (where_there false c) bytes None y bytes rest e (refl, fits, (refl, tt))

    again : (y : Option A) (rest : List ℕ) → (where_there false c).Fits y → (where_there false c).read ((where_there false c).spell y ++ rest) ≡ Some (y, rest)
    again None rest fits = refl
    again (Some x) rest (some, fits) = absurd cc

is_settings : (given : Mask) → IsCodec (settings given)
unfolding settings
is_settings given = is_as_type _ _ _ (λ x. refl) (is_then _ _ (is_where_there _ _ is_hyper) (is_then _ _ (is_where_there _ _ is_number)
    (is_then _ _ (is_where_there _ _ (is_opaque most (omega arith))) (is_then _ _ (is_where_there _ _ (is_opaque most (omega arith)))
    (is_then _ _ (is_where_there _ _ is_set_time) (is_where_there _ _ is_set_time))))))

same_if : {A : Type 0} (c : Codec A) (text : A → Text) → Spells c text → (x : Option A) → spell_if c.spell x ≡ (if_there text x).bytes
same_if c text one None = refl
same_if c text one (Some x) = one.same x

to_if : {A : Type 0} (c : Codec A) (text : A → Text) → Spells c text → (x : Option A) → FitsIf c.Fits x → (if_there text x).Fits
to_if c text one None fits = tt
to_if c text one (Some x) fits = one.to x fits

from_if : {A : Type 0} (c : Codec A) (text : A → Text) → Spells c text → (x : Option A) → (if_there text x).Fits → FitsIf c.Fits x
from_if c text one None fits = tt
from_if c text one (Some x) fits = one.from x fits

numbers : Spells codec.number uint32
numbers = record { same = λ x. refl; to = λ x fits. fits; from = λ x fits. fits }

hypers : Spells codec.hyper uint64
hypers = record { same = λ x. refl; to = λ x fits. fits; from = λ x fits. fits }

texts : Spells codec.unbounded (opaque most)
texts = record { same = λ x. refl; to = λ x fits. fits; from = λ x fits. fits }

-- each is there where the mask has it, by the lines of the table
are_as_given : (given : Mask) (s : Settings) → is_some s.size ≡ has given 4 → is_some s.mode ≡ has given 33 → is_some s.owner ≡ has given 36
    → is_some s.group ≡ has given 37 → is_some s.access ≡ has given 48 → is_some s.modify ≡ has given 54 → AreAsGiven attributes given s
unfolding attributes
are_as_given given s size mode owner group access modify =
    (tt, (tt, (tt, (tt, (size, (tt, (tt, (tt, (tt, (tt, (tt, (tt, (tt, (tt, (tt, (tt, (tt, (tt, (tt, (tt, (tt, (tt, (mode, (tt, (owner, (group, (tt, (tt, (tt, (tt, (tt, (access, (tt, (tt, (tt, (modify, (tt, (tt, tt))))))))))))))))))))))))))))))))))))))

-- what the lines say of those that can be set
abbrev pub Given6 : Mask → Settings → Type 0
Given6 given s = (is_some s.size ≡ has given 4) × (is_some s.mode ≡ has given 33) × (is_some s.owner ≡ has given 36) × (is_some s.group ≡ has given 37)
    × (is_some s.access ≡ has given 48) × (is_some s.modify ≡ has given 54)

each_given : (given : Mask) (s : Settings) → AreAsGiven attributes given s → Given6 given s
unfolding attributes
each_given given s (u0, (u1, (u2, (u3, (size, (u5, (u6, (u7, (u8, (u9, (u10, (u11, (u19, (u20, (u21, (u22, (u23, (u27, (u28, (u29, (u30, (u31, (mode, (u35, (owner, (group, (u42, (u43, (u44, (u45, (u47, (access, (u51, (u52, (u53, (modify, (u55, (u75, u)))))))))))))))))))))))))))))))))))))) =
    (size, mode, owner, group, access, modify)

all_settings : (given : Mask) → Spells (settings given) (settings4 given)
unfolding settings
all_settings given = record { same = same; to = to; from = from }
  where
    same : (s : Settings) → (settings given).spell s ≡ (settings4 given s).bytes
    same s = rw (
      same_if codec.hyper uint64 hypers s.size,
      same_if codec.number uint32 numbers s.mode,
      same_if codec.unbounded (opaque most) texts s.owner,
      same_if codec.unbounded (opaque most) texts s.group,
      same_if set_time settime4 set_times s.access,
      same_if set_time settime4 set_times s.modify,
    ) refl

    to : (s : Settings) → (settings given).Fits s → (settings4 given s).Fits
    to s (e, ((size, a), ((mode, b), ((owner, c), ((group, d), ((access, f), (modify, g))))))) = (
      are_as_given given s size mode owner group access modify,
      (
        to_if codec.hyper uint64 hypers s.size a,
        (
          to_if codec.number uint32 numbers s.mode b,
          (
            to_if codec.unbounded (opaque most) texts s.owner c,
            (
              to_if codec.unbounded (opaque most) texts s.group d,
              (to_if set_time settime4 set_times s.access f, to_if set_time settime4 set_times s.modify g),
            ),
          ),
        ),
      ),
    )

    from : (s : Settings) → (settings4 given s).Fits → (settings given).Fits s
    from s (are, (a, (b, (c, (d, (f, g)))))) =
        let is = each_given given s are in (
          refl,
          (
            (is.0, from_if codec.hyper uint64 hypers s.size a),
            (
              (is.1, from_if codec.number uint32 numbers s.mode b),
              (
                (is.2, from_if codec.unbounded (opaque most) texts s.owner c),
                (
                  (is.3, from_if codec.unbounded (opaque most) texts s.group d),
                  ((is.4, from_if set_time settime4 set_times s.access f), (is.5, from_if set_time settime4 set_times s.modify g)),
                ),
              ),
            ),
          ),
        )

pub settings_are : (given : Mask) (bytes : List ℕ) (s : Settings) → IsBytes bytes
    → settings_of given bytes ≡ Some s ↔ (bytes ≡ (settings4 given s).bytes) × (settings4 given s).Fits
unfolding settings_of
settings_are given = whole_is (settings given) (settings4 given) (all_settings given) (is_settings given)
