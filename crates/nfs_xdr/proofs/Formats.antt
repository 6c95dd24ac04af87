-- Whatever is put together from items is read exactly where it is spelled, and is spelled as its text.
use Rattle.std.proofs.Common.{ℕ, List, ◌++◌, ap, ◌∙◌}
use Rattle.nfs_xdr.specs.{Codec.{Codec, ◌then◌, led_by}, Lawful.IsCodec, Text.{Text, IsReadable, BeginsNoOther}}
use Rattle.nfs_xdr.specs.{Format.{Format, Number, Hyper, Flag, Fixed, Opaque, Then, Optional, Array, AtMost, LedBy, text, IsFormat}, FormatCodec.codec}
use Rattle.nfs_xdr.specs.Spelling as spelling
use Rattle.nfs_xdr.proofs.CodecLaws.{is_number, is_hyper, is_flag, is_fixed, is_opaque, is_then, is_optional, is_array, is_few, is_led_by}
use Rattle.nfs_xdr.proofs.TextLaws.{Spells, arrays, fews, optionals, numbers, hypers, flags, fixeds, opaques, readable, begins_no_other}

pub is_codec : (f : Format) → IsFormat f → IsCodec (codec f)
is_codec Number h = is_number
is_codec Hyper h = is_hyper
is_codec Flag h = is_flag
is_codec (Fixed n) h = is_fixed n
is_codec (Opaque limit) h = is_opaque limit h
is_codec (Then a b) h = is_then (codec a) (codec b) (is_codec a h.0) (is_codec b h.1)
is_codec (Optional f) h = is_optional (codec f) (is_codec f h)
is_codec (Array f) h = is_array (codec f) (is_codec f h)
is_codec (AtMost limit f) h = is_few limit (codec f) h.0 (is_codec f h.1)
is_codec (LedBy k f) h = is_led_by k (codec f) h.0 (is_codec f h.1)

thens : {A B : Type 0} (a : Codec A) (b : Codec B) (s : A → Text) (t : B → Text) → Spells a s → Spells b t
    → Spells (a then b) (λ x. record { bytes = (s x.0).bytes ++ (t x.1).bytes; Fits = (s x.0).Fits × (t x.1).Fits })
thens a b s t p q = record {
  same = λ x. ap (λ (w : List ℕ). w ++ b.spell x.1) (p.same x.0) ∙ ap (λ (w : List ℕ). (s x.0).bytes ++ w) (q.same x.1);
  to = λ x fits. (p.to x.0 fits.0, q.to x.1 fits.1);
  from = λ x fits. (p.from x.0 fits.0, q.from x.1 fits.1);
}

leds : {A : Type 0} (k : ℕ) (c : Codec A) (t : A → Text) → Spells c t
    → Spells (led_by k c) (λ x. record { bytes = spelling.number k ++ (t x).bytes; Fits = Unit {0} × (t x).Fits })
leds k c t p = record {
  same = λ x. ap (λ (w : List ℕ). spelling.number k ++ w) (p.same x);
  to = λ x fits. (tt, p.to x fits);
  from = λ x fits. p.from x fits.1;
}

pub spells : (f : Format) → Spells (codec f) (text f)
spells Number = numbers
spells Hyper = hypers
spells Flag = flags
spells (Fixed n) = fixeds n
spells (Opaque limit) = opaques limit
spells (Then a b) = thens (codec a) (codec b) (text a) (text b) (spells a) (spells b)
spells (Optional f) = optionals (codec f) (text f) (spells f)
spells (Array f) = arrays (codec f) (text f) (spells f)
spells (AtMost limit f) = fews limit (codec f) (text f) (spells f)
spells (LedBy k f) = leds k (codec f) (text f) (spells f)

pub is_readable : (f : Format) → IsFormat f → IsReadable (text f)
is_readable f h = readable (codec f) (text f) (spells f) (is_codec f h)

pub no_other : (f : Format) → IsFormat f → BeginsNoOther (text f)
no_other f h = begins_no_other (codec f) (text f) (spells f) (is_codec f h)
