-- A byte lasts just where an image of its file does that bears it: so what is shown of images is shown of bytes.
use Rattle.std.proofs.Common.{◌≡◌, ℕ, ◌+◌, ◌-◌, ◌≤◌, ◌<◌, Bool, true, false, not, List, [], length, get_or, Option, Some, None, refl, sym, ◌∙◌, ap, subst, arith, inl, inr}
use Rattle.std.proofs.lemmas.Bool.{cases_Bool, and_parts, not-true, eqb-true, eq-eqb, ltb-true, ltb-false, false≢true}
use Rattle.std.specs.{Prelude.{◌==◌, ◌&&◌, nat_lt, is_some, max, if◌then◌else◌}, Option.option_map_or}
use Rattle.nfs_xdr.specs.declared.time.Time.{Time}
use Rattle.nfs_tree.specs.{declared.sets.Sets.Sets, declared.stored.Stored.Stored, Files.{Files, stored_in, data_at}, Bytes.{with_written, with_resized}}
use Rattle.nfs_files.specs.{FileImage.{Image, byte_over, cut_to}, Written.{Byte, StandsIn, Lasts}}
use Rattle.nfs_files.proofs.FileImages.{IsOf, Has, has_written, has_resized}

pub record Bears (b : Byte) (img : Image) : Type 0 where
  pub within : b.place < img.size
  pub value : img.byte b.place ≡ b.value

-- a byte of an image lasts
pub lasts_of : (b : Byte) (img : Image) (t : Files) → Bears b img → Has b.file img t → Lasts b t
lasts_of b img t bears has = record { given = has.given; stands = go (stored_in t.objects b.file) refl }
  where
    go : (o : Option Stored) → stored_in t.objects b.file ≡ o → is_some o ≡ true → StandsIn b (option_map_or (λ (s : Stored). s.bytes) o [])
    go None e there = absurd (false≢true there)
    go (Some s) e there = (let is = has.holds s e in (subst (λ (n : ℕ). b.place < n) (sym is.long) bears.within, is.each b.place ∙ bears.value))

-- and what lasts is one of an image
abbrev pub own : List ℕ → Image
own bytes = record { size = length bytes; byte = λ p. get_or bytes p 0 }

pub has_own : (n : ℕ) (t : Files) → n ≤ t.last_object → Has n (own (data_at t n)) t
has_own n t given = record {
  given = given;
  holds = λ s e. subst (λ (bytes : List ℕ). IsOf (own (data_at t n)) bytes) (ap (λ (o : Option Stored). option_map_or (λ (s : Stored). s.bytes) o []) e)
      (record { long = refl; each = λ p. refl });
}

record Imaged (b : Byte) (t : Files) : Type 0 where
  pub img : Image
  pub bears : Bears b img
  pub has : Has b.file img t

imaged : (b : Byte) (t : Files) → Lasts b t → Imaged b t
imaged b t is = go (stored_in t.objects b.file) refl is.stands
  where
    go : (o : Option Stored) → stored_in t.objects b.file ≡ o → (is_some o ≡ true → StandsIn b (option_map_or (λ (s : Stored). s.bytes) o [])) → Imaged b t
    go None e stands = record {
      img = record { size = b.place + 1; byte = λ p. b.value };
      bears = record { within = omega arith; value = refl };
      has = record { given = is.given; holds = λ s there. (let bad : None ≡ Some s = sym e ∙ there in absurd cc) };
    }
    go (Some s) e stands =
        let it : StandsIn b (data_at t b.file) = is.stands (ap is_some e) in
        record { img = own (data_at t b.file); bears = record { within = it.0; value = it.1 }; has = has_own b.file t is.given }

-- what leaves each image leaves the byte
pub lasts_by : (b : Byte) (t u : Files) → ((img : Image) → Has b.file img t → Has b.file img u) → Lasts b t → Lasts b u
lasts_by b t u leaves is = (let i = imaged b t is in lasts_of b i.img u i.bears (leaves i.img i.has))

bears_if : (b : Byte) (v : Bool) (one two : Image) → (v ≡ true → Bears b one) → Bears b two → Bears b (if v then one else two)
bears_if b true one two same other = same refl
bears_if b false one two same other = other

-- WRITE: beside what is written, and of what is written
abbrev over : Image → ℕ → List ℕ → Image
over img offset text = record { size = max img.size (offset + length text); byte = byte_over img offset text }

over_beside : (b : Byte) (img : Image) (offset : ℕ) (text : List ℕ) → (offset ≤ b.place → b.place < offset + length text → ⊥) → Bears b img → Bears b (over img offset text)
over_beside b img offset text beside bears = record {
  within = (let lt = bears.within in grind arith);
  value = elim (cases_Bool (not (nat_lt b.place offset) && nat_lt b.place (offset + length text))) [
    | inl it ↦ (let p = and_parts _ _ it in absurd (beside (ltb-false b.place offset (not-true _ p.0)) (ltb-true b.place (offset + length text) p.1)))
    | inr out ↦ rw out bears.value
  ];
}

over_there : (b : Byte) (img : Image) (offset : ℕ) (text : List ℕ) → offset ≤ b.place → b.place < offset + length text → get_or text (b.place - offset) 0 ≡ b.value
    → Bears b (over img offset text)
over_there b img offset text from below value = record {
  within = grind arith;
  value = elim (cases_Bool (nat_lt b.place offset)) [
    | inl low ↦ absurd (let lt = ltb-true b.place offset low in omega arith)
    | inr high ↦ elim (cases_Bool (nat_lt b.place (offset + length text))) [
      | inl it ↦ rw (high, it) value
      | inr out ↦ absurd (let le = ltb-false b.place (offset + length text) out in omega arith)
    ]
  ];
}

pub lasts_written : (b : Byte) (t : Files) (n offset : ℕ) (text : List ℕ) (sets : Sets) (now : Time) → (n ≡ b.file → offset ≤ b.place → b.place < offset + length text → ⊥)
    → Lasts b t → Lasts b (with_written t n offset text sets now)
lasts_written b t n offset text sets now beside is =
    let i = imaged b t is in
    lasts_of b (if n == b.file then over i.img offset text else i.img) (with_written t n offset text sets now)
    (bears_if b (n == b.file) (over i.img offset text) i.img (λ same. over_beside b i.img offset text (beside (eqb-true n b.file same)) i.bears) i.bears)
    (has_written b.file i.img t n offset text sets now i.has)

pub lasts_over : (b : Byte) (t : Files) (offset : ℕ) (text : List ℕ) (sets : Sets) (now : Time) → b.file ≤ t.last_object → offset ≤ b.place → b.place < offset + length text
    → get_or text (b.place - offset) 0 ≡ b.value → Lasts b (with_written t b.file offset text sets now)
lasts_over b t offset text sets now given from below value =
    let img = own (data_at t b.file) in
    lasts_of b (if b.file == b.file then over img offset text else img) (with_written t b.file offset text sets now)
    (rw (eq-eqb b.file b.file refl) (over_there b img offset text from below value)) (has_written b.file img t b.file offset text sets now (has_own b.file t given))

-- a change of size
cut_below : (b : Byte) (img : Image) (size : ℕ) → b.place < size → Bears b img → Bears b (cut_to img (Some size))
cut_below b img size lt bears = record {
  within = lt;
  value = elim (cases_Bool (nat_lt b.place size)) [ inl below ↦ rw below bears.value | inr past ↦ absurd (let le = ltb-false b.place size past in omega arith) ];
}

pub lasts_resized : (b : Byte) (t : Files) (n size : ℕ) (sets : Sets) (now : Time) → (n ≡ b.file → b.place < size) → Lasts b t → Lasts b (with_resized t n size sets now)
lasts_resized b t n size sets now below is =
    let i = imaged b t is in
    lasts_of b (if n == b.file then cut_to i.img (Some size) else i.img) (with_resized t n size sets now)
    (bears_if b (n == b.file) (cut_to i.img (Some size)) i.img (λ same. cut_below b i.img size (below (eqb-true n b.file same)) i.bears) i.bears)
    (has_resized b.file i.img t n size sets now i.has)
