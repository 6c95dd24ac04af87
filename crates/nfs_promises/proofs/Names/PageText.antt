-- A page of a listing has one reading.
use Rattle.std.proofs.Common.{◌≡◌, ℕ, ◌<◌, ◌^◌, Bool, true, false, List, [], ◌∷◌, ◌++◌, length, replicate, refl, sym, ◌∙◌, ap, subst, arith, append_assoc, inl}
use Rattle.std.proofs.{Common.inr, lemmas.{List.length-append, Nat.from_be_bytes-to_be_bytes_8}}
use Rattle.std.specs.{Int.{w32, w64, from_be_bytes}, List.{flat_map, AllByRecursion}}
use Rattle.nfs_xdr.specs.{Spelling.{number, hyper, flag, padding, fixed, opaque}, Tables.In}
use Rattle.nfs_xdr.proofs.Putting.{length_number, length_hyper}
use Rattle.nfs_compound.specs.declared.op_num.OpNum.TheVariants as Num
use Rattle.nfs_results.specs.{declared.res.Entry.Entry, declared.res.Fattr.Fattr, declared.res.ReadDirOk.ReadDirOk, Items.{entry, fattr, attr_set}}
use Rattle.nfs_results.specs.{Listing.read_dir, ResultCodec.FitsResult, Results.{spell_result, done_head}, Straight.{entry_head, entry_text, list_end}}
use Rattle.nfs_results.specs.declared.res.Res.TheVariants as Res
use Rattle.nfs_results.proofs.StraightLaws.{read_dir_in_parts}
use Rattle.nfs_files.proofs.WrittenOps.{number_back}
use Rattle.nfs_rpc.proofs.Walks.{append_same}

-- Where two texts begin with parts of one length, they are the same, and so is what follows.

-- the first of two parts is put in front of both
parted : (a b c d v w : List ℕ) → (a ++ b) ++ v ≡ (c ++ d) ++ w → a ++ (b ++ v) ≡ c ++ (d ++ w)
parted a b c d v w e = sym (append_assoc a b v) ∙ (e ∙ append_assoc c d w)

number_cut : (x y : ℕ) (v w : List ℕ) → x < 2 ^ 32 → y < 2 ^ 32 → number x ++ v ≡ number y ++ w → (x ≡ y) × (v ≡ w)
number_cut x y v w small low e =
    let c = append_same (number x) (number y) v w (length_number x ∙ sym (length_number y)) e in
    (sym (number_back x small) ∙ (ap (from_be_bytes w32) c.0 ∙ number_back y low), c.1)

pub hyper_back : (n : ℕ) → n < 2 ^ 64 → from_be_bytes w64 (hyper n) ≡ n
unfolding hyper
hyper_back n small = from_be_bytes-to_be_bytes_8 n small

hyper_cut : (x y : ℕ) (v w : List ℕ) → x < 2 ^ 64 → y < 2 ^ 64 → hyper x ++ v ≡ hyper y ++ w → (x ≡ y) × (v ≡ w)
hyper_cut x y v w small low e =
    let c = append_same (hyper x) (hyper y) v w (length_hyper x ∙ sym (length_hyper y)) e in
    (sym (hyper_back x small) ∙ (ap (from_be_bytes w64) c.0 ∙ hyper_back y low), c.1)

abbrev zeros_behind : List ℕ → List ℕ
zeros_behind xs = replicate (padding (length xs)) 0

fixed_cut : (xs ys v w : List ℕ) → length xs ≡ length ys → fixed xs ++ v ≡ fixed ys ++ w → (xs ≡ ys) × (v ≡ w)
fixed_cut xs ys v w long e =
    let zeros : length (zeros_behind xs) ≡ length (zeros_behind ys) = ap (λ n. length (replicate {A = ℕ} (padding n) 0)) long in
    let c = append_same (fixed xs) (fixed ys) v w (omega (arith, length-append xs (zeros_behind xs), length-append ys (zeros_behind ys))) e in
    ((append_same xs ys (zeros_behind xs) (zeros_behind ys) long c.0).0, c.1)

opaque_cut : (xs ys v w : List ℕ) → length xs < 2 ^ 32 → length ys < 2 ^ 32 → opaque xs ++ v ≡ opaque ys ++ w → (xs ≡ ys) × (v ≡ w)
opaque_cut xs ys v w few small e =
    let c = number_cut (length xs) (length ys) (fixed xs ++ v) (fixed ys ++ w) few small
    (parted (number (length xs)) (fixed xs) (number (length ys)) (fixed ys) v w e) in
    fixed_cut xs ys v w c.0 c.1

abbrev pub AreWords : List ℕ → Type 0
AreWords words = AllByRecursion (λ n. n < 2 ^ 32) words

words_cut : (xs ys v w : List ℕ) → length xs ≡ length ys → AreWords xs → AreWords ys → flat_map number xs ++ v ≡ flat_map number ys ++ w → (xs ≡ ys) × (v ≡ w)
words_cut [] [] v w long few small e = (refl, e)
words_cut [] (y ∷ ys) v w long few small e = absurd (omega arith)
words_cut (x ∷ xs) [] v w long few small e = absurd (omega arith)
words_cut (x ∷ xs) (y ∷ ys) v w long few small e =
    let c = number_cut x y (flat_map number xs ++ v) (flat_map number ys ++ w) few.0 small.0
    (parted (number x) (flat_map number xs) (number y) (flat_map number ys) v w e) in
    let rest = words_cut xs ys v w (omega arith) few.1 small.1 c.1 in
    (ap (λ n. n ∷ xs) c.0 ∙ ap (λ words. y ∷ words) rest.0, rest.1)

-- An entry, where its numbers and its lengths are as large as they can be written.

pub record ArePlain (f : Fattr) : Type 0 where
  pub few : length f.attrmask < 2 ^ 32
  pub words : AreWords f.attrmask
  pub values : length f.attr_vals < 2 ^ 32

pub record IsPlain (e : Entry) : Type 0 where
  pub cookie : e.cookie < 2 ^ 64
  pub name : length e.name < 2 ^ 32
  pub attrs : ArePlain e.attrs

abbrev mask_text : List ℕ → List ℕ
mask_text words = number (length words) ++ flat_map number words

mask_cut : (xs ys v w : List ℕ) → length xs < 2 ^ 32 → length ys < 2 ^ 32 → AreWords xs → AreWords ys → mask_text xs ++ v ≡ mask_text ys ++ w → (xs ≡ ys) × (v ≡ w)
mask_cut xs ys v w few small words others e =
    let c = number_cut (length xs) (length ys) (flat_map number xs ++ v) (flat_map number ys ++ w) few small
    (parted (number (length xs)) (flat_map number xs) (number (length ys)) (flat_map number ys) v w e) in
    words_cut xs ys v w c.0 words others c.1

attrs_cut : (f g : Fattr) (v w : List ℕ) → ArePlain f → ArePlain g → fattr.spell f ++ v ≡ fattr.spell g ++ w → (f ≡ g) × (v ≡ w)
unfolding fattr attr_set
attrs_cut f g v w plain other e =
    let c = mask_cut f.attrmask g.attrmask (opaque f.attr_vals ++ v) (opaque g.attr_vals ++ w) plain.few other.few plain.words other.words
    (parted (mask_text f.attrmask) (opaque f.attr_vals) (mask_text g.attrmask) (opaque g.attr_vals) v w e) in
    let d = opaque_cut f.attr_vals g.attr_vals v w plain.values other.values c.1 in (
      ap (λ mask. record { attrmask = mask; attr_vals = f.attr_vals }) c.0 ∙ ap (λ values. record { attrmask = g.attrmask; attr_vals = values }) d.0,
      d.1,
    )

entry_cut : (e f : Entry) (v w : List ℕ) → IsPlain e → IsPlain f → entry_text e ++ v ≡ entry_text f ++ w → (e ≡ f) × (v ≡ w)
entry_cut e f v w plain other same =
    let a = parted (entry_head e.cookie e.name) (fattr.spell e.attrs) (entry_head f.cookie f.name) (fattr.spell f.attrs) v w same in
    let b = number_cut 1 1 ((hyper e.cookie ++ opaque e.name) ++ (fattr.spell e.attrs ++ v)) ((hyper f.cookie ++ opaque f.name) ++ (fattr.spell f.attrs ++ w))
    (omega arith) (omega arith)
    (parted (flag true) (hyper e.cookie ++ opaque e.name) (flag true) (hyper f.cookie ++ opaque f.name) (fattr.spell e.attrs ++ v) (fattr.spell f.attrs ++ w) a) in
    let c = hyper_cut e.cookie f.cookie (opaque e.name ++ (fattr.spell e.attrs ++ v)) (opaque f.name ++ (fattr.spell f.attrs ++ w)) plain.cookie other.cookie
    (parted (hyper e.cookie) (opaque e.name) (hyper f.cookie) (opaque f.name) (fattr.spell e.attrs ++ v) (fattr.spell f.attrs ++ w) b.1) in
    let d = opaque_cut e.name f.name (fattr.spell e.attrs ++ v) (fattr.spell f.attrs ++ w) plain.name other.name c.1 in
    let g = attrs_cut e.attrs f.attrs v w plain.attrs other.attrs d.1 in (
      ap (λ cookie. record { cookie = cookie; name = e.name; attrs = e.attrs }) c.0
          ∙ (ap (λ name. record { cookie = f.cookie; name = name; attrs = e.attrs }) d.0
          ∙ ap (λ attrs. record { cookie = f.cookie; name = f.name; attrs = attrs }) g.0),
      g.1,
    )

-- Entries, up to the flag that says that no more follow.

flags_cut : (a b : Bool) (v w : List ℕ) → flag a ++ v ≡ flag b ++ w → (a ≡ b) × (v ≡ w)
flags_cut true true v w e = (refl, (number_cut 1 1 v w (omega arith) (omega arith) e).1)
flags_cut false false v w e = (refl, (number_cut 0 0 v w (omega arith) (omega arith) e).1)
flags_cut true false v w e = absurd (let same : ◌≡◌ {A = ℕ} 1 0 = (number_cut 1 0 v w (omega arith) (omega arith) e).0 in omega arith)
flags_cut false true v w e = absurd (let same : ◌≡◌ {A = ℕ} 0 1 = (number_cut 0 1 v w (omega arith) (omega arith) e).0 in omega arith)

abbrev rest_text : Entry → List ℕ
rest_text e = (hyper e.cookie ++ opaque e.name) ++ fattr.spell e.attrs

-- an entry's flag stands in front of it
led : (e : Entry) (v : List ℕ) → entry_text e ++ v ≡ flag true ++ (rest_text e ++ v)
led e v =
    ap (λ text. text ++ v) (append_assoc (flag true) (hyper e.cookie ++ opaque e.name) (fattr.spell e.attrs)) ∙ append_assoc (flag true) (rest_text e) v

abbrev entries_text : List Entry → Bool → List ℕ
entries_text es eof = flat_map entry_text es ++ list_end eof

none_some : (e : Entry) (v : List ℕ) (eof : Bool) → list_end eof ≡ entry_text e ++ v → ⊥
none_some e v eof same =
    let bad : ◌≡◌ {A = Bool} false true = (flags_cut false true (flag eof) (rest_text e ++ v) (same ∙ led e v)).0 in cc

abbrev pub AllPlain : List Entry → Type 0
AllPlain es = (e : Entry) → In e es → IsPlain e

entries_cut : (es fs : List Entry) (a b : Bool) → AllPlain es → AllPlain fs → entries_text es a ≡ entries_text fs b → (es ≡ fs) × (a ≡ b)
entries_cut [] [] a b plain other e =
    let c = flags_cut false false (flag a) (flag b) e in (refl, (flags_cut a b [] [] (ap (λ text. text ++ []) c.1)).0)
entries_cut [] (f ∷ fs) a b plain other e =
    absurd (none_some f (entries_text fs b) a (e ∙ append_assoc (entry_text f) (flat_map entry_text fs) (list_end b)))
entries_cut (e ∷ es) [] a b plain other same =
    absurd (none_some e (entries_text es a) b (sym same ∙ append_assoc (entry_text e) (flat_map entry_text es) (list_end a)))
entries_cut (e ∷ es) (f ∷ fs) a b plain other same =
    let c = entry_cut e f (entries_text es a) (entries_text fs b) (plain e (inl refl)) (other f (inl refl))
    (sym (append_assoc (entry_text e) (flat_map entry_text es) (list_end a)) ∙ (same ∙ append_assoc (entry_text f) (flat_map entry_text fs) (list_end b))) in
    let rest = entries_cut es fs a b (λ x there. plain x (inr there)) (λ x there. other x (inr there)) c.1 in
    (ap (λ x. x ∷ es) c.0 ∙ ap (λ xs. f ∷ xs) rest.0, rest.1)

-- what fits is plain

all_in : {A : Type 0} (P : A → Type 0) (xs : List A) → AllByRecursion P xs → (x : A) → In x xs → P x
all_in P [] all x there = absurd there
all_in P (y ∷ ys) all x (inl is) = subst P (sym is) all.0
all_in P (y ∷ ys) all x (inr more) = all_in P ys all.1 x more

fits_plain : (e : Entry) → entry.Fits e → IsPlain e
unfolding entry fattr attr_set
fits_plain e fits = record {
  cookie = fits.1.0;
  name = (let few = fits.1.1.0.0 in omega arith);
  attrs = (let of_attrs = fits.1.1.1.1 in record {
    few = (let few = of_attrs.0.1.0 in omega arith);
    words = of_attrs.0.1.1;
    values = (let few = of_attrs.1.0 in omega arith);
  });
}

-- What fits and is spelled like a page whose entries are plain is that page.
pub one_page : (r q : ReadDirOk) → FitsResult (Res.ReadDir r) → length q.cookieverf ≡ 8 → AllPlain q.entries → spell_result (Res.ReadDir r) ≡ spell_result (Res.ReadDir q)
    → r ≡ q
unfolding read_dir
one_page r q fits long plain e =
    let same = sym (read_dir_in_parts r) ∙ (e ∙ read_dir_in_parts q) in
    let front : length r.cookieverf ≡ 8 = fits.1.0.0 in
    let a = append_same (done_head Num.ReadDir) (done_head Num.ReadDir) (fixed r.cookieverf ++ entries_text r.entries r.eof) (fixed q.cookieverf ++ entries_text q.entries q.eof) refl
    (parted (done_head Num.ReadDir) (fixed r.cookieverf) (done_head Num.ReadDir) (fixed q.cookieverf) (entries_text r.entries r.eof) (entries_text q.entries q.eof) same) in
    let b = fixed_cut r.cookieverf q.cookieverf (entries_text r.entries r.eof) (entries_text q.entries q.eof) (front ∙ sym long) a.1 in
    let c = entries_cut r.entries q.entries r.eof q.eof (λ x there. fits_plain x (all_in entry.Fits r.entries fits.1.1.0 x there)) plain b.1 in
    ap (λ v. record { cookieverf = v; entries = r.entries; eof = r.eof }) b.0
    ∙ (ap (λ es. record { cookieverf = q.cookieverf; entries = es; eof = r.eof }) c.0
    ∙ ap (λ eof. record { cookieverf = q.cookieverf; entries = q.entries; eof = eof }) c.1)
