-- What a codec spells is a text, and its reader gives the values of the text.
use Rattle.std.proofs.{Common.{◌≡◌, ℕ, List, [], ◌∷◌, ◌++◌, length, Option, Some, None, refl, sym, ap, ◌∙◌, arith}, lemmas.Bool.{le-leb, leb-true}}
use Rattle.std.specs.{Int.{w32, from_be_bytes}, List.{flat_map, AllByRecursion}}
use Rattle.nfs_xdr.specs.Codec as codec
use Rattle.nfs_xdr.specs.Combinators as combinators
use Rattle.nfs_xdr.specs.{Codec.Codec, Lawful.IsCodec, AuthSys.auth_sys, Time.time, Wire.{authsys_parms, nfstime4}}
use Rattle.nfs_xdr.specs.Text.{IsBytes, Text, uint32, uint64, bool, fixed, opaque, array, optional, Leads, IsReadable, BeginsNoOther}
use Rattle.nfs_xdr.proofs.CodecLaws.{is_prefix_free}

-- a codec that spells what the text says, of the same values
pub record Spells {A : Type 0} (c : Codec A) (text : A → Text) : Type 0 where
  pub same : (x : A) → c.spell x ≡ (text x).bytes
  pub to : (x : A) → c.Fits x → (text x).Fits
  pub from : (x : A) → (text x).Fits → c.Fits x

-- Arrays.

pub all_same : {A : Type 0} (f g : A → List ℕ) → ((x : A) → f x ≡ g x) → (xs : List A) → flat_map f xs ≡ flat_map g xs
all_same f g each [] = refl
all_same f g each (x ∷ xs) = rw (each x, all_same f g each xs) refl

pub all_fit : {A : Type 0} (P Q : A → Type 0) → ((x : A) → P x → Q x) → (xs : List A) → AllByRecursion P xs → AllByRecursion Q xs
all_fit P Q each [] all = tt
all_fit P Q each (x ∷ xs) all = (each x all.0, all_fit P Q each xs all.1)

pub arrays : {A : Type 0} (c : Codec A) (text : A → Text) → Spells c text → Spells (codec.array c) (array 4294967295 text)
arrays c text is = record {
  same = λ xs. rw (all_same c.spell (λ x. (text x).bytes) is.same xs) refl;
  to = λ xs fits. (omega (arith, fits.0), all_fit c.Fits (λ x. (text x).Fits) is.to xs fits.1);
  from = λ xs fits. (omega (arith, fits.0), all_fit (λ x. (text x).Fits) c.Fits is.from xs fits.1);
}

pub optionals : {A : Type 0} (c : Codec A) (text : A → Text) → Spells c text → Spells (combinators.optional c) (optional text)
optionals c text is = record { same = same; to = to; from = from }
  where
    same : (x : Option _) → (combinators.optional c).spell x ≡ (optional text x).bytes
    same None = refl
    same (Some x) = rw (is.same x) refl

    to : (x : Option _) → (combinators.optional c).Fits x → (optional text x).Fits
    to None fits = tt
    to (Some x) fits = (tt, is.to x fits)

    from : (x : Option _) → (optional text x).Fits → (combinators.optional c).Fits x
    from None fits = tt
    from (Some x) fits = is.from x fits.1

pub fews : {A : Type 0} (limit : ℕ) (c : Codec A) (text : A → Text) → Spells c text → Spells (combinators.few limit c) (array limit text)
fews limit c text is = record {
  same = λ xs. rw (all_same c.spell (λ x. (text x).bytes) is.same xs) refl;
  to = λ xs fits. (fits.0, all_fit c.Fits (λ x. (text x).Fits) is.to xs fits.1);
  from = λ xs fits. (fits.0, all_fit (λ x. (text x).Fits) c.Fits is.from xs fits.1);
}

pub numbers : Spells codec.number uint32
numbers = record { same = λ x. refl; to = λ x fits. fits; from = λ x fits. fits }

pub hypers : Spells codec.hyper uint64
hypers = record { same = λ x. refl; to = λ x fits. fits; from = λ x fits. fits }

pub flags : Spells codec.flag bool
flags = record { same = λ x. refl; to = λ x fits. fits; from = λ x fits. fits }

pub fixeds : (n : ℕ) → Spells (combinators.fixed n) (fixed n)
fixeds n = record { same = λ x. refl; to = λ x fits. fits; from = λ x fits. fits }

pub opaques : (limit : ℕ) → Spells (codec.opaque limit) (opaque limit)
opaques limit = record { same = λ x. refl; to = λ x fits. fits; from = λ x fits. fits }

pub times : Spells time nfstime4
unfolding time
times = record { same = λ t. refl; to = λ t (e, fits). fits; from = λ t fits. (refl, fits) }

groups : Codec (List ℕ)
groups = codec.at_most 16 (codec.pieces 4 (from_be_bytes w32) codec.number)

few : (gids : List ℕ) → groups.Fits gids → (array 16 uint32 gids).Fits
unfolding groups
few gids (at_most, (count, all)) = (leb-true (length gids) 16 at_most, all)

few_from : (gids : List ℕ) → (array 16 uint32 gids).Fits → groups.Fits gids
unfolding groups
few_from gids (count, all) = (le-leb (length gids) 16 count, (omega (arith, count), all))

pub credentials : Spells auth_sys authsys_parms
unfolding auth_sys groups
credentials = record {
  same = λ a. refl;
  to = λ a (e, (stamp, (name, (uid, (gid, gids))))). (stamp, (name, (uid, (gid, few a.gids gids))));
  from = λ a (stamp, (name, (uid, (gid, gids)))). (refl, (stamp, (name, (uid, (gid, few_from a.gids gids)))));
}

-- the values of a text, by a reader
abbrev pub read_as : {A : Type 0} → (A → Text) → (List ℕ → Option (A × List ℕ)) → Codec A
read_as text read = record { spell = λ x. (text x).bytes; Fits = λ x. (text x).Fits; read = read }

-- what reads the one reads the other
pub is_read : {A : Type 0} (c : Codec A) (text : A → Text) → Spells c text → IsCodec c → IsCodec (read_as text c.read)
is_read c text one is = record {
  takes = λ bytes x rest fits e. let t = is.takes bytes x rest fits e in (t.0 ∙ ap (λ (w : List ℕ). w ++ rest) (one.same x), t.1, one.to x t.2);
  again = λ x rest fits. ap (λ (w : List ℕ). c.read (w ++ rest)) (sym (one.same x)) ∙ is.again x rest (one.from x fits);
}

-- what is read leads the bytes, and what leads them is read
pub leads_from : {A : Type 0} (c : Codec A) (text : A → Text) → Spells c text → IsCodec c → (bytes : List ℕ) (x : A × List ℕ) → IsBytes bytes
    → c.read bytes ≡ Some x → Leads text bytes x
leads_from c text one is bytes x fits e =
    let t = is.takes bytes x.0 x.1 fits e in
    (t.0 ∙ ap (λ (w : List ℕ). w ++ x.1) (one.same x.0), one.to x.0 t.2)

pub leads_again : {A : Type 0} (c : Codec A) (text : A → Text) → Spells c text → IsCodec c → (bytes : List ℕ) (x : A × List ℕ)
    → Leads text bytes x → c.read bytes ≡ Some x
leads_again c text one is bytes x (stands, fits) =
    ap c.read (stands ∙ ap (λ (w : List ℕ). w ++ x.1) (sym (one.same x.0))) ∙ is.again x.0 x.1 (one.from x.0 fits)

pub readable : {A : Type 0} (c : Codec A) (text : A → Text) → Spells c text → IsCodec c → IsReadable text
readable c text one is = (c.read, λ bytes x fits. (leads_from c text one is bytes x fits, leads_again c text one is bytes x))

pub begins_no_other : {A : Type 0} (c : Codec A) (text : A → Text) → Spells c text → IsCodec c → BeginsNoOther text
begins_no_other c text one is x y rest f g e =
    is_prefix_free c is x y rest (one.from x f) (one.from y g) (one.same x ∙ e ∙ ap (λ (w : List ℕ). w ++ rest) (sym (one.same y)))
