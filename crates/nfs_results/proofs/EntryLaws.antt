-- Entries that were gone over are lent as they are spelled, and taken one by one.
use Rattle.std.proofs.Common.{◌≡◌, ℕ, ◌-◌, Bool, true, false, List, [], ◌∷◌, ◌++◌, length, take, Some, None, subst, refl, sym, ap, ◌∙◌, append-nil, arith}
use Rattle.std.proofs.{lemmas.List.{take_at, length-append}, lemmas.Option.same_Some, lemmas.Bool.{false≢true}}
use Rattle.std.specs.List.{AllByRecursion}
use Rattle.nfs_xdr.specs.{Reading.flag_at, Text.IsBytes, Combinators.passed, Chain.{spell_chain, chain}}
use Rattle.nfs_xdr.proofs.{CodecLaws.{bind_some, is_flag}, ChainLaws.is_chain}
use Rattle.nfs_results.specs.{declared.res.Entry.Entry, Items.entry, Entries.{in_front, entries_in, AreEntries}}
use Rattle.nfs_results.proofs.ItemLaws.{is_entry}

-- the bytes that were gone over
abbrev pub lent : List ℕ → List ℕ → List ℕ
lent bytes rest = take (length bytes - length rest) bytes

pub record IsLent (bytes rest : List ℕ) : Type 0 where
  pub read : (chain entry).read bytes ≡ Some (entries_in (lent bytes rest), rest)
  pub entries : AreEntries (lent bytes rest)

spelled_in : (es : List Entry) → AllByRecursion entry.Fits es → entries_in (spell_chain entry.spell es) ≡ es
spelled_in es fit = ap (λ (w : List ℕ). entries_in w) (sym (append-nil (spell_chain entry.spell es))) ∙ ap in_front ((is_chain entry is_entry).again es [] fit)

-- bytes that spell entries have those in them
are_spelled : (bytes : List ℕ) (es : List Entry) → bytes ≡ spell_chain entry.spell es
    → AllByRecursion entry.Fits es → (entries_in bytes ≡ es) × AreEntries bytes
are_spelled bytes es front fit =
    let same : entries_in bytes ≡ es = ap (λ (w : List ℕ). entries_in w) front ∙ spelled_in es fit in (
      same,
      record {
        spelled = front ∙ ap (λ (xs : List Entry). spell_chain entry.spell xs) (sym same);
        fit = subst (λ (xs : List Entry). AllByRecursion entry.Fits xs) (sym same) fit;
      },
    )

lent_front : (front rest : List ℕ) → lent (front ++ rest) rest ≡ front
lent_front front rest = take_at front rest (length (front ++ rest) - length rest) (omega (arith, length-append front rest))

pub are_lent : (bytes rest : List ℕ) → IsBytes bytes → passed ((chain entry).read bytes) ≡ Some (tt, rest) → IsLent bytes rest
are_lent bytes rest fits e =
    let s = bind_some ((chain entry).read bytes) (λ x. Some (tt, x.1)) (tt, rest) e in
    let same : s.0.1 ≡ rest = ap (λ (p : Unit {0} × List ℕ). p.1) (same_Some (tt, s.0.1) (tt, rest) s.2) in
    let t = (is_chain entry is_entry).takes bytes s.0.0 s.0.1 fits s.1 in
    let front : lent bytes rest ≡ spell_chain entry.spell s.0.0 =
    ap (λ (w : List ℕ). lent w rest) (t.0 ∙ ap (λ (w : List ℕ). spell_chain entry.spell s.0.0 ++ w) same)
    ∙ lent_front (spell_chain entry.spell s.0.0) rest in
    let in_them = are_spelled (lent bytes rest) s.0.0 front t.2 in
    record {
      read = s.1 ∙ ap (λ (r : List ℕ). Some (s.0.0, r)) same ∙ ap (λ (es : List Entry). Some (es, rest)) (sym in_them.0);
      entries = in_them.1;
    }

-- what a flag says of entries
flag_none : (bytes : List ℕ) → bytes ≡ spell_chain entry.spell [] → flag_at bytes ≡ Some (false, [])
flag_none bytes e = ap flag_at (e ∙ sym (append-nil (spell_chain entry.spell []))) ∙ is_flag.again false [] tt

flag_some : (bytes : List ℕ) (x : Entry) (xs : List Entry) → bytes ≡ spell_chain entry.spell (x ∷ xs)
    → flag_at bytes ≡ Some (true, entry.spell x ++ spell_chain entry.spell xs)
flag_some bytes x xs e = ap flag_at e ∙ is_flag.again true (entry.spell x ++ spell_chain entry.spell xs) tt

none≢some : {A : Type 0} (x : A) → None ≡ Some x → ⊥
none≢some x e = cc

flagged : (bytes : List ℕ) (es : List Entry) → bytes ≡ spell_chain entry.spell es → flag_at bytes ≡ None → ⊥
flagged bytes [] e none = none≢some _ (sym none ∙ flag_none bytes e)
flagged bytes (x ∷ xs) e none = none≢some _ (sym none ∙ flag_some bytes x xs e)

pub next_flagged : (bytes : List ℕ) → AreEntries bytes → flag_at bytes ≡ None → ⊥
next_flagged bytes h none = flagged bytes (entries_in bytes) h.spelled none

ends : (bytes : List ℕ) (es : List Entry) → bytes ≡ spell_chain entry.spell es → (rest : List ℕ) → flag_at bytes ≡ Some (false, rest) → es ≡ []
ends bytes [] e rest flag = refl
ends bytes (x ∷ xs) e rest flag = absurd (false≢true
    (ap (λ (p : Bool × List ℕ). p.0) (same_Some (false, rest) (true, entry.spell x ++ spell_chain entry.spell xs) (sym flag ∙ flag_some bytes x xs e))))

pub next_none : (bytes : List ℕ) → AreEntries bytes → (rest : List ℕ) → flag_at bytes ≡ Some (false, rest) → entries_in bytes ≡ []
next_none bytes h rest flag = ends bytes (entries_in bytes) h.spelled rest flag

-- the first of entries, behind the flag that says that it follows
record IsFirst (left : List ℕ) (es : List Entry) : Type 0 where
  pub first : Entry
  pub others : List Entry
  pub are : es ≡ first ∷ others
  pub fit : AllByRecursion entry.Fits others
  pub read : entry.read left ≡ Some (first, spell_chain entry.spell others)

first_of : (bytes : List ℕ) (es : List Entry) → bytes ≡ spell_chain entry.spell es
    → AllByRecursion entry.Fits es → (left : List ℕ) → flag_at bytes ≡ Some (true, left) → IsFirst left es
first_of bytes [] e fit left flag = absurd (false≢true (ap (λ (p : Bool × List ℕ). p.0) (same_Some (false, []) (true, left) (sym (flag_none bytes e) ∙ flag))))
first_of bytes (x ∷ xs) e fit left flag =
    let same : left ≡ entry.spell x ++ spell_chain entry.spell xs =
    ap (λ (p : Bool × List ℕ). p.1) (same_Some (true, left) (true, entry.spell x ++ spell_chain entry.spell xs) (sym flag ∙ flag_some bytes x xs e)) in
    record { first = x; others = xs; are = refl; fit = fit.1; read = ap entry.read same ∙ is_entry.again x (spell_chain entry.spell xs) fit.0 }

pub next_read : (bytes : List ℕ) → AreEntries bytes → (left : List ℕ) → flag_at bytes ≡ Some (true, left) → entry.read left ≡ None → ⊥
next_read bytes h left flag none = none≢some _ (sym none ∙ (first_of bytes (entries_in bytes) h.spelled h.fit left flag).read)

pub next_some : (bytes : List ℕ) → AreEntries bytes → (left : List ℕ) → flag_at bytes ≡ Some (true, left)
    → (x : Entry) (rest : List ℕ) → entry.read left ≡ Some (x, rest) → (entries_in bytes ≡ x ∷ entries_in rest) × AreEntries rest
next_some bytes h left flag x rest read =
    let f = first_of bytes (entries_in bytes) h.spelled h.fit left flag in
    let pair = same_Some (f.first, spell_chain entry.spell f.others) (x, rest) (sym f.read ∙ read) in
    let behind : rest ≡ spell_chain entry.spell f.others = sym (ap (λ (p : Entry × List ℕ). p.1) pair) in
    let in_them = are_spelled rest f.others behind f.fit in
    (f.are ∙ ap (λ (y : Entry). y ∷ f.others) (ap (λ (p : Entry × List ℕ). p.0) pair) ∙ ap (λ (ys : List Entry). x ∷ ys) (sym in_them.0), in_them.1)
