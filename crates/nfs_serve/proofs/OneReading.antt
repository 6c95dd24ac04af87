-- Which fault a script has, and its whole entries, are decided by its bytes.
use Rattle.std.proofs.Common.{◌≡◌, ℕ, ◌<◌, ◌≤◌, ◌^◌, List, [], ◌++◌, length, take, drop, None, refl}
use Rattle.std.proofs.{Common.{sym, ap, ◌∙◌, arith, append_assoc, length-append}, lemmas.Bool.le-ltb}
use Rattle.std.proofs.lemmas.{List.take-append-drop, Option.some_pair_parts}
use Rattle.nfs_xdr.specs.{Spelling.{number, hyper}, Codec.{Codec, ◌then◌}, Lawful.IsCodec}
use Rattle.nfs_xdr.specs.Codec as codec
use Rattle.nfs_xdr.proofs.CodecLaws.{is_number, is_hyper, is_then}
use Rattle.nfs_serve.specs.Script.{Entry, head, spell_entry, Fits, refusal, IsHead}
use Rattle.nfs_serve.specs.{Reading.BeginsWith}

abbrev heads : Codec (ℕ × (ℕ × ℕ))
heads = codec.hyper then codec.number then codec.number

head_spelled : (m c l : ℕ) (xs : List ℕ) → head m c l ++ xs ≡ heads.spell (m, (c, l)) ++ xs
unfolding head
head_spelled m c l xs = ap (λ h. h ++ xs) (append_assoc (hyper m) (number c) (number l))

-- a head is read in one way
pub head_same : (m c l n d k : ℕ) (xs ys : List ℕ) → (m < 2 ^ 64) × (c < 2 ^ 32) × (l < 2 ^ 32)
    → (n < 2 ^ 64) × (d < 2 ^ 32) × (k < 2 ^ 32) → head m c l ++ xs ≡ head n d k ++ ys → (m ≡ n) × (c ≡ d) × (l ≡ k) × (xs ≡ ys)
head_same m c l n d k xs ys p q e =
    let is : IsCodec heads = is_then codec.hyper (codec.number then codec.number) is_hyper (is_then codec.number codec.number is_number is_number) in
    let parts = some_pair_parts (m, (c, l)) (n, (d, k)) xs ys
    (sym (is.again (m, (c, l)) xs (p.0, (p.1, p.2)))
    ∙ ap heads.read (sym (head_spelled m c l xs) ∙ e ∙ head_spelled n d k ys) ∙ is.again (n, (d, k)) ys (q.0, (q.1, q.2))) in
    (ap (λ x. x.0) parts.0, ap (λ x. x.1.0) parts.0, ap (λ x. x.1.1) parts.0, parts.1)

pub small : (e : Entry) → Fits e → (e.moment < 2 ^ 64) × (e.conn < 2 ^ 32) × (length e.piece < 2 ^ 32)
small e fits = (omega (arith, fits.0), omega (arith, fits.1), omega (arith, fits.2))

pub behind_head : (e : Entry) (xs : List ℕ) → spell_entry e ++ xs ≡ head e.moment e.conn (length e.piece) ++ (e.piece ++ xs)
behind_head e xs = append_assoc (head e.moment e.conn (length e.piece)) e.piece xs

pub granted : (m c l : ℕ) → m ≤ 2 ^ 62 → c ≤ 15 → l ≤ 65536 → refusal m c l ≡ None
granted m c l p q r = rw (le-ltb 15 c q, le-ltb 65536 l r, le-ltb (2 ^ 62) m p) refl

-- where an entry stands whole at the front, the head there is none that is refused, and its piece is there
pub front_is_entry : (bytes front rest : List ℕ) (m c l : ℕ) → front ≡ take 16 bytes → rest ≡ drop 16 bytes → IsHead m c l front
    → (e : Entry) → BeginsWith bytes e → (refusal m c l ≡ None) × (l ≤ length rest)
front_is_entry bytes front rest m c l is_front is_rest is e (behind, at, fits) =
    let same = head_same m c l e.moment e.conn (length e.piece) rest (e.piece ++ behind) (is.1, is.2, is.3) (small e fits)
    (ap (λ f. f ++ rest) (sym is.0 ∙ is_front) ∙ ap (λ r. take 16 bytes ++ r) is_rest ∙ take-append-drop 16 bytes ∙ at ∙ behind_head e behind) in (
      ap (λ x. refusal x c l) same.0 ∙ ap (λ x. refusal e.moment x l) same.1 ∙ ap (λ x. refusal e.moment e.conn x) same.2
          ∙ granted e.moment e.conn (length e.piece) fits.0 fits.1 fits.2,
      omega (arith, same.2, ap length same.3, length-append e.piece behind),
    )
