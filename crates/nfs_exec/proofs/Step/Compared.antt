-- What a repeat is compared by is all but the four bytes of sa_highest_slotid.
use Rattle.std.proofs.Common.{◌≡◌, ℕ, zero, suc, ◌+◌, ◌<◌, ◌^◌, List, [], ◌∷◌, ◌++◌, length, take, drop, Some, None, refl, sym, ap, ◌∙◌, subst, arith, inl, inr, append_assoc}
use Rattle.std.proofs.{lemmas.Bool.{cases_Bool, eqb-true}, lemmas.Option.same_Some, lemmas.List.{take_at, drop_at}, Math.Seq.drop-append-add}
use Rattle.std.specs.Prelude.{◌==◌}
use Rattle.nfs_xdr.specs.Spelling as spelling
use Rattle.nfs_xdr.specs.{Spelling.padding, Reading.number_at, Text.uint32}
use Rattle.nfs_xdr.proofs.{CodecLaws.is_number, Putting.length_number}
use Rattle.nfs_results.proofs.Lengths.{lengths}
use Rattle.nfs_compound.specs.{declared.op.Item.Item, declared.op.Item.TheVariants.Operation, declared.session_args.Sequence.Sequence}
use Rattle.nfs_compound.specs.Request.{Request, Lists, HasBody, IsRequest}
use Rattle.nfs_compound.specs.declared.op.Op.TheVariants as Op
use Rattle.nfs_exec.specs.{Step.Sequence.{highest_at, compared}, Step.Executing.{first_sequence, sequence_of}}
use Rattle.nfs_exec.specs.Step.Compared.{before_highest, IsCut, ComparesAllButHighest, DifferThereAlone}

-- the body of a compound that SEQUENCE begins
record Begins (body : List ℕ) (s : Sequence) : Type 0 where
  behind : List ℕ
  sixteen : length s.sessionid ≡ 16
  is : body ≡ spelling.number 53 ++ (spelling.fixed s.sessionid ++ (spelling.number s.sequenceid ++ (spelling.number s.slotid
      ++ (spelling.number s.highest_slotid ++ behind))))

nested : (a b c d e f rest : List ℕ) → (a ++ (b ++ (c ++ (d ++ (e ++ f))))) ++ rest ≡ a ++ (b ++ (c ++ (d ++ (e ++ (f ++ rest)))))
nested a b c d e f rest =
    append_assoc a (b ++ (c ++ (d ++ (e ++ f)))) rest
    ∙ ap (λ (w : List ℕ). a ++ w) (append_assoc b (c ++ (d ++ (e ++ f))) rest
    ∙ ap (λ (w : List ℕ). b ++ w) (append_assoc c (d ++ (e ++ f)) rest
    ∙ ap (λ (w : List ℕ). c ++ w) (append_assoc d (e ++ f) rest
    ∙ ap (λ (w : List ℕ). d ++ w) (append_assoc e f rest))))

begins_items : (n : ℕ) (body : List ℕ) (items : List Item) (s : Sequence) → first_sequence items ≡ Some s → Lists n body items → Begins body s
begins_items n body [] s e is = absurd cc
begins_items zero body (Operation (Op.Sequence q) ∷ more) s e is = absurd is
begins_items (suc n) body (Operation (Op.Sequence q) ∷ more) s e is =
    let (rest, stands, (number, (session, others)), listed) = is in
    let same : q ≡ s = cc in
    subst (Begins body) same (record {
      behind = spelling.flag q.cachethis ++ rest;
      sixteen = session.0;
      is = stands
          ∙ nested (spelling.number 53) (spelling.fixed q.sessionid) (spelling.number q.sequenceid) (spelling.number q.slotid)
          (spelling.number q.highest_slotid) (spelling.flag q.cachethis) rest;
    })
begins_items n body (item ∷ more) s e is = absurd cc

begins : (bytes : List ℕ) (r : Request) (s : Sequence) → (is : IsRequest bytes r) → sequence_of r ≡ Some s → Begins is.body s
begins bytes r s is e = elim (cases_Bool (r.minor == 1)) [
  | inl one ↦ begins_items r.declared is.body r.left s (rw one at e) (subst (λ (minor : ℕ). HasBody minor r.declared is.body r.left) (eqb-true r.minor 1 one) is.items)
  | inr other ↦ absurd (let none : None ≡ Some s = rw other at e in cc)
]

nested_front : (a b c d e f g rest : List ℕ) → (a ++ (b ++ (c ++ (d ++ (e ++ (f ++ g)))))) ++ rest ≡ a ++ (b ++ (c ++ (d ++ (e ++ (f ++ (g ++ rest))))))
nested_front a b c d e f g rest = append_assoc a (b ++ (c ++ (d ++ (e ++ (f ++ g))))) rest ∙ ap (λ (w : List ℕ). a ++ w) (nested b c d e f g rest)

front_is : (r : Request) (s : Sequence) (rest : List ℕ) → (before_highest r s).bytes ++ rest
    ≡ spelling.opaque r.tag ++ (spelling.number r.minor ++ (spelling.number r.declared ++ (spelling.number 53
    ++ (spelling.fixed s.sessionid ++ (spelling.number s.sequenceid ++ (spelling.number s.slotid ++ rest))))))
front_is r s rest =
    nested_front (spelling.opaque r.tag) (spelling.number r.minor) (spelling.number r.declared) (spelling.number 53)
    (spelling.fixed s.sessionid) (spelling.number s.sequenceid) (spelling.number s.slotid) rest

-- the field stands behind what stands before it
front_long : (r : Request) (s : Sequence) → length s.sessionid ≡ 16 → length (before_highest r s).bytes ≡ highest_at r
front_long r s sixteen =
    let none : padding (length s.sessionid) ≡ 0 = rw sixteen refl in
    simp lengths (omega (arith, sixteen, none))

cut : (bytes : List ℕ) (r : Request) (s : Sequence) → IsRequest bytes r → sequence_of r ≡ Some s → IsCut bytes r s × (length (before_highest r s).bytes ≡ highest_at r)
cut bytes r s is e =
    let b = begins bytes r s is e in
    let front = (before_highest r s).bytes in
    let field = spelling.number s.highest_slotid in
    let long = front_long r s b.sixteen in
    let spelled : bytes ≡ front ++ (field ++ b.behind) =
    is.head.spelled
    ∙ ap (λ (w : List ℕ). spelling.opaque r.tag ++ (spelling.number r.minor ++ (spelling.number r.declared ++ w))) b.is
    ∙ sym (front_is r s (field ++ b.behind)) in
    let whole : r.bytes ≡ front ++ (field ++ b.behind) = is.whole ∙ spelled in
    let ahead : take (highest_at r) r.bytes ≡ front = ap (take (highest_at r)) whole ∙ take_at front (field ++ b.behind) (highest_at r) long in
    let rest : drop (highest_at r + 4) r.bytes ≡ b.behind =
    ap (drop (highest_at r + 4)) whole
    ∙ ap (λ (n : ℕ). drop (n + 4) (front ++ (field ++ b.behind))) (sym long)
    ∙ drop-append-add front (field ++ b.behind) 4
    ∙ drop_at field b.behind 4 (length_number s.highest_slotid) in (
      record {
        behind = b.behind;
        spelled = spelled;
        compares = ap (λ (w : List ℕ). w ++ drop (highest_at r + 4) r.bytes) ahead ∙ ap (λ (w : List ℕ). front ++ w) rest;
      },
      long,
    )

pub compares : ComparesAllButHighest
compares = λ bytes r s is e. (cut bytes r s is e).0

-- what is compared begins with the length of the tag
tag_read : (bytes : List ℕ) (r : Request) (s : Sequence) → IsRequest bytes r → (c : IsCut bytes r s)
    → (rest : List ℕ) × (number_at (compared r) ≡ Some (length r.tag, rest))
tag_read bytes r s is c =
    let others = spelling.number r.minor ++ (spelling.number r.declared ++ (spelling.number 53
    ++ (spelling.fixed s.sessionid ++ (spelling.number s.sequenceid ++ (spelling.number s.slotid ++ c.behind))))) in
    let small : length r.tag < 2 ^ 32 = (let fits = is.head.tag_fits.0 in omega (arith, fits)) in (
      spelling.fixed r.tag ++ others,
      ap number_at (c.compares ∙ front_is r s c.behind ∙ append_assoc (spelling.number (length r.tag)) (spelling.fixed r.tag) others)
          ∙ is_number.again (length r.tag) (spelling.fixed r.tag ++ others) small,
    )

-- two lists that are joined of fronts of one length
same_parts : (xs ys zs ws : List ℕ) → length xs ≡ length zs → xs ++ ys ≡ zs ++ ws → (xs ≡ zs) × (ys ≡ ws)
same_parts xs ys zs ws long e = (
  sym (take_at xs ys (length zs) long) ∙ ap (take (length zs)) e ∙ take_at zs ws (length zs) refl,
  sym (drop_at xs ys (length zs) long) ∙ ap (drop (length zs)) e ∙ drop_at zs ws (length zs) refl,
)

pub differ_there : DifferThereAlone
differ_there = λ bytes bytes' r r' s s' is e is' e' same.
    let (c, long) = cut bytes r s is e in
    let (c', long') = cut bytes' r' s' is' e' in
    let (rest, reads) = tag_read bytes r s is c in
    let (rest', reads') = tag_read bytes' r' s' is' c' in
    let tag : length r.tag ≡ length r'.tag =
    ap (λ (x : ℕ × List ℕ). x.0) (same_Some (length r.tag, rest) (length r'.tag, rest') (sym reads ∙ ap number_at same ∙ reads')) in
    let at : highest_at r ≡ highest_at r' = ap (λ (n : ℕ). n + padding n + 40) tag in
    let parts = same_parts (before_highest r s).bytes c.behind (before_highest r' s').bytes c'.behind (long ∙ at ∙ sym long')
    (sym c.compares ∙ same ∙ c'.compares) in (
      (before_highest r s).bytes,
      c.behind,
      c.spelled,
      c'.spelled
          ∙ ap (λ (w : List ℕ). w ++ ((uint32 s'.highest_slotid).bytes ++ c'.behind)) (sym parts.0)
          ∙ ap (λ (w : List ℕ). (before_highest r s).bytes ++ ((uint32 s'.highest_slotid).bytes ++ w)) (sym parts.1),
    )
