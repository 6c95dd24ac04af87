-- Bytes are read as a request exactly where they are one, and refused exactly where they are garbage.
use Rattle.std.proofs.Common.{◌≡◌, ◌⊎◌, ℕ, zero, suc, ◌≤◌, ◌<◌, ◌^◌, eqb, cond, List, [], ◌++◌, length, Option, Some, None, Result, Ok, Err, refl, sym, ap}
use Rattle.std.proofs.{Common.{subst, ◌∙◌, inl, inr, arith}, lemmas.Bool.ne_eqb, lemmas.Option.same_Some}
use Rattle.std.specs.Prelude.{IfOk, OnErr, MatchResult}
use Rattle.nfs_xdr.specs.Spelling as spelling
use Rattle.nfs_xdr.specs.{Reading.{◌>>=◌, number_at, opaque_at}, Codec.opaque, Lawful.IsCodec, Text.{IsBytes, uint32}}
use Rattle.nfs_xdr.proofs.CodecLaws.{bind_some, is_number, is_opaque}
use Rattle.nfs_compound.specs.{declared.compound.Garbage.Garbage, declared.op.Item.Item}
use Rattle.nfs_compound.specs.Request.{Request, IsHead, HasBody, IsRequest, IsGarbage, LacksTag, LacksMinor, LacksCount, SpoilsBody}
use Rattle.nfs_compound.specs.ReadRequest.{items_at, request_at}
use Rattle.nfs_xdr.specs.Text as text
use Rattle.nfs_compound.proofs.{Walk.request_from, GrammarLaws.{none≢some, lacks_from, lacks_again, lists_from, lists_again, spoils_from, spoils_again}}

is_tag : IsCodec (opaque 1024)
is_tag = is_opaque 1024 (omega arith)

-- a tag that was read has at most 1,024 bytes
pub tag_bound : (bytes front tag rest : List ℕ) → IsBytes bytes → front ≡ bytes → opaque_at 1024 front ≡ Some (tag, rest) → length tag ≤ 1024
tag_bound bytes front tag rest fits same e = let t = is_tag.takes bytes tag rest fits (ap (opaque_at 1024) (sym same) ∙ e) in t.2.0

body_from : (minor declared : ℕ) (body : List ℕ) (items : List Item) → IsBytes body
    → cond (eqb minor 1) (items_at declared body) (Some []) ≡ Some items → HasBody minor declared body items
body_from zero declared body items fits e = sym (same_Some [] items e)
body_from (suc zero) declared body items fits e = lists_from declared body items fits e
body_from (suc (suc m)) declared body items fits e =
    sym (same_Some [] items (ap (λ b. cond b (items_at declared body) (Some [])) (sym (ne_eqb (suc (suc m)) 1 (omega arith))) ∙ e))

body_again : (minor declared : ℕ) (body : List ℕ) (items : List Item) → IsBytes body
    → HasBody minor declared body items → cond (eqb minor 1) (items_at declared body) (Some []) ≡ Some items
body_again zero declared body items fits h = rw h refl
body_again (suc zero) declared body items fits h = lists_again declared body items fits h
body_again (suc (suc m)) declared body items fits h = rw (ne_eqb (suc (suc m)) 1 (omega arith), h) refl

pub request_takes : (bytes : List ℕ) (r : Request) → IsBytes bytes → request_at bytes ≡ Some r → IsRequest bytes r
unfolding request_at
request_takes bytes r fits e =
    let a = bind_some (opaque_at 1024 bytes) _ r e in
    let b = bind_some (number_at a.0.1) _ r a.2 in
    let c = bind_some (number_at b.0.1) _ r b.2 in
    let d = bind_some (cond (eqb b.0.0 1) (items_at c.0.0 c.0.1) (Some [])) _ r c.2 in
    let t = is_tag.takes bytes a.0.0 a.0.1 fits a.1 in
    let u = is_number.takes a.0.1 b.0.0 b.0.1 t.1 b.1 in
    let v = is_number.takes b.0.1 c.0.0 c.0.1 u.1 c.1 in
    subst (λ (q : Request). IsRequest bytes q) (same_Some (record { bytes = bytes; tag = a.0.0; minor = b.0.0; declared = c.0.0; left = d.0 }) r d.2) (record {
      whole = refl;
      body = c.0.1;
      head = record {
        spelled = t.0 ∙ ap (λ (w : List ℕ). spelling.opaque a.0.0 ++ w) (u.0 ∙ ap (λ (w : List ℕ). spelling.number b.0.0 ++ w) v.0);
        tag_fits = t.2;
        minor_fits = u.2;
        declared_fits = v.2;
      };
      items = body_from b.0.0 c.0.0 c.0.1 d.0 v.1 d.1;
    })

-- what is read of a head, and that the body is of bytes
record Heads (bytes tag : List ℕ) (minor declared : ℕ) (body rest rest' : List ℕ) : Type 0 where
  reads_tag : opaque_at 1024 bytes ≡ Some (tag, rest)
  reads_minor : number_at rest ≡ Some (minor, rest')
  reads_declared : number_at rest' ≡ Some (declared, body)
  fits : IsBytes body

head_again : (bytes tag : List ℕ) (minor declared : ℕ) (body : List ℕ) → IsBytes bytes → IsHead bytes tag minor declared body
    → Heads bytes tag minor declared body (spelling.number minor ++ (spelling.number declared ++ body)) (spelling.number declared ++ body)
head_again bytes tag minor declared body fits h =
    let rest : List ℕ = spelling.number minor ++ (spelling.number declared ++ body) in
    let e1 : opaque_at 1024 bytes ≡ Some (tag, rest) = ap (opaque_at 1024) h.spelled ∙ is_tag.again tag rest h.tag_fits in
    let t = is_tag.takes bytes tag rest fits e1 in
    let e2 = is_number.again minor (spelling.number declared ++ body) h.minor_fits in
    let u = is_number.takes rest minor (spelling.number declared ++ body) t.1 e2 in
    let e3 = is_number.again declared body h.declared_fits in
    let v = is_number.takes (spelling.number declared ++ body) declared body u.1 e3 in
    record { reads_tag = e1; reads_minor = e2; reads_declared = e3; fits = v.1 }

pub request_again : (bytes : List ℕ) (r : Request) → IsBytes bytes → IsRequest bytes r → request_at bytes ≡ Some r
request_again bytes r fits h =
    let s = head_again bytes r.tag r.minor r.declared h.body fits h.head in
    request_from bytes bytes r.tag _ _ h.body r.minor r.declared r.left refl s.reads_tag s.reads_minor s.reads_declared
    (body_again r.minor r.declared h.body r.left s.fits h.items)
    ∙ ap (λ (b : List ℕ). Some (record { bytes = b; tag = r.tag; minor = r.minor; declared = r.declared; left = r.left })) (sym h.whole)

-- Garbage, by the first item that cannot be read.

abbrev with_items : (bytes : List ℕ) → List ℕ → ℕ → ℕ → Option (List Item) → Option Request
with_items bytes tag minor declared items = items >>= λ xs. Some (record { bytes = bytes; tag = tag; minor = minor; declared = declared; left = xs })

abbrev with_count : (bytes : List ℕ) → List ℕ → ℕ → Option (ℕ × List ℕ) → Option Request
with_count bytes tag minor r = r >>= λ declared. with_items bytes tag minor declared.0 (cond (eqb minor 1) (items_at declared.0 declared.1) (Some []))

abbrev with_minor : (bytes : List ℕ) → List ℕ → Option (ℕ × List ℕ) → Option Request
with_minor bytes tag r = r >>= λ minor. with_count bytes tag minor.0 (number_at minor.1)

no_items : (bytes tag : List ℕ) (minor declared : ℕ) (body : List ℕ) → IsBytes body → IsHead bytes tag minor declared body
    → with_items bytes tag minor declared (cond (eqb minor 1) (items_at declared body) (Some [])) ≡ None → IsGarbage bytes
no_items bytes tag zero declared body fits head e =
    absurd (none≢some (record { bytes = bytes; tag = tag; minor = zero; declared = declared; left = [] }) (sym e))
no_items bytes tag (suc zero) declared body fits head e = SpoilsBody tag declared body head (spoils_from declared body fits (lost (items_at declared body) e))
  where
    lost : (r : Option (List Item)) → with_items bytes tag 1 declared r ≡ None → r ≡ None
    lost None e = refl
    lost (Some xs) e = absurd (none≢some (record { bytes = bytes; tag = tag; minor = 1; declared = declared; left = xs }) (sym e))
no_items bytes tag (suc (suc m)) declared body fits head e =
    absurd (none≢some (record { bytes = bytes; tag = tag; minor = suc (suc m); declared = declared; left = [] })
    (sym e ∙ rw (ne_eqb (suc (suc m)) 1 (omega arith)) refl))

no_count : (bytes tag : List ℕ) (minor : ℕ) (rest : List ℕ) (r : Option (ℕ × List ℕ)) → IsBytes rest → (opaque 1024).Fits tag → minor < 2 ^ 32
    → bytes ≡ spelling.opaque tag ++ (spelling.number minor ++ rest) → number_at rest ≡ r → with_count bytes tag minor r ≡ None → IsGarbage bytes
no_count bytes tag minor rest None fits tag_fits minor_fits same h e = LacksCount tag minor rest tag_fits minor_fits same (lacks_from uint32 number_at rest is_number h)
no_count bytes tag minor rest (Some n) fits tag_fits minor_fits same h e =
    let v = is_number.takes rest n.0 n.1 fits h in
    no_items bytes tag minor n.0 n.1 v.1
    (record {
      spelled = same ∙ ap (λ (w : List ℕ). spelling.opaque tag ++ (spelling.number minor ++ w)) v.0;
      tag_fits = tag_fits;
      minor_fits = minor_fits;
      declared_fits = v.2;
    })
    e

no_minor : (bytes tag rest : List ℕ) (r : Option (ℕ × List ℕ)) → IsBytes rest → (opaque 1024).Fits tag
    → bytes ≡ spelling.opaque tag ++ rest → number_at rest ≡ r → with_minor bytes tag r ≡ None → IsGarbage bytes
no_minor bytes tag rest None fits tag_fits same h e = LacksMinor tag rest tag_fits same (lacks_from uint32 number_at rest is_number h)
no_minor bytes tag rest (Some n) fits tag_fits same h e =
    let u = is_number.takes rest n.0 n.1 fits h in
    no_count bytes tag n.0 n.1 (number_at n.1) u.1 tag_fits u.2 (same ∙ ap (λ (w : List ℕ). spelling.opaque tag ++ w) u.0) refl e

no_tag : (bytes : List ℕ) (r : Option (List ℕ × List ℕ)) → IsBytes bytes → opaque_at 1024 bytes ≡ r
    → (r >>= λ tag. with_minor bytes tag.0 (number_at tag.1)) ≡ None → IsGarbage bytes
no_tag bytes None fits h e = LacksTag (lacks_from (text.opaque 1024) (opaque_at 1024) bytes is_tag h)
no_tag bytes (Some t) fits h e =
    let s = is_tag.takes bytes t.0 t.1 fits h in
    no_minor bytes t.0 t.1 (number_at t.1) s.1 s.2 s.0 refl e

pub garbage_takes : (bytes : List ℕ) → IsBytes bytes → request_at bytes ≡ None → IsGarbage bytes
unfolding request_at
garbage_takes bytes fits e = no_tag bytes (opaque_at 1024 bytes) fits refl e

pub garbage_again : (bytes : List ℕ) → IsBytes bytes → IsGarbage bytes → request_at bytes ≡ None
unfolding request_at
garbage_again bytes fits (LacksTag lacks) = rw (lacks_again (text.opaque 1024) (opaque_at 1024) bytes is_tag fits lacks) refl
garbage_again bytes fits (LacksMinor tag rest tag_fits same lacks) =
    let e : opaque_at 1024 bytes ≡ Some (tag, rest) = ap (opaque_at 1024) same ∙ is_tag.again tag rest tag_fits in
    let t = is_tag.takes bytes tag rest fits e in
    rw (e, lacks_again uint32 number_at rest is_number t.1 lacks) refl
garbage_again bytes fits (LacksCount tag minor rest tag_fits minor_fits same lacks) =
    let e : opaque_at 1024 bytes ≡ Some (tag, spelling.number minor ++ rest) =
    ap (opaque_at 1024) same ∙ is_tag.again tag (spelling.number minor ++ rest) tag_fits in
    let t = is_tag.takes bytes tag (spelling.number minor ++ rest) fits e in
    let f = is_number.again minor rest minor_fits in
    let u = is_number.takes (spelling.number minor ++ rest) minor rest t.1 f in
    rw (e, f, lacks_again uint32 number_at rest is_number u.1 lacks) refl
garbage_again bytes fits (SpoilsBody tag declared body head spoils) =
    let s = head_again bytes tag 1 declared body fits head in
    rw (s.reads_tag, s.reads_minor, s.reads_declared, spoils_again declared body s.fits spoils) refl

-- what a call that read all once promises
pub is_request : (bytes : List ℕ) (r : Result Request Garbage) → IsBytes bytes
    → MatchResult r (λ c. request_at bytes ≡ Some c) (λ _. request_at bytes ≡ None) → IfOk r (λ c. IsRequest bytes c)
is_request bytes (Ok c) fits e = request_takes bytes c fits e
is_request bytes (Err g) fits e = tt

pub is_garbage : (bytes : List ℕ) (r : Result Request Garbage) → IsBytes bytes
    → MatchResult r (λ c. request_at bytes ≡ Some c) (λ _. request_at bytes ≡ None) → OnErr r (IsGarbage bytes)
is_garbage bytes (Ok c) fits e = tt
is_garbage bytes (Err g) fits e = garbage_takes bytes fits e

-- each list of bytes has one reading
pub one_reading : (bytes : List ℕ) (r : Option Request) → IsBytes bytes → request_at bytes ≡ r → ((q : Request) × IsRequest bytes q) ⊎ IsGarbage bytes
one_reading bytes None fits e = inr (garbage_takes bytes fits e)
one_reading bytes (Some r) fits e = inl (r, request_takes bytes r fits e)
