-- What a reply says of the first operation of its compound: its number and its status stand behind the tag, whatever the tag's bytes are.
use Rattle.std.proofs.Common.{◌≡◌, ℕ, ◌+◌, ◌<◌, ◌≤◌, ◌^◌, Bool, true, false, inl, inr, cond, eqb, List, [], ◌++◌, length, take, drop, replicate, Option, Some, None, refl, sym, ◌∙◌, ap, append_assoc, arith}
use Rattle.std.proofs.lemmas.{Bool.{cases_Bool, ltb-false}, List.{append-nil, take_at, drop_at, length-append, length-take, length-replicate}}
use Rattle.std.proofs.lemmas.Option.{same_Some}
use Rattle.std.specs.{Prelude.{nat_lt}, Int.{w32, from_be_bytes}}
use Rattle.nfs_xdr.specs.{Spelling.{number, opaque, fixed, padding}, Reading.{number_at, fixed_at, opaque_at, all_zero}, Status.status_number, declared.status.Status.Status}
use Rattle.nfs_xdr.specs.Text.{Begins, void}
use Rattle.nfs_xdr.proofs.{CodecLaws.bind_some, Putting.length_number, StatusLaws.is_status_listing}
use Rattle.nfs_compound.specs.{Request.Request, ReadRequest.{request_at, items_at}}
use Rattle.nfs_results.specs.Wire.{text_of, ends}
use Rattle.nfs_rpc.specs.{Reply.spell_head}
use Rattle.nfs_promises.specs.Network.{Endpoint.Answer, ThisServer.{accepted_reply, IsAnswer, front}}
use Rattle.nfs_promises.proofs.Network.RepliesSpelled.{joined}
use Rattle.nfs_files.proofs.WrittenOps.{number_back}
use Rattle.nfs_rpc.proofs.Lengths.{length_head}

-- the eight bytes behind the tag and the count
abbrev pub first_said : List ℕ → List ℕ
first_said text = let n = from_be_bytes w32 (take 4 (drop 4 text)) in take 8 (drop (12 + n + padding n) text)

module _ (status count : ℕ) (tag : List ℕ) (small : length tag < 2 ^ 32) where
  head : List ℕ
  head = number status ++ (opaque tag ++ number count)

  tag_length : (ys : List ℕ) → from_be_bytes w32 (take 4 (drop 4 (head ++ ys))) ≡ length tag
  unfolding head
  tag_length ys =
      let n = number (length tag) in
      let behind = fixed tag ++ (number count ++ ys) in
      ap (λ (w : List ℕ). from_be_bytes w32 (take 4 (drop 4 w))) (append_assoc (number status) (opaque tag ++ number count) ys)
      ∙ (ap (λ (w : List ℕ). from_be_bytes w32 (take 4 w)) (drop_at (number status) ((opaque tag ++ number count) ++ ys) 4 (length_number status)
      ∙ (append_assoc (opaque tag) (number count) ys ∙ append_assoc n (fixed tag) (number count ++ ys)))
      ∙ (ap (from_be_bytes w32) (take_at n behind 4 (length_number (length tag))) ∙ number_back (length tag) small))

  head_length : length head ≡ 12 + length tag + padding (length tag)
  unfolding head
  head_length = omega (
    arith,
    length-append (number status) (opaque tag ++ number count),
    length-append (opaque tag) (number count),
    length-append (number (length tag)) (fixed tag),
    length-append tag (replicate (padding (length tag)) 0),
    length-replicate {A = ℕ} (padding (length tag)) 0,
    length_number status,
    length_number count,
    length_number (length tag),
  )

  past_head : (ys : List ℕ) → first_said (head ++ ys) ≡ take 8 ys
  past_head ys =
      ap (λ n. take 8 (drop (12 + n + padding n) (head ++ ys))) (tag_length ys)
      ∙ ap (take 8) (drop_at head ys (12 + length tag + padding (length tag)) head_length)

  pub first_there : (op f : ℕ) (rest : List ℕ)
      → first_said ((number status ++ (opaque tag ++ number count)) ++ ((number op ++ number f) ++ rest)) ≡ number op ++ number f
  unfolding head
  first_there op f rest =
      past_head ((number op ++ number f) ++ rest)
      ∙ take_at (number op ++ number f) rest 8 (omega (arith, length-append (number op) (number f), length_number op, length_number f))

  pub none_there : first_said ((number status ++ (opaque tag ++ number count)) ++ []) ≡ []
  unfolding head
  none_there = past_head []

-- the status is read
pub same_status : (op : ℕ) (a b : Status) → number op ++ number (status_number a) ≡ number op ++ number (status_number b) → status_number a ≡ status_number b
same_status op a b e =
    let x = number (status_number a) in
    let y = number (status_number b) in
    sym (number_back (status_number a) (is_status_listing.small a))
    ∙ (ap (from_be_bytes w32) (sym (drop_at (number op) x 4 (length_number op)) ∙ (ap (drop 4) e ∙ drop_at (number op) y 4 (length_number op)))
    ∙ number_back (status_number b) (is_status_listing.small b))

-- A tag that was read is short.

fixed_length : (n : ℕ) (bytes xs rest : List ℕ) → fixed_at n bytes ≡ Some (xs, rest) → length xs ≤ n
unfolding fixed_at
fixed_length n bytes xs rest e = go (nat_lt (length bytes) (n + padding n)) (all_zero (take (padding n) (drop n bytes))) e
  where
    go : (short zeros : Bool) → cond {A = Option (List ℕ × List ℕ)} short None (cond zeros (Some (take n bytes, drop (n + padding n) bytes)) None) ≡ Some (xs, rest) → length xs ≤ n
    go true zeros e = absurd cc
    go false true e = omega (arith, ap length (ap (λ (x : List ℕ × List ℕ). x.0) (same_Some (take n bytes, drop (n + padding n) bytes) (xs, rest) e)), length-take n bytes)
    go false false e = absurd cc

opaque_length : (limit : ℕ) (bytes xs rest : List ℕ) → opaque_at limit bytes ≡ Some (xs, rest) → length xs ≤ limit
unfolding opaque_at
opaque_length limit bytes xs rest e =
    let a = bind_some (number_at bytes) (λ n. cond (nat_lt limit n.0) None (fixed_at n.0 n.1)) (xs, rest) e in
    elim (cases_Bool (nat_lt limit a.0.0)) [
      | inl over ↦ absurd (let none : None ≡ Some (xs, rest) = rw over at a.2 in cc)
      | inr within ↦ omega (arith, fixed_length a.0.0 a.0.1 xs rest (rw within at a.2), ltb-false limit a.0.0 within)
    ]

pub tag_short : (bytes : List ℕ) (r : Request) → request_at bytes ≡ Some r → length r.tag < 2 ^ 32
unfolding request_at
tag_short bytes r e =
    let a = bind_some (opaque_at 1024 bytes) _ r e in
    let b = bind_some (number_at a.0.1) _ r a.2 in
    let c = bind_some (number_at b.0.1) _ r b.2 in
    let d = bind_some (cond (eqb b.0.0 1) (items_at c.0.0 c.0.1) (Some [])) _ r c.2 in
    let same : a.0.0 ≡ r.tag = ap (λ (r : Request). r.tag) (same_Some (record { bytes = bytes; tag = a.0.0; minor = b.0.0; declared = c.0.0; left = d.0 }) r d.2) in
    omega (arith, ap length same, opaque_length 1024 bytes a.0.0 a.0.1 a.1)

-- What a reply says that has the head of an accepted one.

pub head_is : (xid : ℕ) → (accepted_reply xid).bytes ≡ spell_head xid
unfolding spell_head number
head_is xid = refl

pub one_result : (reply : List ℕ) (xid : ℕ) (text : List ℕ) (a : Answer) → reply ≡ spell_head xid ++ text → IsAnswer reply a → a.result ≡ text
one_result reply xid text a sent is =
    sym (drop_at (spell_head a.xid) a.result 24 (length_head a.xid))
    ∙ (ap (drop 24) (ap (λ (w : List ℕ). w ++ a.result) (sym (head_is a.xid)) ∙ (sym is.0 ∙ sent))
    ∙ drop_at (spell_head xid) text 24 (length_head xid))

pub begins_so : (n : ℕ) (status : Status) (text : List ℕ) → Begins (front (text_of (ends n status void))) text → first_said text ≡ number n ++ number (status_number status)
begins_so n status text is =
    let (s, (tag, count)) = is.value in
    let A = number s in
    let B = opaque tag in
    let C = number count in
    let F = number (status_number status) in
    ap first_said (is.stands
    ∙ (ap (λ (w : List ℕ). (A ++ (B ++ (C ++ (number n ++ w)))) ++ is.rest) (append-nil F) ∙ sym (joined A B C (number n ++ F) is.rest)))
    ∙ first_there s count tag (omega (arith, is.fits.1.0.0)) n (status_number status) is.rest
