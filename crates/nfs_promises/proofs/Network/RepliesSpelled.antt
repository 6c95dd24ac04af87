-- What a caller reads of the server's replies.
use Rattle.std.proofs.Common.{◌≡◌, ℕ, ◌<◌, ◌^◌, false, List, [], ◌++◌, Some, None, refl, sym, ◌∙◌, ap, append_assoc, arith}
use Rattle.std.specs.Prelude.{◌==◌, ◌&&◌}
use Rattle.nfs_xdr.specs.Spelling as spelling
use Rattle.nfs_xdr.specs.{Limits.opaque_limit, Codec.{number, opaque}, Lawful.IsCodec, declared.status.Status.Status, Status.status_number}
use Rattle.nfs_xdr.proofs.CodecLaws.{is_number, is_opaque, is_then}
use Rattle.nfs_rpc.specs.{declared.refusal.Refusal.Refusal, declared.refusal.Refusal.TheVariants.Accept}
use Rattle.nfs_rpc.specs.{declared.refusal.AcceptStat.TheVariants.ProgUnavail, Reply.{spell_head, spell_refusal}}
use Rattle.nfs_promises.proofs.Network.ReplyReading.{head, by_head, answer_in, front, by_front, sequenced}

-- The head of a reply.

is_head : IsCodec head
is_head = is_then number _ is_number (is_then number _ is_number (is_then number _ is_number (is_then number _ is_number (is_then number number is_number is_number))))

five : (a b c d e f r : List ℕ) → ((a ++ (b ++ (c ++ (d ++ e)))) ++ f) ++ r ≡ (a ++ (b ++ (c ++ (d ++ (e ++ f))))) ++ r
five a b c d e f r =
    ap (λ (w : List ℕ). w ++ r) (append_assoc a (b ++ (c ++ (d ++ e))) f
    ∙ ap (λ (w : List ℕ). a ++ w) (append_assoc b (c ++ (d ++ e)) f
    ∙ ap (λ (w : List ℕ). b ++ w) (append_assoc c (d ++ e) f ∙ ap (λ (w : List ℕ). c ++ w) (append_assoc d e f))))

pub answer_spelled : (xid : ℕ) (result : List ℕ) → xid < 2 ^ 32 → answer_in (spell_head xid ++ result) ≡ Some (record { xid = xid; result = result })
unfolding spell_head
answer_spelled xid result small =
    ap answer_in (five (spelling.number xid) (spelling.number 1) (spelling.number 0) (spelling.number 0) (spelling.number 0) (spelling.number 0) result)
    ∙ ap by_head (is_head.again (xid, (1, (0, (0, (0, 0))))) result (small, (omega arith, (omega arith, (omega arith, (omega arith, omega arith))))))

-- a refusal is no success
pub refusal_spelled : (refusal : Refusal) → answer_in (spell_refusal refusal) ≡ None
unfolding spell_refusal spelling.number
refusal_spelled (Accept xid ProgUnavail) = refl
refusal_spelled (Accept xid stat) = refl
refusal_spelled refusal = refl

-- The front of a result.

pub is_front : IsCodec front
is_front = is_then number _ is_number (is_then (opaque opaque_limit) _ (is_opaque 1024 (omega arith)) (is_then number _ is_number (is_then number number is_number is_number)))

pub joined : (a b c d r : List ℕ) → (a ++ (b ++ c)) ++ (d ++ r) ≡ (a ++ (b ++ (c ++ d))) ++ r
joined a b c d r =
    sym (append_assoc (a ++ (b ++ c)) d r)
    ∙ ap (λ (w : List ℕ). w ++ r) (append_assoc a (b ++ c) d ∙ ap (λ (w : List ℕ). a ++ w) (append_assoc b c d))

pub front_spelled : (status count op first : ℕ) (tag rest : List ℕ) → status < 2 ^ 32 → count < 2 ^ 32 → op < 2 ^ 32 → first < 2 ^ 32
    → (opaque opaque_limit).Fits tag
    → sequenced ((spelling.number status ++ (spelling.opaque tag ++ spelling.number count)) ++ ((spelling.number op ++ spelling.number first) ++ rest))
    ≡ ((op == 53) && (first == 0))
front_spelled status count op first tag rest s c o f fits =
    ap sequenced (joined (spelling.number status) (spelling.opaque tag) (spelling.number count) (spelling.number op ++ spelling.number first) rest)
    ∙ ap by_front (is_front.again (status, (tag, (count, (op, first)))) rest (s, (fits, (c, (o, f)))))

pub bare_spelled : (status count : ℕ) (tag : List ℕ) → status < 2 ^ 32 → count < 2 ^ 32 → (opaque opaque_limit).Fits tag
    → sequenced ((spelling.number status ++ (spelling.opaque tag ++ spelling.number count)) ++ []) ≡ false
bare_spelled status count tag s c fits =
    let A = spelling.number status in
    let B = spelling.opaque tag in
    let C = spelling.number count in
    let assoc : (A ++ (B ++ C)) ++ [] ≡ A ++ (B ++ (C ++ [])) = append_assoc A (B ++ C) [] ∙ ap (λ (w : List ℕ). A ++ w) (append_assoc B C []) in
    ap sequenced assoc
    ∙ rw (
      is_number.again status (B ++ (C ++ [])) s,
      (is_opaque opaque_limit (omega arith)).again tag (C ++ []) fits,
      is_number.again count [] c,
    ) refl

-- The front of a result, of one that is no good SEQUENCE.

-- a status that is not NFS4_OK
abbrev pub IsBad : Status → Type 0
IsBad s = (status_number s == 0) ≡ false

pub record IsMute (text : List ℕ) : Type 0 where
  pub op : ℕ
  pub first : ℕ
  pub rest : List ℕ
  pub spelled : text ≡ (spelling.number op ++ spelling.number first) ++ rest
  pub op_small : op < 2 ^ 32
  pub first_small : first < 2 ^ 32
  pub other : ((op == 53) && (first == 0)) ≡ false

pub mute_spelled : (status count : ℕ) (tag text : List ℕ) → status < 2 ^ 32 → count < 2 ^ 32 → (opaque opaque_limit).Fits tag → IsMute text
    → sequenced ((spelling.number status ++ (spelling.opaque tag ++ spelling.number count)) ++ text) ≡ false
mute_spelled status count tag text s c fits mute =
    ap (λ (w : List ℕ). sequenced ((spelling.number status ++ (spelling.opaque tag ++ spelling.number count)) ++ w)) mute.spelled
    ∙ (front_spelled status count mute.op mute.first tag mute.rest s c mute.op_small mute.first_small fits ∙ mute.other)
