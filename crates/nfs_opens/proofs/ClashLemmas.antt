-- What the counts of a file's opens tell of clashes (RFC 8881 section 9.7).
use Rattle.std.proofs.Common.{◌≡◌, inl, inr, ℕ, Bool, true, false, not, List, [], ◌∷◌, length, Some, None, refl, sym, ◌∙◌, ap}
use Rattle.std.proofs.lemmas.Bool.{cases_Bool, eq-eqb, ne_eqb, false≢true}
use Rattle.std.specs.{Prelude.{◌==◌, ◌&&◌, ◌||◌, find, nat_lt}, List.list_any}
use Rattle.nfs_xdr.specs.Tables.{In, record_at, without_record}
use Rattle.nfs_xdr.proofs.{Lists.{filter_both, find_in, none_in}, Tables.{in_once, at_of_in}}
use Rattle.nfs_opens.specs.{declared.records.OpenState.OpenState, Counts.{how_many, count_of, had, share_denied, without_one, reserved}, Share.meets}
use Rattle.nfs_opens.specs.{Table.{Table, Asked, is_owners, is_own, clashes_with}, TableInvariants.{IsTable, HasOneEach}}
use Rattle.nfs_opens.proofs.{CountLemmas.{many_any, many_same}, CountedLemmas.{same_count, count_without}, ShareLemmas.own_is, SingleLemmas.whose_is}

-- an open of the file that is asked for, by another owner
abbrev pub is_others : Asked → OpenState → Bool
is_others a o = (o.file == a.file) && not (is_owners a o)

abbrev number_of : OpenState → ℕ
number_of o = o.number

-- opens are counted by what is true of those there are
same_counted : (p q : OpenState → Bool) (xs : List OpenState) → ((o : OpenState) → In o xs → p o ≡ q o) → count_of p xs ≡ count_of q xs
same_counted p q xs same =
    let field : (one : OpenState → Bool) → how_many (λ o. p o && one o) xs ≡ how_many (λ o. q o && one o) xs =
    λ one. many_same (λ o. p o && one o) (λ o. q o && one o) xs (λ o there. ap (λ (b : Bool). b && one o) (same o there)) in
    same_count _ _ (many_same p q xs same) (field (λ o. o.access.reads)) (field (λ o. o.access.writes)) (field (λ o. o.deny.reads)) (field (λ o. o.deny.writes))

not_owned : (f o : Bool) → (f && o) ≡ false → (f && not o) ≡ f
not_owned true true e = absurd cc
not_owned true false e = refl
not_owned false o e = refl

-- an owner without an open of the file: all that are counted are others'
pub others_all : (a : Asked) (xs : List OpenState) → find (is_own a) xs ≡ None → count_of (λ o. o.file == a.file) xs ≡ count_of (is_others a) xs
others_all a xs none = same_counted (λ o. o.file == a.file) (is_others a) xs
    (λ o there. sym (not_owned (o.file == a.file) (is_owners a o) (none_in (is_own a) xs o none there)))

and_true : (b : Bool) → (b && true) ≡ b
and_true true = refl
and_true false = refl

and_last : (p : OpenState → Bool) (xs : List OpenState) → how_many p xs ≡ how_many (λ o. p o && true) xs
and_last p xs = many_same p (λ o. p o && true) xs (λ o there. sym (and_true (p o)))

others_but : (f o n b : Bool) → (f && o) ≡ n → ((f && not o) && b) ≡ (not n && (f && b))
others_but true true n b e = rw (sym e) refl
others_but true false n b e = rw (sym e) refl
others_but false o n b e = rw (sym e) refl

-- an open of the asking owner is one less than all
pub others_less : (a : Asked) (t : Table) (own : OpenState) → IsTable t → HasOneEach t.opens → find (is_own a) t.opens ≡ Some own
    → without_one (reserved own) (count_of (λ o. o.file == a.file) t.opens) ≡ count_of (is_others a) t.opens
others_less a t own is one found =
    let xs = t.opens in
    let (there, owned) = find_in (is_own a) xs own found in
    let at : record_at number_of xs own.number ≡ Some own = at_of_in number_of 1 _ xs own is.opens there in
    let mine = own_is a own owned in
    let of_file : (own.file == a.file) ≡ true = eq-eqb own.file a.file mine.0 in
    let alone : (x : OpenState) → In x xs → is_own a x ≡ (x.number == own.number) =
    λ x in_x. elim (cases_Bool (is_own a x)) [
      | inl mine_too ↦
          (let theirs = own_is a x mine_too in
          let same : x ≡ own = one x own in_x there (whose_is x own (theirs.0 ∙ sym mine.0) (theirs.1 ∙ sym mine.1) (theirs.2 ∙ sym mine.2)) in
          mine_too ∙ sym (eq-eqb x.number own.number (ap number_of same)))
      | inr theirs_not ↦ theirs_not ∙ sym (ne_eqb x.number own.number (λ e.
          false≢true (sym theirs_not ∙ (ap (is_own a) (in_once number_of 1 _ xs x own is.opens in_x there e) ∙ owned))))
    ] in
    let field : (bit : OpenState → Bool) → how_many (λ o. (o.file == a.file) && bit o) (without_record number_of xs own.number)
    ≡ how_many (λ o. is_others a o && bit o) xs =
    λ bit. ap length (filter_both (λ o. (o.file == a.file) && bit o) (λ o. not (o.number == own.number)) _ (λ o. refl) xs)
    ∙ sym (many_same (λ o. is_others a o && bit o) (λ o. not (o.number == own.number) && ((o.file == a.file) && bit o)) xs
    (λ x in_x. others_but (x.file == a.file) (is_owners a x) (x.number == own.number) (bit x) (alone x in_x))) in
    let all = field (λ o. true) in
    let less = count_without (λ o. o.file == a.file) own.number 1 _ xs own is.opens at in
    sym (rw of_file at less) ∙ same_count _ _
    (and_last (λ o. o.file == a.file) (without_record number_of xs own.number) ∙ (all ∙ sym (and_last (is_others a) xs)))
    (field (λ o. o.access.reads)) (field (λ o. o.access.writes)) (field (λ o. o.deny.reads)) (field (λ o. o.deny.writes))

--- CLASHES

swap : (p q r s : Bool) → ((p || q) || (r || s)) ≡ ((p || r) || (q || s))
swap true q r s = refl
swap false true true s = refl
swap false true false s = refl
swap false false true s = refl
swap false false false s = refl

module _ {X : Type 0} where
  any_same : (p q : X → Bool) (xs : List X) → ((x : X) → p x ≡ q x) → list_any p xs ≡ list_any q xs
  any_same p q [] same = refl
  any_same p q (x ∷ xs) same = rw (same x, any_same p q xs same) refl

  any_or : (p q : X → Bool) (xs : List X) → list_any (λ x. p x || q x) xs ≡ (list_any p xs || list_any q xs)
  any_or p q [] = refl
  any_or p q (x ∷ xs) = ap (λ b. (p x || q x) || b) (any_or p q xs) ∙ swap (p x) (q x) (list_any p xs) (list_any q xs)

  any_where : (c : Bool) (p : X → Bool) (xs : List X) → list_any (λ x. c && p x) xs ≡ (c && list_any p xs)
  any_where true p xs = refl
  any_where false p [] = refl
  any_where false p (x ∷ xs) = any_where false p xs

and_false : (b : Bool) → (b && false) ≡ false
and_false true = refl
and_false false = refl

spread : (f o ar aw dr dw r w br bw : Bool)
    → (f && (not o && (((ar && br) || (aw && bw)) || ((dr && r) || (dw && w)))))
    ≡ (((ar && ((f && not o) && br)) || (aw && ((f && not o) && bw))) || ((dr && ((f && not o) && r)) || (dw && ((f && not o) && w))))
spread true false ar aw dr dw r w br bw = refl
spread true true ar aw dr dw r w br bw = rw (and_false ar, and_false aw, and_false dr, and_false dw) refl
spread false o ar aw dr dw r w br bw = rw (and_false ar, and_false aw, and_false dr, and_false dw) refl

both : {p q r s : Bool} → p ≡ q → r ≡ s → (p || r) ≡ (q || s)
both {p} {q} {r} {s} e f = ap (λ (b : Bool). b || r) e ∙ ap (λ (b : Bool). q || b) f

-- A clash is one with what some open of another owner denies, or has.
pub clash_counted : (a : Asked) (xs : List OpenState)
    → (meets a.access (share_denied (count_of (is_others a) xs)) || meets a.deny (had (count_of (is_others a) xs))) ≡ list_any (clashes_with a) xs
clash_counted a xs =
    let P : Bool → (OpenState → Bool) → OpenState → Bool = λ asks one o. asks && (is_others a o && one o) in
    let br : OpenState → Bool = λ o. o.deny.reads in
    let bw : OpenState → Bool = λ o. o.deny.writes in
    let r : OpenState → Bool = λ o. o.access.reads in
    let w : OpenState → Bool = λ o. o.access.writes in
    let part : (asks : Bool) (one : OpenState → Bool) → list_any (P asks one) xs ≡ (asks && nat_lt 0 (how_many (λ o. is_others a o && one o) xs)) =
    λ asks one. any_where asks (λ o. is_others a o && one o) xs ∙ ap (λ (b : Bool). asks && b) (sym (many_any (λ o. is_others a o && one o) xs)) in
    let first = any_or (P a.access.reads br) (P a.access.writes bw) xs in
    let second = any_or (P a.deny.reads r) (P a.deny.writes w) xs in
    sym (any_same (clashes_with a) (λ o. (P a.access.reads br o || P a.access.writes bw o) || (P a.deny.reads r o || P a.deny.writes w o)) xs
    (λ o. spread (o.file == a.file) (is_owners a o) a.access.reads a.access.writes a.deny.reads a.deny.writes o.access.reads o.access.writes o.deny.reads o.deny.writes)
    ∙ (any_or (λ o. P a.access.reads br o || P a.access.writes bw o) (λ o. P a.deny.reads r o || P a.deny.writes w o) xs
    ∙ (ap (λ (b : Bool). b || list_any (λ o. P a.deny.reads r o || P a.deny.writes w o) xs) (first ∙ both (part a.access.reads br) (part a.access.writes bw))
    ∙ ap (λ (b : Bool). meets a.access (share_denied (count_of (is_others a) xs)) || b) (second ∙ both (part a.deny.reads r) (part a.deny.writes w)))))
