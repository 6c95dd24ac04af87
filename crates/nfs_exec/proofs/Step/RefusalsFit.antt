-- Refusals are results that a reply can bear, of no more than their largest size.
use Rattle.std.proofs.Common.{◌≡◌, ℕ, ◌+◌, ◌≤◌, zero, suc, Bool, true, false, eqb, leb, ltb, cond, ◌&&◌, ◌||◌, List, [], ◌∷◌, Option, Some, None, Result, Ok, Err, refl, sym, ◌∙◌, ap}
use Rattle.std.proofs.{Common.{subst, arith, inl, inr, length}, lemmas.Bool.{cases_Bool, and_right, le-leb, leb-true, eqb-true, ne_eqb, and_parts}}
use Rattle.std.proofs.lemmas.List.{length-append, append-nil}
use Rattle.std.specs.Prelude.{IsTrue, not, is_some}
use Rattle.nfs_xdr.specs.declared.status.Status.{Status}
use Rattle.nfs_xdr.specs.declared.status.Status.TheVariants.{NotSupp, Inval, BadXdr, NotOnlyOp, OpNotInSession, SequencePos, RepTooBig, BadSession}
use Rattle.nfs_xdr.specs.{declared.status.Status.TheVariants.{StaleClientId, ClientIdBusy, NoEnt, NotSame, Perm, ClidInUse, ServerFault, Delay}, Status.status_number, Spelling.number, Tables.In}
use Rattle.nfs_xdr.specs.Combinators.{listed_at}
use Rattle.nfs_compound.specs.{declared.op_num.OpNum.OpNum, declared.op_num.OpNum.TheVariants.ExchangeId, OpNum.{op_number, op_nums, op_num}, declared.op.Op.Op}
use Rattle.nfs_compound.specs.{declared.op.Item.Item, declared.op.Item.TheVariants.{Operation, Fault}, Arguments.arguments, OpCodec.{flaw, fault_of, fault_at}}
use Rattle.nfs_compound.specs.{Request.{Request, Lists, HasBody, item_number}, ArgCodecs.protected}
use Rattle.nfs_compound.proofs.{OpNumLaws.op_between, GrammarLaws.some_answer}
use Rattle.nfs_results.specs.{Results.{refusal, head, spell_result}, Refusals.{may_return, tells, can_refuse}, Parts.{is_legal, parts}}
use Rattle.nfs_results.specs.{declared.res.Res.Res, ResultCodec.IsBounded, Largest.number_of, MayAnswer.MayAnswer, Items.{attr_set, exchange_id}, declared.res.ExchangeIdOk.ExchangeIdOk}
use Rattle.nfs_results.proofs.Lengths.{length_result, length_head, length_spelled, lengths}
use Rattle.nfs_xdr.proofs.Putting.{length_number}
use Rattle.nfs_clients.specs.{declared.destroy.DestroyFault.DestroyFault, declared.destroy.DestroyFault.TheVariants.{Stale, Busy}}
use Rattle.nfs_clients.specs.{DestroyClientId.destroy_status, ExchangeId.client_fault_status, declared.exchange_id.Exchanged.Exchanged}
use Rattle.nfs_clients.specs.declared.exchange_id.ClientFault.{ClientFault}
use Rattle.nfs_names.specs.ServerOwner.{IsOwner}
use Rattle.nfs_exec.specs.Step.Parts.{answered, granted_of}
use Rattle.nfs_exec.specs.Step.{Place.{stands_alone, is_sequence, status_behind, place_fault}, View.{CanBear, IsSmall, IsOpened}}

-- a status that every operation of the minor version can be refused with, with nothing behind it
abbrev IsCommon : Status → Type 0
IsCommon s = (eqb (status_number s) 0 ≡ false) × (eqb (status_number s) 10044 ≡ false) × (eqb (status_number s) 10010 ≡ false)

common_bears : (n : ℕ) (s : Status) → 3 ≤ n → n ≤ 58 → IsCommon s → IsTrue ((eqb n 34 && is_legal s) || can_refuse n s)
common_bears n s low high common = elim (cases_Bool (eqb n 34)) [
  | inl e ↦ rw (e, common.1) refl
  | inr e ↦ (
      let other : eqb n 10044 ≡ false = ne_eqb n 10044 (λ same. omega (arith, same)) in
      let untold : ((eqb n 12 || eqb n 13) && eqb (status_number s) 10010) ≡ false = and_right (eqb n 12 || eqb n 13) _ common.2 in
      rw (e, other, le-leb 3 n low, le-leb n 58 high, common.0, common.1, untold) refl
      )
]

pub op_bears : (op : Op) (s : Status) → IsCommon s → IsTrue ((eqb (number_of op) 34 && is_legal s) || can_refuse (number_of op) s)
op_bears op s common = let in_range = op_between (arguments op).op in common_bears (number_of op) s in_range.0 in_range.1 common

-- the number under which an operation is listed
number_listed : (ops : List OpNum) (n : ℕ) (op : OpNum) → listed_at op_number ops n ≡ Some op → n ≡ op_number op
number_listed [] n op e = absurd cc
number_listed (x ∷ xs) n op e = go (eqb n (op_number x)) refl e (λ there. number_listed xs n op there)
  where
    go : (b : Bool) → eqb n (op_number x) ≡ b → cond b (Some x) (listed_at op_number xs n) ≡ Some op →
        (listed_at op_number xs n ≡ Some op → n ≡ op_number op) → n ≡ op_number op
    go true at here further = let same : x ≡ op = cc in eqb-true n (op_number x) at ∙ ap op_number same
    go false at there further = further there

flaw_bears : (op : OpNum) (bytes : List ℕ) → IsTrue ((eqb (op_number op) 34 && is_legal (flaw op bytes)) || can_refuse (op_number op) (flaw op bytes))
flaw_bears ExchangeId bytes = protects (is_some (protected.read bytes))
  where
    protects : (b : Bool) → IsTrue ((eqb 42 34 && is_legal (cond b Inval BadXdr)) || can_refuse 42 (cond b Inval BadXdr))
    protects true = refl
    protects false = refl
flaw_bears op bytes = refl

by_number : (o : Option OpNum) (n : ℕ) (bytes : List ℕ) → op_num n ≡ o → CanBear (fault_of o n bytes)
by_number (Some op) n bytes e = subst (λ k. IsTrue ((eqb k 34 && is_legal (flaw op bytes)) || can_refuse k (flaw op bytes))) (sym (number_listed op_nums n op e)) (flaw_bears op bytes)
by_number None n bytes e = elim (cases_Bool (leb 3 n && leb n 58)) [
  | inl inside ↦ (
      let parts = and_parts (leb 3 n) (leb n 58) inside in
      rw inside (common_bears n NotSupp (leb-true 3 n parts.0) (leb-true n 58 parts.1) (refl, refl, refl))
      )
  | inr outside ↦ rw outside refl
]

pub fault_bears : (n : ℕ) (bytes : List ℕ) → CanBear (fault_at n bytes)
unfolding fault_at
fault_bears n bytes = by_number (op_num n) n bytes refl

listed_bears : (n : ℕ) (bytes : List ℕ) (item : Item) (more : List Item) → Lists n bytes (item ∷ more) → CanBear item
listed_bears zero bytes item more lists = absurd lists
listed_bears (suc n) bytes (Operation op) more lists = tt
listed_bears (suc n) bytes (Fault k s) [] fault =
    let told = some_answer fault.number fault.behind (Fault k s) fault.answers in subst CanBear (sym told.1) (fault_bears fault.number told.0)
listed_bears (suc n) bytes (Fault k s) (item ∷ more) lists = absurd lists

pub opened_bears : (r : Request) (item : Item) (more : List Item) → IsOpened r → r.minor ≡ 1 → r.left ≡ item ∷ more → CanBear item
opened_bears r item more opened one list =
    let body : HasBody 1 r.declared opened.request.body (item ∷ more) = subst (λ m. HasBody m r.declared opened.request.body (item ∷ more)) one
    (subst (λ items. HasBody r.minor r.declared opened.request.body items) list opened.request.items) in
    listed_bears r.declared opened.request.body item more body

-- SETATTR's refusal is no plain one
legal_of : (legal may_return : Bool) → legal || (may_return && false) ≡ true → legal ≡ true
legal_of true bears e = refl
legal_of false true e = absurd cc
legal_of false false e = absurd cc

-- a refusal that a reply can bear is bounded and short
pub refusal_small : (n : ℕ) (s : Status) → IsTrue ((eqb n 34 && is_legal s) || can_refuse n s) → IsSmall (refusal n s)
refusal_small n s can = elim (cases_Bool (eqb n 34)) [
  | inl e ↦ (
      let legal : is_legal s ≡ true = legal_of (is_legal s) (may_return n s)
      (subst (λ b. IsTrue ((b && is_legal s) || (may_return n s && not (b || ((eqb n 12 || eqb n 13) && eqb (status_number s) 10010))))) e can) in
      let may : MayAnswer (Fault n s) (Res.SetAttr s []) = (sym (eqb-true n 34 e), legal, omega arith) in
      rw e (may.1, λ arrays. length_result (Fault n s) (Res.SetAttr s []) arrays may)
      )
  | inr e ↦ (
      let plain : IsTrue (can_refuse n s) = subst (λ b. IsTrue ((b && is_legal s) || can_refuse n s)) e can in
      let may : MayAnswer (Fault n s) (Res.Refused n s) = (refl, plain, tt) in
      rw e (plain, λ arrays. length_result (Fault n s) (Res.Refused n s) arrays may)
      )
]

pub op_small : (op : Op) (s : Status) → IsCommon s → IsSmall (refusal (number_of op) s)
op_small op s common = refusal_small (number_of op) s (op_bears op s common)

pub not_only : (op : Op) → IsSmall (refusal (number_of op) NotOnlyOp)
not_only op = op_small op NotOnlyOp (refl, refl, refl)

pub not_supp : (op : Op) → IsSmall (refusal (number_of op) NotSupp)
not_supp op = op_small op NotSupp (refl, refl, refl)

pub not_in_session : (op : Op) → IsSmall (refusal (number_of op) OpNotInSession)
not_in_session op = op_small op OpNotInSession (refl, refl, refl)

exchange_small : (fault : ClientFault) → IsSmall (refusal 42 (client_fault_status fault))
exchange_small ClientFault.Inval = refusal_small 42 Inval refl
exchange_small ClientFault.NoEnt = refusal_small 42 NoEnt refl
exchange_small ClientFault.NotSame = refusal_small 42 NotSame refl
exchange_small ClientFault.Perm = refusal_small 42 Perm refl
exchange_small ClientFault.ClidInUse = refusal_small 42 ClidInUse refl
exchange_small ClientFault.ServerFault = refusal_small 42 ServerFault refl
exchange_small ClientFault.Memory = refusal_small 42 Delay refl

exchanged_behind : (r : ExchangeIdOk) → length r.major_id ≤ 1024 → length r.server_scope ≤ 1024 → 8 + length (parts (Res.ExchangeId r)).behind ≤ 2096
unfolding exchange_id
exchanged_behind r major scope = simp lengths (omega (arith, major, scope))

-- what an EXCHANGE_ID comes to is bounded, and no longer than with the longest name
pub exchanged_bounded : (name : List ℕ) (x : Result Exchanged ClientFault) → IsOwner name → IsBounded (answered name x)
exchanged_bounded name (Ok x) is = (is.1, is.1)
exchanged_bounded name (Err fault) is = (exchange_small fault).0

pub exchanged_long : (name : List ℕ) (x : Result Exchanged ClientFault) → IsOwner name → length (spell_result (answered name x)) ≤ 2096
exchanged_long name (Ok x) is =
    omega (arith, exchanged_behind (granted_of name x) is.1 is.1, length_spelled (Res.ExchangeId (granted_of name x)))
exchanged_long name (Err fault) is = (let long = (exchange_small fault).1 tt in omega (arith, long))

-- the status that the first place refuses an item with is one that a reply can bear
pub place_small : (i : Item) (declared : ℕ) (s : Status) → CanBear i → place_fault declared i ≡ Some s → IsSmall (refusal (item_number i) s)
place_small (Fault n t) declared s bears e = let same : t ≡ s = cc in subst (λ u. IsSmall (refusal n u)) same (refusal_small n t bears)
place_small (Operation op) declared s bears e = go (stands_alone op && ltb 1 declared) (not (stands_alone op || is_sequence op)) e
  where
    go : (b c : Bool) → cond b (Some NotOnlyOp) (cond c (Some OpNotInSession) None) ≡ Some s → IsSmall (refusal (number_of op) s)
    go true c here = let same : NotOnlyOp ≡ s = cc in subst (λ u. IsSmall (refusal (number_of op) u)) same (not_only op)
    go false true here = let same : OpNotInSession ≡ s = cc in subst (λ u. IsSmall (refusal (number_of op) u)) same (not_in_session op)
    go false false here = absurd cc

-- an item that is not refused in its place is no fault
pub rest_small : (i : Item) (declared : ℕ) → place_fault declared i ≡ None → IsSmall (refusal (item_number i) NotSupp)
rest_small (Fault n t) declared e = absurd cc
rest_small (Operation op) declared e = not_supp op

-- every operation of the list that was opened can be answered, and the list is no longer than declared

in_first : (n : ℕ) (bytes : List ℕ) (i : Item) (items : List Item) → Lists n bytes items → In i items → CanBear i
in_first n bytes i [] lists there = absurd there
in_first n bytes i (first ∷ more) lists (inl here) = subst CanBear (sym here) (listed_bears n bytes first more lists)
in_first zero bytes i (first ∷ more) lists (inr there) = absurd lists
in_first (suc n) bytes i (Operation op ∷ more) lists (inr there) = in_first n lists.0 i more lists.3 there
in_first (suc n) bytes i (Fault k s ∷ []) lists (inr there) = absurd there
in_first (suc n) bytes i (Fault k s ∷ next ∷ more) lists (inr there) = absurd lists

few_listed : (n : ℕ) (bytes : List ℕ) (items : List Item) → Lists n bytes items → length items ≤ n
few_listed n bytes [] lists = omega arith
few_listed zero bytes (first ∷ more) lists = absurd lists
few_listed (suc n) bytes (Operation op ∷ more) lists = let rest = few_listed n lists.0 more lists.3 in omega arith
few_listed (suc n) bytes (Fault k s ∷ []) lists = omega arith
few_listed (suc n) bytes (Fault k s ∷ next ∷ more) lists = absurd lists

-- the whole list of an opened request of minor version 1
listed : (r : Request) → (opened : IsOpened r) → r.minor ≡ 1 → Lists r.declared opened.request.body r.left
listed r opened one = subst (λ m. HasBody m r.declared opened.request.body r.left) one opened.request.items

pub opened_all : (r : Request) → IsOpened r → r.minor ≡ 1 → (i : Item) → In i r.left → CanBear i
opened_all r opened one i there = in_first r.declared opened.request.body i r.left (listed r opened one) there

pub opened_few : (r : Request) → IsOpened r → r.minor ≡ 1 → length r.left ≤ r.declared
opened_few r opened one = few_listed r.declared opened.request.body r.left (listed r opened one)

pub done_small : IsSmall Res.DestroyClientId
done_small = (tt, λ arrays. length_result (Operation (Op.DestroyClientId 0)) Res.DestroyClientId arrays (refl, tt, tt))

pub session_done_small : IsSmall Res.DestroySession
session_done_small = (tt, λ arrays. length_result (Operation (Op.DestroySession [])) Res.DestroySession arrays (refl, tt, tt))

pub destroy_session_small : IsSmall (refusal 44 BadSession)
destroy_session_small = op_small (Op.DestroySession []) BadSession (refl, refl, refl)

pub destroy_client_small : (fault : DestroyFault) → IsSmall (refusal 57 (destroy_status fault))
destroy_client_small Stale = op_small (Op.DestroyClientId 0) StaleClientId (refl, refl, refl)
destroy_client_small Busy = op_small (Op.DestroyClientId 0) ClientIdBusy (refl, refl, refl)

-- what an item behind a SEQUENCE is refused with

fault_too_big : (n : ℕ) (s : Status) → IsTrue ((eqb n 34 && is_legal s) || can_refuse n s)
    → IsTrue ((eqb n 34 && is_legal RepTooBig) || can_refuse n RepTooBig)
fault_too_big n s can = elim (cases_Bool (eqb n 34)) [
  | inl e ↦ rw e refl
  | inr e ↦ elim (cases_Bool (eqb n 10044)) [
    | inl illegal ↦ rw (eqb-true n 10044 illegal) refl
    | inr other ↦ (
        let plain : IsTrue (can_refuse n s) = subst (λ b. IsTrue ((b && is_legal s) || can_refuse n s)) e can in
        let parts = and_parts (may_return n s) (not (tells n s)) plain in
        let inside = and_parts (leb 3 n && leb n 58) _ (rw other at parts.0) in
        let range = and_parts (leb 3 n) (leb n 58) inside.0 in
        common_bears n RepTooBig (leb-true 3 n range.0) (leb-true n 58 range.1) (refl, refl, refl)
        )
  ]
]

pub behind_bears : (i : Item) (big : Bool) → CanBear i
    → IsTrue ((eqb (item_number i) 34 && is_legal (cond big RepTooBig (status_behind i)))
    || can_refuse (item_number i) (cond big RepTooBig (status_behind i)))
behind_bears (Fault n s) true bears = fault_too_big n s bears
behind_bears (Fault n s) false bears = bears
behind_bears (Operation op) true bears = op_bears op RepTooBig (refl, refl, refl)
behind_bears (Operation (Op.Sequence s)) false bears = op_bears (Op.Sequence s) SequencePos (refl, refl, refl)
behind_bears (Operation op) false bears = refl

pub refusal_bounded : (n : ℕ) (s : Status) → IsTrue ((eqb n 34 && is_legal s) || can_refuse n s) → IsBounded (refusal n s)
refusal_bounded n s can = (refusal_small n s can).0

length_no_attrs : length (attr_set.spell []) ≡ 4
unfolding attr_set
length_no_attrs = ap length (append-nil (number 0)) ∙ length_number 0

pub refusal_short : (n : ℕ) (s : Status) → length (spell_result (refusal n s)) ≤ 12
refusal_short n s = elim (cases_Bool (eqb n 34)) [
  | inl e ↦ rw e (omega (arith, length-append (head 34 s) (attr_set.spell []), length_head 34 s, length_no_attrs))
  | inr e ↦ rw e (omega (arith, length-append (head n s) [], length_head n s))
]
