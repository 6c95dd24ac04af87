-- The table of results is a codec.
use Rattle.std.proofs.Common.{◌≡◌, ℕ, ◌^◌, ◌<◌, Bool, true, false, not, eqb, leb, cond, ◌&&◌, ◌||◌, List, [], ◌++◌, Option, Some, None, refl, sym, ap}
use Rattle.std.proofs.{Common.{◌∙◌, append_assoc, append-nil, arith, inl, inr}, lemmas.Bool.{eqb-true, leb-true, and_parts, false≢true}}
use Rattle.std.proofs.lemmas.Option.{same_Some}
use Rattle.nfs_xdr.specs.Spelling as spelling
use Rattle.nfs_xdr.specs.{Reading.{◌>>=◌, number_at}, declared.status.Status.Status, declared.status.Status.TheVariants.{Nfs4Ok, Denied}, Status.status_number}
use Rattle.nfs_xdr.specs.{StatusCodec.{status_of, status}, Codec.{Codec, opaque, unbounded, arm}, Text.IsBytes, Lawful.IsCodec, Combinators.fixed}
use Rattle.nfs_xdr.proofs.CodecLaws.{bind_some, test_some, chosen, taken_at, arm_takes, is_number, is_fixed, is_opaque, is_unbounded}
use Rattle.nfs_xdr.proofs.{StatusLaws.{is_status, is_status_listing}, WordLaws.listed_number}
use Rattle.nfs_compound.specs.{declared.op_num.OpNum.OpNum, OpNum.{op_number, op_nums, op_num}, Stateid.stateid}
use Rattle.nfs_compound.specs.declared.op_num.OpNum.TheVariants as Num
use Rattle.nfs_compound.proofs.ItemLaws.{is_stateid}
use Rattle.nfs_results.specs.Items as item
use Rattle.nfs_results.specs.{Listing.read_dir, declared.res.Res.Res, Results.{head, spell_result}, Refusals.{may_return, tells, can_refuse}, Parts.is_legal}
use Rattle.nfs_results.specs.ResultCodec.{FitsResult, done_at, done_by, refused_at, read_behind, result}
use Rattle.nfs_results.proofs.ItemLaws.{is_attr_set, is_fattr, is_change_info, is_access, is_create, is_denied, is_open_ok, is_read_ok, is_read_dir, is_rename}
use Rattle.nfs_results.proofs.ItemLaws.{is_write_ok, is_exchange_id, is_create_session, is_flavors, is_sequence, is_status_codes}

-- a status is known by its number
pub same_status : (s t : Status) → status_number s ≡ status_number t → s ≡ t
same_status s t e = same_Some s t (sym (is_status_listing.found s) ∙ ap status_of e ∙ is_status_listing.found t)

abbrev Taken : List ℕ → Res → List ℕ → Type 0
Taken bytes y rest = (bytes ≡ spell_result y ++ rest) × IsBytes rest × FitsResult y

-- An operation that was done: what is read behind its head is spelled so, and what is spelled so is read.
record IsDone (op : OpNum) : Type 0 where
  pub takes : (left : List ℕ) (y : Res) (rest : List ℕ) → IsBytes left → done_at op left ≡ Some (y, rest) → Taken (head (op_number op) Nfs4Ok ++ left) y rest

is_told : {A : Type 0} (op : OpNum) (make : A → Res) (c : Codec A) → IsCodec c
    → ((left : List ℕ) → done_at op left ≡ arm make c left) → ((x : A) → spell_result (make x) ≡ head (op_number op) Nfs4Ok ++ c.spell x)
    → ((x : A) → c.Fits x → FitsResult (make x)) → IsDone op
is_told op make c p reads spells fit = record {
  takes = λ left y rest f e. arm_takes c result make (head (op_number op) Nfs4Ok) p spells fit
      (head (op_number op) Nfs4Ok ++ left) left y rest refl f (sym (reads left) ∙ e);
}

is_alone : (op : OpNum) (x : Res) → ((left : List ℕ) → done_at op left ≡ Some (x, left))
    → spell_result x ≡ head (op_number op) Nfs4Ok ++ [] → FitsResult x → IsDone op
is_alone op x reads spells fit = record {
  takes = λ left y rest f e.
      taken_at result (head (op_number op) Nfs4Ok ++ left) x y left rest (sym (reads left) ∙ e)
      (ap (λ (w : List ℕ). w ++ left) (sym (spells ∙ append-nil (head (op_number op) Nfs4Ok))), f, fit);
}

-- one line an operation
all_done : (op : OpNum) → IsDone op
unfolding done_at
all_done Num.Access = is_told Num.Access Res.Access item.access is_access (λ _. refl) (λ _. refl) (λ _ fits. fits)
all_done Num.Close = is_told Num.Close Res.Close stateid is_stateid (λ _. refl) (λ _. refl) (λ _ fits. fits)
all_done Num.Commit = is_told Num.Commit Res.Commit (fixed 8) (is_fixed 8) (λ _. refl) (λ _. refl) (λ _ fits. fits)
all_done Num.Create = is_told Num.Create Res.Create item.create is_create (λ _. refl) (λ _. refl) (λ _ fits. fits)
all_done Num.GetAttr = is_told Num.GetAttr Res.GetAttr item.fattr is_fattr (λ _. refl) (λ _. refl) (λ _ fits. fits)
all_done Num.GetFh = is_told Num.GetFh Res.GetFh (opaque 128) (is_opaque 128 (omega arith)) (λ _. refl) (λ _. refl) (λ _ fits. fits)
all_done Num.Link = is_told Num.Link Res.Link item.change_info is_change_info (λ _. refl) (λ _. refl) (λ _ fits. fits)
all_done Num.Lock = is_told Num.Lock Res.Lock stateid is_stateid (λ _. refl) (λ _. refl) (λ _ fits. fits)
all_done Num.LockT = is_alone Num.LockT Res.LockT (λ _. refl) refl tt
all_done Num.LockU = is_told Num.LockU Res.LockU stateid is_stateid (λ _. refl) (λ _. refl) (λ _ fits. fits)
all_done Num.Lookup = is_alone Num.Lookup Res.Lookup (λ _. refl) refl tt
all_done Num.LookupP = is_alone Num.LookupP Res.LookupP (λ _. refl) refl tt
all_done Num.NVerify = is_alone Num.NVerify Res.NVerify (λ _. refl) refl tt
all_done Num.Open = is_told Num.Open Res.Open item.open_ok is_open_ok (λ _. refl) (λ _. refl) (λ _ fits. fits)
all_done Num.OpenDowngrade = is_told Num.OpenDowngrade Res.OpenDowngrade stateid is_stateid (λ _. refl) (λ _. refl) (λ _ fits. fits)
all_done Num.PutFh = is_alone Num.PutFh Res.PutFh (λ _. refl) refl tt
all_done Num.PutPubFh = is_alone Num.PutPubFh Res.PutPubFh (λ _. refl) refl tt
all_done Num.PutRootFh = is_alone Num.PutRootFh Res.PutRootFh (λ _. refl) refl tt
all_done Num.Read = is_told Num.Read Res.Read item.read_ok is_read_ok (λ _. refl) (λ _. refl) (λ _ fits. fits)
all_done Num.ReadDir = is_told Num.ReadDir Res.ReadDir read_dir is_read_dir (λ _. refl) (λ _. refl) (λ _ fits. fits)
all_done Num.ReadLink = is_told Num.ReadLink Res.ReadLink unbounded is_unbounded (λ _. refl) (λ _. refl) (λ _ fits. fits)
all_done Num.Remove = is_told Num.Remove Res.Remove item.change_info is_change_info (λ _. refl) (λ _. refl) (λ _ fits. fits)
all_done Num.Rename = is_told Num.Rename Res.Rename item.rename is_rename (λ _. refl) (λ _. refl) (λ _ fits. fits)
all_done Num.RestoreFh = is_alone Num.RestoreFh Res.RestoreFh (λ _. refl) refl tt
all_done Num.SaveFh = is_alone Num.SaveFh Res.SaveFh (λ _. refl) refl tt
all_done Num.SetAttr = is_told Num.SetAttr (Res.SetAttr Nfs4Ok) item.attr_set is_attr_set (λ _. refl) (λ _. refl) (λ _ fits. (fits, refl))
all_done Num.Verify = is_alone Num.Verify Res.Verify (λ _. refl) refl tt
all_done Num.Write = is_told Num.Write Res.Write item.write_ok is_write_ok (λ _. refl) (λ _. refl) (λ _ fits. fits)
all_done Num.ExchangeId = is_told Num.ExchangeId Res.ExchangeId item.exchange_id is_exchange_id (λ _. refl) (λ _. refl) (λ _ fits. fits)
all_done Num.CreateSession = is_told Num.CreateSession Res.CreateSession item.create_session is_create_session (λ _. refl) (λ _. refl) (λ _ fits. fits)
all_done Num.DestroySession = is_alone Num.DestroySession Res.DestroySession (λ _. refl) refl tt
all_done Num.FreeStateid = is_alone Num.FreeStateid Res.FreeStateid (λ _. refl) refl tt
all_done Num.SecinfoNoName = is_told Num.SecinfoNoName Res.SecinfoNoName item.flavors is_flavors (λ _. refl) (λ _. refl) (λ _ fits. fits)
all_done Num.Sequence = is_told Num.Sequence Res.Sequence item.sequence is_sequence (λ _. refl) (λ _. refl) (λ _ fits. fits)
all_done Num.TestStateid = is_told Num.TestStateid Res.TestStateid item.status_codes is_status_codes (λ _. refl) (λ _. refl) (λ _ fits. fits)
all_done Num.DestroyClientId = is_alone Num.DestroyClientId Res.DestroyClientId (λ _. refl) refl tt
all_done Num.ReclaimComplete = is_alone Num.ReclaimComplete Res.ReclaimComplete (λ _. refl) refl tt

-- the same behind a number that names an operation
by_takes : (operation : ℕ) (op : Option OpNum) (left : List ℕ) (y : Res) (rest : List ℕ) → op_num operation ≡ op
    → IsBytes left → done_by op left ≡ Some (y, rest) → Taken (head operation Nfs4Ok ++ left) y rest
by_takes operation None left y rest is f e = absurd cc
by_takes operation (Some op) left y rest is f e =
    let t = (all_done op).takes left y rest f e in
    (ap (λ (k : ℕ). head k Nfs4Ok ++ left) (listed_number op_number op_nums operation op is) ∙ t.0, t.1, t.2)

-- An operation that was refused.
refused_takes : (operation : ℕ) (s : Status) (left : List ℕ) (y : Res) (rest : List ℕ) → IsBytes left
    → refused_at operation s left ≡ Some (y, rest) → Taken (head operation s ++ left) y rest
unfolding refused_at
refused_takes operation s left y rest f e =
    elim (chosen (eqb operation 34 && is_legal s) (arm (Res.SetAttr s) item.attr_set left) _ (Some (y, rest)) e) [
      | inl q ↦
          let is = and_parts (eqb operation 34) (is_legal s) q.0 in
          let t = arm_takes item.attr_set result (Res.SetAttr s) (head 34 s) is_attr_set
          (λ _. refl) (λ _ fits. (fits, is.1)) (head 34 s ++ left) left y rest refl f q.1 in
          (ap (λ (k : ℕ). head k s ++ left) (eqb-true operation 34 is.0) ∙ t.0, t.1, t.2)
      | inr q ↦
          elim (chosen (eqb operation 12 && eqb (status_number s) 10010) (arm Res.LockDenied item.denied left) _ (Some (y, rest)) q.1) [
            | inl r ↦
                let is = and_parts (eqb operation 12) (eqb (status_number s) 10010) r.0 in
                let t = arm_takes item.denied result Res.LockDenied (head 12 Denied) is_denied
                (λ _. refl) (λ _ fits. fits) (head 12 Denied ++ left) left y rest refl f r.1 in
                (told 12 is.0 is.1 ∙ t.0, t.1, t.2)
            | inr r ↦
                elim (chosen (eqb operation 13 && eqb (status_number s) 10010) (arm Res.LockTDenied item.denied left) _ (Some (y, rest)) r.1) [
                  | inl u ↦
                      let is = and_parts (eqb operation 13) (eqb (status_number s) 10010) u.0 in
                      let t = arm_takes item.denied result Res.LockTDenied (head 13 Denied) is_denied
                      (λ _. refl) (λ _ fits. fits) (head 13 Denied ++ left) left y rest refl f u.1 in
                      (told 13 is.0 is.1 ∙ t.0, t.1, t.2)
                  | inr u ↦
                      let g = test_some (can_refuse operation s) (Some (Res.Refused operation s, left)) (y, rest) u.1 in
                      taken_at result (head operation s ++ left) (Res.Refused operation s) y left rest g.1
                      (ap (λ (w : List ℕ). w ++ left) (sym (append-nil (head operation s))), f, g.0)
                ]
          ]
    ]
  where
    told : (k : ℕ) → eqb operation k ≡ true → eqb (status_number s) 10010 ≡ true → head operation s ++ left ≡ head k Denied ++ left
    told k same denied = ap (λ (n : ℕ). head n s ++ left) (eqb-true operation k same)
        ∙ ap (λ (t : Status). head k t ++ left) (same_status s Denied (eqb-true (status_number s) 10010 denied))

behind_takes : (operation : ℕ) (s : Status) (left : List ℕ) (y : Res) (rest : List ℕ)
    → IsBytes left → read_behind operation s left ≡ Some (y, rest) → Taken (head operation s ++ left) y rest
behind_takes operation s left y rest f e =
    elim (chosen (eqb (status_number s) 0) (done_by (op_num operation) left) (refused_at operation s left) (Some (y, rest)) e) [
      | inl q ↦
          let t = by_takes operation (op_num operation) left y rest refl f q.1 in
          (ap (λ (t : Status). head operation t ++ left) (same_status s Nfs4Ok (eqb-true (status_number s) 0 q.0)) ∙ t.0, t.1, t.2)
      | inr q ↦ refused_takes operation s left y rest f q.1
    ]

-- what stands behind a head is what is read there
behind_head : (operation : ℕ) (s : Status) (left : List ℕ) → operation < 2 ^ 32 → result.read (head operation s ++ left) ≡ read_behind operation s left
behind_head operation s left small =
    ap result.read (append_assoc (spelling.number operation) (spelling.number (status_number s)) left)
    ∙ rw (is_number.again operation (spelling.number (status_number s) ++ left) small, is_status.again s left tt) refl

told_again : {A : Type 0} (operation : ℕ) (s : Status) (make : A → Res) (c : Codec A) → IsCodec c → operation < 2 ^ 32
    → (x : A) (rest : List ℕ) → c.Fits x → ((left : List ℕ) → read_behind operation s left ≡ arm make c left)
    → spell_result (make x) ≡ head operation s ++ c.spell x → result.read (spell_result (make x) ++ rest) ≡ Some (make x, rest)
told_again operation s make c p small x rest fits reads spells =
    ap (λ (w : List ℕ). result.read (w ++ rest)) spells
    ∙ ap result.read (append_assoc (head operation s) (c.spell x) rest)
    ∙ behind_head operation s (c.spell x ++ rest) small
    ∙ reads (c.spell x ++ rest)
    ∙ rw (p.again x rest fits) refl

alone_again : (operation : ℕ) (s : Status) (x : Res) (rest : List ℕ) → operation < 2 ^ 32 → read_behind operation s rest ≡ Some (x, rest)
    → spell_result x ≡ head operation s ++ [] → result.read (spell_result x ++ rest) ≡ Some (x, rest)
alone_again operation s x rest small reads spells =
    ap (λ (w : List ℕ). result.read (w ++ rest)) (spells ∙ append-nil (head operation s)) ∙ behind_head operation s rest small ∙ reads

-- the tests of a refusal with nothing behind it, in their order
passes : {A : Type 0} (bears set legal lock test denied : Bool) (x y z w v : A) → bears && not (set || ((lock || test) && denied)) ≡ true
    → cond (set && legal) x (cond (lock && denied) y (cond (test && denied) z (cond (bears && not (set || ((lock || test) && denied))) w v))) ≡ w
passes true true legal lock test denied x y z w v e = absurd (false≢true e)
passes true false legal true test true x y z w v e = absurd (false≢true e)
passes true false legal true true false x y z w v e = refl
passes true false legal true false false x y z w v e = refl
passes true false legal false true true x y z w v e = absurd (false≢true e)
passes true false legal false true false x y z w v e = refl
passes true false legal false false denied x y z w v e = refl
passes false set legal lock test denied x y z w v e = absurd (false≢true e)

bears_some : (b : Bool) (operation code : ℕ) → eqb operation 10044 ≡ b
    → cond b (eqb code 10044 || eqb code 10066) (leb 3 operation && leb operation 58 && not (eqb code 0 || eqb code 10044)) ≡ true
    → (operation < 2 ^ 32) × (eqb code 0 ≡ false)
bears_some true operation code is e = (omega (arith, eqb-true operation 10044 is), either (eqb code 10044) (eqb code 10066) refl refl e)
  where
    either : (b c : Bool) → eqb code 10044 ≡ b → eqb code 10066 ≡ c → b || c ≡ true → eqb code 0 ≡ false
    either true c f g h = rw (eqb-true code 10044 f) refl
    either false true f g h = rw (eqb-true code 10066 g) refl
    either false false f g h = absurd (false≢true h)
bears_some false operation code is e =
    let p = and_parts (leb 3 operation && leb operation 58) (not (eqb code 0 || eqb code 10044)) e in
    let q = and_parts (leb 3 operation) (leb operation 58) p.0 in
    (omega (arith, leb-true operation 58 q.1), neither (eqb code 0) (eqb code 10044) p.1)
  where
    neither : (b c : Bool) → not (b || c) ≡ true → b ≡ false
    neither true c h = absurd (false≢true h)
    neither false c h = refl

refused_again : (operation : ℕ) (s : Status) (rest : List ℕ) → can_refuse operation s ≡ true
    → result.read (spell_result (Res.Refused operation s) ++ rest) ≡ Some (Res.Refused operation s, rest)
unfolding refused_at
refused_again operation s rest fits =
    let b = bears_some (eqb operation 10044) operation (status_number s) refl (and_parts (may_return operation s) (not (tells operation s)) fits).0 in
    let refuses : refused_at operation s rest ≡ Some (Res.Refused operation s, rest) =
    passes (may_return operation s) (eqb operation 34) (is_legal s) (eqb operation 12) (eqb operation 13) (eqb (status_number s) 10010) _ _ _ _ None fits in
    alone_again operation s (Res.Refused operation s) rest b.0
    (ap (λ (ok : Bool). cond ok (done_by (op_num operation) rest) (refused_at operation s rest)) b.1 ∙ refuses) refl

-- SETATTR reports what was set with every status that it can have
set_behind : (b : Bool) (s : Status) (left : List ℕ) → eqb (status_number s) 0 ≡ b → is_legal s ≡ true
    → read_behind 34 s left ≡ arm (Res.SetAttr s) item.attr_set left
unfolding done_at refused_at
set_behind true s left is legal = rw (same_status s Nfs4Ok (eqb-true (status_number s) 0 is)) refl
set_behind false s left is legal = rw (is, legal) refl

-- one line a result
result_again : (y : Res) (rest : List ℕ) → FitsResult y → result.read (spell_result y ++ rest) ≡ Some (y, rest)
unfolding done_at refused_at
result_again (Res.Access x) rest fits = told_again 3 Nfs4Ok Res.Access item.access is_access (omega arith) x rest fits (λ _. refl) refl
result_again (Res.Close x) rest fits = told_again 4 Nfs4Ok Res.Close stateid is_stateid (omega arith) x rest fits (λ _. refl) refl
result_again (Res.Commit x) rest fits = told_again 5 Nfs4Ok Res.Commit (fixed 8) (is_fixed 8) (omega arith) x rest fits (λ _. refl) refl
result_again (Res.Create x) rest fits = told_again 6 Nfs4Ok Res.Create item.create is_create (omega arith) x rest fits (λ _. refl) refl
result_again (Res.GetAttr x) rest fits = told_again 9 Nfs4Ok Res.GetAttr item.fattr is_fattr (omega arith) x rest fits (λ _. refl) refl
result_again (Res.GetFh x) rest fits = told_again 10 Nfs4Ok Res.GetFh (opaque 128) (is_opaque 128 (omega arith)) (omega arith) x rest fits (λ _. refl) refl
result_again (Res.Link x) rest fits = told_again 11 Nfs4Ok Res.Link item.change_info is_change_info (omega arith) x rest fits (λ _. refl) refl
result_again (Res.Lock x) rest fits = told_again 12 Nfs4Ok Res.Lock stateid is_stateid (omega arith) x rest fits (λ _. refl) refl
result_again (Res.LockDenied x) rest fits = told_again 12 Denied Res.LockDenied item.denied is_denied (omega arith) x rest fits (λ _. refl) refl
result_again Res.LockT rest fits = alone_again 13 Nfs4Ok Res.LockT rest (omega arith) refl refl
result_again (Res.LockTDenied x) rest fits = told_again 13 Denied Res.LockTDenied item.denied is_denied (omega arith) x rest fits (λ _. refl) refl
result_again (Res.LockU x) rest fits = told_again 14 Nfs4Ok Res.LockU stateid is_stateid (omega arith) x rest fits (λ _. refl) refl
result_again Res.Lookup rest fits = alone_again 15 Nfs4Ok Res.Lookup rest (omega arith) refl refl
result_again Res.LookupP rest fits = alone_again 16 Nfs4Ok Res.LookupP rest (omega arith) refl refl
result_again Res.NVerify rest fits = alone_again 17 Nfs4Ok Res.NVerify rest (omega arith) refl refl
result_again (Res.Open x) rest fits = told_again 18 Nfs4Ok Res.Open item.open_ok is_open_ok (omega arith) x rest fits (λ _. refl) refl
result_again (Res.OpenDowngrade x) rest fits = told_again 21 Nfs4Ok Res.OpenDowngrade stateid is_stateid (omega arith) x rest fits (λ _. refl) refl
result_again Res.PutFh rest fits = alone_again 22 Nfs4Ok Res.PutFh rest (omega arith) refl refl
result_again Res.PutPubFh rest fits = alone_again 23 Nfs4Ok Res.PutPubFh rest (omega arith) refl refl
result_again Res.PutRootFh rest fits = alone_again 24 Nfs4Ok Res.PutRootFh rest (omega arith) refl refl
result_again (Res.Read x) rest fits = told_again 25 Nfs4Ok Res.Read item.read_ok is_read_ok (omega arith) x rest fits (λ _. refl) refl
result_again (Res.ReadDir x) rest fits = told_again 26 Nfs4Ok Res.ReadDir read_dir is_read_dir (omega arith) x rest fits (λ _. refl) refl
result_again (Res.ReadLink x) rest fits = told_again 27 Nfs4Ok Res.ReadLink unbounded is_unbounded (omega arith) x rest fits (λ _. refl) refl
result_again (Res.Remove x) rest fits = told_again 28 Nfs4Ok Res.Remove item.change_info is_change_info (omega arith) x rest fits (λ _. refl) refl
result_again (Res.Rename x) rest fits = told_again 29 Nfs4Ok Res.Rename item.rename is_rename (omega arith) x rest fits (λ _. refl) refl
result_again Res.RestoreFh rest fits = alone_again 31 Nfs4Ok Res.RestoreFh rest (omega arith) refl refl
result_again Res.SaveFh rest fits = alone_again 32 Nfs4Ok Res.SaveFh rest (omega arith) refl refl
result_again (Res.SetAttr s x) rest (fits, legal) =
    told_again 34 s (Res.SetAttr s) item.attr_set is_attr_set (omega arith) x rest fits (λ left. set_behind (eqb (status_number s) 0) s left refl legal) refl
result_again Res.Verify rest fits = alone_again 37 Nfs4Ok Res.Verify rest (omega arith) refl refl
result_again (Res.Write x) rest fits = told_again 38 Nfs4Ok Res.Write item.write_ok is_write_ok (omega arith) x rest fits (λ _. refl) refl
result_again (Res.ExchangeId x) rest fits = told_again 42 Nfs4Ok Res.ExchangeId item.exchange_id is_exchange_id (omega arith) x rest fits (λ _. refl) refl
result_again (Res.CreateSession x) rest fits =
    told_again 43 Nfs4Ok Res.CreateSession item.create_session is_create_session (omega arith) x rest fits (λ _. refl) refl
result_again Res.DestroySession rest fits = alone_again 44 Nfs4Ok Res.DestroySession rest (omega arith) refl refl
result_again Res.FreeStateid rest fits = alone_again 45 Nfs4Ok Res.FreeStateid rest (omega arith) refl refl
result_again (Res.SecinfoNoName x) rest fits = told_again 52 Nfs4Ok Res.SecinfoNoName item.flavors is_flavors (omega arith) x rest fits (λ _. refl) refl
result_again (Res.Sequence x) rest fits = told_again 53 Nfs4Ok Res.Sequence item.sequence is_sequence (omega arith) x rest fits (λ _. refl) refl
result_again (Res.TestStateid x) rest fits = told_again 55 Nfs4Ok Res.TestStateid item.status_codes is_status_codes (omega arith) x rest fits (λ _. refl) refl
result_again Res.DestroyClientId rest fits = alone_again 57 Nfs4Ok Res.DestroyClientId rest (omega arith) refl refl
result_again Res.ReclaimComplete rest fits = alone_again 58 Nfs4Ok Res.ReclaimComplete rest (omega arith) refl refl
result_again (Res.Refused operation s) rest fits = refused_again operation s rest fits

pub is_result : IsCodec result
is_result = record {
  takes = λ bytes y rest fits e.
      let s = bind_some (number_at bytes) (λ operation. status.read operation.1 >>= λ code. read_behind operation.0 code.0 code.1) (y, rest) e in
      let t = bind_some (status.read s.0.1) (λ code. read_behind s.0.0 code.0 code.1) (y, rest) s.2 in
      let first = is_number.takes bytes s.0.0 s.0.1 fits s.1 in
      let second = is_status.takes s.0.1 t.0.0 t.0.1 first.1 t.1 in
      let third = behind_takes s.0.0 t.0.0 t.0.1 y rest second.1 t.2 in (
        first.0 ∙ ap (λ (w : List ℕ). spelling.number s.0.0 ++ w) second.0
            ∙ sym (append_assoc (spelling.number s.0.0) (spelling.number (status_number t.0.0)) t.0.1) ∙ third.0,
        third.1,
        third.2,
      );
  again = result_again;
}
