-- What runs on a slot is answered with a good SEQUENCE, which bears the slot and the number of the call: so its caller may accept it.
use Rattle.std.proofs.Common.{◌≡◌, inl, inr, ℕ, ◌<◌, ◌^◌, zero, suc, List, [], ◌∷◌, ◌++◌, Option, Some, None, ◌∙◌, ap, subst, append_assoc}
use Rattle.std.proofs.lemmas.Bool.{cases_Bool, eqb-true}
use Rattle.std.specs.Prelude.{◌==◌}
use Rattle.nfs_xdr.specs.Spelling as spelling
use Rattle.nfs_xdr.specs.{Limits.opaque_limit, Codec.{number, opaque}, Caller.Caller, Status.status_number}
use Rattle.nfs_xdr.proofs.StatusLaws.{is_status_listing}
use Rattle.nfs_compound.specs.{declared.channel_attrs.ChannelAttrs.ChannelAttrs, declared.op.Item.Item, declared.op.Item.TheVariants.Operation, Request.{Request, Lists, HasBody, IsRequest}}
use Rattle.nfs_compound.specs.declared.session_args.Sequence.{Sequence}
use Rattle.nfs_compound.specs.declared.op.Op.TheVariants as Op
use Rattle.nfs_results.specs.Items as results
use Rattle.nfs_sessions.specs.Id.{id_of}
use Rattle.nfs_exec.specs.Step.{Machine.Machine, Sequence.{Sequenced, Refuses, Repeats, Runs, sequence_ok}, Run.behind_here}
use Rattle.nfs_exec.specs.Step.{Compound.{renewed, in_session, by_first, compound}, Laws.{if_runs, first_runs}, Executing.{first_sequence, sequence_of}}
use Rattle.nfs_exec.specs.Step.Sequence as sequence
use Rattle.nfs_promises.specs.Network.ThisServer.{Bears}
use Rattle.nfs_promises.proofs.Network.{ReplyReading.sequence_front, ThisServer.bears_spelled}
use Rattle.nfs_exec.proofs.{Runs.SessionsBehind.ran_in, Step.Terms.run_in}

nested_sequence : (id n slot more rest : List ℕ) → (id ++ (n ++ (slot ++ more))) ++ rest ≡ id ++ (n ++ (slot ++ (more ++ rest)))
nested_sequence id n slot more rest =
    append_assoc id (n ++ (slot ++ more)) rest
    ∙ ap (λ (w : List ℕ). id ++ w) (append_assoc n (slot ++ more) rest ∙ ap (λ (w : List ℕ). n ++ w) (append_assoc slot more rest))

-- The text of a compound that runs on a slot: a status, its tag and a count, and behind them SEQUENCE's result, which begins with the session,
-- the number and the slot of the call.
pub record IsAnswered (tag : List ℕ) (q : Sequence) (text : List ℕ) : Type 0 where
  pub status : ℕ
  pub count : ℕ
  pub rest : List ℕ
  pub small : status < 2 ^ 32
  pub is : text ≡ (spelling.number status ++ (spelling.opaque tag ++ spelling.number count))
      ++ ((spelling.number 53 ++ spelling.number 0) ++ (spelling.fixed q.sessionid ++ (spelling.number q.sequenceid ++ (spelling.number q.slotid ++ rest))))

answered : (m : Machine) (r : Request) (who : Caller) (now : ℕ) (choice : Option ℕ) (q : Sequence) (more : List Item) (c : ChannelAttrs)
    → IsAnswered r.tag q (in_session m r who now choice q more (Runs c)).text
unfolding results.sequence
answered m r who now choice q more c =
    let rest = run_in (renewed m now q) r who now (behind_here choice) q c more in
    let ok = sequence_ok q c in
    let others = spelling.number ok.highest_slotid ++ (spelling.number ok.target_highest_slotid ++ spelling.number ok.status_flags) in
    let body = spelling.fixed q.sessionid ++ (spelling.number q.sequenceid ++ (spelling.number q.slotid ++ others)) in
    let head = spelling.number (status_number rest.status) ++ (spelling.opaque r.tag ++ spelling.number (suc rest.count)) in
    record {
      status = status_number rest.status;
      count = suc rest.count;
      rest = others ++ rest.results;
      small = is_status_listing.small rest.status;
      is = ap (λ (w : List ℕ). head ++ w) (append_assoc (spelling.number 53 ++ spelling.number 0) body rest.results)
          ∙ ap (λ (w : List ℕ). head ++ ((spelling.number 53 ++ spelling.number 0) ++ w))
          (nested_sequence (spelling.fixed q.sessionid) (spelling.number q.sequenceid) (spelling.number q.slotid) others rest.results);
    }

answered_verdict : (m : Machine) (r : Request) (who : Caller) (now : ℕ) (choice : Option ℕ) (q s : Sequence) (more : List Item) (v : Sequenced)
    → if_runs q v ≡ Some s → IsAnswered r.tag s (in_session m r who now choice q more v).text
answered_verdict m r who now choice q s more (Refuses status) e = absurd cc
answered_verdict m r who now choice q s more (Repeats reply) e = absurd cc
answered_verdict m r who now choice q s more (Runs c) e = subst (λ (s : Sequence). IsAnswered r.tag s (in_session m r who now choice q more (Runs c)).text) same (answered m r who now choice q more c)
  where
    same : q ≡ s
    same = cc

answered_items : (m : Machine) (r : Request) (who : Caller) (size now : ℕ) (choice : Option ℕ) (s : Sequence) (items : List Item)
    → first_runs m r who size items ≡ Some s → IsAnswered r.tag s (by_first m r who size now choice items).text
answered_items m r who size now choice s [] e = absurd cc
answered_items m r who size now choice s (Operation (Op.Sequence q) ∷ more) e = answered_verdict m r who now choice q s more (sequence.sequenced m r who size q) e
answered_items m r who size now choice s (item ∷ more) e = absurd cc

pub answered_compound : (m : Machine) (r : Request) (who : Caller) (size now : ℕ) (choice : Option ℕ) (s : Sequence)
    → ran_in m r who size ≡ Some s → IsAnswered r.tag s (compound m r who size now choice).text
answered_compound m r who size now choice s e = elim (cases_Bool (r.minor == 1)) [
  | inl one ↦ rw one (answered_items m r who size now choice s r.left (rw one at e))
  | inr other ↦ absurd (let none : None ≡ Some s = rw other at e in cc)
]

-- and so it bears them
pub numbered_compound : (m : Machine) (r : Request) (who : Caller) (size now : ℕ) (choice : Option ℕ) (s : Sequence) → (opaque opaque_limit).Fits r.tag
    → sequence_front.Fits (s.sessionid, (s.sequenceid, s.slotid)) → ran_in m r who size ≡ Some s
    → Bears (compound m r who size now choice).text (record { place = record { session = id_of s.sessionid; slot = s.slotid }; number = s.sequenceid })
numbered_compound m r who size now choice s fits sequence_fits e =
    let a = answered_compound m r who size now choice s e in
    bears_spelled a.status a.count r.tag s.sessionid s.sequenceid s.slotid _ a.rest a.small fits sequence_fits a.is

-- the session, the number and the slot of a SEQUENCE that was read fit
first_fits : (n : ℕ) (body : List ℕ) (items : List Item) (q : Sequence) → first_sequence items ≡ Some q → Lists n body items → sequence_front.Fits (q.sessionid, (q.sequenceid, q.slotid))
first_fits n body [] q e is = absurd cc
first_fits zero body (Operation (Op.Sequence s) ∷ more) q e is = absurd is
first_fits (suc n) body (Operation (Op.Sequence s) ∷ more) q e is =
    let (rest, stands, (number, (session, (sequenceid, (slotid, others)))), listed) = is in
    let same : s ≡ q = cc in
    subst (λ (q : Sequence). sequence_front.Fits (q.sessionid, (q.sequenceid, q.slotid))) same (session, (sequenceid, slotid))
first_fits n body (item ∷ more) q e is = absurd cc

pub sequence_fits : (bytes : List ℕ) (r : Request) (q : Sequence) → IsRequest bytes r → sequence_of r ≡ Some q → sequence_front.Fits (q.sessionid, (q.sequenceid, q.slotid))
sequence_fits bytes r q is e = elim (cases_Bool (r.minor == 1)) [
  | inl one ↦ first_fits r.declared is.body r.left q (rw one at e) (subst (λ (minor : ℕ). HasBody minor r.declared is.body r.left) (eqb-true r.minor 1 one) is.items)
  | inr other ↦ absurd (let none : None ≡ Some q = rw other at e in cc)
]
