-- The run in which a lost reply is had again, computed.
use Rattle.std.proofs.{Common.{◌≡◌, ℕ, ◌≤◌, true, Option, Some, refl, sym, ◌∙◌, ap, subst, arith}, lemmas.Bool.leb-true}
use Rattle.std.specs.Option.{option_map_or}
use Rattle.nfs_rpc.specs.{CallHead.{Call, Called, Accepted, Refused, call_of}, Reply.spell_refusal}
use Rattle.nfs_compound.specs.Request.{Request}
use Rattle.nfs_slots.specs.Slot.{SlotState, unused_slot}
use Rattle.nfs_serve.specs.{Step.asked_of}
use Rattle.nfs_promises.specs.Network.{Endpoint.{Place, Heading}, ThisServer.ReplyReader, LostReply.{here, place, compound, answer}}
use Rattle.nfs_promises.specs.Network.AnsweredAgainWorked.{lost}
use Rattle.nfs_promises.specs.Network.AnsweredAgainWorked.{IsFreshThere, IsHadAgain, IsUnderItsXid}
use Rattle.nfs_promises.proofs.{Runs.Computing.computing, Network.{LostReply.is_bytes, ThisServer.{found, found_by}}}

-- what is on slot 0, or on none, is not on slot 1
other_slot : (o : Option Heading) (h : Heading) → option_map_or (λ (h : Heading). h.place.slot) o 0 ≡ 0 → o ≡ Some h → h.place ≡ place → ⊥
other_slot o h zero is on =
    let e : ◌≡◌ {A = ℕ} 0 1 = sym zero ∙ (ap (λ (o : Option Heading). option_map_or (λ (h : Heading). h.place.slot) o 0) is ∙ ap (λ (p : Place). p.slot) on) in
    omega arith

-- what slot 1 keeps of a compound
abbrev kept : ℕ → SlotState
kept number = record { number = number; used = true; uid = 5; args = (compound number).args; reply = (answer 0 number).result }

computed_again : IsHadAgain found
unfolding computing
computed_again = record {
  bytes = is_bytes _ refl;
  reads = refl;
  executes = refl;
  first = refl;
  elsewhere = (λ h reads does on. other_slot _ h refl reads on, (λ h reads does on. other_slot _ h refl reads on, tt));
  bytes_again = is_bytes _ refl;
  reads_again = refl;
  stands = record { slot = kept 2; here = refl; top = unused_slot; below = refl };
  answer = refl;
}

pub is_had_again : (reader : ReplyReader) → IsHadAgain reader.find
is_had_again reader = subst IsHadAgain (found_by reader) computed_again

-- how many operations it declares
abbrev declared_of : Called → ℕ
declared_of (Refused refusal) = 0
declared_of (Accepted call) = option_map_or (λ (r : Request). r.declared) (asked_of call call.procedure) 0

declares : declared_of (call_of lost.bytes) ≡ 1
unfolding computing
declares = refl

few : (call : Call) (r : Request) → call_of lost.bytes ≡ Accepted call → asked_of call call.procedure ≡ Some r → r.declared ≤ 8
few call r called asked =
    let one : 1 ≡ r.declared = sym declares ∙ (ap declared_of called ∙ ap (λ (o : Option Request). option_map_or (λ (r : Request). r.declared) o 0) asked) in
    omega arith

computed_fresh : IsFreshThere found
unfolding computing
computed_fresh = record {
  bytes = is_bytes _ refl;
  reads = refl;
  stands = record { slot = kept 1; here = refl; top = unused_slot; below = refl };
  next = refl;
  passes = record { session = _; there = refl; short = leb-true _ _ refl; few = few };
}

pub is_fresh_there : (reader : ReplyReader) → IsFreshThere reader.find
is_fresh_there reader = subst IsFreshThere (found_by reader) computed_fresh

pub is_under_its_xid : IsUnderItsXid
unfolding computing spell_refusal
is_under_its_xid = record { call = refl; refused = refl; reply = refl; silent = refl }
